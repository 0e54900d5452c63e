-- The members of a config that pinning looks at (OCI runtime-spec, config.md and config-linux.md).
use Rattle.std.specs.Prelude.{ℕ, List, Option, option_and_then, codes}
use Rattle.serde_json.specs.Data.{Data, Items}
use Rattle.serde_json.specs.Find.{as_array}
use Rattle.json_text.specs.Members.{member_of, inner_of}

-- the version of the specification that the config follows
abbrev pub version_of : Data → Option Data
version_of d = member_of (codes "ociVersion") d

-- the container's root filesystem
abbrev pub root_of : Data → Option Data
root_of d = member_of (codes "root") d

-- the path to it
abbrev pub root_path_of : Data → Option Data
root_path_of d = inner_of (codes "path") (root_of d)

-- the words of the container's process
abbrev pub args_of : Data → Option Items
args_of d = option_and_then as_array (inner_of (codes "args") (member_of (codes "process") d))

-- the part of the config for Linux
abbrev pub linux_of : Data → Option Data
linux_of d = member_of (codes "linux") d

-- its resources
abbrev pub resources_of : Data → Option Data
resources_of d = inner_of (codes "resources") (linux_of d)

-- the CPU section of the resources
abbrev pub cpu_of : Data → Option Data
cpu_of d = inner_of (codes "cpu") (resources_of d)

-- a member of the CPU section
abbrev pub cpu_member : List ℕ → Data → Option Data
cpu_member name d = inner_of name (cpu_of d)
