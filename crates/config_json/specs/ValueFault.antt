-- What is wrong with a JSON value as a config: the table of checks in their order, of which the first that fails decides.
-- From: OCI Runtime Specification 1.0.2, config.md and config-linux.md; the order is ours.
use Rattle.std.specs.Prelude.{Bool, true, Option, [], ◌∷◌, is_some, not, option_and_then, codes, if◌then◌else◌}
use Rattle.std.specs.Option.{option_map_or}
use Rattle.faults.specs.First.{first_of, when}
use Rattle.serde_json.specs.Data.{Data}
use Rattle.serde_json.specs.Find.{as_object, as_str}
use Rattle.config_json.specs.declared.fault.ConfigFault.{ConfigFault}
use Rattle.config_json.specs.declared.fault.ConfigFault.TheVariants.{NotObject}
use Rattle.config_json.specs.declared.field.Field.TheVariants.{OciVersion, Root, RootPath, Linux, Resources, Cpu, Quota, Period, Cpus, Mems}
use Rattle.config_json.specs.Members.{version_of, root_of, root_path_of, linux_of, resources_of, cpu_of, cpu_member}
use Rattle.json_text.specs.Numbers.{unsigned_of}
use Rattle.config_json.specs.Checks.{signed_of, missing_fault, kind_fault}
use Rattle.semver.specs.Parse.{version_parts}
use Rattle.config_json.specs.VersionFault.{version_fault_of, is_plain}

-- the version of the specification is not there, or is no text
abbrev pub version_kind_fault : Data → Option ConfigFault
version_kind_fault d = first_of (missing_fault OciVersion (version_of d) ∷ kind_fault OciVersion as_str (version_of d) ∷ [])

-- the version of the specification: there, a text, and one that is read
unfoldable pub oci_version_fault : Data → Option ConfigFault
oci_version_fault d = first_of (version_kind_fault d ∷ version_fault_of (option_and_then as_str (version_of d)) ∷ [])

-- the root filesystem: an object with a path
unfoldable pub root_fault : Data → Option ConfigFault
root_fault d = first_of (
    missing_fault Root (root_of d)
    ∷ kind_fault Root as_object (root_of d)
    ∷ missing_fault RootPath (root_path_of d)
    ∷ kind_fault RootPath as_str (root_path_of d)
    ∷ [])

-- the CPU section and what leads to it: all optional
unfoldable pub cpu_fault : Data → Option ConfigFault
cpu_fault d = first_of (
    kind_fault Linux as_object (linux_of d)
    ∷ kind_fault Resources as_object (resources_of d)
    ∷ kind_fault Cpu as_object (cpu_of d)
    ∷ kind_fault Quota signed_of (cpu_member (codes "quota") d)
    ∷ kind_fault Period unsigned_of (cpu_member (codes "period") d)
    ∷ kind_fault Cpus as_str (cpu_member (codes "cpus") d)
    ∷ kind_fault Mems as_str (cpu_member (codes "mems") d)
    ∷ [])

-- the first fault of a JSON value as a config
abbrev pub value_fault : Data → Option ConfigFault
value_fault d = first_of (
    when (not (is_some (as_object d))) NotObject
    ∷ oci_version_fault d
    ∷ root_fault d
    ∷ cpu_fault d
    ∷ [])

-- the version of the specification is absent, or no text, or one that is read without an allocation
abbrev pub has_plain_version : Data → Bool
has_plain_version d = option_map_or (λ text. is_plain (version_parts text)) (option_and_then as_str (version_of d)) true

-- what is known to be wrong before the first allocation: all of it, except for what comes behind a version that allocates
abbrev pub early_fault : Data → Option ConfigFault
early_fault d =
    if has_plain_version d then value_fault d
    else first_of (when (not (is_some (as_object d))) NotObject ∷ version_kind_fault d ∷ [])
