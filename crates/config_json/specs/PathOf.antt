-- The dotted path of a member.
-- From: OCI Runtime Specification 1.0.2, config.md and config-linux.md.
use Rattle.std.specs.Prelude.{ℕ, List, codes}
use Rattle.config_json.specs.declared.field.Field.{Field}
use Rattle.config_json.specs.declared.field.Field.TheVariants.{OciVersion, Root, RootPath, Linux, Resources, Cpu, Quota, Period, Cpus, Mems}

-- the names from the top of the config down, with dots between
abbrev pub path_of : Field → List ℕ
path_of OciVersion = codes "ociVersion"
path_of Root = codes "root"
path_of RootPath = codes "root.path"
path_of Linux = codes "linux"
path_of Resources = codes "linux.resources"
path_of Cpu = codes "linux.resources.cpu"
path_of Quota = codes "linux.resources.cpu.quota"
path_of Period = codes "linux.resources.cpu.period"
path_of Cpus = codes "linux.resources.cpu.cpus"
path_of Mems = codes "linux.resources.cpu.mems"
