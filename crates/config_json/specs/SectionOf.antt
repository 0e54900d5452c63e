-- What a config says in its CPU section: a look-up in the JSON value.
-- From: OCI Runtime Specification 1.0.2, config-linux.md, CPU.
use Rattle.std.specs.Prelude.{ℕ, ℤ, List, Option, option_and_then, codes}
use Rattle.serde_json.specs.Data.{Data}
use Rattle.serde_json.specs.Find.{as_str}
use Rattle.config_json.specs.Members.{cpu_member}
use Rattle.json_text.specs.Numbers.{unsigned_of}
use Rattle.config_json.specs.Checks.{signed_of}

-- `linux.resources.cpu`: the quota and its period in microseconds, and the lists of CPUs and memory nodes as text
pub record Section : Type 0 where
  pub quota : Option ℤ
  pub period : Option ℕ
  pub cpus : Option (List ℕ)
  pub mems : Option (List ℕ)

-- the CPU section of a value without fault
abbrev pub section_of : Data → Section
section_of d = record {
  quota = option_and_then signed_of (cpu_member (codes "quota") d);
  period = option_and_then unsigned_of (cpu_member (codes "period") d);
  cpus = option_and_then as_str (cpu_member (codes "cpus") d);
  mems = option_and_then as_str (cpu_member (codes "mems") d);
}
