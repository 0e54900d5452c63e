-- Which versions of the specification are read: SemVer 2.0.0 text with major number 1.
use Rattle.std.specs.Prelude.{ℕ, ◌==◌, ◌&&◌, Bool, true, false, length, List, Option, Some, None, Result, Ok, Err, not}
use Rattle.faults.specs.First.{when}
use Rattle.semver.specs.Parse.{Parts, version_parts}
use Rattle.config_json.specs.declared.fault.ConfigFault.{ConfigFault}
use Rattle.config_json.specs.declared.fault.ConfigFault.TheVariants.{BadVersion}

-- a version that was read, with major number 1
abbrev pub is_major_one : {E : Type 0} → Result Parts E → Bool
is_major_one (Ok p) = p.0 == 1
is_major_one (Err e) = false

-- the text is no version, or one with another major number
abbrev pub version_fault : List ℕ → Option ConfigFault
version_fault text = when (not (is_major_one (version_parts text))) BadVersion

-- the same of a text that may be absent
abbrev pub version_fault_of : Option (List ℕ) → Option ConfigFault
version_fault_of None = None
version_fault_of (Some text) = version_fault text

-- a text that is read without an allocation: no version, or one with neither pre-release nor build metadata
abbrev pub is_plain : {E : Type 0} → Result Parts E → Bool
is_plain (Ok p) = length p.3 == 0 && length p.4 == 0
is_plain (Err e) = true
