-- A list whose items rise and do not touch: its ranges, with no set between.
-- From: cpuset(7), List Format, as the kernel prints lists.
use Rattle.std.specs.Prelude.{◌≡◌, ℕ, List, None}
use Rattle.cpu_set.specs.Members.{members}
use Rattle.cpu_set.specs.Ranges.{ranges_of, in_ranges}
use Rattle.cpu_set.specs.Those.{those}
use Rattle.cpu_set.specs.declared.TheConstants.{CPU_LIMIT}
use Rattle.cpu_list.specs.FirstFault.{first_fault}
use Rattle.cpu_list.specs.ListText.{IsList, names}

-- the text is a list without a fault, and these are the ranges of its set, rising and as long as possible
pub record IsRisingList (limit : ℕ) (text : List ℕ) (ranges : List (ℕ × ℕ)) : Type 0 where
  pub faultless : first_fault limit text ≡ None
  pub list : IsList limit text
  pub names : (n : ℕ) → in_ranges ranges n ≡ names text n
  pub whole : ranges_of (members (those (in_ranges ranges) CPU_LIMIT)) ≡ ranges
