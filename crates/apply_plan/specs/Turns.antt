-- Whose turn it is in a direct hand-over, as the program looks for it.
use Rattle.std.specs.Prelude.{◌≡◌, Bool, true, not, ◌&&◌, List, find, Some}
use Rattle.std.specs.List.{AllByRecursion}
use Rattle.std.specs.FinSet as set
use Rattle.cpu_set.specs.Ids.{Ids}
use Rattle.cpuset_tree.specs.Groups.{same_group}
use Rattle.kernel_model.specs.KernelState.{KernelState}
use Rattle.apply_plan.specs.declared.entry.Entry.{Entry}
use Rattle.apply_plan.specs.declared.taking.Taking.{Taking}
use Rattle.apply_plan.specs.declared.taking.Taking.TheVariants.{New, LettingGo, Growing, Any}
use Rattle.apply_plan.specs.declared.giving.Giving.{Giving}
use Rattle.apply_plan.specs.declared.giving.Giving.TheVariants.{Sharing, Aside, Squeezed}
use Rattle.apply_plan.specs.DueWrite.{held}
use Rattle.apply_plan.specs.DirectWords.{has_own, may_take, lets_go, spare}
use Rattle.apply_plan.specs.Rings.{rings_stand}
use Rattle.apply_plan.specs.Directed.{Least}
use Rattle.apply_plan.specs.DirectWrite.{must_yield, shares, shared_way, steps_aside, aside, squeezed}

-- the entry is among the entries, and is found by its group
abbrev pub IsIn : List Entry → Entry → Type 0
IsIn entries e = find (λ a. same_group e.group a.group) entries ≡ Some e

module _ (k : KernelState) (reserved : Ids) (entries : List Entry) where
  -- for pinned ones, this tells as well whether they are guarded
  abbrev pub Guards : Bool → Type 0
  Guards rings =
      AllByRecursion (λ e. e.pinned ≡ true → (set.is_subset (spare k reserved entries) e.target && rings) ≡ (set.is_subset (spare k reserved entries) e.target && rings_stand k reserved entries)) entries

  -- whether it takes its target at once
  abbrev pub goes_by : Bool → Entry → Bool
  goes_by rings e = may_take k reserved entries e && not (not (lets_go k reserved e) && (set.is_subset (spare k reserved entries) e.target && rings))

  -- whether it is its turn to take its target
  abbrev pub takes_by : Bool → Taking → Entry → Bool
  takes_by rings New e = e.pinned && (not (has_own reserved (held k e)) && goes_by rings e)
  takes_by rings LettingGo e = lets_go k reserved e && goes_by rings e
  takes_by rings Growing e = e.pinned && goes_by rings e
  takes_by rings Any e = may_take k reserved entries e

  module _ (allowed : Entry → Ids) where
    -- whether it is its turn to give way
    abbrev pub gives_by : Least → Giving → Entry → Bool
    gives_by least Sharing e = shares k reserved entries e
    gives_by least Aside e = steps_aside k reserved entries allowed least e
    gives_by least Squeezed e = must_yield k reserved entries e

    -- what it gets whose turn it is to give way
    abbrev pub gets_by : Least → Giving → Entry → Ids
    gets_by least Sharing e = shared_way k reserved entries e
    gets_by least Aside e = aside k reserved entries allowed least e
    gets_by least Squeezed e = squeezed k reserved entries e
