-- What the live containers of a hand-over hold and ask for together, and what that tells of one of them.
use Rattle.std.specs.Prelude.{◌≡◌, ◌&&◌, cond, List}
use Rattle.std.specs.FinSet as set
use Rattle.cpu_set.specs.Ids.{Ids}
use Rattle.proctable.specs.Processes.{is_alive}
use Rattle.kernel_model.specs.KernelState.{KernelState}
use Rattle.apply_plan.specs.declared.entry.Entry.{Entry}
use Rattle.apply_plan.specs.declared.overview.Overview.{Overview}
use Rattle.apply_plan.specs.DueWrite.{held, must_move}
use Rattle.apply_plan.specs.DirectWords.{lets_go, all_of_those, way, places}

-- what is asked of e, outside the reserved CPUs, as an overview has it
abbrev pub asks_by : Overview → Entry → Ids
asks_by o e = set.difference (cond e.pinned o.letting o.moving) e.target

module _ (k : KernelState) (reserved : Ids) (entries : List Entry) where
  -- what live containers hold
  abbrev pub all_held : Ids
  all_held = all_of_those (λ d. is_alive k.table d.pid) (held k) entries

  -- what pinned live ones hold
  abbrev pub pinned_held : Ids
  pinned_held = all_of_those (λ d. d.pinned && is_alive k.table d.pid) (held k) entries

  -- the targets of the pinned ones that let go
  abbrev pub letting : Ids
  letting = all_of_those (λ d. d.pinned && lets_go k reserved d) (λ d. d.target) entries

  -- the targets of the pinned ones that must move
  abbrev pub moving : Ids
  moving = all_of_those (λ d. d.pinned && must_move k d) (λ d. d.target) entries

  -- what e's rivals hold, of what e does not hold
  abbrev pub others : Entry → Ids
  others e = cond e.pinned all_held pinned_held

  -- what is asked of e, outside the reserved CPUs
  abbrev pub asks_together : Entry → Ids
  asks_together e = set.difference (cond e.pinned letting moving) e.target

  -- the sets of an overview are these
  pub record IsOverview (o : Overview) : Type 0 where
    pub held : o.held ≡ all_held
    pub pinned : o.pinned ≡ pinned_held
    pub letting : o.letting ≡ letting
    pub moving : o.moving ≡ moving

  -- its sets tell what e has on its way, and its places
  pub record Tells (o : Overview) (e : Entry) : Type 0 where
    pub on_way : way k reserved entries e
        ≡ set.union (set.difference (held k e) (set.difference (asks_by o e) reserved)) (set.difference e.target (cond e.pinned o.held o.pinned))
    pub in_places : (allowed : Ids)
        → places k reserved entries allowed e
        ≡ set.difference (set.intersection allowed (set.difference (set.difference k.tree.online reserved) o.held)) (asks_by o e)
