-- What an overview tells of each container.
use Rattle.std.proofs.Common.{◌≡◌, true, false, List, sym, ◌∙◌}
use Rattle.std.specs.Prelude.{cond}
use Rattle.std.specs.List.{AllByRecursion}
use Rattle.std.specs.FinSet as set
use Rattle.cpu_set.specs.Ids.{Ids}
use Rattle.cpuset_tree.specs.Groups.{same_group}
use Rattle.kernel_model.specs.KernelState.{KernelState}
use Rattle.apply_plan.specs.declared.entry.Entry.{Entry}
use Rattle.apply_plan.specs.declared.overview.Overview.{Overview}
use Rattle.apply_plan.specs.Targets.{IsHandover, AreTargetsApart}
use Rattle.apply_plan.specs.DueWrite.{held}
use Rattle.apply_plan.specs.Overviews.{IsOverview, Tells}
use Rattle.apply_plan.specs.OverviewLemmas.{way_together, places_together}
use Rattle.apply_plan.specs.Turns.{IsIn}
use Rattle.apply_plan.specs.TurnLemmas.{is_apart, is_alone}

pub tells_of : (k : KernelState) (reserved : Ids) (entries : List Entry) (o : Overview) (e : Entry)
    → AllByRecursion (λ a. same_group e.group a.group ≡ false → AreTargetsApart reserved e a) entries
    → AllByRecursion (λ a. same_group e.group a.group ≡ true → a ≡ e) entries → IsOverview k reserved entries o → Tells k reserved entries o e
tells_of k reserved entries o e apart alone seen = record {
  on_way =
      way_together k reserved entries e apart alone
      ∙ sym (λ i. set.union (set.difference (held k e) (set.difference (set.difference (cond e.pinned (seen.letting i) (seen.moving i)) e.target) reserved))
      (set.difference e.target (cond e.pinned (seen.held i) (seen.pinned i))));
  in_places = λ allowed.
      places_together k reserved entries e apart alone allowed
      ∙ sym (λ i. set.difference (set.intersection allowed (set.difference (set.difference k.tree.online reserved) (seen.held i)))
      (set.difference (cond e.pinned (seen.letting i) (seen.moving i)) e.target));
}

pub overview_tells : (k : KernelState) (reserved : Ids) (entries : List Entry) (o : Overview) (e : Entry)
    → IsHandover (record { entries = entries; reserved = reserved }) → IsIn entries e → IsOverview k reserved entries o → Tells k reserved entries o e
overview_tells k reserved entries o e valid at seen = tells_of k reserved entries o e (is_apart entries reserved valid e at) (is_alone entries reserved valid e at) seen
