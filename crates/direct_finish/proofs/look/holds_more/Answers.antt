use Rattle.std.proofs.Common.{not, sym, ap, ◌∙◌}
use Rattle.std.specs.FinSet as set
use Rattle.cpu_set.specs.PointwiseLaws.{is_subset-contains}
use Rattle.apply_plan.specs.DirectLemmas.{own_none}
use Rattle.apply_plan.specs.SetMemberLaws.{in_minus}
use Rattle.direct_finish.proofs.look.holds_more.Goals as goal

pub returns-else-not-is_subset : goal.returns-else-not-is_subset
returns-else-not-is_subset c =
    let reserved = c.args.reserved.now in
    let held = c.args.held.now in
    ap not c.if-not-is_subset.false
    ∙ sym (own_none reserved (set.difference held c.args.target.now)
    (λ q m. is_subset-contains held reserved (sym c.is_subset.ensures ∙ c.if-not-is_subset.false) q (in_minus held c.args.target.now q m).0))
