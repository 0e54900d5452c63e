use Rattle.std.proofs.Common.{◌≡◌, ℕ, ◌-◌, ◌<◌, List, length, get_or, sym, ap, ◌∙◌, subst, arith}
use Rattle.std.specs.Prelude.{All, IfOk}
use Rattle.certificate.specs.RowView.{RowView}
use Rattle.std.proofs.lemmas.List.Elements.{Contains-get_or}
use Rattle.hall.specs.AskingLaws.{demand_here}
use Rattle.blame.specs.Parts.{IsLowered}
use Rattle.blame.proofs.ShrinkingLemmas.{some_member}
use Rattle.blame.proofs.lowering.lower_last.Goals as goal

pub lower-requires-clause-there : goal.lower-requires-clause-there
lower-requires-clause-there c =
    subst (λ (rows : List RowView). All (λ k. k < length rows) c.args.members.now) (sym (c.as_slice-rows.ensures.value ∙ c.problem.view_is)) c.requires.shortage.there

pub lower-requires-clause-root : goal.lower-requires-clause-root
lower-requires-clause-root c =
    let some = some_member c.args.problem.now c.args.members.now c.requires.shortage in
    Contains-get_or c.args.members.now (length c.args.members.now - 1) 0 (omega arith)

pub lower-requires-clause-whole : goal.lower-requires-clause-whole
lower-requires-clause-whole c =
    let some = some_member c.args.problem.now c.args.members.now c.requires.shortage in
    let root : ℕ = get_or c.args.members.now (length c.args.members.now - 1) 0 in
    let lt : root < length c.as_slice-rows.result.now =
    subst (λ (rows : List RowView). root < length rows) (sym (c.as_slice-rows.ensures.value ∙ c.problem.view_is))
    (c.requires.shortage.there (length c.args.members.now - 1) 0 (omega arith)) in
    let here = demand_here c.as_slice-rows.result.now root c.index-rows-root.result lt in
    let its : (get_or c.as_slice-rows.result.now root c.index-rows-root.result).demand ≡ c.index-rows-root.result.demand =
    ap (λ (r : RowView). r.demand) (sym c.index-rows-root.is) in
    let inside : c.row.inside.demand ≡ c.index-rows-root.result.demand = ap (λ (r : RowView). r.demand) c.row.view_is in
    omega (arith, c.lacking_of-lacking.ensures, here, its, inside)

pub returns : goal.returns
returns c =
    subst (λ (rows : List RowView). IfOk c.lower.result (IsLowered rows c.args.members.now)) (c.as_slice-rows.ensures.value ∙ c.problem.view_is) c.lower.ensures
