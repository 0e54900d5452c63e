use Rattle.std.proofs.Common.{not, ◌&&◌, sym, ap, ◌∙◌, subst}
use Rattle.std.specs.FinSet as set
use Rattle.std.proofs.lemmas.List.{get_or_default}
use Rattle.cpu_set.specs.PointwiseLaws.{contains-intersection, contains-difference}
use Rattle.certificate.specs.Weight.{weight_in}
use Rattle.twins.specs.AreSpans.{IsPlaceOf}
use Rattle.twins.specs.IsPart.{is_same_weight}
use Rattle.twins.proofs.Weights.{same_none}
use Rattle.twins.proofs.alike.alike.Goals as goal

pub returns-in-Some : goal.returns-in-Some
returns-in-Some c = λ offers cpu q are its.
    let there = subst (IsPlaceOf offers c.args.spans.now cpu) c.in-Some.is its in
    ap (λ s. set.contains s q) c.meet.ensures ∙ contains-intersection _ _ q
    ∙ ap (λ b. set.contains c.args.among.now q && b)
    (ap (λ s. set.contains s q) (c.index.ensures ∙ get_or_default c.args.spans.now.sets.items c.in-Some.place c.index.result.now set.empty there.0) ∙ there.1 q)

pub returns-in-None : goal.returns-in-None
returns-in-None c = λ offers cpu q are its.
    ap (λ s. set.contains s q) c.minus.ensures ∙ contains-difference _ _ q
    ∙ ap (λ b. set.contains c.args.among.now q && b)
    (ap not (c.cpus.ensures offers q are) ∙ sym (same_none (weight_in offers q)) ∙ ap (λ w. is_same_weight w (weight_in offers q)) (sym (subst (IsPlaceOf offers c.args.spans.now cpu) c.in-None.is its)))
