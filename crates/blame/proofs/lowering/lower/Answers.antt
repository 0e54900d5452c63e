use Rattle.std.proofs.Common.{◌<◌, length, sym, ◌∙◌, subst, arith}
use Rattle.std.specs.Prelude.{All}
use Rattle.std.specs.List.Sorted.{IsStrictlyIncreasing}
use Rattle.std.proofs.lemmas.List.Elements.{All-contains}
use Rattle.blame.specs.Parts.{IsPartAnswer, AreSetsOf, AreOwners}
use Rattle.blame.proofs.PartLemmas.{row_within}
use Rattle.blame.proofs.OwnedLemmas.{askers_rise, askers_all, owned_of_sets}
use Rattle.blame.proofs.lowering.lower.Goals as goal

pub solve_part-requires-clause-rising : goal.solve_part-requires-clause-rising
solve_part-requires-clause-rising c =
    subst IsStrictlyIncreasing (sym (c.deref.ensures.value ∙ c.in_ok-numbers.ensures)) (askers_rise c.args.members.now c.args.root c.args.asked c.requires.rising)

pub solve_part-requires-clause-there : goal.solve_part-requires-clause-there
solve_part-requires-clause-there c =
    subst (λ ks. All (λ k. k < length c.args.rows.now) ks) (sym (c.deref.ensures.value ∙ c.in_ok-numbers.ensures))
    (askers_all c.args.members.now c.args.root c.args.asked (λ k. k < length c.args.rows.now) c.requires.there)

pub solve_part-requires-clause-less : goal.solve_part-requires-clause-less
solve_part-requires-clause-less c =
    let lt : c.args.root < length c.args.rows.now =
    All-contains (λ k. k < length c.args.rows.now) c.args.members.now c.args.root c.requires.there c.requires.root in
    let some = row_within c.args.rows.now c.args.root c.requires.fit lt in
    omega (arith, some.0, c.requires.whole, c.max.ensures)

pub returns : goal.returns
returns c =
    let answer = subst (IsPartAnswer c.args.rows.now c.deref.result.now c.args.root c.max.result) c.in-Plan.is c.in_ok-answer.ensures in
    let its : AreSetsOf c.args.rows.now c.in_ok-numbers.numbers.items c.args.root c.max.result c.in-Plan.sets.items =
    subst (λ ks. AreSetsOf c.args.rows.now ks c.args.root c.max.result c.in-Plan.sets.items) c.deref.ensures.value answer in
    let owners : AreOwners c.in_ok-numbers.numbers.items c.in-Plan.sets.items (length c.args.rows.now) c.in_ok-own-in-Plan.own.items =
    subst (λ ks. AreOwners ks c.in-Plan.sets.items (length c.args.rows.now) c.in_ok-own-in-Plan.own.items) c.deref-in-Plan.ensures.value
    (subst (λ ss. AreOwners c.deref-in-Plan.result.now ss (length c.args.rows.now) c.in_ok-own-in-Plan.own.items) c.deref-in-Plan-2.ensures.value
    c.in_ok-own-in-Plan.ensures.owners) in (
      owned_of_sets c.args.rows.now c.args.members.now c.in_ok-numbers.numbers.items c.args.root c.args.asked c.args.lacking c.max.result c.in-Plan.sets.items
          c.in_ok-own-in-Plan.own.items c.requires.rising c.requires.there c.requires.root c.in_ok-numbers.ensures c.requires.whole
          (λ ne. omega (arith, c.max.ensures)) its owners,
      c.in_ok-own-in-Plan.ensures.long,
    )
