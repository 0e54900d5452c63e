use Rattle.std.proofs.Common.{◌<◌, true, length, sym, ap, ◌∙◌, subst}
use Rattle.std.specs.Prelude.{All}
use Rattle.std.specs.List.Sorted.{IsStrictlyIncreasing}
use Rattle.std.proofs.lemmas.List.{length-set}
use Rattle.hall.specs.Needed.{others, IsNeeded}
use Rattle.hall.specs.OthersLaws.{others_rise, others_all}
use Rattle.blame.specs.Parts.{IsPartAnswer, AreSetsOf, IsShortageOf}
use Rattle.blame.proofs.PartLemmas.{row_within}
use Rattle.blame.proofs.ShrinkingLemmas.{still_needed, still_member, left_out, needed_of_sets, needed_more}
use Rattle.blame.proofs.shrinking.try_one.Goals as goal

pub solve_part-requires-clause-rising : goal.solve_part-requires-clause-rising
solve_part-requires-clause-rising c =
    subst IsStrictlyIncreasing (sym (c.deref-2.ensures.value ∙ c.in_ok-rest.ensures ∙ ap (λ ms. others ms c.args.row) c.deref.ensures.value))
    (others_rise c.args.marked.now.members.items c.args.row c.requires.marked.shortage.rising)

pub solve_part-requires-clause-there : goal.solve_part-requires-clause-there
solve_part-requires-clause-there c =
    subst (λ ks. All (λ k. k < length c.args.rows.now) ks)
    (sym (c.deref-2.ensures.value ∙ c.in_ok-rest.ensures ∙ ap (λ ms. others ms c.args.row) c.deref.ensures.value))
    (others_all (λ k. k < length c.args.rows.now) c.args.marked.now.members.items c.args.row c.requires.marked.shortage.there)

pub solve_part-requires-clause-less : goal.solve_part-requires-clause-less
solve_part-requires-clause-less c = (row_within c.args.rows.now c.args.row c.requires.fit c.requires.there).0

pub returns-in-Short-clause-marked : goal.returns-in-Short-clause-marked
returns-in-Short-clause-marked c =
    let answer = subst (IsPartAnswer c.args.rows.now c.deref-2.result.now c.args.row 1) c.in-Short.is c.in_ok-answer.ensures in
    let less : IsShortageOf c.args.rows.now (others c.args.marked.now.members.items c.args.row) c.in-Short.fewer.items =
    subst (λ ks. IsShortageOf c.args.rows.now ks c.in-Short.fewer.items) (c.deref-2.ensures.value ∙ c.in_ok-rest.ensures ∙ ap (λ ms. others ms c.args.row) c.deref.ensures.value) answer in
    record {
      shortage = less.shortage;
      long = c.requires.marked.long;
      needed = λ k on. still_needed c.args.rows.now c.args.marked.now.members.items c.in-Short.fewer.items c.args.row k c.fewer_have_plans.ensures c.requires.marked.shortage less (c.requires.marked.needed k on);
    }

pub returns-in-Short-clause-tried : goal.returns-in-Short-clause-tried
returns-in-Short-clause-tried c = λ here.
    let answer = subst (IsPartAnswer c.args.rows.now c.deref-2.result.now c.args.row 1) c.in-Short.is c.in_ok-answer.ensures in
    let less : IsShortageOf c.args.rows.now (others c.args.marked.now.members.items c.args.row) c.in-Short.fewer.items =
    subst (λ ks. IsShortageOf c.args.rows.now ks c.in-Short.fewer.items) (c.deref-2.ensures.value ∙ c.in_ok-rest.ensures ∙ ap (λ ms. others ms c.args.row) c.deref.ensures.value) answer in
    absurd (left_out c.args.rows.now c.args.marked.now.members.items c.in-Short.fewer.items c.args.row less here)

pub returns-in-Short-clause-kept : goal.returns-in-Short-clause-kept
returns-in-Short-clause-kept c = λ k settled here.
    let answer = subst (IsPartAnswer c.args.rows.now c.deref-2.result.now c.args.row 1) c.in-Short.is c.in_ok-answer.ensures in
    let less : IsShortageOf c.args.rows.now (others c.args.marked.now.members.items c.args.row) c.in-Short.fewer.items =
    subst (λ ks. IsShortageOf c.args.rows.now ks c.in-Short.fewer.items) (c.deref-2.ensures.value ∙ c.in_ok-rest.ensures ∙ ap (λ ms. others ms c.args.row) c.deref.ensures.value) answer in
    settled (still_member c.args.rows.now c.args.marked.now.members.items c.in-Short.fewer.items c.args.row k less here)

pub returns-clause-marked : goal.returns-clause-marked
returns-clause-marked c =
    let answer = subst (IsPartAnswer c.args.rows.now c.deref-2.result.now c.args.row 1) c.in-Plan.is c.in_ok-answer.ensures in
    let its : AreSetsOf c.args.rows.now (others c.args.marked.now.members.items c.args.row) c.args.row 1 c.in-Plan._sets.items =
    subst (λ ks. AreSetsOf c.args.rows.now ks c.args.row 1 c.in-Plan._sets.items) (c.deref-2.ensures.value ∙ c.in_ok-rest.ensures ∙ ap (λ ms. others ms c.args.row) c.deref.ensures.value) answer in
    let here : IsNeeded c.args.rows.now c.args.marked.now.members.items c.args.row = needed_of_sets c.args.rows.now c.args.marked.now.members.items c.args.row 1 c.in-Plan._sets.items c.requires.marked.shortage.there its in
    record {
      shortage = c.requires.marked.shortage;
      long = length-set c.args.marked.now.known.items c.args.row true ∙ c.requires.marked.long;
      needed = λ k on. needed_more c.args.rows.now c.args.marked.now.members.items c.args.marked.now.known.items c.args.row k here c.requires.marked.needed on;
    }
