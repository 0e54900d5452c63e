use Rattle.std.proofs.Common.{◌≡◌, get_or, refl, replicate, rules, ap, ◌∙◌, arith, length}
use Rattle.std.specs.FinSet as set
use Rattle.std.proofs.lemmas.List.{get_or_default, length-replicate}
use Rattle.cpu_set.specs.declared.TheConstants.{CPU_LIMIT}
use Rattle.blame.proofs.OwnerLemmas.{owners_none, owners_more, owners_whole}
use Rattle.blame.proofs.owners.owners.Goals as goal

pub loop-i-init : goal.loop-i-init
loop-i-init c =
    let items : c.in_ok-own.own.items ≡ replicate CPU_LIMIT c.args.nobody = c.in_ok-own.ensures.items_if_clones_equal (search rules) in
    record {
      so_far = owners_none c.args.numbers.now c.args.sets.now c.args.nobody c.in_ok-own.own.items items;
      long = ap length items ∙ length-replicate CPU_LIMIT c.args.nobody;
    }

pub loop-i-preserved : goal.loop-i-preserved
loop-i-preserved c = record {
  so_far =
      owners_more c.args.numbers.now c.args.sets.now c.args.nobody c.loop-i.i c.index-sets-i.result (get_or c.args.numbers.now c.loop-i.i 0) c.loop-i.own.items c.note.new.own.items
      c.loop-i.invariant.so_far (c.index-sets-i.is ∙ get_or_default c.args.sets.now c.loop-i.i c.index-sets-i.result set.empty c.loop-i-test.true)
      refl c.requires.apart c.loop-i-test.true c.note.ensures.noted;
  long = c.note.ensures.long;
}

pub returns-clause-owners : goal.returns-clause-owners
returns-clause-owners c =
    owners_whole c.args.numbers.now c.args.sets.now c.args.nobody c.loop-i.i c.loop-i.own.items c.loop-i.invariant.so_far
    (omega (arith, c.loop-i-test.false, c.loop-i.auto.i-end))
