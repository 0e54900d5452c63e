use Rattle.std.proofs.Common.{◌<◌, length, get_or, refl, sym, ap, subst, ◌∙◌, arith}
use Rattle.std.proofs.lemmas.List.{get_or_default}
use Rattle.std.specs.FinSet as set
use Rattle.twins.specs.RowCpus.{AreCpusOf}
use Rattle.twins.proofs.RowCpus.{first_in, first_more, first_same}
use Rattle.twins.specs.Kinds.{kind_at}
use Rattle.twins.proofs.Grouped.{grouping_start, grouping_more, grouping_repeated, grouping_end}
use Rattle.twins.proofs.SettledCpus.{settling_next}
use Rattle.twins.proofs.SameOffers.{kind_tells_none}
use Rattle.twins.proofs.grouping.group_body.Goals as goal
use Rattle.twins.proofs.grouping.group_body.Goals.{Then-kinds-k, then-kinds-k+in_ok-split_all, else-kinds-k}

pub loop-k-init : goal.loop-k-init
loop-k-init c = record {
  grouping = grouping_start _ _ _ _ c.in_ok-alone.ensures.items c.in_ok-parts.ensures.waiting c.in_ok-offered.ensures.offered;
  done = c.in_ok-parts.ensures.done;
  settling = c.new-settling.ensures _ c.in_ok-offered.ensures.once;
  kind = refl;
}

-- the CPUs of the row are there
in_sets : (c : Then-kinds-k) → c.loop-k.kind < length c.offered_cpus.new.sets.items
in_sets c = omega (arith, c.loop-k.invariant.kind, first_in c.args.kinds.now c.loop-k.k (length c.args.rows.now) c.loop-k-test.true (omega (arith, c.if-kinds-k.true)), c.in_ok-offered.ensures.sets.long)

pub index-requires : goal.index-requires
index-requires c = omega (arith, in_sets (goal.at.index-requires c).Then-kinds-k, c.offered_cpus.new.sets.ok.0)

pub split_all-requires-clause-cpus : goal.split_all-requires-clause-cpus
split_all-requires-clause-cpus c =
    subst (AreCpusOf c.args.rows.now c.loop-k.k)
    (ap (λ i. get_or c.offered_cpus.new.sets.items i set.empty) (sym c.loop-k.invariant.kind)
    ∙ sym (c.index.ensures ∙ get_or_default c.offered_cpus.new.sets.items c.loop-k.kind c.index.result.now set.empty (in_sets (goal.at.split_all-requires-clause-cpus c).Then-kinds-k)))
    (c.in_ok-offered.ensures.sets.each c.loop-k.k c.loop-k-test.true (omega (arith, c.if-kinds-k.true)))

pub overflow_add-kind : goal.overflow_add-kind
overflow_add-kind c = omega (arith, in_sets (goal.at.overflow_add-kind c).Then-kinds-k, c.offered_cpus.new.sets.ok.0, c.offered_cpus.new.sets.small)

pub loop-k-preserved : goal.loop-k-preserved
loop-k-preserved c = elim c.if-kinds-k.branch [
  | then-kinds-k+in_ok-split_all w ↦
      rw (w.alone-is, w.parts-is, w.settling-is, w.kind-is)
      (record {
        grouping = grouping_more _ _ _ _ _ _ c.loop-k.invariant.grouping w.in_ok-split_all.ensures.pieces;
        done = w.in_ok-split_all.ensures.done;
        settling = w.in_ok-split_all.ensures.settling;
        kind = omega (arith, c.loop-k.invariant.kind, first_more c.args.kinds.now c.loop-k.k (omega (arith, w.if-kinds-k.true)));
      })
  | else-kinds-k w ↦
      rw (w.alone-is, w.parts-is, w.settling-is, w.kind-is)
      (let kind = c.requires.kinds.each c.loop-k.k c.loop-k-test.true in
      let earlier : kind_at c.args.kinds.now c.loop-k.k < c.loop-k.k = omega (arith, kind.no_later, w.if-kinds-k.false) in
      record {
        grouping = grouping_repeated _ _ _ _ (kind_tells_none _ _ _ _ kind earlier c.loop-k-test.true) c.loop-k.invariant.grouping;
        done = c.loop-k.invariant.done;
        settling = settling_next _ _ _ c.loop-k.invariant.settling;
        kind = c.loop-k.invariant.kind ∙ sym (first_same c.args.kinds.now c.loop-k.k earlier);
      })
]

pub returns : goal.returns
returns c =
    grouping_end c.args.rows.now c.loop-k.k c.loop-k.parts.waiting c.loop-k.alone.items c.add_open.new.classes.items (omega arith) c.loop-k.invariant.grouping
    c.in_ok-add_open.ensures
