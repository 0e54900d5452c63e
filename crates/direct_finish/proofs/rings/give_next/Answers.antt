use Rattle.std.proofs.Common.{refl}
use Rattle.direct_finish.specs.declared.standing.Standing.TheVariants.{Moved}
use Rattle.direct_finish.specs.SettledLemmas.{since_then, settled_same}
use Rattle.direct_finish.proofs.rings.give_next.Goals as goal

pub returns-clause-since : goal.returns-clause-since
returns-clause-since g c =
    since_then c.args.nexts.now _ _ _ Moved c.in_ok-give_way.ensures.put _ _ c.note.ensures (λ aside. refl)
    (record {
      past = c.next_giving.ensures.past;
      settled = settled_same c.args.nexts.now _ _ _ c.next_giving.ensures.same c.is_calm.ensures.since.settled;
    })
