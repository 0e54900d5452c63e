use Rattle.certificate.proofs.Elements.{element_at}
use Rattle.std.proofs.lemmas.Bool.{both_ways}
use Rattle.certificate.specs.ApartTestLemmas.{are_apart_more, are_apart_stop, is_in_one_more}
use Rattle.cpu_set.specs.PointwiseLaws.{contains-empty}
use Rattle.std.proofs.Common.{arith, length, refl, sym, ◌<◌}
use Rattle.certificate.proofs.set_checks.are_apart.Goals as goal

pub loop-at-init : goal.loop-at-init
loop-at-init g c = rw c.empty-seen.ensures (record { same = λ q. contains-empty q; apart = refl })

pub returns-then-not-add_apart : goal.returns-then-not-add_apart
returns-then-not-add_apart g c =
    let lt : c.loop-at.at < length c.args.sets.now = omega (arith, c.len-at-end.ensures, c.loop-at-test.true) in
    let e = element_at c.args.sets.now c.loop-at.at lt in
    sym (are_apart_stop (λ p. p.1) c.args.sets.now c.loop-at.at e.0 c.loop-at.seen lt e.1 c.loop-at.invariant.same
    (λ apart. both_ways _ c.if-not-add_apart.true ((c.add_apart.ensures.apart e.0).1 (rw (← e.1) apart))))

pub loop-at-preserved : goal.loop-at-preserved
loop-at-preserved g c =
    let lt : c.loop-at.at < length c.args.sets.now = omega (arith, c.len-at-end.ensures, c.loop-at-test.true) in
    let e = element_at c.args.sets.now c.loop-at.at lt in
    rw (c.add_apart.ensures.added e.0 c.if-not-add_apart.false, ← e.1) (record {
      same = is_in_one_more (λ p. p.1) c.args.sets.now c.loop-at.at e.0 c.loop-at.seen lt e.1 c.loop-at.invariant.same;
      apart = are_apart_more (λ p. p.1) c.args.sets.now c.loop-at.at e.0 c.loop-at.seen lt e.1 c.loop-at.invariant.same c.loop-at.invariant.apart
          (rw (← e.1) at ((c.add_apart.ensures.apart e.0).0 c.if-not-add_apart.false));
    })
