use Rattle.std.proofs.Common.{◌≡◌, ℕ, Option, refl, subst, sym, ap, ◌∙◌}
use Rattle.std.proofs.lemmas.Bool.{and_parts, eqb-true}
use Rattle.std.specs.FinSet as set
use Rattle.cpu_set.specs.Ids.{Ids}
use Rattle.machine.specs.Present.{present}
use Rattle.machine.proofs.Lacking.{AreEmptied, AreEmptied-none, AreEmptied-more, AreEmptied-all}
use Rattle.machine.proofs.machine.Machine.cpus_by_lacking.Goals as goal

pub loop-next-init : goal.loop-next-init
loop-next-init c =
    let all : Ids = set.union (present c.args.self.now) c.args.cores.now in
    let is : c.union-cpus.result ≡ all = c.union-cpus.ensures ∙ rw (← c.self.view_is) (ap (λ s. set.union s c.args.cores.now) c.self.invariant.all) in
    let Emptied : Ids → Type 0 = λ cpus. AreEmptied c.args.self.now c.args.lacking.now all cpus c.first-next.result in
    subst Emptied (sym is) (AreEmptied-none c.args.self.now c.args.lacking.now all _ (c.first-next.ensures.first, c.first-next.ensures.in_range))

pub take_core-requires : goal.take_core-requires
take_core-requires c =
    let Emptied : Option ℕ → Type 0 =
    λ next. AreEmptied c.args.self.now c.args.lacking.now (set.union (present c.args.self.now) c.args.cores.now) c.loop-next.cpus next in
    let are = subst Emptied c.in-Some.is c.loop-next.invariant in
    record {
      in_range = are.in_range;
      lowest = eqb-true _ _ (and_parts _ _ (and_parts _ _ (sym (c.requires c.in-Some.core) ∙ are.member)).0).1;
    }

pub loop-next-preserved : goal.loop-next-preserved
loop-next-preserved c =
    let all : Ids = set.union (present c.args.self.now) c.args.cores.now in
    let Emptied : Option ℕ → Type 0 = λ next. AreEmptied c.args.self.now c.args.lacking.now all c.loop-next.cpus next in
    AreEmptied-more c.args.self.now c.args.lacking.now all c.loop-next.cpus _ c.in-Some.core c.next_after-next.result (rw (← c.self.view_is) c.self.invariant.sound.cores)
    (subst Emptied c.in-Some.is c.loop-next.invariant) c.take_core.ensures.gone c.take_core.ensures.others
    (c.next_after-next.ensures.first, c.next_after-next.ensures.in_range)

pub returns : goal.returns
returns c =
    AreEmptied-all c.args.self.now c.args.cores.now c.args.lacking.now _ _ c.loop-next.next (rw (← c.self.view_is) c.self.invariant.sound.cores)
    (rw (← c.self.view_is, ← c.self.invariant.all) c.self.invariant.in_range)
    c.stays_below_the_limit.ensures c.stays_below_the_limit-2.ensures c.requires refl c.loop-next.invariant c.in_default.not-Some
