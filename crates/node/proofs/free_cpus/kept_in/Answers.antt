use Rattle.std.proofs.Common.{◌≡◌, [], refl, sym, ap, ◌∙◌, subst}
use Rattle.std.specs.FinSet as set
use Rattle.std.proofs.lemmas.Map.Iter.{rest_all}
use Rattle.std.specs.Map.Iter.{deref_pair}
use Rattle.node.specs.Viewed.{all_seen}
use Rattle.node.proofs.FreeLemmas.{KeptSoFar, kept_first, kept_next, kept_passed, kept_last}
use Rattle.node.proofs.free_cpus.kept_in.Goals as goal

pub loop-container-init : goal.loop-container-init
loop-container-init g c =
    let k = g.K.Kernel.state c.args.kernel.now in
    let all = all_seen c.args.containers.now.entries in
    let same : c.into_iter-container-iterator.result ≡ c.args.containers.now.entries = c.into_iter-container-iterator.ensures.into_iter_gives ∙ c.iter-container-items.ensures.rest in
    subst (λ left. KeptSoFar k c.args.pinned c.args.asked.now all left c.empty-kept.result) (sym (ap all_seen same))
    (kept_first k c.args.pinned c.args.asked.now all c.empty-kept.result c.empty-kept.ensures c.requires)

pub loop-container-preserved-then-keeps_some : goal.loop-container-preserved-then-keeps_some
loop-container-preserved-then-keeps_some g c =
    let k = g.K.Kernel.state c.args.kernel.now in
    let all = all_seen c.args.containers.now.entries in
    kept_next k c.args.pinned c.args.asked.now all _ (all_seen c.next.new.self) c.loop-container.kept c.requested.result.now c.union-kept.result
    (subst (λ left. KeptSoFar k c.args.pinned c.args.asked.now all left c.loop-container.kept) (ap all_seen c.in-Some.ensures.steps) c.loop-container.invariant)
    (λ cpu. ap (λ s. set.contains s cpu) c.requested.ensures ∙ c.if-keeps_some.ensures.all refl [] cpu) c.union-kept.ensures

pub loop-container-preserved : goal.loop-container-preserved
loop-container-preserved g c =
    let k = g.K.Kernel.state c.args.kernel.now in
    let all = all_seen c.args.containers.now.entries in
    kept_passed k c.args.pinned c.args.asked.now all _ (all_seen c.next.new.self) c.loop-container.kept
    (subst (λ left. KeptSoFar k c.args.pinned c.args.asked.now all left c.loop-container.kept) (ap all_seen c.in-Some.ensures.steps) c.loop-container.invariant)
    (λ cpu there. c.if-keeps_some.ensures.none refl [] cpu there)

pub returns : goal.returns
returns g c =
    kept_last (g.K.Kernel.state c.args.kernel.now) c.args.pinned c.args.asked.now (all_seen c.args.containers.now.entries) (all_seen c.loop-container.container-iterator) c.loop-container.kept c.loop-container.invariant
    (ap all_seen (rest_all deref_pair c.loop-container.container-iterator _ c.next.result c.in-None.is c.next.ensures.steps))
