use Rattle.std.proofs.Common.{◌≡◌, ℕ, ◌+◌, ◌-◌, ◌<◌, ◌≤◌, inl, inr, get_or, subst, arith}
use Rattle.std.proofs.lemmas.Bool.{cases_lt}
use Rattle.machine.specs.Layout.{node_count}
use Rattle.machine.specs.declared.TheConstants.{NODE_LIMIT}
use Rattle.rows.specs.Chains.{IsLastBelow}
use Rattle.rows.proofs.ChainLemmas.{AreGathered-none, AreGathered-more, AreGathered-all}
use Rattle.rows.proofs.chains.Chains.cpus_at.Goals as goal

pub loop-from-init : goal.loop-from-init
loop-from-init c =
    let few : node_count c.args.machine.now ≤ NODE_LIMIT = c.requires.few in
    AreGathered-none _ _ _ _ _ c.requires.weight (λ i le. c.requires.beyond i (omega arith))
    (c.requires.chains.last_at c.args.weight c.requires.weight) c.empty-cpus.ensures

pub cpus_of-requires : goal.cpus_of-requires
cpus_of-requires c =
    let k : ℕ = c.loop-from.from - 1 in
    let from : c.loop-from.from ≡ k + 1 = omega (arith, c.loop-from-test.true) in
    let weighs : get_or c.args.self.now.weights k 255 ≡ c.args.weight = c.loop-from.invariant.has k from in
    let near : c.args.weight < 255 = c.requires.weight in
    elim (cases_lt k (node_count c.args.machine.now)) [
      | inl lt ↦ lt
      | inr past ↦ let far : get_or c.args.self.now.weights k 255 ≡ 255 = c.requires.beyond k (omega arith) in absurd (omega (arith, far, weighs, near))
    ]

pub loop-from-preserved : goal.loop-from-preserved
loop-from-preserved c =
    let k : ℕ = c.loop-from.from - 1 in
    let from : c.loop-from.from ≡ k + 1 = omega (arith, c.loop-from-test.true) in
    let weighs : get_or c.args.self.now.weights k 255 ≡ c.args.weight = c.loop-from.invariant.has k from in
    let near : c.args.weight < 255 = c.requires.weight in
    let few : c.loop-from.from ≤ NODE_LIMIT = c.loop-from.invariant.few in
    let here : get_or c.args.self.now.weights k 255 < 255 = omega (arith, weighs, near) in
    let lt : k < NODE_LIMIT = omega (arith, few, from) in
    AreGathered-more c.args.machine.now c.args.self.now.weights c.args.weight c.loop-from.from k _ c.loop-from.cpus c.cpus_of.result _ c.loop-from.invariant from
    c.cpus_of.ensures.members
    (subst (λ w. IsLastBelow c.args.self.now.weights k w (get_or c.args.self.now.next k 0)) weighs (c.requires.chains.next_at k lt here))
    c.union-cpus.ensures

pub returns : goal.returns
returns c = AreGathered-all c.args.machine.now _ _ _ _ c.loop-from.invariant (omega arith)
