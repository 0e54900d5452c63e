-- One CPU after another goes offline.
use Rattle.std.proofs.Common.{◌≡◌, sym, ap, subst, ◌∙◌, arith}
use Rattle.std.specs.FinSet as set
use Rattle.cpu_set.specs.Ids.{Ids}
use Rattle.cpu_set.specs.Members.{InRange}
use Rattle.cpu_set.specs.declared.TheConstants.{CPU_LIMIT}
use Rattle.kernel_model.specs.KernelState.{KernelState}
use Rattle.node.specs.IsNode.{IsNode}
use Rattle.node.specs.NodeState.{NodeState}
use Rattle.strangers.specs.Guarded.{can_leave}
use Rattle.strangers.proofs.AwayLemmas.{away_none, none_leaves, take_next, take_none, took_all}
use Rattle.strangers.proofs.away.take_away.Goals as goal
use Rattle.strangers.proofs.away.take_away.Goals.{then-contains, else-contains}

pub returns-then-is_empty-clause-which : goal.returns-then-is_empty-clause-which
returns-then-is_empty-clause-which g c =
    let s = c.args.runner.now in
    let online : c.online-online.result ≡ s.node.kernel.tree.online =
    c.online-online.ensures ∙ ap (λ (k : KernelState). k.tree.online) c.kernel.ensures ∙ ap (λ (n : NodeState). n.kernel.tree.online) c.node-2.ensures in
    let some : c.meet-leaving.result ≡ set.intersection c.args.cpus.now s.node.kernel.tree.online = c.meet-leaving.ensures ∙ ap (set.intersection c.args.cpus.now) online in
    (none_leaves s c.args.cpus.now c.meet-leaving.result some (c.is_empty.ensures.0 c.if-is_empty.true)).0

pub returns-then-is_empty-clause-away : goal.returns-then-is_empty-clause-away
returns-then-is_empty-clause-away g c =
    let s = c.args.runner.now in
    let online : c.online-online.result ≡ s.node.kernel.tree.online =
    c.online-online.ensures ∙ ap (λ (k : KernelState). k.tree.online) c.kernel.ensures ∙ ap (λ (n : NodeState). n.kernel.tree.online) c.node-2.ensures in
    let some : c.meet-leaving.result ≡ set.intersection c.args.cpus.now s.node.kernel.tree.online = c.meet-leaving.ensures ∙ ap (set.intersection c.args.cpus.now) online in
    (none_leaves s c.args.cpus.now c.meet-leaving.result some (c.is_empty.ensures.0 c.if-is_empty.true)).1

pub loop-cpu-init : goal.loop-cpu-init
loop-cpu-init g c = away_none c.args.runner.now (can_leave c.args.cpus.now c.args.runner.now.node.kernel)

pub loop-cpu-preserved : goal.loop-cpu-preserved
loop-cpu-preserved g c =
    let s = c.args.runner.now in
    let online : c.online-online.result ≡ s.node.kernel.tree.online =
    c.online-online.ensures ∙ ap (λ (k : KernelState). k.tree.online) c.kernel.ensures ∙ ap (λ (n : NodeState). n.kernel.tree.online) c.node-2.ensures in
    let some : c.meet-leaving.result ≡ set.intersection c.args.cpus.now s.node.kernel.tree.online = c.meet-leaving.ensures ∙ ap (set.intersection c.args.cpus.now) online in
    let node : IsNode s.node = subst (λ (n : NodeState). IsNode n) c.node.ensures c.holds.ensures in
    let has : set.contains (set.intersection c.args.cpus.now s.node.kernel.tree.online) c.loop-cpu.cpu ≡ c.contains.result =
    sym (c.contains.ensures ∙ ap (λ (x : Ids). set.contains x c.loop-cpu.cpu) some) in
    elim c.if-contains.branch [
      | then-contains b ↦ b.runner-is
          ∙ take_next s c.args.cpus.now c.loop-cpu.cpu c.loop-cpu.runner b.take_one.new.runner node (has ∙ b.if-contains.true) c.loop-cpu.invariant b.take_one.ensures
      | else-contains b ↦ b.runner-is ∙ take_none s c.args.cpus.now c.loop-cpu.cpu c.loop-cpu.runner (has ∙ b.if-contains.false) c.loop-cpu.invariant
    ]

pub returns-clause-which : goal.returns-clause-which
returns-clause-which g c =
    let s = c.args.runner.now in
    let online : c.online-online.result ≡ s.node.kernel.tree.online =
    c.online-online.ensures ∙ ap (λ (k : KernelState). k.tree.online) c.kernel.ensures ∙ ap (λ (n : NodeState). n.kernel.tree.online) c.node-2.ensures in
    let some : c.meet-leaving.result ≡ set.intersection c.args.cpus.now s.node.kernel.tree.online = c.meet-leaving.ensures ∙ ap (set.intersection c.args.cpus.now) online in
    let last : c.loop-cpu.cpu ≡ CPU_LIMIT = omega (arith, c.loop-cpu-test.false, c.loop-cpu.auto.cpu-end) in
    let later : c.online.result ≡ c.loop-cpu.runner.node.kernel.tree.online =
    c.online.ensures ∙ ap (λ (k : KernelState). k.tree.online) c.kernel-2.ensures ∙ ap (λ (n : NodeState). n.kernel.tree.online) c.node-3.ensures in
    let gone : c.minus.result ≡ set.difference s.node.kernel.tree.online c.loop-cpu.runner.node.kernel.tree.online =
    c.minus.ensures ∙ ap (λ (x : Ids). set.difference x c.online.result) online ∙ ap (set.difference s.node.kernel.tree.online) later in
    (took_all s c.loop-cpu.runner c.args.cpus.now c.minus.result c.loop-cpu.cpu last (subst (λ (x : Ids). InRange x) some c.stays_below_the_limit.ensures) c.loop-cpu.invariant gone).0

pub returns-clause-away : goal.returns-clause-away
returns-clause-away g c =
    let s = c.args.runner.now in
    let online : c.online-online.result ≡ s.node.kernel.tree.online =
    c.online-online.ensures ∙ ap (λ (k : KernelState). k.tree.online) c.kernel.ensures ∙ ap (λ (n : NodeState). n.kernel.tree.online) c.node-2.ensures in
    let some : c.meet-leaving.result ≡ set.intersection c.args.cpus.now s.node.kernel.tree.online = c.meet-leaving.ensures ∙ ap (set.intersection c.args.cpus.now) online in
    let last : c.loop-cpu.cpu ≡ CPU_LIMIT = omega (arith, c.loop-cpu-test.false, c.loop-cpu.auto.cpu-end) in
    let later : c.online.result ≡ c.loop-cpu.runner.node.kernel.tree.online =
    c.online.ensures ∙ ap (λ (k : KernelState). k.tree.online) c.kernel-2.ensures ∙ ap (λ (n : NodeState). n.kernel.tree.online) c.node-3.ensures in
    let gone : c.minus.result ≡ set.difference s.node.kernel.tree.online c.loop-cpu.runner.node.kernel.tree.online =
    c.minus.ensures ∙ ap (λ (x : Ids). set.difference x c.online.result) online ∙ ap (set.difference s.node.kernel.tree.online) later in
    (took_all s c.loop-cpu.runner c.args.cpus.now c.minus.result c.loop-cpu.cpu last (subst (λ (x : Ids). InRange x) some c.stays_below_the_limit.ensures) c.loop-cpu.invariant gone).1
