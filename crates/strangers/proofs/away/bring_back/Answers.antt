-- One CPU after another comes back.
use Rattle.std.proofs.Common.{◌≡◌, sym, ◌∙◌, arith}
use Rattle.cpu_set.specs.declared.TheConstants.{CPU_LIMIT}
use Rattle.strangers.proofs.AwayLemmas.{back_none, bring_next, bring_none, brought_all, none_comes}
use Rattle.strangers.proofs.away.bring_back.Goals as goal
use Rattle.strangers.proofs.away.bring_back.Goals.{then-contains, else-contains}

pub returns-then-is_empty : goal.returns-then-is_empty
returns-then-is_empty g c = none_comes c.args.runner.now c.args.cpus.now (c.is_empty.ensures.0 c.if-is_empty.true)

pub loop-cpu-init : goal.loop-cpu-init
loop-cpu-init g c = back_none c.args.runner.now c.args.cpus.now

pub loop-cpu-preserved : goal.loop-cpu-preserved
loop-cpu-preserved g c =
    let s = c.args.runner.now in
    let w = c.args.cpus.now in
    elim c.if-contains.branch [
      | then-contains b ↦ b.runner-is ∙ bring_next s w c.loop-cpu.cpu c.loop-cpu.runner b.bring_one.new.runner (sym c.contains.ensures ∙ b.if-contains.true) c.loop-cpu.invariant b.bring_one.ensures
      | else-contains b ↦ b.runner-is ∙ bring_none s w c.loop-cpu.cpu c.loop-cpu.runner (sym c.contains.ensures ∙ b.if-contains.false) c.loop-cpu.invariant
    ]

pub returns : goal.returns
returns g c =
    let last : c.loop-cpu.cpu ≡ CPU_LIMIT = omega (arith, c.loop-cpu-test.false, c.loop-cpu.auto.cpu-end) in
    brought_all c.args.runner.now c.args.cpus.now c.loop-cpu.cpu c.loop-cpu.runner c.stays_below_the_limit.ensures last c.loop-cpu.invariant
