use Rattle.std.proofs.Common.{◌≡◌, ◌<◌, length, refl, subst, arith}
use Rattle.transport.specs.Blocks.{AreBlocks}
use Rattle.transport.proofs.Blocks.{blocks_more}
use Rattle.transport.proofs.arcs.add_arcs.Goals as goal
use Rattle.transport.proofs.arcs.add_arcs.Goals.{in-Some+in_ok-add_to_blocks, in_default}

pub loop-at-preserved : goal.loop-at-preserved
loop-at-preserved c =
    let lt : c.loop-at.at < length c.args.arcs.now = omega (arith, c.loop-at-test.true, c.requires.upto) in
    elim c.match-first.branch [
      | in-Some+in_ok-add_to_blocks w ↦ (let added = w.in_ok-add_to_blocks.ensures in
          rw w.blocks-is
          (blocks_more _ _ c.loop-at.at _ _ w.in-Some.cpu _ c.loop-at.invariant lt c.requires.rising w.in-Some.ensures.its refl added.sound added.kept added.added added.weights))
      | in_default w ↦ absurd (omega (arith, w.in_default.ensures.its, c.requires.classes c.loop-at.at lt))
    ]

pub returns : goal.returns
returns c =
    let e : c.loop-at.at ≡ c.args.upto = omega (arith, c.loop-at-test.false, c.loop-at.auto.at-end, c.requires.from) in
    subst (λ n. AreBlocks c.args.firsts.now c.args.arcs.now n c.loop-at.blocks.items) e c.loop-at.invariant
