use Rattle.std.proofs.Common.{◌≡◌, ◌<◌, false, length, refl, subst, arith, get_or}
use Rattle.std.proofs.lemmas.List.{take_all}
use Rattle.transport.proofs.ReachedRowsLemmas.{grown_none, grown_skip, grown_reach, reached_reached, row_of_share}
use Rattle.transport.specs.ReachedRows.{IsGrown}
use Rattle.transport.proofs.Numbers.{read_mark}
use Rattle.transport.specs.ReachedRows.{is_reached}
use Rattle.transport.proofs.tree.reach_holders.Goals as goal
use Rattle.transport.proofs.tree.reach_holders.Goals.{then-share-gt0+then-not-index+in_ok-reach, else-share-gt0, else-share-gt0-via-then-share-gt0+else-not-index, else-share-gt0-via-else-share-gt0}

pub loop-share-init : goal.loop-share-init
loop-share-init c = record { reached_rows = c.requires.reached_rows; grown = grown_none _ _ _ _ }

pub loop-share-preserved : goal.loop-share-preserved
loop-share-preserved c =
    let s = get_or c.args.shares.now c.loop-share.share-index (record { row = 0; amount = 0 }) in
    let in_rows : s.row < length c.args.reached_rows.now.reached.items = row_of_share _ _ _ _ c.requires.rows c.loop-share-test.true in
    let inv = c.loop-share.invariant in
    let in_reached : s.row < length c.loop-share.reached_rows.reached.items = omega (arith, in_rows, inv.reached_rows.reached_long) in
    elim c.if-share-gt0.branch [
      | then-share-gt0+then-not-index+in_ok-reach w ↦
          rw w.reached_rows-is
          (let off : is_reached c.loop-share.reached_rows s.row ≡ false = read_mark _ _ _ _ _ in_reached refl w.index.ensures w.if-not-index.true in
          record {
            reached_rows = reached_reached _ _ _ _ _ _ inv.reached_rows in_rows off w.in_ok-reach.ensures;
            grown = grown_reach _ _ _ _ _ _ _ _ _ s _ inv.reached_rows inv.grown c.loop-share-test.true refl in_rows off w.in_ok-reach.ensures
                (omega (arith, w.min.ensures, w.if-share-gt0.true, c.requires.bottleneck)) (omega (arith, w.min.ensures)) c.requires.once;
          })
      | else-share-gt0 w ↦
          rw w.reached_rows-is
          (record {
            reached_rows = inv.reached_rows;
            grown = elim w.else-share-gt0.branch [
              | else-share-gt0-via-then-share-gt0+else-not-index v ↦
                  grown_skip _ _ _ _ _ _ s _ inv.grown c.loop-share-test.true refl
                  (λ _. read_mark _ _ _ _ _ in_reached refl v.index.ensures v.if-not-index.false)
              | else-share-gt0-via-else-share-gt0 v ↦
                  grown_skip _ _ _ _ _ _ s _ inv.grown c.loop-share-test.true refl (λ some. absurd (omega (arith, some, v.if-share-gt0.false)))
            ];
          })
    ]

pub returns : goal.returns
returns c = record { reached_rows = c.loop-share.invariant.reached_rows; grown = subst (λ shares. IsGrown c.args.reached_rows.now c.loop-share.reached_rows c.args.class c.args.bottleneck shares c.args.shares.now) (take_all _ _ c.loop-share-test.false) c.loop-share.invariant.grown }
