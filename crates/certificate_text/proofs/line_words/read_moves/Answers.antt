use Rattle.std.proofs.Common.{◌≡◌, rules}
use Rattle.std.specs.Prelude.{codes}
use Rattle.certificate_text.proofs.Totals.{no_distance, no_moves, are_moves}
use Rattle.certificate_text.proofs.line_words.read_moves.Goals as goal

pub returns-in_err-distance : goal.returns-in_err-distance
returns-in_err-distance c =
    let first = c.in_ok-first in
    rw c.from_residual-in_err-distance.ensures (no_distance c.args.text.now first.first.now first.word.now first.second.now first.ensures c.in_err-distance.ensures)

pub returns-in_err-moves : goal.returns-in_err-moves
returns-in_err-moves c =
    let first = c.in_ok-first in
    rw c.from_residual-in_err-moves.ensures
    (no_moves c.args.text.now first.first.now first.word.now first.second.now first.ensures (rw c.from.ensures at c.in_err-moves.ensures))

pub returns : goal.returns
returns c =
    let first = c.in_ok-first in
    let word : first.word.now ≡ codes "moves" = search rules in
    are_moves c.args.text.now first.first.now first.word.now first.second.now first.ensures _ c.in_ok-distance.distance c.in_ok-moves.moves word
    c.in_ok-distance.ensures (rw c.from.ensures at c.in_ok-moves.ensures) c.pack.ensures
