use Rattle.std.proofs.Common.{◌≡◌, ◌<◌, length, set, true, arith}
use Rattle.blame.proofs.ShrinkingLemmas.{root_known, written_marks}
use Rattle.blame.proofs.shrinking.marks_of.Goals as goal

pub returns-clause-needed : goal.returns-clause-needed
returns-clause-needed c = λ members owned k on.
    let lt : c.args.part.now.root < length c.in_ok-known.known.items = omega (arith, c.requires.root, c.in_ok-known.ensures.long) in
    let known = root_known c.args.rows.now members c.args.part.now.own.items c.args.part.now.root c.args.part.now.lacking c.in_ok-known.known.items
    c.as_mut_slice.result.now c.holders_are_needed.ensures.root owned c.in_ok-known.ensures.none lt c.as_mut_slice.ensures.value in
    let long : length c.mark.new.known ≡ c.in_ok-known.known.len = omega arith in
    (c.in_ok-mark.ensures members owned known).needed k
    (written_marks (set c.in_ok-known.known.items c.args.part.now.root true) c.mark.new.known c.in_ok-known.known.len k long on)
