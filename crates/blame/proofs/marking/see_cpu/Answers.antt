use Rattle.std.proofs.Common.{◌≡◌, ℕ, ◌+◌, ◌<◌, ◌≤◌, cond, List, length, get_or, set, ◌∙◌, arith}
use Rattle.std.specs.Prelude.{◌==◌}
use Rattle.std.proofs.lemmas.List.{get_or_default, get_or-set_same}
use Rattle.blame.specs.Marking.{owner}
use Rattle.blame.proofs.MarkingLemmas.{seen_more, marked_more, none_counted, one_counted}
use Rattle.blame.proofs.marking.see_cpu.Goals as goal

-- the holder is counted once more
counted :
    (own of_row : List ℕ) (cpu row n : ℕ) → row ≡ get_or own cpu row → cpu < length own → row < length of_row → n ≤ get_or of_row row 0 + 1
    → (row ≡ owner own cpu) × ((k : ℕ) → get_or (set of_row row n) k 0 ≤ get_or of_row k 0 + cond {A = ℕ} (owner own cpu == k) 1 0)
counted own of_row cpu row n is cpu_lt lt few =
    let its : row ≡ owner own cpu = is ∙ get_or_default own cpu row 0 cpu_lt in
    (its, one_counted own of_row cpu row n its lt few)

pub returns-then-row-known-clause-marking : goal.returns-then-row-known-clause-marking
returns-then-row-known-clause-marking c = λ rows members owned m at.
    rw c.insert.ensures
    (seen_more rows members c.args.part.now.own.items c.args.part.now.root c.args.known.now c.args.seen.now c.args.of_row.now c.args.of_row.now c.args.cpu m at
    c.requires.cpu c.requires.unseen (none_counted c.args.part.now.own.items c.args.of_row.now c.args.cpu))

pub returns-then-known-row-clause-marking : goal.returns-then-known-row-clause-marking
returns-then-known-row-clause-marking c = λ rows members owned m at.
    let lt : c.index-row.result.now < length c.args.of_row.now = omega (arith, c.if-row-known.false, c.requires.as_long) in
    let its = counted c.args.part.now.own.items c.args.of_row.now c.args.cpu c.index-row.result.now c.saturating_add.result c.index-row.ensures
    (omega (arith, c.requires.own, c.requires.cpu)) lt (omega (arith, c.saturating_add.ensures)) in
    rw c.insert.ensures
    (seen_more rows members c.args.part.now.own.items c.args.part.now.root c.args.known.now c.args.seen.now c.args.of_row.now _ c.args.cpu m at
    c.requires.cpu c.requires.unseen its.1)

pub returns-clause-marking : goal.returns-clause-marking
returns-clause-marking c = λ rows members owned m at.
    let lt : c.index-row.result.now < length c.args.of_row.now = omega (arith, c.if-row-known.false, c.requires.as_long) in
    let its = counted c.args.part.now.own.items c.args.of_row.now c.args.cpu c.index-row.result.now c.saturating_add.result c.index-row.ensures
    (omega (arith, c.requires.own, c.requires.cpu)) lt (omega (arith, c.saturating_add.ensures)) in
    let enough : c.args.part.now.lacking ≤ get_or (set c.args.of_row.now c.index-row.result.now c.saturating_add.result) c.index-row.result.now 0 =
    omega (arith, c.if-of_row-row.false, get_or-set_same c.args.of_row.now c.index-row.result.now c.saturating_add.result 0 lt) in
    rw c.insert.ensures
    (marked_more rows members c.args.part.now.own.items c.args.part.now.root c.args.part.now.lacking c.args.known.now _ _ c.args.cpu c.index-row.result.now
    c.holders_are_needed.ensures.holders owned
    (seen_more rows members c.args.part.now.own.items c.args.part.now.root c.args.known.now c.args.seen.now c.args.of_row.now _ c.args.cpu m at
    c.requires.cpu c.requires.unseen its.1)
    c.requires.cpu its.0 c.if-row-known.false enough)
