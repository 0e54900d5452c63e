-- The bytes before went out, and at a fault a front of the next one.
use Rattle.std.proofs.Common.{rules, arith, ◌≡◌, ℕ, ◌+◌, ◌<◌, ◌++◌, List, length, drop, get_or, sym, ap, ◌∙◌}
use Rattle.std.proofs.lemmas.List.{drop_more, get_or-drop}
use Rattle.std.proofs.lemmas.Result.{err_from_is_err_and}
use Rattle.byte_output.specs.SendingLemmas.{HasSent-fails, HasSent-then}
use Rattle.program_io.specs.ErrorLine.{shown_behind, shown_byte}
use Rattle.program_io.proofs.output.put_bytes.Goals as goal

shown_more : (before : ℕ) (name : List ℕ) (i next : ℕ) → i < length name → next ≡ get_or name (i + 1) 0
    → shown_behind before (drop i name) ≡ shown_byte before (get_or name i 0) next ++ shown_behind (get_or name i 0) (drop (i + 1) name)
shown_more before name i next below is =
    ap (shown_behind before) (drop_more name i 0 below)
    ∙ ap (λ n. shown_byte before (get_or name i 0) n ++ shown_behind (get_or name i 0) (drop (i + 1) name))
    (get_or-drop (i + 1) name 0 0 ∙ ap (λ n. get_or name n 0) (omega arith) ∙ sym is)

pub returns-in_err-put_byte : goal.returns-in_err-put_byte
returns-in_err-put_byte g c =
    let fault = err_from_is_err_and c.from_residual.result c.from_residual.ensures.1 in
    rw fault.1 (HasSent-fails _ _ _ _ _ _ _ c.loop-at.invariant
    (shown_more c.loop-at.before c.args.name.now c.loop-at.at c.byte_at.result (search rules) c.byte_at.ensures) c.in_err-put_byte.ensures)

pub loop-at-preserved : goal.loop-at-preserved
loop-at-preserved g c = HasSent-then _ _ _ _ _ _ _ c.loop-at.invariant
    (shown_more c.loop-at.before c.args.name.now c.loop-at.at c.byte_at.result (search rules) c.byte_at.ensures) c.in_ok-put_byte.ensures
