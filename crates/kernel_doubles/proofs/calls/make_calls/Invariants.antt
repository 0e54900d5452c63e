use Rattle.std.proofs.Common.{◌≡◌, ◌≤◌, length, take}
use Rattle.std.specs.Prelude.{vec_len, vec_capacity}
use Rattle.kernel_model.specs.Runs.{Run}
use Rattle.kernel_doubles.proofs.calls.make_calls.Given as goal

abbrev pub invariant-loop-call : goal.invariant-loop-call
invariant-loop-call g l =
    Run (g.K.Kernel.state l.fn.kernel) (take l.call-index l.calls) l.replies.items (g.K.Kernel.state l.kernel)
    × (vec_len l.replies ≡ l.call-index) × (length l.calls ≤ vec_capacity l.replies)
