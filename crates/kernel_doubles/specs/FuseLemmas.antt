-- The law of fuses, proved.
use Rattle.std.proofs.Common.{◌≡◌, ℕ, ◌-◌, ◌<◌, ◌≤◌, Bool, true, false, ◌&&◌, List, length, refl, sym, ap, ◌∙◌, subst, arith}
use Rattle.std.proofs.lemmas.Bool.{cond-true, cond-false}
use Rattle.std.proofs.lemmas.Bool.Decides.{nat_tests}
use Rattle.std.specs.Prelude.{nat_lt, nat_le}
use Rattle.kernel_doubles.specs.declared.fused_kernel.Fuse.{Fuse}
use Rattle.kernel_doubles.specs.declared.fused_kernel.Fuse.TheVariants.{Waiting, Blown}
use Rattle.kernel_doubles.specs.Fuse.{fuse_after, fused, HasWriteBehind, IsSet, FusesCountWrites}
use Rattle.kernel_model.specs.Trace.{WritingCall}
use Rattle.kernel_model.specs.KernelState.{KernelState, writes}

abbrev is_past : ℕ → ℕ → Bool
is_past n k = nat_lt 0 n && nat_le n k

-- the tests as facts on numbers
past_at : (n k : ℕ) → 0 < n → n ≤ k → is_past n k ≡ true
past_at n k some le = grind (arith, nat_tests)

never_past : (n : ℕ) → is_past n 0 ≡ false
never_past n = grind (arith, nat_tests)

whole : (n : ℕ) → n - 0 ≡ n
whole n = omega arith

first : (n : ℕ) → fuse_after n 0 ≡ Waiting n
first n = cond-false (is_past n 0) Blown (Waiting (n - 0)) (never_past n) ∙ ap Waiting (whole n)

blown : (n k : ℕ) → 0 < n → n ≤ k → fuse_after n k ≡ Blown
blown n k some le = cond-true (is_past n k) Blown (Waiting (n - k)) (past_at n k some le)

is_set : (fuse : Fuse) (count : ℕ) → (fuse ≡ Blown → 0 < count) → IsSet fuse count
is_set (Waiting left) count behind =
    let none : 0 ≡ count - count = omega arith in (left, count, omega arith, sym (first left) ∙ ap (fuse_after left) none)
is_set Blown count behind =
    let more : 0 < count = behind refl in
    (1, 0, omega arith, sym (blown 1 (count - 0) (omega arith) (omega (arith, more))))

told : (fuse : Fuse) (calls : List WritingCall) (k : KernelState) → length calls ≡ writes (fused fuse calls k)
told (Waiting left) calls k = refl
told Blown calls k = refl

pub each : (fuse : Fuse) (calls : List WritingCall) (k : KernelState) → HasWriteBehind fuse calls → IsSet fuse (writes (fused fuse calls k))
each fuse calls k behind = subst (IsSet fuse) (told fuse calls k) (is_set fuse (length calls) behind)

pub fuses_count_writes : FusesCountWrites
fuses_count_writes = record { each = each; first = first; blown = blown }
