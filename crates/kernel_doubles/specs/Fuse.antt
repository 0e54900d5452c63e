-- A kernel that makes one of its writes fail.
use Rattle.std.specs.Prelude.{◌≡◌, ◌≢◌, ℕ, ◌+◌, ◌-◌, ◌<◌, ◌≤◌, List, length, ◌&&◌, nat_lt, nat_le, if◌then◌else◌, Result, Err}
use Rattle.kernel_doubles.specs.declared.fused_kernel.Fuse.{Fuse}
use Rattle.kernel_doubles.specs.declared.fused_kernel.Fuse.TheVariants.{Waiting, Blown}
use Rattle.kernel_model.specs.Trace.{WritingCall}
use Rattle.kernel_model.specs.KernelState.{KernelState, writes}

-- the fuse for the nth write once k writes were made: blown if the nth was among them, else it waits for those left; with 0
-- it waits for none
abbrev pub fuse_after : ℕ → ℕ → Fuse
fuse_after n k = if nat_lt 0 n && nat_le n k then Blown else Waiting (n - k)

-- the kernel within, with one failure more once the fuse has blown; what is told is all that was asked of both, the write that
-- failed too
abbrev pub fused : Fuse → List WritingCall → KernelState → KernelState
fused (Waiting left) calls k = record k { trace = calls }
fused Blown calls k = record k { failures = k.failures + 1; trace = calls }

-- a fuse that has blown has a write behind it: the one that failed is told
abbrev pub HasWriteBehind : Fuse → List WritingCall → Type 0
HasWriteBehind fuse calls = fuse ≡ Blown → 0 < length calls

-- a fuse was set for the nth write after some count, by how many were made in all
abbrev pub IsSet : Fuse → ℕ → Type 0
IsSet fuse count = (n : ℕ) × (first : ℕ) × (first ≤ count) × (fuse ≡ fuse_after n (count - first))

-- a fuse that was set for the nth write is set for it still: it burns by what the kernel counts
abbrev pub FollowsTheCount : Fuse → KernelState → Fuse → KernelState → Type 0
FollowsTheCount fuse old next new =
    (n first : ℕ) → first ≤ writes old → fuse ≡ fuse_after n (writes old - first) → next ≡ fuse_after n (writes new - first)

-- if a kernel's nth write is to fail, that one alone fails, with the kernel within as it was; each other is the write of the
-- kernel within
pub record FailsAtTheNth {A E : Type 0} (failure : E) (fuse : Fuse) (old inner : KernelState) (Own : Result A E → KernelState → Type 0)
    (result : Result A E) (new : KernelState) : Type 0 where
  pub nth : (n first : ℕ) → first ≤ writes old → fuse ≡ fuse_after n (writes old - first) → writes old + 1 ≡ first + n → (result ≡ Err failure) × (new ≡ inner)
  pub others : (n first : ℕ) → first ≤ writes old → fuse ≡ fuse_after n (writes old - first) → writes old + 1 ≢ first + n → Own result new

-- each fuse that has a write behind it if it has blown was set for a write after some count; it waits if none was made since,
-- and has blown once the nth was
pub record FusesCountWrites : Type 0 where
  pub each : (fuse : Fuse) (calls : List WritingCall) (k : KernelState) → HasWriteBehind fuse calls → IsSet fuse (writes (fused fuse calls k))
  pub first : (n : ℕ) → fuse_after n 0 ≡ Waiting n
  pub blown : (n k : ℕ) → 0 < n → n ≤ k → fuse_after n k ≡ Blown
