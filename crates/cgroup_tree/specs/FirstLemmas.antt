-- A mirrored kernel from the beginning.
use Rattle.std.proofs.Common.{◌≡◌, ℕ, List, [], ap}
use Rattle.cpu_set.specs.Ids.{Ids}
use Rattle.kernel_model.specs.Trace.{WritingCall, failures_in}
use Rattle.kernel_model.specs.KernelState.{KernelState, IsFirstKernel}
use Rattle.cgroup_tree.specs.Mirrored.{mirrored}

-- of which nothing was asked yet, a new kernel is new
pub first_mirrored : (present reserved online nodes : Ids) (first_pid : ℕ) (trace : List WritingCall) (k : KernelState) → trace ≡ []
    → IsFirstKernel present reserved online nodes first_pid k → IsFirstKernel present reserved online nodes first_pid (mirrored trace k)
first_mirrored present reserved online nodes first_pid trace k none first = record {
  first_tree = first.first_tree;
  first_table = first.first_table;
  all_present = first.all_present;
  some_reserved = first.some_reserved;
  none_failed = ap failures_in none;
  none_written = none;
}
