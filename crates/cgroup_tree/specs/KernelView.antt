-- What callers see of a mirrored kernel.
use Rattle.std.specs.Prelude.{ℕ, Bool, List, refl}
use Rattle.std.specs.Coded.{Coded, code_by, coded×, coded_bool, coded_ℕ, coded_list}
use Rattle.cpu_set.specs.Ids.{Ids, ids_code}
use Rattle.kernel_model.specs.Trace.{WritingCall}
use Rattle.kernel_model.specs.TraceCodeLemmas.{trace_code}
use Rattle.kernel_model.specs.KernelState.{KernelState, kernel_code}

-- the path of the root group's folder, the nodes that have memory, whether the root has to be a partition root, the model, the
-- writing calls that were made of it and of the files, and the files
pub record KernelView (F : Type 0) : Type 0 where
  pub root : List ℕ
  pub memory : Ids
  pub partition : Bool
  pub inner : KernelState
  pub trace : List WritingCall
  pub files : F

-- it is stored as the tuple of its fields
abbrev pub kernel_view_code : {F : Type 0} → Coded F → Coded (KernelView F)
kernel_view_code {F} code =
    code_by
    (List ℕ × (Ids × (Bool × (KernelState × (List WritingCall × F)))))
    (coded× (coded_list coded_ℕ) (coded× ids_code (coded× coded_bool (coded× kernel_code (coded× trace_code code)))))
    (λ k. (k.root, (k.memory, (k.partition, (k.inner, (k.trace, k.files))))))
    (λ p. record { root = p.0; memory = p.1.0; partition = p.1.1.0; inner = p.1.1.1.0; trace = p.1.1.1.1.0; files = p.1.1.1.1.1 })
    (λ _. refl)
