-- The text of a set, empty or not.
use Rattle.std.proofs.Common.{◌≡◌, ◌==◌, Bool, true, false, cond, arith, refl, codes}
use Rattle.std.proofs.lemmas.Bool.Decides.{nat_tests}
use Rattle.std.specs.FinSet as set
use Rattle.std.specs.Ordering.{nat_cmp}
use Rattle.cpu_set.specs.Ids.{Ids}
use Rattle.cpu_list.specs.CanonicalList.{list_text}
use Rattle.runtime.specs.AnswerTexts.{set_text}

pub set_text-empty : (s : Ids) → s ≡ set.empty → set_text s ≡ codes "-"
set_text-empty s e = rw (e, set.len-empty nat_cmp) refl

pub set_text-some : (s : Ids) → (s ≡ set.empty → ⊥) → set_text s ≡ list_text s
set_text-some s some = by_len (set.len s == 0) refl
  where
    by_len : (b : Bool) → (set.len s == 0) ≡ b → cond b (codes "-") (list_text s) ≡ list_text s
    by_len true e = absurd (some (set.empty_of_len s (grind (arith, nat_tests))))
    by_len false e = refl
