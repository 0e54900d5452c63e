-- What a page takes of a text that is written to it.
use Rattle.std.proofs.Common.{◌≡◌, ℕ, ◌+◌, ◌-◌, ◌≤◌, List, length, take, drop, min, arith, length-drop, subst, sym, ◌∙◌, take_all, take-add, Option}
use Rattle.std.proofs.KnownBytes.{Appends-kept, Appends-trans}
use Rattle.std.specs.Io.KnownBytes.{Appends, Keeps}
use Rattle.program_io.specs.Pages.{TakesFront, TakesIfRoom, contents_of}
use Rattle.program_io.specs.declared.page.Page.{Page}
use Rattle.program_io.specs.declared.page.TheConstants.{ROOM}

-- a front of the bytes, and then a front of the others
pub TakesFront-more : (a b c : Option (List ℕ)) (bytes : List ℕ) (k : ℕ) → k ≤ length bytes → Appends a b (take k bytes) → TakesFront b c (drop k bytes) → TakesFront a c bytes
TakesFront-more a b c bytes k within first (n, rest, then) =
    (k + n, omega (arith, length-drop k bytes), rw (take-add k n bytes) (Appends-trans a b c _ _ first then))

pub TakesFront-kept : (a b c : Option (List ℕ)) (bytes : List ℕ) → TakesFront a b bytes → Keeps b c → TakesFront a c bytes
TakesFront-kept a b c bytes (n, within, front) kept = (n, within, Appends-kept a b c _ front kept)

-- nothing was left to take
pub TakesFront-done : (a b c : Option (List ℕ)) (bytes : List ℕ) (k : ℕ) → k ≡ length bytes → Appends a b (take k bytes) → TakesFront b c (drop k bytes) → Appends a c bytes
TakesFront-done a b c bytes k all first (n, rest, then) =
    subst (Appends a c) (sym (take-add k n bytes) ∙ take_all (k + n) bytes (omega (arith, all))) (Appends-trans a b c _ _ first then)

-- first there was room, and then the rest was taken as it came
pub TakesIfRoom-of : {W : Type 0} (contents : W → Option (List ℕ)) (old mid new : Page W) (bytes : List ℕ) (k : ℕ) → k ≡ min (ROOM - length old.waiting.items) (length bytes)
    → Appends (contents_of contents old) (contents_of contents mid) (take k bytes) → TakesFront (contents_of contents mid) (contents_of contents new) (drop k bytes) → TakesIfRoom contents old new bytes
TakesIfRoom-of contents old mid new bytes k fits first rest = (
  TakesFront-more _ _ _ bytes k (omega (arith, fits)) first rest,
  λ room. TakesFront-done _ _ _ bytes k (omega (arith, fits, room)) first rest,
)
