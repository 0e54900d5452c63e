-- Output that is held back until it is flushed.
use Rattle.std.specs.Prelude.{◌≡◌, ℕ, ◌+◌, ◌≤◌, List, [], length, take, Option}
use Rattle.std.specs.Io.KnownBytes.{Appends, append_known}
use Rattle.program_io.specs.declared.page.Page.{Page}
use Rattle.program_io.specs.declared.page.TheConstants.{ROOM}

-- what a page was given: the bytes that its writer has, and those that wait
abbrev pub contents_of : {W : Type 0} → (W → Option (List ℕ)) → Page W → Option (List ℕ)
contents_of contents page = append_known (contents page.to) page.waiting.items

-- all of the bytes went out, and nothing waits
abbrev pub Sends : {W : Type 0} → (W → Option (List ℕ)) → Page W → Page W → List ℕ → Type 0
Sends contents old new bytes = Appends (contents_of contents old) (contents_of contents new) bytes × (new.waiting.items ≡ [])

-- known bytes grow by a front of these, perhaps all of them
abbrev pub TakesFront : Option (List ℕ) → Option (List ℕ) → List ℕ → Type 0
TakesFront old new bytes = (n : ℕ) × (n ≤ length bytes) × Appends old new (take n bytes)

-- the page took a prefix of the bytes
abbrev pub Takes : {W : Type 0} → (W → Option (List ℕ)) → Page W → Page W → List ℕ → Type 0
Takes contents old new bytes = TakesFront (contents_of contents old) (contents_of contents new) bytes

-- the page took a prefix of the bytes, and all of them if it had room for them
abbrev pub TakesIfRoom : {W : Type 0} → (W → Option (List ℕ)) → Page W → Page W → List ℕ → Type 0
TakesIfRoom contents old new bytes =
    Takes contents old new bytes
    × (length old.waiting.items + length bytes ≤ ROOM → Appends (contents_of contents old) (contents_of contents new) bytes)
