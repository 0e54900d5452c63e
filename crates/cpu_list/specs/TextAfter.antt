-- What is left of a set's text while it is printed range by range.
use Rattle.std.specs.Prelude.{ℕ, Bool, true, false, List, [], ◌∷◌, ◌++◌}
use Rattle.cpu_list.specs.ListText.{comma}
use Rattle.cpu_list.specs.CanonicalList.{range_text}

-- the text of ranges behind what separates the first of them from those before
abbrev pub text_after : List ℕ → List (ℕ × ℕ) → List ℕ
text_after separator [] = []
text_after separator (r ∷ more) = separator ++ (range_text r ++ text_after (comma ∷ []) more)

-- what separates a range from those before it, if there are any
abbrev pub separator_of : Bool → List ℕ
separator_of false = []
separator_of true = comma ∷ []
