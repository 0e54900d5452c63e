-- An output in several parts.
use Rattle.std.proofs.Common.{◌≡◌, ℕ, ◌<◌, List, [], ◌∷◌, ◌++◌, length, take, get_or, map, Option, refl, ap, subst}
use Rattle.std.specs.List.{flat_map}
use Rattle.byte_output.specs.GatheringLemmas.{fails_part}
use Rattle.byte_output.specs.Gathering.{HasGathered, GathersFront}

-- all of the parts before one that was read were gathered, and of that one a prefix went out
pub fails_item : {A : Type 0} (f : A → List ℕ) (old mid new : Option (List ℕ)) (w0 w1 : List ℕ) (xs : List A) (i : ℕ) (x : A) → i < length xs
    → HasGathered old mid w0 w1 (flat_map f (take i xs)) → x ≡ get_or xs i x → GathersFront mid new w1 (f x) → GathersFront old new w0 (flat_map f xs)
fails_item f old mid new w0 w1 xs i x below before e front = fails_part f old mid new w0 w1 xs i x below before (subst (λ y. GathersFront mid new w1 (f y)) e front)

pub flat_map-map : {A B : Type 0} (f : B → List ℕ) (g : A → B) (xs : List A) → flat_map f (map g xs) ≡ flat_map (λ x. f (g x)) xs
flat_map-map f g [] = refl
flat_map-map f g (x ∷ xs) = ap (λ rest. f (g x) ++ rest) (flat_map-map f g xs)
