-- Facts on each element of a list and on each two.
use Rattle.std.proofs.Common.{List, [], ◌∷◌, ◌++◌}
use Rattle.std.specs.List.{AllByRecursion, AllZip}
use Rattle.apply_plan.specs.Holders.{Pairwise}
pub use Rattle.apply_plan.specs.ListLemmas.{all_map, all_map2, all_of, pairs_map, all_of_map, of_all_map, pairs_of_map, of_pairs_map}

module _ {X : Type 0} where
  -- what holds of each of two lists holds of each of both
  pub all_append : (P : X → Type 0) (xs ys : List X) → AllByRecursion P xs → AllByRecursion P ys → AllByRecursion P (xs ++ ys)
  all_append P [] ys h i = i
  all_append P (x ∷ xs) ys h i = (h.0, all_append P xs ys h.1 i)

  -- the same of one more at the end
  pub all_push : (P : X → Type 0) (xs : List X) (y : X) → AllByRecursion P xs → P y → AllByRecursion P (xs ++ y ∷ [])
  all_push P [] y h p = (p, tt)
  all_push P (x ∷ xs) y h p = (h.0, all_push P xs y h.1 p)

  pub pairs_push : (R : X → X → Type 0) (xs : List X) (y : X) → Pairwise R xs → AllByRecursion (λ x. R x y) xs → Pairwise R (xs ++ y ∷ [])
  pairs_push R [] y h i = (tt, tt)
  pairs_push R (x ∷ xs) y h i = (all_push (R x) xs y h.0 i.0, pairs_push R xs y h.1 i.1)

-- facts on two lists, place by place
pub zip_map : {X Y : Type 0} (P : X → Type 0) (R S : X → Y → Type 0) → ((x : X) (y : Y) → P x → R x y → S x y) → (xs : List X) (ys : List Y)
    → AllByRecursion P xs → AllZip R xs ys → AllZip S xs ys
zip_map P R S f [] [] h i = tt
zip_map P R S f [] (y ∷ ys) h i = absurd i
zip_map P R S f (x ∷ xs) [] h i = absurd i
zip_map P R S f (x ∷ xs) (y ∷ ys) h i = (f x y h.0 i.0, zip_map P R S f xs ys h.1 i.1)
