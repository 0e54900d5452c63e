-- Two lists, related place by place.
use Rattle.std.proofs.Common.{◌≡◌, List, [], ◌∷◌, ◌++◌, refl, ap}
use Rattle.std.specs.List.{AllZip}

-- what stands beside the parts of a list
pub record Split {A B : Type 0} (R : A → B → Type 0) (xs ys : List A) (zs : List B) : Type 0 where
  pub front : List B
  pub back : List B
  pub whole : zs ≡ front ++ back
  pub fronts : AllZip R xs front
  pub backs : AllZip R ys back

pub zip_split : {A B : Type 0} (R : A → B → Type 0) (xs ys : List A) (zs : List B) → AllZip R (xs ++ ys) zs → Split R xs ys zs
zip_split R [] ys zs h = record { front = []; back = zs; whole = refl; fronts = tt; backs = h }
zip_split R (x ∷ xs) ys [] h = absurd h
zip_split R (x ∷ xs) ys (z ∷ zs) h =
    let rest = zip_split R xs ys zs h.1 in
    record { front = z ∷ rest.front; back = rest.back; whole = ap (λ l. z ∷ l) rest.whole; fronts = (h.0, rest.fronts); backs = rest.backs }

pub zip_append : {A B : Type 0} (R : A → B → Type 0) (xs ys : List A) (us vs : List B) → AllZip R xs us → AllZip R ys vs → AllZip R (xs ++ ys) (us ++ vs)
zip_append R [] ys [] vs h k = k
zip_append R (x ∷ xs) ys (u ∷ us) vs h k = (h.0, zip_append R xs ys us vs h.1 k)
zip_append R [] ys (u ∷ us) vs h k = absurd h
zip_append R (x ∷ xs) ys [] vs h k = absurd h

-- where an element determines what stands beside it, a list does
pub zip_once : {A B : Type 0} (R : A → B → Type 0) → ((x : A) (y z : B) → R x y → R x z → y ≡ z) → (xs : List A) (ys zs : List B)
    → AllZip R xs ys → AllZip R xs zs → ys ≡ zs
zip_once R once [] [] [] h k = refl
zip_once R once (x ∷ xs) (y ∷ ys) (z ∷ zs) h k =
    let first = once x y z h.0 k.0 in
    let rest = zip_once R once xs ys zs h.1 k.1 in
    cc
zip_once R once [] [] (z ∷ zs) h k = absurd k
zip_once R once [] (y ∷ ys) zs h k = absurd h
zip_once R once (x ∷ xs) [] zs h k = absurd h
zip_once R once (x ∷ xs) (y ∷ ys) [] h k = absurd k

-- each element of the list has one beside it
pub zip_at : {A B : Type 0} (R : A → B → Type 0) (xs : List A) (y : A) (ys : List A) (zs : List B) → AllZip R (xs ++ y ∷ ys) zs → (z : B) × R y z
zip_at R [] y ys [] h = absurd h
zip_at R [] y ys (z ∷ zs) h = (z, h.0)
zip_at R (x ∷ xs) y ys [] h = absurd h
zip_at R (x ∷ xs) y ys (z ∷ zs) h = zip_at R xs y ys zs h.1
