-- Offers with no CPU that is held.
use Rattle.std.proofs.Common.{◌≡◌, ℕ, ◌+◌, ◌<◌, ◌≤◌, Bool, true, false, cond, not, ◌&&◌, nat_lt, nat_le, Option, Some, None, unwrap_or, MatchOption, List, [], ◌∷◌, filter, length, map, take, get_or, ◌++◌, inl, inr, refl, sym, ap, ◌∙◌, arith}
use Rattle.std.specs.List.{flat_map, list_all, range_with_len}
use Rattle.std.specs.FinSet as set
use Rattle.std.proofs.lemmas.Bool.{cases_lt, false≢true}
use Rattle.std.proofs.lemmas.Bool.Decides.{nat_tests}
use Rattle.std.proofs.lemmas.List.{flat_map_more, take_more}
use Rattle.std.proofs.lemmas.List.Elements.{filter-append}
use Rattle.std.proofs.lemmas.List.Sums.{AllPass-from_list_all}
use Rattle.cpu_set.specs.Ids.{Ids, NoneFrom, IsFirstFrom, IsLast}
use Rattle.cpu_set.specs.PointwiseLaws.{same_members, contains-empty, contains-intersection, contains-difference}
use Rattle.cpu_set.specs.SetLaws.{is_subset-Decides}
use Rattle.cpu_set.specs.declared.TheConstants.{CPU_LIMIT}
use Rattle.machine.specs.Layout.{Layout}
use Rattle.certificate.specs.declared.Offer.{Offer}
use Rattle.certificate.specs.Packed.{packed}
use Rattle.rows.specs.Offers.{has_some, offer_at, offers_by_distance}
use Rattle.rows.specs.PartLemmas.{some_pushed}
use Rattle.rows.specs.Scaled.{are_distances, held_part, moved, parted}

-- the least number, or the limit where there is none, is above no number of the set
pub least_first : (s : Ids) (next : Option ℕ) (first n : ℕ) → MatchOption next (NoneFrom s 0) (IsFirstFrom s 0) → first ≡ unwrap_or next CPU_LIMIT → set.contains s n ≡ true → first ≤ n
least_first s None first n none is has = absurd (false≢true (sym (none n (omega arith)) ∙ has))
least_first s (Some next) first n least is has = elim (cases_lt n next) [
  | inl lt ↦ absurd (false≢true (sym (least.least n (omega arith) lt) ∙ has))
  | inr le ↦ omega arith
]

-- the greatest number, or 0 where there is none, is below no number of the set
pub last_most : (s : Ids) (found : Option ℕ) (last n : ℕ) → MatchOption found (NoneFrom s 0) (IsLast s) → last ≡ unwrap_or found 0 → set.contains s n ≡ true → n ≤ last
last_most s None last n none is has = absurd (false≢true (sym (none n (omega arith)) ∙ has))
last_most s (Some found) last n greatest is has = rw is (greatest.most n has)

one_of_two : (x y : Offer) → has_some x ≡ false → has_some y ≡ true → filter has_some (x ∷ y ∷ []) ≡ y ∷ []
one_of_two x y none some = rw (none, some) refl

-- an offer with no CPU that is held is one part, with all its CPUs
pub parted_none : (held : Ids) (o : Offer) → has_some o ≡ true → ((n : ℕ) → set.contains o.cpus n ≡ true → set.contains held n ≡ false)
    → parted held o ≡ record { weight = packed o.weight 1; cpus = o.cpus } ∷ []
parted_none held o some none =
    one_of_two (held_part held o) (moved held o) (ap (λ s. nat_lt 0 (set.len s)) no_more ∙ ap (nat_lt 0) (set.len-empty _)) (ap (λ s. nat_lt 0 (set.len s)) no_less ∙ some)
    ∙ ap (λ (s : Ids). record { weight = packed o.weight 1; cpus = s } ∷ []) no_less
  where
    apart : (a b : Bool) → (a ≡ true → b ≡ false) → (a && b) ≡ false
    apart true b f = f refl
    apart false b f = refl

    stays : (a b : Bool) → (a ≡ true → b ≡ false) → (a && not b) ≡ a
    stays true b f = ap not (f refl)
    stays false b f = refl

    no_more : set.intersection o.cpus held ≡ set.empty
    no_more = same_members _ _ (λ q. contains-intersection o.cpus held q ∙ apart _ _ (none q) ∙ sym (contains-empty q))

    no_less : set.difference o.cpus held ≡ o.cpus
    no_less = same_members _ _ (λ q. contains-difference o.cpus held q ∙ stays _ _ (none q))

-- an offer that is not within what is held has a part with the CPUs that are not
pub parted_cut : (held : Ids) (o : Offer) → set.is_subset o.cpus held ≡ false → parted held o ≡ filter has_some (held_part held o ∷ []) ++ moved held o ∷ []
parted_cut held o cut =
    filter-append has_some (held_part held o ∷ []) (moved held o ∷ [])
    ∙ ap (λ l. filter has_some (held_part held o ∷ []) ++ l) (some_pushed _ _ (λ none. false≢true (sym cut ∙ (is_subset-Decides o.cpus held).1 none)))

kept_some : (b : Bool) (o : Offer) (rest : List Offer) → has_some o ≡ b → list_all has_some rest ≡ true → list_all has_some (cond b (o ∷ rest) rest) ≡ true
kept_some true o rest is all = rw is all
kept_some false o rest is all = all

all_some : (offers : List Offer) → list_all has_some (filter has_some offers) ≡ true
all_some [] = refl
all_some (o ∷ offers) = kept_some (has_some o) o (filter has_some offers) refl (all_some offers)

-- each offer has a CPU
pub offers_of_some : (m : Layout) (homes cpus : Ids) → list_all has_some (offers_by_distance m homes cpus) ≡ true
unfolding offers_by_distance
offers_of_some m homes cpus = all_some (map (offer_at m homes cpus) (range_with_len 0 255))

-- the weight of an offer at a distance
pub distance_at : (offers : List Offer) (k w : ℕ) → are_distances offers ≡ true → k < length offers → ((d : Offer) → w ≡ (get_or offers k d).weight) → w ≤ 254
distance_at offers k w all lt is =
    let d : Offer = record { weight = 0; cpus = set.empty } in
    omega (arith, is d, low _ (AllPass-from_list_all (λ (o : Offer). nat_le o.weight 254) offers all k d lt))
  where
    low : (x : ℕ) → nat_le x 254 ≡ true → x ≤ 254
    low x e = grind (arith, nat_tests)

-- one offer more in its parts
pub parted_more : (held : Ids) (offers so_far more : List Offer) (k : ℕ) → k < length offers → so_far ≡ flat_map (parted held) (take k offers)
    → ((d : Offer) → more ≡ so_far ++ parted held (get_or offers k d)) → more ≡ flat_map (parted held) (take (k + 1) offers)
parted_more held offers so_far more k lt before are =
    let d : Offer = record { weight = 0; cpus = set.empty } in
    are d ∙ ap (λ l. l ++ parted held (get_or offers k d)) before
    ∙ flat_map_more (parted held) [] (take k offers) (get_or offers k d)
    ∙ ap (flat_map (parted held)) (sym (take_more offers k d lt))
