-- Ranges, one set's behind another's.
use Rattle.cpu_set.specs.Ids.{Ids}
use Rattle.cpu_set.specs.Members.{InRange}
use Rattle.cpu_set.specs.Ranges.{in_ranges}
use Rattle.std.proofs.Common.{Bool, IfSome, None, Option, Some, false, true, List, [], ap, arith, drop, drop-drop, get_or, length, length-append, length-drop, inl, inr, refl, subst, suc, sym, take, take-append-drop, zero, ℕ, ◌&&◌, ◌++◌, ◌+◌, ◌-◌, ◌<◌, ◌||◌, ◌∙◌, ◌∷◌, ◌≡◌, ◌≤◌}
use Rattle.std.proofs.Math.Seq.{drop-append_seam, get_or-append_seam}
use Rattle.std.proofs.lemmas.List.{drop-append-le, drop_all, get_or_append_left, length-take-le, take-append-le, take_all, take_more}
use Rattle.std.proofs.lemmas.List.Elements.{All-append, All-nil, All-push}
use Rattle.std.proofs.lemmas.List.Folds.{list_any-append}
use Rattle.std.specs.Prelude.{All, nat_le, slice_range}
use Rattle.tagged_sets.proofs.Sets.{IsBelow, are_of_set, below_if_of_set, set_again}
use Rattle.tagged_sets.specs.RangeSetLaws.{in_of_set}
use Rattle.tagged_sets.specs.Tagged.{AreKept, AreWide, IsOfSet, IsWideOf, MayKeep, in_any, ranges_of_set, set_of_ranges, start_at, tagged, wide_set}
use Rattle.tagged_sets.specs.declared.tagged_sets.Head.{Head}
use Rattle.tagged_sets.specs.declared.tagged_sets.WideSet.{WideSet}
use Rattle.std.specs.FinSet as set

module _ {A : Type 0} where
  -- a part of a list, with more behind the list
  part_before : (xs ys : List A) (a b : ℕ) → a ≤ b → b ≤ length xs → slice_range (xs ++ ys) a b ≡ slice_range xs a b
  part_before xs ys a b rise fit =
      let there : b - a ≤ length (drop a xs) = omega (arith, length-drop a xs) in
      ap (take (b - a)) (drop-append-le a xs ys (omega arith)) ∙ take-append-le (b - a) (drop a xs) ys there

  -- the part behind a list
  part_behind : (xs ys : List A) (a b : ℕ) → a ≡ length xs → b ≡ length xs + length ys → slice_range (xs ++ ys) a b ≡ ys
  part_behind xs ys a b start end =
      ap (λ k. take (b - a) (drop k (xs ++ ys))) start ∙ ap (take (b - a)) (drop-append_seam xs ys) ∙ take_all (b - a) ys (omega arith)

  length_part : (xs : List A) (a b : ℕ) → a ≤ b → b ≤ length xs → length (slice_range xs a b) ≡ b - a
  length_part xs a b rise fit = length-take-le (b - a) (drop a xs) (omega (arith, length-drop a xs))

  cut : (xs : List A) (a b : ℕ) → a ≤ b → drop a xs ≡ slice_range xs a b ++ drop b xs
  cut xs a b rise =
      let e : a + (b - a) ≡ b = omega arith in
      sym (take-append-drop (b - a) (drop a xs)) ∙ ap (λ rest. take (b - a) (drop a xs) ++ rest) (drop-drop (b - a) a xs ∙ ap (λ k. drop k xs) e)

-- what an option has meets what follows
pub if_some : {A : Type 0} (o : Option A) (P Q : A → Type 0) → ((x : A) → P x → Q x) → IfSome o P → IfSome o Q
if_some None P Q more is = tt
if_some (Some x) P Q more is = more x is

-- the ranges of one set
pub record IsKept (ranges : List (ℕ × ℕ)) (start end : ℕ) : Type 0 where
  pub rising : start ≤ end
  pub within : end ≤ length ranges
  pub of_set : IsOfSet (slice_range ranges start end)

module _ {T : Type 0} where
  pub length-tagged : (ranges : List (ℕ × ℕ)) (start : ℕ) (heads : List (Head T)) → length (tagged ranges start heads) ≡ length heads
  length-tagged ranges start [] = refl
  length-tagged ranges start (h ∷ more) = ap suc (length-tagged ranges h.end more)

  pub kept_within : (ranges : List (ℕ × ℕ)) (start : ℕ) (heads : List (Head T)) → AreKept ranges start heads → start ≤ length ranges
  kept_within ranges start [] kept = omega arith
  kept_within ranges start (h ∷ more) kept = omega (arith, kept.0, kept_within ranges h.end more kept.2)

  pub start_at-0 : (start : ℕ) (heads : List (Head T)) → start_at start heads 0 ≡ start
  unfolding start_at
  start_at-0 start heads = refl

  pub start_at-more : (start : ℕ) (heads : List (Head T)) (k : ℕ) (d : Head T) → k < length heads → start_at start heads (suc k) ≡ (get_or heads k d).end
  unfolding start_at
  start_at-more start [] k d lt = absurd (omega arith)
  start_at-more start (h ∷ more) zero d lt = refl
  start_at-more start (h ∷ more) (suc k) d lt = start_at-more h.end more k d (omega arith)

  -- a set is made of the ranges up to its end
  pub tagged_at : (ranges : List (ℕ × ℕ)) (start : ℕ) (heads : List (Head T)) (k : ℕ) (e : T × Ids) (d : Head T) → k < length heads
      → get_or (tagged ranges start heads) k e ≡ ((get_or heads k d).tag, set_of_ranges (slice_range ranges (start_at start heads k) (get_or heads k d).end))
  unfolding start_at
  tagged_at ranges start [] k e d lt = absurd (omega arith)
  tagged_at ranges start (h ∷ more) zero e d lt = refl
  tagged_at ranges start (h ∷ more) (suc k) e d lt = tagged_at ranges h.end more k e d (omega arith)

  pub kept_at : (ranges : List (ℕ × ℕ)) (start : ℕ) (heads : List (Head T)) (k : ℕ) (d : Head T) → AreKept ranges start heads → k < length heads
      → IsKept ranges (start_at start heads k) (get_or heads k d).end
  unfolding start_at
  kept_at ranges start [] k d kept lt = absurd (omega arith)
  kept_at ranges start (h ∷ more) zero d kept lt = record { rising = kept.0; within = kept_within ranges h.end more kept.2; of_set = kept.1 }
  kept_at ranges start (h ∷ more) (suc k) d kept lt = kept_at ranges h.end more k d kept.2 (omega arith)

  -- the ranges of set k, from where they begin up to where they end
  pub kept_from : (ranges : List (ℕ × ℕ)) (heads : List (Head T)) (k start : ℕ) (h : Head T) → AreKept ranges 0 heads → k < length heads
      → start ≡ start_at 0 heads k → h ≡ get_or heads k h → IsKept ranges start h.end
  kept_from ranges heads k start h kept lt begins is =
      subst (λ n. IsKept ranges n h.end) (sym begins) (subst (λ (g : Head T). IsKept ranges (start_at 0 heads k) g.end) (sym is) (kept_at ranges 0 heads k h kept lt))

  pub set_at : (ranges : List (ℕ × ℕ)) (heads : List (Head T)) (k start : ℕ) (d : T × Ids) (h : Head T) → k < length heads
      → start ≡ start_at 0 heads k → h ≡ get_or heads k h → set_of_ranges (slice_range ranges start h.end) ≡ (get_or (tagged ranges 0 heads) k d).1
  set_at ranges heads k start d h lt begins is =
      ap (λ n. set_of_ranges (slice_range ranges n h.end)) begins
      ∙ ap (λ (g : Head T). set_of_ranges (slice_range ranges (start_at 0 heads k) g.end)) is
      ∙ sym (ap (λ p. p.1) (tagged_at ranges 0 heads k d h lt))

  -- one set more
  pub tagged_more : (ranges new : List (ℕ × ℕ)) (start : ℕ) (heads : List (Head T)) (h : Head T) → AreKept ranges start heads → h.end ≡ length ranges + length new
      → tagged (ranges ++ new) start (heads ++ h ∷ []) ≡ tagged ranges start heads ++ (h.tag, set_of_ranges new) ∷ []
  tagged_more ranges new start [] h kept e = ap (λ rs. (h.tag, set_of_ranges rs) ∷ []) (part_behind ranges new start h.end kept e)
  tagged_more ranges new start (g ∷ more) h kept e =
      let before = part_before ranges new start g.end kept.0 (kept_within ranges g.end more kept.2) in
      ap (λ rs. (g.tag, set_of_ranges rs) ∷ tagged (ranges ++ new) g.end (more ++ h ∷ [])) before
      ∙ ap (λ sets. (g.tag, set_of_ranges (slice_range ranges start g.end)) ∷ sets) (tagged_more ranges new g.end more h kept.2 e)

  pub kept_more : (ranges new : List (ℕ × ℕ)) (start : ℕ) (heads : List (Head T)) (h : Head T) → AreKept ranges start heads → h.end ≡ length ranges + length new → IsOfSet new
      → AreKept (ranges ++ new) start (heads ++ h ∷ [])
  kept_more ranges new start [] h kept e of = (
    omega arith,
    subst IsOfSet (sym (part_behind ranges new start h.end kept e)) of,
    e ∙ sym (length-append ranges new),
  )
  kept_more ranges new start (g ∷ more) h kept e of = (
    kept.0,
    subst IsOfSet (sym (part_before ranges new start g.end kept.0 (kept_within ranges g.end more kept.2))) kept.1,
    kept_more ranges new g.end more h kept.2 e of,
  )

  -- the ranges of one of some sets are those of a set
  pub of_one_set : (ranges : List (ℕ × ℕ)) (sets : List (T × Ids)) (k : ℕ) (t : T) → ((d : T × Ids) → ranges ≡ ranges_of_set (get_or sets k d).1)
      → ((d : T × Ids) → InRange (get_or sets k d).1) → IsOfSet ranges
  of_one_set ranges sets k t are low =
      let d : T × Ids = (t, set.empty) in
      subst IsOfSet (sym (are d)) (are_of_set (get_or sets k d).1 (low d))

  -- one of some sets is made of its ranges
  pub one_set : (ranges : List (ℕ × ℕ)) (sets : List (T × Ids)) (k : ℕ) (t : T) → ((d : T × Ids) → ranges ≡ ranges_of_set (get_or sets k d).1)
      → ((d : T × Ids) → InRange (get_or sets k d).1) → (get_or sets k (t, set.empty)).1 ≡ set_of_ranges ranges
  one_set ranges sets k t are low =
      let d : T × Ids = (t, set.empty) in
      sym (ap set_of_ranges (are d) ∙ set_again (get_or sets k d).1 (low d))

  -- all ranges have the numbers of all sets
  pub in_any-ranges : (ranges : List (ℕ × ℕ)) (start : ℕ) (heads : List (Head T)) → AreKept ranges start heads → (q : ℕ)
      → in_ranges (drop start ranges) q ≡ in_any (tagged ranges start heads) q
  in_any-ranges ranges start [] kept q = ap (λ rs. in_ranges rs q) (drop_all start ranges (omega arith))
  in_any-ranges ranges start (h ∷ more) kept q =
      ap (λ rs. in_ranges rs q) (cut ranges start h.end kept.0)
      ∙ list_any-append (λ r. nat_le r.0 q && nat_le q r.1) (slice_range ranges start h.end) (drop h.end ranges)
      ∙ ap (λ b. b || in_ranges (drop h.end ranges) q) (sym (in_of_set (slice_range ranges start h.end) kept.1 q))
      ∙ ap (λ b. set.contains (set_of_ranges (slice_range ranges start h.end)) q || b) (in_any-ranges ranges h.end more kept.2 q)

  -- all numbers in the ranges are below the limit
  pub kept_below : (ranges : List (ℕ × ℕ)) (start : ℕ) (heads : List (Head T)) → AreKept ranges start heads → All IsBelow (drop start ranges)
  kept_below ranges start [] kept = subst (All IsBelow) (sym (drop_all start ranges (omega arith))) (All-nil IsBelow)
  kept_below ranges start (h ∷ more) kept =
      subst (All IsBelow) (sym (cut ranges start h.end kept.0))
      (All-append IsBelow (slice_range ranges start h.end) (drop h.end ranges) (below_if_of_set (slice_range ranges start h.end) kept.1) (kept_below ranges h.end more kept.2))

  same_head : (h g : Head T) → h.tag ≡ g.tag → h.end ≡ g.end → h ≡ g
  same_head h g tag end = λ i. record { tag = tag i; end = end i }

  -- the same sets are kept in the same way
  pub kept_once : (rs ts : List (ℕ × ℕ)) (start : ℕ) (hs gs : List (Head T)) → AreKept rs start hs → AreKept ts start gs → tagged rs start hs ≡ tagged ts start gs
      → (hs ≡ gs) × (drop start rs ≡ drop start ts)
  kept_once rs ts start [] [] kept other same = (refl, drop_all start rs (omega arith) ∙ sym (drop_all start ts (omega arith)))
  kept_once rs ts start [] (g ∷ gs) kept other same = absurd (cc)
  kept_once rs ts start (h ∷ hs) [] kept other same = absurd (cc)
  kept_once rs ts start (h ∷ hs) (g ∷ gs) kept other same =
      let one : T × Ids = (h.tag, set_of_ranges (slice_range rs start h.end)) in
      let two : T × Ids = (g.tag, set_of_ranges (slice_range ts start g.end)) in
      let first : one ≡ two = cc in
      let tag : h.tag ≡ g.tag = ap (λ (p : T × Ids). p.0) first in
      let part : slice_range rs start h.end ≡ slice_range ts start g.end = sym kept.1 ∙ ap (λ (p : T × Ids). ranges_of_set p.1) first ∙ other.1 in
      let long : length (slice_range rs start h.end) ≡ h.end - start = length_part rs start h.end kept.0 (kept_within rs h.end hs kept.2) in
      let too : length (slice_range ts start g.end) ≡ g.end - start = length_part ts start g.end other.0 (kept_within ts g.end gs other.2) in
      let end : h.end ≡ g.end = omega (arith, ap length part, long, too, kept.0, other.0) in
      let more : tagged rs h.end hs ≡ tagged ts g.end gs = cc in
      let rest = kept_once rs ts h.end hs gs kept.2 (subst (λ n. AreKept ts n gs) (sym end) other.2) (more ∙ ap (λ n. tagged ts n gs) (sym end)) in (
        ap (λ (x : Head T). x ∷ hs) (same_head h g tag end) ∙ ap (λ xs. g ∷ xs) rest.0,
        cut rs start h.end kept.0 ∙ ap (λ xs. xs ++ drop h.end rs) part ∙ ap (λ xs. slice_range ts start g.end ++ xs) (rest.1 ∙ ap (λ n. drop n ts) end) ∙ sym (cut ts start g.end other.0),
      )

  wide_stays : (sets : List (T × Ids)) (p : T × Ids) (w : WideSet) → IsWideOf sets w → IsWideOf (sets ++ p ∷ []) w
  wide_stays sets p w is = (
    omega (arith, is.0, length-append sets (p ∷ [])),
    λ d. is.1 d ∙ sym (ap (λ (x : T × Ids). x.1) (get_or_append_left sets (p ∷ []) d w.at is.0)),
  )

  wide_last : (sets : List (T × Ids)) (p : T × Ids) (place : ℕ) → place ≡ length sets → IsWideOf (sets ++ p ∷ []) (wide_set place p.1)
  wide_last sets p place e = (
    omega (arith, e, length-append sets (p ∷ [])),
    λ d. sym (ap (λ (x : T × Ids). x.1) (ap (λ n. get_or (sets ++ p ∷ []) n d) e ∙ get_or-append_seam sets p [] d)),
  )

  wide_added : (old new : List WideSet) (sets : List (T × Ids)) (p : T × Ids) (place : ℕ) → AreWide old sets → place ≡ length sets → MayKeep old new place p.1
      → AreWide new (sets ++ p ∷ [])
  wide_added old new sets p place are e (inl same) =
      subst (λ ws. AreWide ws (sets ++ p ∷ [])) (sym same) (λ k d lt. wide_stays sets p (get_or old k d) (are k d lt))
  wide_added old new sets p place are e (inr more) =
      subst (λ ws. AreWide ws (sets ++ p ∷ [])) (sym more)
      (All-push (IsWideOf (sets ++ p ∷ [])) old (wide_set place p.1) (λ k d lt. wide_stays sets p (get_or old k d) (are k d lt)) (wide_last sets p place e))

  -- with one set more, those that are kept beside their ranges stay those at their places
  pub wide_more : (ranges new : List (ℕ × ℕ)) (heads : List (Head T)) (h : Head T) (old after : List WideSet) (place : ℕ) → AreKept ranges 0 heads
      → h.end ≡ length ranges + length new → AreWide old (tagged ranges 0 heads) → place ≡ length heads → MayKeep old after place (set_of_ranges new)
      → AreWide after (tagged (ranges ++ new) 0 (heads ++ h ∷ []))
  wide_more ranges new heads h old after place kept end are e may =
      subst (AreWide after) (sym (tagged_more ranges new 0 heads h kept end))
      (wide_added old after (tagged ranges 0 heads) (h.tag, set_of_ranges new) place are (e ∙ sym (length-tagged ranges 0 heads)) may)

  -- the numbers of the first sets, with those of one more
  pub in_any_more : (sets : List (T × Ids)) (k : ℕ) (all next : Ids) → k < length sets
      → ((d : T × Ids) (q : ℕ) → set.contains next q ≡ (set.contains all q || set.contains (get_or sets k d).1 q))
      → ((q : ℕ) → set.contains all q ≡ in_any (take k sets) q) → (q : ℕ) → set.contains next q ≡ in_any (take (k + 1) sets) q
  in_any_more [] k all next lt is same q = absurd (omega arith)
  in_any_more (x ∷ xs) k all next lt is same q =
      let sets : List (T × Ids) = x ∷ xs in
      is x q
      ∙ ap (λ b. b || set.contains (get_or sets k x).1 q) (same q)
      ∙ last_one (in_any (take k sets) q) (set.contains (get_or sets k x).1 q)
      ∙ sym (list_any-append (λ (p : T × Ids). set.contains p.1 q) (take k sets) (get_or sets k x ∷ []))
      ∙ sym (ap (λ xs. in_any xs q) (take_more sets k x lt))
    where
      last_one : (a b : Bool) → (a || b) ≡ (a || (b || false))
      last_one a true = refl
      last_one a false = refl
