-- Classes dealt one after another.
use Rattle.std.proofs.Common.{◌≡◌, ◌⊎◌, ℕ, zero, suc, ◌+◌, ◌<◌, ◌≤◌, Bool, true, false, ◌&&◌, List, [], ◌++◌, length, take, drop, replicate, get_or, refl, sym, ap, subst, ◌∙◌, inl, inr, arith}
use Rattle.std.specs.Prelude.{All, AllPairs}
use Rattle.std.specs.Ordering.{nat_cmp}
use Rattle.std.specs.FinSet as fin
use Rattle.std.proofs.lemmas.Bool.{cases_lt, true≢false}
use Rattle.std.proofs.lemmas.List.{get_or_past, get_or_default, length-replicate, append-nil, take_all, drop_all}
use Rattle.std.proofs.lemmas.List.Folds.{list_any_at}
use Rattle.cpu_set.specs.Ids.{Ids, IsDisjoint}
use Rattle.cpu_set.specs.Members.{InRange}
use Rattle.cpu_set.specs.PointwiseLaws.{contains-empty, contains-intersection, same_members}
use Rattle.certificate.specs.IsDealt.{Holds}
use Rattle.twins.specs.Holdings.{cell, share_of}
use Rattle.twins.specs.IsDeal.{IsDeal, IsClassDeal}
use Rattle.twins.specs.declared.holders.Share.{Share}
use Rattle.twins.proofs.Sets.{there}
use Rattle.twins.proofs.Deals.{at, none_held}

-- the first g classes are dealt
pub record Round (classes : List Ids) (holdings : List (List Share)) (rows : ℕ) (sets : List Ids) (g : ℕ) : Type 0 where
  pub long : length sets ≡ rows
  pub counts : (k h : ℕ) → h < g → k < length sets → fin.len (fin.intersection (at sets k) (at classes h)) ≡ cell holdings k h
  pub only : (k c : ℕ) → Holds sets k c → (h : ℕ) × (h < g) × Holds classes h c
  pub once : (j k c : ℕ) → Holds sets j c → Holds sets k c → j ≡ k
  pub rising : (h a b k : ℕ) → h < g → a < b → Holds classes h a → Holds classes h b → Holds sets k b → (j : ℕ) × (j ≤ k) × Holds sets j a

-- none are dealt where each row has the empty set
pub round_start :
    (classes : List Ids) (holdings : List (List Share)) (rows : ℕ) (sets : List Ids) → length sets ≡ rows
    → ((k c : ℕ) → Holds sets k c → ⊥) → Round classes holdings rows sets 0
round_start classes holdings rows sets long none = record {
  long = long;
  counts = λ k h lt within. absurd (omega arith);
  only = λ k c holds. absurd (none k c holds);
  once = λ j k c holds_j holds_k. absurd (none j c holds_j);
  rising = λ h a b k lt below in_a in_b holds. absurd (omega arith);
}

empty_sets : (n k : ℕ) → get_or (replicate n fin.empty) k fin.empty ≡ fin.empty {R = nat_cmp}
empty_sets zero k = refl
empty_sets (suc n) zero = refl
empty_sets (suc n) (suc k) = empty_sets n k

pub round_empty :
    (classes : List Ids) (holdings : List (List Share)) (rows : ℕ) (sets : List Ids) (one : Ids) → sets ≡ replicate rows one → one ≡ fin.empty
    → Round classes holdings rows sets 0
round_empty classes holdings rows sets one is none =
    round_start classes holdings rows sets (ap length is ∙ length-replicate rows one)
    (λ k c holds.
    true≢false (sym holds ∙ ap (λ l. fin.contains (get_or l k fin.empty) c) (is ∙ ap (replicate rows) none) ∙ ap (λ s. fin.contains s c) (empty_sets rows k) ∙ contains-empty c))

-- the class's holders are rows
pub rows_here :
    (holdings : List (List Share)) (rows g n : ℕ) (shares : List Share) → shares ≡ get_or holdings g [] → g < length holdings
    → All (All (λ (s : Share). s.row < rows)) holdings → rows ≡ n → All (λ (s : Share). s.row < n) shares
rows_here holdings rows g n shares is lt all same =
    subst (λ l. All (λ (s : Share). s.row < n) l) (sym is) (subst (λ m. All (λ (s : Share). s.row < m) (get_or holdings g [])) same (all g [] lt))

-- what is written back of a slice that is the whole
pub written_back : (n : ℕ) (new old slots : List Ids) → length new ≡ length slots → slots ≡ old → length slots ≡ n → take n (new ++ drop (length new) old) ≡ new
written_back n new old slots long is size =
    ap (λ l. take n (new ++ l)) (drop_all (length new) old (omega (arith, long, ap length is)))
    ∙ ap (take n) (append-nil new) ∙ take_all n new (omega (arith, long, size))

-- no CPU of the next class is held yet
pub next_free :
    (classes : List Ids) (holdings : List (List Share)) (rows : ℕ) (sets : List Ids) (g : ℕ) → AllPairs IsDisjoint classes → g < length classes
    → Round classes holdings rows sets g → (k c : ℕ) → Holds classes g c → Holds sets k c → ⊥
next_free classes holdings rows sets g apart in_classes so_far k c here holds =
    let held = so_far.only k c holds in
    apart held.0 g fin.empty held.1 in_classes c held.2 here

-- one class more
module _
    (classes : List Ids) (holdings : List (List Share)) (rows : ℕ) (old new : List Ids) (g : ℕ) (class : Ids) (shares : List Share)
    (apart : AllPairs IsDisjoint classes) (in_classes : g < length classes) (class_is : class ≡ at classes g) (shares_are : shares ≡ get_or holdings g [])
    (so_far : Round classes holdings rows old g) (deal : IsClassDeal class shares old new) where
  in_class : (c : ℕ) → Holds classes g c → fin.contains class c ≡ true
  in_class c here = ap (λ s. fin.contains s c) class_is ∙ here

  of_class : (c : ℕ) → fin.contains class c ≡ true → Holds classes g c
  of_class c here = ap (λ s. fin.contains s c) (sym class_is) ∙ here

  -- a CPU of an earlier class is not of this one
  outside : (h c : ℕ) → h < g → Holds classes h c → fin.contains class c ≡ false
  outside h c lt here = by_cases (fin.contains class c) refl
    where
      by_cases : (b : Bool) → fin.contains class c ≡ b → fin.contains class c ≡ false
      by_cases true too = absurd (apart h g fin.empty lt in_classes c here (of_class c too))
      by_cases false e = e

  same_before : (k h : ℕ) → h < g → fin.intersection (at new k) (at classes h) ≡ fin.intersection (at old k) (at classes h)
  same_before k h lt =
      same_members _ _ (λ c. contains-intersection (at new k) (at classes h) c ∙ one c (fin.contains (at classes h) c) refl ∙ sym (contains-intersection (at old k) (at classes h) c))
    where
      one : (c : ℕ) (b : Bool) → fin.contains (at classes h) c ≡ b → (fin.contains (at new k) c && fin.contains (at classes h) c) ≡ (fin.contains (at old k) c && fin.contains (at classes h) c)
      one c true here = ap (λ t. t && fin.contains (at classes h) c) (deal.others k c (outside h c lt here))
      one c false gone = rw gone (both_false (fin.contains (at new k) c) (fin.contains (at old k) c))
        where
          both_false : (a b : Bool) → (a && false) ≡ (b && false)
          both_false true true = refl
          both_false true false = refl
          both_false false true = refl
          both_false false false = refl

  split : (h : ℕ) → h < g + 1 → (h < g) ⊎ (h ≡ g)
  split h lt = elim (cases_lt h g) [ inl before ↦ inl before | inr after ↦ inr (omega arith) ]

  counts_after : (k h : ℕ) → (h < g) ⊎ (h ≡ g) → k < length new → fin.len (fin.intersection (at new k) (at classes h)) ≡ cell holdings k h
  counts_after k h (inl before) within = ap fin.len (same_before k h before) ∙ so_far.counts k h before (rw (← deal.long) within)
  counts_after k h (inr same) within =
      ap (λ i. fin.len (fin.intersection (at new k) (at classes i))) same ∙ ap (λ s. fin.len (fin.intersection (at new k) s)) (sym class_is)
      ∙ deal.counts k within ∙ ap (share_of k) shares_are ∙ ap (λ i. cell holdings k i) (sym same)

  before_or_now : (k c : ℕ) → Holds new k c → (Holds classes g c) ⊎ (Holds old k c × (fin.contains class c ≡ false))
  before_or_now k c holds = by_cases (fin.contains class c) refl
    where
      by_cases : (b : Bool) → fin.contains class c ≡ b → (Holds classes g c) ⊎ (Holds old k c × (fin.contains class c ≡ false))
      by_cases true here = inl (of_class c here)
      by_cases false gone = inr (sym (deal.others k c gone) ∙ holds, gone)

  only_after : (k c : ℕ) → (Holds classes g c) ⊎ (Holds old k c × (fin.contains class c ≡ false)) → (h : ℕ) × (h < g + 1) × Holds classes h c
  only_after k c (inl here) = (g, omega arith, here)
  only_after k c (inr before) =
      let held = so_far.only k c before.0 in
      (held.0, omega (arith, held.1), held.2)

  once_after : (j k c : ℕ) → Holds new j c → Holds new k c → (b : Bool) → fin.contains class c ≡ b → j ≡ k
  once_after j k c holds_j holds_k true here = deal.once j k c here holds_j holds_k
  once_after j k c holds_j holds_k false gone = so_far.once j k c (sym (deal.others j c gone) ∙ holds_j) (sym (deal.others k c gone) ∙ holds_k)

  rising_after : (h a b k : ℕ) → (h < g) ⊎ (h ≡ g) → a < b → Holds classes h a → Holds classes h b → Holds new k b → (j : ℕ) × (j ≤ k) × Holds new j a
  rising_after h a b k (inl before) lt in_a in_b holds =
      let lower = so_far.rising h a b k before lt in_a in_b (sym (deal.others k b (outside h b before in_b)) ∙ holds) in
      (lower.0, lower.1, deal.others lower.0 a (outside h a before in_a) ∙ lower.2)
  rising_after h a b k (inr same) lt in_a in_b holds =
      deal.rising a b k lt (in_class a (ap (λ i. fin.contains (at classes i) a) (sym same) ∙ in_a)) (in_class b (ap (λ i. fin.contains (at classes i) b) (sym same) ∙ in_b)) holds

  pub round_more : Round classes holdings rows new (g + 1)
  round_more = record {
    long = deal.long ∙ so_far.long;
    counts = λ k h lt within. counts_after k h (split h lt) within;
    only = λ k c holds. only_after k c (before_or_now k c holds);
    once = λ j k c holds_j holds_k. once_after j k c holds_j holds_k (fin.contains class c) refl;
    rising = λ h a b k lt below in_a in_b holds. rising_after h a b k (split h lt) below in_a in_b holds;
  }

-- all classes are dealt
pub round_end :
    (classes : List Ids) (holdings : List (List Share)) (rows : ℕ) (sets : List Ids) (g : ℕ) → All InRange classes → length holdings ≡ length classes → g ≡ length classes
    → Round classes holdings rows sets g → IsDeal classes holdings sets
round_end classes holdings rows sets g in_range same all so_far = record {
  in_range = λ k d lt c here.
      let holds : Holds sets k c = ap (λ s. fin.contains s c) (get_or_default sets k fin.empty d lt) ∙ here in
      let class = so_far.only k c holds in
      in_range class.0 fin.empty (there classes class.0 c class.2) c class.2;
  counts = λ k h within. elim (cases_lt h g) [ inl lt ↦ so_far.counts k h lt within | inr past ↦ no_class k h past ];
  only = λ k c holds.
      let class = so_far.only k c holds in
      list_any_at (λ (s : Ids). fin.contains s c) classes class.0 fin.empty (there classes class.0 c class.2) class.2;
  apart = λ i j d lt within c has_i has_j.
      let holds_i : Holds sets i c = ap (λ s. fin.contains s c) (get_or_default sets i fin.empty d (omega arith)) ∙ has_i in
      let holds_j : Holds sets j c = ap (λ s. fin.contains s c) (get_or_default sets j fin.empty d within) ∙ has_j in
      let equal : i ≡ j = so_far.once i j c holds_i holds_j in
      absurd (omega arith);
  rising = λ h a b k lt in_a in_b holds. so_far.rising h a b k (rw all (there classes h a in_a)) lt in_a in_b holds;
}
  where
    no_class : (k h : ℕ) → g ≤ h → fin.len (fin.intersection (at sets k) (at classes h)) ≡ cell holdings k h
    no_class k h past =
        none_held (at sets k) (at classes h) (λ c here holds. true≢false (sym here ∙ ap (λ s. fin.contains s c) (get_or_past classes h fin.empty (omega arith)) ∙ contains-empty c))
        ∙ sym (ap (share_of k) (get_or_past holdings h [] (omega arith)))
