-- Members that are left out of a shortage, and those that are known to be needed.
use Rattle.std.proofs.Common.{◌≡◌, ℕ, ◌<◌, Bool, true, false, List, [], ◌∷◌, ◌++◌, length, get_or, set, replicate, take, drop, refl, sym, ap, ◌∙◌, subst, inl, inr, ◌⊎◌, arith}
use Rattle.std.specs.Prelude.{All, Contains}
use Rattle.std.proofs.lemmas.Bool.{cases_lt, both_ways}
use Rattle.std.proofs.lemmas.List.{get_or_past, get_or-replicate, get_or-set_same, length-replicate}
use Rattle.std.proofs.lemmas.List.Elements.{All-contains, Contains-get_or}
use Rattle.std.proofs.Math.Seq.{take-append_seam}
use Rattle.cpu_set.specs.Ids.{Ids}
use Rattle.certificate.specs.IsShortage.{chosen, asked, IsShortage}
use Rattle.certificate.specs.RowView.{RowView}
use Rattle.hall.specs.Needed.{others, AreKnown, AreNeeded, FewerHavePlans, IsNeeded, RootIsNeeded}
use Rattle.hall.specs.OthersLaws.{others_rise, others_all, in_others, of_others, not_in_others}
use Rattle.blame.specs.Marking.{is_marked, IsOwned, owner}
use Rattle.blame.specs.Parts.{AreSetsOf, IsShortageOf}
use Rattle.blame.proofs.MarkingLemmas.{marked_cases}
use Rattle.blame.proofs.PartLemmas.{plan_of_sets}

-- a shortage has a member
pub some_member : (rows : List RowView) (members : List ℕ) → IsShortage rows members → 0 < length members
some_member rows [] shortage =
    let none : asked (chosen rows []) ≡ 0 = refl in
    absurd (omega (arith, shortage.short, none))
some_member rows (k ∷ members) shortage = omega arith

-- ---- marks

none_marked : (n k : ℕ) → is_marked (replicate n false) k ≡ true → ⊥
none_marked n k on = elim (cases_lt k n) [
  | inl lt ↦ both_ways (is_marked (replicate n false) k) (get_or-replicate n k false false lt) on
  | inr past ↦
      let long : length (replicate {A = Bool} n false) ≡ n = length-replicate {A = Bool} n false in
      both_ways (is_marked (replicate n false) k) (get_or_past (replicate n false) k false (omega (arith, past, long))) on
]

pub nothing_marked : (known : List Bool) (n k : ℕ) → known ≡ replicate n false → is_marked known k ≡ true → ⊥
nothing_marked known n k is on = none_marked n k (sym (ap (λ marks. is_marked marks k) is) ∙ on)

-- the root alone is marked
pub root_known :
    (rows : List RowView) (members own : List ℕ) (root lacking : ℕ) (known marks : List Bool) → RootIsNeeded → IsOwned rows members own root lacking
    → ((k : ℕ) → is_marked known k ≡ true → ⊥) → root < length known → marks ≡ set known root true → AreKnown rows members root (is_marked marks)
root_known rows members own root lacking known marks law owned none lt is =
    subst (λ (ms : List Bool). AreKnown rows members root (is_marked ms)) (sym is)
    (record {
      root_known = get_or-set_same known root true false lt;
      there = λ k on. subst (Contains members) (sym (only k (marked_cases known root k on))) owned.part.there;
      needed = λ k on.
          subst (IsNeeded rows members) (sym (only k (marked_cases known root k on)))
          (law rows members (owner own) root lacking owned.rising owned.there owned.part);
    })
  where
    only : (k : ℕ) → (k ≡ root) ⊎ (is_marked known k ≡ true) → k ≡ root
    only k (inl e) = e
    only k (inr on) = absurd (none k on)

-- marks that were written back are those that were made
pub written_marks : (old new : List Bool) (n k : ℕ) → length new ≡ n → is_marked (take n (new ++ drop (length new) old)) k ≡ true → is_marked new k ≡ true
written_marks old new n k long on =
    let whole : take n (new ++ drop (length new) old) ≡ new = ap (λ m. take m (new ++ drop (length new) old)) (sym long) ∙ take-append_seam new (drop (length new) old) in
    subst (λ (marks : List Bool). is_marked marks k ≡ true) whole on

-- the same rows by another name
pub needed_here :
    (rows problem : List RowView) (few own : List ℕ) (root lacking : ℕ) (known : List Bool) → rows ≡ problem → IsOwned problem few own root lacking
    → ((members : List ℕ) → IsOwned rows members own root lacking → (k : ℕ) → is_marked known k ≡ true → IsNeeded rows members k)
    → (k : ℕ) → is_marked known k ≡ true → IsNeeded problem few k
needed_here rows problem few own root lacking known same owned by =
    subst (λ (rs : List RowView). (k : ℕ) → is_marked known k ≡ true → IsNeeded rs few k) same
    (by few (subst (λ (rs : List RowView). IsOwned rs few own root lacking) (sym same) owned))

-- ---- one member is left out, or can't be

-- what is needed is still so among fewer members
pub still_needed :
    (rows : List RowView) (members fewer : List ℕ) (m k : ℕ) → FewerHavePlans → IsShortage rows members → IsShortageOf rows (others members m) fewer
    → IsNeeded rows members k → IsNeeded rows fewer k
still_needed rows members fewer m k law shortage less needed =
    law rows (others members k) (others fewer k) (others_rise members k shortage.rising) (others_rise fewer k less.shortage.rising)
    (others_all (λ j. j < length rows) members k shortage.there) within needed
  where
    within : All (Contains (others members k)) (others fewer k)
    within i d lt =
        let here : Contains (others fewer k) (get_or (others fewer k) i d) = Contains-get_or (others fewer k) i d lt in
        let in_rest : Contains (others members m) (get_or (others fewer k) i d) =
        All-contains (Contains (others members m)) fewer (get_or (others fewer k) i d) less.within (of_others fewer k (get_or (others fewer k) i d) here) in
        in_others members k (get_or (others fewer k) i d) (of_others members m (get_or (others fewer k) i d) in_rest)
        (λ e. not_in_others fewer k (subst (Contains (others fewer k)) e here))

-- members of the fewer were members
pub still_member : (rows : List RowView) (members fewer : List ℕ) (m k : ℕ) → IsShortageOf rows (others members m) fewer → Contains fewer k → Contains members k
still_member rows members fewer m k less here = of_others members m k (All-contains (Contains (others members m)) fewer k less.within here)

-- who is left out is no member
pub left_out : (rows : List RowView) (members fewer : List ℕ) (m : ℕ) → IsShortageOf rows (others members m) fewer → Contains fewer m → ⊥
left_out rows members fewer m less here = not_in_others members m (All-contains (Contains (others members m)) fewer m less.within here)

-- the others have a plan
pub needed_of_sets :
    (rows : List RowView) (members : List ℕ) (m demand : ℕ) (sets : List Ids) → All (λ k. k < length rows) members
    → AreSetsOf rows (others members m) m demand sets → IsNeeded rows members m
needed_of_sets rows members m demand sets there its =
    plan_of_sets rows (others members m) m demand sets its (others_all (λ k. k < length rows) members m there)
    (λ i lt e. not_in_others members m (subst (Contains (others members m)) e (Contains-get_or (others members m) i 0 lt)))

pub needed_more :
    (rows : List RowView) (members : List ℕ) (known : List Bool) (m k : ℕ) → IsNeeded rows members m
    → ((j : ℕ) → is_marked known j ≡ true → IsNeeded rows members j) → is_marked (set known m true) k ≡ true → IsNeeded rows members k
needed_more rows members known m k here before on = elim (marked_cases known m k on) [
  | inl e ↦ subst (IsNeeded rows members) (sym e) here
  | inr was ↦ before k was
]

-- each member is known to be needed
pub all_needed :
    (rows : List RowView) (members : List ℕ) (known : List Bool) → IsShortage rows members → ((k : ℕ) → is_marked known k ≡ true → IsNeeded rows members k)
    → ((k : ℕ) → k < length rows → Contains members k → is_marked known k ≡ true) → AreNeeded rows members
all_needed rows members known shortage needed settled i d lt =
    let here : Contains members (get_or members i d) = Contains-get_or members i d lt in
    needed (get_or members i d) (settled (get_or members i d) (All-contains (λ k. k < length rows) members (get_or members i d) shortage.there here) here)
