-- What a search marked and labelled, cleared place by place.
use Rattle.std.proofs.Common.{◌≡◌, ℕ, ◌+◌, ◌<◌, ◌≤◌, Bool, true, false, Option, Some, None, List, length, get_or, set, ◌⊎◌, refl, sym, ap, ◌∙◌, subst, inl, inr, arith}
use Rattle.std.proofs.lemmas.List.{length-set, get_or-set_same, get_or-set_other}
use Rattle.std.proofs.lemmas.Bool.{cases_eq, cases_Bool, both_ways}
use Rattle.transport.specs.Numbers.{number, is_marked, IsIn}
use Rattle.transport.specs.Searches.{never, AreNeverDue}
use Rattle.transport.specs.Settled.{IsForgotten}
use Rattle.transport.specs.declared.labels.Label.{Label}

-- the number stands in the list, not before that place
pub record IsToCome (ns : List ℕ) (from n : ℕ) : Type 0 where
  pub index : ℕ
  pub later : from ≤ index
  pub within : index < length ns
  pub is : number ns index ≡ n

to_come : (ns : List ℕ) (n : ℕ) → IsIn ns n → IsToCome ns 0 n
to_come ns n h = record { index = h.index; later = omega arith; within = h.within; is = h.is }

still_to_come : (ns : List ℕ) (i n : ℕ) → (n ≡ number ns i → ⊥) → IsToCome ns i n → IsToCome ns (i + 1) n
still_to_come ns i n ne h = elim (cases_eq h.index i) [
  | inl same ↦ absurd (ne (sym h.is ∙ ap (λ j. number ns j) same))
  | inr other ↦ record { index = h.index; later = omega (arith, h.later, other); within = h.within; is = h.is }
]

none_to_come : (ns : List ℕ) (from n : ℕ) → length ns ≤ from → IsToCome ns from n → ⊥
none_to_come ns from n past h = omega (arith, past, h.later, h.within)

-- the marks that are left stand at places to come
pub record Unmarking (old marks : List Bool) (places : List ℕ) (from : ℕ) : Type 0 where
  pub long : length marks ≡ length old
  pub left : (k : ℕ) → is_marked marks k ≡ true → IsToCome places from k

pub unmarking_none : (marks : List Bool) (places : List ℕ) → ((k : ℕ) → is_marked marks k ≡ true → IsIn places k) → Unmarking marks marks places 0
unmarking_none marks places all = record { long = refl; left = λ k on. to_come places k (all k on) }

pub unmarking_more : (old marks : List Bool) (places : List ℕ) (i n : ℕ) → Unmarking old marks places i → n ≡ number places i → number places i < length old → Unmarking old (set marks n false) places (i + 1)
unmarking_more old marks places i n h is within = record {
  long = length-set marks n false ∙ h.long;
  left = λ k on. elim (cases_eq k n) [
    | inl same ↦ absurd (both_ways _ (ap (is_marked (set marks n false)) same ∙ get_or-set_same marks n false false (omega (arith, is, within, h.long))) on)
    | inr other ↦ still_to_come places i k (λ e. other (e ∙ sym is)) (h.left k (sym (get_or-set_other marks n k false false other) ∙ on))
  ];
}

pub unmarking_end : (old marks : List Bool) (places : List ℕ) (from : ℕ) → Unmarking old marks places from → length places ≤ from → (k : ℕ) → is_marked marks k ≡ false
unmarking_end old marks places from h past k = elim (cases_Bool (is_marked marks k)) [
  | inl on ↦ absurd (none_to_come places from k past (h.left k on))
  | inr off ↦ off
]

-- of the classes so far none is labelled any more
abbrev pub label_at : List (Option Label) → ℕ → Option Label
label_at of_class g = get_or of_class g None

pub record Forgetting (old of_class : List (Option Label)) (classes : List ℕ) (upto : ℕ) : Type 0 where
  pub long : length of_class ≡ length old
  pub none : (i : ℕ) → i < upto → label_at of_class (number classes i) ≡ None
  pub left : (g : ℕ) (n : Label) → label_at of_class g ≡ Some n → label_at old g ≡ Some n

pub forgetting_none : (of_class : List (Option Label)) (classes : List ℕ) → Forgetting of_class of_class classes 0
forgetting_none of_class classes = record { long = refl; none = λ i lt. absurd (omega arith); left = λ g n is. is }

not_labelled : (o : Option Label) (n : Label) → o ≡ Some n → o ≡ None → ⊥
not_labelled o n some none = let e : Some n ≡ None = sym some ∙ none in cc

pub forgetting_more : (old of_class : List (Option Label)) (classes : List ℕ) (i g : ℕ) → Forgetting old of_class classes i → g ≡ number classes i → number classes i < length old → Forgetting old (set of_class g None) classes (i + 1)
forgetting_more old of_class classes i g h is within = record {
  long = length-set of_class g None ∙ h.long;
  none = λ j lt. elim (cases_eq (number classes j) g) [
    | inl same ↦ here (number classes j) same
    | inr other ↦ elim (cases_eq j i) [
      | inl last ↦ absurd (other (ap (number classes) last ∙ sym is))
      | inr before ↦ get_or-set_other of_class g (number classes j) None None other ∙ h.none j (omega (arith, lt, before))
    ]
  ];
  left = λ k n its. elim (cases_eq k g) [
    | inl same ↦ absurd (not_labelled _ n its (here k same))
    | inr other ↦ h.left k n (sym (get_or-set_other of_class g k None None other) ∙ its)
  ];
}
  where
    here : (k : ℕ) → k ≡ g → label_at (set of_class g None) k ≡ None
    here k same = ap (label_at (set of_class g None)) same ∙ get_or-set_same of_class g None None (omega (arith, is, within, h.long))

pub forgetting_end : (old of_class : List (Option Label)) (classes : List ℕ) (upto : ℕ) → Forgetting old of_class classes upto → length classes ≤ upto → IsForgotten old of_class classes
forgetting_end old of_class classes upto h past = record {
  long = h.long;
  none = λ g p. subst (λ x. label_at of_class x ≡ None) p.is (h.none p.index (omega (arith, p.within, past)));
  left = h.left;
}

-- a class more with no label is never due
pub never_more : (of_class : List (Option Label)) (due : List ℕ) (g : ℕ) → g < length of_class → length due ≡ length of_class → AreNeverDue of_class due → AreNeverDue (set of_class g None) (set due g never)
never_more of_class due g lt long h k within none = elim (cases_eq k g) [
  | inl same ↦ ap (number (set due g never)) same ∙ get_or-set_same due g never 0 (omega (arith, lt, long))
  | inr other ↦ get_or-set_other due g k never 0 other ∙ h k (omega (arith, within, length-set of_class g None)) (sym (get_or-set_other of_class g k None None other) ∙ none)
]

-- each labelled class stands in one list or in the other
pub both_forgotten : (old mid new : List (Option Label)) (xs ys : List ℕ) → ((g : ℕ) (n : Label) → label_at old g ≡ Some n → IsIn xs g ⊎ IsIn ys g) → IsForgotten old mid xs → IsForgotten mid new ys
    → (g : ℕ) → label_at new g ≡ None
both_forgotten old mid new xs ys all f h g = none (label_at new g) refl
  where
    none : (o : Option Label) → label_at new g ≡ o → o ≡ None
    none None is = refl
    none (Some n) is = elim (all g n (f.left g n (h.left g n is))) [
      | inl x ↦ absurd (not_labelled _ n (h.left g n is) (f.none g x))
      | inr y ↦ absurd (not_labelled _ n is (h.none g y))
    ]
