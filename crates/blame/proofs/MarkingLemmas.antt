-- One CPU more is seen, and one row more is marked.
use Rattle.std.proofs.Common.{◌≡◌, ℕ, ◌+◌, ◌<◌, ◌≤◌, Bool, true, false, cond, ◌&&◌, ◌||◌, List, [], ◌∷◌, ◌++◌, length, get_or, set, nat_lt, not, ◌-◌, replicate, is_some, refl, sym, ap, ◌∙◌, subst, inl, inr, ◌⊎◌, arith}
use Rattle.std.specs.Prelude.{◌==◌, Contains}
use Rattle.std.specs.FinSet as ids
use Rattle.std.proofs.lemmas.Bool.{cases_eq, cases_lt, eq-eqb, eqb-true, ne_eqb, both_ways, and_parts, and_right, or_left, or_from, or_cases, not-true, ltb-true}
use Rattle.std.proofs.lemmas.List.{get_or-set_same, get_or-set_other, length-set, get_or_past, length_push, get_or_push, get_or_append_left, get_or_default, get_or-replicate, length-replicate}
use Rattle.cpu_set.specs.Ids.{Ids}
use Rattle.cpu_set.specs.Members.{IsCpu}
use Rattle.cpu_set.specs.Those.{those}
use Rattle.cpu_set.specs.ThoseLemmas.{contains-those}
use Rattle.cpu_set.specs.PointwiseLaws.{contains-empty, contains-insert, contains-remove, contains-difference}
use Rattle.std.specs.Cmp.{nat_cmp_total}
use Rattle.cpu_set.specs.declared.TheConstants.{CPU_LIMIT}
use Rattle.certificate.specs.RowView.{RowView}
use Rattle.certificate.specs.Weight.{weight}
use Rattle.hall.specs.AskingLaws.{may_here}
use Rattle.hall.specs.CountingLaws.{count_change}
use Rattle.hall.specs.Needed.{IsNeeded, AreKnown, IsOpenToKnown, HoldsOfKnown, HoldersAreNeeded}
use Rattle.blame.specs.Marking.{owner, is_marked, IsOwned, held_in, IsMarking, IsMore, AreQueued}

pub marked_below : (marks : List Bool) (k : ℕ) → is_marked marks k ≡ true → k < length marks
marked_below marks k on = elim (cases_lt k (length marks)) [
  | inl lt ↦ lt
  | inr past ↦ absurd (both_ways _ (get_or_past marks k false past) on)
]

-- after one more mark: the row itself, and the others
pub marked_cases : (marks : List Bool) (k j : ℕ) → is_marked (set marks k true) j ≡ true → (j ≡ k) ⊎ (is_marked marks j ≡ true)
marked_cases marks k j on = elim (cases_eq j k) [ inl e ↦ inl e | inr ne ↦ inr (sym (get_or-set_other marks k j true false ne) ∙ on) ]

pub marks_kept : (marks : List Bool) (k : ℕ) → k < length marks → IsMore marks (set marks k true)
marks_kept marks k lt j on = elim (cases_eq j k) [
  | inl e ↦ subst (λ i. is_marked (set marks k true) i ≡ true) (sym e) (get_or-set_same marks k true false lt)
  | inr ne ↦ get_or-set_other marks k j true false ne ∙ on
]

pub still_open : (rows : List RowView) (old new : List Bool) (c : ℕ) → IsMore old new → IsOpenToKnown rows (is_marked old) c → IsOpenToKnown rows (is_marked new) c
still_open rows old new c more at = (at.0, more at.0 at.1, at.2)

-- a CPU more is seen
held_more :
    (own : List ℕ) (seen : Ids) (cpu k : ℕ) → IsCpu cpu → ids.contains seen cpu ≡ false
    → held_in own (ids.insert seen cpu) k ≡ held_in own seen k + cond {A = ℕ} (owner own cpu == k) 1 0
held_more own seen cpu k is_cpu unseen =
    let change =
    count_change (λ c. (owner own c == k) && ids.contains (ids.insert seen cpu) c) (λ c. (owner own c == k) && ids.contains seen c) CPU_LIMIT cpu is_cpu
    (λ c ne. ap (λ b. (owner own c == k) && b) (contains-insert seen cpu c ∙ ap (λ b. b || ids.contains seen c) (ne_eqb c cpu ne))) in
    let was : cond {A = ℕ} ((owner own cpu == k) && ids.contains seen cpu) 1 0 ≡ 0 =
    ap (λ b. cond {A = ℕ} b 1 0) (and_right (owner own cpu == k) (ids.contains seen cpu) unseen) in
    let now : cond {A = ℕ} ((owner own cpu == k) && ids.contains (ids.insert seen cpu) cpu) 1 0 ≡ cond {A = ℕ} (owner own cpu == k) 1 0 =
    ap (λ b. cond {A = ℕ} ((owner own cpu == k) && b) 1 0) (contains-insert seen cpu cpu ∙ or_left (cpu == cpu) (ids.contains seen cpu) (eq-eqb cpu cpu refl))
    ∙ ap (λ b. cond {A = ℕ} b 1 0) (and_true (owner own cpu == k)) in
    omega (arith, change, was, now)
  where
    and_true : (b : Bool) → (b && true) ≡ b
    and_true true = refl
    and_true false = refl

pub seen_more :
    (rows : List RowView) (members own : List ℕ) (root : ℕ) (known : List Bool) (seen : Ids) (of_row more_of_row : List ℕ) (cpu : ℕ)
    → IsMarking rows members own root known seen of_row → IsOpenToKnown rows (is_marked known) cpu → IsCpu cpu → ids.contains seen cpu ≡ false
    → ((k : ℕ) → get_or more_of_row k 0 ≤ get_or of_row k 0 + cond {A = ℕ} (owner own cpu == k) 1 0)
    → IsMarking rows members own root known (ids.insert seen cpu) more_of_row
seen_more rows members own root known seen of_row more_of_row cpu m at is_cpu unseen few = record {
  long = m.long;
  known_are = m.known_are;
  seen_open = λ c on. opened c (or_cases (c == cpu) (ids.contains seen c) (sym (contains-insert seen cpu c) ∙ on));
  counted = λ k. omega (arith, m.counted k, few k, held_more own seen cpu k is_cpu unseen);
}
  where
    opened : (c : ℕ) → ((c == cpu) ≡ true) ⊎ (ids.contains seen c ≡ true) → IsOpenToKnown rows (is_marked known) c
    opened c (inl e) = subst (IsOpenToKnown rows (is_marked known)) (sym (eqb-true c cpu e)) at
    opened c (inr before) = m.seen_open c before

-- no row is counted more often
pub none_counted : (own of_row : List ℕ) (cpu k : ℕ) → get_or of_row k 0 ≤ get_or of_row k 0 + cond {A = ℕ} (owner own cpu == k) 1 0
none_counted own of_row cpu k = omega arith

-- the holder is counted once more at most
pub one_counted :
    (own of_row : List ℕ) (cpu row n : ℕ) → row ≡ owner own cpu → row < length of_row → n ≤ get_or of_row row 0 + 1
    → (k : ℕ) → get_or (set of_row row n) k 0 ≤ get_or of_row k 0 + cond {A = ℕ} (owner own cpu == k) 1 0
one_counted own of_row cpu row n its lt few k = elim (cases_eq k row) [
  | inl e ↦
      let here : get_or (set of_row row n) k 0 ≡ n = ap (λ j. get_or (set of_row row n) j 0) e ∙ get_or-set_same of_row row n 0 lt in
      let same : get_or of_row k 0 ≡ get_or of_row row 0 = ap (λ j. get_or of_row j 0) e in
      let one : cond {A = ℕ} (owner own cpu == k) 1 0 ≡ 1 = ap (λ b. cond {A = ℕ} b 1 0) (eq-eqb (owner own cpu) k (sym its ∙ sym e)) in
      omega (arith, here, same, one, few)
  | inr ne ↦ omega (arith, get_or-set_other of_row row k n 0 ne)
]

-- a row more is marked, which holds enough of what was seen
pub marked_more :
    (rows : List RowView) (members own : List ℕ) (root lacking : ℕ) (known : List Bool) (seen : Ids) (of_row : List ℕ) (cpu row : ℕ)
    → HoldersAreNeeded → IsOwned rows members own root lacking → IsMarking rows members own root known seen of_row
    → IsCpu cpu → row ≡ owner own cpu → row < length known → lacking ≤ get_or of_row row 0
    → IsMarking rows members own root (set known row true) seen of_row
marked_more rows members own root lacking known seen of_row cpu row law owned m is_cpu its lt enough = record {
  long = length-set known row true ∙ m.long;
  known_are = record {
    root_known = marks_kept known row lt root m.known_are.root_known;
    there = λ k on. there k (marked_cases known row k on);
    needed = λ k on. needed k (marked_cases known row k on);
  };
  seen_open = λ c on. still_open rows known (set known row true) c (marks_kept known row lt) (m.seen_open c on);
  counted = m.counted;
}
  where
    in_rows : owner own cpu < length rows
    in_rows = omega (arith, its, lt, m.long)

    there : (k : ℕ) → (k ≡ row) ⊎ (is_marked known k ≡ true) → Contains members k
    there k (inl e) = subst (Contains members) (sym (e ∙ its)) (owned.holders cpu is_cpu in_rows)
    there k (inr before) = m.known_are.there k before

    in_it : (c : ℕ) → ids.contains (those (λ x. (owner own x == row) && ids.contains seen x) CPU_LIMIT) c ≡ true → (c < CPU_LIMIT) × ((owner own c ≡ row) × (ids.contains seen c ≡ true))
    in_it c member =
        let parts = and_parts (nat_lt c CPU_LIMIT) _ (sym (contains-those (λ x. (owner own x == row) && ids.contains seen x) CPU_LIMIT c) ∙ member) in
        let both = and_parts (owner own c == row) (ids.contains seen c) parts.1 in
        (ltb-true c CPU_LIMIT parts.0, (eqb-true (owner own c) row both.0, both.1))

    holds : HoldsOfKnown rows (is_marked known) (owner own) row lacking
    holds = record {
      cpus = those (λ x. (owner own x == row) && ids.contains seen x) CPU_LIMIT;
      in_range = λ c member. (in_it c member).0;
      its = λ c member. ((in_it c member).1.0, m.seen_open c (in_it c member).1.1);
      enough = omega (arith, enough, m.counted row);
    }

    needed : (k : ℕ) → (k ≡ row) ⊎ (is_marked known k ≡ true) → IsNeeded rows members k
    needed k (inr before) = m.known_are.needed k before
    needed k (inl e) =
        subst (IsNeeded rows members) (sym e)
        (law rows members (owner own) root lacking (is_marked known) row owned.rising owned.there owned.part m.known_are holds)

-- a row more in the queue
pub queued_more :
    (old new : List Bool) (queue more : List ℕ) (row : ℕ) → IsMore old new → is_marked new row ≡ true → AreQueued old queue
    → more ≡ queue ++ row ∷ [] → AreQueued new more
queued_more old new queue more row kept on before is i lt = elim (cases_lt i (length queue)) [
  | inl early ↦
      let same : get_or more i 0 ≡ get_or queue i 0 = ap (λ q. get_or q i 0) is ∙ get_or_append_left queue (row ∷ []) 0 i early in
      ap (is_marked new) same ∙ kept (get_or queue i 0) (before i early)
  | inr late ↦
      let last : length queue ≡ i = omega (arith, lt, late, ap length is, length_push queue row) in
      let same : get_or more i 0 ≡ row = ap (λ q. get_or q i 0) is ∙ get_or_push queue row 0 i last in
      ap (is_marked new) same ∙ on
]

-- ---- the CPUs of a set, one after another

pub left_fewer : (before left : Ids) (cpu : ℕ) → left ≡ ids.remove before cpu → ids.contains before cpu ≡ true → ids.len left < ids.len before
left_fewer before left cpu less on = omega (arith, fewer, some)
  where
    fewer : ids.len left ≡ ids.len before - 1
    fewer = ap ids.len less ∙ ids.len-remove nat_cmp_total before cpu ∙ ap (λ b. cond b (ids.len before - 1) (ids.len before)) on

    some : ids.len before ≡ 0 → ⊥
    some none = both_ways _ (ap (λ s. ids.contains s cpu) (ids.empty_of_len before none) ∙ contains-empty cpu) on

-- what is left is of the set, and was not seen
abbrev pub AreUnseen : Ids → Ids → Ids → Type 0
AreUnseen cpus seen left = (c : ℕ) → ids.contains left c ≡ true → (ids.contains cpus c ≡ true) × (ids.contains seen c ≡ false)

pub unseen_first : (cpus seen left : Ids) → left ≡ ids.difference cpus seen → AreUnseen cpus seen left
unseen_first cpus seen left is c on =
    let parts = and_parts (ids.contains cpus c) (not (ids.contains seen c)) (sym (contains-difference cpus seen c) ∙ subst (λ s. ids.contains s c ≡ true) is on) in
    (parts.0, not-true _ parts.1)

pub unseen_next :
    (cpus seen more before left : Ids) (cpu : ℕ) → AreUnseen cpus seen before → left ≡ ids.remove before cpu → more ≡ ids.insert seen cpu → AreUnseen cpus more left
unseen_next cpus seen more before left cpu unseen less is c on =
    let parts = and_parts (not (c == cpu)) (ids.contains before c) (sym (contains-remove before cpu c) ∙ subst (λ s. ids.contains s c ≡ true) less on) in
    let was = unseen c parts.1 in
    (was.0, subst (λ s. ids.contains s c ≡ false) (sym is) (contains-insert seen cpu c ∙ or_from (c == cpu) (ids.contains seen c) (not-true _ parts.0) was.1))

-- before any CPU is seen
pub none_seen :
    (rows : List RowView) (members own : List ℕ) (root : ℕ) (known : List Bool) (seen : Ids) (of_row : List ℕ)
    → length known ≡ length rows → AreKnown rows members root (is_marked known) → seen ≡ ids.empty → ((k : ℕ) → get_or of_row k 0 ≡ 0)
    → IsMarking rows members own root known seen of_row
none_seen rows members own root known seen of_row long known_are none zero = record {
  long = long;
  known_are = known_are;
  seen_open = λ c on. absurd (both_ways _ (ap (λ s. ids.contains s c) none ∙ contains-empty c) on);
  counted = λ k. omega (arith, zero k);
}

-- each row counts none
pub all_zero : (of_row : List ℕ) (n k : ℕ) → of_row ≡ replicate n 0 → get_or of_row k 0 ≡ 0
all_zero of_row n k zero = ap (λ xs. get_or xs k 0) zero ∙ elim (cases_lt k n) [
  | inl lt ↦ get_or-replicate n k 0 0 lt
  | inr past ↦ get_or_past (replicate n 0) k 0 (let long : length (replicate {A = ℕ} n 0) ≡ n = length-replicate {A = ℕ} n 0 in omega (arith, past, long))
]

-- what stands in the queue is marked, so it is one of the rows
pub queued_row : (known : List Bool) (queue : List ℕ) (step row : ℕ) → AreQueued known queue → step < length queue → row ≡ get_or queue step row → is_marked known row ≡ true
queued_row known queue step row queued lt is = ap (is_marked known) (is ∙ get_or_default queue step row 0 lt) ∙ queued step lt

-- what a marked row may have
pub open_to_row :
    (rows : List RowView) (known : List Bool) (cpus : Ids) (k : ℕ) (row : RowView) → is_marked known k ≡ true → k < length rows → row ≡ get_or rows k row
    → ((c : ℕ) → ids.contains cpus c ≡ is_some (weight row c)) → (c : ℕ) → ids.contains cpus c ≡ true → IsOpenToKnown rows (is_marked known) c
open_to_row rows known cpus k row on lt is its c member =
    (k, on, may_here rows k c row lt ∙ ap (λ (r : RowView). is_some (weight r c)) (sym is) ∙ sym (its c) ∙ member)
