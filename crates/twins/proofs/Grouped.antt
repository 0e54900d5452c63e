-- Classes of twins: sets that all rows have split.
use Rattle.std.proofs.Common.{◌≡◌, ℕ, ◌+◌, ◌<◌, Bool, true, false, cond, ◌||◌, is_some, List, [], ◌∷◌, ◌++◌, length, take, get_or, refl, sym, ap, subst, ◌∙◌, inl, inr, arith}
use Rattle.std.specs.FinSet as set
use Rattle.std.specs.List.{All}
use Rattle.std.proofs.lemmas.List.{take_all, take_more}
use Rattle.std.proofs.lemmas.List.Elements.{All-nil, All-cons, All-head, All-tail, All-append, All-same}
use Rattle.std.proofs.lemmas.List.Sums.{sum_by-append, sum_by_push, sum_by-cons}
use Rattle.cpu_set.specs.Ids.{Ids}
use Rattle.cpu_set.specs.Members.{InRange}
use Rattle.certificate.specs.RowView.{RowView}
use Rattle.certificate.specs.Weight.{weight}
use Rattle.certificate.specs.IsDealt.{AreTwins}
use Rattle.certificate.specs.IsShortage.{is_offered}
use Rattle.twins.specs.IsGrouping.{IsGrouping}
use Rattle.twins.specs.IsPart.{IsPart, IsUnsplit, ArePieces, IsSplit, times_in}
use Rattle.twins.proofs.Sets.{there, empty_contains}
use Rattle.twins.proofs.Splitting.{twins_before}
use Rattle.twins.proofs.Times.{apart_of_times, is_held_of_times, in_times}

-- twins have a weight in the same rows
offered_twin : (rows : List RowView) (a b : ℕ) → AreTwins rows a b → is_offered rows a ≡ is_offered rows b
offered_twin [] a b twins = refl
offered_twin (row ∷ rows) a b twins =
    let here : weight row a ≡ weight row b = All-head (λ (r : RowView). weight r a ≡ weight r b) row rows twins in
    let rest : is_offered rows a ≡ is_offered rows b = offered_twin rows a b (All-tail (λ (r : RowView). weight r a ≡ weight r b) row rows twins) in
    ap (λ w. is_some w || is_offered rows a) here ∙ ap (λ t. is_some (weight row b) || t) rest

whole_rows : (rows : List RowView) → take (length rows) rows ≡ rows
whole_rows rows = take_all (length rows) rows (omega arith)

-- sets that have each CPU with a weight once, of twins to all rows with all their twins, are the classes
pub grouping :
    (rows : List RowView) (sets : List Ids) → All (IsPart rows (length rows)) sets → ((c : ℕ) → times_in sets c ≡ cond (is_offered rows c) 1 0)
    → IsGrouping rows sets
grouping rows sets parts once = record {
  in_range = λ k d lt. (parts k d lt).in_range;
  not_empty = λ k d lt. (parts k d lt).some;
  apart = apart_of_times sets (is_offered rows) once;
  whole = is_held_of_times sets (is_offered rows) once;
  alike = λ g a b in_a in_b.
      subst (λ r. AreTwins r a b) (whole_rows rows) ((parts g set.empty (there sets g a in_a)).alike a b in_a in_b);
  together = λ g a b in_a twins.
      let lt : g < length sets = there sets g a in_a in
      let offered_a : is_offered rows a ≡ true = in_times sets a g set.empty lt in_a (is_offered rows a) (once a) in
      (parts g set.empty lt).whole a b in_a (subst (λ r. AreTwins r a b) (sym (whole_rows rows)) twins) (sym (offered_twin rows a b twins) ∙ offered_a);
}

-- the set of all CPUs with a weight
pub all_in_one :
    (rows : List RowView) (all : Ids) → InRange all → 0 < set.len all → ((c : ℕ) → set.contains all c ≡ is_offered rows c) → IsPart rows 0 all
all_in_one rows all in_range some offered = record {
  in_range = in_range;
  some = some;
  alike = λ a b in_a in_b j d lt. absurd (omega arith);
  whole = λ a b in_a twins offered_b. offered b ∙ offered_b;
}

-- one set more is split
pub pieces_more :
    (rows : List RowView) (k i : ℕ) (sets : List Ids) (part : Ids) (alone parts_mid alone_mid parts_new alone_new : List Ids)
    → i < length sets → part ≡ get_or sets i part → ArePieces rows k (take i sets) alone parts_mid alone_mid
    → IsSplit rows k part parts_mid alone_mid parts_new alone_new → ArePieces rows k (take (i + 1) sets) alone parts_new alone_new
pieces_more rows k i sets part alone parts_mid alone_mid parts_new alone_new lt is so_far split = record {
  parts = split.parts;
  lone = split.lone;
  same = λ c.
      let more : times_in (take (i + 1) sets) c ≡ times_in (take i sets) c + cond (set.contains part c) 1 0 =
      rw (take_more sets i part lt, ← is) (sum_by_push (λ (t : Ids). cond (set.contains t c) 1 0) (take i sets) part) in
      omega (arith, split.same c, so_far.same c, more);
}

-- the sets on the way to classes, before row k
pub record Grouping (rows : List RowView) (k : ℕ) (parts alone : List Ids) : Type 0 where
  pub open_parts : All (IsPart rows k) parts
  pub lone : All (IsPart rows (length rows)) alone
  pub once : (c : ℕ) → times_in parts c + times_in alone c ≡ cond (is_offered rows c) 1 0

-- before any row: the CPUs with a weight are in one set, where there are any
pub grouping_start :
    (rows : List RowView) (all : Ids) (parts none : List Ids) → none ≡ [] → IsUnsplit all parts → ((c : ℕ) → set.contains all c ≡ is_offered rows c) → Grouping rows 0 parts none
grouping_start rows all parts none none_is unsplit offered = rw none_is (by_cases unsplit)
  where
    nothing : (b : Bool) → b ≡ false → 0 + 0 ≡ cond {A = ℕ} b 1 0
    nothing b e = ap (λ t. cond {A = ℕ} t 1 0) (sym e)

    plus_none : (n : ℕ) → n + 0 + 0 ≡ n
    plus_none n = omega arith

    by_cases : IsUnsplit all parts → Grouping rows 0 parts []
    by_cases (inl empty) = rw empty.1 (record {
      open_parts = All-nil (IsPart rows 0);
      lone = λ j d lt. absurd (omega arith);
      once = λ c. nothing (is_offered rows c) (sym (offered c) ∙ empty_contains all c empty.0);
    })
    by_cases (inr some) = rw some.2 (record {
      open_parts = All-cons (IsPart rows 0) all [] (all_in_one rows all some.1 some.0 offered) (All-nil (IsPart rows 0));
      lone = λ j d lt. absurd (omega arith);
      once = λ c.
          ap (λ n. n + 0) (sum_by-cons (λ (t : Ids). cond (set.contains t c) 1 0) all []) ∙ plus_none _ ∙ ap (λ b. cond {A = ℕ} b 1 0) (offered c);
    })

pub grouping_more :
    (rows : List RowView) (k : ℕ) (parts alone parts_new alone_new : List Ids) → Grouping rows k parts alone
    → ArePieces rows (k + 1) parts alone parts_new alone_new → Grouping rows (k + 1) parts_new alone_new
grouping_more rows k parts alone parts_new alone_new so_far pieces = record {
  open_parts = pieces.parts;
  lone = pieces.lone;
  once = λ c. omega (arith, pieces.same c, so_far.once c);
}

-- a row that tells no more CPUs apart splits no set
pub grouping_repeated :
    (rows : List RowView) (k : ℕ) (parts alone : List Ids) → ((a b : ℕ) → AreTwins (take k rows) a b → AreTwins (take (k + 1) rows) a b)
    → Grouping rows k parts alone → Grouping rows (k + 1) parts alone
grouping_repeated rows k parts alone still so_far = record {
  open_parts = λ j d lt.
      let part : IsPart rows k (get_or parts j d) = so_far.open_parts j d lt in
      record {
        in_range = part.in_range;
        some = part.some;
        alike = λ a b in_a in_b. still a b (part.alike a b in_a in_b);
        whole = λ a b in_a twins offered. part.whole a b in_a (twins_before rows k (k + 1) a b (omega arith) twins) offered;
      };
  lone = so_far.lone;
  once = so_far.once;
}

-- both lists together are the classes
pub grouping_end :
    (rows : List RowView) (k : ℕ) (parts alone sets : List Ids) → k ≡ length rows → Grouping rows k parts alone → sets ≡ alone ++ parts → IsGrouping rows sets
grouping_end rows k parts alone sets all so_far is =
    let open_all : All (IsPart rows (length rows)) parts = subst (λ n. All (IsPart rows n) parts) all so_far.open_parts in
    grouping rows sets
    (All-same (IsPart rows (length rows)) sets (alone ++ parts) is (All-append (IsPart rows (length rows)) alone parts so_far.lone open_all))
    (λ c. ap (λ l. times_in l c) is ∙ sum_by-append (λ (t : Ids). cond (set.contains t c) 1 0) alone parts ∙ omega (arith, so_far.once c))
