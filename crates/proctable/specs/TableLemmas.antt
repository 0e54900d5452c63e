-- The laws of tables, proved.
use Rattle.std.proofs.Common.{◌≡◌, ◌≢◌, ℕ, ◌+◌, ◌<◌, ◌≤◌, Bool, true, false, not, List, [], ◌∷◌, ◌++◌, refl, sym, ap, ◌∙◌, subst, arith, filter, cond, zero-add, eq-eqb}
use Rattle.std.proofs.lemmas.List.Sums.{sum_by-cons}
use Rattle.std.specs.Prelude.{count_by}
use Rattle.std.proofs.lemmas.Bool.{both_ways, ne_eqb, not_from_true, not_from_false, cond-true, cond-false}
use Rattle.std.proofs.lemmas.Option.{same_Some, none-some}
use Rattle.std.specs.Prelude.{Option, Some, None, is_some, nat_lt, ◌==◌}
use Rattle.std.proofs.lemmas.Bool.Decides.{nat_tests}
use Rattle.cpuset_tree.specs.declared.Group.{Group}
use Rattle.cpuset_tree.specs.Groups.{same_group}
use Rattle.proctable.specs.declared.processes.Process.{Process}
use Rattle.proctable.specs.TableState.{TableState}
use Rattle.proctable.specs.Processes.{process_among, process_of, is_alive}
use Rattle.proctable.specs.TableChanges.{ends_with}
use Rattle.proctable.specs.TableAnswers.{AddsProcess}
use Rattle.proctable.specs.TableWellFormed.{RisesBelow, Belongs, IsWellFormed}
use Rattle.proctable.specs.TableLaws.{ProcessAdded, AddedLeaves, SomeEnd, ExitedLeaves, EndedLeaves, EndedIsEmpty, FoundHasPid, PidIsGiven, NoneWhereNoneCounted, NoneCountedWhereNone, LiveBelong, EmptyOnceFirstEnded, ChangesStayWellFormed, FirstIsWellFormed}
use Rattle.proctable.specs.ProcessLemmas.{process-here, process-there, process-pid, process-fresh, process-below, RisesBelow-push, process-push, process-push-old, process-push-new, AllBelong-push, RisesBelow-filter, process-filter-stays, process-filter-none, process-filter-ends, AllBelong-filter, together-exited, together-ended, Belongs-found}

none_of : (o : Option Process) → is_some o ≡ false → o ≡ None
none_of None h = refl
none_of (Some p) h = absurd (both_ways true h refl)

one_more : (live : List Process) (x : Process) (q : ℕ) → q ≢ x.pid → process_among (live ++ x ∷ []) q ≡ process_among live q
one_more live x q other = from (process_among live q) refl
  where
    from : (o : Option Process) → process_among live q ≡ o → process_among (live ++ x ∷ []) q ≡ o
    from None at = process-push live x q at ∙ process-there x [] q (ne_eqb x.pid q (λ e. other (sym e)))
    from (Some p) at = process-push-old live x q p at

pub added_leaves : AddedLeaves
added_leaves t new g first pid adds =
    subst (λ (n : ℕ). ProcessAdded t new g first n) (sym adds.next)
    (subst (λ (n : TableState). ProcessAdded t n g first t.next_pid) (sym adds.added) (record {
      there = process-push-new t.live (record { pid = t.next_pid; group = g; first = first }) fresh;
      others = λ q other. one_more t.live (record { pid = t.next_pid; group = g; first = first }) q other;
      differs = λ q there e. both_ways (is_alive t q) (ap (is_alive t) e ∙ ap is_some fresh) there;
    }))
  where
    fresh : process_of t t.next_pid ≡ None
    fresh = none_of (process_of t t.next_pid) (ap (is_alive t) (sym adds.next) ∙ adds.fresh)

some_end : (t : TableState) (ends : Process → Bool) → RisesBelow 0 t.next_pid t.live → SomeEnd t (record t { live = filter (λ p. not (ends p)) t.live }) ends
some_end t ends rising = record {
  stay = λ q p at stays. process-filter-stays (λ p. not (ends p)) t.live q p at (not_from_false (ends p) stays);
  end = λ q p at over. process-filter-ends (λ p. not (ends p)) 0 t.next_pid t.live rising q p at (not_from_true (ends p) over);
  none = λ q at. process-filter-none (λ p. not (ends p)) t.live q at;
}

pub exited_leaves : ExitedLeaves
exited_leaves t pid well = some_end t (ends_with pid) well.rising

pub ended_leaves : EndedLeaves
ended_leaves t g well = some_end t (λ p. same_group p.group g) well.rising

pub live_belong : LiveBelong
live_belong t q p well at = Belongs-found t.live t.live well.belong q p at

-- the same of each process
abbrev EachIs : (Process → Type 0) → List Process → Type 0
EachIs P [] = Unit {0}
EachIs P (p ∷ later) = P p × EachIs P later

-- what holds of all that are found holds of each
each_found : (P : Process → Type 0) (low next : ℕ) (live : List Process) → RisesBelow low next live → ((q : ℕ) (p : Process) → process_among live q ≡ Some p → P p) → EachIs P live
each_found P low next [] _ found = tt
each_found P low next (p ∷ later) (le, rest) found = (
  found p.pid p (process-here p later p.pid (eq-eqb p.pid p.pid refl)),
  each_found P (p.pid + 1) next later rest (λ q x at. found q x (process-there p later q (ne_eqb p.pid q (λ e.
      none-some x (sym (process-below (p.pid + 1) next q later rest (omega arith)) ∙ at))) ∙ at)),
)

count_none : (test : Process → Bool) (ps : List Process) → EachIs (λ p. test p ≡ false) ps → count_by test ps ≡ 0
count_none test [] _ = refl
count_none test (p ∷ later) (fails, rest) =
    sum_by-cons (λ x. cond (test x) 1 0) p later ∙ ap (λ n. n + count_by test later) (cond-false (test p) 1 0 fails) ∙ zero-add (count_by test later) ∙ count_none test later rest

without_any : (test : Process → Bool) (ps : List Process) → EachIs (λ p. test p ≡ false) (filter (λ p. not (test p)) ps)
without_any test [] = tt
without_any test (p ∷ later) =
    elim (test p) as (λ t. test p ≡ t → EachIs (λ p. test p ≡ false) (filter (λ p. not (test p)) (p ∷ later))) [
      | true ↦ λ e.
          subst (λ (l : List Process). EachIs (λ p. test p ≡ false) l)
          (sym (cond-false (not (test p)) (p ∷ filter (λ p. not (test p)) later) (filter (λ p. not (test p)) later) (not_from_true (test p) e))) (without_any test later)
      | false ↦ λ e.
          subst (λ (l : List Process). EachIs (λ p. test p ≡ false) l)
          (sym (cond-true (not (test p)) (p ∷ filter (λ p. not (test p)) later) (filter (λ p. not (test p)) later) (not_from_false (test p) e))) (e, without_any test later)
    ] refl

pub ended_is_empty : EndedIsEmpty
ended_is_empty t g =
    count_none (λ p. same_group p.group g) (filter (λ p. not (same_group p.group g)) t.live) (without_any (λ p. same_group p.group g) t.live)

pub found_has_pid : FoundHasPid
found_has_pid t q p at = process-pid t.live q p at

pub pid_is_given : PidIsGiven
pid_is_given t q well there = elim (nat_lt q t.next_pid) as (λ b. nat_lt q t.next_pid ≡ b → q < t.next_pid) [
  | true ↦ λ e. grind (arith, nat_tests)
  | false ↦ λ e. absurd (both_ways (is_alive t q) (ap is_some (process-fresh 0 t.next_pid q t.live well.rising (not_below q t.next_pid e))) there)
] refl
  where
    not_below : (a b : ℕ) → nat_lt a b ≡ false → b ≤ a
    not_below a b e = grind (arith, nat_tests)

pub none_where_none_counted : NoneWhereNoneCounted
none_where_none_counted t g none q p at = uncounted t.live none at
  where
    more : (all one rest : ℕ) → all ≡ one + rest → one ≡ 1 → all ≡ 0 → ⊥
    more all one rest sum is none = absurd (omega arith)

    uncounted : (ps : List Process) → count_by (λ x. same_group x.group g) ps ≡ 0 → process_among ps q ≡ Some p → same_group p.group g ≡ false
    uncounted [] h found = absurd (none-some p found)
    uncounted (x ∷ later) h found =
        elim (same_group x.group g) as (λ b. same_group x.group g ≡ b → same_group p.group g ≡ false) [
          | true ↦ λ e.
              absurd (more (count_by (λ y. same_group y.group g) (x ∷ later)) (cond (same_group x.group g) 1 0) (count_by (λ y. same_group y.group g) later)
              (sum_by-cons (λ y. cond (same_group y.group g) 1 0) x later) (cond-true (same_group x.group g) 1 0 e) h)
          | false ↦ λ e.
              let rest : count_by (λ y. same_group y.group g) later ≡ 0 =
              sym (sum_by-cons (λ y. cond (same_group y.group g) 1 0) x later ∙ ap (λ n. n + count_by (λ y. same_group y.group g) later) (cond-false (same_group x.group g) 1 0 e) ∙ zero-add (count_by (λ y. same_group y.group g) later)) ∙ h in
              elim (x.pid == q) as (λ b. (x.pid == q) ≡ b → same_group p.group g ≡ false) [
                | true ↦ λ f. ap (λ (y : Process). same_group y.group g) (sym (same_Some x p (sym (process-here x later q f) ∙ found))) ∙ e
                | false ↦ λ f. uncounted later rest (sym (process-there x later q f) ∙ found)
              ] refl
        ] refl

pub none_counted_where_none : NoneCountedWhereNone
none_counted_where_none t g well none =
    count_none (λ p. same_group p.group g) t.live (each_found (λ p. same_group p.group g ≡ false) 0 t.next_pid t.live well.rising none)

pub empty_once_first_ended : EmptyOnceFirstEnded
empty_once_first_ended t g first well gone belong =
    count_none (λ p. same_group p.group g) t.live
    (each_found (λ p. same_group p.group g ≡ false) 0 t.next_pid t.live well.rising (λ q p at.
    elim (same_group p.group g) as (λ b. same_group p.group g ≡ b → b ≡ false) [
      | true ↦ λ e.
          let b : Belongs t.live p = Belongs-found t.live t.live well.belong q p at in
          absurd (both_ways (is_alive t first) gone (ap (is_alive t) (sym (belong q p at e)) ∙ ap is_some b.alive))
      | false ↦ λ _. refl
    ] refl))

pub stays_well_formed : ChangesStayWellFormed
stays_well_formed t well = record {
  spawned = λ new g pid adds. grown new g pid pid adds (record {
    first = record { pid = t.next_pid; group = g; first = pid };
    alive = ap (process_among (t.live ++ record { pid = t.next_pid; group = g; first = pid } ∷ [])) adds.next ∙ fresh_there g pid (none_alive pid adds.next adds.fresh);
    own = refl;
    group = refl;
  });
  forked = λ new parent pid forks.
      let p : Process = forks.0 in
      let b : Belongs t.live p = Belongs-found t.live t.live well.belong parent p forks.1 in
      grown new p.group p.first pid forks.2 (record {
        first = b.first;
        alive = process-push-old t.live (record { pid = t.next_pid; group = p.group; first = p.first }) p.first b.first b.alive;
        own = b.own;
        group = b.group;
      });
  exited = λ pid. record {
    rising = RisesBelow-filter (λ p. not (ends_with pid p)) 0 t.next_pid t.live well.rising;
    belong = AllBelong-filter (λ p. not (ends_with pid p)) (together-exited pid) t.live t.live well.belong;
  };
  ended = λ g. record {
    rising = RisesBelow-filter (λ p. not (same_group p.group g)) 0 t.next_pid t.live well.rising;
    belong = AllBelong-filter (λ p. not (same_group p.group g)) (together-ended g) t.live t.live well.belong;
  };
}
  where
    none_alive : (pid : ℕ) → pid ≡ t.next_pid → is_alive t pid ≡ false → process_of t t.next_pid ≡ None
    none_alive pid next fresh = none_of (process_of t t.next_pid) (ap (is_alive t) (sym next) ∙ fresh)

    fresh_there : (g : Group) (first : ℕ) → process_of t t.next_pid ≡ None
        → process_among (t.live ++ record { pid = t.next_pid; group = g; first = first } ∷ []) t.next_pid ≡ Some (record { pid = t.next_pid; group = g; first = first })
    fresh_there g first none = process-push-new t.live (record { pid = t.next_pid; group = g; first = first }) none

    grown : (new : TableState) (g : Group) (first pid : ℕ) → AddsProcess t g first pid new
        → Belongs (t.live ++ record { pid = t.next_pid; group = g; first = first } ∷ []) (record { pid = t.next_pid; group = g; first = first }) → IsWellFormed new
    grown new g first pid adds belongs = subst (λ (n : TableState). IsWellFormed n) (sym adds.added) (record {
      rising = RisesBelow-push 0 t.next_pid t.live (record { pid = t.next_pid; group = g; first = first }) well.rising refl;
      belong = AllBelong-push t.live (record { pid = t.next_pid; group = g; first = first }) t.live belongs well.belong;
    })

pub first_is_well_formed : FirstIsWellFormed
first_is_well_formed first_pid = record { rising = omega arith; belong = tt }
