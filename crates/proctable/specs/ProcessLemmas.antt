-- The live processes through one more and through the end of some.
use Rattle.std.proofs.Common.{◌≡◌, ℕ, ◌+◌, ◌<◌, ◌≤◌, Bool, true, false, not, List, [], ◌∷◌, ◌++◌, refl, sym, ap, ◌∙◌, subst, eq-eqb, eqb-true, arith, filter}
use Rattle.std.proofs.lemmas.Bool.{ne_eqb, cond-true, cond-false, or_parts, or_from, not-true, not_from_false}
use Rattle.std.proofs.lemmas.Option.{same_Some, none-some}
use Rattle.std.specs.Prelude.{Some, None, ◌==◌}
use Rattle.cpuset_tree.specs.declared.Group.{Group}
use Rattle.cpuset_tree.specs.Groups.{same_group}
use Rattle.proctable.specs.declared.processes.Process.{Process}
use Rattle.proctable.specs.Processes.{process_among}
use Rattle.proctable.specs.TableChanges.{ends_with}
use Rattle.proctable.specs.TableWellFormed.{RisesBelow, Belongs, AllBelong}

pub process-here : (p : Process) (later : List Process) (pid : ℕ) → (p.pid == pid) ≡ true → process_among (p ∷ later) pid ≡ Some p
process-here p later pid h = cond-true (p.pid == pid) (Some p) (process_among later pid) h

pub process-there : (p : Process) (later : List Process) (pid : ℕ) → (p.pid == pid) ≡ false → process_among (p ∷ later) pid ≡ process_among later pid
process-there p later pid h = cond-false (p.pid == pid) (Some p) (process_among later pid) h

pub process-pid : (live : List Process) (pid : ℕ) (q : Process) → process_among live pid ≡ Some q → q.pid ≡ pid
process-pid [] pid q at = absurd (none-some q at)
process-pid (p ∷ later) pid q at =
    elim (p.pid == pid) as (λ t. (p.pid == pid) ≡ t → q.pid ≡ pid) [
      | true ↦ λ e. ap (λ (x : Process). x.pid) (sym (same_Some p q (sym (process-here p later pid e) ∙ at))) ∙ eqb-true p.pid pid e
      | false ↦ λ e. process-pid later pid q (sym (process-there p later pid e) ∙ at)
    ] refl

pub rises_to : (low next : ℕ) (live : List Process) → RisesBelow low next live → low ≤ next
rises_to low next [] h = h
rises_to low next (p ∷ later) (le, rest) = let above : p.pid + 1 ≤ next = rises_to (p.pid + 1) next later rest in omega arith

pub rises_from : (low lower next : ℕ) (live : List Process) → lower ≤ low → RisesBelow low next live → RisesBelow lower next live
rises_from low lower next [] le h = omega arith
rises_from low lower next (p ∷ later) le (at, rest) = (omega arith, rest)

-- the next pid is nobody's
pub process-fresh : (low next pid : ℕ) (live : List Process) → RisesBelow low next live → next ≤ pid → process_among live pid ≡ None
process-fresh low next pid [] _ le = refl
process-fresh low next pid (p ∷ later) (at, rest) le =
    let above : p.pid + 1 ≤ next = rises_to (p.pid + 1) next later rest in
    process-there p later pid (ne_eqb p.pid pid (λ e. absurd (omega arith))) ∙ process-fresh (p.pid + 1) next pid later rest le

-- and a pid below the others is none of theirs
pub process-below : (low next pid : ℕ) (live : List Process) → RisesBelow low next live → pid < low → process_among live pid ≡ None
process-below low next pid [] _ lt = refl
process-below low next pid (p ∷ later) (at, rest) lt =
    process-there p later pid (ne_eqb p.pid pid (λ e. absurd (omega arith))) ∙ process-below (p.pid + 1) next pid later rest (omega arith)

-- one process more
pub RisesBelow-push : (low next : ℕ) (live : List Process) (x : Process) → RisesBelow low next live → x.pid ≡ next → RisesBelow low (next + 1) (live ++ x ∷ [])
RisesBelow-push low next [] x h is = (omega arith, omega arith)
RisesBelow-push low next (p ∷ later) x (at, rest) is = (at, RisesBelow-push (p.pid + 1) next later x rest is)

pub process-push-old : (live : List Process) (x : Process) (pid : ℕ) (q : Process) → process_among live pid ≡ Some q → process_among (live ++ x ∷ []) pid ≡ Some q
process-push-old [] x pid q at = absurd (none-some q at)
process-push-old (p ∷ later) x pid q at =
    elim (p.pid == pid) as (λ t. (p.pid == pid) ≡ t → process_among (p ∷ (later ++ x ∷ [])) pid ≡ Some q) [
      | true ↦ λ e. process-here p (later ++ x ∷ []) pid e ∙ sym (process-here p later pid e) ∙ at
      | false ↦ λ e. process-there p (later ++ x ∷ []) pid e ∙ process-push-old later x pid q (sym (process-there p later pid e) ∙ at)
    ] refl

-- what is found where it is not found before
pub process-push : (live : List Process) (x : Process) (pid : ℕ) → process_among live pid ≡ None → process_among (live ++ x ∷ []) pid ≡ process_among (x ∷ []) pid
process-push [] x pid none = refl
process-push (p ∷ later) x pid none =
    elim (p.pid == pid) as (λ t. (p.pid == pid) ≡ t → process_among (p ∷ (later ++ x ∷ [])) pid ≡ process_among (x ∷ []) pid) [
      | true ↦ λ e. absurd (none-some p (sym none ∙ process-here p later pid e))
      | false ↦ λ e. process-there p (later ++ x ∷ []) pid e ∙ process-push later x pid (sym (process-there p later pid e) ∙ none)
    ] refl

pub process-push-new : (live : List Process) (x : Process) → process_among live x.pid ≡ None → process_among (live ++ x ∷ []) x.pid ≡ Some x
process-push-new live x none = process-push live x x.pid none ∙ process-here x [] x.pid (eq-eqb x.pid x.pid refl)

belongs-push : (live : List Process) (x p : Process) → Belongs live p → Belongs (live ++ x ∷ []) p
belongs-push live x p b = record { first = b.first; alive = process-push-old live x p.first b.first b.alive; own = b.own; group = b.group }

pub AllBelong-push : (live : List Process) (x : Process) (ps : List Process) → Belongs (live ++ x ∷ []) x → AllBelong live ps → AllBelong (live ++ x ∷ []) (ps ++ x ∷ [])
AllBelong-push live x [] own _ = (own, tt)
AllBelong-push live x (p ∷ later) own (b, rest) = (belongs-push live x p b, AllBelong-push live x later own rest)

-- the end of some processes
module _ (stays : Process → Bool) where
  filter-stays : (p : Process) (later : List Process) → stays p ≡ true → filter stays (p ∷ later) ≡ p ∷ filter stays later
  filter-stays p later h = cond-true (stays p) (p ∷ filter stays later) (filter stays later) h

  filter-ends : (p : Process) (later : List Process) → stays p ≡ false → filter stays (p ∷ later) ≡ filter stays later
  filter-ends p later h = cond-false (stays p) (p ∷ filter stays later) (filter stays later) h

  pub RisesBelow-filter : (low next : ℕ) (live : List Process) → RisesBelow low next live → RisesBelow low next (filter stays live)
  RisesBelow-filter low next [] h = h
  RisesBelow-filter low next (p ∷ later) (at, rest) =
      elim (stays p) as (λ t. stays p ≡ t → RisesBelow low next (filter stays (p ∷ later))) [
        | true ↦ λ e. subst (λ (l : List Process). RisesBelow low next l) (sym (filter-stays p later e)) (at, RisesBelow-filter (p.pid + 1) next later rest)
        | false ↦ λ e.
            subst (λ (l : List Process). RisesBelow low next l) (sym (filter-ends p later e))
            (rises_from (p.pid + 1) low next (filter stays later) (omega arith) (RisesBelow-filter (p.pid + 1) next later rest))
      ] refl

  -- a process that stays is found
  pub process-filter-stays : (live : List Process) (pid : ℕ) (q : Process) → process_among live pid ≡ Some q → stays q ≡ true → process_among (filter stays live) pid ≡ Some q
  process-filter-stays [] pid q at h = absurd (none-some q at)
  process-filter-stays (p ∷ later) pid q at h =
      elim (p.pid == pid) as (λ t. (p.pid == pid) ≡ t → process_among (filter stays (p ∷ later)) pid ≡ Some q) [
        | true ↦ λ e.
            let one : p ≡ q = same_Some p q (sym (process-here p later pid e) ∙ at) in
            ap (λ (l : List Process). process_among l pid) (filter-stays p later (ap stays one ∙ h)) ∙ process-here p (filter stays later) pid e ∙ ap Some one
        | false ↦ λ e.
            let rest : process_among (filter stays later) pid ≡ Some q = process-filter-stays later pid q (sym (process-there p later pid e) ∙ at) h in
            elim (stays p) as (λ t. stays p ≡ t → process_among (filter stays (p ∷ later)) pid ≡ Some q) [
              | true ↦ λ f. ap (λ (l : List Process). process_among l pid) (filter-stays p later f) ∙ process-there p (filter stays later) pid e ∙ rest
              | false ↦ λ f. ap (λ (l : List Process). process_among l pid) (filter-ends p later f) ∙ rest
            ] refl
      ] refl

  -- none comes to life
  pub process-filter-none : (live : List Process) (pid : ℕ) → process_among live pid ≡ None → process_among (filter stays live) pid ≡ None
  process-filter-none [] pid none = refl
  process-filter-none (p ∷ later) pid none =
      elim (p.pid == pid) as (λ t. (p.pid == pid) ≡ t → process_among (filter stays (p ∷ later)) pid ≡ None) [
        | true ↦ λ e. absurd (none-some p (sym none ∙ process-here p later pid e))
        | false ↦ λ e.
            let rest : process_among (filter stays later) pid ≡ None = process-filter-none later pid (sym (process-there p later pid e) ∙ none) in
            elim (stays p) as (λ t. stays p ≡ t → process_among (filter stays (p ∷ later)) pid ≡ None) [
              | true ↦ λ f. ap (λ (l : List Process). process_among l pid) (filter-stays p later f) ∙ process-there p (filter stays later) pid e ∙ rest
              | false ↦ λ f. ap (λ (l : List Process). process_among l pid) (filter-ends p later f) ∙ rest
            ] refl
      ] refl

  -- one that ends is found no more, since no other has its pid
  pub process-filter-ends : (low next : ℕ) (live : List Process) → RisesBelow low next live → (pid : ℕ) (q : Process) → process_among live pid ≡ Some q → stays q ≡ false
      → process_among (filter stays live) pid ≡ None
  process-filter-ends low next [] _ pid q at h = absurd (none-some q at)
  process-filter-ends low next (p ∷ later) (le, rest) pid q at h =
      elim (p.pid == pid) as (λ t. (p.pid == pid) ≡ t → process_among (filter stays (p ∷ later)) pid ≡ None) [
        | true ↦ λ e.
            let one : p ≡ q = same_Some p q (sym (process-here p later pid e) ∙ at) in
            let is : p.pid ≡ pid = eqb-true p.pid pid e in
            ap (λ (l : List Process). process_among l pid) (filter-ends p later (ap stays one ∙ h))
            ∙ process-filter-none later pid (process-below (p.pid + 1) next pid later rest (omega arith))
        | false ↦ λ e.
            let gone : process_among (filter stays later) pid ≡ None = process-filter-ends (p.pid + 1) next later rest pid q (sym (process-there p later pid e) ∙ at) h in
            elim (stays p) as (λ t. stays p ≡ t → process_among (filter stays (p ∷ later)) pid ≡ None) [
              | true ↦ λ f. ap (λ (l : List Process). process_among l pid) (filter-stays p later f) ∙ process-there p (filter stays later) pid e ∙ gone
              | false ↦ λ f. ap (λ (l : List Process). process_among l pid) (filter-ends p later f) ∙ gone
            ] refl
      ] refl

  -- where a first process stays with those that belong to it, all belong as before
  module _ (together : (p q : Process) → stays p ≡ true → q.pid ≡ p.first → q.first ≡ p.first → q.group ≡ p.group → stays q ≡ true) where
    pub AllBelong-filter : (live ps : List Process) → AllBelong live ps → AllBelong (filter stays live) (filter stays ps)
    AllBelong-filter live [] _ = tt
    AllBelong-filter live (p ∷ later) (b, rest) =
        elim (stays p) as (λ t. stays p ≡ t → AllBelong (filter stays live) (filter stays (p ∷ later))) [
          | true ↦ λ e.
              subst (λ (l : List Process). AllBelong (filter stays live) l) (sym (filter-stays p later e)) (
                record {
                  first = b.first;
                  alive = process-filter-stays live p.first b.first b.alive (together p b.first e (process-pid live p.first b.first b.alive) b.own b.group);
                  own = b.own;
                  group = b.group;
                },
                AllBelong-filter live later rest,
              )
          | false ↦ λ e. subst (λ (l : List Process). AllBelong (filter stays live) l) (sym (filter-ends p later e)) (AllBelong-filter live later rest)
        ] refl

-- a first process ends with those that belong to it
pub together-exited : (pid : ℕ) (p q : Process) → not (ends_with pid p) ≡ true → q.pid ≡ p.first → q.first ≡ p.first → q.group ≡ p.group → not (ends_with pid q) ≡ true
together-exited pid p q stays at own group =
    let parts : ((p.pid == pid) ≡ false) × ((p.first == pid) ≡ false) = or_parts (p.pid == pid) (p.first == pid) (not-true (ends_with pid p) stays) in
    not_from_false (ends_with pid q) (or_from (q.pid == pid) (q.first == pid) (ap (λ n. n == pid) at ∙ parts.1) (ap (λ n. n == pid) own ∙ parts.1))

pub together-ended : (g : Group) (p q : Process) → not (same_group p.group g) ≡ true → q.pid ≡ p.first → q.first ≡ p.first → q.group ≡ p.group → not (same_group q.group g) ≡ true
together-ended g p q stays at own group = ap (λ (h : Group). not (same_group h g)) group ∙ stays

-- a process that is found belongs to a live first process
pub Belongs-found : (live ps : List Process) → AllBelong live ps → (pid : ℕ) (p : Process) → process_among ps pid ≡ Some p → Belongs live p
Belongs-found live [] _ pid p at = absurd (none-some p at)
Belongs-found live (x ∷ later) (b, rest) pid p at =
    elim (x.pid == pid) as (λ t. (x.pid == pid) ≡ t → Belongs live p) [
      | true ↦ λ e. subst (λ (q : Process). Belongs live q) (same_Some x p (sym (process-here x later pid e) ∙ at)) b
      | false ↦ λ e. Belongs-found live later rest pid p (sym (process-there x later pid e) ∙ at)
    ] refl
