-- Processes that are kept by rising pid, those that live among those that have ended.
use Rattle.std.proofs.Common.{◌≡◌, ◌≢◌, ℕ, zero, suc, ◌+◌, ◌<◌, ◌≤◌, Bool, true, false, not, ◌&&◌, ◌||◌, List, [], ◌∷◌, ◌++◌, length, get_or, set, filter, refl, sym, ap, ◌∙◌, subst, arith, eq-eqb, zero-add, length-append}
use Rattle.std.proofs.lemmas.Bool.{both_ways, ne_eqb, cond-true, cond-false, or_left}
use Rattle.std.proofs.lemmas.Bool.Decides.{nat_tests}
use Rattle.std.proofs.lemmas.Option.{same_Some}
use Rattle.std.proofs.lemmas.Cmp.{ranked}
use Rattle.std.proofs.lemmas.List.Sorted.{IsNonDecreasingBy-from_default}
use Rattle.std.proofs.lemmas.List.Sums.{sum_by-cons}
use Rattle.std.specs.Prelude.{Some, None, Result, Ok, Err, IfOk, IfErr, is_some, cond, count_by, ◌==◌}
use Rattle.std.specs.List.Sorted.{IsSearchInRange, IsBinarySearchResult, IsNonDecreasingBy}
use Rattle.std.specs.Ordering.{nat_cmp, ordering_index}
use Rattle.proctable.specs.declared.processes.Process.{Process}
use Rattle.proctable.specs.declared.slots.Slot.{Slot}
use Rattle.proctable.specs.Processes.{process_among}
use Rattle.proctable.specs.TableChanges.{ends_with}
use Rattle.proctable.specs.TableWellFormed.{RisesBelow, Belongs, AllBelong}
use Rattle.proctable.specs.Kept.{live_of, alive_in, over, PidsRise, nobody, pid_at, AreEnded, EndsAlone}
use Rattle.proctable.specs.ProcessLemmas.{process-here, process-there, process-below, rises_from}

-- one that has ended is passed over, and one that lives is not
pub live_ended : (s : Slot) (later : List Slot) → s.ended ≡ true → live_of (s ∷ later) ≡ live_of later
live_ended s later e = cond-true s.ended (live_of later) (s.process ∷ live_of later) e

pub live_alive : (s : Slot) (later : List Slot) → s.ended ≡ false → live_of (s ∷ later) ≡ s.process ∷ live_of later
live_alive s later e = cond-false s.ended (live_of later) (s.process ∷ live_of later) e

-- either way
by_end : {P : Type 0} (s : Slot) → (s.ended ≡ true → P) → (s.ended ≡ false → P) → P
by_end {P} s over lives = by s.ended refl where
  by : (b : Bool) → s.ended ≡ b → P
  by true e = over e
  by false e = lives e

pids_from : (low lower next : ℕ) (slots : List Slot) → lower ≤ low → PidsRise low next slots → PidsRise lower next slots
pids_from low lower next [] le h = omega arith
pids_from low lower next (s ∷ later) le (at, rest) = (omega arith, rest)

-- the pids of those that live rise too
pub live_rises : (low next : ℕ) (slots : List Slot) → PidsRise low next slots → RisesBelow low next (live_of slots)
live_rises low next [] h = h
live_rises low next (s ∷ later) (le, rest) = by_end s
    (λ e. subst (λ (l : List Process). RisesBelow low next l) (sym (live_ended s later e))
    (rises_from (s.process.pid + 1) low next (live_of later) (omega arith) (live_rises (s.process.pid + 1) next later rest)))
    (λ e. subst (λ (l : List Process). RisesBelow low next l) (sym (live_alive s later e)) (le, live_rises (s.process.pid + 1) next later rest))

above_low : (low next : ℕ) (slots : List Slot) → PidsRise low next slots → (i : ℕ) → i < length slots → low ≤ pid_at slots i
above_low low next [] _ i lt = absurd (omega arith)
above_low low next (s ∷ later) (le, rest) zero lt = le
above_low low next (s ∷ later) (le, rest) (suc i) lt = let deeper : s.process.pid + 1 ≤ pid_at later i = above_low (s.process.pid + 1) next later rest i (omega arith) in omega arith

pids_rise : (low next : ℕ) (slots : List Slot) → PidsRise low next slots → (i j : ℕ) → i < j → j < length slots → pid_at slots i < pid_at slots j
pids_rise low next [] _ i j lt within = absurd (omega arith)
pids_rise low next (s ∷ later) (le, rest) i zero lt within = absurd (omega arith)
pids_rise low next (s ∷ later) (le, rest) zero (suc j) lt within = let deeper : s.process.pid + 1 ≤ pid_at later j = above_low (s.process.pid + 1) next later rest j (omega arith) in omega arith
pids_rise low next (s ∷ later) (le, rest) (suc i) (suc j) lt within = pids_rise (s.process.pid + 1) next later rest i j (omega arith) (omega arith)

-- one more before those of other pids is not found
other_first : (s : Slot) (later : List Slot) (pid : ℕ) → s.process.pid ≢ pid → process_among (live_of (s ∷ later)) pid ≡ process_among (live_of later) pid
other_first s later pid ne = by_end s
    (λ e. ap (λ (l : List Process). process_among l pid) (live_ended s later e))
    (λ e. ap (λ (l : List Process). process_among l pid) (live_alive s later e) ∙ process-there s.process (live_of later) pid (ne_eqb s.process.pid pid ne))

-- the process at a place is the one that is found of its pid, while it lives
pub found_at : (low next : ℕ) (slots : List Slot) → PidsRise low next slots → (pid i : ℕ) → i < length slots → pid_at slots i ≡ pid
    → process_among (live_of slots) pid ≡ alive_in (get_or slots i nobody)
found_at low next [] _ pid i lt is = absurd (omega arith)
found_at low next (s ∷ later) (le, rest) pid zero lt is = by_end s
    (λ e. ap (λ (l : List Process). process_among l pid) (live_ended s later e)
    ∙ process-below (s.process.pid + 1) next pid (live_of later) (live_rises (s.process.pid + 1) next later rest) (omega arith)
    ∙ sym (cond-true s.ended None (Some s.process) e))
    (λ e. ap (λ (l : List Process). process_among l pid) (live_alive s later e) ∙ process-here s.process (live_of later) pid (eq-eqb s.process.pid pid is)
    ∙ sym (cond-false s.ended None (Some s.process) e))
found_at low next (s ∷ later) (le, rest) pid (suc i) lt is =
    let above : s.process.pid + 1 ≤ pid_at later i = above_low (s.process.pid + 1) next later rest i (omega arith) in
    other_first s later pid (λ e. absurd (omega arith)) ∙ found_at (s.process.pid + 1) next later rest pid i (omega arith) is

-- a pid that is at no place is nobody's
absent : (slots : List Slot) (pid : ℕ) → ((i : ℕ) → i < length slots → pid_at slots i ≢ pid) → process_among (live_of slots) pid ≡ None
absent [] pid other = refl
absent (s ∷ later) pid other = other_first s later pid (other zero (omega arith)) ∙ absent later pid (λ i lt. other (suc i) (omega arith))

module _ (next : ℕ) (slots : List Slot) (rises : PidsRise 0 next slots) (pid : ℕ) where
  -- what a binary search asks, and what it answers
  comparisons_rise : IsNonDecreasingBy (λ s. ordering_index (nat_cmp s.process.pid pid)) slots
  comparisons_rise = IsNonDecreasingBy-from_default (λ s. ordering_index (nat_cmp s.process.pid pid)) slots nobody (λ i j le within.
      let rise : pid_at slots i ≤ pid_at slots j = grind (arith, pids_rise 0 next slots rises i j, λ (same : i ≡ j). ap (pid_at slots) same) in
      grind (arith, nat_tests))

  pub searched : (r : Result ℕ ℕ) → IsSearchInRange r (length slots) → IsBinarySearchResult (λ s. nat_cmp s.process.pid pid) slots r
      → IfOk r (λ i. (i < length slots) × (pid_at slots i ≡ pid)) × IfErr r (λ _. process_among (live_of slots) pid ≡ None)
  searched (Ok place) within equal = ((within, ranked (pid_at slots place) pid _ (sym (equal nobody))), tt)
  searched (Err place) within parted = (
    tt,
    absent slots pid (λ i lt is. grind (
      arith,
      λ (before : i < place). let low : pid_at slots i < pid = ranked (pid_at slots i) pid _ (sym ((parted comparisons_rise).0 i nobody (omega arith) before)) in low,
      λ (after : place ≤ i). let high : pid < pid_at slots i = ranked (pid_at slots i) pid _ (sym ((parted comparisons_rise).1 i nobody after lt)) in high,
    )),
  )

-- one process more
pub live_push : (slots : List Slot) (p : Process) → live_of (slots ++ record { process = p; ended = false } ∷ []) ≡ live_of slots ++ p ∷ []
live_push [] p = refl
live_push (s ∷ later) p = by_end s
    (λ e. live_ended s (later ++ record { process = p; ended = false } ∷ []) e ∙ live_push later p ∙ ap (λ (l : List Process). l ++ p ∷ []) (sym (live_ended s later e)))
    (λ e. live_alive s (later ++ record { process = p; ended = false } ∷ []) e ∙ ap (λ (l : List Process). s.process ∷ l) (live_push later p)
    ∙ ap (λ (l : List Process). l ++ p ∷ []) (sym (live_alive s later e)))

pub pids_push : (low next : ℕ) (slots : List Slot) (s : Slot) → PidsRise low next slots → s.process.pid ≡ next → PidsRise low (next + 1) (slots ++ s ∷ [])
pids_push low next [] s h is = (omega arith, omega arith)
pids_push low next (t ∷ later) s (at, rest) is = (at, pids_push (t.process.pid + 1) next later s rest is)

-- those that have ended are taken out, and others end
module _ (stays : Process → Bool) where
  abbrev pub stays_in : Slot → Bool
  stays_in s = not s.ended && stays s.process

  stays_alive : (s : Slot) (b : Bool) → s.ended ≡ false → stays s.process ≡ b → stays_in s ≡ b
  stays_alive s b e f = ap (λ x. not x && stays s.process) e ∙ f

  pub live_filter : (slots : List Slot) → live_of (filter stays_in slots) ≡ filter stays (live_of slots)
  live_filter [] = refl
  live_filter (s ∷ later) = by_end s
      (λ e. ap live_of (cond-false (stays_in s) (s ∷ filter stays_in later) (filter stays_in later) (ap (λ x. not x && stays s.process) e))
      ∙ live_filter later ∙ ap (filter stays) (sym (live_ended s later e)))
      (λ e. elim (stays s.process) as (λ b. stays s.process ≡ b → live_of (filter stays_in (s ∷ later)) ≡ filter stays (live_of (s ∷ later))) [
        | true ↦ λ f.
            ap live_of (cond-true (stays_in s) (s ∷ filter stays_in later) (filter stays_in later) (stays_alive s true e f))
            ∙ live_alive s (filter stays_in later) e ∙ ap (λ (l : List Process). s.process ∷ l) (live_filter later)
            ∙ sym (ap (filter stays) (live_alive s later e) ∙ cond-true (stays s.process) (s.process ∷ filter stays (live_of later)) (filter stays (live_of later)) f)
        | false ↦ λ f.
            ap live_of (cond-false (stays_in s) (s ∷ filter stays_in later) (filter stays_in later) (stays_alive s false e f))
            ∙ live_filter later
            ∙ sym (ap (filter stays) (live_alive s later e) ∙ cond-false (stays s.process) (s.process ∷ filter stays (live_of later)) (filter stays (live_of later)) f)
      ] refl)

  -- how many of those that live pass
  pub count_live : (slots : List Slot) → count_by stays_in slots ≡ count_by stays (live_of slots)
  count_live [] = refl
  count_live (s ∷ later) =
      sum_by-cons (λ x. cond (stays_in x) 1 0) s later
      ∙ by_end s
      (λ e. ap (λ n. n + count_by stays_in later) (cond-false (stays_in s) 1 0 (ap (λ x. not x && stays s.process) e)) ∙ zero-add (count_by stays_in later)
      ∙ count_live later ∙ ap (count_by stays) (sym (live_ended s later e)))
      (λ e. ap (λ n. n + count_by stays_in later) (ap (λ b. cond b 1 0) (stays_alive s (stays s.process) e refl))
      ∙ ap (λ n. cond (stays s.process) 1 0 + n) (count_live later)
      ∙ sym (ap (count_by stays) (live_alive s later e) ∙ sum_by-cons (λ x. cond (stays x) 1 0) s.process (live_of later)))

pub pids_filter : (test : Slot → Bool) (low next : ℕ) (slots : List Slot) → PidsRise low next slots → PidsRise low next (filter test slots)
pids_filter test low next [] h = h
pids_filter test low next (s ∷ later) (at, rest) = elim (test s) as (λ b. test s ≡ b → PidsRise low next (filter test (s ∷ later))) [
  | true ↦ λ e. subst (λ (l : List Slot). PidsRise low next l) (sym (cond-true (test s) (s ∷ filter test later) (filter test later) e))
      (at, pids_filter test (s.process.pid + 1) next later rest)
  | false ↦ λ e. subst (λ (l : List Slot). PidsRise low next l) (sym (cond-false (test s) (s ∷ filter test later) (filter test later) e))
      (pids_from (s.process.pid + 1) low next (filter test later) (omega arith) (pids_filter test (s.process.pid + 1) next later rest))
] refl

-- those that live are all that have not ended
pub live_packed : (slots : List Slot) → live_of (filter (λ s. not s.ended) slots) ≡ live_of slots
live_packed [] = refl
live_packed (s ∷ later) = by_end s
    (λ e. ap live_of (cond-false (not s.ended) (s ∷ filter (λ s. not s.ended) later) (filter (λ s. not s.ended) later) (ap not e))
    ∙ live_packed later ∙ sym (live_ended s later e))
    (λ e. ap live_of (cond-true (not s.ended) (s ∷ filter (λ s. not s.ended) later) (filter (λ s. not s.ended) later) (ap not e))
    ∙ live_alive s (filter (λ s. not s.ended) later) e ∙ ap (λ (l : List Process). s.process ∷ l) (live_packed later) ∙ sym (live_alive s later e))

-- a process that is no first one ends alone
module _ (live : List Process) (pid : ℕ) (p : Process) (there : process_among live pid ≡ Some p) (other : p.first ≢ pid) where
  abbrev stays : Process → Bool
  stays q = not (ends_with pid q)

  -- nobody belongs to it
  not_its : (q : Process) → Belongs live q → (q.first == pid) ≡ false
  not_its q b = ne_eqb q.first pid (λ e.
      let one : b.first ≡ p = same_Some b.first p (sym b.alive ∙ ap (process_among live) e ∙ there) in
      other (sym (ap (λ (x : Process). x.first) one) ∙ b.own ∙ e))

  keeps_other : (q : Process) → q.pid ≢ pid → Belongs live q → stays q ≡ true
  keeps_other q ne b = ap (λ t. not (t || (q.first == pid))) (ne_eqb q.pid pid ne) ∙ ap not (not_its q b)

  -- of those behind it, all stay
  all_stay : (low next : ℕ) (ps : List Process) → RisesBelow low next ps → pid < low → AllBelong live ps → filter stays ps ≡ ps
  all_stay low next [] _ lt _ = refl
  all_stay low next (q ∷ later) (le, rest) lt (b, others) =
      cond-true (stays q) (q ∷ filter stays later) (filter stays later) (keeps_other q (λ e. absurd (omega arith)) b)
      ∙ ap (λ (l : List Process). q ∷ l) (all_stay (q.pid + 1) next later rest (omega arith) others)

  ends_alone : (low next : ℕ) (slots : List Slot) → PidsRise low next slots → AllBelong live (live_of slots) → (i : ℕ) → i < length slots → pid_at slots i ≡ pid
      → (get_or slots i nobody).ended ≡ false → live_of (set slots i (over (get_or slots i nobody))) ≡ filter stays (live_of slots)
  ends_alone low next [] _ _ i lt is lives = absurd (omega arith)
  ends_alone low next (s ∷ later) (le, rest) belong zero lt is lives =
      let b : AllBelong live (s.process ∷ live_of later) = subst (λ (l : List Process). AllBelong live l) (live_alive s later lives) belong in
      sym (all_stay (s.process.pid + 1) next (live_of later) (live_rises (s.process.pid + 1) next later rest) (omega arith) b.1)
      ∙ sym (ap (filter stays) (live_alive s later lives)
      ∙ cond-false (stays s.process) (s.process ∷ filter stays (live_of later)) (filter stays (live_of later))
      (ap not (or_left (s.process.pid == pid) (s.process.first == pid) (eq-eqb s.process.pid pid is))))
  ends_alone low next (s ∷ later) (le, rest) belong (suc i) lt is lives = by_end s
      (λ e.
      live_ended s (set later i (over (get_or later i nobody))) e
      ∙ ends_alone (s.process.pid + 1) next later rest (subst (λ (l : List Process). AllBelong live l) (live_ended s later e) belong) i (omega arith) is lives
      ∙ ap (filter stays) (sym (live_ended s later e)))
      (λ e.
      let b : AllBelong live (s.process ∷ live_of later) = subst (λ (l : List Process). AllBelong live l) (live_alive s later e) belong in
      let above : s.process.pid + 1 ≤ pid_at later i = above_low (s.process.pid + 1) next later rest i (omega arith) in
      live_alive s (set later i (over (get_or later i nobody))) e
      ∙ ap (λ (l : List Process). s.process ∷ l) (ends_alone (s.process.pid + 1) next later rest b.1 i (omega arith) is lives)
      ∙ sym (ap (filter stays) (live_alive s later e)
      ∙ cond-true (stays s.process) (s.process ∷ filter stays (live_of later)) (filter stays (live_of later)) (keeps_other s.process (λ f. absurd (omega arith)) b.0)))

-- a slot whose process is found lives
lives_if_some : (s : Slot) → is_some (alive_in s) ≡ true → (s.ended ≡ false) × (alive_in s ≡ Some s.process)
lives_if_some s some = by_end s
    (λ e. absurd (both_ways (is_some (alive_in s)) (ap is_some (cond-true s.ended None (Some s.process) e)) some))
    (λ e. (e, cond-false s.ended None (Some s.process) e))

-- the live processes, once the one of a pid has ended that is no first one
pub ended_alone : (slots : List Slot) (pid i : ℕ) → EndsAlone slots pid → i < length slots → pid_at slots i ≡ pid
    → live_of (set slots i (over (get_or slots i nobody))) ≡ filter (λ p. not (ends_with pid p)) (live_of slots)
ended_alone slots pid i alone within is =
    let s : Slot = get_or slots i nobody in
    let found : process_among (live_of slots) pid ≡ alive_in s = found_at 0 alone.rising.0 slots alone.rising.1 pid i within is in
    let lives : (s.ended ≡ false) × (alive_in s ≡ Some s.process) = lives_if_some s (ap is_some (sym found) ∙ alone.alive) in
    ends_alone (live_of slots) pid s.process (found ∙ lives.1) (alone.other s.process (found ∙ lives.1)) 0 alone.rising.0 slots alone.rising.1 alone.belong i within is lives.0

-- the pids rise as before, once a slot of the same pid stands at a place
pub pids_set : (low next : ℕ) (slots : List Slot) (i : ℕ) (s : Slot) → PidsRise low next slots → s.process.pid ≡ pid_at slots i → i < length slots → PidsRise low next (set slots i s)
pids_set low next [] i s h is lt = absurd (omega arith)
pids_set low next (t ∷ later) zero s (le, rest) is lt = subst (λ (n : ℕ). (low ≤ n) × PidsRise (n + 1) next later) (sym is) (le, rest)
pids_set low next (t ∷ later) (suc i) s (le, rest) is lt = (le, pids_set (t.process.pid + 1) next later i s rest is (omega arith))

-- where all live, none has ended
pub none_ended : (stays : Slot → Bool) (slots : List Slot) → ((s : Slot) → stays s ≡ true → s.ended ≡ false) → AreEnded (filter stays slots) 0
none_ended stays [] alive = refl
none_ended stays (s ∷ later) alive = elim (stays s) as (λ b. stays s ≡ b → AreEnded (filter stays (s ∷ later)) 0) [
  | true ↦ λ e.
      let rest : length (live_of (filter stays later)) ≡ length (filter stays later) = sym (zero-add _) ∙ none_ended stays later alive in
      subst (λ (l : List Slot). AreEnded l 0) (sym (cond-true (stays s) (s ∷ filter stays later) (filter stays later) e))
      (zero-add _ ∙ ap length (live_alive s (filter stays later) (alive s e)) ∙ ap suc rest)
  | false ↦ λ e.
      subst (λ (l : List Slot). AreEnded l 0) (sym (cond-false (stays s) (s ∷ filter stays later) (filter stays later) e)) (none_ended stays later alive)
] refl

pub alive_first : (a b : Bool) → (not a && b) ≡ true → a ≡ false
alive_first false b e = refl
alive_first true b e = sym e

-- of the slots, one that lives fewer once it has ended, and as many in all
one_fewer : (slots : List Slot) (i : ℕ) → i < length slots → (get_or slots i nobody).ended ≡ false
    → (length (live_of (set slots i (over (get_or slots i nobody)))) + 1 ≡ length (live_of slots)) × (length (set slots i (over (get_or slots i nobody))) ≡ length slots)
one_fewer [] i lt lives = absurd (omega (arith, lt))
one_fewer (s ∷ later) zero lt lives = (
  (let own : length (live_of (s ∷ later)) ≡ suc (length (live_of later)) = ap length (live_alive s later lives) in omega (arith, own)),
  refl,
)
one_fewer (s ∷ later) (suc i) lt lives =
    let deeper = one_fewer later i (omega (arith, lt)) lives in (
      by_end s
          (λ e. ap (λ n. n + 1) (ap length (live_ended s (set later i (over (get_or later i nobody))) e)) ∙ deeper.0 ∙ sym (ap length (live_ended s later e)))
          (λ e.
          let after : length (live_of (s ∷ set later i (over (get_or later i nobody)))) ≡ suc (length (live_of (set later i (over (get_or later i nobody))))) =
          ap length (live_alive s (set later i (over (get_or later i nobody))) e) in
          let before : length (live_of (s ∷ later)) ≡ suc (length (live_of later)) = ap length (live_alive s later e) in
          omega (arith, after, before, deeper.0)),
      ap suc deeper.1,
    )

-- one more has ended
pub one_more_ended : (slots : List Slot) (pid i ended : ℕ) → EndsAlone slots pid → i < length slots → pid_at slots i ≡ pid → AreEnded slots ended
    → AreEnded (set slots i (over (get_or slots i nobody))) (ended + 1)
one_more_ended slots pid i ended alone within is h =
    let s : Slot = get_or slots i nobody in
    let found : process_among (live_of slots) pid ≡ alive_in s = found_at 0 alone.rising.0 slots alone.rising.1 pid i within is in
    let lives : (s.ended ≡ false) × (alive_in s ≡ Some s.process) = lives_if_some s (ap is_some (sym found) ∙ alone.alive) in
    let fewer = one_fewer slots i within lives.0 in
    omega (arith, fewer.0, fewer.1, h)

-- a process more that lives
pub ended_push : (slots : List Slot) (p : Process) (ended : ℕ) → AreEnded slots ended → AreEnded (slots ++ record { process = p; ended = false } ∷ []) ended
ended_push slots p ended h =
    let live : length (live_of (slots ++ record { process = p; ended = false } ∷ [])) ≡ length (live_of slots) + 1 = ap length (live_push slots p) ∙ length-append _ _ in
    let all : length (slots ++ record { process = p; ended = false } ∷ []) ≡ length slots + 1 = length-append _ _ in
    omega (arith, live, all, h)
