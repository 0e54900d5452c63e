-- Runs that keep one folder locked take turns.
use Rattle.std.proofs.Common.{◌≡◌, inl, inr, ℕ, Bool, true, false, not, cond, ◌&&◌, ◌||◌, List, [], ◌∷◌, ◌++◌, reverse, append_assoc, refl, sym, ap, subst}
use Rattle.std.proofs.lemmas.Bool.{false≢true}
use Rattle.std.proofs.lemmas.List.{reverse-append}
use Rattle.std.proofs.lemmas.Slice.Eq.{bytes_eq-Decides}
use Rattle.std.specs.Prelude.{◌⊎◌}
use Rattle.std.specs.List.{AllByRecursion, list_any}
use Rattle.std.specs.Str.{bytes_eq}
use Rattle.cgroup_tree.specs.Asked.{Asked, Locked, done}
use Rattle.cgroup_tree.specs.Roots.{Finding, names_strangers}
use Rattle.restarts.specs.Locks.{Timed, is_by, calls_by, gets_lock, has_lock, LocksHold, BeginsLocked, IsFirst, RunsTakeTurns, RunsBeginLocked}

same_bytes : (a : List ℕ) → bytes_eq a a ≡ true
same_bytes a = (bytes_eq-Decides a a).1 refl

-- each call is by one of both
by_either : (who : Bool) (call : Timed) → (is_by who call ≡ true) ⊎ ((is_by who call ≡ false) × (is_by (not who) call ≡ true))
by_either true (true, call) = inl refl
by_either true (false, call) = inr (refl, refl)
by_either false (true, call) = inr (refl, refl)
by_either false (false, call) = inl refl

not_by : (who : Bool) (call : Timed) → is_by who call ≡ true → is_by (not who) call ≡ false
not_by true (true, call) e = refl
not_by true (false, call) e = absurd (false≢true e)
not_by false (true, call) e = absurd (false≢true e)
not_by false (false, call) e = refl

-- whose call it is
of_call : (who : Bool) (call : Timed) → is_by (not who) call ≡ true → not call.0 ≡ who
of_call true (true, call) e = absurd (false≢true e)
of_call true (false, call) e = refl
of_call false (true, call) e = refl
of_call false (false, call) e = absurd (false≢true e)

still_any : (test : Timed → Bool) (xs : List Timed) (y : Timed) → list_any test xs ≡ true → list_any test (xs ++ y ∷ []) ≡ true
still_any test [] y e = absurd (false≢true e)
still_any test (x ∷ xs) y e = by (λ h. still_any test xs y h) (test x) e where
  by : (list_any test xs ≡ true → list_any test (xs ++ y ∷ []) ≡ true) → (b : Bool) → (b || list_any test xs) ≡ true → (b || list_any test (xs ++ y ∷ [])) ≡ true
  by rest true e = refl
  by rest false e = rest e

last_any : (test : Timed → Bool) (xs : List Timed) (y : Timed) → test y ≡ true → list_any test (xs ++ y ∷ []) ≡ true
last_any test [] y e = ap (λ b. b || false) e
last_any test (x ∷ xs) y e = by (last_any test xs y e) (test x) where
  by : list_any test (xs ++ y ∷ []) ≡ true → (b : Bool) → (b || list_any test (xs ++ y ∷ [])) ≡ true
  by rest true = refl
  by rest false = rest

none_any : (test : Timed → Bool) (xs : List Timed) → list_any test xs ≡ false → AllByRecursion (λ call. test call ≡ false) xs
none_any test [] e = tt
none_any test (x ∷ xs) e = by (λ h. none_any test xs h) (test x) refl e where
  by : (list_any test xs ≡ false → AllByRecursion (λ call. test call ≡ false) xs) → (b : Bool) → test x ≡ b → (b || list_any test xs) ≡ false → AllByRecursion (λ call. test call ≡ false) (x ∷ xs)
  by rest true is e = absurd (false≢true (sym e))
  by rest false is e = (is, rest e)

no_more : (a b : Bool) → (a && b) ≡ false → a ≡ true → b ≡ false
no_more true b e is = e
no_more false b e is = absurd (false≢true is)

both : (a b : Bool) → a ≡ true → b ≡ true → (a && b) ≡ true
both true b p q = q
both false b p q = p

module _ (root : List ℕ) (who : Bool) where
  abbrev got : Timed → Bool
  got call = is_by who call && gets_lock root call.1

  -- while this run has the lock, and the other has not begun: it ends before that begins
  turn : (before after : List Timed) → list_any got before ≡ true → BeginsLocked root (calls_by (not who) after) → LocksHold root before after → IsFirst who after
  turn before [] has begins holds = record { early = []; late = []; whole = refl; its = tt; others = tt }
  turn before (call ∷ after) has begins holds =
      by (λ rest. turn (before ++ call ∷ []) after (still_any got before call has) rest holds.1) (by_either who call) where
        by : (BeginsLocked root (calls_by (not who) after) → IsFirst who after) → (is_by who call ≡ true) ⊎ ((is_by who call ≡ false) × (is_by (not who) call ≡ true)) → IsFirst who (call ∷ after)
        by next (inl own) =
            let rest = next (subst (λ b. BeginsLocked root (cond b (call.1 ∷ calls_by (not who) after) (calls_by (not who) after))) (not_by who call own) begins) in
            record { early = call ∷ rest.early; late = rest.late; whole = ap (λ cs. call ∷ cs) rest.whole; its = (own, rest.its); others = rest.others }
        by next (inr other) =
            let locks : gets_lock root call.1 ≡ true =
            subst (λ b. BeginsLocked root (cond b (call.1 ∷ calls_by (not who) after) (calls_by (not who) after))) other.1 begins in
            let free : has_lock root who before after ≡ false = subst (λ b. has_lock root b before after ≡ false) (of_call who call other.1) (holds.0 locks) in
            record {
              early = [];
              late = call ∷ after;
              whole = refl;
              its = tt;
              others = (other.0, none_any (is_by who) after (no_more (list_any got before) (list_any (is_by who) after) free has));
            }

  -- the first call is its own
  first_turn : (call : Timed) (after : List Timed) → is_by who call ≡ true → BeginsLocked root (calls_by who (call ∷ after))
      → BeginsLocked root (calls_by (not who) (call ∷ after)) → LocksHold root [] (call ∷ after) → IsFirst who (call ∷ after)
  first_turn call after own begins others holds =
      let locks : gets_lock root call.1 ≡ true =
      subst (λ b. BeginsLocked root (cond b (call.1 ∷ calls_by who after) (calls_by who after))) own begins in
      let rest = turn (call ∷ []) after (last_any got [] call (both (is_by who call) (gets_lock root call.1) own locks))
      (subst (λ b. BeginsLocked root (cond b (call.1 ∷ calls_by (not who) after) (calls_by (not who) after))) (not_by who call own) others) holds.1 in
      record { early = call ∷ rest.early; late = rest.late; whole = ap (λ cs. call ∷ cs) rest.whole; its = (own, rest.its); others = rest.others }

pub runs_take_turns : RunsTakeTurns
runs_take_turns root [] one other holds = inl (record { early = []; late = []; whole = refl; its = tt; others = tt })
runs_take_turns root ((true, call) ∷ after) one other holds = inl (first_turn root true (true, call) after refl one other holds)
runs_take_turns root ((false, call) ∷ after) one other holds = inr (first_turn root false (false, call) after refl other one holds)

-- the oldest call of these is the first
oldest : (root : List ℕ) (these : List Asked) → BeginsLocked root (reverse (these ++ done (Locked root) ∷ []))
oldest root these =
    subst (BeginsLocked root) (sym (reverse-append these (done (Locked root) ∷ []))) (same_bytes root)

pub runs_begin_locked : (finds : List ℕ → Finding → Type 0) → RunsBeginLocked finds
runs_begin_locked finds root online nodes adopt found opened later tells =
    let told : List Asked = names_strangers finds root adopt found.1 in
    subst (λ (cs : List Asked). BeginsLocked root (reverse (later ++ cs))) (sym tells)
    (subst (λ (cs : List Asked). BeginsLocked root (reverse cs)) (append_assoc later told (done (Locked root) ∷ [])) (oldest root (later ++ told)))
