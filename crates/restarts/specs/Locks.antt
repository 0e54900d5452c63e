-- Two runs that both keep a folder locked.
-- From: flock(2), LOCK_EX.
use Rattle.std.specs.Prelude.{◌≡◌, ◌⊎◌, ◌&&◌, ℕ, Bool, true, false, not, cond, List, [], ◌∷◌, ◌++◌, reverse, Ok}
use Rattle.std.specs.List.{AllByRecursion, list_any}
use Rattle.std.specs.Str.{bytes_eq}
use Rattle.cpu_set.specs.Ids.{Ids}
use Rattle.cgroup_tree.specs.Asked.{Asked, Deed, Locked, Stranger}
use Rattle.cgroup_tree.specs.Roots.{Finding, RootTells}

-- a call, and which of two runs made it
abbrev pub Timed : Type 0
Timed = Bool × Asked

-- this run made it
abbrev pub is_by : Bool → Timed → Bool
is_by true call = call.0
is_by false call = not call.0

-- what one of them called, in its order
abbrev pub calls_by : Bool → List Timed → List Asked
calls_by who [] = []
calls_by who (call ∷ later) = cond (is_by who call) (call.1 ∷ calls_by who later) (calls_by who later)

-- the deed keeps other programs from this folder
abbrev pub locks : List ℕ → Deed → Bool
locks root (Locked path) = bytes_eq root path
locks root deed = false

-- the lock of the folder was asked for, and had
abbrev pub gets_lock : List ℕ → Asked → Bool
gets_lock root call = call.done && locks root call.deed

-- a run that had the lock has it until it ends, and it has not ended while it calls something later
abbrev pub has_lock : List ℕ → Bool → (before after : List Timed) → Bool
has_lock root who before after = list_any (λ call. is_by who call && gets_lock root call.1) before && list_any (is_by who) after

-- locks do what they answer: a run gets one only while the other has it not. The calls before these are given too.
abbrev pub LocksHold : List ℕ → (before these : List Timed) → Type 0
LocksHold root before [] = Unit {0}
LocksHold root before (call ∷ after) =
    (gets_lock root call.1 ≡ true → has_lock root (not call.0) before after ≡ false) × LocksHold root (before ++ call ∷ []) after

-- the first call of a run gets the lock
abbrev pub BeginsLocked : List ℕ → List Asked → Type 0
BeginsLocked root [] = Unit {0}
BeginsLocked root (call ∷ later) = gets_lock root call ≡ true

-- all calls of this run come before all of the other
pub record IsFirst (who : Bool) (calls : List Timed) : Type 0 where
  pub early : List Timed
  pub late : List Timed
  pub whole : calls ≡ early ++ late
  pub its : AllByRecursion (λ call. is_by who call ≡ true) early
  pub others : AllByRecursion (λ call. is_by who call ≡ false) late

-- two runs that begin with the lock of one folder don't interleave, in whichever order their calls are made
abbrev pub RunsTakeTurns : Type 0
RunsTakeTurns =
    (root : List ℕ) (calls : List Timed) → BeginsLocked root (calls_by true calls) → BeginsLocked root (calls_by false calls) → LocksHold root [] calls
    → IsFirst true calls ⊎ IsFirst false calls

-- a run whose root was taken begins with its lock, whatever it asks of the files behind what the root was opened by: the newest
-- call stands first in these lists
abbrev pub RunsBeginLocked : (List ℕ → Finding → Type 0) → Type 0
RunsBeginLocked finds =
    (root : List ℕ) (online nodes : Ids) (adopt : Bool) (found : Ids × List Stranger) (opened later : List Asked)
    → RootTells finds root online nodes adopt (Ok found) opened → BeginsLocked root (reverse (later ++ opened))
