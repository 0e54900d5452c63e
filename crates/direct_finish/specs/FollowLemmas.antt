-- Writes one after another.
use Rattle.std.proofs.Common.{◌≡◌, ◌+◌, ◌≤◌, Bool, true, false, ◌||◌, List, [], ◌∷◌, ◌++◌, refl, sym, ap, ◌∙◌, subst, arith}
use Rattle.std.specs.Prelude.{Some}
use Rattle.kernel_model.specs.declared.KernelFault.{KernelFault}
use Rattle.kernel_model.specs.KernelState.{KernelState}
use Rattle.apply_plan.specs.declared.scan.Write.{Write}
use Rattle.apply_plan.specs.Targets.{Targets}
use Rattle.apply_plan.specs.DueWrite.{written}
use Rattle.apply_plan.specs.MayWrite.{left_directly}
use Rattle.direct_finish.specs.FinishesDirectly.{Follow, after}
use Rattle.direct_finish.specs.Follows.{HasWritten, Stops, Falls}

-- what each write keeps, all keep
pub kept_along : (P : KernelState → Write → Type 0) (Q : KernelState → Type 0) → ((k : KernelState) (w : Write) → P k w → Q k → Q (written k (Some w)))
    → (ws : List Write) (k : KernelState) → Follow P k ws → Q k → Q (after k ws)
kept_along P Q keeps [] k follow q = q
kept_along P Q keeps (w ∷ later) k follow q = kept_along P Q keeps later (written k (Some w)) follow.1 (keeps k w follow.0 q)

-- writes that are so are so too, in states that are kept
pub follow_map : (P R : KernelState → Write → Type 0) (Q : KernelState → Type 0) → ((k : KernelState) (w : Write) → P k w → Q k → Q (written k (Some w)))
    → ((k : KernelState) (w : Write) → P k w → Q k → R k w) → (ws : List Write) (k : KernelState) → Follow P k ws → Q k → Follow R k ws
follow_map P R Q keeps f [] k follow q = tt
follow_map P R Q keeps f (w ∷ later) k follow q =
    (f k w follow.0 q, follow_map P R Q keeps f later (written k (Some w)) follow.1 (keeps k w follow.0 q))

module _ (P : KernelState → Write → Type 0) where
  pub follow_on : (ones later_ones : List Write) (k : KernelState) → Follow P k ones → Follow P (after k ones) later_ones → Follow P k (ones ++ later_ones)
  follow_on [] later_ones k first later = later
  follow_on (w ∷ ones) later_ones k first later = (first.0, follow_on ones later_ones (written k (Some w)) first.1 later)

  pub after_both : (ones later_ones : List Write) (k : KernelState) → after k (ones ++ later_ones) ≡ after (after k ones) later_ones
  after_both [] later_ones k = refl
  after_both (w ∷ ones) later_ones k = after_both ones later_ones (written k (Some w))

  pub none_written : (k : KernelState) → HasWritten P k k
  none_written k = record { writes = []; follow = tt; is = refl }

  pub one_written : (k : KernelState) (w : Write) → P k w → HasWritten P k (written k (Some w))
  one_written k w p = record { writes = w ∷ []; follow = (p, tt); is = refl }

  pub written_then : (old mid new : KernelState) → HasWritten P old mid → HasWritten P mid new → HasWritten P old new
  written_then old mid new a b = record {
    writes = a.writes ++ b.writes;
    follow = follow_on a.writes b.writes old a.follow (subst (λ k. Follow P k b.writes) a.is b.follow);
    is = b.is ∙ ap (λ k. after k b.writes) a.is ∙ sym (after_both a.writes b.writes old);
  }

  pub stops_then : (old mid new : KernelState) (fault : KernelFault) → HasWritten P old mid → Stops P mid fault new → Stops P old fault new
  stops_then old mid new fault a s = record {
    mid = s.mid;
    made = written_then old mid s.mid a s.made;
    fault_is = s.fault_is;
    tried = s.tried;
    wanted = s.wanted;
    is = s.is;
  }

  pub same_written : (old new : KernelState) → new ≡ old → HasWritten P old new
  same_written old new same = subst (λ k. HasWritten P old k) (sym same) (none_written old)

-- some of the writes, and then some more
pub falls_then : (h : Targets) (old mid new : KernelState) (a b : Bool) → Falls h old mid a → Falls h mid new b → Falls h old new (a || b)
falls_then h old mid new true true x y =
    let first : left_directly h mid + 1 ≤ left_directly h old = x in
    let second : left_directly h new + 1 ≤ left_directly h mid = y in
    omega (arith, first, second)
falls_then h old mid new true false x y =
    let first : left_directly h mid + 1 ≤ left_directly h old = x in
    let same : left_directly h new ≡ left_directly h mid = ap (left_directly h) y in
    omega (arith, first, same)
falls_then h old mid new false true x y =
    let same : left_directly h mid ≡ left_directly h old = ap (left_directly h) x in
    let second : left_directly h new + 1 ≤ left_directly h mid = y in
    omega (arith, second, same)
falls_then h old mid new false false x y = y ∙ x
