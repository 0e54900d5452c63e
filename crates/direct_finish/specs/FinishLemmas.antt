-- What all writes of a direct hand-over leave.
use Rattle.std.proofs.Common.{◌≡◌, ◌+◌, ◌*◌, ◌≤◌, List, length, true, false, refl, sym, ap, ◌∙◌, subst, arith, inl, inr}
use Rattle.std.proofs.lemmas.Bool.{false≢true}
use Rattle.std.specs.Prelude.{find, Option, Some, None, is_none, Result, Ok, Err, IsOk}
use Rattle.kernel_model.specs.declared.KernelFault.{KernelFault}
use Rattle.kernel_model.specs.KernelState.{KernelState, writes}
use Rattle.kernel_model.specs.Cases.{rise}
use Rattle.kernel_model.specs.KernelLemmas.{itself_alike}
use Rattle.apply_plan.specs.declared.Entry.{Entry}
use Rattle.apply_plan.specs.declared.scan.Write.{Write}
use Rattle.apply_plan.specs.Holders.{IsSafe}
use Rattle.apply_plan.specs.Targets.{holders_of, IsHandover, IsPlaced, ArePlaced}
use Rattle.apply_plan.specs.DueWrite.{held, must_move, written, missed, HasTarget, HaveTargets}
use Rattle.apply_plan.specs.Leaves.{KeepsRest}
use Rattle.apply_plan.specs.LeavesLemmas.{rest_then}
use Rattle.apply_plan.specs.ListLemmas.{all_map, find_none}
use Rattle.apply_plan.specs.WriteLemmas.{holds_target}
use Rattle.apply_plan.specs.KernelFactLemmas.{made_is_placed, missed_makes}
use Rattle.apply_plan.specs.HandoverLemmas.{keeps_itself}
use Rattle.apply_plan.specs.MayWrite.{OnWay, left_directly}
use Rattle.apply_plan.specs.Directed.{Directed, allowed_of, Least, Serves}
use Rattle.apply_plan.specs.OnWay.{AreOnWay, Makes}
use Rattle.apply_plan.specs.DirectOneStep.{SpendsDirectly}
use Rattle.apply_plan.specs.DirectLemmas.{few_left}
use Rattle.apply_plan.specs.DirectCaseLemmas.{Direct, Takes, direct_is, makes}
use Rattle.apply_plan.specs.DirectStepLemmas.{made_safe, made_lowers, made_keeps, made_on_way}
use Rattle.apply_plan.specs.Squeezes.{SqueezesOnlyStuck}
use Rattle.apply_plan.specs.SqueezeLemmas.{by_write}
use Rattle.direct_finish.specs.FinishesDirectly.{MayFollow, Follow, after, EndsAt, FinishesDirectly, SqueezesInRings}
use Rattle.direct_finish.specs.Follows.{HasWritten}
use Rattle.direct_finish.specs.FollowLemmas.{kept_along, follow_map}

module _ (d : Directed) (valid : IsHandover d.targets) (least : Least) (serves : Serves d least) where
  -- whichever of the two a write is, it is one of the direct order
  pub is_direct : (k : KernelState) (w : Write) → MayFollow d least k w → Direct d least k (Some w)
  is_direct k w (inl t) = subst (λ (x : Write). Direct d least k (Some x)) (sym t.is) (Takes t.test t.e t.found t.may)
  is_direct k w (inr due) = subst (Direct d least k) due (direct_is d least k)

  pub may_make : (k : KernelState) (w : Write) → MayFollow d least k w → Makes d k w
  may_make k w follows = makes d valid least serves k w (is_direct k w follows)

  -- what each of them keeps
  module _ (Q : KernelState → Type 0) (keeps : (k : KernelState) (w : Write) → ArePlaced k d.targets.entries → Makes d k w → Q k → Q (written k (Some w))) where
    -- the entries are placed, and it holds
    abbrev pub Both : KernelState → Type 0
    Both k = ArePlaced k d.targets.entries × Q k

    both_on : (k : KernelState) (w : Write) → MayFollow d least k w → Both k → Both (written k (Some w))
    both_on k w follows b = (made_is_placed k (written k (Some w)) (Some w) (Ok tt) refl d.targets.entries b.0, keeps k w b.0 (may_make k w follows) b.1)

    pub along : (old : KernelState) (ws : List Write) → Follow (MayFollow d least) old ws → ArePlaced old d.targets.entries → Q old → Both (after old ws)
    along old ws follow placed q = kept_along (MayFollow d least) Both both_on ws old follow (placed, q)

  pub along_safe : (old : KernelState) (ws : List Write) → Follow (MayFollow d least) old ws → ArePlaced old d.targets.entries → IsSafe old d.targets.reserved (holders_of d.targets.entries)
      → ArePlaced (after old ws) d.targets.entries × IsSafe (after old ws) d.targets.reserved (holders_of d.targets.entries)
  along_safe old ws follow placed safe =
      along (λ k. IsSafe k d.targets.reserved (holders_of d.targets.entries)) (λ k w p m s. made_safe d valid k p w m s) old ws follow placed safe

  -- after some of them what was safe is safe, and the entries are placed
  pub written_safe : (old new : KernelState) → HasWritten (MayFollow d least) old new → ArePlaced old d.targets.entries → IsSafe old d.targets.reserved (holders_of d.targets.entries)
      → ArePlaced new d.targets.entries × IsSafe new d.targets.reserved (holders_of d.targets.entries)
  written_safe old new made placed safe =
      subst (λ (k : KernelState). ArePlaced k d.targets.entries × IsSafe k d.targets.reserved (holders_of d.targets.entries)) (sym made.is)
      (along_safe old made.writes made.follow placed safe)

  module _ (old new : KernelState) (placed : ArePlaced old d.targets.entries) (r : Result (Unit {0}) KernelFault) (f : FinishesDirectly d least old r new) where
    -- the kernel after the last write that was made
    abbrev pub last : KernelState
    last = after old f.writes

    pub last_placed : ArePlaced last d.targets.entries
    last_placed = (along (λ k. Unit {0}) (λ k w p m u. tt) old f.writes f.follow placed tt).0

    -- what the last one keeps, the end keeps
    module _ (Q : KernelState → Type 0) (fails : (k : KernelState) (w : Write) → Q k → Q (missed (Some w) k)) where
      at_end : (x : Result (Unit {0}) KernelFault) → EndsAt d least last x new → Q last → Q new
      at_end (Ok _) ends q = subst Q (sym ends.0) q
      at_end (Err fault) ends q = subst Q (sym ends.1.2) (fails last ends.1.0 q)

    pub finish_placed : ArePlaced new d.targets.entries
    finish_placed = at_end (λ k. ArePlaced k d.targets.entries)
        (λ k w p. all_map (λ e. IsPlaced k e.group) (λ e. IsPlaced (missed (Some w) k) e.group) (λ e q. record { there = q.there; below = q.below }) d.targets.entries p) r f.ends last_placed

    pub finish_safe : IsSafe old d.targets.reserved (holders_of d.targets.entries) → IsSafe new d.targets.reserved (holders_of d.targets.entries)
    finish_safe safe =
        at_end (λ k. IsSafe k d.targets.reserved (holders_of d.targets.entries)) (λ k w s. record { apart = s.apart; some = s.some }) r f.ends (along_safe old f.writes f.follow placed safe).1

    pub finish_on_way : (first : KernelState) → AreOnWay d first old → AreOnWay d first new
    finish_on_way first on =
        at_end (AreOnWay d first)
        (λ k w all. all_map (λ a. OnWay d.targets.reserved (allowed_of d a) first a (held k a)) (λ a. OnWay d.targets.reserved (allowed_of d a) first a (held (missed (Some w) k) a))
        (λ a o. record { keeps = o.keeps; within = o.within }) d.targets.entries all) r f.ends
        (along (AreOnWay d first) (λ k w p m s. made_on_way d valid k p w m first s) old f.writes f.follow placed on).1

    pub finish_keeps : KeepsRest d.targets old new
    finish_keeps =
        at_end (KeepsRest d.targets old) (λ k w rest. rest_then d.targets old k (missed (Some w) k) rest (record {
          table = refl;
          present = refl;
          reserved = refl;
          online = refl;
          nodes = refl;
          alike = itself_alike k.tree;
          mems = λ g. refl;
          others = λ g o. refl;
        })) r f.ends
        (along (KeepsRest d.targets old) (λ k w p m rest. rest_then d.targets old k (written k (Some w)) rest (made_keeps d valid k p w m)) old f.writes f.follow placed (keeps_itself d.targets old)).1

    last_counts : last.failures ≡ old.failures
    last_counts = (along (λ k. k.failures ≡ old.failures) (λ k w p m same. same) old f.writes f.follow placed refl).1

    last_spends : writes last + left_directly d.targets last ≤ writes old + left_directly d.targets old
    last_spends =
        (along (λ k. writes k + left_directly d.targets k ≤ writes old + left_directly d.targets old)
        (λ k w p m so_far.
        let less : left_directly d.targets (written k (Some w)) + 1 ≤ left_directly d.targets k = made_lowers d valid k p w m in
        let one : writes (written k (Some w)) ≡ writes k + 1 = omega arith in
        omega (arith, so_far, less, one)) old f.writes f.follow placed (omega arith)).1

    pub finish_counts : new.failures ≡ old.failures + rise r
    finish_counts = by r f.ends where
      by : (x : Result (Unit {0}) KernelFault) → EndsAt d least last x new → new.failures ≡ old.failures + rise x
      by (Ok _) ends = let same : new.failures ≡ last.failures = ap (λ k. k.failures) ends.0 in let none : last.failures ≡ old.failures = last_counts in omega (arith, same, none)
      by (Err fault) ends =
          let one : new.failures ≡ last.failures + 1 = ap (λ k. k.failures) ends.1.2 in
          let none : last.failures ≡ old.failures = last_counts in
          let risen : rise {A = Unit {0}} (Err fault) ≡ 1 = ap (λ (x : KernelFault). rise {A = Unit {0}} (Err x)) ends.0 in
          omega (arith, one, none, risen)

    pub finish_spends : SpendsDirectly d old (rise r) new
    finish_spends = by r f.ends where
      by : (x : Result (Unit {0}) KernelFault) → EndsAt d least last x new → SpendsDirectly d old (rise x) new
      by (Ok _) ends =
          let same : writes new ≡ writes last = ap writes ends.0 in
          let left : left_directly d.targets new ≡ left_directly d.targets last = ap (left_directly d.targets) ends.0 in
          let spent : writes last + left_directly d.targets last ≤ writes old + left_directly d.targets old = last_spends in
          omega (arith, same, left, spent)
      by (Err fault) ends =
          let one : writes new ≡ writes last + 1 = ap writes ends.1.2 ∙ missed_makes (Some ends.1.0) last in
          let left : left_directly d.targets new ≡ left_directly d.targets last = ap (left_directly d.targets) ends.1.2 in
          let spent : writes last + left_directly d.targets last ≤ writes old + left_directly d.targets old = last_spends in
          let risen : rise {A = Unit {0}} (Err fault) ≡ 1 = ap (λ (x : KernelFault). rise {A = Unit {0}} (Err x)) ends.0 in
          omega (arith, one, left, spent, risen)

    pub finish_few : writes new ≤ writes old + 2 * length d.targets.entries + rise r
    finish_few =
        let spent : writes new + left_directly d.targets new ≤ writes old + left_directly d.targets old + rise r = finish_spends in
        let few : left_directly d.targets old ≤ 2 * length d.targets.entries = few_left d.targets old in
        omega (arith, spent, few)

    pub finish_done : IsOk r → HaveTargets new d.targets.entries
    finish_done = by r f.ends where
      none_of : (o : Option Entry) → is_none o ≡ true → o ≡ None
      none_of None e = refl
      none_of (Some x) e = absurd (false≢true e)

      by : (x : Result (Unit {0}) KernelFault) → EndsAt d least last x new → IsOk x → HaveTargets new d.targets.entries
      by (Ok _) ends ok = subst (λ (k : KernelState). HaveTargets k d.targets.entries) (sym ends.0)
          (all_map (λ a. must_move last a ≡ false) (HasTarget last) (λ a stays live. holds_target last a stays live) d.targets.entries
          (find_none (must_move last) d.targets.entries (none_of (find (must_move last) d.targets.entries) ends.1)))
      by (Err fault) ends ok = absurd (false≢true ok)

    pub finish_squeezes : SqueezesInRings d least old r new
    finish_squeezes = record {
      finishes = f;
      squeezes = follow_map (MayFollow d least) (λ k w. SqueezesOnlyStuck d least k (written k (Some w))) (λ k. ArePlaced k d.targets.entries)
          (λ k w follows p. made_is_placed k (written k (Some w)) (Some w) (Ok tt) refl d.targets.entries p)
          (λ k w follows p. by_write d valid least serves k p w (is_direct k w follows)) f.writes old f.follow placed;
    }
