-- Rebalances in a row end.
use Rattle.std.proofs.Common.{◌≡◌, inl, inr, ℕ, suc, ◌+◌, ◌*◌, ◌<◌, ◌≤◌, Bool, true, false, cond, not, ◌||◌, List, [], ◌∷◌, length, refl, sym, ap, ◌∙◌, subst, arith}
use Rattle.std.proofs.Math.Nat.{suc-mul}
use Rattle.std.proofs.Math.Numerals.{add-one}
use Rattle.std.proofs.lemmas.Bool.{false≢true}
use Rattle.std.specs.Prelude.{filter, map, Ok, Err}
use Rattle.std.specs.List.{AllByRecursion, list_any}
use Rattle.faults.specs.declared.OrMemory.TheVariants.{Memory, Fault}
use Rattle.kernel_model.specs.declared.KernelFault.{KernelFault}
use Rattle.kernel_model.specs.declared.KernelFault.TheVariants.{Failed}
use Rattle.kernel_model.specs.KernelState.{KernelState, writes}
use Rattle.proctable.specs.TableState.{TableState}
use Rattle.rows.specs.Scaled.{ScaledRowsWeigh}
use Rattle.rows.specs.Weighs.{RowsWeigh}
use Rattle.apply_plan.specs.Effects.{TargetsTakeEffect}
use Rattle.node.specs.declared.fault.NodeFault.TheVariants.{Busy, Kernel}
use Rattle.node.specs.declared.order.Order.{Order}
use Rattle.node.specs.declared.outcome.Outcome.TheVariants.{Plan, Short}
use Rattle.node.specs.NodeState.{ContainerState, NodeState, is_underway}
use Rattle.node.specs.Status.{is_live}
use Rattle.node.specs.IsNode.{IsNode}
use Rattle.node.specs.Written.{live_count, PlanWrites}
use Rattle.node.specs.BreaksOff.{IsBrokenOff}
use Rattle.node.specs.Rebalance.{Rebalances}
use Rattle.node.specs.Standing.{PlanStands, KeepsPlan}
use Rattle.node.specs.Machine.{Event, Run}
use Rattle.node.specs.Machine.Event.{Rebalance}
use Rattle.node.specs.Retries.{Answer, is_answer, IsAnswerOrFailed, failed_in, RetriesEnd}
use Rattle.node.proofs.HeadlineLemmas.{rebalances_node, broken_off, rebalance_counts, rebalance_makes, headline}
use Rattle.node.proofs.OrderLemmas.{OrdersLeave, FewBy}
use Rattle.node.proofs.StandingLemmas.{plan_is_kept, answered_plans_stand}

abbrev Container : Type 0
Container = List ℕ × ContainerState

-- a rebalance in its order, with its answer
abbrev Called : Type 0
Called = Order × Answer

abbrev calls_of : List Called → List Event
calls_of calls = map (λ c. Rebalance c.0 c.1) calls

abbrev answers_of : List Called → List Answer
answers_of calls = map (λ c. c.1) calls

-- once more of a number
times_more : (f per : ℕ) → (suc f + 1) * per ≡ (f + 1) * per + per
times_more f per = ap (λ x. x * per) (add-one (suc f)) ∙ suc-mul (suc f) per ∙ ap (λ x. x * per + per) (sym (add-one f))

-- fewer that failed than there are, and one of them answers
one_answers : (answers : List Answer) → failed_in answers < length answers → list_any is_answer answers ≡ true
one_answers [] few = absurd (omega (arith, few))
one_answers (a ∷ later) few = by (is_answer a) refl (one_answers later) where
  by : (b : Bool) → is_answer a ≡ b → (failed_in later < length later → list_any is_answer later ≡ true) → list_any is_answer (a ∷ later) ≡ true
  by true is rest = ap (λ b. b || list_any is_answer later) is
  by false is rest =
      let more : failed_in (a ∷ later) ≡ suc (failed_in later) =
      ap (λ b. length (cond (not b) (a ∷ filter (λ answer. not (is_answer answer)) later) (filter (λ answer. not (is_answer answer)) later))) is in
      ap (λ b. b || list_any is_answer later) is ∙ rest (omega (arith, few, more))

-- as many live where the same containers are and the same processes
live_alike : (old new : NodeState) → new.containers ≡ old.containers → new.kernel.table ≡ old.kernel.table → live_count new ≡ live_count old
live_alike old new containers table =
    ap (λ (es : List Container). length (filter (λ e. is_live new.kernel e.1) es)) containers
    ∙ ap (λ (t : TableState). length (filter (λ (e : Container). is_live (record new.kernel { table = t }) e.1) old.containers)) table

module _ (law : OrdersLeave) (weigh : RowsWeigh) (parts : ScaledRowsWeigh) where
  -- ---- where a plan stands, all answer, and nothing is written

  record Calm (old : NodeState) (answers : List Answer) (new : NodeState) : Type 0 where
    each : AllByRecursion IsAnswerOrFailed answers
    none : failed_in answers ≡ 0
    kernel : new.kernel ≡ old.kernel

  calm : (total : ℕ) (calls : List Called) (old new : NodeState) → IsNode old → PlanStands old total → Run old (calls_of calls) new → Calm old (answers_of calls) new
  calm total [] old new h stands run = record { each = tt; none = refl; kernel = ap (λ (n : NodeState). n.kernel) run }
  calm total ((order, answer) ∷ later) old new h stands (mid, step, run) =
      by answer step (plan_is_kept law order old h total stands weigh parts answer mid step) (λ node found still. calm found later mid new node still run) where
        by : (a : Answer) → Rebalances order old a mid → KeepsPlan old total a mid
            → (IsNode mid → (found : ℕ) → PlanStands mid found → Calm mid (answers_of later) new) → Calm old (a ∷ answers_of later) new
        by (Ok (Plan found)) m kept rest =
            let on : Calm mid (answers_of later) new = rest (rebalances_node order old h law (Ok (Plan found)) mid m) found (answered_plans_stand law order old found mid h m) in
            record { each = (inl refl, on.each); none = on.none; kernel = on.kernel ∙ ap (λ (n : NodeState). n.kernel) kept.1 }
        by (Ok (Short wanted allowed)) l kept rest = absurd kept
        by (Err Memory) e kept rest =
            let on : Calm mid (answers_of later) new = rest (subst (λ (n : NodeState). IsNode n) (sym kept) h) total (subst (λ (n : NodeState). PlanStands n total) (sym kept) stands) in
            record { each = (inl refl, on.each); none = on.none; kernel = on.kernel ∙ ap (λ (n : NodeState). n.kernel) kept }
        by (Err (Fault fault)) e kept rest = absurd kept

  -- ---- else each write that fails is counted, and a plan is the last that writes

  module _ (effects : TargetsTakeEffect) (bound : FewBy) (per : ℕ) where
    record Leaves (old : NodeState) (answers : List Answer) (new : NodeState) : Type 0 where
      each : AllByRecursion IsAnswerOrFailed answers
      counted : new.kernel.failures ≡ old.kernel.failures + failed_in answers
      few : writes new.kernel ≤ writes old.kernel + failed_in answers + (failed_in answers + 1) * per

    abbrev Ready : NodeState → Type 0
    Ready n = IsNode n × ((is_underway n.phase ≡ false) × (2 * live_count n ≡ per))

    -- what was answered without a write
    unwritten : (old mid new : NodeState) (answer : Answer) (later : List Answer) → is_answer answer ≡ true → mid.kernel ≡ old.kernel → Leaves mid later new
        → failed_in (answer ∷ later) ≡ failed_in later → Leaves old (answer ∷ later) new
    unwritten old mid new answer later is same on none =
        let failures : mid.kernel.failures ≡ old.kernel.failures = ap (λ (k : KernelState). k.failures) same in
        let unwritten : writes mid.kernel ≡ writes old.kernel = ap (λ (k : KernelState). writes k) same in
        record {
          each = (inl is, on.each);
          counted = omega (arith, on.counted, failures, none);
          few = subst (λ f. writes new.kernel ≤ writes old.kernel + f + (f + 1) * per) (sym none)
              (subst (λ w. writes new.kernel ≤ w + failed_in later + (failed_in later + 1) * per) unwritten on.few);
        }

    -- a plan, after which it is calm
    after_plan : (old mid new : NodeState) (total : ℕ) (later : List Answer) → writes mid.kernel ≤ writes old.kernel + per
        → mid.kernel.failures ≡ old.kernel.failures + 0 → Calm mid later new → Leaves old (Ok (Plan total) ∷ later) new
    after_plan old mid new total later made failed on =
        let failures : new.kernel.failures ≡ mid.kernel.failures = ap (λ (k : KernelState). k.failures) on.kernel in
        let unwritten : writes new.kernel ≡ writes mid.kernel = ap (λ (k : KernelState). writes k) on.kernel in
        let none : failed_in later ≡ 0 = on.none in
        record {
          each = (inl refl, on.each);
          counted = omega (arith, failures, failed, none);
          few = subst (λ f. writes new.kernel ≤ writes old.kernel + f + (f + 1) * per) (sym none) (omega (arith, unwritten, made));
        }

    -- a write that failed, after which the others follow
    after_failure : (old mid new : NodeState) (answer : Answer) (later : List Answer) → answer ≡ Err (Fault (Kernel Failed))
        → failed_in (answer ∷ later) ≡ suc (failed_in later) → writes mid.kernel ≤ writes old.kernel + per + 1
        → mid.kernel.failures ≡ old.kernel.failures + 1 → Leaves mid later new → Leaves old (answer ∷ later) new
    after_failure old mid new answer later is more made failed on =
        let rest : writes new.kernel ≤ writes mid.kernel + failed_in later + (failed_in later + 1) * per = on.few in
        record {
          each = (inr is, on.each);
          counted = omega (arith, on.counted, failed, more);
          few = subst (λ f. writes new.kernel ≤ writes old.kernel + f + (f + 1) * per) (sym more) (omega (arith, rest, made, times_more (failed_in later) per));
        }

    ready_again : (old new : NodeState) → Ready old → IsNode new → is_underway new.phase ≡ false → new.containers ≡ old.containers
        → new.kernel.table ≡ old.kernel.table → Ready new
    ready_again old new ready node settled containers table = (node, (settled, ap (λ n. 2 * n) (live_alike old new containers table) ∙ ready.1.1))

    goes : (calls : List Called) (old new : NodeState) → Ready old → Run old (calls_of calls) new → Leaves old (answers_of calls) new
    goes [] old new ready run =
        let failures : new.kernel.failures ≡ old.kernel.failures = ap (λ (n : NodeState). n.kernel.failures) run in
        let unwritten : writes new.kernel ≡ writes old.kernel = ap (λ (n : NodeState). writes n.kernel) run in
        record { each = tt; counted = omega (arith, failures); few = omega (arith, unwritten) }
    goes ((order, answer) ∷ later) old new ready (mid, step, run) = by answer step (λ r. goes later mid new r run) where
      h : IsNode old
      h = ready.0

      node : (a : Answer) → Rebalances order old a mid → IsNode mid
      node a r = rebalances_node order old h law a mid r

      by : (a : Answer) → Rebalances order old a mid → (Ready mid → Leaves mid (answers_of later) new) → Leaves old (a ∷ answers_of later) new
      by (Ok (Plan total)) m rest =
          let made : PlanWrites order old mid = rebalance_makes order old h law effects bound (Ok (Plan total)) mid m in
          let most : writes mid.kernel ≤ writes old.kernel + 2 * live_count old = made.few in
          after_plan old mid new total (answers_of later) (subst (λ p. writes mid.kernel ≤ writes old.kernel + p) ready.1.1 most)
          (rebalance_counts order old h law (Ok (Plan total)) mid m)
          (calm total later mid new (node (Ok (Plan total)) m) (answered_plans_stand law order old total mid h m) run)
      by (Ok (Short wanted allowed)) l rest =
          unwritten old mid new (Ok (Short wanted allowed)) (answers_of later) refl (ap (λ (n : NodeState). n.kernel) l.is)
          (rest (ready_again old mid ready (node (Ok (Short wanted allowed)) l) (ap (λ (n : NodeState). is_underway n.phase) l.is ∙ ready.1.0)
          (ap (λ (n : NodeState). n.containers) l.is) (ap (λ (n : NodeState). n.kernel.table) l.is))) refl
      by (Err Memory) e rest =
          unwritten old mid new (Err Memory) (answers_of later) refl (ap (λ (n : NodeState). n.kernel) e.1) (rest (subst (λ (n : NodeState). Ready n) (sym e.1) ready)) refl
      by (Err (Fault (Kernel fault))) m rest =
          let failed : fault ≡ Failed = headline order old h law effects weigh parts (Err (Fault (Kernel fault))) mid m in
          let left : IsBrokenOff order old mid = broken_off order old h law weigh m.0 fault mid m.1 in
          let made : writes mid.kernel ≤ writes old.kernel + 2 * live_count old + 1 = rebalance_makes order old h law effects bound (Err (Fault (Kernel fault))) mid m in
          after_failure old mid new (Err (Fault (Kernel fault))) (answers_of later) (ap (λ (f : KernelFault). Err (Fault (Kernel f))) failed) refl
          (subst (λ p. writes mid.kernel ≤ writes old.kernel + p + 1) ready.1.1 made) left.counted
          (rest (ready_again old mid ready (node (Err (Fault (Kernel fault))) m) (ap is_underway left.phase) left.same left.broken.rest.table))
      by (Err (Fault Busy)) e rest = absurd (false≢true (sym ready.1.0 ∙ e.0))
      by (Err (Fault fault)) e rest = absurd e

  pub retries_end : TargetsTakeEffect → FewBy → RetriesEnd
  retries_end effects bound old calls new h settled run =
      let leaves : Leaves effects bound (2 * live_count old) old (answers_of calls) new = goes effects bound (2 * live_count old) calls old new (h, (settled, refl)) run in
      record {
        each = leaves.each;
        counted = leaves.counted;
        ends = λ fewer. one_answers (answers_of calls) (omega (arith, fewer, leaves.counted));
        few = leaves.few;
      }
