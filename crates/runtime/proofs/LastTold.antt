-- The outcome that was told last stays what the node keeps.
use Rattle.std.proofs.Common.{◌≡◌, ℕ, ◌*◌, ◌/◌, ◌<◌, ◌≤◌, List, [], ◌∷◌, Option, Some, None, Result, Ok, Err, inl, inr, refl, sym, ap, ap₂, subst, ◌∙◌, arith}
use Rattle.std.proofs.Math.Nat.{mul-div_cancel}
use Rattle.std.proofs.lemmas.Option.{none-some, same_Some}
use Rattle.std.specs.FinSet as set
use Rattle.faults.specs.declared.or_memory.OrMemory.{OrMemory}
use Rattle.faults.specs.declared.or_memory.OrMemory.TheVariants.{Memory, Fault}
use Rattle.cpu_set.specs.Ids.{Ids}
use Rattle.certificate.specs.Packed.{distance_of, moves_of}
use Rattle.certificate.specs.declared.weights.Weights.TheVariants.{WithMoves}
use Rattle.certificate.specs.Verdict.{AreParts, plan_verdict}
use Rattle.certificate.specs.declared.certificates.Certificate.{Certificate}
use Rattle.certificate.specs.declared.checking.Verdict.{Verdict}
use Rattle.certificate.specs.declared.checking.Verdict.TheVariants as proves
use Rattle.certificate_text.specs.Verdict.{IsVerdict}
use Rattle.certificate_text.specs.Written.{text_of}
use Rattle.apply_plan.specs.declared.Progress.{Progress}
use Rattle.apply_plan.specs.declared.Progress.TheVariants.{More, Done}
use Rattle.kernel_model.specs.declared.KernelFault.TheVariants.{NoPids}
use Rattle.node.specs.declared.fault.NodeFault.{NodeFault}
use Rattle.node.specs.declared.fault.NodeFault.TheVariants.{Busy, NoHandover, Kernel}
use Rattle.node.specs.declared.order.Order.{Order}
use Rattle.node.specs.declared.outcome.Outcome.{Outcome}
use Rattle.node.specs.declared.outcome.Outcome.TheVariants.{Plan, Short}
use Rattle.node.specs.IsNode.{IsNode}
use Rattle.node.specs.NodeState.{NodeState}
use Rattle.node.specs.Best.{moved}
use Rattle.node.specs.Headline.{effective_sets}
use Rattle.node.specs.Rows.{as_cores, as_cpus, planned, lacking}
use Rattle.node.specs.Updates.{Updates}
use Rattle.node.specs.Calls.{Places, Starts, Kills, Deletes}
use Rattle.node.specs.Rebalance.{Begins, StepsOn, Rebalances, ShowsCertificate}
use Rattle.node.specs.Machine.{Event, Create, Adopt, Update, Start, Kill, Delete, Rebalance, Begin, StepOn, WriteOn, MissOn, Ask, Fork, Exit, Offline, Online, Step, Run, RunsKeep, RunsRebalance}
use Rattle.node.specs.Proved.{LastIsProved, TotalIsProved, ShortIsProved}
use Rattle.runtime.specs.AnswerTexts.{answer_text}
use Rattle.runtime.specs.declared.refusal.Refusal.TheVariants.{Node}
use Rattle.runtime.specs.CertificatesTold.{told_with, told_last, CertificatesAreTold}

-- the text of what the node keeps proves what was told
abbrev IsLastTold : Option Verdict → NodeState → Type 0
IsLastTold told n = (verdict : Verdict) → told ≡ Some verdict → (c : Certificate) × (n.last ≡ Some c) × IsVerdict (text_of c) verdict

nothing_told : (n : NodeState) → IsLastTold None n
nothing_told n verdict is = absurd (none-some verdict is)

now_told : (n : NodeState) (told : Verdict) (c : Certificate) → n.last ≡ Some c → IsVerdict (text_of c) told → IsLastTold (Some told) n
now_told n told c is proves verdict same = (c, is, subst (λ v. IsVerdict (text_of c) v) (same_Some told verdict same) proves)

still_told : (told : Option Verdict) (old new : NodeState) → new.last ≡ old.last → IsLastTold told old → IsLastTold told new
still_told told old new same h verdict is = let k = h verdict is in (k.0, same ∙ k.1, k.2)

-- the verdict on a total of these two parts
of_parts : (whole total moves : ℕ) → AreParts whole total moves → plan_verdict whole WithMoves ≡ proves.Moves total moves
of_parts whole total moves parts =
    let far : distance_of whole ≡ total = omega (arith, parts.moves_fit, parts.whole) in
    let few : moves_of whole ≡ moves = omega (arith, parts.moves_fit, parts.whole) in
    ap₂ proves.Moves far few

-- so many CPUs are so many cores
by_core : (old : NodeState) → IsNode old → (cpus cores : ℕ) → cpus ≡ cores * old.machine.threads → cpus / old.machine.threads ≡ cores
by_core old node cpus cores is =
    let some : 1 ≤ old.machine.threads = node.layout.sound.cores.some in
    let positive : 0 < old.machine.threads = omega (arith, some) in
    ap (λ n. n / old.machine.threads) is ∙ mul-div_cancel cores positive

total_told : (old new : NodeState) (total : ℕ) → IsNode old → (c : Certificate)
    → (distance : ℕ) × (total ≡ distance * old.machine.threads) × IsVerdict (text_of c) (proves.Moves distance (moved old (effective_sets new.kernel new.containers)))
    → IsVerdict (text_of c) (proves.Moves (total / old.machine.threads) (moved old (effective_sets new.kernel new.containers)))
total_told old new total node c (distance, is, proved) =
    subst (λ d. IsVerdict (text_of c) (proves.Moves d (moved old (effective_sets new.kernel new.containers)))) (sym (by_core old node total distance is)) proved

short_told : (old new : NodeState) (wanted : ℕ) (allowed : Ids) → IsNode old → (c : Certificate)
    → (cores : ℕ) × (there : ℕ) × (wanted ≡ cores * old.machine.threads) × (set.len allowed ≡ there * old.machine.threads) × IsVerdict (text_of c) (proves.Short cores there)
    → IsVerdict (text_of c) (proves.Short (wanted / old.machine.threads) (set.len allowed / old.machine.threads))
short_told old new wanted allowed node c (cores, there, asks, has, proved) =
    subst (λ n. IsVerdict (text_of c) (proves.Short n (set.len allowed / old.machine.threads))) (sym (by_core old node wanted cores asks))
    (subst (λ n. IsVerdict (text_of c) (proves.Short cores n)) (sym (by_core old node (set.len allowed) there has)) proved)

place_last : (cpus : Ids) (old new : NodeState) (id bundle config : List ℕ) (r : Result ℕ (OrMemory NodeFault)) → Places cpus old id bundle config r new → new.last ≡ old.last
place_last cpus old new id bundle config (Ok pid) c = ap (λ (n : NodeState). n.last) c.is
place_last cpus old new id bundle config (Err Memory) (inl n) = ap (λ (m : NodeState). m.last) n.is
place_last cpus old new id bundle config (Err Memory) (inr same) = ap (λ (n : NodeState). n.last) same.2
place_last cpus old new id bundle config (Err (Fault (Kernel NoPids))) same = ap (λ (n : NodeState). n.last) same.is
place_last cpus old new id bundle config (Err (Fault (Kernel fault))) n = ap (λ (m : NodeState). m.last) n.is
place_last cpus old new id bundle config (Err (Fault fault)) same = ap (λ (n : NodeState). n.last) same.1

update_last : (old new : NodeState) (id bundle config : List ℕ) (r : Result (Unit {0}) (OrMemory NodeFault)) → Updates old id bundle config r new → new.last ≡ old.last
update_last old new id bundle config (Ok done) u = ap (λ (n : NodeState). n.last) u.is
update_last old new id bundle config (Err Memory) u = ap (λ (n : NodeState). n.last) u.3
update_last old new id bundle config (Err (Fault (Kernel fault))) u = ap (λ (n : NodeState). n.last) u.1.is
update_last old new id bundle config (Err (Fault fault)) u = ap (λ (n : NodeState). n.last) u.1

start_last : (old new : NodeState) (id : List ℕ) (r : Result (Unit {0}) NodeFault) → Starts old id r new → new.last ≡ old.last
start_last old new id (Ok done) s = ap (λ (n : NodeState). n.last) s.4
start_last old new id (Err fault) s = ap (λ (n : NodeState). n.last) s.1

kill_last : (old new : NodeState) (id signal : List ℕ) (r : Result (Unit {0}) NodeFault) → Kills old id signal r new → new.last ≡ old.last
kill_last old new id signal (Ok done) k = ap (λ (n : NodeState). n.last) k.is
kill_last old new id signal (Err (Kernel fault)) k = ap (λ (n : NodeState). n.last) k.1.is
kill_last old new id signal (Err fault) k = ap (λ (n : NodeState). n.last) k.1

delete_last : (old new : NodeState) (id : List ℕ) (r : Result (Unit {0}) NodeFault) → Deletes old id r new → new.last ≡ old.last
delete_last old new id (Ok done) d = ap (λ (n : NodeState). n.last) d.is
delete_last old new id (Err (Kernel fault)) d = ap (λ (n : NodeState). n.last) d.1.is
delete_last old new id (Err fault) d = ap (λ (n : NodeState). n.last) d.1

step_last : (old new : NodeState) (r : Result Progress NodeFault) → StepsOn old r new → new.last ≡ old.last
step_last old new (Ok More) s = ap (λ (n : NodeState). n.last) s.is
step_last old new (Ok Done) s = ap (λ (n : NodeState). n.last) s.is
step_last old new (Err (Kernel fault)) s = ap (λ (n : NodeState). n.last) s.is
step_last old new (Err NoHandover) s = ap (λ (n : NodeState). n.last) s.1
step_last old new (Err fault) s = absurd s

module _ (keep : RunsKeep) (leaves : RunsRebalance) (last_proved : LastIsProved) (total_proved : TotalIsProved) (short_proved : ShortIsProved) where
  begin_told : (order : Order) (told : Option Verdict) (old new : NodeState) (r : Result Outcome (OrMemory NodeFault)) → IsNode old → IsNode new → (s : Begins order old r new) → IsLastTold told old
      → IsLastTold (told_with told old (Begin order r) new s) new
  begin_told order told old new (Ok (Plan total)) node after b h =
      let c : Certificate = planned old b.plan b.prices b.whole in
      let is : new.last ≡ Some c = ap (λ (n : NodeState). n.last) b.is in
      now_told new _ c is (subst (λ v. IsVerdict (text_of c) v)
      (of_parts b.whole b.distance _ b.parts ∙ ap (λ d. proves.Moves d (moved old (as_cpus old.machine b.plan))) (sym (by_core old node total b.distance b.counts)))
      (last_proved new after c is))
  begin_told order told old new (Ok (Short wanted allowed)) node after l h =
      let c : Certificate = lacking old l.members in
      let is : new.last ≡ Some c = ap (λ (n : NodeState). n.last) l.is in
      now_told new _ c is (short_told old new wanted allowed node c (short_proved old new wanted allowed after l c is))
  begin_told order told old new (Err Memory) node after b h = still_told told old new (ap (λ (n : NodeState). n.last) b.1) h
  begin_told order told old new (Err (Fault Busy)) node after b h = still_told told old new (ap (λ (n : NodeState). n.last) b.1) h
  begin_told order told old new (Err (Fault fault)) node after b h = absurd b

  rebalance_told : (order : Order) (told : Option Verdict) (old new : NodeState) (r : Result Outcome (OrMemory NodeFault)) → IsNode old → IsNode new → (s : Rebalances order old r new) → IsLastTold told old
      → IsLastTold (told_with told old (Rebalance order r) new s) new
  rebalance_told order told old new (Ok (Plan total)) node after m h =
      let b = (leaves old [] order old (Ok (Plan total)) new node refl m).told in
      let c : Certificate = planned old (as_cores old.machine (effective_sets new.kernel new.containers)) b.told.prices b.told.whole in
      now_told new _ c b.told.is (total_told old new total node c (total_proved old new total after b c b.told.is))
  rebalance_told order told old new (Ok (Short wanted allowed)) node after l h =
      let c : Certificate = lacking old l.members in
      let is : new.last ≡ Some c = ap (λ (n : NodeState). n.last) l.is in
      now_told new _ c is (short_told old new wanted allowed node c (short_proved old new wanted allowed after l c is))
  rebalance_told order told old new (Err Memory) node after b h = still_told told old new (ap (λ (n : NodeState). n.last) b.1) h
  rebalance_told order told old new (Err (Fault (Kernel fault))) node after m h = nothing_told new
  rebalance_told order told old new (Err (Fault Busy)) node after b h = still_told told old new (ap (λ (n : NodeState). n.last) b.1) h
  rebalance_told order told old new (Err (Fault fault)) node after b h = absurd b

  told_more : (told : Option Verdict) (old : NodeState) (event : Event) (new : NodeState) → IsNode old → IsNode new → (s : Step old event new) → IsLastTold told old
      → IsLastTold (told_with told old event new s) new
  told_more told old (Create id bundle config answer) new node after s h = still_told told old new (place_last old.machine.reserved old new id bundle config answer s) h
  told_more told old (Adopt id bundle config cpus answer) new node after s h = still_told told old new (place_last cpus old new id bundle config answer s) h
  told_more told old (Update id bundle config answer) new node after s h = still_told told old new (update_last old new id bundle config answer s) h
  told_more told old (Start id answer) new node after s h = still_told told old new (start_last old new id answer s) h
  told_more told old (Kill id signal answer) new node after s h = still_told told old new (kill_last old new id signal answer s) h
  told_more told old (Delete id answer) new node after s h = still_told told old new (delete_last old new id answer s) h
  told_more told old (Rebalance order answer) new node after s h = rebalance_told order told old new answer node after s h
  told_more told old (Begin order answer) new node after s h = begin_told order told old new answer node after s h
  told_more told old (StepOn answer) new node after s h = still_told told old new (step_last old new answer s) h
  told_more told old WriteOn new node after s h = still_told told old new (ap (λ (n : NodeState). n.last) s.is) h
  told_more told old (MissOn fault) new node after s h = still_told told old new (ap (λ (n : NodeState). n.last) s.is) h
  told_more told old (Ask question) new node after s h = still_told told old new (ap (λ (n : NodeState). n.last) s.1) h
  told_more told old (Fork parent answer) new node after s h = still_told told old new (ap (λ (n : NodeState). n.last) s.1) h
  told_more told old (Exit pid answer) new node after s h = still_told told old new (ap (λ (n : NodeState). n.last) s.1) h
  told_more told old (Offline cpu answer) new node after s h = still_told told old new (ap (λ (n : NodeState). n.last) s.1) h
  told_more told old (Online cpu answer) new node after s h = still_told told old new (ap (λ (n : NodeState). n.last) s.1) h

  told_run : (told : Option Verdict) (old : NodeState) (events : List Event) (new : NodeState) → IsNode old → (run : Run old events new) → IsLastTold told old
      → IsLastTold (told_last told old events new run) new
  told_run told old [] new node run h = still_told told old new (ap (λ (n : NodeState). n.last) run) h
  told_run told old (event ∷ events) new node (mid, step, run) h =
      let after : IsNode mid = keep old (event ∷ []) mid node (mid, step, refl) in
      told_run (told_with told old event mid step) mid events new after run (told_more told old event mid node after step h)

  -- what was told was kept, so a certificate is shown, and not that there is none
  shown : (n : NodeState) (verdict : Verdict) (printed : List ℕ) (r : Result Certificate NodeFault) → ShowsCertificate n r → printed ≡ answer_text text_of Node r
      → (c : Certificate) → n.last ≡ Some c → IsVerdict (text_of c) verdict → IsVerdict printed verdict
  shown n verdict printed (Ok d) shows prints c is proves =
      let same : c ≡ d = same_Some c d (sym is ∙ shows) in
      let text : text_of c ≡ printed = ap text_of same ∙ sym prints in
      subst (λ t. IsVerdict t verdict) text proves
  shown n verdict printed (Err fault) shows prints c is proves = absurd (none-some c (sym shows.1 ∙ is))

  pub certificates_are_told : CertificatesAreTold
  certificates_are_told first old new lines text printed verdict node run calls is answered =
      let told = told_run None first.node calls.events old.node node calls.run (nothing_told first.node) verdict is in
      shown old.node verdict printed answered.0.0 answered.0.1 answered.0.2 told.0 told.1 told.2
