-- No plan gives a CPU that a stranger holds.
use Rattle.std.proofs.Common.{◌≡◌, ℕ, zero, suc, Bool, true, false, cond, not, ◌&&◌, if◌then◌else◌, is_some, List, [], ◌∷◌, ◌++◌, filter, Contains, Option, Some, None, Result, Ok, Err, codes, get_or, map, bytes_eq, refl, sym, ap, ◌∙◌, subst, arith}
use Rattle.std.proofs.lemmas.Bool.{and_from, and_parts, both_ways, true≢false}
use Rattle.std.proofs.lemmas.Slice.Eq.{bytes_eq-Decides}
use Rattle.std.specs.FinSet as set
use Rattle.std.specs.List.{AllByRecursion, AllZip}
use Rattle.faults.specs.TestLaws.{without_parts}
use Rattle.faults.specs.declared.or_memory.OrMemory.{OrMemory}
use Rattle.cpu_set.specs.Ids.{Ids, IsDisjoint}
use Rattle.cpu_set.specs.PointwiseLaws.{contains-difference, contains-intersection}
use Rattle.certificate.specs.declared.weights.Weights.TheVariants.{WithMoves}
use Rattle.cgroup_tree.specs.Asked.{Stranger}
use Rattle.demand.specs.declared.Kind.{Kind}
use Rattle.demand.specs.declared.Kind.TheVariants.{Pinned, Shared}
use Rattle.machine.specs.Layout.{Layout}
use Rattle.node.specs.declared.fault.NodeFault.{NodeFault}
use Rattle.node.specs.declared.outcome.Outcome.{Outcome}
use Rattle.node.specs.declared.outcome.Outcome.TheVariants.{Plan, Short}
use Rattle.node.specs.Best.{AreOwn, asking, is_asking, wanted_by}
use Rattle.node.specs.Entries.{pool_of}
use Rattle.node.specs.Machine.{RunsKeep, RunsRebalance}
use Rattle.node.specs.NodeState.{ContainerState, NodeState, container_of}
use Rattle.node.specs.Rebalance.{Begun, Moves, Rebalances}
use Rattle.node.specs.Owners.{is_pinned}
use Rattle.node.specs.Rows.{as_cpus, requested_by, scaled_rows_of}
use Rattle.node.specs.Standing.{AnsweredPlansStand, HasPool, PlanStands, requested_sets}
use Rattle.node.specs.Status.{is_live}
use Rattle.script.specs.Commands as ask
use Rattle.script.specs.CpuLines.{CpuLinesAreRead}
use Rattle.script.specs.Lines.{line_kept, words_of}
use Rattle.script.specs.Requests.{Wanted, nothing, bad, asks, request_of}
use Rattle.script.specs.Runs.{AnswersLine, AnswersRequest, Runs}
use Rattle.runtime.specs.AnswerTexts.{of_either, answer_text}
use Rattle.runtime.specs.Answered.{order_of}
use Rattle.runtime.specs.OutcomeTexts.{outcome_text}
use Rattle.runtime.specs.RuntimeState.{Told}
use Rattle.runtime.specs.ScriptLaws.{begun_are_told}
use Rattle.strangers.specs.GuardState.{GuardState}
use Rattle.strangers.specs.Guarded.{Forgets, Guards, away, back, held, knows, withheld, without}
use Rattle.strangers.specs.KeptOff.{IsAbout, KeepsOff, LineIsAbout, PlansKeepOff, RebalancesAwayAreTold, RequestsKeepOff, RequestsNone, StrangersStay, own_of_strangers}
use Rattle.strangers.proofs.AwayLemmas.{in_leaving}
use Rattle.strangers.proofs.StaysLemmas.{moves_online}
use Rattle.strangers.proofs.WithinLemmas.{node_away}

-- a CPU that is left of a set was in it
pool_within : (sets : List Ids) (online : Ids) (q : ℕ) → set.contains (pool_of online sets) q ≡ true → set.contains online q ≡ true
pool_within [] online q m = m
pool_within (s ∷ sets) online q m =
    (and_parts (set.contains online q) (not (set.contains s q)) (sym (contains-difference online s q) ∙ pool_within sets (set.difference online s) q m)).0

-- a fact of each of the second ones
all_second : {A B : Type 0} (R : A → B → Type 0) (P : B → Type 0) → ((x : A) (y : B) → R x y → P y) → (xs : List A) (ys : List B) → AllZip R xs ys → AllByRecursion P ys
all_second R P each [] [] all = tt
all_second R P each [] (y ∷ ys) none = absurd none
all_second R P each (x ∷ xs) [] none = tt
all_second R P each (x ∷ xs) (y ∷ ys) (first, later) = (each x y first, all_second R P each xs ys later)

-- a CPU that a stranger holds and that is not reserved is not online while the strangers' are away
off : (g : GuardState) (q : ℕ) → set.contains (own_of_strangers g) q ≡ true → set.contains (away g.runtime (withheld g)).node.kernel.tree.online q ≡ true → ⊥
off g q own on =
    let k = g.runtime.node.kernel in
    let mine = without_parts (set.contains (held g.strangers) q) (set.contains k.reserved q) (sym (contains-difference (held g.strangers) k.reserved q) ∙ own) in
    let there = without_parts (set.contains k.tree.online q) (set.contains (withheld g) q) (sym (contains-difference k.tree.online (withheld g) q) ∙ on) in
    let both : set.contains (set.intersection (held g.strangers) k.tree.online) q ≡ true =
    contains-intersection (held g.strangers) k.tree.online q ∙ ap (λ (b : Bool). b && set.contains k.tree.online q) mine.0 ∙ there.0 in
    true≢false (sym (in_leaving (held g.strangers) k q both mine.1) ∙ there.1)

-- a plan that was begun while they were away has none of these CPUs
begun_off : {cpus : Ids} (old : NodeState) (total : ℕ) (new : NodeState) (direct : Bool) → ((q : ℕ) → set.contains cpus q ≡ true → set.contains old.kernel.tree.online q ≡ true → ⊥)
    → Begun (order_of direct) old total new → KeepsOff cpus new
begun_off {cpus = cpus} old total new direct apart b = record {
  rows = scaled_rows_of old;
  plan = b.plan;
  prices = b.prices;
  whole = b.whole;
  weights = WithMoves;
  last = ap (λ (n : NodeState). n.last) b.is;
  holds =
      subst (λ (m : Layout). AllByRecursion (IsDisjoint cpus) (as_cpus m b.plan)) (sym (ap (λ (n : NodeState). n.machine) b.is))
      (all_second (λ (e : List ℕ × ContainerState) (s : Ids). AreOwn old.kernel old.machine e.1.demand (wanted_by e.1.demand.kind) s) (IsDisjoint cpus)
      (λ e s own q mine inside. apart q mine (own.each q inside).1) (asking old) (as_cpus old.machine b.plan) b.best.could.own);
  pool = λ q mine inside. apart q mine (pool_within (as_cpus old.machine b.plan) old.kernel.tree.online q (subst (λ (s : Ids). set.contains s q ≡ true) (ap (λ (n : NodeState). n.pool) b.is) inside));
}

-- what a hand-over leaves of it
kept_by : {cpus : Ids} (old new : NodeState) → new.last ≡ old.last → new.pool ≡ old.pool → new.machine ≡ old.machine → KeepsOff cpus old → KeepsOff cpus new
kept_by {cpus = cpus} old new last pool machine off = record {
  rows = off.rows;
  plan = off.plan;
  prices = off.prices;
  whole = off.whole;
  weights = off.weights;
  last = last ∙ off.last;
  holds = subst (λ (m : Layout). AllByRecursion (IsDisjoint cpus) (as_cpus m off.plan)) (sym machine) off.holds;
  pool = subst (λ (s : Ids). IsDisjoint cpus s) (sym pool) off.pool;
}

-- facts of the items of a list that pass, and of a list and what is made of it
all_filtered : {X : Type 0} (P : X → Type 0) (test : X → Bool) (xs : List X) → AllByRecursion P (filter test xs) → AllByRecursion (λ x. test x ≡ true → P x) xs
all_filtered P test [] all = tt
all_filtered P test (x ∷ xs) all = by (test x) refl all (all_filtered P test xs)
  where
    by : (b : Bool) → test x ≡ b → AllByRecursion P (cond b (x ∷ filter test xs) (filter test xs))
        → (AllByRecursion P (filter test xs) → AllByRecursion (λ y. test y ≡ true → P y) xs) → AllByRecursion (λ y. test y ≡ true → P y) (x ∷ xs)
    by true on (first, later) rest = ((λ _. first), rest later)
    by false out later rest = ((λ on. absurd (both_ways (test x) out on)), rest later)

all_made : {A B : Type 0} (R : A → B → Type 0) (f : A → B) (xs : List A) → AllZip R xs (map f xs) → AllByRecursion (λ x. R x (f x)) xs
all_made R f [] all = tt
all_made R f (x ∷ xs) (first, later) = (first, all_made R f xs later)

all_both : {X : Type 0} (P Q R : X → Type 0) → ((x : X) → P x → Q x → R x) → (xs : List X) → AllByRecursion P xs → AllByRecursion Q xs → AllByRecursion R xs
all_both P Q R f [] all also = tt
all_both P Q R f (x ∷ xs) (first, later) (second, more) = (f x first second, all_both P Q R f xs later more)

-- where a plan stands, each live container requests CPUs that are online
module _ (cpus : Ids) (n : NodeState) (apart : (q : ℕ) → set.contains cpus q ≡ true → set.contains n.kernel.tree.online q ≡ true → ⊥) where
  abbrev Own : List ℕ × ContainerState → Ids → Type 0
  Own e s = AreOwn n.kernel n.machine e.1.demand (wanted_by e.1.demand.kind) s

  by_kind : (e : List ℕ × ContainerState) (kind : Kind) → e.1.demand.kind ≡ kind → (is_asking n.kernel e ≡ true → Own e (requested_by n.kernel e)) → HasPool n e → RequestsNone cpus n.kernel e
  by_kind e (Pinned count) is own pool live q mine inside =
      apart q mine ((own (and_from (is_live n.kernel e.1) (is_pinned e.1.demand.kind) live (ap is_pinned is))).each q inside).1
  by_kind e Shared is own pool live q mine inside =
      apart q mine (pool_within (requested_sets n) n.kernel.tree.online q (subst (λ (s : Ids). set.contains s q ≡ true) (pool live is) inside))

  stands_off : (total : ℕ) → PlanStands n total → AllByRecursion (RequestsNone cpus n.kernel) n.containers
  stands_off total stands =
      all_both (λ e. is_asking n.kernel e ≡ true → Own e (requested_by n.kernel e)) (HasPool n) (RequestsNone cpus n.kernel) (λ e. by_kind e e.1.demand.kind refl) n.containers
      (all_filtered (λ e. Own e (requested_by n.kernel e)) (is_asking n.kernel) n.containers (all_made Own (requested_by n.kernel) (asking n) stands.best.could.own)) stands.pool

-- an answer to `rebalance` that begins as a plan's is a plan's
plan_moved : (direct : Bool) (old new : NodeState) (more : List ℕ) (r : Result Outcome (OrMemory NodeFault)) → Rebalances (order_of direct) old r new
    → codes "plan total " ++ more ≡ answer_text (outcome_text new) of_either r
    → (total : ℕ) × Moves (order_of direct) old total (Ok tt) new × (codes "plan total " ++ more ≡ outcome_text new (Plan total))
plan_moved direct old new more (Ok (Plan total)) m e = (total, m, e)
plan_moved direct old new more (Ok (Short wanted allowed)) h e = absurd (let same : 112 ≡ 115 = ap (λ t. get_or t 0 0) e in let f : ⊥ = omega (arith, same) in f)
plan_moved direct old new more (Err error) h e = absurd (let same : 112 ≡ 114 = ap (λ t. get_or t 0 0) e in let f : ⊥ = omega (arith, same) in f)

-- what passes is kept
contains_kept : {X : Type 0} (test : X → Bool) (xs : List X) (x : X) → Contains xs x → test x ≡ true → Contains (filter test xs) x
contains_kept test [] x found on = absurd (omega (arith, found.1))
contains_kept test (y ∷ xs) x found on = by_test (test y) refl (λ later. contains_kept test xs x later on)
  where
    at :
        (b : Bool) → test y ≡ b → (Contains xs x → Contains (filter test xs) x) → Contains (y ∷ xs) x
        → Contains (cond b (y ∷ filter test xs) (filter test xs)) x
    at true e rest (zero, lt, is) = (0, omega arith, is)
    at true e rest (suc i, lt, is) = (let more = rest (i, omega (arith, lt), is) in (suc more.0, omega (arith, more.1), more.2))
    at false e rest (zero, lt, is) = absurd (both_ways (test y) e (ap test is ∙ on))
    at false e rest (suc i, lt, is) = rest (i, omega (arith, lt), is)

    by_test : (b : Bool) → test y ≡ b → (Contains xs x → Contains (filter test xs) x) → Contains (filter test (y ∷ xs)) x
    by_test b e rest = subst (λ (t : Bool). Contains (cond t (y ∷ filter test xs) (filter test xs)) x) (sym e) (at b e rest found)

-- a word that is not this name
differs : (name word : List ℕ) → (name ≡ word → ⊥) → not (bytes_eq word name) ≡ true
differs name word other = by (bytes_eq word name) refl
  where
    by : (b : Bool) → bytes_eq word name ≡ b → not b ≡ true
    by true same = absurd (other (sym ((bytes_eq-Decides word name).0 same)))
    by false same = refl

-- of strangers without the one of another name
kept_other : (name : List ℕ) (strangers : List Stranger) (s : Stranger) → (name ≡ s.0 → ⊥) → Contains strangers s → Contains (without strangers name) s
kept_other name strangers s other there = contains_kept (λ (t : Stranger). not (bytes_eq t.0 name)) strangers s there (differs name s.0 other)

module _ (sees : Told → List ℕ → Option (List ℕ) → Type 0) where
  pub plans_keep_off : PlansKeepOff sees
  plans_keep_off = record {
    begin = λ direct old new more (last, answered, is).
        let told = begun_are_told direct (away old.runtime (withheld old)) last more answered in
        let keeps = begun_off {cpus = own_of_strangers old} (away old.runtime (withheld old)).node told.0 last.node direct (off old) told.1 in (
          told.0,
          subst (λ (g : GuardState). codes "plan total " ++ more ≡ outcome_text g.runtime.node (Plan told.0)) (sym is) told.2,
          subst (λ (g : GuardState). KeepsOff (own_of_strangers old) g.runtime.node) (sym is) (kept_by {cpus = own_of_strangers old} last.node (back last (withheld old)).node refl refl refl keeps),
        );
    rebalance = λ direct old new more (last, ((r, h, e), same), is).
        let told = plan_moved direct (away old.runtime (withheld old)).node last.node more r h e in
        let begun = begun_off {cpus = own_of_strangers old} (away old.runtime (withheld old)).node told.0 told.1.mid direct (off old) told.1.begun in
        let keeps = kept_by {cpus = own_of_strangers old} told.1.mid last.node (ap (λ (n : NodeState). n.last) told.1.finishes.is) (ap (λ (n : NodeState). n.pool) told.1.finishes.is)
        (ap (λ (n : NodeState). n.machine) told.1.finishes.is) begun in (
          told.0,
          subst (λ (g : GuardState). codes "plan total " ++ more ≡ outcome_text g.runtime.node (Plan told.0)) (sym is) told.2,
          subst (λ (g : GuardState). KeepsOff (own_of_strangers old) g.runtime.node) (sym is) (kept_by {cpus = own_of_strangers old} last.node (back last (withheld old)).node refl refl refl keeps),
        );
  }

  module _ (read : CpuLinesAreRead) (keep : RunsKeep) (leaves : RunsRebalance) where
    pub rebalances_away_are_told : RebalancesAwayAreTold sees
    rebalances_away_are_told direct old new text node (last, ((r, h, e), same), is) =
        let first = away old.runtime (withheld old) in (
          r,
          last,
          leaves first.node [] (order_of direct) first.node r last.node (node_away read keep sees old.runtime (held old.strangers) node) refl h,
          e,
          ap (λ (g : GuardState). g.runtime) is,
        )

  module _ (read : CpuLinesAreRead) (keep : RunsKeep) (stand : AnsweredPlansStand) where
    pub requests_keep_off : RequestsKeepOff sees
    requests_keep_off direct old new more node (last, ((r, h, e), same), is) =
        let first = away old.runtime (withheld old) in
        let told = plan_moved direct first.node last.node more r h e in
        let stands = stand (order_of direct) first.node told.0 last.node (node_away read keep sees old.runtime (held old.strangers) node) told.1 in
        let online : last.node.kernel.tree.online ≡ first.node.kernel.tree.online = moves_online (order_of direct) first.node told.0 (Ok tt) last.node told.1 in
        subst (λ (g : GuardState). AllByRecursion (RequestsNone (own_of_strangers old) g.runtime.node.kernel) g.runtime.node.containers) (sym is)
        (stands_off (own_of_strangers old) last.node (λ q mine on. off old q mine (subst (λ (s : Ids). set.contains s q ≡ true) online on)) told.0 stands)

  module _ (s : Stranger) where
    same_strangers : (old new : List Stranger) → new ≡ old → Contains old s → Contains new s
    same_strangers old new same there = subst (λ (ss : List Stranger). Contains ss s) (sym same) there

    by_placed : (id : List ℕ) (old new : List Stranger) (b : Bool) → (id ≡ s.0 → ⊥) → new ≡ (if b then without old id else old) → Contains old s → Contains new s
    by_placed id old new true other is there = same_strangers (without old id) new is (kept_other id old s other there)
    by_placed id old new false other is there = same_strangers old new is there

    by_forget : (b : Bool) (old : GuardState) (id text : List ℕ) (new : GuardState) → (id ≡ s.0 → ⊥) → Forgets sees b old id text new → Contains old.strangers s → Contains new.strangers s
    by_forget true old id text new other (said, is) there =
        same_strangers (without old.strangers id) new.strangers (ap (λ (g : GuardState). g.strangers) is) (kept_other id old.strangers s other there)
    by_forget false old id text new other (answers, same) there = same_strangers old.strangers new.strangers same there

    by_wanted : (wanted : Wanted) (old new : GuardState) (text : List ℕ) → (IsAbout wanted s.0 → ⊥) → AnswersRequest (Guards sees) old wanted text new → Contains old.strangers s → Contains new.strangers s
    by_wanted nothing old new text other (said, same) there = same_strangers old.strangers new.strangers (ap (λ (g : GuardState). g.strangers) same) there
    by_wanted bad old new text other (said, same) there = same_strangers old.strangers new.strangers (ap (λ (g : GuardState). g.strangers) same) there
    by_wanted (asks (ask.forget id)) old new text other forgets there = by_forget (knows old.strangers id) old id text new other forgets there
    by_wanted (asks (ask.create id bundle)) old new text other (answers, left) there =
        by_placed id old.strangers new.strangers (is_some (container_of new.runtime.node id)) other left there
    by_wanted (asks (ask.adopt id bundle list)) old new text other (answers, left) there =
        by_placed id old.strangers new.strangers (is_some (container_of new.runtime.node id)) other left there
    by_wanted (asks (ask.rebalance direct)) old new text other (last, answered, is) there = same_strangers old.strangers new.strangers (ap (λ (g : GuardState). g.strangers) is) there
    by_wanted (asks (ask.begin direct)) old new text other (last, answered, is) there = same_strangers old.strangers new.strangers (ap (λ (g : GuardState). g.strangers) is) there
    by_wanted (asks ask.step) old new text other (last, answered, is) there = same_strangers old.strangers new.strangers (ap (λ (g : GuardState). g.strangers) is) there
    by_wanted (asks (ask.update id bundle)) old new text other (answers, same) there = same_strangers old.strangers new.strangers same there
    by_wanted (asks (ask.start id)) old new text other (answers, same) there = same_strangers old.strangers new.strangers same there
    by_wanted (asks (ask.kill id signal)) old new text other (answers, same) there = same_strangers old.strangers new.strangers same there
    by_wanted (asks (ask.delete id)) old new text other (answers, same) there = same_strangers old.strangers new.strangers same there
    by_wanted (asks (ask.state id)) old new text other (answers, same) there = same_strangers old.strangers new.strangers same there
    by_wanted (asks ask.list) old new text other (answers, same) there = same_strangers old.strangers new.strangers same there
    by_wanted (asks (ask.sets id)) old new text other (answers, same) there = same_strangers old.strangers new.strangers same there
    by_wanted (asks ask.phase) old new text other (answers, same) there = same_strangers old.strangers new.strangers same there
    by_wanted (asks ask.certificate) old new text other (answers, same) there = same_strangers old.strangers new.strangers same there
    by_wanted (asks (ask.fork pid)) old new text other (answers, same) there = same_strangers old.strangers new.strangers same there
    by_wanted (asks (ask.exit pid)) old new text other (answers, same) there = same_strangers old.strangers new.strangers same there
    by_wanted (asks (ask.offline cpu)) old new text other (answers, same) there = same_strangers old.strangers new.strangers same there
    by_wanted (asks (ask.online cpu)) old new text other (answers, same) there = same_strangers old.strangers new.strangers same there

    by_line : (kept : Option (List ℕ)) (old new : GuardState) (text : List ℕ) → (LineIsAbout s.0 kept → ⊥) → AnswersLine (Guards sees) old kept text new → Contains old.strangers s → Contains new.strangers s
    by_line None old new text other (said, same) there = same_strangers old.strangers new.strangers (ap (λ (g : GuardState). g.strangers) same) there
    by_line (Some line) old new text other answers there = by_wanted (request_of (words_of line)) old new text other answers there

    by_lines : (lines : List (List ℕ)) (old new : GuardState) (text : List ℕ) → AllByRecursion (λ line. LineIsAbout s.0 (line_kept line) → ⊥) lines → Runs (Guards sees) old lines text new
        → Contains old.strangers s → Contains new.strangers s
    by_lines [] old new text others (said, same) there = same_strangers old.strangers new.strangers (ap (λ (g : GuardState). g.strangers) same) there
    by_lines (line ∷ lines) old new text (other, others) (mid, first, more, answers, rest, is) there =
        by_lines lines mid new more others rest (by_line (line_kept line) old mid first other answers there)

  pub strangers_stay : StrangersStay sees
  strangers_stay s old new lines text there others run = by_lines s lines old new text others run there
