-- CPUs that go offline, and come online, one after another.
use Rattle.std.proofs.Common.{◌≡◌, ℕ, ◌+◌, Bool, true, false, not, ◌&&◌, ◌||◌, ◌==◌, cond, is_none, if◌then◌else◌, Option, Some, None, Result, Ok, Err, refl, sym, ap, ◌∙◌, add-one}
use Rattle.std.proofs.lemmas.Bool.{and_parts, false≢true}
use Rattle.std.specs.FinSet as set
use Rattle.faults.specs.TestLaws.{left_over, without_parts}
use Rattle.cpu_set.specs.Ids.{Ids}
use Rattle.cpu_set.specs.Members.{InRange}
use Rattle.cpu_set.specs.PointwiseLaws.{same_members, contains-empty, contains-insert, contains-remove, contains-union, contains-intersection, contains-difference, is_subset-contains}
use Rattle.cpu_set.specs.SetLaws.{those-contains}
use Rattle.cpu_set.specs.Those.{those}
use Rattle.cpu_set.specs.declared.TheConstants.{CPU_LIMIT}
use Rattle.kernel_model.specs.declared.fault.KernelFault.{KernelFault}
use Rattle.kernel_model.specs.declared.fault.KernelFault.TheVariants.{NoCpu, Reserved}
use Rattle.kernel_model.specs.Cases.{ComesOnline, GoesOffline}
use Rattle.kernel_model.specs.KernelState.{KernelState}
use Rattle.kernel_model.specs.Refusals.{offline_refusal, online_refusal}
use Rattle.node.specs.IsNode.{IsNode}
use Rattle.node.specs.Machine.{InKernel}
use Rattle.node.specs.NodeState.{NodeState}
use Rattle.runtime.specs.RuntimeState.{RuntimeState, Told}
use Rattle.strangers.specs.Guarded.{away, back, can_leave, with_online_cpus}

-- tests that are put together
without_more : (a e b : Bool) → (not e && (a && not b)) ≡ (a && not (e || b))
without_more true true b = refl
without_more true false b = refl
without_more false true b = refl
without_more false false b = refl

with_more : (a e b : Bool) → (e || (a || b)) ≡ (a || (e || b))
with_more true true b = refl
with_more true false b = refl
with_more false true b = refl
with_more false false b = refl

without_false : (a : Bool) → (a && not false) ≡ a
without_false true = refl
without_false false = refl

with_false : (a : Bool) → (a || false) ≡ a
with_false true = refl
with_false false = refl

not_left : (a b : Bool) → b ≡ true → (a && not b) ≡ false
not_left true b e = ap not e
not_left false b e = refl

taken_twice : (a b : Bool) → (b ≡ true → a ≡ true) → (a && not (a && not b)) ≡ b
taken_twice true true within = refl
taken_twice true false within = refl
taken_twice false true within = absurd (false≢true (within refl))
taken_twice false false within = refl

-- sets with one more
difference_more : (o d : Ids) (n : ℕ) → set.remove (set.difference o d) n ≡ set.difference o (set.insert d n)
difference_more o d n =
    same_members _ _ (λ q. contains-remove (set.difference o d) n q ∙ ap (λ (b : Bool). not (q == n) && b) (contains-difference o d q)
    ∙ without_more (set.contains o q) (q == n) (set.contains d q) ∙ ap (λ (b : Bool). set.contains o q && not b) (sym (contains-insert d n q))
    ∙ sym (contains-difference o (set.insert d n) q))

union_more : (o d : Ids) (n : ℕ) → set.insert (set.union o d) n ≡ set.union o (set.insert d n)
union_more o d n =
    same_members _ _ (λ q. contains-insert (set.union o d) n q ∙ ap (λ (b : Bool). (q == n) || b) (contains-union o d q)
    ∙ with_more (set.contains o q) (q == n) (set.contains d q) ∙ ap (λ (b : Bool). set.contains o q || b) (sym (contains-insert d n q))
    ∙ sym (contains-union o (set.insert d n) q))

difference_none : (o : Ids) → set.difference o set.empty ≡ o
difference_none o =
    same_members _ _ (λ q. contains-difference o set.empty q ∙ ap (λ (b : Bool). set.contains o q && not b) (contains-empty q) ∙ without_false (set.contains o q))

union_none : (o : Ids) → set.union o set.empty ≡ o
union_none o =
    same_members _ _ (λ q. contains-union o set.empty q ∙ ap (λ (b : Bool). set.contains o q || b) (contains-empty q) ∙ with_false (set.contains o q))

pub difference_twice : (o w : Ids) → ((q : ℕ) → set.contains w q ≡ true → set.contains o q ≡ true) → set.difference o (set.difference o w) ≡ w
difference_twice o w within =
    same_members _ _ (λ q. contains-difference o (set.difference o w) q ∙ ap (λ (b : Bool). set.contains o q && not b) (contains-difference o w q)
    ∙ taken_twice (set.contains o q) (set.contains w q) (within q))

-- the members of a set that are below a number
abbrev pub below : Ids → ℕ → Ids
below s n = those (set.contains s) n

below_none : (s : Ids) → below s 0 ≡ set.empty
unfolding those
below_none s = refl

below_by : (s : Ids) (n : ℕ) → below s (n + 1) ≡ cond (set.contains s n) (set.insert (below s n) n) (below s n)
unfolding those
below_by s n = rw add-one refl

below_in : (s : Ids) (n : ℕ) → set.contains s n ≡ true → below s (n + 1) ≡ set.insert (below s n) n
below_in s n inside = below_by s n ∙ ap (λ (b : Bool). cond b (set.insert (below s n) n) (below s n)) inside

below_out : (s : Ids) (n : ℕ) → set.contains s n ≡ false → below s (n + 1) ≡ below s n
below_out s n out = below_by s n ∙ ap (λ (b : Bool). cond b (set.insert (below s n) n) (below s n)) out

-- what an event of a CPU makes of a runtime
abbrev runtime_of : NodeState → Told → RuntimeState
runtime_of node told = record { node = node; told = told }

by_kernel : (old new : RuntimeState) (kernel : KernelState) → new.node.kernel ≡ kernel → InKernel old.node new.node → new.told ≡ old.told
    → new ≡ runtime_of (record old.node { kernel = kernel }) old.told
by_kernel old new kernel is rest told =
    ap (runtime_of new.node) told ∙ ap (λ (n : NodeState). runtime_of n old.told) rest
    ∙ ap (λ (k : KernelState). runtime_of (record old.node { kernel = k }) old.told) is

-- a CPU that went offline, unless something stood against it
pub took_one : (old new : RuntimeState) (cpu : ℕ) (r : Result (Unit {0}) KernelFault) → GoesOffline old.node.kernel cpu r new.node.kernel → InKernel old.node new.node → new.told ≡ old.told
    → new ≡ (if is_none (offline_refusal old.node.kernel cpu) then with_online_cpus old (set.remove old.node.kernel.tree.online cpu) else old)
took_one old new cpu (Ok done) goes rest told =
    by_kernel old new _ goes.1 rest told
    ∙ ap (λ (o : Option KernelFault). if is_none o then with_online_cpus old (set.remove old.node.kernel.tree.online cpu) else old) (sym goes.0)
took_one old new cpu (Err fault) goes rest told =
    by_kernel old new old.node.kernel goes.1 rest told
    ∙ ap (λ (o : Option KernelFault). if is_none o then with_online_cpus old (set.remove old.node.kernel.tree.online cpu) else old) (sym goes.0)

-- a CPU that came online, as nothing stood against it
pub came_one : (old new : RuntimeState) (cpu : ℕ) (r : Result (Unit {0}) KernelFault) → online_refusal old.node.kernel cpu ≡ None → ComesOnline old.node.kernel cpu r new.node.kernel
    → InKernel old.node new.node → new.told ≡ old.told → new ≡ with_online_cpus old (set.insert old.node.kernel.tree.online cpu)
came_one old new cpu (Ok done) may comes rest told = by_kernel old new _ comes.1 rest told
came_one old new cpu (Err fault) may comes rest told =
    let e : None ≡ Some fault = sym may ∙ comes.0 in
    let f : ⊥ = cc in absurd f

-- what stands against a CPU that is present going offline: that it is reserved
pub nothing_against : (k : KernelState) (n : ℕ) → set.contains k.present n ≡ true → set.contains k.reserved n ≡ false → offline_refusal k n ≡ None
nothing_against k n there free =
    ap (λ (b : Bool). if not b then Some NoCpu else if set.contains k.reserved n then Some Reserved else None) there
    ∙ ap (λ (b : Bool). if b then Some Reserved else None) free

stays_on : (k : KernelState) (n : ℕ) → set.contains k.present n ≡ true → set.contains k.reserved n ≡ true → offline_refusal k n ≡ Some Reserved
stays_on k n there kept =
    ap (λ (b : Bool). if not b then Some NoCpu else if set.contains k.reserved n then Some Reserved else None) there
    ∙ ap (λ (b : Bool). if b then Some Reserved else None) kept

pub comes_on : (k : KernelState) (n : ℕ) → set.contains k.present n ≡ true → online_refusal k n ≡ None
comes_on k n there = ap (λ (b : Bool). if not b then Some NoCpu else None) there

-- an online CPU is present
pub is_present : (n : NodeState) → IsNode n → (q : ℕ) → set.contains n.kernel.tree.online q ≡ true → set.contains n.kernel.present q ≡ true
is_present n node q on = is_subset-contains n.kernel.tree.online n.kernel.present node.holds.kernel.online_present q on

-- a CPU that can leave is one of these, is online and is not reserved
pub of_leaving : (cpus : Ids) (k : KernelState) (q : ℕ) → set.contains (can_leave cpus k) q ≡ true
    → (set.contains cpus q ≡ true) × (set.contains k.tree.online q ≡ true) × (set.contains k.reserved q ≡ false)
of_leaving cpus k q m =
    let parts = without_parts (set.contains (set.intersection cpus k.tree.online) q) (set.contains k.reserved q) (sym (contains-difference (set.intersection cpus k.tree.online) k.reserved q) ∙ m) in
    let both = and_parts (set.contains cpus q) (set.contains k.tree.online q) (sym (contains-intersection cpus k.tree.online q) ∙ parts.0) in
    (both.0, both.1, parts.1)

pub in_leaving : (cpus : Ids) (k : KernelState) (q : ℕ) → set.contains (set.intersection cpus k.tree.online) q ≡ true → set.contains k.reserved q ≡ false
    → set.contains (can_leave cpus k) q ≡ true
in_leaving cpus k q both free = contains-difference (set.intersection cpus k.tree.online) k.reserved q ∙ left_over (set.contains (set.intersection cpus k.tree.online) q) (set.contains k.reserved q) both free

-- so nothing stands against it
pub may_leave : (cpus : Ids) (n : NodeState) → IsNode n → (q : ℕ) → set.contains (can_leave cpus n.kernel) q ≡ true → offline_refusal n.kernel q ≡ None
may_leave cpus n node q m =
    let of = of_leaving cpus n.kernel q m in nothing_against n.kernel q (is_present n node q of.1) of.2

-- CPUs below a number that are away, and back
pub away_none : (s : RuntimeState) (w : Ids) → s ≡ away s (below w 0)
away_none s w = ap (with_online_cpus s) (sym (ap (set.difference s.node.kernel.tree.online) (below_none w) ∙ difference_none s.node.kernel.tree.online))

pub away_in : (s : RuntimeState) (w : Ids) (n : ℕ) → set.contains w n ≡ true
    → with_online_cpus (away s (below w n)) (set.remove (away s (below w n)).node.kernel.tree.online n) ≡ away s (below w (n + 1))
away_in s w n inside =
    ap (with_online_cpus s) (difference_more s.node.kernel.tree.online (below w n) n ∙ ap (set.difference s.node.kernel.tree.online) (sym (below_in w n inside)))

pub away_out : (s : RuntimeState) (w : Ids) (n : ℕ) → set.contains w n ≡ false → away s (below w n) ≡ away s (below w (n + 1))
away_out s w n out = ap (away s) (sym (below_out w n out))

pub back_none : (s : RuntimeState) (w : Ids) → s ≡ back s (below w 0)
back_none s w = ap (with_online_cpus s) (sym (ap (set.union s.node.kernel.tree.online) (below_none w) ∙ union_none s.node.kernel.tree.online))

pub back_in : (s : RuntimeState) (w : Ids) (n : ℕ) → set.contains w n ≡ true
    → with_online_cpus (back s (below w n)) (set.insert (back s (below w n)).node.kernel.tree.online n) ≡ back s (below w (n + 1))
back_in s w n inside =
    ap (with_online_cpus s) (union_more s.node.kernel.tree.online (below w n) n ∙ ap (set.union s.node.kernel.tree.online) (sym (below_in w n inside)))

pub back_out : (s : RuntimeState) (w : Ids) (n : ℕ) → set.contains w n ≡ false → back s (below w n) ≡ back s (below w (n + 1))
back_out s w n out = ap (back s) (sym (below_out w n out))

-- all of them are below the limit
pub all_below : (w : Ids) → InRange w → below w CPU_LIMIT ≡ w
all_below w range = those-contains w CPU_LIMIT range

-- one more of these CPUs is taken away, if it can leave
module _ (s : RuntimeState) (cpus : Ids) (n : ℕ) where
  abbrev leaving : Ids
  leaving = can_leave cpus s.node.kernel

  abbrev so_far : RuntimeState
  so_far = away s (below leaving n)

  abbrev taken_of : RuntimeState → RuntimeState
  taken_of t = if is_none (offline_refusal t.node.kernel n) then with_online_cpus t (set.remove t.node.kernel.tree.online n) else t

  taken : IsNode s.node → set.contains (set.intersection cpus s.node.kernel.tree.online) n ≡ true → (b : Bool) → set.contains s.node.kernel.reserved n ≡ b
      → taken_of so_far ≡ away s (below leaving (n + 1))
  taken node both true kept =
      let on = and_parts (set.contains cpus n) (set.contains s.node.kernel.tree.online n) (sym (contains-intersection cpus s.node.kernel.tree.online n) ∙ both) in
      ap (λ (o : Option KernelFault). if is_none o then with_online_cpus so_far (set.remove so_far.node.kernel.tree.online n) else so_far)
      (stays_on s.node.kernel n (is_present s.node node n on.1) kept)
      ∙ away_out s leaving n (contains-difference (set.intersection cpus s.node.kernel.tree.online) s.node.kernel.reserved n
      ∙ not_left (set.contains (set.intersection cpus s.node.kernel.tree.online) n) (set.contains s.node.kernel.reserved n) kept)
  taken node both false free =
      let on = and_parts (set.contains cpus n) (set.contains s.node.kernel.tree.online n) (sym (contains-intersection cpus s.node.kernel.tree.online n) ∙ both) in
      ap (λ (o : Option KernelFault). if is_none o then with_online_cpus so_far (set.remove so_far.node.kernel.tree.online n) else so_far)
      (nothing_against s.node.kernel n (is_present s.node node n on.1) free)
      ∙ away_in s leaving n (in_leaving cpus s.node.kernel n both free)

  pub take_next : (t u : RuntimeState) → IsNode s.node → set.contains (set.intersection cpus s.node.kernel.tree.online) n ≡ true → t ≡ so_far → u ≡ taken_of t
      → u ≡ away s (below leaving (n + 1))
  take_next t u node both is e = e ∙ ap taken_of is ∙ taken node both (set.contains s.node.kernel.reserved n) refl

  pub take_none : (t : RuntimeState) → set.contains (set.intersection cpus s.node.kernel.tree.online) n ≡ false → t ≡ so_far → t ≡ away s (below leaving (n + 1))
  take_none t none is =
      is ∙ away_out s leaving n (contains-difference (set.intersection cpus s.node.kernel.tree.online) s.node.kernel.reserved n
      ∙ ap (λ (a : Bool). a && not (set.contains s.node.kernel.reserved n)) none)

-- once all are taken, those that left are what is not online any more
pub took_all : (s t : RuntimeState) (cpus result : Ids) (n : ℕ) → n ≡ CPU_LIMIT → InRange (set.intersection cpus s.node.kernel.tree.online)
    → t ≡ away s (below (can_leave cpus s.node.kernel) n) → result ≡ set.difference s.node.kernel.tree.online t.node.kernel.tree.online → (result ≡ can_leave cpus s.node.kernel) × (t ≡ away s result)
took_all s t cpus result n last range is of =
    let w : Ids = can_leave cpus s.node.kernel in
    let low : InRange w =
    (λ q m. range q (without_parts (set.contains (set.intersection cpus s.node.kernel.tree.online) q) (set.contains s.node.kernel.reserved q)
    (sym (contains-difference (set.intersection cpus s.node.kernel.tree.online) s.node.kernel.reserved q) ∙ m)).0) in
    let went : t ≡ away s w = is ∙ ap (λ (m : ℕ). away s (below w m)) last ∙ ap (away s) (all_below w low) in
    let gone : result ≡ w =
    of ∙ ap (λ (x : RuntimeState). set.difference s.node.kernel.tree.online x.node.kernel.tree.online) went
    ∙ difference_twice s.node.kernel.tree.online w (λ q m. (of_leaving cpus s.node.kernel q m).1) in
    (gone, went ∙ ap (away s) (sym gone))

-- if none of these CPUs is online, none leaves
pub none_leaves : (s : RuntimeState) (cpus some : Ids) → some ≡ set.intersection cpus s.node.kernel.tree.online → some ≡ set.empty
    → (some ≡ can_leave cpus s.node.kernel) × (s ≡ away s some)
none_leaves s cpus some is none = (
  same_members _ _ (λ q. ap (λ (x : Ids). set.contains x q) none ∙ contains-empty q
      ∙ sym (contains-difference (set.intersection cpus s.node.kernel.tree.online) s.node.kernel.reserved q
      ∙ ap (λ (b : Bool). b && not (set.contains s.node.kernel.reserved q)) (ap (λ (x : Ids). set.contains x q) (sym is ∙ none) ∙ contains-empty q))),
  ap (with_online_cpus s) (sym (ap (set.difference s.node.kernel.tree.online) none ∙ difference_none s.node.kernel.tree.online)),
)

-- if there are none, none comes back
pub none_comes : (s : RuntimeState) (cpus : Ids) → cpus ≡ set.empty → s ≡ back s cpus
none_comes s cpus none = ap (with_online_cpus s) (sym (ap (set.union s.node.kernel.tree.online) none ∙ union_none s.node.kernel.tree.online))

-- one more of these CPUs comes back
pub bring_next : (s : RuntimeState) (w : Ids) (n : ℕ) (t u : RuntimeState) → set.contains w n ≡ true → t ≡ back s (below w n)
    → u ≡ with_online_cpus t (set.insert t.node.kernel.tree.online n) → u ≡ back s (below w (n + 1))
bring_next s w n t u inside is e = e ∙ ap (λ (x : RuntimeState). with_online_cpus x (set.insert x.node.kernel.tree.online n)) is ∙ back_in s w n inside

pub bring_none : (s : RuntimeState) (w : Ids) (n : ℕ) (t : RuntimeState) → set.contains w n ≡ false → t ≡ back s (below w n) → t ≡ back s (below w (n + 1))
bring_none s w n t out is = is ∙ back_out s w n out

pub brought_all : (s : RuntimeState) (w : Ids) (n : ℕ) (t : RuntimeState) → InRange w → n ≡ CPU_LIMIT → t ≡ back s (below w n) → t ≡ back s w
brought_all s w n t range last is = is ∙ ap (λ (m : ℕ). back s (below w m)) last ∙ ap (back s) (all_below w range)
