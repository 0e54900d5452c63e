-- The writes of an `update`: how many fail, how many are made, and what they are one by one.
use Rattle.std.proofs.Common.{◌≡◌, ◌⊎◌, inl, inr, ℕ, ◌+◌, ◌≤◌, Bool, true, false, not, ◌&&◌, List, refl, sym, ap, ◌∙◌, subst, arith, Some}
use Rattle.std.proofs.lemmas.Option.{same_Some}
use Rattle.std.specs.Prelude.{map, Result, Ok, Err, IfOk}
use Rattle.std.specs.List.{AllByRecursion}
use Rattle.std.specs.Map.{lookup, set_value}
use Rattle.std.specs.Str.{bytes_eq}
use Rattle.faults.specs.declared.OrMemory.{OrMemory}
use Rattle.faults.specs.declared.OrMemory.TheVariants.{Memory, Fault}
use Rattle.cpu_set.specs.Ids.{Ids, is_same}
use Rattle.cpu_set.specs.PointwiseLaws.{is_same_decides}
use Rattle.cpuset_tree.specs.declared.Group.{Group}
use Rattle.cpuset_tree.specs.Groups.{requested_cpus}
use Rattle.cpuset_tree.specs.TreeLaws.{IsChild}
use Rattle.kernel_model.specs.declared.KernelFault.{KernelFault}
use Rattle.kernel_model.specs.declared.KernelFault.TheVariants.{Failed}
use Rattle.kernel_model.specs.KernelState.{KernelState, writes}
use Rattle.kernel_model.specs.Cases.{rise, WritesCpus, WritesMems}
use Rattle.kernel_model.specs.KernelLemmas.{writes_count, counts_each_write}
use Rattle.demand.specs.declared.Demand.{Demand as Asked}
use Rattle.node.specs.declared.fault.NodeFault.{NodeFault}
use Rattle.node.specs.declared.fault.NodeFault.TheVariants.{Busy, BadId, IdInUse, TooManyContainers, NoContainer, NotCreated, NotRunnable, BadSignal, NotLive, NotStopped, NoHandover, NoAnswer, NotFree, Config, Demand, Kernel}
use Rattle.apply_plan.specs.Holders.{IsSafe}
use Rattle.node.specs.NodeState.{ContainerState, NodeState, container_of, is_underway}
use Rattle.node.specs.Owners.{is_pinned, owners_of}
use Rattle.node.specs.Status.{is_live}
use Rattle.node.specs.IsNode.{IsPlaced, Holds, IsNode}
use Rattle.node.specs.Wanted.{ConfigCause, Reads}
use Rattle.node.specs.Leaves.{rise_or_memory}
use Rattle.node.specs.Making.{AreCalls, UpdatesAreCalls, UpdatesStaySafe, UpdatesFail}
use Rattle.node.specs.Making.IsOneCall.{Cpus, Mems}
use Rattle.node.specs.Updates.{MayUpdate, UpdateCause, MadeIf, gives_way, moves_home, Rewrites, made_states, rewrite_states, Updates, NeedsNoWrite, WritesNoMore}
use Rattle.node.proofs.LateLemmas.{cpus_fail, mems_fail}
use Rattle.node.proofs.MakingLemmas.{calls_then}
use Rattle.node.proofs.ContainerLemmas.{found_owner}
use Rattle.node.proofs.UpdateLemmas.{cpus_made, either, set_found, done_states_safe, refused_states_safe}
use Rattle.node.proofs.NodeLemmas.{updated_node, not_updated_node}
use Rattle.node.proofs.CountLemmas.{kept_count}

module _ (make : Bool) (old : KernelState) (g : Group) (r : Result (Unit {0}) KernelFault) (new : KernelState) where
  none_fails : (r ≡ Ok tt) × (new ≡ old) → new.failures ≡ old.failures + rise r
  none_fails m =
      let same : new.failures ≡ old.failures = ap (λ (k : KernelState). k.failures) m.1 in
      let none : rise r ≡ 0 = ap (λ (x : Result (Unit {0}) KernelFault). rise x) m.0 in
      omega (arith, same, none)

  none_made : new ≡ old → writes new ≤ writes old + 1
  none_made m = let same : writes new ≡ writes old = ap (λ (k : KernelState). writes k) m in omega (arith, same)

cpus_count : (make : Bool) (old : KernelState) (g : Group) (cpus : Ids) (r : Result (Unit {0}) KernelFault) (new : KernelState) → MadeIf make old (WritesCpus old g cpus) r new
    → new.failures ≡ old.failures + rise r
cpus_count true old g cpus r new m = writes_count.cpus old new g cpus r m
cpus_count false old g cpus r new m = none_fails false old g r new m

mems_count : (make : Bool) (old : KernelState) (g : Group) (mems : Ids) (r : Result (Unit {0}) KernelFault) (new : KernelState) → MadeIf make old (WritesMems old g mems) r new
    → new.failures ≡ old.failures + rise r
mems_count true old g mems r new m = writes_count.mems old new g mems r m
mems_count false old g mems r new m = none_fails false old g r new m

cpus_few : (make : Bool) (old : KernelState) (g : Group) (cpus : Ids) (r : Result (Unit {0}) KernelFault) (new : KernelState) → MadeIf make old (WritesCpus old g cpus) r new
    → writes new ≤ writes old + 1
cpus_few true old g cpus r new m = let one : writes new ≡ writes old + 1 = counts_each_write.cpus old new g cpus r m in omega (arith, one)
cpus_few false old g cpus r new m = none_made false old g r new m.1

mems_few : (make : Bool) (old : KernelState) (g : Group) (mems : Ids) (r : Result (Unit {0}) KernelFault) (new : KernelState) → MadeIf make old (WritesMems old g mems) r new
    → writes new ≤ writes old + 1
mems_few true old g mems r new m = let one : writes new ≡ writes old + 1 = counts_each_write.mems old new g mems r m in omega (arith, one)
mems_few false old g mems r new m = none_made false old g r new m.1

module _ (old : KernelState) (reserved : Ids) (c : ContainerState) (asked : Asked) (new : KernelState) where
  abbrev gives : Bool
  gives = gives_way old reserved c asked

  abbrev moves : Bool
  moves = moves_home c.demand asked

  pub rewrites_count : (r : Result (Unit {0}) KernelFault) → Rewrites old reserved c asked r new → new.failures ≡ old.failures + rise r
  rewrites_count r (inl (fault, refused, is)) =
      cpus_count gives old c.group reserved (Err fault) new refused ∙ ap (λ (x : Result (Unit {0}) KernelFault). old.failures + rise x) (sym is)
  rewrites_count r (inr (done, mid, first, second)) =
      let one : mid.failures ≡ old.failures + 0 = cpus_count gives old c.group reserved (Ok done) mid first in
      let two : new.failures ≡ mid.failures + rise r = mems_count moves mid c.group asked.homes r new second in
      omega (arith, one, two)

  pub rewrites_few : (r : Result (Unit {0}) KernelFault) → Rewrites old reserved c asked r new → writes new ≤ writes old + 2
  rewrites_few r (inl (fault, refused, is)) =
      let one : writes new ≤ writes old + 1 = cpus_few gives old c.group reserved (Err fault) new refused in omega (arith, one)
  rewrites_few r (inr (done, mid, first, second)) =
      let one : writes mid ≤ writes old + 1 = cpus_few gives old c.group reserved (Ok done) mid first in
      let two : writes new ≤ writes mid + 1 = mems_few moves mid c.group asked.homes r new second in
      omega (arith, one, two)

  pub rewrites_none : gives ≡ false → moves ≡ false → Rewrites old reserved c asked (Ok tt) new → new ≡ old
  rewrites_none stays at_home (inl (fault, refused, is)) = absurd (let no : ⊥ = cc is in no)
  rewrites_none stays at_home (inr (done, mid, first, second)) =
      let one : MadeIf false old (WritesCpus old c.group reserved) (Ok done) mid = subst (λ b. MadeIf b old (WritesCpus old c.group reserved) (Ok done) mid) stays first in
      let two : MadeIf false mid (WritesMems mid c.group asked.homes) (Ok tt) new = subst (λ b. MadeIf b mid (WritesMems mid c.group asked.homes) (Ok tt) new) at_home second in
      two.1 ∙ one.1

  -- each state between is what one call leaves
  cpus_call : (make : Bool) (r : Result (Unit {0}) KernelFault) (k : KernelState) (m : MadeIf make old (WritesCpus old c.group reserved) r k)
      → AreCalls old (made_states make old (WritesCpus old c.group reserved) r k m) k
  cpus_call true r k m = (Cpus c.group reserved r m, refl)
  cpus_call false r k m = m.1

  mems_call : (make : Bool) (mid : KernelState) (r : Result (Unit {0}) KernelFault) (m : MadeIf make mid (WritesMems mid c.group asked.homes) r new)
      → AreCalls mid (made_states make mid (WritesMems mid c.group asked.homes) r new m) new
  mems_call true mid r m = (Mems c.group asked.homes r m, refl)
  mems_call false mid r m = m.1

  pub rewrite_calls : (r : Result (Unit {0}) KernelFault) (w : Rewrites old reserved c asked r new) → AreCalls old (rewrite_states old reserved c asked r new w) new
  rewrite_calls r (inl (fault, refused, is)) = cpus_call gives (Err fault) new refused
  rewrite_calls r (inr (done, mid, first, second)) =
      calls_then old (made_states gives old (WritesCpus old c.group reserved) (Ok done) mid first) mid
      (made_states moves mid (WritesMems mid c.group asked.homes) r new second) new
      (cpus_call gives (Ok done) mid first) (mems_call moves mid r second)

-- where nothing differs
no_giving : (before after already : Bool) → (after ≡ false) ⊎ (before ≡ true) ⊎ (already ≡ true) → ((not before && after) && not already) ≡ false
no_giving true after already e = refl
no_giving false false already e = refl
no_giving false true true e = refl
no_giving false true false (inl e) = e
no_giving false true false (inr (inl e)) = sym e
no_giving false true false (inr (inr e)) = sym e

pub update_none : (old : NodeState) (id bundle config : List ℕ) (r : Result (Unit {0}) (OrMemory NodeFault)) (new : NodeState) → Updates old id bundle config r new
    → IfOk r (λ done. WritesNoMore old id new)
update_none old id bundle config (Err error) new u = tt
update_none old id bundle config (Ok done) new u = λ before after was now needs.
    let c : ContainerState = u.container in
    let d : ContainerState = record c { bundle = bundle; demand = u.asked } in
    let found : container_of new id ≡ Some d = ap (λ (n : NodeState). container_of n id) u.is ∙ set_found id old.containers c d u.may.there in
    let own : NeedsNoWrite old c d =
    subst (λ (x : ContainerState). NeedsNoWrite old x d) (same_Some before c (sym was ∙ u.may.there))
    (subst (λ (x : ContainerState). NeedsNoWrite old before x) (same_Some after d (sym now ∙ found)) needs) in
    let already : (is_pinned u.asked.kind ≡ false) ⊎ (is_pinned c.demand.kind ≡ true) ⊎ (is_same (requested_cpus old.kernel.tree c.group) old.machine.reserved ≡ true) =
    elim own.cpus [ inl e ↦ inl e | inr later ↦ elim later [ inl e ↦ inr (inl e) | inr e ↦ inr (inr ((is_same_decides _ _).1 e)) ] ] in
    rewrites_none old.kernel old.machine.reserved c u.asked new.kernel
    (no_giving (is_pinned c.demand.kind) (is_pinned u.asked.kind) (is_same (requested_cpus old.kernel.tree c.group) old.machine.reserved) already)
    (ap not ((is_same_decides _ _).1 own.homes)) u.rewrites

-- the code's two calls
module _ (old : KernelState) (reserved : Ids) (c : ContainerState) (asked : Asked) (new : KernelState) (make : Bool) (make_is : make ≡ gives_way old reserved c asked) where
  pub rewrite_refused : (fault : KernelFault) → MadeIf make old (WritesCpus old c.group reserved) (Err fault) new → Rewrites old reserved c asked (Err fault) new
  rewrite_refused fault m = inl (fault, subst (λ b. MadeIf b old (WritesCpus old c.group reserved) (Err fault) new) make_is m, refl)

  pub rewrite_made : (mid : KernelState) (done : Unit {0}) → MadeIf make old (WritesCpus old c.group reserved) (Ok done) mid → (move : Bool) → move ≡ moves_home c.demand asked
      → (r : Result (Unit {0}) KernelFault) → MadeIf move mid (WritesMems mid c.group asked.homes) r new → Rewrites old reserved c asked r new
  rewrite_made mid done first move move_is r second = inr (
    done,
    mid,
    subst (λ b. MadeIf b old (WritesCpus old c.group reserved) (Ok done) mid) make_is first,
    subst (λ b. MadeIf b mid (WritesMems mid c.group asked.homes) r new) move_is second,
  )

-- a write of a container's group is refused only where it fails
module _ (parent : Group) (id : List ℕ) (reserved : Ids) (c : ContainerState) (old : KernelState) (child : IsChild old.tree parent id c.group) where
  made_fails : (make : Bool) (fault : KernelFault) (new : KernelState) → MadeIf make old (WritesCpus old c.group reserved) (Err fault) new → fault ≡ Failed
  made_fails true fault new m = cpus_fail parent id c.group old child reserved fault new m
  made_fails false fault new m = absurd (let no : ⊥ = cc m.0 in no)

  mems_fails : (mems : Ids) (make : Bool) (fault : KernelFault) (new : KernelState) → MadeIf make old (WritesMems old c.group mems) (Err fault) new → fault ≡ Failed
  mems_fails mems true fault new m = mems_fail parent id c.group old child mems fault new m
  mems_fails mems false fault new m = absurd (let no : ⊥ = cc m.0 in no)

-- so is any write of an `update`
rewrites_fail : (parent : Group) (id : List ℕ) (reserved : Ids) (c : ContainerState) (xs : List (List ℕ × ContainerState)) → lookup (bytes_eq id) xs ≡ Some c
    → (old : KernelState) → Holds old parent (owners_of xs) → (asked : Asked) (new : KernelState) (fault : KernelFault) → Rewrites old reserved c asked (Err fault) new
    → fault ≡ Failed
rewrites_fail parent id reserved c xs found old h asked new fault (inl (first, refused, is)) =
    let child : IsChild old.tree parent id c.group = found_owner id (IsPlaced old.tree parent) xs c found h.placed in
    let same : fault ≡ first = cc is in
    same ∙ made_fails parent id reserved c old child (gives_way old reserved c asked) first new refused
rewrites_fail parent id reserved c xs found old h asked new fault (inr (done, mid, first, second)) =
    let child : IsChild old.tree parent id c.group = found_owner id (IsPlaced old.tree parent) xs c found h.placed in
    let now = (cpus_made reserved c (gives_way old reserved c asked) old mid h.kernel (Ok done) first).after c.group child.entry child.there in
    let still : IsChild mid.tree parent id c.group =
    record { entry = now.entry; there = now.there; below = sym now.place.parent ∙ child.below; named = sym now.place.name ∙ child.named } in
    mems_fails parent id reserved c mid still asked.homes (moves_home c.demand asked) fault new second

-- `update`
kept_few : (old new : NodeState) → new ≡ old → writes new.kernel ≤ writes old.kernel + 2
kept_few old new same = let e : writes new.kernel ≡ writes old.kernel = ap (λ (n : NodeState). writes n.kernel) same in omega (arith, e)

pub update_counts : (old : NodeState) (id bundle config : List ℕ) (r : Result (Unit {0}) (OrMemory NodeFault)) (new : NodeState) → Updates old id bundle config r new
    → new.kernel.failures ≡ old.kernel.failures + rise_or_memory r
update_counts old id bundle config (Ok done) new u = rewrites_count old.kernel old.machine.reserved u.container u.asked new.kernel (Ok tt) u.rewrites
update_counts old id bundle config (Err Memory) new u = kept_count old new u.3
update_counts old id bundle config (Err (Fault (Kernel fault))) new u =
    rewrites_count old.kernel old.machine.reserved u.1.container u.1.asked new.kernel (Err fault) u.1.rewrites
update_counts old id bundle config (Err (Fault Busy)) new u = kept_count old new u.1
update_counts old id bundle config (Err (Fault BadId)) new u = kept_count old new u.1
update_counts old id bundle config (Err (Fault IdInUse)) new u = kept_count old new u.1
update_counts old id bundle config (Err (Fault TooManyContainers)) new u = kept_count old new u.1
update_counts old id bundle config (Err (Fault NoContainer)) new u = kept_count old new u.1
update_counts old id bundle config (Err (Fault NotCreated)) new u = kept_count old new u.1
update_counts old id bundle config (Err (Fault NotRunnable)) new u = kept_count old new u.1
update_counts old id bundle config (Err (Fault BadSignal)) new u = kept_count old new u.1
update_counts old id bundle config (Err (Fault NotLive)) new u = kept_count old new u.1
update_counts old id bundle config (Err (Fault NotStopped)) new u = kept_count old new u.1
update_counts old id bundle config (Err (Fault NoHandover)) new u = kept_count old new u.1
update_counts old id bundle config (Err (Fault NoAnswer)) new u = kept_count old new u.1
update_counts old id bundle config (Err (Fault (NotFree cpu))) new u = kept_count old new u.1
update_counts old id bundle config (Err (Fault (Config fault))) new u = kept_count old new u.1
update_counts old id bundle config (Err (Fault (Demand fault))) new u = kept_count old new u.1

pub update_few : (old : NodeState) (id bundle config : List ℕ) (r : Result (Unit {0}) (OrMemory NodeFault)) (new : NodeState) → Updates old id bundle config r new
    → writes new.kernel ≤ writes old.kernel + 2
update_few old id bundle config (Ok done) new u = rewrites_few old.kernel old.machine.reserved u.container u.asked new.kernel (Ok tt) u.rewrites
update_few old id bundle config (Err Memory) new u = kept_few old new u.3
update_few old id bundle config (Err (Fault (Kernel fault))) new u =
    rewrites_few old.kernel old.machine.reserved u.1.container u.1.asked new.kernel (Err fault) u.1.rewrites
update_few old id bundle config (Err (Fault fault)) new u = kept_few old new u.1

pub updates_are_calls : UpdatesAreCalls
updates_are_calls old id bundle config (Ok done) new u = rewrite_calls old.kernel old.machine.reserved u.container u.asked new.kernel (Ok tt) u.rewrites
updates_are_calls old id bundle config (Err Memory) new u = ap (λ (n : NodeState). n.kernel) u.3
updates_are_calls old id bundle config (Err (Fault (Kernel fault))) new u =
    rewrite_calls old.kernel old.machine.reserved u.1.container u.1.asked new.kernel (Err fault) u.1.rewrites
updates_are_calls old id bundle config (Err (Fault fault)) new u = ap (λ (n : NodeState). n.kernel) u.1

pub updates_stay_safe : UpdatesStaySafe
updates_stay_safe old id bundle config (Ok done) new u h =
    subst (λ (cs : List (List ℕ × ContainerState)). AllByRecursion (λ k. IsSafe k k.reserved (map (λ o. o.holder) (owners_of cs)))
    (rewrite_states old.kernel old.machine.reserved u.container u.asked (Ok tt) new.kernel u.rewrites))
    (sym (ap (λ (n : NodeState). n.containers) u.is))
    (done_states_safe old.machine.reserved u.container old.parent id old.containers u.may.there old.kernel h.holds (sym h.machine.reserved) bundle u.asked new.kernel u.rewrites)
updates_stay_safe old id bundle config (Err Memory) new u h = tt
updates_stay_safe old id bundle config (Err (Fault (Kernel fault))) new u h =
    subst (λ (cs : List (List ℕ × ContainerState)). AllByRecursion (λ k. IsSafe k k.reserved (map (λ o. o.holder) (owners_of cs)))
    (rewrite_states old.kernel old.machine.reserved u.1.container u.1.asked (Err fault) new.kernel u.1.rewrites))
    (sym (ap (λ (n : NodeState). n.containers) u.1.is))
    (refused_states_safe old.machine.reserved u.1.container old.parent id old.containers u.1.may.there old.kernel h.holds (sym h.machine.reserved) bundle u.1.asked new.kernel fault
    u.1.rewrites)
updates_stay_safe old id bundle config (Err (Fault fault)) new u h = tt

pub updates_fail : UpdatesFail
updates_fail old id bundle config fault new h u =
    let one : new.kernel.failures ≡ old.kernel.failures + rise_or_memory {A = Unit {0}} (Err (Fault (Kernel fault))) = update_counts old id bundle config (Err (Fault (Kernel fault))) new u in
    record {
      container = u.1.container;
      there = u.1.may.there;
      containers = ap (λ (n : NodeState). n.containers) u.1.is;
      requests = either old.machine.reserved u.1.container old.parent id old.containers u.1.may.there old.kernel h.holds (sym h.machine.reserved) bundle u.1.asked new.kernel
          (Err fault) u.1.rewrites;
      counted = subst (λ (f : KernelFault). new.kernel.failures ≡ old.kernel.failures + rise_or_memory {A = Unit {0}} (Err (Fault (Kernel f)))) u.0 one;
    }

-- what the code finds and does
module _ (n now : NodeState) (is : n ≡ now) (id bundle config : List ℕ) where
  may_now : (c : ContainerState) → is_underway n.phase ≡ false → container_of n id ≡ Some c → is_live n.kernel c ≡ true → MayUpdate now id c
  may_now c settled found live = subst (λ (m : NodeState). MayUpdate m id c) is (record { settled = settled; there = found; live = live })

  module _ (settled : is_underway n.phase ≡ false) (c : ContainerState) (found : container_of n id ≡ Some c) where
    pub update_dead : is_live n.kernel c ≡ false → UpdateCause now id config NotLive × (now ≡ now)
    update_dead dead = (subst (λ (m : NodeState). UpdateCause m id config NotLive) is (c, settled, found, dead), refl)

    module _ (live : is_live n.kernel c ≡ true) where
      pub update_wants : (e : OrMemory NodeFault) → Reads n.machine config (Err e) → Updates now id bundle config (Err e) now
      update_wants Memory r = (c, may_now c settled found live, r, refl)
      update_wants (Fault (Config fault)) r = ((c, may_now c settled found live, subst (λ (m : NodeState). ConfigCause m.machine config (Config fault)) is r), refl)
      update_wants (Fault (Demand fault)) r = ((c, may_now c settled found live, subst (λ (m : NodeState). ConfigCause m.machine config (Demand fault)) is r), refl)
      update_wants (Fault fault) r = absurd r

      module _ (runnable : Bool) (asked : Asked) (reads : Reads n.machine config (Ok (runnable, asked))) where
        pub update_short : Updates now id bundle config (Err Memory) now
        update_short = (c, may_now c settled found live, reads.3, refl)

        module _ (new : KernelState) (reserved : Ids) (reserve : reserved ≡ n.machine.reserved) where
          on_reserved : (r : Result (Unit {0}) KernelFault) → Rewrites n.kernel reserved c asked r new → Rewrites n.kernel n.machine.reserved c asked r new
          on_reserved r w = subst (λ (x : Ids). Rewrites n.kernel x c asked r new) reserve w

          pub update_refused : IsNode n → (fault : KernelFault) → Rewrites n.kernel reserved c asked (Err fault) new
              → Updates now id bundle config (Err (Fault (Kernel fault))) (record n { kernel = new })
          update_refused h fault w =
              subst (λ (m : NodeState). Updates m id bundle config (Err (Fault (Kernel fault))) (record n { kernel = new })) is (
                rewrites_fail n.parent id n.machine.reserved c n.containers found n.kernel h.holds asked new fault (on_reserved (Err fault) w),
                record {
                  said = reads.0;
                  asked = asked;
                  container = c;
                  may = record { settled = settled; there = found; live = live };
                  says = reads.2;
                  rewrites = on_reserved (Err fault) w;
                  is = refl;
                },
              )

          pub refused_update_node : IsNode n → (fault : KernelFault) → Rewrites n.kernel reserved c asked (Err fault) new → IsNode (record n { kernel = new })
          refused_update_node h fault w = not_updated_node n h new id c (record { settled = settled; there = found; live = live }) asked fault (on_reserved (Err fault) w)

          module _ (w : Rewrites n.kernel reserved c asked (Ok tt) new) (text : List ℕ) (text_is : text ≡ bundle) (cs : List (List ℕ × ContainerState))
              (changed : cs ≡ set_value (bytes_eq id) n.containers (record c { bundle = text; demand = asked })) where
            changed_is : cs ≡ set_value (bytes_eq id) n.containers (record c { bundle = bundle; demand = asked })
            changed_is = changed ∙ ap (λ (t : List ℕ). set_value (bytes_eq id) n.containers (record c { bundle = t; demand = asked })) text_is

            pub update_done : Updates now id bundle config (Ok tt) (record n { kernel = new; containers = cs })
            update_done =
                subst (λ (m : NodeState). Updates m id bundle config (Ok tt) (record n { kernel = new; containers = cs })) is
                (record {
                  said = reads.0;
                  asked = asked;
                  container = c;
                  may = record { settled = settled; there = found; live = live };
                  says = reads.2;
                  rewrites = on_reserved (Ok tt) w;
                  is = ap (λ (xs : List (List ℕ × ContainerState)). record n { kernel = new; containers = xs }) changed_is;
                })

            pub update_node : IsNode n → IsNode (record n { kernel = new; containers = cs })
            update_node h =
                subst (λ (xs : List (List ℕ × ContainerState)). IsNode (record n { kernel = new; containers = xs })) (sym changed_is)
                (updated_node n h new id c (record { settled = settled; there = found; live = live }) asked bundle reads.2.fits (on_reserved (Ok tt) w))
