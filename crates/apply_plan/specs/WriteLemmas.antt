-- What one write of a hand-over leaves: of the sets that entries hold, of safety, and of the writes to come.
use Rattle.std.proofs.Common.{◌≡◌, ℕ, Bool, true, false, not, ◌&&◌, ◌||◌, List, refl, sym, ap, ◌∙◌, inl, inr}
use Rattle.std.proofs.lemmas.Bool.{false≢true, not-false}
use Rattle.std.specs.Prelude.{◌⊎◌, find, Some}
use Rattle.std.specs.List.{AllByRecursion}
use Rattle.std.specs.FinSet as set
use Rattle.cpu_set.specs.Ids.{Ids, is_same}
use Rattle.cpu_set.specs.PointwiseLaws.{same_subsets}
use Rattle.cpuset_tree.specs.declared.Group.{Group}
use Rattle.cpuset_tree.specs.Groups.{same_group, requested_cpus}
use Rattle.cpuset_tree.specs.GroupLemmas.{same_group_itself, same_group_sym}
use Rattle.proctable.specs.Processes.{is_alive}
use Rattle.kernel_model.specs.KernelState.{KernelState}
use Rattle.apply_plan.specs.declared.entry.Entry.{Entry}
use Rattle.apply_plan.specs.Holders.{Pairwise, AreApart}
use Rattle.apply_plan.specs.Targets.{holder_of, HaveOtherGroups, AreTargetsApart}
use Rattle.apply_plan.specs.DueWrite.{held, kept_of, must_release, must_move}
use Rattle.apply_plan.specs.ListLemmas.{all_map, found_alone}

-- the kernel after a group was written: it requests these, every other group what it did, and the same processes live
pub record IsWrite (old new : KernelState) (g : Group) (cpus : Ids) : Type 0 where
  pub own : requested_cpus new.tree g ≡ cpus
  pub others : (p : Group) → same_group g p ≡ false → requested_cpus new.tree p ≡ requested_cpus old.tree p
  pub table : new.table ≡ old.table

-- a test, by its two answers
pub by_test : {P : Type 0} (b : Bool) → (b ≡ true → P) → (b ≡ false → P) → P
by_test true passes fails = passes refl
by_test false passes fails = fails refl

pub or_swap : (x y : Bool) → (x || y) ≡ true → (y || x) ≡ true
or_swap true true h = refl
or_swap true false h = refl
or_swap false true h = refl
or_swap false false h = h

-- what is safe of two entries
abbrev pub ApartAs : KernelState → Ids → Entry → Entry → Type 0
ApartAs k reserved a b = AreApart k reserved (requested_cpus k.tree) (holder_of a) (holder_of b)

pub apart_swap : (k : KernelState) (reserved : Ids) (a b : Entry) → ApartAs k reserved a b → ApartAs k reserved b a
apart_swap k reserved a b apart = λ lb la pinned cpu inb ina. apart la lb (or_swap b.pinned a.pinned pinned) cpu ina inb

pub targets_swap : (reserved : Ids) (a b : Entry) → AreTargetsApart reserved a b → AreTargetsApart reserved b a
targets_swap reserved a b apart = λ pinned cpu inb ina. apart (or_swap b.pinned a.pinned pinned) cpu ina inb

-- a live container that need not let go keeps all that it holds, and one that need not move holds its target
pub keeps_all : (k : KernelState) (reserved : Ids) (a : Entry) → must_release k reserved a ≡ false → is_alive k.table a.pid ≡ true → kept_of k reserved a ≡ held k a
keeps_all k reserved a no_release live = same_subsets _ _ (not-false (is_same (kept_of k reserved a) (held k a)) (ap (λ l. l && not (is_same (kept_of k reserved a) (held k a))) (sym live) ∙ no_release))

pub holds_target : (k : KernelState) (a : Entry) → must_move k a ≡ false → is_alive k.table a.pid ≡ true → held k a ≡ a.target
holds_target k a no_move live = same_subsets _ _ (not-false (is_same (held k a) a.target) (ap (λ l. l && not (is_same (held k a) a.target)) (sym live) ∙ no_move))

-- what a write leaves one entry: it is the one that was written, or it holds what it did
abbrev pub Left : KernelState → KernelState → Entry → Ids → Entry → Type 0
Left old new e cpus a = ((a ≡ e) × (held new a ≡ cpus)) ⊎ (held new a ≡ held old a)

module _ (old new : KernelState) (e : Entry) (cpus : Ids) (w : IsWrite old new e.group cpus) where
  left : (a : Entry) → (same_group e.group a.group ≡ true → a ≡ e) → Left old new e cpus a
  left a alone = by_test (same_group e.group a.group) (λ s. let is = alone s in inl (is, ap (held new) is ∙ w.own)) (λ s. inr (w.others a.group s))

  pub all_left : (test : Entry → Bool) (entries : List Entry) → Pairwise HaveOtherGroups entries → find test entries ≡ Some e → AllByRecursion (Left old new e cpus) entries
  all_left test entries groups found =
      all_map (λ a. same_group e.group a.group ≡ true → a ≡ e) (Left old new e cpus) left entries
      (found_alone test (λ a b. same_group a.group b.group) (λ a b. same_group_sym a.group b.group) entries e groups found)

  live : (a : Entry) → is_alive new.table a.pid ≡ true → is_alive old.table a.pid ≡ true
  live a l = ap (λ t. is_alive t a.pid) (sym w.table) ∙ l

  -- what is known of two entries where one of them is written
  module _ (reserved : Ids) (Known : Entry → Entry → Type 0) where
    -- outside the reserved CPUs, what is written meets nothing that this other entry holds
    abbrev pub MeetsNothing : Entry → Type 0
    MeetsNothing b =
        (a : Entry) → a ≡ e → Known a b → is_alive old.table a.pid ≡ true → is_alive old.table b.pid ≡ true → (a.pinned || b.pinned) ≡ true
        → (cpu : ℕ) → set.contains cpus cpu ≡ true → set.contains (held old b) cpu ≡ true → set.contains reserved cpu ≡ true

    pub stays_apart : (a b : Entry) → Left old new e cpus a → Left old new e cpus b → same_group a.group b.group ≡ false → MeetsNothing a → MeetsNothing b → Known a b → Known b a
        → ApartAs old reserved a b → ApartAs new reserved a b
    stays_apart a b (inl p) (inl q) other ma mb ab ba apart =
        absurd (false≢true (sym other ∙ ap (λ x. same_group x.group b.group) (p.0 ∙ sym q.0) ∙ same_group_itself b.group))
    stays_apart a b (inl p) (inr q) other ma mb ab ba apart =
        λ la lb pinned cpu ina inb.
        mb a p.0 ab (live a la) (live b lb) pinned cpu (ap (λ s. set.contains s cpu) (sym p.1) ∙ ina) (ap (λ s. set.contains s cpu) (sym q) ∙ inb)
    stays_apart a b (inr p) (inl q) other ma mb ab ba apart =
        λ la lb pinned cpu ina inb.
        ma b q.0 ba (live b lb) (live a la) (or_swap a.pinned b.pinned pinned) cpu (ap (λ s. set.contains s cpu) (sym q.1) ∙ inb) (ap (λ s. set.contains s cpu) (sym p) ∙ ina)
    stays_apart a b (inr p) (inr q) other ma mb ab ba apart =
        λ la lb pinned cpu ina inb. apart (live a la) (live b lb) pinned cpu (ap (λ s. set.contains s cpu) (sym p) ∙ ina) (ap (λ s. set.contains s cpu) (sym q) ∙ inb)
