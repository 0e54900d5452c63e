-- Whose turn it is, as the program looks for it and as the order says.
use Rattle.std.proofs.Common.{◌≡◌, Bool, true, false, not, ◌&&◌, ◌||◌, List, [], ◌∷◌, refl, sym, ap, ◌∙◌}
use Rattle.std.proofs.lemmas.Bool.{false≢true}
use Rattle.std.specs.Prelude.{cond, find, Option, Some, None, is_some, option_map, max, ◌==◌}
use Rattle.std.specs.List.{AllByRecursion}
use Rattle.std.specs.FinSet as set
use Rattle.cpu_set.specs.Ids.{Ids}
use Rattle.cpuset_tree.specs.Groups.{same_group}
use Rattle.cpuset_tree.specs.GroupLemmas.{same_group_sym}
use Rattle.kernel_model.specs.KernelState.{KernelState}
use Rattle.apply_plan.specs.declared.entry.Entry.{Entry}
use Rattle.apply_plan.specs.declared.giving.Giving.{Giving}
use Rattle.apply_plan.specs.declared.giving.Giving.TheVariants.{Sharing, Aside, Squeezed}
use Rattle.apply_plan.specs.declared.taking.Taking.TheVariants.{New, LettingGo, Growing}
use Rattle.apply_plan.specs.declared.scan.Write.{Write}
use Rattle.apply_plan.specs.Targets.{IsHandover, AreTargetsApart}
use Rattle.apply_plan.specs.DueWrite.{held}
use Rattle.apply_plan.specs.ListLemmas.{all_map, find_none, found_alone}
use Rattle.apply_plan.specs.WriteLemmas.{by_test}
use Rattle.apply_plan.specs.DirectWords.{has_own, may_take, lets_go, places, spare, way}
use Rattle.apply_plan.specs.Rings.{rings_stand}
use Rattle.apply_plan.specs.Directed.{Least}
use Rattle.apply_plan.specs.DirectWrite.{is_new, is_mover, is_grower, goes, must_yield, has_room, lacks, first_due, gets}
use Rattle.apply_plan.specs.Turns.{IsIn, Guards, goes_by, takes_by, gives_by, gets_by}
use Rattle.apply_plan.specs.WayLemmas.{apart_from_it}

-- who is among the entries is the only one of its group, and its target meets no other's
module _ (entries : List Entry) (reserved : Ids) (valid : IsHandover (record { entries = entries; reserved = reserved })) (e : Entry) (at : IsIn entries e) where
  pub is_apart : AllByRecursion (λ a. same_group e.group a.group ≡ false → AreTargetsApart reserved e a) entries
  is_apart = apart_from_it (record { entries = entries; reserved = reserved }) valid (λ a. same_group e.group a.group) e at

  pub is_alone : AllByRecursion (λ a. same_group e.group a.group ≡ true → a ≡ e) entries
  is_alone = found_alone (λ a. same_group e.group a.group) (λ a b. same_group a.group b.group) (λ a b. same_group_sym a.group b.group) entries e valid.groups at

-- tests that answer alike find the same
pub find_same : (f g : Entry → Bool) (entries : List Entry) → AllByRecursion (λ e. f e ≡ g e) entries → find f entries ≡ find g entries
find_same f g [] same = refl
find_same f g (x ∷ xs) same = ap (λ b. cond b (Some x) (find f xs)) same.0 ∙ ap (cond (g x) (Some x)) (find_same f g xs same.1)

pub gets_same : (f g : Entry → Bool) (cpus : Entry → Ids) (entries : List Entry) → AllByRecursion (λ e. f e ≡ g e) entries → gets f cpus entries ≡ gets g cpus entries
gets_same f g cpus entries same = ap (option_map _) (find_same f g entries same)

module _ (k : KernelState) (reserved : Ids) (entries : List Entry) (rings : Bool) (guards : Guards k reserved entries rings) where
  goes_alike : (e : Entry) → (set.is_subset (spare k reserved entries) e.target && rings) ≡ (set.is_subset (spare k reserved entries) e.target && rings_stand k reserved entries)
      → goes_by k reserved entries rings e ≡ goes k reserved entries e
  goes_alike e alike = ap (λ b. may_take k reserved entries e && not (not (lets_go k reserved e) && b)) alike

  pinned_alike : (e : Entry) → (e.pinned ≡ true → (set.is_subset (spare k reserved entries) e.target && rings) ≡ (set.is_subset (spare k reserved entries) e.target && rings_stand k reserved entries))
      → (e.pinned && goes_by k reserved entries rings e) ≡ (e.pinned && goes k reserved entries e)
  pinned_alike e alike = by_test e.pinned
      (λ pinned. ap (λ b. e.pinned && b) (goes_alike e (alike pinned)))
      (λ shared. ap (λ b. b && goes_by k reserved entries rings e) shared ∙ sym (ap (λ b. b && goes k reserved entries e) shared))

  pub growing_alike : AllByRecursion (λ e. takes_by k reserved entries rings Growing e ≡ is_grower k reserved entries e) entries
  growing_alike = all_map _ (λ e. takes_by k reserved entries rings Growing e ≡ is_grower k reserved entries e) pinned_alike entries guards

  pub new_alike : AllByRecursion (λ e. takes_by k reserved entries rings New e ≡ is_new k reserved entries e) entries
  new_alike = all_map _ (λ e. takes_by k reserved entries rings New e ≡ is_new k reserved entries e)
      (λ e alike. turn e.pinned (not (has_own reserved (held k e))) (goes_by k reserved entries rings e) (goes k reserved entries e) (pinned_alike e alike)) entries guards where
        turn : (p n x y : Bool) → (p && x) ≡ (p && y) → (p && (n && x)) ≡ (p && (n && y))
        turn true true x y e = e
        turn true false x y e = refl
        turn false n x y e = refl

  pub mover_alike : AllByRecursion (λ e. takes_by k reserved entries rings LettingGo e ≡ is_mover k reserved entries e) entries
  mover_alike = all_map _ (λ e. takes_by k reserved entries rings LettingGo e ≡ is_mover k reserved entries e)
      (λ e alike. turn (lets_go k reserved e) (may_take k reserved entries e) (set.is_subset (spare k reserved entries) e.target && rings) (set.is_subset (spare k reserved entries) e.target && rings_stand k reserved entries)) entries guards where
        turn : (l m x y : Bool) → (l && (m && not (not l && x))) ≡ (l && (m && not (not l && y)))
        turn true m x y = refl
        turn false m x y = refl

-- where no pinned one's target has all spare CPUs, nobody is guarded
pub none_guards : (k : KernelState) (reserved : Ids) (entries : List Entry)
    → is_some (find (λ e. e.pinned && set.is_subset (spare k reserved entries) e.target) entries) ≡ false → Guards k reserved entries false
none_guards k reserved entries none =
    all_map (λ e. (e.pinned && set.is_subset (spare k reserved entries) e.target) ≡ false)
    (λ e. e.pinned ≡ true → (set.is_subset (spare k reserved entries) e.target && false) ≡ (set.is_subset (spare k reserved entries) e.target && rings_stand k reserved entries))
    (λ e f pinned. by e.pinned (set.is_subset (spare k reserved entries) e.target) (rings_stand k reserved entries) f pinned) entries
    (find_none (λ e. e.pinned && set.is_subset (spare k reserved entries) e.target) entries (none_if _ none)) where
      none_if : (o : Option Entry) → is_some o ≡ false → o ≡ None
      none_if None e = refl
      none_if (Some x) e = absurd (false≢true (sym e))

      by : (p s r : Bool) → (p && s) ≡ false → p ≡ true → (s && false) ≡ (s && r)
      by true false r a b = refl
      by true true r a b = absurd (false≢true (sym a))
      by false s r a b = absurd (false≢true b)

-- what one is allowed decides whether it steps aside, and where to
module _ (k : KernelState) (reserved : Ids) (entries : List Entry) (f g : Entry → Ids) (e : Entry) (same : f e ≡ g e) where
  pub gives_alike : (least : Least) (giving : Giving) → gives_by k reserved entries f least giving e ≡ gives_by k reserved entries g least giving e
  gives_alike least Sharing = refl
  gives_alike least Aside = ap (λ s. e.pinned && (must_yield k reserved entries e && (has_room k reserved entries e || not (set.len (least (places k reserved entries s e) 1) == 0)))) same
  gives_alike least Squeezed = refl

  pub gets_alike : (least : Least) (giving : Giving) → gets_by k reserved entries f least giving e ≡ gets_by k reserved entries g least giving e
  gets_alike least Sharing = refl
  gets_alike least Aside = ap (λ s. set.union (way k reserved entries e) (least (set.difference (places k reserved entries s e) (way k reserved entries e)) (cond (has_room k reserved entries e) (lacks k reserved entries e) (max (lacks k reserved entries e) 1)))) same
  gets_alike least Squeezed = refl

-- three that are looked for, and those behind them
pub three_some : (a b c : Option Write) (rest : List (Option Write)) (w : Write) → Some w ≡ first_due (a ∷ b ∷ c ∷ []) → Some w ≡ first_due (a ∷ b ∷ c ∷ rest)
three_some (Some x) b c rest w is = is
three_some None (Some x) c rest w is = is
three_some None None (Some x) rest w is = is
three_some None None None rest w is = absurd (let x : ⊥ = cc in x)

pub three_none : (a b c : Option Write) (rest : List (Option Write)) → None ≡ first_due (a ∷ b ∷ c ∷ []) → first_due rest ≡ first_due (a ∷ b ∷ c ∷ rest)
three_none (Some x) b c rest is = absurd (let x : ⊥ = cc in x)
three_none None (Some x) c rest is = absurd (let x : ⊥ = cc in x)
three_none None None (Some x) rest is = absurd (let x : ⊥ = cc in x)
three_none None None None rest is = refl

pub only_one : (a : Option Write) → a ≡ first_due (a ∷ [])
only_one (Some w) = refl
only_one None = refl
