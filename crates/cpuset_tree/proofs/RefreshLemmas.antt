-- Groups are brought up to date one after another, those alone that a write of one group can change.
use Rattle.std.proofs.Common.{◌≡◌, ℕ, ◌+◌, ◌<◌, ◌≤◌, true, false, ◌||◌, List, [], ◌∷◌, drop, length, get_or, refl, sym, ap, ◌∙◌, subst, eq-eqb, eqb-true, arith, ⊎_elim}
use Rattle.std.proofs.lemmas.Bool.{or_parts, or_right, ne_eqb, both_ways, cond-true, cond-false, cases_eq}
use Rattle.std.proofs.lemmas.Bool.Decides.{nat_tests}
use Rattle.std.proofs.lemmas.Option.{same_Some, none-some}
use Rattle.std.proofs.lemmas.List.{drop_more}
use Rattle.std.specs.Prelude.{Option, Some, None, is_some, is_none, option_map, find, nat_le, nat_lt, ◌==◌}
use Rattle.std.specs.List.{list_any}
use Rattle.slab.specs.Slab.{Slab, get}
use Rattle.cpu_set.specs.Ids.{Ids}
use Rattle.cpuset_tree.specs.declared.groups.Group.{Group}
use Rattle.cpuset_tree.specs.declared.groups.Cgroup.{Cgroup}
use Rattle.cpuset_tree.specs.declared.groups.Resource.{Resource}
use Rattle.cpuset_tree.specs.declared.groups.Resource.TheVariants.{Cpus, Mems}
use Rattle.cpuset_tree.specs.TreeState.{GroupEntry}
use Rattle.cpuset_tree.specs.Groups.{same_group, entry_among, root_among}
use Rattle.cpuset_tree.specs.Effective.{standing, effective}
use Rattle.cpuset_tree.specs.Kept.{entry_of_kept, entries_kept, HasParentAmong, IsInOrder, IsOrder, share_of, requested_of, top_of, KeepsEffective, AllKept, IsSound, effective_kept, stands, with_requested, with_effective, is_older, is_from, may_change, passed, IsGranted, OthersGranted, ElsewhereGranted, ChangesAt, bare, OnlyKeptDiffers}
use Rattle.cpuset_tree.specs.GroupLemmas.{same_group-key, same_group-equal, entry_among-there, standing_alike}
use Rattle.cpuset_tree.specs.WellFormedLemmas.{serial_below}
use Rattle.cpuset_tree.proofs.KeptLemmas.{listed_at, key_is_absent, listed-others, AllKept-others, kept-effective, IsOrder-drop, IsFalling-listed}
use Rattle.cpuset_tree.proofs.PlaceLemmas.{place, SamePlaces-from_kept, same_from_change, IsOrder-same}
use Rattle.cpuset_tree.proofs.CgroupLemmas.{KeptThere}

-- a fact on a parent among the older groups, at the parent that a group has
pub at_parent : (s : Slab Cgroup) (older : List ℕ) (n : Cgroup) → HasParentAmong s n.parent older → (p : Group) → n.parent ≡ Some p → HasParentAmong s (Some p) older
at_parent s older n parent p of = subst (λ (o : Option Group). HasParentAmong s o older) of parent

-- what is kept of a group of these keys
pub kept_among : (s : Slab Cgroup) (next : ℕ) (keys : List ℕ) → IsInOrder s next keys → (p : Group) → is_some (entry_among (entries_kept s keys) p) ≡ true
    → (n : Cgroup) × (get s p.key ≡ Some n) × (n.group ≡ p)
kept_among s next [] _ p there = absurd (both_ways false refl there)
kept_among s next (k ∷ older) (m, at, knows, below, parent, rest) p there =
    elim (same_group m.group p) as (λ t. same_group m.group p ≡ t → (n : Cgroup) × (get s p.key ≡ Some n) × (n.group ≡ p)) [
      | true ↦ λ e. (m, ap (get s) (sym (sym knows ∙ same_group-key m.group p e)) ∙ at, same_group-equal m.group p e)
      | false ↦ λ e.
          kept_among s m.group.serial older rest p
          (sym (ap is_some (ap (λ (l : List GroupEntry). entry_among l p) (listed_at s k older m at) ∙ entry_among-there (entry_of_kept m) (entries_kept s older) p e)) ∙ there)
    ] refl

module _ (r : Resource) (s : Slab Cgroup) (top : Ids) where
  -- what a group is to have is what it has in effect, if the older groups keep what they have
  pub stands-effective : (next : ℕ) (older : List ℕ) (n : Cgroup) → IsInOrder s next older → AllKept r s top older → HasParentAmong s n.parent older
      → stands r s top n ≡ standing n.parent (share_of r n).requested top (effective (requested_of r) top (entries_kept s older))
  stands-effective next older n order kept parent =
      standing_alike (requested_of r) top n.parent (share_of r n).requested _ _ (λ p of. kept-effective r s top next older order kept p (at_parent s older n parent p of))

  pub IsGranted-kept : (next : ℕ) (keys : List ℕ) → IsInOrder s next keys → AllKept r s top keys → (key : ℕ) (n : Cgroup) → list_any (λ k. k == key) keys ≡ true
      → get s key ≡ Some n → IsGranted r s top n
  IsGranted-kept next [] _ _ key n there at = absurd (both_ways false refl there)
  IsGranted-kept next (k ∷ older) (m, at_k, knows, below, parent, rest) kept key n there at =
      elim (k == key) as (λ t. (k == key) ≡ t → IsGranted r s top n) [
        | true ↦ λ e.
            subst (λ (x : Cgroup). IsGranted r s top x) (same_Some m n (sym at_k ∙ ap (get s) (eqb-true k key e) ∙ at))
            (kept.0 m at_k ∙ sym (stands-effective m.group.serial older m rest kept.1 parent))
        | false ↦ λ e. IsGranted-kept m.group.serial older rest kept.1 key n (ap (λ b. b || list_any (λ k. k == key) older) (sym e) ∙ there) at
      ] refl

-- a group is to have the same where the same is kept of its parent
pub stands_alike : (r : Resource) (old new : Slab Cgroup) (top : Ids) (n : Cgroup)
    → ((p : Group) → n.parent ≡ Some p → effective_kept r (get new p.key) ≡ effective_kept r (get old p.key)) → stands r new top n ≡ stands r old top n
stands_alike r old new top n same = standing_alike (requested_of r) top n.parent (share_of r n).requested _ _ same

-- what a group has in effect of a resource
abbrev kept_in : Resource → Cgroup → Ids
kept_in r n = (share_of r n).effective

same_effective : (r : Resource) (o q : Option Cgroup) → option_map (kept_in r) o ≡ option_map (kept_in r) q → effective_kept r o ≡ effective_kept r q
same_effective r None None e = refl
same_effective r None (Some n) e = absurd (none-some (kept_in r n) e)
same_effective r (Some n) None e = absurd (none-some (kept_in r n) (sym e))
same_effective r (Some n) (Some m) e = same_Some (kept_in r n) (kept_in r m) e

-- what a request leaves
pub requested_place : (r : Resource) (ids : Ids) (n : Cgroup) → place (with_requested r ids n) ≡ place n
requested_place Cpus ids n = refl
requested_place Mems ids n = refl

requested_effective : (r : Resource) (ids : Ids) (n : Cgroup) → kept_in r (with_requested r ids n) ≡ kept_in r n
requested_effective Cpus ids n = refl
requested_effective Mems ids n = refl

-- after a write of what one group requests, all others are granted what is kept of them
module _ (r : Resource) (ids : Ids) (old mid : Slab Cgroup) (keys : List ℕ) (online nodes : Ids) (root : Group) (next : ℕ) (g : Group)
    (sound : IsSound old keys online nodes root next) (change : ChangesAt old mid g.key (with_requested r ids)) where
  pub ElsewhereGranted-written : ElsewhereGranted r mid (top_of r online nodes) g.key
  ElsewhereGranted-written key n ne at =
      let at_old : get old key ≡ Some n = sym (change.others key ne) ∙ at in
      IsGranted-kept r old (top_of r online nodes) next keys sound.in_order (sound.all_kept r) key n (sound.complete key (ap is_some at_old)) at_old
      ∙ sym (stands_alike r old mid (top_of r online nodes) n (λ p of. same_effective r (get mid p.key) (get old p.key)
      (same_from_change (with_requested r ids) (kept_in r) (requested_effective r ids) old mid g.key change p.key)))

  -- and the group is where it was
  pub group_at-written : KeptThere old keys g → (n : Cgroup) → get mid g.key ≡ Some n → n.group ≡ g
  group_at-written there n at =
      let is : n ≡ with_requested r ids there.kept =
      same_Some n (with_requested r ids there.kept) (sym at ∙ change.changed ∙ ap (option_map (with_requested r ids)) there.at) in
      ap (λ (q : Group × Option Group). q.0) (ap place is ∙ requested_place r ids there.kept) ∙ same_group-equal there.kept.group g there.same

-- a write of a group can change the group itself
pub own_change : (g : Group) (n : Cgroup) → n.group ≡ g → may_change g.serial n ≡ true
own_change g n is = or_right (is_from g.serial n.parent) (n.group.serial == g.serial) (eq-eqb n.group.serial g.serial (ap (λ (h : Group). h.serial) is))

pub OthersGranted-elsewhere : (r : Resource) (s : Slab Cgroup) (top : Ids) (g : Group) → ((n : Cgroup) → get s g.key ≡ Some n → n.group ≡ g)
    → ElsewhereGranted r s top g.key → OthersGranted r s top g.serial
OthersGranted-elsewhere r s top g here elsewhere key n at quiet =
    ⊎_elim
    (λ e. absurd (both_ways (may_change g.serial n) quiet (own_change g n (here n (ap (get s) (sym e) ∙ at)))))
    (λ ne. elsewhere key n ne at)
    (cases_eq key g.key)

-- only the root has no parent
root_alone : (s : Slab Cgroup) (next : ℕ) (keys : List ℕ) → IsInOrder s next keys → (root : Group) → root_among (entries_kept s keys) ≡ Some root
    → (key : ℕ) (n : Cgroup) → list_any (λ k. k == key) keys ≡ true → get s key ≡ Some n → n.parent ≡ None → n.group ≡ root
root_alone s next [] _ root is key n there at none = absurd (both_ways false refl there)
root_alone s next (k ∷ older) (m, at_k, knows, below, parent, rest) root is key n there at none =
    elim (k == key) as (λ t. (k == key) ≡ t → n.group ≡ root) [
      | true ↦ λ e.
          let one : n ≡ m = same_Some n m (sym at ∙ ap (get s) (sym (eqb-true k key e)) ∙ at_k) in
          let top : is_none m.parent ≡ true = ap (λ (x : Cgroup). is_none x.parent) (sym one) ∙ ap is_none none in
          ap (λ (x : Cgroup). x.group) one
          ∙ same_Some m.group root (sym (ap (option_map (λ (e : GroupEntry). e.group)) (cond-true (is_none m.parent) (Some (entry_of_kept m)) (find (λ e. is_none e.parent) (entries_kept s older)) top)) ∙ here)
      | false ↦ λ e. further m.parent refl (ap (λ b. b || list_any (λ k. k == key) older) (sym e) ∙ there)
          (λ is in_older. root_alone s m.group.serial older rest root is key n in_older at none)
    ] refl
  where
    here : root_among (entry_of_kept m ∷ entries_kept s older) ≡ Some root
    here = ap root_among (sym (listed_at s k older m at_k)) ∙ is

    further : (o : Option Group) → m.parent ≡ o → list_any (λ k. k == key) older ≡ true
        → (root_among (entries_kept s older) ≡ Some root → list_any (λ k. k == key) older ≡ true → n.group ≡ root) → n.group ≡ root
    further None of in_older among =
        absurd (both_ways false refl (sym (ap (list_any (λ k. k == key)) (subst (λ (o : Option Group). HasParentAmong s o older) of parent)) ∙ in_older))
    further (Some p) of in_older among =
        among
        (sym (ap (option_map (λ (e : GroupEntry). e.group)) (cond-false (is_none m.parent) (Some (entry_of_kept m)) (find (λ e. is_none e.parent) (entries_kept s older)) (ap is_none of))) ∙ here)
        in_older

-- once other CPUs are online, all groups but the root are granted what is kept of them
pub OthersGranted-online : (s : Slab Cgroup) (keys : List ℕ) (online nodes : Ids) (root : Group) (next : ℕ) → IsSound s keys online nodes root next
    → (now : Ids) → OthersGranted Cpus s now root.serial
OthersGranted-online s keys online nodes root next sound now key n at quiet = below n.parent refl
  where
    in_keys : list_any (λ k. k == key) keys ≡ true
    in_keys = sound.complete key (ap is_some at)

    was : IsGranted Cpus s online n
    was = IsGranted-kept Cpus s online next keys sound.in_order (sound.all_kept Cpus) key n in_keys at

    below : (o : Option Group) → n.parent ≡ o → IsGranted Cpus s now n
    below None of =
        let is : n.group ≡ root = root_alone s next keys sound.in_order root sound.rooted key n in_keys at of in
        absurd (both_ways (may_change root.serial n) quiet
        (or_right (is_from root.serial n.parent) (n.group.serial == root.serial) (eq-eqb n.group.serial root.serial (ap (λ (h : Group). h.serial) is))))
    below (Some p) of =
        was
        ∙ ap (λ (o : Option Group). standing o n.shares.value.cpus.requested online (λ q. effective_kept Cpus (get s q.key))) of
        ∙ sym (ap (λ (o : Option Group). standing o n.shares.value.cpus.requested now (λ q. effective_kept Cpus (get s q.key))) of)

-- one group more keeps what it has in effect, by a change of it alone
AllKept-more : (r : Resource) (old new : Slab Cgroup) (top : Ids) (key : ℕ) (older : List ℕ) (m : Cgroup) (f : Cgroup → Cgroup)
    → list_any (λ k. k == key) older ≡ false → get old key ≡ Some m → ChangesAt old new key f → KeepsEffective r top (entries_kept old older) (f m)
    → AllKept r old top older → AllKept r new top (key ∷ older)
AllKept-more r old new top key older m f absent at change keeps kept = (
  (λ n is.
      subst (λ (l : List GroupEntry). KeepsEffective r top l n) (sym (listed-others old new key change.others older absent))
      (subst (λ (x : Cgroup). KeepsEffective r top (entries_kept old older) x)
      (same_Some (f m) n (ap (option_map f) (sym at) ∙ sym change.changed ∙ is)) keeps)),
  AllKept-others r old new top key change.others older absent kept,
)

-- what a change of the effective set leaves
given_keeps : (r : Resource) (top ids : Ids) (older : List GroupEntry) (n : Cgroup)
    → ids ≡ standing n.parent (share_of r n).requested top (effective (requested_of r) top older) → KeepsEffective r top older (with_effective r ids n)
given_keeps Cpus top ids older n e = e
given_keeps Mems top ids older n e = e

given_bare : (r : Resource) (ids : Ids) (n : Cgroup) → bare r (with_effective r ids n) ≡ bare r n
given_bare Cpus ids n = refl
given_bare Mems ids n = refl

module _ (r : Resource) (s : Slab Cgroup) (top : Ids) (written : ℕ) (n : Cgroup) where
  pub passed_changed : may_change written n ≡ true → passed r s top written n ≡ with_effective r (stands r s top n) n
  passed_changed e = cond-true (may_change written n) (with_effective r (stands r s top n) n) n e

  pub passed_kept : may_change written n ≡ false → passed r s top written n ≡ n
  passed_kept e = cond-false (may_change written n) (with_effective r (stands r s top n) n) n e

  pub passed_bare : bare r (passed r s top written n) ≡ bare r n
  passed_bare = elim (may_change written n) as (λ t. may_change written n ≡ t → bare r (passed r s top written n) ≡ bare r n) [
    | true ↦ λ e. ap (bare r) (passed_changed e) ∙ given_bare r (stands r s top n) n
    | false ↦ λ e. ap (bare r) (passed_kept e)
  ] refl

  passed_serial : (passed r s top written n).group.serial ≡ n.group.serial
  passed_serial = elim (may_change written n) as (λ t. may_change written n ≡ t → (passed r s top written n).group.serial ≡ n.group.serial) [
    | true ↦ λ e. ap (λ (x : Cgroup). x.group.serial) (passed_changed e) ∙ given r (stands r s top n) n
    | false ↦ λ e. ap (λ (x : Cgroup). x.group.serial) (passed_kept e)
  ] refl
    where
      given : (r : Resource) (ids : Ids) (n : Cgroup) → (with_effective r ids n).group.serial ≡ n.group.serial
      given Cpus ids n = refl
      given Mems ids n = refl

not_from : (written serial : ℕ) → serial < written → nat_le written serial ≡ false
not_from written serial lt = grind (arith, nat_tests)

not_until : (written serial : ℕ) → nat_le written serial ≡ false → serial < written
not_until written serial e = grind (arith, nat_tests)

below_written : (written serial : ℕ) → nat_lt serial written ≡ true → serial < written
below_written written serial e = grind (arith, nat_tests)

-- a group that is older than the written one is not changed
older_stays : (s : Slab Cgroup) (written : ℕ) (m : Cgroup) (older : List ℕ) → IsInOrder s m.group.serial older → HasParentAmong s m.parent older
    → m.group.serial < written → may_change written m ≡ false
older_stays s written m older order parent lt =
    ap (λ b. b || (m.group.serial == written)) (from m.parent parent) ∙ ne_eqb m.group.serial written (λ e. absurd (omega arith))
  where
    from : (o : Option Group) → HasParentAmong s o older → is_from written o ≡ false
    from None h = refl
    from (Some p) h =
        let lower : p.serial < m.group.serial = serial_below m.group.serial (entries_kept s older) (IsFalling-listed s m.group.serial older order) p h in
        not_from written p.serial (omega arith)

-- and so those are up to date that are older
AllKept-older : (r : Resource) (s : Slab Cgroup) (top : Ids) (written next : ℕ) (keys : List ℕ) → next ≤ written → IsInOrder s next keys
    → OthersGranted r s top written → AllKept r s top keys
AllKept-older r s top written next [] le _ granted = tt
AllKept-older r s top written next (k ∷ older) le (m, at, knows, below, parent, rest) granted =
    let kept : AllKept r s top older = AllKept-older r s top written m.group.serial older (omega arith) rest granted in (
      (λ n is. subst (λ (x : Cgroup). KeepsEffective r top (entries_kept s older) x) (same_Some m n (sym at ∙ is))
          (granted k m at (older_stays s written m older rest parent (omega arith)) ∙ stands-effective r s top m.group.serial older m rest kept parent)),
      kept,
    )

-- from an older group on all are older
pub IsInOrder-from : (s : Slab Cgroup) (written i : ℕ) (keys : List ℕ) → i < length keys → IsOrder s keys → is_older written (get s (get_or keys i 0)) ≡ true
    → IsInOrder s written (drop i keys)
IsInOrder-from s written i keys within order is =
    let split : drop i keys ≡ get_or keys i 0 ∷ drop (i + 1) keys = drop_more keys i 0 within in
    let rest : IsOrder s (get_or keys i 0 ∷ drop (i + 1) keys) = subst (λ (l : List ℕ). IsOrder s l) split (IsOrder-drop s i keys order) in
    subst (λ (l : List ℕ). IsInOrder s written l) (sym split) (from (get_or keys i 0) (drop (i + 1) keys) rest.0 rest.1 is)
  where
    from : (key : ℕ) (older : List ℕ) (bound : ℕ) → IsInOrder s bound (key ∷ older) → is_older written (get s key) ≡ true → IsInOrder s written (key ∷ older)
    from key older bound (m, at, knows, below, parent, rest) is =
        (m, at, knows, below_written written m.group.serial (ap (is_older written) (sym at) ∙ is), parent, rest)

-- how far the groups are: those of the places from this one on are up to date, the others are as they were, and so are
-- those that are older than the written one
pub record IsRefreshing (r : Resource) (mid cur : Slab Cgroup) (top : Ids) (written : ℕ) (keys : List ℕ) (place : ℕ) : Type 0 where
  pub order : IsOrder cur keys
  pub kept : AllKept r cur top (drop place keys)
  pub ahead : (k : ℕ) → list_any (λ j. j == k) (drop place keys) ≡ false → get cur k ≡ get mid k
  pub older : (k : ℕ) (n : Cgroup) → get cur k ≡ Some n → n.group.serial < written → get cur k ≡ get mid k
  pub same : OnlyKeptDiffers r mid cur

module _ (r : Resource) (mid : Slab Cgroup) (top : Ids) (written : ℕ) (keys : List ℕ) where
  pub IsRefreshing-first : (count : ℕ) → IsOrder mid keys → IsInOrder mid written (drop count keys) → OthersGranted r mid top written
      → IsRefreshing r mid mid top written keys count
  IsRefreshing-first count order older granted = record {
    order = order;
    kept = AllKept-older r mid top written written (drop count keys) (omega arith) older granted;
    ahead = λ k none. refl;
    older = λ k n at lt. refl;
    same = λ k. refl;
  }

  -- one group more
  pub IsRefreshing-more : (cur new : Slab Cgroup) (place i : ℕ) → place ≡ i + 1 → i < length keys → OthersGranted r mid top written
      → ChangesAt cur new (get_or keys i 0) (passed r cur top written) → IsRefreshing r mid cur top written keys place → IsRefreshing r mid new top written keys i
  IsRefreshing-more cur new place i next within granted change so_far =
      let key : ℕ = get_or keys i 0 in
      let split : drop i keys ≡ key ∷ drop place keys = drop_more keys i 0 within ∙ ap (λ (n : ℕ). key ∷ drop n keys) (sym next) in
      let rest : IsOrder cur (key ∷ drop place keys) = subst (λ (l : List ℕ). IsOrder cur l) split (IsOrder-drop cur i keys so_far.order) in
      step key split rest.0 rest.1 change
    where
      step : (key : ℕ) → drop i keys ≡ key ∷ drop place keys → (bound : ℕ) → IsInOrder cur bound (key ∷ drop place keys) → ChangesAt cur new key (passed r cur top written)
          → IsRefreshing r mid new top written keys i
      step key split bound (m, at, knows, below, parent, rest) change =
          let absent : list_any (λ k. k == key) (drop place keys) ≡ false = key_is_absent cur m.group.serial (drop place keys) rest key m at (omega arith) in
          let as_before : get cur key ≡ get mid key = so_far.ahead key absent in
          let differs : OnlyKeptDiffers r cur new = same_from_change (passed r cur top written) (bare r) (passed_bare r cur top written) cur new key change in
          record {
            order = IsOrder-same cur new (SamePlaces-from_kept r cur new differs) keys so_far.order;
            kept = subst (λ (l : List ℕ). AllKept r new top l) (sym split)
                (AllKept-more r cur new top key (drop place keys) m (passed r cur top written) absent at change
                (keeps key m at as_before rest parent) so_far.kept);
            ahead = λ k none.
                let parts : ((key == k) ≡ false) × (list_any (λ j. j == k) (drop place keys) ≡ false) =
                or_parts (key == k) (list_any (λ j. j == k) (drop place keys)) (sym (ap (list_any (λ j. j == k)) split) ∙ none) in
                change.others k (λ e. both_ways (key == k) parts.0 (eq-eqb key k (sym e))) ∙ so_far.ahead k parts.1;
            older = λ k n is lt. ⊎_elim
                (λ e. at_key key m at as_before rest parent k n is lt change e)
                (λ ne. change.others k ne ∙ so_far.older k n (sym (change.others k ne) ∙ is) lt)
                (cases_eq k key);
            same = λ k. differs k ∙ so_far.same k;
          }
        where
          keeps : (key : ℕ) (m : Cgroup) → get cur key ≡ Some m → get cur key ≡ get mid key → IsInOrder cur m.group.serial (drop place keys)
              → HasParentAmong cur m.parent (drop place keys) → KeepsEffective r top (entries_kept cur (drop place keys)) (passed r cur top written m)
          keeps key m at as_before rest parent =
              let due : stands r cur top m ≡ standing m.parent (share_of r m).requested top (effective (requested_of r) top (entries_kept cur (drop place keys))) =
              stands-effective r cur top m.group.serial (drop place keys) m rest so_far.kept parent in
              elim (may_change written m) as (λ t. may_change written m ≡ t → KeepsEffective r top (entries_kept cur (drop place keys)) (passed r cur top written m)) [
                | true ↦ λ e.
                    subst (λ (x : Cgroup). KeepsEffective r top (entries_kept cur (drop place keys)) x) (sym (passed_changed r cur top written m e))
                    (given_keeps r top (stands r cur top m) (entries_kept cur (drop place keys)) m due)
                | false ↦ λ e.
                    subst (λ (x : Cgroup). KeepsEffective r top (entries_kept cur (drop place keys)) x) (sym (passed_kept r cur top written m e))
                    (granted key m (sym as_before ∙ at) e
                    ∙ sym (stands_alike r mid cur top m (λ p of. ap (effective_kept r) (above p of (or_parts (is_from written m.parent) (m.group.serial == written) e).0)))
                    ∙ due)
              ] refl
            where
              above : (p : Group) → m.parent ≡ Some p → is_from written m.parent ≡ false → get cur p.key ≡ get mid p.key
              above p of e =
                  let there : (x : Cgroup) × (get cur p.key ≡ Some x) × (x.group ≡ p) =
                  kept_among cur m.group.serial (drop place keys) rest p (at_parent cur (drop place keys) m parent p of) in
                  so_far.older p.key there.0 there.1
                  (subst (λ (g : Group). g.serial < written) (sym there.2) (not_until written p.serial (ap (is_from written) (sym of) ∙ e)))

          at_key : (key : ℕ) (m : Cgroup) → get cur key ≡ Some m → get cur key ≡ get mid key → IsInOrder cur m.group.serial (drop place keys)
              → HasParentAmong cur m.parent (drop place keys) → (k : ℕ) (n : Cgroup) → get new k ≡ Some n → n.group.serial < written
              → ChangesAt cur new key (passed r cur top written) → k ≡ key → get new k ≡ get mid k
          at_key key m at as_before rest parent k n is lt change e =
              let now : get new k ≡ Some (passed r cur top written m) = ap (get new) e ∙ change.changed ∙ ap (option_map (passed r cur top written)) at in
              let one : n ≡ passed r cur top written m = same_Some n (passed r cur top written m) (sym is ∙ now) in
              let serial : n.group.serial ≡ m.group.serial = ap (λ (x : Cgroup). x.group.serial) one ∙ passed_serial r cur top written m in
              now ∙ ap Some (passed_kept r cur top written m (older_stays cur written m (drop place keys) rest parent (subst (λ (j : ℕ). j < written) serial lt)))
              ∙ sym at ∙ as_before ∙ ap (get mid) (sym e)
