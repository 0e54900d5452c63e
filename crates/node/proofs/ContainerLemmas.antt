-- The containers as the node keeps them and as plain values, and what is left of their owners by a change of one.
use Rattle.std.proofs.Common.{◌≡◌, ◌⊎◌, inl, inr, ℕ, Bool, true, false, cond, List, [], ◌∷◌, ◌++◌, Option, Some, None, refl, sym, ap, ◌∙◌, subst, string_bytes, Bor}
use Rattle.std.proofs.lemmas.List.{map-append}
use Rattle.std.proofs.lemmas.Option.{none-some}
use Rattle.std.proofs.lemmas.Slice.Eq.{bytes_eq-Decides}
use Rattle.std.specs.Prelude.{option_map, String}
use Rattle.std.specs.declared.alloc.Global.{Global}
use Rattle.std.specs.List.{AllByRecursion}
use Rattle.std.specs.Map.{lookup, set_value, remove_entry}
use Rattle.std.specs.Str.{bytes_eq}
use Rattle.std.specs.String.{string_eq}
use Rattle.proctable.specs.declared.Process.{Process}
use Rattle.apply_plan.specs.Holders.{Pairwise}
use Rattle.indexmap.specs.IndexMap.{IndexMap, insert_entry}
use Rattle.std.specs.Option.{option_copied}
use Rattle.indexmap.proofs.CallerLemmas.{insert_entry-new}
use Rattle.node.specs.declared.container.Container.{Container}
use Rattle.node.specs.NodeState.{ContainerState}
use Rattle.node.specs.Owners.{Owner, owner_of, owners_of}
use Rattle.node.specs.IsNode.{HaveOtherIds, IsOwned}
use Rattle.node.specs.Viewed.{viewed, entry_seen, all_seen}
use Rattle.node.proofs.ListLemmas.{all_of_map, of_all_map}

-- the test of a stored key
abbrev pub is_id : List ℕ → String Global → Bool
is_id id k = bytes_eq id (string_bytes k)

pub looked_up : (id : List ℕ) (es : List (String Global × Container)) → lookup (bytes_eq id) (all_seen es) ≡ option_map viewed (lookup (is_id id) es)
looked_up id [] = refl
looked_up id (e ∷ es) =
    elim (is_id id e.0) as (λ b. cond b (Some (viewed e.1)) (lookup (bytes_eq id) (all_seen es)) ≡ option_map viewed (cond b (Some e.1) (lookup (is_id id) es)))
    [ true ↦ refl | false ↦ looked_up id es ]

pub written : (id : List ℕ) (w : Container) (es : List (String Global × Container)) → all_seen (set_value (is_id id) es w) ≡ set_value (bytes_eq id) (all_seen es) (viewed w)
written id w [] = refl
written id w (e ∷ es) =
    elim (is_id id e.0) as (λ b. all_seen (cond b ((e.0, w) ∷ es) (e ∷ set_value (is_id id) es w)) ≡ cond b ((string_bytes e.0, viewed w) ∷ all_seen es) (entry_seen e ∷ set_value (bytes_eq id) (all_seen es) (viewed w)))
    [ true ↦ refl | false ↦ ap (λ later. entry_seen e ∷ later) (written id w es) ]

pub removed : (id : List ℕ) (es : List (String Global × Container)) → all_seen (remove_entry (is_id id) es) ≡ remove_entry (bytes_eq id) (all_seen es)
removed id [] = refl
removed id (e ∷ es) =
    elim (is_id id e.0) as (λ b. all_seen (cond b es (e ∷ remove_entry (is_id id) es)) ≡ cond b (all_seen es) (entry_seen e ∷ remove_entry (bytes_eq id) (all_seen es)))
    [ true ↦ refl | false ↦ ap (λ later. entry_seen e ∷ later) (removed id es) ]

pub pushed : {S : Type 0} (m : IndexMap (String Global) Container S) (k : String Global) (v : Container) → lookup (string_eq k) m.entries ≡ None
    → all_seen (insert_entry string_eq m.entries k v) ≡ all_seen m.entries ++ (string_bytes k, viewed v) ∷ []
pushed m k v absent = ap all_seen (insert_entry-new string_eq m k v absent) ∙ map-append entry_seen m.entries ((k, v) ∷ [])

-- the value that is found, behind a reference
pub seen_copied : (r : Option (Bor Container)) → option_map (λ c. viewed c.now) r ≡ option_map viewed (option_copied r)
seen_copied None = refl
seen_copied (Some c) = refl

-- where no container has the id among the plain values, none has it among the kept ones
pub not_kept : (k : String Global) (es : List (String Global × Container)) → lookup (bytes_eq (string_bytes k)) (all_seen es) ≡ None → lookup (string_eq k) es ≡ None
not_kept k es e = by (lookup (is_id (string_bytes k)) es) refl where
  by : (o : Option Container) → lookup (is_id (string_bytes k)) es ≡ o → lookup (string_eq k) es ≡ None
  by None was = was
  by (Some c) was = absurd (none-some (viewed c) (sym e ∙ looked_up (string_bytes k) es ∙ ap (option_map viewed) was))

abbrev Entries : Type 0
Entries = List (List ℕ × ContainerState)

pub same_id : (a b : List ℕ) → bytes_eq a b ≡ true → a ≡ b
same_id a b = (bytes_eq-Decides a b).0

module _ (id : List ℕ) where
  pub split : {P : Type 0} (x : List ℕ × ContainerState) → (bytes_eq id x.0 ≡ true → P) → (bytes_eq id x.0 ≡ false → P) → P
  split {P} x passes fails = by (bytes_eq id x.0) refl where
    by : (b : Bool) → bytes_eq id x.0 ≡ b → P
    by true t = passes t
    by false t = fails t

  here : (x : List ℕ × ContainerState) (xs : Entries) (c : ContainerState) → bytes_eq id x.0 ≡ true → lookup (bytes_eq id) (x ∷ xs) ≡ Some c → x.1 ≡ c
  here x xs c t e = cc (ap (λ b. cond b (Some x.1) (lookup (bytes_eq id) xs)) t, e)

  later : (x : List ℕ × ContainerState) (xs : Entries) → bytes_eq id x.0 ≡ false → lookup (bytes_eq id) (x ∷ xs) ≡ lookup (bytes_eq id) xs
  later x xs t = ap (λ b. cond b (Some x.1) (lookup (bytes_eq id) xs)) t

  out_here : (x : List ℕ × ContainerState) (xs : Entries) → bytes_eq id x.0 ≡ true → remove_entry (bytes_eq id) (x ∷ xs) ≡ xs
  out_here x xs t = ap (λ b. cond b xs (x ∷ remove_entry (bytes_eq id) xs)) t

  out_later : (x : List ℕ × ContainerState) (xs : Entries) → bytes_eq id x.0 ≡ false → remove_entry (bytes_eq id) (x ∷ xs) ≡ x ∷ remove_entry (bytes_eq id) xs
  out_later x xs t = ap (λ b. cond b xs (x ∷ remove_entry (bytes_eq id) xs)) t

  -- a container that is started is whose it was
  pub owners_started : (xs : Entries) (c : ContainerState) → lookup (bytes_eq id) xs ≡ Some c → owners_of (set_value (bytes_eq id) xs (record c { started = true })) ≡ owners_of xs
  owners_started [] c e = refl
  owners_started (x ∷ xs) c e = split x
      (λ t. ap (λ b. owners_of (cond b ((x.0, record c { started = true }) ∷ xs) (x ∷ set_value (bytes_eq id) xs (record c { started = true })))) t
      ∙ ap (λ (y : ContainerState). owner_of (x.0, record y { started = true }) ∷ owners_of xs) (sym (here x xs c t e)))
      (λ t. ap (λ b. owners_of (cond b ((x.0, record c { started = true }) ∷ xs) (x ∷ set_value (bytes_eq id) xs (record c { started = true })))) t
      ∙ ap (λ later. owner_of x ∷ later) (owners_started xs c (sym (later x xs t) ∙ e)))

  -- where no container has the id, each has another
  pub other_ids : (xs : Entries) → lookup (bytes_eq id) xs ≡ None → AllByRecursion (λ o. bytes_eq id o.id ≡ false) (owners_of xs)
  other_ids [] e = tt
  other_ids (x ∷ xs) e = split x
      (λ t. absurd (none-some x.1 (sym e ∙ ap (λ b. cond b (Some x.1) (lookup (bytes_eq id) xs)) t)))
      (λ t. (t, other_ids xs (sym (later x xs t) ∙ e)))

  -- what holds of each owner holds of the one that is found
  pub found_owner : (P : Owner → Type 0) (xs : Entries) (c : ContainerState) → lookup (bytes_eq id) xs ≡ Some c → AllByRecursion P (owners_of xs) → P (owner_of (id, c))
  found_owner P [] c e h = absurd (none-some c e)
  found_owner P (x ∷ xs) c e h = split x
      (λ t. subst (λ y. P (owner_of (y, c))) (sym (same_id id x.0 t)) (subst (λ (y : ContainerState). P (owner_of (x.0, y))) (here x xs c t e) h.0))
      (λ t. found_owner P xs c (sym (later x xs t) ∙ e) h.1)

  -- what holds of each container, started or not, holds of each once one is started
  pub all_started : (P : List ℕ × ContainerState → Type 0) (xs : Entries) (c : ContainerState) → lookup (bytes_eq id) xs ≡ Some c
      → ((key : List ℕ) → P (key, c) → P (key, record c { started = true })) → AllByRecursion P xs
      → AllByRecursion P (set_value (bytes_eq id) xs (record c { started = true }))
  all_started P [] c e start h = tt
  all_started P (x ∷ xs) c e start h = split x
      (λ t. subst (λ b. AllByRecursion P (cond b ((x.0, record c { started = true }) ∷ xs) (x ∷ set_value (bytes_eq id) xs (record c { started = true })))) (sym t)
      (start x.0 (subst (λ (y : ContainerState). P (x.0, y)) (here x xs c t e) h.0), h.1))
      (λ t. subst (λ b. AllByRecursion P (cond b ((x.0, record c { started = true }) ∷ xs) (x ∷ set_value (bytes_eq id) xs (record c { started = true })))) (sym t)
      (h.0, all_started P xs c (sym (later x xs t) ∙ e) start h.1))

  -- the same of one that is replaced
  pub all_replaced : (P : List ℕ × ContainerState → Type 0) (xs : Entries) (c d : ContainerState) → lookup (bytes_eq id) xs ≡ Some c
      → ((key : List ℕ) → id ≡ key → P (key, c) → P (key, d)) → AllByRecursion P xs → AllByRecursion P (set_value (bytes_eq id) xs d)
  all_replaced P [] c d e change h = tt
  all_replaced P (x ∷ xs) c d e change h = split x
      (λ t. subst (λ b. AllByRecursion P (cond b ((x.0, d) ∷ xs) (x ∷ set_value (bytes_eq id) xs d))) (sym t)
      (change x.0 (same_id id x.0 t) (subst (λ (y : ContainerState). P (x.0, y)) (here x xs c t e) h.0), h.1))
      (λ t. subst (λ b. AllByRecursion P (cond b ((x.0, d) ∷ xs) (x ∷ set_value (bytes_eq id) xs d))) (sym t)
      (h.0, all_replaced P xs c d (sym (later x xs t) ∙ e) change h.1))

  -- what holds of each, and of each two, holds of those that are left once one is removed
  pub each_left : (P : List ℕ × ContainerState → Type 0) (xs : Entries) → AllByRecursion P xs → AllByRecursion P (remove_entry (bytes_eq id) xs)
  each_left P [] h = tt
  each_left P (x ∷ xs) h = split x
      (λ t. subst (AllByRecursion P) (sym (out_here x xs t)) h.1)
      (λ t. subst (AllByRecursion P) (sym (out_later x xs t)) (h.0, each_left P xs h.1))

  pub all_left : (P : Owner → Type 0) (xs : Entries) → AllByRecursion P (owners_of xs) → AllByRecursion P (owners_of (remove_entry (bytes_eq id) xs))
  all_left P xs h = all_of_map owner_of P (remove_entry (bytes_eq id) xs) (each_left (λ e. P (owner_of e)) xs (of_all_map owner_of P xs h))

  pub pairs_left : (R : Owner → Owner → Type 0) (xs : Entries) → Pairwise R (owners_of xs) → Pairwise R (owners_of (remove_entry (bytes_eq id) xs))
  pairs_left R [] h = tt
  pairs_left R (x ∷ xs) h = split x
      (λ t. subst (λ (ys : Entries). Pairwise R (owners_of ys)) (sym (out_here x xs t)) h.1)
      (λ t. subst (λ (ys : Entries). Pairwise R (owners_of ys)) (sym (out_later x xs t)) (all_left (R (owner_of x)) xs h.0, pairs_left R xs h.1))

  -- those that are left have other ids
  pub left_others : (xs : Entries) (c : ContainerState) → lookup (bytes_eq id) xs ≡ Some c → Pairwise HaveOtherIds (owners_of xs)
      → AllByRecursion (λ o. bytes_eq id o.id ≡ false) (owners_of (remove_entry (bytes_eq id) xs))
  left_others [] c e h = absurd (none-some c e)
  left_others (x ∷ xs) c e h = split x
      (λ t. subst (λ (ys : Entries). AllByRecursion (λ o. bytes_eq id o.id ≡ false) (owners_of ys)) (sym (out_here x xs t))
      (subst (λ y. AllByRecursion (λ o. bytes_eq y o.id ≡ false) (owners_of xs)) (sym (same_id id x.0 t)) h.0))
      (λ t. subst (λ (ys : Entries). AllByRecursion (λ o. bytes_eq id o.id ≡ false) (owners_of ys)) (sym (out_later x xs t))
      (t, left_others xs c (sym (later x xs t) ∙ e) h.1))

  -- a process that is owned is owned by the one that is removed, or by one that is left
  pub owned_split : (p : Process) (xs : Entries) (c : ContainerState) → lookup (bytes_eq id) xs ≡ Some c → IsOwned p (owners_of xs)
      → ((p.group ≡ c.group) × (p.first ≡ c.pid)) ⊎ IsOwned p (owners_of (remove_entry (bytes_eq id) xs))
  owned_split p [] c e h = inr h
  owned_split p (x ∷ xs) c e h = split x
      (λ t. elim h [
        | inl own ↦
            let same : x.1 ≡ c = here x xs c t e in
            inl (own.0 ∙ ap (λ (y : ContainerState). y.group) same, own.1 ∙ ap (λ (y : ContainerState). y.pid) same)
        | inr on ↦ inr (subst (λ (ys : Entries). IsOwned p (owners_of ys)) (sym (out_here x xs t)) on)
      ])
      (λ t.
      let back : IsOwned p (owner_of x ∷ owners_of (remove_entry (bytes_eq id) xs)) → IsOwned p (owners_of (remove_entry (bytes_eq id) (x ∷ xs))) =
      λ o. subst (λ (ys : Entries). IsOwned p (owners_of ys)) (sym (out_later x xs t)) o in
      elim h [
        | inl own ↦ inr (back (inl own))
        | inr on ↦ elim (owned_split p xs c (sym (later x xs t) ∙ e) on) [ inl own ↦ inl own | inr rest ↦ inr (back (inr rest)) ]
      ])

-- one more container, added to what the texts' making left
pub appended : (xs es ys : List (String Global × Container)) (item : List ℕ × ContainerState) → all_seen ys ≡ all_seen xs ++ item ∷ [] → xs ≡ es → all_seen ys ≡ all_seen es ++ item ∷ []
appended xs es ys item more same = more ∙ ap (λ (zs : List (String Global × Container)). all_seen zs ++ item ∷ []) same
