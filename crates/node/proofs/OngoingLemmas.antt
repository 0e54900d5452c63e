-- What a change of the kernel leaves of a hand-over that is open, and what its entries and the containers tell of each other.
use Rattle.std.proofs.Common.{◌≡◌, inl, inr, Bool, true, false, List, [], ◌∷◌, Option, Some, None, refl, sym, ap, ◌∙◌, subst}
use Rattle.std.proofs.lemmas.Bool.{false≢true}
use Rattle.std.specs.Prelude.{map}
use Rattle.std.specs.List.{AllByRecursion}
use Rattle.std.specs.FinSet as set
use Rattle.cpu_set.specs.Ids.{Ids}
use Rattle.cpuset_tree.specs.Groups.{requested_cpus}
use Rattle.proctable.specs.TableState.{TableState}
use Rattle.proctable.specs.Processes.{is_alive}
use Rattle.kernel_model.specs.KernelState.{KernelState}
use Rattle.apply_plan.specs.declared.Entry.{Entry}
use Rattle.apply_plan.specs.Holders.{Holder, Pairwise, AreApart, HasSome, IsSafe}
use Rattle.apply_plan.specs.Kept.{kept}
use Rattle.apply_plan.specs.Targets.{holder_of, holders_of}
use Rattle.apply_plan.specs.DueWrite.{held}
use Rattle.apply_plan.specs.Directed.{allowed_of}
use Rattle.node.specs.declared.order.Order.{Order}
use Rattle.node.specs.declared.order.Order.TheVariants.{InTurn, Directly}
use Rattle.node.specs.NodeState.{Ongoing}
use Rattle.node.specs.Orders.{directed_of}
use Rattle.node.specs.Owners.{Owner}
use Rattle.node.specs.Ongoing.{AreOf, IsSince, IsOnWay, AreSince, IsOngoing, Stands}
use Rattle.node.proofs.ListLemmas.{all_of, all_map, zip_map, all_of_map, of_all_map, pairs_of_map, of_pairs_map}
use Rattle.node.proofs.HoldsLemmas.{EachKept, of_safe, to_safe}

abbrev Dead : KernelState → Holder → Type 0
Dead k h = is_alive k.table h.pid ≡ false

module _ (k : KernelState) where
  -- what holds of each container holds of each entry, and what holds of each two of each two
  pub of_entries : (P : Holder → Type 0) (entries : List Entry) (owners : List Owner) → AreOf k entries owners → AllByRecursion (λ o. P o.holder) owners
      → AllByRecursion (λ e. P (holder_of e)) entries
  of_entries P entries [] of h = subst (λ (es : List Entry). AllByRecursion (λ e. P (holder_of e)) es) (sym of) tt
  of_entries P entries (o ∷ owners) of h =
      elim of [
        | inl leads ↦
            subst (λ (es : List Entry). AllByRecursion (λ e. P (holder_of e)) es) (sym leads.is)
            (subst P (sym leads.of) h.0, of_entries P leads.later owners leads.rest h.1)
        | inr dead ↦ of_entries P entries owners dead.1 h.1
      ]

  pub pairs_of_entries : (R : Holder → Holder → Type 0) (entries : List Entry) (owners : List Owner) → AreOf k entries owners
      → Pairwise (λ a b. R a.holder b.holder) owners → Pairwise (λ a b. R (holder_of a) (holder_of b)) entries
  pairs_of_entries R entries [] of h = subst (λ (es : List Entry). Pairwise (λ a b. R (holder_of a) (holder_of b)) es) (sym of) tt
  pairs_of_entries R entries (o ∷ owners) of h =
      elim of [
        | inl leads ↦
            subst (λ (es : List Entry). Pairwise (λ a b. R (holder_of a) (holder_of b)) es) (sym leads.is) (
              of_entries (R (holder_of leads.entry)) leads.later owners leads.rest (subst (λ x. AllByRecursion (λ b. R x b.holder) owners) (sym leads.of) h.0),
              pairs_of_entries R leads.later owners leads.rest h.1,
            )
        | inr dead ↦ pairs_of_entries R entries owners dead.1 h.1
      ]

  -- and back, where it holds of what is dead
  pub of_owners : (P : Holder → Type 0) → ((h : Holder) → Dead k h → P h) → (entries : List Entry) (owners : List Owner) → AreOf k entries owners
      → AllByRecursion (λ e. P (holder_of e)) entries → AllByRecursion (λ o. P o.holder) owners
  of_owners P void entries [] of h = tt
  of_owners P void entries (o ∷ owners) of h =
      elim of [
        | inl leads ↦
            let each = subst (λ (es : List Entry). AllByRecursion (λ e. P (holder_of e)) es) leads.is h in
            (subst P leads.of each.0, of_owners P void leads.later owners leads.rest each.1)
        | inr dead ↦ (void o.holder dead.0, of_owners P void entries owners dead.1 h)
      ]

  pub pairs_of_owners : (R : Holder → Holder → Type 0) → ((a b : Holder) → Dead k a → R a b) → ((a b : Holder) → Dead k b → R a b)
      → (entries : List Entry) (owners : List Owner) → AreOf k entries owners → Pairwise (λ a b. R (holder_of a) (holder_of b)) entries
      → Pairwise (λ a b. R a.holder b.holder) owners
  pairs_of_owners R first second entries [] of h = tt
  pairs_of_owners R first second entries (o ∷ owners) of h =
      elim of [
        | inl leads ↦
            let each = subst (λ (es : List Entry). Pairwise (λ a b. R (holder_of a) (holder_of b)) es) leads.is h in (
              of_owners (R o.holder) (λ b dead. second o.holder b dead) leads.later owners leads.rest
                  (subst (λ x. AllByRecursion (λ b. R x (holder_of b)) leads.later) leads.of each.0),
              pairs_of_owners R first second leads.later owners leads.rest each.1,
            )
        | inr dead ↦
            (all_of (λ b. R o.holder b.holder) (λ b. first o.holder b.holder dead.0) owners, pairs_of_owners R first second entries owners dead.1 h)
      ]

  -- so what the containers request is safe where what the entries request is
  module _ (reserved : Ids) (entries : List Entry) (owners : List Owner) (of : AreOf k entries owners) where
    pub entries_safe : IsSafe k reserved (map (λ o. o.holder) owners) → IsSafe k reserved (holders_of entries)
    entries_safe h =
        let safe = of_safe k reserved owners h in
        record {
          apart = pairs_of_map holder_of (AreApart k reserved (requested_cpus k.tree)) entries
              (pairs_of_entries (AreApart k reserved (requested_cpus k.tree)) entries owners of safe.apart);
          some = all_of_map holder_of (HasSome k (requested_cpus k.tree)) entries (of_entries (HasSome k (requested_cpus k.tree)) entries owners of safe.some);
        }

    pub owners_safe : IsSafe k reserved (holders_of entries) → IsSafe k reserved (map (λ o. o.holder) owners)
    owners_safe h =
        to_safe k reserved owners (record {
          apart = pairs_of_owners (AreApart k reserved (requested_cpus k.tree)) (λ a b dead la lb. absurd (false≢true (sym dead ∙ la)))
              (λ a b dead la lb. absurd (false≢true (sym dead ∙ lb))) entries owners of
              (of_pairs_map holder_of (AreApart k reserved (requested_cpus k.tree)) entries h.apart);
          some = of_owners (HasSome k (requested_cpus k.tree)) (λ a dead live. absurd (false≢true (sym dead ∙ live))) entries owners of
              (of_all_map holder_of (HasSome k (requested_cpus k.tree)) entries h.some);
        })

module _ (old new : KernelState) where
  -- who was dead stays so
  abbrev Dies : Owner → Type 0
  Dies o = is_alive new.table o.holder.pid ≡ true → is_alive old.table o.holder.pid ≡ true

  still_dead : (o : Owner) → Dies o → Dead old o.holder → Dead new o.holder
  still_dead o dies dead = by (is_alive new.table o.holder.pid) refl where
    by : (b : Bool) → is_alive new.table o.holder.pid ≡ b → is_alive new.table o.holder.pid ≡ false
    by true live = absurd (false≢true (sym dead ∙ dies live))
    by false f = f

  -- whose the entries are
  pub still_of : (entries : List Entry) (owners : List Owner) → AllByRecursion Dies owners → AreOf old entries owners → AreOf new entries owners
  still_of entries [] h of = of
  still_of entries (o ∷ owners) h of =
      elim of [
        | inl leads ↦ inl (record { entry = leads.entry; later = leads.later; is = leads.is; of = leads.of; rest = still_of leads.later owners h.1 leads.rest })
        | inr dead ↦ inr (still_dead o h.0 dead.0, still_of entries owners h.1 dead.1)
      ]

  pub same_of : new.table ≡ old.table → (entries : List Entry) (owners : List Owner) → AreOf old entries owners → AreOf new entries owners
  same_of same entries owners of =
      still_of entries owners (all_of Dies (λ o live. ap (λ (t : TableState). is_alive t o.holder.pid) (sym same) ∙ live) owners) of

  -- what the entries request, since the hand-over began
  still_since : (reserve : new.reserved ≡ old.reserved) (e : Entry) (found : Ids) → held new e ≡ held old e → IsSince old old.reserved e found → IsSince new new.reserved e found
  still_since reserve e found same (inl x) = inl (same ∙ x)
  still_since reserve e found same (inr (inl x)) = inr (inl (same ∙ x ∙ ap (λ r. kept r e.target found) (sym reserve)))
  still_since reserve e found same (inr (inr x)) = inr (inr (same ∙ x))

  still_on_way : (reserve : new.reserved ≡ old.reserved) (allowed : Ids) (e : Entry) (found : Ids) → held new e ≡ held old e
      → IsOnWay old old.reserved allowed e found → IsOnWay new new.reserved allowed e found
  still_on_way reserve allowed e found same way =
      subst (λ r. IsOnWay new r allowed e found) (sym reserve) (record {
        keeps = λ q f t. ap (λ s. set.contains s q) same ∙ way.keeps q f t;
        within = λ q x. way.within q (ap (λ s. set.contains s q) (sym same) ∙ x);
      })

  all_since : (order : Order) (o : Ongoing) → new.reserved ≡ old.reserved → AllByRecursion (λ e. held new e ≡ held old e) o.targets.entries
      → AreSince order old o → AreSince order new o
  all_since InTurn o reserve same since =
      zip_map (λ e. held new e ≡ held old e) (IsSince old old.reserved) (IsSince new new.reserved) (λ e found s i. still_since reserve e found s i)
      o.targets.entries o.requested_at_begin same since
  all_since Directly o reserve same since =
      zip_map (λ e. held new e ≡ held old e) (λ e found. IsOnWay old old.reserved (allowed_of (directed_of o) e) e found)
      (λ e found. IsOnWay new new.reserved (allowed_of (directed_of o) e) e found) (λ e found s i. still_on_way reserve (allowed_of (directed_of o) e) e found s i)
      o.targets.entries o.requested_at_begin same since

  -- where each container's group requests what it did, and who lives lived before, the hand-over stays open
  module _ (owners : List Owner) (reserve : new.reserved ≡ old.reserved) (each : AllByRecursion (EachKept old new) owners) where
    pub still_ongoing : (o : Ongoing) → IsOngoing old owners o → IsOngoing new owners o
    still_ongoing o h = record {
      handover = h.handover;
      reserved = h.reserved ∙ sym reserve;
      of = still_of o.targets.entries owners (all_map (EachKept old new) Dies (λ x c. c.dies) owners each) h.of;
      ranged = h.ranged;
      since = all_since o.order o reserve
          (of_entries old (λ x. requested_cpus new.tree x.group ≡ requested_cpus old.tree x.group) o.targets.entries owners h.of
          (all_map (EachKept old new) (λ x. requested_cpus new.tree x.holder.group ≡ requested_cpus old.tree x.holder.group) (λ x c. c.requested) owners each))
          h.since;
    }

    pub still_stands : (underway : Bool) (ongoing : Option Ongoing) → Stands old owners underway ongoing → Stands new owners underway ongoing
    still_stands underway (Some o) s = (s.0, still_ongoing o s.1)
    still_stands underway None s = s

-- where none is open, none is of others and of another kernel
module _ (k : KernelState) (owners : List Owner) (underway : Bool) (settled : underway ≡ false) where
  pub none_open : (ongoing : Option Ongoing) → Stands k owners underway ongoing → ongoing ≡ None
  none_open (Some o) s = absurd (false≢true (sym settled ∙ s.0))
  none_open None s = refl

  pub none_stands : (ongoing : Option Ongoing) → Stands k owners underway ongoing → (new : KernelState) (others : List Owner) → Stands new others underway ongoing
  none_stands (Some o) s new others = absurd (false≢true (sym settled ∙ s.0))
  none_stands None s new others = settled
