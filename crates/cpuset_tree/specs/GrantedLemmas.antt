-- What is granted of a set, by the test that the program makes.
use Rattle.std.proofs.Common.{◌≡◌, true, ◌&&◌, sym, ap, ◌∙◌, eq-eqb}
use Rattle.std.proofs.lemmas.Bool.{ne_eqb, cond-true, cond-false}
use Rattle.std.specs.Ordering.{nat_cmp}
use Rattle.std.specs.Cmp.{nat_cmp_total}
use Rattle.std.specs.FinSet as set
use Rattle.cpu_set.specs.Ids.{Ids, is_empty}
use Rattle.cpuset_tree.specs.Effective.{granted}

pub is_empty-empty : is_empty set.empty ≡ true
is_empty-empty = eq-eqb _ _ (set.len-empty nat_cmp)

-- nothing of the parent's is requested
pub granted_all : (requested above : Ids) → set.intersection requested above ≡ set.empty → granted requested above ≡ above
granted_all requested above e = cond-true (is_empty (set.intersection requested above)) above (set.intersection requested above) (ap is_empty e ∙ is_empty-empty)

-- something of the parent's is requested
pub granted_part : (requested above : Ids) → (set.intersection requested above ≡ set.empty → ⊥) → granted requested above ≡ set.intersection requested above
granted_part requested above ne = cond-false (is_empty (set.intersection requested above)) above (set.intersection requested above) (ne_eqb _ _ (λ e. ne (set.empty_of_len (set.intersection requested above) e)))

-- where nothing is requested, all is granted
pub granted-empty : (above : Ids) → granted set.empty above ≡ above
granted-empty above = granted_all set.empty above (set.same_set nat_cmp_total set.nat_cmp-IsAntisymmetric (set.intersection set.empty above) set.empty (λ n. set.contains-intersection nat_cmp_total set.empty above n ∙ ap (λ b. b && set.contains above n) (set.contains-empty nat_cmp n) ∙ sym (set.contains-empty nat_cmp n)))
