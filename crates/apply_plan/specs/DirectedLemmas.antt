-- What an entry is allowed, by its place among the entries.
use Rattle.std.proofs.Common.{◌≡◌, ℕ, zero, suc, ◌<◌, length, get_or, Bool, List, [], ◌∷◌, refl, sym, ap, ◌∙◌, subst, arith}
use Rattle.std.proofs.lemmas.Bool.{false≢true}
use Rattle.std.specs.Prelude.{cond, find, Some}
use Rattle.std.specs.List.{AllByRecursion}
use Rattle.std.specs.FinSet as set
use Rattle.cpu_set.specs.Ids.{Ids}
use Rattle.cpu_set.specs.Members.{InRange}
use Rattle.cpu_set.specs.PointwiseLaws.{contains-empty}
use Rattle.cpuset_tree.specs.Groups.{same_group}
use Rattle.cpuset_tree.specs.GroupLemmas.{same_group_sym, same_group_itself}
use Rattle.apply_plan.specs.declared.entry.Entry.{Entry}
use Rattle.apply_plan.specs.Holders.{Pairwise}
use Rattle.apply_plan.specs.Targets.{HaveOtherGroups}
use Rattle.apply_plan.specs.ListLemmas.{all_at}
use Rattle.apply_plan.specs.WriteLemmas.{by_test}
use Rattle.apply_plan.specs.Directed.{allowed_in}

-- an entry is found by its group
pub found_at : (entries : List Entry) (i : ℕ) (e : Entry) → Pairwise HaveOtherGroups entries → i < length entries → e ≡ get_or entries i e
    → find (λ a. same_group e.group a.group) entries ≡ Some e
found_at [] i e groups within at = absurd (omega arith)
found_at (x ∷ xs) zero e groups within at =
    ap (λ b. cond b (Some x) (find (λ a. same_group e.group a.group) xs)) (ap (λ (z : Entry). same_group e.group z.group) (sym at) ∙ same_group_itself e.group) ∙ ap Some (sym at)
found_at (x ∷ xs) (suc i) e groups within at =
    ap (λ b. cond b (Some x) (find (λ a. same_group e.group a.group) xs)) (same_group_sym e.group x.group ∙ all_at (HaveOtherGroups x) xs i e groups.0 (omega arith) at)
    ∙ found_at xs i e groups.1 (omega arith) at

-- and what it is allowed stands at its place
pub allowed_here : (entries : List Entry) (sets : List Ids) (i : ℕ) (e : Entry) → Pairwise HaveOtherGroups entries → i < length entries → e ≡ get_or entries i e
    → allowed_in entries sets e ≡ get_or sets i set.empty
allowed_here [] sets i e groups within at = absurd (omega arith)
allowed_here (x ∷ xs) [] i e groups within at = refl
allowed_here (x ∷ xs) (s ∷ ss) zero e groups within at =
    ap (λ b. cond b s (allowed_in xs ss e)) (ap (λ (z : Entry). same_group x.group z.group) at ∙ same_group_itself x.group)
allowed_here (x ∷ xs) (s ∷ ss) (suc i) e groups within at =
    ap (λ b. cond b s (allowed_in xs ss e)) (all_at (HaveOtherGroups x) xs i e groups.0 (omega arith) at) ∙ allowed_here xs ss i e groups.1 (omega arith) at

-- what is allowed is below the limit
pub allowed_range : (entries : List Entry) (sets : List Ids) (e : Entry) → AllByRecursion InRange sets → InRange (allowed_in entries sets e)
allowed_range [] sets e ranged = λ q m. absurd (false≢true (sym (contains-empty q) ∙ m))
allowed_range (x ∷ xs) [] e ranged = λ q m. absurd (false≢true (sym (contains-empty q) ∙ m))
allowed_range (x ∷ xs) (s ∷ ss) e ranged = by_test (same_group x.group e.group)
    (λ same. subst (λ (b : Bool). InRange (cond b s (allowed_in xs ss e))) (sym same) ranged.0)
    (λ other. subst (λ (b : Bool). InRange (cond b s (allowed_in xs ss e))) (sym other) (allowed_range xs ss e ranged.1))
