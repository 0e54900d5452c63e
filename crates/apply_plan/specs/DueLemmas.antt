-- Which write is due, case by case.
use Rattle.std.proofs.Common.{◌≡◌, ℕ, ◌+◌, ◌<◌, Bool, true, false, not, ◌&&◌, List, ◌∷◌, drop, get_or, length, refl, sym, ap, ◌∙◌}
use Rattle.std.proofs.lemmas.Bool.{false≢true}
use Rattle.std.proofs.lemmas.List.{drop_more}
use Rattle.std.proofs.lemmas.Option.{none-some}
use Rattle.std.specs.Prelude.{cond, find, Option, Some, None, IfSome, is_none, is_some, option_map}
use Rattle.std.specs.Option.{option_or}
use Rattle.cpu_set.specs.Ids.{Ids, is_empty, is_same}
use Rattle.cpu_set.specs.PointwiseLaws.{is_same_decides}
use Rattle.proctable.specs.Processes.{is_alive}
use Rattle.kernel_model.specs.KernelState.{KernelState}
use Rattle.apply_plan.specs.declared.entry.Entry.{Entry}
use Rattle.apply_plan.specs.declared.scan.Write.{Write}
use Rattle.apply_plan.specs.Targets.{HaveSomeTarget, IsPlaced, ArePlaced}
use Rattle.apply_plan.specs.Kept.{kept}
use Rattle.apply_plan.specs.KeptLemmas.{kept_target}
use Rattle.apply_plan.specs.DueWrite.{held, kept_of, must_release, must_move, release_of, move_of, first_write, due_write}
use Rattle.apply_plan.specs.Walks.{release_from, its_release}
use Rattle.apply_plan.specs.ListLemmas.{all_map2, find_among, find_none, none_found}

-- an entry lets go, or none must and one takes its target, or nothing is due
pub data Due (k : KernelState) (reserved : Ids) (entries : List Entry) : Option Write → Type 0 where
  Releases : (e : Entry) → find (must_release k reserved) entries ≡ Some e → Due k reserved entries (Some (release_of k reserved e))
  Moves : (e : Entry) → find (must_release k reserved) entries ≡ None → find (must_move k) entries ≡ Some e → Due k reserved entries (Some (move_of e))
  Rests : find (must_release k reserved) entries ≡ None → find (must_move k) entries ≡ None → Due k reserved entries None

pub due_is : (k : KernelState) (reserved : Ids) (entries : List Entry) → Due k reserved entries (due_write k reserved entries)
due_is k reserved entries = by (find (must_release k reserved) entries) (find (must_move k) entries) refl refl where
  by : (r m : Option Entry) → find (must_release k reserved) entries ≡ r → find (must_move k) entries ≡ m → Due k reserved entries (first_write k reserved r m)
  by (Some e) m r_is m_is = Releases e r_is
  by None (Some e) r_is m_is = Moves e r_is m_is
  by None None r_is m_is = Rests r_is m_is

-- the group of a write that is due is placed
pub due_is_placed : (k : KernelState) (reserved : Ids) (entries : List Entry) → ArePlaced k entries → IfSome (due_write k reserved entries) (λ w. IsPlaced k w.group)
due_is_placed k reserved entries placed = by (due_write k reserved entries) (due_is k reserved entries) where
  by : (d : Option Write) → Due k reserved entries d → IfSome d (λ w. IsPlaced k w.group)
  by d (Releases e found) = find_among (must_release k reserved) (λ a. IsPlaced k a.group) entries e placed found
  by d (Moves e none found) = find_among (must_move k) (λ a. IsPlaced k a.group) entries e placed found
  by d (Rests r m) = tt

-- a container that holds its target need not move
pub holds_its_target : (k : KernelState) (e : Entry) → is_same (held k e) e.target ≡ true → must_move k e ≡ false
holds_its_target k e same = ap (λ b. is_alive k.table e.pid && not b) same ∙ none_at (is_alive k.table e.pid) where
  none_at : (lives : Bool) → (lives && false) ≡ false
  none_at true = refl
  none_at false = refl

-- and it has nothing to let go
pub keeps_its_target : (k : KernelState) (reserved : Ids) (e : Entry) → is_empty e.target ≡ false → must_move k e ≡ false → must_release k reserved e ≡ false
keeps_its_target k reserved e some stays = by (is_alive k.table e.pid) (is_same (held k e) e.target) refl refl where
  is_kept : held k e ≡ e.target → is_same (kept_of k reserved e) (held k e) ≡ true
  is_kept at = (is_same_decides _ _).1 (ap (kept reserved e.target) at ∙ kept_target reserved e.target some ∙ sym at)

  by : (a s : Bool) → is_alive k.table e.pid ≡ a → is_same (held k e) e.target ≡ s → must_release k reserved e ≡ false
  by false s dead is = ap (λ a. a && not (is_same (kept_of k reserved e) (held k e))) dead
  by true true lives is =
      ap (λ s. is_alive k.table e.pid && not s) (is_kept ((is_same_decides _ _).0 is)) ∙ ap (λ a. a && false) lives
  by true false lives is = absurd (false≢true (sym stays ∙ (λ i. lives i && not (is i))))

-- one that was asked first or last, and is not told to have ended, lives
pub lives_if_asked : (first lives : Bool) → (first && not lives) ≡ false → (not first && not lives) ≡ false → lives ≡ true
lives_if_asked first true a b = refl
lives_if_asked true false a b = absurd (false≢true (sym a))
lives_if_asked false false a b = absurd (false≢true (sym b))

-- a live container that does not hold its target must move
pub must_move_if_alive : (k : KernelState) (e : Entry) → is_alive k.table e.pid ≡ true → is_same (held k e) e.target ≡ false → must_move k e ≡ true
must_move_if_alive k e lives other = ap (λ a. a && not (is_same (held k e) e.target)) lives ∙ ap not other

-- and one that is told to let nothing go must not
pub lets_go_nothing : (k : KernelState) (reserved : Ids) (e : Entry) → None ≡ release_from reserved e (held k e) → must_release k reserved e ≡ false
lets_go_nothing k reserved e none = by (is_same (kept_of k reserved e) (held k e)) refl where
  none_at : (lives : Bool) → (lives && false) ≡ false
  none_at true = refl
  none_at false = refl

  by : (b : Bool) → is_same (kept_of k reserved e) (held k e) ≡ b → must_release k reserved e ≡ false
  by true same = ap (λ b. is_alive k.table e.pid && not b) same ∙ none_at (is_alive k.table e.pid)
  by false other = absurd (none-some (release_of k reserved e) (none ∙ ap (λ b. cond (not b) (Some (release_of k reserved e)) None) other))

-- a container that keeps all that it requests has nothing to let go
pub lets_none_go : (k : KernelState) (reserved : Ids) (e : Entry) → kept_of k reserved e ≡ held k e → must_release k reserved e ≡ false
lets_none_go k reserved e keeps = ap (λ b. is_alive k.table e.pid && not b) ((is_same_decides _ _).1 keeps) ∙ none_at (is_alive k.table e.pid) where
  none_at : (lives : Bool) → (lives && false) ≡ false
  none_at true = refl
  none_at false = refl

pub keeps_all_of_it : (k : KernelState) (reserved : Ids) (e : Entry) → kept_of k reserved e ≡ held k e → its_release k reserved e ≡ None
keeps_all_of_it k reserved e keeps =
    ap (λ b. cond (is_alive k.table e.pid && not b) (Some (release_of k reserved e)) None) ((is_same_decides _ _).1 keeps)
    ∙ none_at (is_alive k.table e.pid)
  where
    none_at : (lives : Bool) → cond (lives && false) (Some (release_of k reserved e)) None ≡ None
    none_at true = refl
    none_at false = refl

-- a live container lets go of what it holds, and one that has ended does not
pub release_if_alive : (k : KernelState) (reserved : Ids) (e : Entry) → is_alive k.table e.pid ≡ true → release_from reserved e (held k e) ≡ its_release k reserved e
release_if_alive k reserved e lives = ap (λ a. cond (a && not (is_same (kept_of k reserved e) (held k e))) (Some (release_of k reserved e)) None) (sym lives)

pub no_release_if_dead : (k : KernelState) (reserved : Ids) (e : Entry) → is_alive k.table e.pid ≡ false → its_release k reserved e ≡ None
no_release_if_dead k reserved e dead = ap (λ a. cond (a && not (is_same (kept_of k reserved e) (held k e))) (Some (release_of k reserved e)) None) dead

-- where there is one, there is one once it is mapped
pub some_mapped : {A B : Type 0} (f : A → B) (o : Option A) → is_some o ≡ true → is_some (option_map f o) ≡ true
some_mapped f (Some x) some = refl
some_mapped f None some = absurd (false≢true some)

-- where one was found, the others are not asked
pub found_stays : (found : Option Entry) (a b : Option Entry) → is_some found ≡ true → option_or found a ≡ option_or found b
found_stays (Some e) a b some = refl
found_stays None a b some = absurd (false≢true some)

-- an entry that does not pass is passed over
pub passed_over : (test : Entry → Bool) (entries : List Entry) (i : ℕ) (e : Entry) → i < length entries → e ≡ get_or entries i e → test e ≡ false
    → find test (drop i entries) ≡ find test (drop (i + 1) entries)
passed_over test entries i e within at fails =
    ap (find test) (drop_more entries i e within ∙ ap (λ x. x ∷ drop (i + 1) entries) (sym at))
    ∙ ap (λ b. cond b (Some e) (find test (drop (i + 1) entries))) fails

-- and one that passes is found
pub found_here : (test : Entry → Bool) (entries : List Entry) (i : ℕ) (e : Entry) → i < length entries → e ≡ get_or entries i e → test e ≡ true
    → find test (drop i entries) ≡ Some e
found_here test entries i e within at passes =
    ap (find test) (drop_more entries i e within ∙ ap (λ x. x ∷ drop (i + 1) entries) (sym at))
    ∙ ap (λ b. cond b (Some e) (find test (drop (i + 1) entries))) passes

-- where each live container holds its target nothing is due
pub nothing_is_due : (k : KernelState) (reserved : Ids) (entries : List Entry) → HaveSomeTarget entries → is_none (find (must_move k) entries) ≡ true
    → due_write k reserved entries ≡ None
nothing_is_due k reserved entries some arrived = (λ i. first_write k reserved (no_release i) (no_move i)) where
  none_of : (m : Option Entry) → is_none m ≡ true → m ≡ None
  none_of None e = refl
  none_of (Some e) is = absurd (false≢true is)

  no_move : find (must_move k) entries ≡ None
  no_move = none_of _ arrived

  no_release : find (must_release k reserved) entries ≡ None
  no_release =
      none_found (must_release k reserved) entries
      (all_map2 (λ e. is_empty e.target ≡ false) (λ e. must_move k e ≡ false) (λ e. must_release k reserved e ≡ false)
      (λ e. keeps_its_target k reserved e) entries some (find_none (must_move k) entries no_move))

-- where none of the entries before this one must let go and this one must, its write is due
pub release_is_due : (k : KernelState) (reserved : Ids) (entries : List Entry) (i : ℕ) (e : Entry) (w : Write) → i < length entries → e ≡ get_or entries i e
    → find (must_release k reserved) (drop i entries) ≡ find (must_release k reserved) entries
    → Some w ≡ its_release k reserved e → Some w ≡ due_write k reserved entries
release_is_due k reserved entries i e w within at same = by (must_release k reserved e) refl where
  rest : List Entry
  rest = drop (i + 1) entries

  from_here : drop i entries ≡ e ∷ rest
  from_here = drop_more entries i e within ∙ ap (λ x. x ∷ rest) (sym at)

  by : (b : Bool) → must_release k reserved e ≡ b → Some w ≡ cond b (Some (release_of k reserved e)) None → Some w ≡ due_write k reserved entries
  by false stays is = absurd (none-some w (sym is))
  by true must is =
      is ∙ ap (λ r. first_write k reserved r (find (must_move k) entries))
      (sym (sym same ∙ ap (find (must_release k reserved)) from_here ∙ ap (λ b. cond b (Some e) (find (must_release k reserved) rest)) must))
