-- The rows of a node are of numbers and sets that their types hold.
use Rattle.std.proofs.Common.{◌≡◌, ℕ, Bool, true, false, cond, ◌||◌, List, [], ◌∷◌, Some, is_some, option_map, refl, sym, ap, ◌∙◌, subst, arith}
use Rattle.std.proofs.lemmas.List.Elements.{All-from_recursion}
use Rattle.std.specs.Prelude.{find, IsTrue}
use Rattle.std.specs.List.{All, AllByRecursion, AllZip}
use Rattle.std.specs.FinSet as set
use Rattle.cpu_set.specs.Members.{InRange, IsCpu}
use Rattle.certificate.specs.AreWithin.{IsRowWithin, RowsFitMeans}
use Rattle.certificate.specs.Limits.{rows_fit}
use Rattle.certificate.specs.RowView.{RowView}
use Rattle.certificate.specs.Weight.{weight, weight_in}
use Rattle.certificate.specs.declared.Offer.{Offer}
use Rattle.certificate_text.specs.Written.{IsRowHeld}
use Rattle.rows.specs.Scaled.{ScaledRowsWeigh}
use Rattle.rows.specs.Weighs.{RowsWeigh}
use Rattle.node.specs.NodeState.{NodeState}
use Rattle.node.specs.IsNode.{IsNode}
use Rattle.node.specs.Rows.{scaled_rows_of}
use Rattle.node.specs.Best.{asking}
use Rattle.node.specs.Asking.{is_open, moving_weight}
use Rattle.node.proofs.AskingLemmas.{open_lowest, scaled_are_weighed}
use Rattle.node.proofs.DistanceLemmas.{Container, IsWeighed, offers}
use Rattle.node.proofs.ListLemmas.{all_map}

-- each CPU of the offer has a weight among all of these
abbrev HasWeight : List Offer → Offer → Type 0
HasWeight all o = (cpu : ℕ) → set.contains o.cpus cpu ≡ true → is_some (weight_in all cpu) ≡ true

later_weight : (x : Offer) (all : List Offer) (o : Offer) → HasWeight all o → HasWeight (x ∷ all) o
later_weight x all o has cpu there = by (set.contains x.cpus cpu) (has cpu there) where
  by : (b : Bool) → is_some (weight_in all cpu) ≡ true
      → is_some (option_map (λ (p : Offer). p.weight) (cond b (Some x) (find (λ (p : Offer). set.contains p.cpus cpu) all))) ≡ true
  by true some = refl
  by false some = some

first_weight : (x : Offer) (all : List Offer) → HasWeight (x ∷ all) x
first_weight x all cpu there =
    ap (λ b. is_some (option_map (λ (p : Offer). p.weight) (cond b (Some x) (find (λ (p : Offer). set.contains p.cpus cpu) all)))) there

have_weights : (all : List Offer) → AllByRecursion (HasWeight all) all
have_weights [] = tt
have_weights (x ∷ all) = (first_weight x all, all_map (HasWeight all) (HasWeight (x ∷ all)) (later_weight x all) all (have_weights all))

-- offers of CPU numbers alone
abbrev OffersInRange : RowView → Type 0
OffersInRange row = AllByRecursion (λ (o : Offer). InRange o.cpus) row.offers

offers_in : (row : RowView) → ((cpu : ℕ) → is_some (weight row cpu) ≡ true → IsCpu cpu) → OffersInRange row
offers_in row numbers =
    all_map (HasWeight row.offers) (λ (o : Offer). InRange o.cpus) (λ o has cpu there. numbers cpu (has cpu there)) row.offers (have_weights row.offers)

module _ (n : NodeState) (h : IsNode n) where
  -- what a container may have are CPUs of the machine
  open_in : (e : Container) (core : ℕ) → is_open n.kernel n.machine core e ≡ true → IsCpu core
  open_in e core may = h.layout.in_range core (open_lowest n h core (e ∷ []) (ap (λ b. b || false) may)).0

  rows_in : (rows : List RowView) (es : List Container) → AllZip (IsWeighed n.kernel n.machine (moving_weight n.kernel n.machine)) rows es
      → AllByRecursion OffersInRange rows
  rows_in [] [] zip = tt
  rows_in [] (e ∷ es) zip = absurd zip
  rows_in (row ∷ rows) [] zip = absurd zip
  rows_in (row ∷ rows) (e ∷ es) zip = (
    offers_in row (λ cpu some. open_in e cpu (sym (offers n.kernel n.machine (moving_weight n.kernel n.machine) row e zip.0 cpu) ∙ some)),
    rows_in rows es zip.1,
  )

-- within the limits all of them are held
all_held : (rows : List RowView) → All IsRowWithin rows → AllByRecursion OffersInRange rows → All IsRowHeld rows
all_held rows within in_range =
    let ranges : All OffersInRange rows = All-from_recursion OffersInRange rows in_range in
    λ i d lt. (let asks = (within i d lt).demand in record {
      demand = omega (arith, asks);
      offers = λ j o there. (let w = (within i d lt).weights j o there in record {
        weight = omega (arith, w);
        cpus = All-from_recursion (λ (p : Offer). InRange p.cpus) _ (ranges i d lt) j o there;
      });
    })

pub rows_held : RowsFitMeans → RowsWeigh → ScaledRowsWeigh → (n : NodeState) → IsNode n → (problem : List RowView) → problem ≡ scaled_rows_of n
    → IsTrue (rows_fit problem) → All IsRowHeld problem
rows_held means weigh parts n h problem is fit =
    all_held problem ((means problem).0 fit).each
    (subst (λ (rs : List RowView). AllByRecursion OffersInRange rs) (sym is) (rows_in n h (scaled_rows_of n) (asking n) (scaled_are_weighed n h weigh parts)))
