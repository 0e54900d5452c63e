-- The shares of one class change.
use Rattle.std.proofs.Common.{◌≡◌, ℕ, ◌+◌, ◌<◌, List, [], length, set, sym, ap, ◌∙◌, subst, inl, inr}
use Rattle.std.proofs.lemmas.Bool.{cases_eq}
use Rattle.std.proofs.lemmas.List.{length-set, get_or-set_same, get_or-set_other}
use Rattle.twins.specs.Holdings.{share_of}
use Rattle.transport.specs.Shares.{AllBelow, holders_of, HasNoShare, IsShareGiven, IsShareTaken}
use Rattle.transport.specs.States.{shares_of, cell, AreHoldings, IsNoHolder}
use Rattle.transport.specs.Numbers.{IsEachOnce}
use Rattle.transport.specs.Augmenting.{IsGiven, IsGivenUp}
use Rattle.twins.specs.declared.holders.Share.{Share}

pub shares_here : (hs : List (List Share)) (g : ℕ) (v : List Share) → g < length hs → shares_of (set hs g v) g ≡ v
shares_here hs g v low = get_or-set_same hs g v [] low

pub shares_other : (hs : List (List Share)) (g h : ℕ) (v : List Share) → (h ≡ g → ⊥) → shares_of (set hs g v) h ≡ shares_of hs h
shares_other hs g h v ne = get_or-set_other hs g h v [] ne

module _ (old new : List (List Share)) (g k amount : ℕ) (v : List Share) (low : g < length old) (now : new ≡ set old g v) where
  own_shares : shares_of new g ≡ v
  own_shares = ap (λ hs. shares_of hs g) now ∙ shares_here old g v low

  other_shares : (h : ℕ) → (h ≡ g → ⊥) → shares_of new h ≡ shares_of old h
  other_shares h ne = ap (λ hs. shares_of hs h) now ∙ shares_other old g h v ne

  own_cell : (j : ℕ) → cell new j g ≡ share_of j v
  own_cell j = ap (λ xs. share_of j xs) own_shares

  other_cell : (j h : ℕ) → (h ≡ g → ⊥) → cell new j h ≡ cell old j h
  other_cell j h ne = ap (λ xs. share_of j xs) (other_shares h ne)

  kept_holdings : (rows classes : ℕ) → AllBelow rows v → IsEachOnce (holders_of v) → AreHoldings rows classes old → AreHoldings rows classes new
  kept_holdings rows classes all once h = record {
    long = ap length now ∙ length-set _ _ _ ∙ h.long;
    rows_in = λ j. elim (cases_eq j g) [
      | inl e ↦ subst (λ x. AllBelow rows (shares_of new x)) (sym e) (subst (AllBelow rows) (sym own_shares) all)
      | inr ne ↦ subst (AllBelow rows) (sym (other_shares j ne)) (h.rows_in j)
    ];
    once = λ j. elim (cases_eq j g) [
      | inl e ↦ subst (λ x. IsEachOnce (holders_of (shares_of new x))) (sym e) (subst (λ xs. IsEachOnce (holders_of xs)) (sym own_shares) once)
      | inr ne ↦ subst (λ xs. IsEachOnce (holders_of xs)) (sym (other_shares j ne)) (h.once j)
    ];
  }

  pub kept_none : (j : ℕ) → (HasNoShare j (shares_of old g) → HasNoShare j v) → IsNoHolder j old → IsNoHolder j new
  kept_none j own none h = elim (cases_eq h g) [
    | inl e ↦ subst (λ x. HasNoShare j (shares_of new x)) (sym e) (subst (HasNoShare j) (sym own_shares) (own (none g)))
    | inr ne ↦ subst (HasNoShare j) (sym (other_shares h ne)) (none h)
  ]

  others_given : (i j : ℕ) → (own : (j : ℕ) → (j ≡ k → ⊥) → share_of j v ≡ share_of j (shares_of old g)) → (i ≡ k → j ≡ g → ⊥) → cell new i j ≡ cell old i j
  others_given i j own ne = elim (cases_eq j g) [
    | inl e ↦ subst (λ x. cell new i x ≡ cell old i x) (sym e) (own_cell i ∙ own i (λ a. ne a e))
    | inr no_class ↦ other_cell i j no_class
  ]

  pub given_cells : IsShareGiven (shares_of old g) v k amount → IsGiven (cell old) (cell new) k g amount
  given_cells s = record { given = own_cell k ∙ s.own; others = λ i j ne. others_given i j s.others ne }

  pub given_up_cells : IsShareTaken (shares_of old g) v k amount → IsGivenUp (cell old) (cell new) k g amount
  given_up_cells s = record { given_up = ap (λ x. x + amount) (own_cell k) ∙ s.own; others = λ i j ne. others_given i j s.others ne }

  pub given_holdings : (rows classes : ℕ) → k < rows → IsShareGiven (shares_of old g) v k amount → AreHoldings rows classes old → AreHoldings rows classes new
  given_holdings rows classes in_rows s h = kept_holdings rows classes (s.rows rows in_rows (h.rows_in g)) (s.once (h.once g)) h

  pub given_up_holdings : (rows classes : ℕ) → k < rows → IsShareTaken (shares_of old g) v k amount → AreHoldings rows classes old → AreHoldings rows classes new
  given_up_holdings rows classes in_rows s h = kept_holdings rows classes (s.rows rows in_rows (h.rows_in g)) (subst IsEachOnce (sym s.holders) (h.once g)) h
