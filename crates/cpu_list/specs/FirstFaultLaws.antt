-- The first fault of a text, and the first faulty item.
use Rattle.std.proofs.Common.{◌≡◌, ℕ, ◌+◌, List, [], ◌∷◌, ◌++◌, length, sum_by, Option, Some, None, option_map, refl, ap, ◌∙◌, arith}
use Rattle.std.specs.List.{AllByRecursion}
use Rattle.std.specs.Option.{option_or}
use Rattle.std.proofs.lemmas.List.Sums.{sum_by-cons}
use Rattle.faults.specs.First.{first_of}
use Rattle.cpu_list.specs.declared.fault.ListError.{ListError}
use Rattle.cpu_list.specs.declared.fault.ListErrorKind.{ListErrorKind}
use Rattle.cpu_list.specs.ListText.{pieces, leading_blanks, item_of, IsItem}
use Rattle.cpu_list.specs.FirstFault.{item_fault, faults_from, IsFaultOf, NoneWhereList, FirstDecides}
use Rattle.cpu_list.specs.ItemFaultLaws.{IsItem-from_None, None-from_IsItem, IsFaultOf-from_Some, Some-from_IsFaultOf}

abbrev width : List (List ℕ) → ℕ
width ps = sum_by (λ p. length p + 1) ps

abbrev AreRight : ℕ → List (List ℕ) → Type 0
AreRight limit ps = AllByRecursion (λ p. IsItem limit (item_of p)) ps

-- the first fault of pieces, where that of the first of them is known
abbrev behind : ℕ → ℕ → List ℕ → List (List ℕ) → Option ListErrorKind → Option ListError
behind limit at p more fault =
    option_or (option_map (λ kind. record { at = at + leading_blanks p; kind = kind }) fault) (first_of (faults_from limit (at + (length p + 1)) more))

-- the pieces, of which the first begins at `at`, have e as their first fault
record IsFirstAmong (limit at : ℕ) (ps : List (List ℕ)) (e : ListError) : Type 0 where
  before : List (List ℕ)
  piece : List ℕ
  after : List (List ℕ)
  whole : ps ≡ before ++ piece ∷ after
  right : AreRight limit before
  fault : IsFaultOf limit (item_of piece) e.kind
  place : e.at ≡ at + (width before + leading_blanks piece)

at_first : (limit at : ℕ) (p : List ℕ) (more : List (List ℕ)) (e : ListError) (kind : ListErrorKind) → item_fault limit (item_of p) ≡ Some kind
    → Some (record { at = at + leading_blanks p; kind = kind }) ≡ Some e → IsFirstAmong limit at (p ∷ more) e
at_first limit at p more e kind wrong same = record {
  before = [];
  piece = p;
  after = more;
  whole = refl;
  right = tt;
  fault = IsFaultOf-from_Some limit (item_of p) e.kind (wrong ∙ ap (λ k. Some k) kinds);
  place = let places : at + leading_blanks p ≡ e.at = cc in omega arith;
} where
  kinds : kind ≡ e.kind
  kinds = cc

at_later : (limit at : ℕ) (p : List ℕ) (more : List (List ℕ)) (e : ListError) → item_fault limit (item_of p) ≡ None
    → IsFirstAmong limit (at + (length p + 1)) more e → IsFirstAmong limit at (p ∷ more) e
at_later limit at p more e none h = record {
  before = p ∷ h.before;
  piece = h.piece;
  after = h.after;
  whole = ap (λ ps. p ∷ ps) h.whole;
  right = (IsItem-from_None limit (item_of p) none, h.right);
  fault = h.fault;
  place = omega (arith, sum_by-cons (λ q. length q + 1) p h.before, h.place);
}

first_among : (limit at : ℕ) (ps : List (List ℕ)) (e : ListError) → first_of (faults_from limit at ps) ≡ Some e → IsFirstAmong limit at ps e
first_among limit at [] e h = cc
first_among limit at (p ∷ more) e h =
    let later = first_among limit (at + (length p + 1)) more e in
    elim (item_fault limit (item_of p)) as (λ o. item_fault limit (item_of p) ≡ o → behind limit at p more o ≡ Some e → IsFirstAmong limit at (p ∷ more) e) [
      | None ↦ λ none same. at_later limit at p more e none (later same)
      | Some kind ↦ λ wrong same. at_first limit at p more e kind wrong same
    ] refl h

fault_among : (limit at : ℕ) (before : List (List ℕ)) (piece : List ℕ) (after : List (List ℕ)) (kind : ListErrorKind) → AreRight limit before → IsFaultOf limit (item_of piece) kind
    → first_of (faults_from limit at (before ++ piece ∷ after)) ≡ Some (record { at = at + (width before + leading_blanks piece); kind = kind })
fault_among limit at [] piece after kind right wrong =
    let none_before : leading_blanks piece ≡ width [] + leading_blanks piece = omega arith in
    ap (behind limit at piece after) (Some-from_IsFaultOf limit (item_of piece) kind wrong)
    ∙ ap (λ n. Some (record { at = at + n; kind = kind })) none_before
fault_among limit at (p ∷ before) piece after kind right wrong =
    let places : at + (length p + 1) + (width before + leading_blanks piece) ≡ at + (width (p ∷ before) + leading_blanks piece) =
    omega (arith, sum_by-cons (λ q. length q + 1) p before) in
    ap (behind limit at p (before ++ piece ∷ after)) (None-from_IsItem limit (item_of p) right.0)
    ∙ fault_among limit (at + (length p + 1)) before piece after kind right.1 wrong
    ∙ ap (λ n. Some (record { at = n; kind = kind })) places

right_among : (limit at : ℕ) (ps : List (List ℕ)) → first_of (faults_from limit at ps) ≡ None → AreRight limit ps
right_among limit at [] h = tt
right_among limit at (p ∷ more) h =
    let later = right_among limit (at + (length p + 1)) more in
    elim (item_fault limit (item_of p)) as (λ o. item_fault limit (item_of p) ≡ o → behind limit at p more o ≡ None → AreRight limit (p ∷ more)) [
      | None ↦ λ none same. (IsItem-from_None limit (item_of p) none, later same)
      | Some kind ↦ λ wrong same. cc
    ] refl h

none_among : (limit at : ℕ) (ps : List (List ℕ)) → AreRight limit ps → first_of (faults_from limit at ps) ≡ None
none_among limit at [] right = refl
none_among limit at (p ∷ more) right =
    ap (behind limit at p more) (None-from_IsItem limit (item_of p) right.0) ∙ none_among limit (at + (length p + 1)) more right.1

pub none_where_list : NoneWhereList
none_where_list limit text = (right_among limit 0 (pieces text), none_among limit 0 (pieces text))

pub first_decides : FirstDecides
first_decides limit text e = (
  λ h. let f = first_among limit 0 (pieces text) e h in
      record {
        before = f.before;
        piece = f.piece;
        after = f.after;
        whole = f.whole;
        right = f.right;
        fault = f.fault;
        place = omega (arith, f.place);
      },
  λ h.
      ap (λ ps. first_of (faults_from limit 0 ps)) h.whole
      ∙ fault_among limit 0 h.before h.piece h.after e.kind h.right h.fault
      ∙ (let place : 0 + (width h.before + leading_blanks h.piece) ≡ e.at = omega (arith, h.place) in ap (λ n. Some (record { at = n; kind = e.kind })) place),
)
