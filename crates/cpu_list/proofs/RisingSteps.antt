-- Ranges that rise and do not touch are the ranges of their own set; and how they are read item by item.
use Rattle.std.proofs.Common.{◌≡◌, ℕ, ◌+◌, ◌<◌, ◌≤◌, Bool, true, ◌&&◌, ◌||◌, nat_le, nat_lt, List, [], ◌∷◌, ◌++◌, length, drop, refl, sym, ap, subst, ◌∙◌, arith, append_assoc, append-nil}
use Rattle.std.specs.FinSet as set
use Rattle.std.specs.List.{before_first}
use Rattle.std.proofs.lemmas.Bool.Decides.{nat_tests}
use Rattle.std.proofs.lemmas.List.Folds.{list_any-append}
use Rattle.std.proofs.Math.Bool.{or-false}
use Rattle.cpu_set.specs.Ids.{Ids}
use Rattle.cpu_set.specs.Members.{members}
use Rattle.cpu_set.specs.Ranges.{AreRuns, ranges_of, in_ranges}
use Rattle.cpu_set.specs.RangeLaws.{AreRuns-ranges_among, in_ranges-among, members_ranges, ranges_among, ranges_from-is}
use Rattle.cpu_set.specs.Those.{those}
use Rattle.cpu_set.specs.ThoseLemmas.{contains-those}
use Rattle.cpu_set.specs.declared.TheConstants.{CPU_LIMIT}
use Rattle.cpu_list.specs.ListText.{is_comma}
use Rattle.cpu_list.specs.Plain.{IsPlain}
use Rattle.cpu_list.specs.RisingList.{IsRisingList}
use Rattle.cpu_list.proofs.Below.{list_is_below}
use Rattle.cpu_list.proofs.Canonical.{same_ranges}
use Rattle.cpu_list.proofs.PlainItems.{plain_is_right, plain_names}
use Rattle.cpu_list.proofs.ReadSteps.{IsRead, IsRead-none, IsRead-more, IsRead-all}

below_twice : (q n : ℕ) (b : Bool) → (b ≡ true → q < n) → ((nat_le 0 q && nat_lt q (0 + n)) && (nat_lt q n && b)) ≡ b
below_twice q n b f = grind (arith, nat_tests)

whole_at : (ranges : List (ℕ × ℕ)) (n : ℕ) → n ≡ CPU_LIMIT → AreRuns 0 ranges → ((q : ℕ) → in_ranges ranges q ≡ true → q < n)
    → ranges_of (members (those (in_ranges ranges) n)) ≡ ranges
whole_at ranges n e runs below =
    let s : Ids = those (in_ranges ranges) n in
    let is : ranges_of (members s) ≡ ranges_among (set.contains s) 0 n = members_ranges s n e ∙ ranges_from-is s 0 n (omega arith) in
    is ∙ same_ranges 0 0 (ranges_among (set.contains s) 0 n) ranges (AreRuns-ranges_among (set.contains s) 0 n) runs
    (λ q.
    in_ranges-among (set.contains s) 0 n q
    ∙ ap (λ b. (nat_le 0 q && nat_lt q (0 + n)) && b) (contains-those (in_ranges ranges) n q)
    ∙ below_twice q n (in_ranges ranges q) (below q))

-- these are the ranges of their own set
whole_again : (ranges : List (ℕ × ℕ)) → AreRuns 0 ranges → ((q : ℕ) → in_ranges ranges q ≡ true → q < CPU_LIMIT)
    → ranges_of (members (those (in_ranges ranges) CPU_LIMIT)) ≡ ranges
whole_again ranges runs below = whole_at ranges CPU_LIMIT refl runs below

-- the items before this place are the ranges, and each range that begins at `least` or above may follow them
pub record AreRisen (text : List ℕ) (limit at least : ℕ) (ranges : List (ℕ × ℕ)) : Type 0 where
  pub read : IsRead text limit at (in_ranges ranges)
  pub rising : (more : List (ℕ × ℕ)) → AreRuns least more → AreRuns 0 (ranges ++ more)

pub AreRisen-none : (text : List ℕ) (limit : ℕ) (ranges : List (ℕ × ℕ)) → ranges ≡ [] → AreRisen text limit 0 0 ranges
AreRisen-none text limit ranges e = record {
  read = IsRead-none text limit (in_ranges ranges) (λ n. ap (λ rs. in_ranges rs n) e);
  rising = λ more runs. subst (λ rs. AreRuns 0 (rs ++ more)) (sym e) runs;
}

pub AreRisen-more :
    (text rest : List ℕ) (limit at least first last long : ℕ) (ranges new : List (ℕ × ℕ)) → AreRisen text limit at least ranges → at ≤ length text
    → rest ≡ drop at text → IsPlain rest first last long → least ≤ first → first ≤ last → last < limit → new ≡ ranges ++ (first, last) ∷ []
    → AreRisen text limit (at + (long + 1)) (last + 2) new
AreRisen-more text rest limit at least first last long ranges new h low is plain above rising below e = record {
  read =
      rw (plain.long_is)
      (IsRead-more text (before_first is_comma rest) limit at (in_ranges ranges) (in_ranges new) h.read low (ap (before_first is_comma) is)
      (plain_is_right rest limit first last long plain rising below)
      (λ n.
      ap (λ rs. in_ranges rs n) e
      ∙ list_any-append (λ r. nat_le r.0 n && nat_le n r.1) ranges ((first, last) ∷ [])
      ∙ ap (λ b. in_ranges ranges n || b) (or-false (nat_le first n && nat_le n last) ∙ sym (plain_names rest first last long n plain))));
  rising = λ more runs.
      subst (AreRuns 0) (sym (ap (λ rs. rs ++ more) e ∙ append_assoc ranges ((first, last) ∷ []) more))
      (h.rising ((first, last) ∷ more) (above, rising, runs));
}

-- no item is left
pub AreRisen-all : (text : List ℕ) (limit at least : ℕ) (ranges : List (ℕ × ℕ)) → AreRisen text limit at least ranges → length text < at → limit ≤ CPU_LIMIT
    → IsRisingList limit text ranges
AreRisen-all text limit at least ranges h past small =
    let all = IsRead-all text limit at (in_ranges ranges) h.read past in
    record {
      faultless = all.0;
      list = all.2;
      names = all.1;
      whole = whole_again ranges (subst (AreRuns 0) (append-nil ranges) (h.rising [] tt))
          (λ q has. let low = list_is_below limit text q all.2 (sym (all.1 q) ∙ has) in omega arith);
    }
