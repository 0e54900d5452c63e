-- The next CPU of each core, written from the last CPU down.
use Rattle.std.proofs.Common.{◌≡◌, ℕ, ◌+◌, ◌<◌, ◌≤◌, inl, inr, List, length, get_or, replicate, sym, ap, ◌∙◌, arith}
use Rattle.std.proofs.lemmas.Bool.{cases_eq}
use Rattle.std.proofs.lemmas.List.{length-set, get_or-set_same, get_or-set_other, get_or-replicate, length-replicate}
use Rattle.std.proofs.Math.ListN.{set as set_at}
use Rattle.cpu_set.specs.declared.TheConstants.{CPU_LIMIT}
use Rattle.machine.specs.Index.{IsFirstOf, AreSiblings}

-- the core of a number, by its lowest CPU
abbrev pub at : List ℕ → ℕ → ℕ
at lowest c = get_or lowest c c

-- from n on the next ones are written, and these are the first ones of each core
pub record AreLinked (lowest firsts next : List ℕ) (n : ℕ) : Type 0 where
  pub room : length firsts ≡ CPU_LIMIT
  pub next_room : length next ≡ CPU_LIMIT
  pub within : n ≤ CPU_LIMIT
  pub first : (core : ℕ) → core < CPU_LIMIT → IsFirstOf lowest core n (get_or firsts core 0)
  pub each : (c : ℕ) → n ≤ c → c < CPU_LIMIT → IsFirstOf lowest (at lowest c) (c + 1) (get_or next c 0)

pub AreLinked-none : (lowest : List ℕ) (a n : ℕ) → a ≡ CPU_LIMIT → n ≡ CPU_LIMIT → AreLinked lowest (replicate a n) (replicate a n) n
AreLinked-none lowest a n size end = record {
  room = length-replicate a n ∙ size;
  next_room = length-replicate a n ∙ size;
  within = omega arith;
  first = λ core lt.
      let none_here : get_or (replicate a n) core 0 ≡ n = get_or-replicate a core n 0 (omega arith) in
      record {
        is = λ less. absurd (omega (arith, less, none_here));
        least = λ q from below same. absurd (omega arith);
      };
  each = λ c from lt. absurd (omega arith);
}

pub AreLinked-more :
    (lowest firsts next firsts_more next_more : List ℕ) (n core : ℕ) → AreLinked lowest firsts next (n + 1) → core ≡ at lowest n → core < CPU_LIMIT
    → next_more ≡ set_at next n (get_or firsts core 0) → firsts_more ≡ set_at firsts core n → AreLinked lowest firsts_more next_more n
AreLinked-more lowest firsts next firsts_more next_more n core are is_core lt is_next is_first =
    let up : n + 1 ≤ CPU_LIMIT = are.within in
    let room : length firsts ≡ CPU_LIMIT = are.room in
    let next_room : length next ≡ CPU_LIMIT = are.next_room in
    let here : get_or firsts_more core 0 ≡ n = ap (λ l. get_or l core 0) is_first ∙ get_or-set_same firsts core n 0 (omega arith) in
    let other : (k : ℕ) → (k ≡ core → ⊥) → get_or firsts_more k 0 ≡ get_or firsts k 0 = λ k differs. ap (λ l. get_or l k 0) is_first ∙ get_or-set_other firsts core k n 0 differs in
    let next_here : get_or next_more n 0 ≡ get_or firsts core 0 = ap (λ l. get_or l n 0) is_next ∙ get_or-set_same next n _ 0 (omega arith) in
    let next_other : (k : ℕ) → (k ≡ n → ⊥) → get_or next_more k 0 ≡ get_or next k 0 = λ k differs. ap (λ l. get_or l k 0) is_next ∙ get_or-set_other next n k _ 0 differs in
    record {
      room = ap length is_first ∙ simp length-set room;
      next_room = ap length is_next ∙ simp length-set next_room;
      within = omega arith;
      first = λ k below. elim (cases_eq k core) [
        | inl same ↦ record {
          is = λ less. let at_k : get_or firsts_more k 0 ≡ n = ap (λ j. get_or firsts_more j 0) same ∙ here in
              (omega (arith, at_k), ap (λ j. at lowest j) at_k ∙ sym is_core ∙ sym same);
          least = λ q from is_cpu of_k. let at_k : get_or firsts_more k 0 ≡ n = ap (λ j. get_or firsts_more j 0) same ∙ here in omega (arith, at_k);
        }
        | inr differs ↦ record {
          is = λ less.
              let kept : get_or firsts_more k 0 ≡ get_or firsts k 0 = other k differs in
              let old = (are.first k below).is (omega (arith, less, kept)) in
              let from : n + 1 ≤ get_or firsts k 0 = old.0 in
              (omega (arith, kept, from), ap (λ j. at lowest j) kept ∙ old.1);
          least = λ q from is_cpu of_k.
              let kept : get_or firsts_more k 0 ≡ get_or firsts k 0 = other k differs in
              elim (cases_eq n q) [
                | inl now ↦ absurd (differs (sym of_k ∙ ap (at lowest) (sym now) ∙ sym is_core))
                | inr later ↦ let least : get_or firsts k 0 ≤ q = (are.first k below).least q (omega arith) is_cpu of_k in omega (arith, kept, least)
              ];
        }
      ];
      each = λ c from below. elim (cases_eq n c) [
        | inl same ↦
            let moved : get_or next_more c 0 ≡ get_or firsts core 0 = ap (λ j. get_or next_more j 0) (sym same) ∙ next_here in
            let mine : core ≡ at lowest c = is_core ∙ ap (at lowest) same in
            rw (moved, sym mine) (ap_from (n + 1) (c + 1) (omega arith) (are.first core lt))
        | inr differs ↦ let kept : get_or next_more c 0 ≡ get_or next c 0 = next_other c (λ e. differs (sym e)) in rw kept (are.each c (omega arith) below)
      ];
    }
  where
    ap_from : (a b : ℕ) → a ≡ b → IsFirstOf lowest core a (get_or firsts core 0) → IsFirstOf lowest core b (get_or firsts core 0)
    ap_from a b same first = rw (sym same) first

pub AreLinked-all : (lowest firsts next : List ℕ) (n : ℕ) → AreLinked lowest firsts next n → n ≡ 0 → AreSiblings lowest next
AreLinked-all lowest firsts next n are end = record {
  room = are.next_room;
  each = λ c lt. are.each c (omega arith) lt;
}
