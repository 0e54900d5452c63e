-- What marks tell of rings, from one write to the next.
use Rattle.std.proofs.Common.{◌≡◌, ℕ, zero, suc, ◌+◌, ◌-◌, ◌<◌, ◌≤◌, length, Bool, true, false, ◌&&◌, ◌||◌, ◌⊎◌, inl, inr, List, refl, sym, ap, ◌∙◌, subst, arith, eqb-true, eq-eqb}
use Rattle.std.proofs.lemmas.Bool.{false≢true}
use Rattle.std.proofs.lemmas.Bool.Decides.{nat_tests}
use Rattle.std.specs.Prelude.{slice_index, nat_lt, ◌==◌}
use Rattle.apply_plan.specs.WriteLemmas.{by_test}
use Rattle.apply_plan.specs.DirectLemmas.{both_of}
use Rattle.cpu_set.specs.Ids.{Ids}
use Rattle.kernel_model.specs.KernelState.{KernelState}
use Rattle.apply_plan.specs.declared.entry.Entry.{Entry}
use Rattle.apply_plan.specs.Holders.{Pairwise}
use Rattle.apply_plan.specs.Targets.{HaveOtherGroups}
use Rattle.apply_plan.specs.NextTables.{AreNexts, leads_place, ring_at}
use Rattle.apply_plan.specs.NextLemmas.{below, is_below, step_on, ring_alike}
use Rattle.apply_plan.specs.RingMarks.{TellRings, AreRings, IsPut, AreKept, IsClosed, AreMarked, IsFollowed, IsRingMarked}

-- two numbers are not one
pub not_one : (x a b : ℕ) → a < b → (x == a) ≡ true → (x == b) ≡ false
not_one x a b less is = grind (arith, nat_tests)

pub unlike : (x a b : ℕ) → a < b → (x == b) ≡ true → (x == a) ≡ false
unlike x a b less is = grind (arith, nat_tests)

module _ (nexts : List ℕ) where
  abbrev next : ℕ → ℕ
  next at = slice_index nexts at

  -- who leads to one is there
  inside : (p m at : ℕ) → leads_place nexts p m at ≡ true → nat_lt at (length nexts) ≡ true
  inside p zero at leads = absurd (false≢true leads)
  inside p (suc m) at leads = (both_of (nat_lt at (length nexts)) ((at == p) || leads_place nexts p m (next at)) leads).0

  -- one that leads to another in one step more
  later : (p m at : ℕ) → nat_lt at (length nexts) ≡ true → leads_place nexts p m (next at) ≡ true → leads_place nexts p (suc m) at ≡ true
  later p m at here leads =
      ap (λ b. b && ((at == p) || leads_place nexts p m (next at))) here ∙ ap (λ b. (at == p) || b) leads ∙ or_true (at == p)
    where
      or_true : (x : Bool) → (x || true) ≡ true
      or_true true = refl
      or_true false = refl

  -- of one that leads to another, which it is not, so does the next one
  on : (p m at : ℕ) → (at == p) ≡ false → leads_place nexts p (suc m) at ≡ true → leads_place nexts p m (next at) ≡ true
  on p m at other leads =
      sym (ap (λ b. b || leads_place nexts p m (next at)) other) ∙ (both_of (nat_lt at (length nexts)) ((at == p) || leads_place nexts p m (next at)) leads).1

  more : (p m at : ℕ) → leads_place nexts p m at ≡ true → leads_place nexts p (suc m) at ≡ true
  more p zero at leads = absurd (false≢true leads)
  more p (suc m) at leads = by_test (at == p)
      (λ it. ap (λ b. b && ((at == p) || leads_place nexts p (suc m) (next at))) (inside p (suc m) at leads)
      ∙ ap (λ b. b || leads_place nexts p (suc m) (next at)) it)
      (λ other. later p (suc m) at (inside p (suc m) at leads) (more p m (next at) (on p m at other leads)))

  -- whoever leads to one of a ring leads on to it, which may be itself
  pub leads_on : (p m at : ℕ) → leads_place nexts p m (next p) ≡ true → leads_place nexts p m at ≡ true → leads_place nexts p m (next at) ≡ true
  leads_on p zero at ring leads = absurd (false≢true leads)
  leads_on p (suc m) at ring leads = by_test (at == p)
      (λ it. subst (λ x. leads_place nexts p (suc m) (next x) ≡ true) (sym (eqb-true at p it)) ring)
      (λ other. more p m (next at) (on p m at other leads))

  -- the way round from the next one
  turned : (p m at : ℕ) → nat_lt (next p) (length nexts) ≡ true → leads_place nexts p m at ≡ true → leads_place nexts (next p) m (next at) ≡ true
  turned p zero at there leads = absurd (false≢true leads)
  turned p (suc m) at there leads = by_test (at == p)
      (λ it. subst (λ x. leads_place nexts (next p) (suc m) (next x) ≡ true) (sym (eqb-true at p it))
      (ap (λ b. b && ((next p == next p) || leads_place nexts (next p) m (next (next p)))) there
      ∙ ap (λ b. b || leads_place nexts (next p) m (next (next p))) (eq-eqb (next p) (next p) refl)))
      (λ other. let rest = on p m at other leads in
      later (next p) m (next at) (inside p m (next at) rest) (turned p m (next at) there rest))

  -- whom one of a ring waits for stands in it too
  pub next_in_ring : (p : ℕ) → ring_at nexts p ≡ true → ring_at nexts (next p) ≡ true
  next_in_ring p ring = turned p (length nexts) (next p) (inside p (length nexts) (next p) ring) ring

  pub itself : (at : ℕ) → at < length nexts → leads_place nexts at (length nexts) at ≡ true
  itself at within = by (length nexts) within where
    by : (m : ℕ) → at < m → leads_place nexts at m at ≡ true
    by zero less = absurd (omega arith)
    by (suc m) less =
        ap (λ b. b && ((at == at) || leads_place nexts at m (next at))) (is_below at (length nexts) within) ∙ ap (λ b. b || leads_place nexts at m (next at)) (eq-eqb at at refl)

  -- one that leads to one that is marked so stands in its ring, if it is marked so itself
  pub marked_back : (marks : List ℕ) → IsClosed nexts marks → (p m at : ℕ) → leads_place nexts p m at ≡ true → (slice_index marks at == 1) ≡ true
      → (slice_index marks p == 1) ≡ true
  marked_back marks closed p zero at leads is = absurd (false≢true leads)
  marked_back marks closed p (suc m) at leads is = by_test (at == p)
      (λ it. subst (λ x. (slice_index marks x == 1) ≡ true) (eqb-true at p it) is)
      (λ other. marked_back marks closed p m (next at) (on p m at other leads) (closed at is))

  -- a walk begins
  pub begins : (marks : List ℕ) (number at : ℕ) → 2 ≤ number → AreMarked nexts marks → IsFollowed nexts marks number at
  begins marks number at few m = record {
    room = m.room;
    closed = m.closed;
    tells = λ p within some other. m.tells p within some;
    leads = λ p within is ring.
        absurd (false≢true (sym (unlike (slice_index marks p) 1 number few is) ∙ m.tells p within (unlike (slice_index marks p) 0 number (omega (arith, few)) is) ∙ ring));
  }

  module _ (old new : List ℕ) (number at : ℕ) (few : 2 ≤ number) (within : at < length nexts) (unknown : (slice_index old at == 0) ≡ true)
      (put : IsPut old new at number) where
    here_is : (slice_index new at == number) ≡ true
    here_is = eq-eqb (slice_index new at) _ put.here

    -- nobody else is marked so
    same_mark : (p x : ℕ) → (p == at) ≡ false → (slice_index new p == x) ≡ (slice_index old p == x)
    same_mark p x other = ap (λ y. y == x) (put.others p other)

    not_here : (p x : ℕ) → x < number → (slice_index new p == x) ≡ true → (p == at) ≡ false
    not_here p x less is = by_test (p == at)
        (λ it. absurd (false≢true (sym (unlike (slice_index new p) x number less (ap (λ q. slice_index new q == number) (eqb-true p at it) ∙ here_is)) ∙ is)))
        (λ other. other)

    -- one was followed
    pub followed : IsFollowed nexts old number at → IsFollowed nexts new number (next at)
    followed f = record {
      room = put.room ∙ f.room;
      closed = λ p is.
          let was : (slice_index old p == 1) ≡ true = sym (same_mark p 1 (not_here p 1 few is)) ∙ is in
          let then : (slice_index old (next p) == 1) ≡ true = f.closed p was in
          by_test (next p == at)
          (λ it. absurd (false≢true (sym (unlike_zero (slice_index old (next p)) then) ∙ ap (λ q. slice_index old q == 0) (eqb-true (next p) at it) ∙ unknown)))
          (λ other. same_mark (next p) 1 other ∙ then);
      tells = λ p there some other.
          let off : (p == at) ≡ false = by_test (p == at)
          (λ it. absurd (false≢true (sym other ∙ ap (λ q. slice_index new q == number) (eqb-true p at it) ∙ here_is))) (λ o. o) in
          same_mark p 1 off ∙ f.tells p there (sym (same_mark p 0 off) ∙ some) (sym (same_mark p number off) ∙ other);
      leads = λ p there is ring. by_test (p == at)
          (λ it.
          let here : ring_at nexts at ≡ true = subst (λ q. ring_at nexts q ≡ true) (eqb-true p at it) ring in
          (next_in_ring at here, subst (λ q. leads_place nexts q (length nexts) (next at) ≡ true) (sym (eqb-true p at it)) here))
          (λ other.
          let before = f.leads p there (sym (same_mark p number other) ∙ is) ring in
          (next_in_ring at before.0, leads_on p (length nexts) at ring before.1));
    } where
      unlike_zero : (x : ℕ) → (x == 1) ≡ true → (x == 0) ≡ false
      unlike_zero x is = unlike x 0 1 (omega arith) is

    pub followed_kept : AreKept old new
    followed_kept p some = by_test (p == at)
        (λ it. ap (λ q. slice_index new q == 0) (eqb-true p at it) ∙ followed_here)
        (λ other. same_mark p 0 other ∙ some)
      where
        followed_here : (slice_index new at == 0) ≡ false
        followed_here = unlike (slice_index new at) 0 number (omega (arith, few)) here_is

    pub put_here : (slice_index new at == 0) ≡ false
    put_here = unlike (slice_index new at) 0 number (omega (arith, few)) here_is

  -- the marks while a ring is followed, from its first place on
  pub record IsRingFollowed (old new : List ℕ) (place at step : ℕ) : Type 0 where
    pub room : length new ≡ length nexts
    pub closed : (p : ℕ) → (slice_index new p == 1) ≡ true → ((slice_index new (next p) == 1) ≡ true) ⊎ (next p ≡ at)
    pub here : ((slice_index new place == 1) ≡ true) ⊎ (place ≡ at)
    pub others : (q : ℕ) → (slice_index new q == 1) ≡ false → slice_index new q ≡ slice_index old q
    pub rings : (q : ℕ) → (slice_index new q == 1) ≡ true → (slice_index old q == 1) ≡ false → ring_at nexts q ≡ true
    pub within : at < length nexts
    pub ring : ring_at nexts at ≡ true
    pub leads : leads_place nexts place (length nexts - step) (next at) ≡ true

  pub ring_begins : (old : List ℕ) (place : ℕ) → place < length nexts → length old ≡ length nexts → ring_at nexts place ≡ true → IsClosed nexts old → IsRingFollowed old old place place 0
  ring_begins old place within room ring closed = record {
    room = room;
    closed = λ p is. inl (closed p is);
    here = inr refl;
    others = λ q is. refl;
    rings = λ q is was. absurd (false≢true (sym was ∙ is));
    within = within;
    ring = ring;
    leads = let e : length nexts ≡ length nexts - 0 = omega arith in subst (λ n. leads_place nexts place n (next place) ≡ true) e ring;
  }

  module _ (old mid new : List ℕ) (place at step : ℕ) (f : IsRingFollowed old mid place at step) (put : IsPut mid new at 1) where
    now_is : (slice_index new at == 1) ≡ true
    now_is = eq-eqb (slice_index new at) _ put.here

    same_else : (p : ℕ) → (p == at) ≡ false → (slice_index new p == 1) ≡ (slice_index mid p == 1)
    same_else p other = ap (λ y. y == 1) (put.others p other)

    stays : (p : ℕ) → (slice_index mid p == 1) ≡ true → (slice_index new p == 1) ≡ true
    stays p is = by_test (p == at) (λ it. ap (λ q. slice_index new q == 1) (eqb-true p at it) ∙ now_is) (λ other. same_else p other ∙ is)

    closed_but : (p : ℕ) → (slice_index new p == 1) ≡ true → ((slice_index new (next p) == 1) ≡ true) ⊎ (next p ≡ next at)
    closed_but p is = by_test (p == at)
        (λ it. inr (ap next (eqb-true p at it)))
        (λ other. inl (by (f.closed p (sym (same_else p other) ∙ is))))
      where
        by : ((slice_index mid (next p) == 1) ≡ true) ⊎ (next p ≡ at) → (slice_index new (next p) == 1) ≡ true
        by (inl was) = stays (next p) was
        by (inr it) = ap (λ q. slice_index new q == 1) it ∙ now_is

    here_now : (slice_index new place == 1) ≡ true
    here_now = by f.here where
      by : ((slice_index mid place == 1) ≡ true) ⊎ (place ≡ at) → (slice_index new place == 1) ≡ true
      by (inl was) = stays place was
      by (inr it) = ap (λ q. slice_index new q == 1) it ∙ now_is

    others_now : (q : ℕ) → (slice_index new q == 1) ≡ false → slice_index new q ≡ slice_index old q
    others_now q is = by_test (q == at)
        (λ it. absurd (false≢true (sym is ∙ ap (λ p. slice_index new p == 1) (eqb-true q at it) ∙ now_is)))
        (λ other. put.others q other ∙ f.others q (sym (same_else q other) ∙ is))

    rings_now : (q : ℕ) → (slice_index new q == 1) ≡ true → (slice_index old q == 1) ≡ false → ring_at nexts q ≡ true
    rings_now q is was = by_test (q == at)
        (λ it. subst (λ p. ring_at nexts p ≡ true) (sym (eqb-true q at it)) f.ring)
        (λ other. f.rings q (sym (same_else q other) ∙ is) was)

    -- the way came round
    pub ring_done : (next at == place) ≡ true → IsRingMarked nexts old new place
    ring_done is = record {
      room = put.room ∙ f.room;
      closed = λ p m. by p (closed_but p m);
      here = here_now;
      others = others_now;
      rings = rings_now;
    } where
      by : (p : ℕ) → ((slice_index new (next p) == 1) ≡ true) ⊎ (next p ≡ next at) → (slice_index new (next p) == 1) ≡ true
      by p (inl was) = was
      by p (inr it) = ap (λ q. slice_index new q == 1) (it ∙ eqb-true (next at) place is) ∙ here_now

    -- or goes on
    pub ring_goes_on : step < length nexts → (next at == place) ≡ false → IsRingFollowed old new place (next at) (step + 1)
    ring_goes_on less other = record {
      room = put.room ∙ f.room;
      closed = closed_but;
      here = inl here_now;
      others = others_now;
      rings = rings_now;
      within = there;
      ring = next_in_ring at f.ring;
      leads =
          let one : length nexts - step ≡ (length nexts - (step + 1)) + 1 = omega (arith, less) in
          sym (step_on nexts place (length nexts - step) (length nexts - (step + 1)) (next at) one there other) ∙ f.leads;
    } where
      there : next at < length nexts
      there = below (next at) (length nexts) (inside place (length nexts - step) (next at) f.leads)

  pub ring_ends : (old new : List ℕ) (place at step : ℕ) → IsRingFollowed old new place at step → length nexts ≤ step → ⊥
  ring_ends old new place at step f past =
      false≢true (sym (none (length nexts - step) (omega (arith, past))) ∙ f.leads)
    where
      none : (n : ℕ) → n ≡ 0 → leads_place nexts place n (next at) ≡ false
      none n is = ap (λ j. leads_place nexts place j (next at)) is

  -- what a walk left
  module _ (marks : List ℕ) (number at : ℕ) (few : 2 ≤ number) (f : IsFollowed nexts marks number at) where
    -- none of it stands in a ring: it ended past all, or where none was closed
    pub none_closed : (nat_lt at (length nexts) && ((slice_index marks at == number) || (slice_index marks at == 0))) ≡ false ⊎ ring_at nexts at ≡ false
        → AreMarked nexts marks
    none_closed why = record {
      room = f.room;
      closed = f.closed;
      tells = λ p within some. by_test (slice_index marks p == number)
          (λ it. unlike (slice_index marks p) 1 number few it ∙ sym (by_test (ring_at nexts p)
          (λ ring. absurd (no_ring why p within it ring)) (λ none. none)))
          (λ other. f.tells p within some other);
    } where
      known : (x y : Bool) → (x || y) ≡ false → (x ≡ false) × (y ≡ false)
      known true y is = absurd (false≢true (sym is))
      known false y is = (refl, is)

      after : (x y : Bool) → x ≡ true → (x && y) ≡ false → y ≡ false
      after x y t is = sym (ap (λ b. b && y) t) ∙ is

      no_ring : ((nat_lt at (length nexts) && ((slice_index marks at == number) || (slice_index marks at == 0))) ≡ false) ⊎ (ring_at nexts at ≡ false)
          → (p : ℕ) → p < length nexts → (slice_index marks p == number) ≡ true → ring_at nexts p ≡ true → ⊥
      no_ring (inr none) p within it ring = false≢true (sym none ∙ (f.leads p within it ring).0)
      no_ring (inl known_before) p within it ring =
          let way = f.leads p within it ring in
          let there = inside p (length nexts) at way.1 in
          let marked = known (slice_index marks at == number) (slice_index marks at == 0)
          (after (nat_lt at (length nexts)) ((slice_index marks at == number) || (slice_index marks at == 0)) there known_before) in
          let told = f.tells at (below at (length nexts) there) marked.1 marked.0 in
          let back = marked_back marks f.closed p (length nexts) at way.1 (told ∙ way.0) in
          false≢true (sym (unlike (slice_index marks p) 1 number few it) ∙ back)

    -- the ring that it closed was marked
    pub ring_closed : (new : List ℕ) → IsRingMarked nexts marks new at → AreMarked nexts new
    ring_closed new r = record {
      room = r.room;
      closed = r.closed;
      tells = λ p within some. by_test (slice_index new p == 1)
          (λ it. it ∙ sym (in_it p within it))
          (λ not. not ∙ sym (out_of_it p within some not));
    } where
      in_it : (p : ℕ) → p < length nexts → (slice_index new p == 1) ≡ true → ring_at nexts p ≡ true
      in_it p within it = by_test (slice_index marks p == 1)
          (λ was. sym (f.tells p within (unlike (slice_index marks p) 0 1 (omega arith) was) (not_one (slice_index marks p) 1 number few was)) ∙ was)
          (λ was. r.rings p it was)

      out_of_it : (p : ℕ) → p < length nexts → (slice_index new p == 0) ≡ false → (slice_index new p == 1) ≡ false → ring_at nexts p ≡ false
      out_of_it p within some not =
          let same = r.others p not in
          by_test (slice_index marks p == number)
          (λ it. by_test (ring_at nexts p)
          (λ ring. absurd (false≢true (sym not ∙ marked_back new r.closed p (length nexts) at (f.leads p within it ring).1 r.here)))
          (λ none. none))
          (λ other. sym (f.tells p within (sym (ap (λ x. x == 0) same) ∙ some) other) ∙ sym (ap (λ x. x == 1) same) ∙ not)

    pub ring_kept : (new : List ℕ) → IsRingMarked nexts marks new at → AreKept marks new
    ring_kept new r p some = by_test (slice_index new p == 1)
        (λ it. unlike (slice_index new p) 0 1 (omega arith) it)
        (λ not. ap (λ x. x == 0) (r.others p not) ∙ some)

-- nobody is marked yet
pub none_marked : (nexts marks : List ℕ) → length marks ≡ length nexts → ((p : ℕ) → slice_index marks p ≡ 0) → AreMarked nexts marks
none_marked nexts marks room none = record {
  room = room;
  closed = λ p is. absurd (false≢true (ap (λ x. x == 1) (sym (none p)) ∙ is));
  tells = λ p within some. absurd (false≢true (sym some ∙ ap (λ x. x == 0) (none p)));
}

-- the marks of those who stand in rings
pub rings_told : (k : KernelState) (reserved : Ids) (entries : List Entry) → Pairwise HaveOtherGroups entries → (nexts marks : List ℕ) → AreNexts k reserved entries nexts
    → TellRings nexts marks → AreRings k reserved entries marks
rings_told k reserved entries groups nexts marks n m = record {
  room = m.room ∙ n.room;
  tells = λ i e within at.
      let r : length nexts ≡ length entries = n.room in
      m.tells i (omega (arith, within, r)) ∙ ring_alike k reserved entries nexts groups n i e within at;
}
