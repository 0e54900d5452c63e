-- Arcs in blocks, as arcs are added and as blocks are labelled.
use Rattle.std.proofs.Common.{◌≡◌, ℕ, ◌+◌, ◌-◌, ◌<◌, ◌≤◌, ◌==◌, not, ◌&&◌, ◌||◌, Bool, true, false, cond, List, [], ◌∷◌, ◌++◌, length, get_or, Option, Some, None, ◌⊎◌, refl, sym, ap, ◌∙◌, subst, inl, inr, arith}
use Rattle.std.specs.FinSet as set
use Rattle.std.specs.Cmp.{nat_cmp_total}
use Rattle.std.specs.Prelude.{slice_set as set_at}
use Rattle.std.proofs.lemmas.List.{length_push, get_or_push, get_or_append_left, get_or_read, length-set, get_or-set_same, get_or-set_other}
use Rattle.std.proofs.lemmas.Bool.{cases_eq, cases_lt, cases_Bool, or_cases, or_left, or_right, eqb-true, both_ways}
use Rattle.std.proofs.lemmas.Bool.Decides.{nat_tests}
use Rattle.cpu_set.specs.Ids.{Ids}
use Rattle.cpu_set.specs.PointwiseLaws.{contains-empty, contains-insert, contains-remove}
use Rattle.certificate.specs.declared.rows.Offer.{Offer}
use Rattle.transport.specs.Numbers.{number, IsIn, IsListing}
use Rattle.transport.specs.ReachedRows.{is_reached}
use Rattle.transport.specs.Searches.{is_taken, IsCovered}
use Rattle.transport.specs.States.{IsRunning}
use Rattle.transport.specs.Scans.{arc_at, IsPast, IsLimit, IsBoundOf, AreRising, IsBetter, CanLabelArc, IsArcLabelled, HasLabelled}
use Rattle.transport.specs.SortedArcs.{IsSortedArcs, IsScanned}
use Rattle.transport.specs.Blocks.{IsFirstOf, InBlocks, IsArcOf, block_at, IsWeightOfArc, AreWeightsAdded, AreBlocks, AreFirstsOfTaken, AreTakenFirsts, ArePassed, IsPassedToo, AreNoted, CanLabelBlock, HasLabelledBlock, HasLabelledBlocks, IsFirstIn}
use Rattle.transport.specs.declared.arcs.Arc.{Arc}
use Rattle.transport.specs.declared.arcs.Block.{Block}
use Rattle.transport.specs.declared.arcs.SortedArcs.{SortedArcs}
use Rattle.transport.specs.declared.assignment.Assignment.{Assignment}
use Rattle.transport.specs.declared.tree.SearchTree.{SearchTree}
use Rattle.transport.specs.declared.tree.TreeClasses.{TreeClasses}
use Rattle.transport.proofs.Labelling.{better_same, better_more, covered_past, past_rise}
use Rattle.faults.specs.TestLaws.{left_over}

pub no_blocks : (firsts : List ℕ) (arcs : List Arc) → AreBlocks firsts arcs 0 []
no_blocks firsts arcs = record {
  sound = λ cpu w b. absurd (omega (arith, b.within));
  all = λ i lt. absurd (omega (arith, lt));
  classes = λ i lt. absurd (omega (arith, lt));
  rising = λ i j le lt. absurd (omega (arith, lt));
  weights = λ i lt. absurd (omega (arith, lt));
}

in_blocks_at : (blocks : List Block) (at : ℕ) (block : Block) (cpu w : ℕ) → at < length blocks → ((d : Block) → get_or blocks at d ≡ block) → set.contains block.firsts cpu ≡ true → block.weight ≡ w → InBlocks blocks cpu w
in_blocks_at blocks at block cpu w lt its has weight = record { index = at; block = block; its = its; within = lt; has = has; weight = weight }

or_same : (a : Bool) (n : ℕ) → (a || (n == n)) ≡ true
or_same a n = grind (arith, nat_tests)

-- a CPU more in one block
module _ (blocks : List Block) (at : ℕ) (block changed : Block) (cpu weight : ℕ) (lt : at < length blocks) (its : (d : Block) → get_or blocks at d ≡ block) (weighs : block.weight ≡ weight) (still : changed.weight ≡ weight)
    (grows : (q : ℕ) → set.contains changed.firsts q ≡ (set.contains block.firsts q || (q == cpu))) where
  abbrev extended : List Block
  extended = set_at blocks at changed

  long : length extended ≡ length blocks
  long = length-set blocks at changed

  pub extended_sound : (c w : ℕ) → InBlocks extended c w → InBlocks blocks c w ⊎ ((c ≡ cpu) × (w ≡ weight))
  extended_sound c w b = elim (cases_eq b.index at) [
    | inl e ↦ here e
    | inr ne ↦ inl (record {
      index = b.index;
      block = b.block;
      its = λ d. sym (get_or-set_other blocks at b.index changed d ne) ∙ b.its d;
      within = omega (arith, b.within, long);
      has = b.has;
      weight = b.weight;
    })
  ]
    where
      here : b.index ≡ at → InBlocks blocks c w ⊎ ((c ≡ cpu) × (w ≡ weight))
      here e =
          let same : changed ≡ b.block = sym (get_or-set_same blocks at changed changed lt) ∙ ap (λ i. get_or extended i changed) (sym e) ∙ b.its changed in
          let on : set.contains changed.firsts c ≡ true = subst (λ (x : Block). set.contains x.firsts c ≡ true) (sym same) b.has in
          let its_weight : weight ≡ w = sym still ∙ ap (λ (x : Block). x.weight) same ∙ b.weight in
          elim (or_cases _ _ (sym (grows c) ∙ on)) [
            | inl was ↦ inl (in_blocks_at blocks at block c w lt its was (weighs ∙ its_weight))
            | inr is ↦ inr (eqb-true c cpu is, sym its_weight)
          ]

  pub extended_kept : (c w : ℕ) → InBlocks blocks c w → InBlocks extended c w
  extended_kept c w b = elim (cases_eq b.index at) [
    | inl e ↦ (let same : block ≡ b.block = sym (its block) ∙ ap (λ i. get_or blocks i block) (sym e) ∙ b.its block in
        let on : set.contains block.firsts c ≡ true = subst (λ (x : Block). set.contains x.firsts c ≡ true) (sym same) b.has in
        in_blocks_at extended at changed c w (omega (arith, lt, long)) (λ d. get_or-set_same blocks at changed d lt) (grows c ∙ or_left _ _ on) (still ∙ sym weighs ∙ ap (λ (x : Block). x.weight) same ∙ b.weight))
    | inr ne ↦ record {
      index = b.index;
      block = b.block;
      its = λ d. get_or-set_other blocks at b.index changed d ne ∙ b.its d;
      within = omega (arith, b.within, long);
      has = b.has;
      weight = b.weight;
    }
  ]

  pub extended_added : InBlocks extended cpu weight
  extended_added = in_blocks_at extended at changed cpu weight (omega (arith, lt, long)) (λ d. get_or-set_same blocks at changed d lt) (grows cpu ∙ or_same _ cpu) still

  pub extended_weights : AreWeightsAdded blocks extended weight
  extended_weights = record {
    longer = omega (arith, long);
    kept = λ i within. elim (cases_eq i at) [
      | inl e ↦ subst (λ j. (block_at extended j).weight ≡ (block_at blocks j).weight) (sym e)
          (ap (λ (x : Block). x.weight) (get_or-set_same blocks at changed _ lt) ∙ still ∙ sym weighs ∙ ap (λ (x : Block). x.weight) (sym (its _)))
      | inr ne ↦ ap (λ (x : Block). x.weight) (get_or-set_other blocks at i changed _ ne)
    ];
    behind = λ i from within. absurd (omega (arith, from, within, long));
  }

-- a block more
module _ (blocks : List Block) (firsts : Ids) (cpu weight : ℕ) (one : (q : ℕ) → set.contains firsts q ≡ (q == cpu)) where
  abbrev fresh : Block
  fresh = record { weight = weight; firsts = firsts }

  abbrev longer : List Block
  longer = blocks ++ fresh ∷ []

  more_long : length longer ≡ length blocks + 1
  more_long = length_push blocks fresh

  pub pushed_sound : (c w : ℕ) → InBlocks longer c w → InBlocks blocks c w ⊎ ((c ≡ cpu) × (w ≡ weight))
  pushed_sound c w b = elim (cases_lt b.index (length blocks)) [
    | inl early ↦ inl (record {
      index = b.index;
      block = b.block;
      its = λ d. sym (get_or_append_left blocks (fresh ∷ []) d b.index early) ∙ b.its d;
      within = early;
      has = b.has;
      weight = b.weight;
    })
    | inr late ↦ (let e : b.index ≡ length blocks = omega (arith, late, b.within, more_long) in
        let same : fresh ≡ b.block = sym (get_or_push blocks fresh fresh b.index (sym e)) ∙ b.its fresh in
        let on : set.contains firsts c ≡ true = subst (λ (x : Block). set.contains x.firsts c ≡ true) (sym same) b.has in
        inr (eqb-true c cpu (sym (one c) ∙ on), sym b.weight ∙ ap (λ (x : Block). x.weight) (sym same)))
  ]

  pub pushed_kept : (c w : ℕ) → InBlocks blocks c w → InBlocks longer c w
  pushed_kept c w b = record {
    index = b.index;
    block = b.block;
    its = λ d. get_or_append_left blocks (fresh ∷ []) d b.index b.within ∙ b.its d;
    within = omega (arith, b.within, more_long);
    has = b.has;
    weight = b.weight;
  }

  pub pushed_added : InBlocks longer cpu weight
  pushed_added = in_blocks_at longer (length blocks) fresh cpu weight (omega (arith, more_long)) (λ d. get_or_push blocks fresh d (length blocks) refl) (one cpu ∙ same cpu) refl
    where
      same : (n : ℕ) → (n == n) ≡ true
      same n = grind (arith, nat_tests)

  pub pushed_weights : AreWeightsAdded blocks longer weight
  pushed_weights = record {
    longer = omega (arith, more_long);
    kept = λ i within. ap (λ (x : Block). x.weight) (get_or_append_left blocks (fresh ∷ []) _ i within);
    behind = λ i from within. ap (λ (x : Block). x.weight) (get_or_push blocks fresh _ i (omega (arith, from, within, more_long)));
  }

-- the class of a CPU, which is the first of one
pub first_of_class : (firsts : List ℕ) (cpu g : ℕ) → IsIn firsts cpu → ((h : ℕ) → h < length firsts → number firsts h ≡ cpu → g ≡ h) → IsFirstOf firsts g cpu
first_of_class firsts cpu g is own =
    let same : g ≡ is.index = own is.index is.within is.is in
    record {
      within = omega (arith, same, is.within);
      is = ap (λ j. number firsts j) same ∙ is.is;
      once = λ h lt e. sym (own h lt e);
    }

-- the class of the next arc is added to the blocks
module _ (firsts : List ℕ) (arcs : List Arc) (at : ℕ) (old new : List Block) (cpu weight : ℕ) (h : AreBlocks firsts arcs at old) (in_arcs : at < length arcs) (rising : AreRising arcs)
    (first : IsFirstOf firsts (arc_at arcs at).class cpu) (weighs : (arc_at arcs at).weight ≡ weight)
    (sound : (c w : ℕ) → InBlocks new c w → InBlocks old c w ⊎ ((c ≡ cpu) × (w ≡ weight))) (kept : (c w : ℕ) → InBlocks old c w → InBlocks new c w) (added : InBlocks new cpu weight)
    (weighed : AreWeightsAdded old new weight) where
  of_arc : (c w : ℕ) → IsArcOf firsts arcs at c w → IsArcOf firsts arcs (at + 1) c w
  of_arc c w a = record { index = a.index; within = omega (arith, a.within); first = a.first; weight = a.weight }

  own : IsArcOf firsts arcs (at + 1) cpu weight
  own = record { index = at; within = omega arith; first = first; weight = weighs }

  block_low : (i : ℕ) → i < length old → (block_at old i).weight ≤ weight
  block_low i lt = let a = h.weights i lt in omega (arith, rising a.index at (omega (arith, a.within)) in_arcs, a.weight, weighs)

  rising_more : (i j : ℕ) → i ≤ j → j < length new → (block_at new i).weight ≤ (block_at new j).weight
  rising_more i j le within = elim (cases_lt j (length old)) [
    | inl b ↦ rw (weighed.kept i (omega (arith, le, b)), weighed.kept j b) (h.rising i j le b)
    | inr a ↦ elim (cases_lt i (length old)) [
      | inl b ↦ rw (weighed.kept i b, weighed.behind j a within) (block_low i b)
      | inr from ↦ rw (weighed.behind i from (omega (arith, le, within)), weighed.behind j a within) (omega arith)
    ]
  ]

  weights_more : (i : ℕ) → i < length new → IsWeightOfArc arcs (at + 1) (block_at new i).weight
  weights_more i within = elim (cases_lt i (length old)) [
    | inl b ↦ (let a = h.weights i b in
        record { index = a.index; within = omega (arith, a.within); weight = a.weight ∙ sym (weighed.kept i b) })
    | inr from ↦ record { index = at; within = omega arith; weight = weighs ∙ sym (weighed.behind i from within) }
  ]

  here_added : (i : ℕ) → i ≡ at → InBlocks new (number firsts (arc_at arcs i).class) (arc_at arcs i).weight
  here_added i e = subst (λ j. InBlocks new (number firsts (arc_at arcs j).class) (arc_at arcs j).weight) (sym e) (rw (first.is, weighs) added)

  here_within : (i : ℕ) → i ≡ at → (arc_at arcs i).class < length firsts
  here_within i e = subst (λ j. (arc_at arcs j).class < length firsts) (sym e) first.within

  pub blocks_more : AreBlocks firsts arcs (at + 1) new
  blocks_more = record {
    sound = λ c w b. elim (sound c w b) [
      | inl was ↦ of_arc c w (h.sound c w was)
      | inr here ↦ subst (λ x. IsArcOf firsts arcs (at + 1) x w) (sym here.0) (subst (λ x. IsArcOf firsts arcs (at + 1) cpu x) (sym here.1) own)
    ];
    all = λ i lt. elim (cases_lt i at) [
      | inl b ↦ kept _ _ (h.all i b)
      | inr a ↦ here_added i (omega (arith, a, lt))
    ];
    classes = λ i lt. elim (cases_lt i at) [
      | inl b ↦ h.classes i b
      | inr a ↦ here_within i (omega (arith, a, lt))
    ];
    rising = rising_more;
    weights = weights_more;
  }

-- blocks of the first arcs stay so where the arcs are kept
pub blocks_kept : (firsts : List ℕ) (arcs more : List Arc) (upto : ℕ) (blocks : List Block) → ((i : ℕ) → i < upto → arc_at more i ≡ arc_at arcs i) → AreBlocks firsts arcs upto blocks → AreBlocks firsts more upto blocks
blocks_kept firsts arcs more upto blocks same h = record {
  sound = λ c w b. (let a = h.sound c w b in record { index = a.index; within = a.within; first = rw (same a.index a.within) a.first; weight = rw (same a.index a.within) a.weight });
  all = λ i lt. rw (same i lt) (h.all i lt);
  classes = λ i lt. rw (same i lt) (h.classes i lt);
  rising = h.rising;
  weights = λ i lt. (let a = h.weights i lt in record { index = a.index; within = a.within; weight = rw (same a.index a.within) a.weight });
}

-- ---- a block, CPU by CPU

-- a class of the block more
pub block_more : (ws : ℕ → ℕ → Option ℕ) (s : Assignment) (t mid new : SearchTree) (k : ℕ) (firsts : List ℕ) (block : Block) (before left : Ids) (cpu g : ℕ) → HasLabelledBlock ws s k t mid firsts block before
    → left ≡ set.remove before cpu → ((h : ℕ) → h < length firsts → number firsts h ≡ cpu → g ≡ h) → IsArcLabelled ws s k mid new (record { weight = block.weight; class = g })
    → HasLabelledBlock ws s k t new firsts block left
block_more ws s t mid new k firsts block before left cpu g h less own n = record {
  better = better_more ws s t mid new h.better n.better;
  free_end = n.free_end ∙ h.free_end;
  each = each;
}
  where
    still : (j : ℕ) → is_taken new.tree_classes j ≡ false → is_taken mid.tree_classes j ≡ false
    still j off = subst (λ ts. is_taken ts j ≡ false) n.better.tree_classes off

    here : (j : ℕ) → g ≡ j → IsCovered s.values.items s.prices.items new.labels k j block.weight
    here j e = subst (λ x. IsCovered s.values.items s.prices.items new.labels k x block.weight) e n.own

    other : (a b : ℕ) (v : Bool) → (a ≡ b → ⊥) → v ≡ true → (not (a == b) && v) ≡ true
    other a b v ne on = grind (arith, nat_tests)

    each : (c j : ℕ) → set.contains block.firsts c ≡ true → j < length firsts → number firsts j ≡ c → is_taken new.tree_classes j ≡ false → (set.contains left c ≡ true) ⊎ IsCovered s.values.items s.prices.items new.labels k j block.weight
    each c j has lt is off = elim (h.each c j has lt is (still j off)) [
      | inl on ↦ elim (cases_eq c cpu) [
        | inl e ↦ inr (here j (own j lt (is ∙ e)))
        | inr ne ↦ inl (rw less (contains-remove before cpu c ∙ other c cpu _ ne on))
      ]
      | inr covered ↦ inr (n.better.covers k j block.weight covered)
    ]

-- what is left was there before
pub left_within : (before left : Ids) (cpu c : ℕ) → left ≡ set.remove before cpu → set.contains left c ≡ true → set.contains before c ≡ true
left_within before left cpu c less on = was (c == cpu) _ (sym (contains-remove before cpu c) ∙ subst (λ s. set.contains s c ≡ true) less on)
  where
    was : (a b : Bool) → (not a && b) ≡ true → b ≡ true
    was true b on = absurd (both_ways _ refl on)
    was false b on = on

pub left_fewer : (before left : Ids) (cpu : ℕ) → left ≡ set.remove before cpu → set.contains before cpu ≡ true → set.len left < set.len before
left_fewer before left cpu less on = omega (arith, fewer, some)
  where
    fewer : set.len left ≡ set.len before - 1
    fewer = ap set.len less ∙ set.len-remove nat_cmp_total before cpu ∙ ap (λ b. cond b (set.len before - 1) (set.len before)) on

    some : set.len before ≡ 0 → ⊥
    some none = both_ways _ (ap (λ s. set.contains s cpu) (set.empty_of_len before none) ∙ contains-empty cpu) on

-- a class of a block can be labelled
pub block_arc : (ws : ℕ → ℕ → Option ℕ) (s : Assignment) (t mid : SearchTree) (k : ℕ) (firsts : List ℕ) (block : Block) (taken left : Ids) (cpu g : ℕ) → CanLabelBlock (ws k) s.residual.items firsts block → set.contains block.firsts cpu ≡ true
    → ArePassed ws s t firsts taken → set.contains taken cpu ≡ false → ((h : ℕ) → h < length firsts → number firsts h ≡ cpu → g ≡ h) → is_reached t.reached_rows k ≡ true → HasLabelledBlock ws s k t mid firsts block left
    → CanLabelArc ws s mid k (record { weight = block.weight; class = g })
block_arc ws s t mid k firsts block taken left cpu g can has marks off own on h =
    let c = can cpu has in
    let f = first_of_class firsts cpu g c.0 own in
    let facts = c.1 g f.within f.is in
    record {
      running = h.better.running;
      there = subst (λ q. is_reached q k ≡ true) (sym h.better.reached_rows) on;
      weighs = facts.0;
      full = facts.1;
      left = subst (λ ts. is_taken ts g ≡ false) (sym h.better.tree_classes) (still_left f);
    }
  where
    still_left : IsFirstOf firsts g cpu → is_taken t.tree_classes g ≡ false
    still_left f = elim (cases_Bool (is_taken t.tree_classes g)) [
      | inl up ↦ absurd (both_ways _ off (subst (λ n. set.contains taken n ≡ true) f.is (marks.all g f.within up)))
      | inr not ↦ not
    ]

-- ---- what is passed over

-- what of a block is passed over is covered, before any of it is labelled
pub block_start : (ws : ℕ → ℕ → Option ℕ) (s : Assignment) (t : SearchTree) (k : ℕ) (firsts : List ℕ) (block : Block) (passed left : Ids) → IsRunning ws s t → CanLabelBlock (ws k) s.residual.items firsts block → ArePassed ws s t firsts passed
    → is_reached t.reached_rows k ≡ true → ((q : ℕ) → set.contains left q ≡ (set.contains block.firsts q && not (set.contains passed q))) → HasLabelledBlock ws s k t t firsts block left
block_start ws s t k firsts block passed left run can h there is = record {
  better = better_same ws s t run;
  free_end = refl;
  each = λ cpu g has lt e off. elim (cases_Bool (set.contains passed cpu)) [
    | inl on ↦ inr (h.only cpu g k block.weight on lt e off there ((can cpu has).1 g lt e).0)
    | inr out ↦ inl (is cpu ∙ left_over _ _ has out)
  ];
}

-- what is passed over before a scan: no more than what is taken up
pub passed_start : (ws : ℕ → ℕ → Option ℕ) (s : Assignment) (t : SearchTree) (firsts : List ℕ) (cpus : Ids) → AreTakenFirsts firsts cpus t.tree_classes → ArePassed ws s t firsts cpus
passed_start ws s t firsts cpus h = record {
  only = λ cpu g k w on lt is off there weighs. absurd (both_ways _ off (h.only cpu g on lt is));
  all = h.all;
}

pub passed_better : (ws : ℕ → ℕ → Option ℕ) (s : Assignment) (old new : SearchTree) (firsts : List ℕ) (cpus : Ids) → IsBetter ws s old new → ArePassed ws s old firsts cpus → ArePassed ws s new firsts cpus
passed_better ws s old new firsts cpus b h = record {
  only = λ cpu g k w on lt is off there weighs. b.covers k g w (h.only cpu g k w on lt is (subst (λ ts. is_taken ts g ≡ false) b.tree_classes off) (subst (λ q. is_reached q k ≡ true) b.reached_rows there) weighs);
  all = λ g lt on. h.all g lt (subst (λ ts. is_taken ts g ≡ true) b.tree_classes on);
}

pub passed_inserted : (old new : Ids) (cpu value reach : ℕ) → new ≡ set.insert old cpu → value ≡ reach → IsPassedToo old new cpu value reach
passed_inserted old new cpu value reach grown e = record {
  only = λ q on. elim (or_cases _ _ (sym (contains-insert old cpu q) ∙ subst (λ s. set.contains s q ≡ true) grown on)) [
    | inl is ↦ inr (eqb-true q cpu is, e)
    | inr was ↦ inl was
  ];
  kept = λ q on. rw grown (contains-insert old cpu q ∙ or_right (q == cpu) _ on);
}

-- no row is nearer to a class than one from which it is at slack 0: where it is covered from that one, it is from all
covered_at_0 : (ws : ℕ → ℕ → Option ℕ) (s : Assignment) (t : SearchTree) (k g w : ℕ) → IsRunning ws s t → number s.values.items k ≡ w + number s.prices.items g → IsCovered s.values.items s.prices.items t.labels k g w
    → (j v : ℕ) → ws j g ≡ Some v → IsCovered s.values.items s.prices.items t.labels j g v
covered_at_0 ws s t k g w run e c j v weighs = elim c [
  | inl n ↦ inl (record { label = n.label; its = n.its; least = omega (arith, n.least, e, run.search.dual.below j g v weighs) })
  | inr p ↦ inr (record { free_end = p.free_end; its = p.its; least = omega (arith, p.least, e, run.search.dual.below j g v weighs) })
]

-- a class more is passed over once it is labelled, where it is at slack 0
pub passed_more : (ws : ℕ → ℕ → Option ℕ) (s : Assignment) (t new : SearchTree) (firsts : List ℕ) (before after : Ids) (cpu k g w : ℕ) → ArePassed ws s t firsts before → IsPassedToo before after cpu (number s.values.items k) (w + number s.prices.items g)
    → ((h : ℕ) → h < length firsts → number firsts h ≡ cpu → g ≡ h) → IsArcLabelled ws s k t new (record { weight = w; class = g }) → ArePassed ws s new firsts after
passed_more ws s t new firsts before after cpu k g w h n own labelled = record {
  only = λ q j i v on lt is off there weighs. elim (n.only q on) [
    | inl was ↦ still.only q j i v was lt is off there weighs
    | inr here ↦ subst (λ y. ws i y ≡ Some v → IsCovered s.values.items s.prices.items new.labels i y v) (own j lt (is ∙ here.0)) (covered_at_0 ws s new k g w labelled.better.running here.1 labelled.own i v) weighs
  ];
  all = λ j lt on. n.kept _ (still.all j lt on);
}
  where
    still : ArePassed ws s new firsts before
    still = passed_better ws s t new firsts before labelled.better h

-- ---- block by block

pub blocks_start : (ws : ℕ → ℕ → Option ℕ) (s : Assignment) (t : SearchTree) (k : ℕ) (firsts : List ℕ) (blocks : List Block) → IsRunning ws s t → HasLabelledBlocks ws s k t t firsts blocks 0
blocks_start ws s t k firsts blocks h = record { better = better_same ws s t h; free_end = refl; each = λ cpu w g b lt. absurd (omega (arith, lt)) }

its_block : (blocks : List Block) (at : ℕ) (block : Block) (cpu w : ℕ) (b : InBlocks blocks cpu w) → b.index ≡ at → block ≡ get_or blocks at block → b.block ≡ block
its_block blocks at block cpu w b e is = sym (b.its block) ∙ ap (λ i. get_or blocks i block) e ∙ sym is

-- a block more was labelled
pub blocks_labelled : (ws : ℕ → ℕ → Option ℕ) (s : Assignment) (t mid new : SearchTree) (k : ℕ) (firsts : List ℕ) (blocks : List Block) (at : ℕ) (block : Block) → block ≡ get_or blocks at block
    → HasLabelledBlocks ws s k t mid firsts blocks at → HasLabelledBlock ws s k mid new firsts block set.empty → HasLabelledBlocks ws s k t new firsts blocks (at + 1)
blocks_labelled ws s t mid new k firsts blocks at block is h n = record {
  better = better_more ws s t mid new h.better n.better;
  free_end = n.free_end ∙ h.free_end;
  each = λ cpu w g b lt in_firsts e off. elim (cases_lt b.index at) [
    | inl before ↦ n.better.covers k g w (h.each cpu w g b before in_firsts e (subst (λ ts. is_taken ts g ≡ false) n.better.tree_classes off))
    | inr after ↦ here cpu w g b (omega (arith, after, lt)) in_firsts e off
  ];
}
  where
    here : (cpu w g : ℕ) (b : InBlocks blocks cpu w) → b.index ≡ at → g < length firsts → number firsts g ≡ cpu → is_taken new.tree_classes g ≡ false → IsCovered s.values.items s.prices.items new.labels k g w
    here cpu w g b e in_firsts first off =
        let same : b.block ≡ block = its_block blocks at block cpu w b e is in
        let weight : block.weight ≡ w = ap (λ (x : Block). x.weight) (sym same) ∙ b.weight in
        let has : set.contains block.firsts cpu ≡ true = subst (λ (x : Block). set.contains x.firsts cpu ≡ true) same b.has in
        elim (n.each cpu g has in_firsts first off) [
          | inl on ↦ absurd (both_ways _ (contains-empty cpu) on)
          | inr covered ↦ subst (λ x. IsCovered s.values.items s.prices.items new.labels k g x) weight covered
        ]

-- all blocks were labelled, so all arcs that are in them
pub blocks_all : (ws : ℕ → ℕ → Option ℕ) (s : Assignment) (t new : SearchTree) (k : ℕ) (firsts : List ℕ) (arcs : List Arc) (blocks : List Block) (blocked upto cursor : ℕ) → AreBlocks firsts arcs blocked blocks → length blocks ≤ upto → cursor ≤ blocked
    → HasLabelledBlocks ws s k t new firsts blocks upto → HasLabelled ws s k t new arcs cursor
blocks_all ws s t new k firsts arcs blocks blocked upto cursor are all cursor_in h = record {
  better = h.better;
  free_end = h.free_end;
  each = λ i lt off. (let b = are.all i (omega (arith, lt, cursor_in)) in
      h.each _ _ _ b (omega (arith, b.within, all)) (are.classes i (omega (arith, lt, cursor_in))) refl off);
}

-- the first blocks were labelled and the next one lies past the free end, so all behind it do
pub blocks_past : (ws : ℕ → ℕ → Option ℕ) (s : Assignment) (t new : SearchTree) (k : ℕ) (firsts : List ℕ) (arcs : List Arc) (blocks : List Block) (blocked at cursor : ℕ) (block : Block) (limit : Option ℕ) → AreBlocks firsts arcs blocked blocks → at < length blocks
    → block ≡ get_or blocks at block → cursor ≤ blocked → HasLabelledBlocks ws s k t new firsts blocks at → IsLimit s.values.items k new.labels.free_end limit → IsPast limit block.weight → HasLabelled ws s k t new arcs cursor
blocks_past ws s t new k firsts arcs blocks blocked at cursor block limit are at_in is cursor_in h l past = record {
  better = h.better;
  free_end = h.free_end;
  each = λ i lt off. (let b = are.all i (omega (arith, lt, cursor_in)) in
      elim (cases_lt b.index at) [
        | inl before ↦ h.each _ _ _ b before (are.classes i (omega (arith, lt, cursor_in))) refl off
        | inr behind ↦ covered_past s new.labels k _ _ new.labels.free_end limit refl l (past_rise limit block.weight _ (omega (arith, heavier b behind)) past)
      ]);
}
  where
    heavier : {cpu w : ℕ} (b : InBlocks blocks cpu w) → at ≤ b.index → block.weight ≤ w
    heavier b behind =
        let here : block.weight ≡ (block_at blocks at).weight = ap (λ (x : Block). x.weight) (get_or_read blocks at block at_in is _) in
        let there : (block_at blocks b.index).weight ≡ b.block.weight = ap (λ (x : Block). x.weight) (b.its _) in
        omega (arith, here, there, are.rising at b.index behind b.within, b.weight)

-- a weight below the bound is not past the limit
pub not_past : (limit : Option ℕ) (bound w : ℕ) → IsBoundOf limit bound → w < bound → IsPast limit w → ⊥
not_past None bound w is lt past = past
not_past (Some limit) bound w is lt past = omega (arith, is, lt, past)

-- the classes of a block below the limit are full
pub block_can : (ws : ℕ → Option ℕ) (offers : List Offer) (firsts residual : List ℕ) (l : SortedArcs) (at : ℕ) (block : Block) (limit : Option ℕ) → IsSortedArcs ws offers firsts residual l → IsScanned ws l limit
    → at < length l.blocks.items → block ≡ get_or l.blocks.items at block → (IsPast limit block.weight → ⊥) → CanLabelBlock ws residual firsts block
block_can ws offers firsts residual l at block limit h scanned lt is below cpu has =
    let b : InBlocks l.blocks.items cpu block.weight = record {
      index = at;
      block = block;
      its = λ d. get_or_again l.blocks.items at block d lt is;
      within = lt;
      has = has;
      weight = refl;
    } in
    let a = h.blocks.sound cpu block.weight b in
    let weighs : ws (arc_at l.arcs.items a.index).class ≡ Some block.weight = h.arcs.sound a.index (omega (arith, a.within, h.blocked_in, h.cursor_in)) ∙ ap Some a.weight in (
      record { index = _; within = a.first.within; is = a.first.is },
      λ g in_firsts first.
          let same : g ≡ (arc_at l.arcs.items a.index).class = a.first.once g in_firsts first in
          let its : ws g ≡ Some block.weight = ap ws same ∙ weighs in
          (its, full g its),
    )
  where
    get_or_again : (blocks : List Block) (i : ℕ) (x d : Block) → i < length blocks → x ≡ get_or blocks i x → get_or blocks i d ≡ x
    get_or_again blocks i x d lt is = sym (get_or_read blocks i x lt is d)

    full : (g : ℕ) → ws g ≡ Some block.weight → number residual g ≡ 0
    full g its = elim (scanned g block.weight its) [
      | inl arc ↦ sym (ap (λ j. number residual j) arc.class) ∙ h.full arc.index arc.within
      | inr past ↦ absurd (below past)
    ]

-- ---- the first CPUs of what is taken up

pub taken_firsts_more : (firsts : List ℕ) (old new : Ids) (ts : TreeClasses) → AreFirstsOfTaken firsts old ts → IsListing ts.order.items ts.taken.items
    → ((cpu : ℕ) → set.contains new cpu ≡ true → (set.contains old cpu ≡ true) ⊎ IsFirstIn firsts ts.order.items cpu) → AreNoted firsts new ts.order.items (length ts.order.items) → AreTakenFirsts firsts new ts
taken_firsts_more firsts old new ts h listing from noted = record {
  only = λ cpu g on lt is. elim (from cpu on) [
    | inl was ↦ h cpu g was lt is
    | inr f ↦ subst (λ j. is_taken ts j ≡ true) (sym (f.first.once g lt is)) (listing.on f.at f.within)
  ];
  all = λ g lt on. (let p = listing.all g on in subst (λ j. set.contains new (number firsts j) ≡ true) p.is (noted p.index p.within (subst (λ j. j < length firsts) (sym p.is) lt)));
}

-- a class more is noted by its first CPU, or has none
pub noted_more : (firsts order : List ℕ) (old new : Ids) (at cpu : ℕ) → new ≡ set.insert old cpu → number firsts (number order at) ≡ cpu → AreNoted firsts old order at → AreNoted firsts new order (at + 1)
noted_more firsts order old new at cpu grown is h i lt within =
    rw grown (contains-insert old cpu (number firsts (number order i)) ∙ elim (cases_lt i at) [
      | inl before ↦ or_right (number firsts (number order i) == cpu) _ (h i before within)
      | inr after ↦ or_left _ _ (here i (omega (arith, lt, after)))
    ])
  where
    itself : (a b : ℕ) → a ≡ b → (a == b) ≡ true
    itself a b e = grind (arith, nat_tests)

    here : (j : ℕ) → j ≡ at → (number firsts (number order j) == cpu) ≡ true
    here j e = itself _ _ (ap (λ k. number firsts (number order k)) e ∙ is)

pub noted_past : (firsts order : List ℕ) (cpus : Ids) (at : ℕ) → length firsts ≤ number order at → AreNoted firsts cpus order at → AreNoted firsts cpus order (at + 1)
noted_past firsts order cpus at past h i lt within = elim (cases_lt i at) [
  | inl before ↦ h i before within
  | inr after ↦ absurd (none i (omega (arith, lt, after)) within)
]
  where
    none : (j : ℕ) → j ≡ at → number order j < length firsts → ⊥
    none j e lt_firsts = omega (arith, ap (number order) e, lt_firsts, past)

pub noted_kept : (firsts : List ℕ) (cpus : Ids) (old new : List ℕ) (upto : ℕ) → upto ≤ length old → ((i : ℕ) → i < length old → number new i ≡ number old i) → AreNoted firsts cpus old upto → AreNoted firsts cpus new upto
noted_kept firsts cpus old new upto le before h i lt = rw (before i (omega arith)) (h i lt)

pub taken_firsts_kept : (firsts : List ℕ) (cpus : Ids) (old new : TreeClasses) → AreFirstsOfTaken firsts cpus old → ((g : ℕ) → is_taken old g ≡ true → is_taken new g ≡ true) → AreFirstsOfTaken firsts cpus new
taken_firsts_kept firsts cpus old new h kept cpu g on lt is = kept g (h cpu g on lt is)
