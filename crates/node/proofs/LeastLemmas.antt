-- Which CPUs are given of places: the first ones of whole cores, and some where one can be given.
use Rattle.std.proofs.Common.{◌≡◌, inl, inr, ℕ, zero, suc, ◌+◌, ◌-◌, ◌*◌, ◌<◌, ◌≤◌, Bool, true, false, cond, ◌&&◌, nat_lt, refl, sym, ap, ◌∙◌, arith}
use Rattle.std.proofs.Math.Nat.{suc-mul}
use Rattle.std.proofs.lemmas.Bool.{false≢true}
use Rattle.std.proofs.lemmas.Bool.Decides.{nat_tests}
use Rattle.std.proofs.lemmas.Grind.{div_ceil_times}
use Rattle.std.specs.Int.{div_ceil}
use Rattle.std.specs.Prelude.{◌⊎◌, ◌||◌, ◌==◌, Option, Some, None, IfSome, MatchOption}
use Rattle.std.specs.FinSet as set
use Rattle.cpu_set.specs.Ids.{Ids, NoneFrom, IsFirstFrom}
use Rattle.cpu_set.specs.Members.{IsCpu}
use Rattle.cpu_set.specs.PointwiseLaws.{same_members, contains-empty, contains-insert, contains-is_subset, is_subset-contains}
use Rattle.cpu_set.specs.SetLaws.{len-those_more, len-those_none}
use Rattle.cpu_set.specs.ThoseLemmas.{contains-those}
use Rattle.cpu_set.specs.declared.TheConstants.{CPU_LIMIT}
use Rattle.machine.specs.Cores.{core_of, cores_in, cpus_of_cores}
use Rattle.machine.specs.IsSound.{IsSound}
use Rattle.machine.specs.Layout.{Layout}
use Rattle.machine.specs.WholeLaws.{contains-cpus_of_cores, cpus_of_cores-within}
use Rattle.apply_plan.specs.DirectLemmas.{both, both_of}
use Rattle.apply_plan.specs.Directed.{IsLeast}
use Rattle.apply_plan.specs.SetMemberLaws.{bigger_some}
use Rattle.node.specs.LeastCores.{count_below, first_of, least_cores}

lt_of : (a b : ℕ) → nat_lt a b ≡ true → a < b
lt_of a b e = grind (arith, nat_tests)

of_lt : (a b : ℕ) → a < b → nat_lt a b ≡ true
of_lt a b e = grind (arith, nat_tests)

ge_of : (a b : ℕ) → nat_lt a b ≡ false → b ≤ a
ge_of a b e = grind (arith, nat_tests)

of_ge : (a b : ℕ) → b ≤ a → nat_lt a b ≡ false
of_ge a b e = grind (arith, nat_tests)

module _ (s : Ids) where
  -- one more is counted where it is a member
  count_more : (n : ℕ) → count_below s (n + 1) ≡ count_below s n + cond (set.contains s n) 1 0
  count_more n = len-those_more (set.contains s) n

  count_none : count_below s 0 ≡ 0
  count_none = len-those_none (set.contains s)

  count_by : (d n : ℕ) → count_below s n ≤ count_below s (n + d)
  count_by zero n = let same : count_below s (n + 0) ≡ count_below s n = ap (count_below s) (omega arith) in omega (arith, same)
  count_by (suc d) n =
      let next : count_below s (n + suc d) ≡ count_below s (n + d + 1) = ap (count_below s) (omega arith) in
      omega (arith, next, count_more (n + d), count_by d n)

  -- a greater number has no fewer below
  count_rises : (a b : ℕ) → a ≤ b → count_below s a ≤ count_below s b
  count_rises a b below =
      let at : count_below s (a + (b - a)) ≡ count_below s b = ap (count_below s) (omega (arith, below)) in
      omega (arith, at, count_by (b - a) a)

  -- none between is counted
  skipped : (d n : ℕ) → ((q : ℕ) → n ≤ q → q < n + d → set.contains s q ≡ false) → count_below s (n + d) ≡ count_below s n
  skipped zero n none = ap (count_below s) (omega arith)
  skipped (suc d) n none =
      let next : count_below s (n + suc d) ≡ count_below s (n + d + 1) = ap (count_below s) (omega arith) in
      let off : cond {A = ℕ} (set.contains s (n + d)) 1 0 ≡ 0 = ap (λ b. cond {A = ℕ} b 1 0) (none (n + d) (omega arith) (omega arith)) in
      let rest : count_below s (n + d) ≡ count_below s n = skipped d n (λ q above below. none q above (omega (arith, below))) in
      omega (arith, next, count_more (n + d), off, rest)

  none_between : (a b : ℕ) → a ≤ b → ((q : ℕ) → a ≤ q → q < b → set.contains s q ≡ false) → count_below s b ≡ count_below s a
  none_between a b below none =
      let at : a + (b - a) ≡ b = omega (arith, below) in
      ap (count_below s) (sym at) ∙ skipped (b - a) a (λ q above under. none q above (omega (arith, under, at)))

  pub contains-first_of : (count q : ℕ) → set.contains (first_of count s) q ≡ (nat_lt q CPU_LIMIT && (set.contains s q && nat_lt (count_below s q) count))
  unfolding first_of
  contains-first_of count q = contains-those (λ c. set.contains s c && nat_lt (count_below s c) count) CPU_LIMIT q

  first_parts : (count q : ℕ) → set.contains (first_of count s) q ≡ true → (nat_lt q CPU_LIMIT ≡ true) × ((set.contains s q ≡ true) × (nat_lt (count_below s q) count ≡ true))
  first_parts count q m =
      let one = both_of (nat_lt q CPU_LIMIT) (set.contains s q && nat_lt (count_below s q) count) (sym (contains-first_of count q) ∙ m) in
      (one.0, both_of (set.contains s q) (nat_lt (count_below s q) count) one.1)

  -- the first are of the set, and more of them have these among them
  pub first_within : (count : ℕ) → set.is_subset (first_of count s) s ≡ true
  first_within count = contains-is_subset (first_of count s) s (λ q m. (first_parts count q m).1.0)

  pub first_more : (fewer more : ℕ) → fewer ≤ more → (q : ℕ) → set.contains (first_of fewer s) q ≡ true → set.contains (first_of more s) q ≡ true
  first_more fewer more le q m =
      let parts = first_parts fewer q m in
      contains-first_of more q
      ∙ both (nat_lt q CPU_LIMIT) (set.contains s q && nat_lt (count_below s q) more) parts.0
      (both (set.contains s q) (nat_lt (count_below s q) more) parts.1.0
      (of_lt (count_below s q) more (let lt : count_below s q < fewer = lt_of (count_below s q) fewer parts.1.1 in omega (arith, lt, le))))

  -- those below a bound are the first, so many, where as many are below it or it is the limit
  first_is : (taken : Ids) (count b : ℕ) → b ≤ CPU_LIMIT → count_below s b ≤ count → ((b ≡ CPU_LIMIT) ⊎ (count_below s b ≡ count))
      → ((q : ℕ) → set.contains taken q ≡ (nat_lt q b && set.contains s q)) → taken ≡ first_of count s
  first_is taken count b limit few which has =
      same_members taken (first_of count s) (λ q. has q ∙ by q (nat_lt q b) (set.contains s q) refl refl ∙ sym (contains-first_of count q)) where
        none_left : (x : Bool) → (x && false) ≡ false
        none_left true = refl
        none_left false = refl

        past : (q : ℕ) → b ≤ q → ((b ≡ CPU_LIMIT) ⊎ (count_below s b ≡ count)) → (nat_lt q CPU_LIMIT && nat_lt (count_below s q) count) ≡ false
        past q above (inl all) = ap (λ x. x && nat_lt (count_below s q) count) (of_ge q CPU_LIMIT (omega (arith, above, all)))
        past q above (inr enough) =
            ap (λ x. nat_lt q CPU_LIMIT && x) (of_ge (count_below s q) count (let more : count_below s b ≤ count_below s q = count_rises b q above in omega (arith, more, enough)))
            ∙ none_left (nat_lt q CPU_LIMIT)

        within : (q : ℕ) → q < b → set.contains s q ≡ true → (nat_lt q CPU_LIMIT && nat_lt (count_below s q) count) ≡ true
        within q below member =
            both (nat_lt q CPU_LIMIT) (nat_lt (count_below s q) count) (of_lt q CPU_LIMIT (omega (arith, below, limit)))
            (of_lt (count_below s q) count
            (let one : cond {A = ℕ} (set.contains s q) 1 0 ≡ 1 = ap (λ x. cond {A = ℕ} x 1 0) member in
            let more : count_below s (q + 1) ≤ count_below s b = count_rises (q + 1) b (omega (arith, below)) in
            omega (arith, one, count_more q, more, few)))

        by : (q : ℕ) (l v : Bool) → nat_lt q b ≡ l → set.contains s q ≡ v
            → (nat_lt q b && set.contains s q) ≡ (nat_lt q CPU_LIMIT && (set.contains s q && nat_lt (count_below s q) count))
        by q l false is_l is_v =
            ap (λ v. nat_lt q b && v) is_v ∙ none_left (nat_lt q b) ∙ sym (none_left (nat_lt q CPU_LIMIT))
            ∙ ap (λ v. nat_lt q CPU_LIMIT && (v && nat_lt (count_below s q) count)) (sym is_v)
        by q true true is_l is_v =
            (λ i. is_l i && is_v i) ∙ sym (within q (lt_of q b is_l) is_v) ∙ ap (λ v. nat_lt q CPU_LIMIT && (v && nat_lt (count_below s q) count)) (sym is_v)
        by q false true is_l is_v =
            (λ i. is_l i && is_v i) ∙ sym (past q (ge_of q b is_l) which) ∙ ap (λ v. nat_lt q CPU_LIMIT && (v && nat_lt (count_below s q) count)) (sym is_v)

  -- how far a walk over the members has come
  abbrev bound : Option ℕ → ℕ
  bound None = CPU_LIMIT
  bound (Some n) = n

  pub record Walks (count : ℕ) (taken : Ids) (left : ℕ) (next : Option ℕ) : Type 0 where
    pub has : (q : ℕ) → set.contains taken q ≡ (nat_lt q (bound next) && set.contains s q)
    pub counts : left + count_below s (bound next) ≡ count
    pub member : IfSome next (λ n. set.contains s n ≡ true)
    pub in_range : IfSome next (λ n. IsCpu n)
    pub limit : bound next ≤ CPU_LIMIT

  -- it has come on, if nothing lies between
  goes_on : (count : ℕ) (taken : Ids) (left from : ℕ) (next : Option ℕ) → ((q : ℕ) → set.contains taken q ≡ (nat_lt q from && set.contains s q))
      → left + count_below s from ≡ count → from ≤ CPU_LIMIT → MatchOption next (NoneFrom s from) (λ n. IsFirstFrom s from n) → IfSome next (λ n. IsCpu n)
      → Walks count taken left next
  goes_on count taken left from next has counts limit found in_range = by next found in_range where
    same : (b : ℕ) → from ≤ b → ((q : ℕ) → from ≤ q → q < b → set.contains s q ≡ false) → (q : ℕ) → set.contains taken q ≡ (nat_lt q b && set.contains s q)
    same b below none q = has q ∙ pick (nat_lt q from) (set.contains s q) refl refl where
      none_left : (x : Bool) → (x && false) ≡ false
      none_left true = refl
      none_left false = refl

      pick : (l v : Bool) → nat_lt q from ≡ l → set.contains s q ≡ v → (nat_lt q from && set.contains s q) ≡ (nat_lt q b && set.contains s q)
      pick l false is_l is_v = ap (λ v. nat_lt q from && v) is_v ∙ none_left (nat_lt q from) ∙ sym (none_left (nat_lt q b)) ∙ ap (λ v. nat_lt q b && v) (sym is_v)
      pick true true is_l is_v =
          ap (λ l. l && set.contains s q) (is_l ∙ sym (of_lt q b (let lt : q < from = lt_of q from is_l in omega (arith, lt, below))))
      pick false true is_l is_v =
          ap (λ l. l && set.contains s q) (is_l ∙ sym (of_ge q b (above (nat_lt q b) refl))) where
            above : (x : Bool) → nat_lt q b ≡ x → b ≤ q
            above false is = ge_of q b is
            above true is = absurd (false≢true (sym (none q (ge_of q from is_l) (lt_of q b is)) ∙ is_v))

    by : (o : Option ℕ) → MatchOption o (NoneFrom s from) (λ n. IsFirstFrom s from n) → IfSome o (λ n. IsCpu n) → Walks count taken left o
    by None none _ =
        let between : (q : ℕ) → from ≤ q → q < CPU_LIMIT → set.contains s q ≡ false = (λ q above _. none q above) in
        record {
          has = same CPU_LIMIT limit between;
          counts = let e : count_below s CPU_LIMIT ≡ count_below s from = none_between from CPU_LIMIT limit between in omega (arith, e, counts);
          member = tt;
          in_range = tt;
          limit = omega arith;
        }
    by (Some n) first cpu = record {
      has = same n first.above first.least;
      counts = let e : count_below s n ≡ count_below s from = none_between from n first.above first.least in omega (arith, e, counts);
      member = first.member;
      in_range = cpu;
      limit = omega (arith, cpu);
    }

  pub walk_begins : (count : ℕ) (taken : Ids) → taken ≡ set.empty → (next : Option ℕ) → MatchOption next (NoneFrom s 0) (λ n. IsFirstFrom s 0 n)
      → IfSome next (λ n. IsCpu n) → Walks count taken count next
  walk_begins count taken none next found in_range =
      goes_on count taken count 0 next
      (λ q. ap (λ t. set.contains t q) none ∙ contains-empty q ∙ ap (λ l. l && set.contains s q) (sym (of_ge q 0 (omega arith))))
      (omega (arith, count_none)) (omega arith) found in_range

  pub walk_goes_on : (count : ℕ) (taken : Ids) (left n : ℕ) (more : Ids) (next : Option ℕ) → Walks count taken left (Some n) → 1 ≤ left
      → more ≡ set.insert taken n → MatchOption next (NoneFrom s (n + 1)) (λ m. IsFirstFrom s (n + 1) m) → IfSome next (λ m. IsCpu m)
      → Walks count more (left - 1) next
  walk_goes_on count taken left n more next w some is found in_range =
      goes_on count more (left - 1) (n + 1) next has (let c = w.counts in omega (arith, some, c, one, count_more n)) (let cpu = w.in_range in omega (arith, cpu)) found in_range where
        one : cond {A = ℕ} (set.contains s n) 1 0 ≡ 1
        one = ap (λ x. cond {A = ℕ} x 1 0) w.member

        added : (q : ℕ) (b : Bool) → (n ≡ q → b ≡ true) → ((q == n) || (nat_lt q n && b)) ≡ (nat_lt q (n + 1) && b)
        added q b f = grind (arith, nat_tests)

        has : (q : ℕ) → set.contains more q ≡ (nat_lt q (n + 1) && set.contains s q)
        has q = ap (λ t. set.contains t q) is ∙ contains-insert taken n q ∙ ap (λ b. (q == n) || b) (w.has q) ∙ added q (set.contains s q) (λ same. ap (set.contains s) (sym same) ∙ w.member)

  pub walk_has_enough : (count : ℕ) (taken : Ids) (left n : ℕ) → Walks count taken left (Some n) → left ≡ 0 → taken ≡ first_of count s
  walk_has_enough count taken left n w none =
      let all : count_below s n ≡ count = (let c = w.counts in omega (arith, c, none)) in
      first_is taken count n w.limit (omega (arith, all)) (inr all) w.has

  pub walk_is_over : (count : ℕ) (taken : Ids) (left : ℕ) (next : Option ℕ) → Walks count taken left next → ((n : ℕ) → next ≡ Some n → ⊥)
      → taken ≡ first_of count s
  walk_is_over count taken left (Some n) w none = absurd (none n refl)
  walk_is_over count taken left None w none = first_is taken count CPU_LIMIT (omega arith) (let c = w.counts in omega (arith, c)) (inl refl) w.has

-- one core is wanted for one CPU, and one at least for more
one_core : (k threads : ℕ) → 1 ≤ threads → k * threads < 1 + threads → k ≤ 1
one_core zero threads some less = omega arith
one_core (suc zero) threads some less = omega arith
one_core (suc (suc k)) threads some less =
    let a : suc (suc k) * threads ≡ suc k * threads + threads = suc-mul (suc k) threads in
    let b : suc k * threads ≡ k * threads + threads = suc-mul k threads in
    absurd (omega (arith, a, b, some, less))

some_core : (k threads count : ℕ) → 1 ≤ count → count ≤ k * threads → 1 ≤ k
some_core zero threads count some less = absurd (omega (arith, some, less))
some_core (suc k) threads count some less = omega arith

module _ (m : Layout) (sound : IsSound m) where
  cores_rise : (count : ℕ) → 1 ≤ count → div_ceil 1 m.threads ≤ div_ceil count m.threads
  cores_rise count some =
      let positive : 0 < m.threads = (let t = sound.cores.some in omega (arith, t)) in
      let few : div_ceil 1 m.threads ≤ 1 = one_core (div_ceil 1 m.threads) m.threads sound.cores.some (div_ceil_times 1 m.threads positive).1 in
      let many : 1 ≤ div_ceil count m.threads = some_core (div_ceil count m.threads) m.threads count some (div_ceil_times count m.threads positive).0 in
      omega (arith, few, many)

  more_cores : (c d : Ids) → ((q : ℕ) → set.contains c q ≡ true → set.contains d q ≡ true) → (q : ℕ) → set.contains (cpus_of_cores m c) q ≡ true
      → set.contains (cpus_of_cores m d) q ≡ true
  more_cores c d within q h =
      let parts = both_of (nat_lt q CPU_LIMIT) (set.contains c (core_of m q)) (sym (contains-cpus_of_cores m c q) ∙ h) in
      contains-cpus_of_cores m d q ∙ both (nat_lt q CPU_LIMIT) (set.contains d (core_of m q)) parts.0 (within (core_of m q) parts.1)

  pub least_is : IsLeast (least_cores m)
  least_is = record {
    within = λ s count cpu h. is_subset-contains (least_cores m s count) s
        (cpus_of_cores-within m (first_of (div_ceil count m.threads) (cores_in m s)) s sound.cores (first_within (cores_in m s) (div_ceil count m.threads))) cpu h;
    some = λ s count ranged one some. bigger_some (least_cores m s 1) (least_cores m s count)
        (more_cores (first_of (div_ceil 1 m.threads) (cores_in m s)) (first_of (div_ceil count m.threads) (cores_in m s))
        (first_more (cores_in m s) (div_ceil 1 m.threads) (div_ceil count m.threads) (cores_rise count some))) one;
  }
