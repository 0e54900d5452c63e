-- The least distance to a home, found node by node.
use Rattle.std.proofs.Common.{◌≡◌, ℕ, zero, suc, ◌+◌, ◌-◌, ◌<◌, ◌≤◌, ◌⊎◌, inl, inr, Bool, true, false, cond, min, [], ◌∷◌, ◌++◌, map, filter, refl, sym, ap, ◌∙◌, arith}
use Rattle.std.specs.Prelude.{fold}
use Rattle.std.specs.List.{range_with_len}
use Rattle.std.proofs.lemmas.List.{append-nil, map-append, map-id}
use Rattle.std.proofs.lemmas.List.FromFn.{filter_of_map_range_with_len_more}
use Rattle.std.proofs.lemmas.List.Sums.{fold-append}
use Rattle.std.proofs.lemmas.Bool.{cases_lt, true≢false, false≢true, false_from_ne_true}
use Rattle.std.specs.FinSet as set
use Rattle.cpu_set.specs.Ids.{Ids}
use Rattle.cpu_set.specs.LeastLaws.{cpus_from}
use Rattle.cpu_set.specs.SetLaws.{empty_of_none}
use Rattle.cpu_set.specs.declared.TheConstants.{CPU_LIMIT}
use Rattle.machine.specs.declared.TheConstants.{NODE_LIMIT}
use Rattle.machine.specs.IsSound.{IsSound}
use Rattle.machine.specs.Layout.{Layout, node_count, distance}
use Rattle.machine.specs.Nodes.{node_of}
use Rattle.machine.specs.Weight.{AreHomes, IsLeastDistance, weight}

-- the least distance from node i to a home below n, and the greatest distance where there is none
unfoldable pub least_below : Layout → Ids → ℕ → ℕ → ℕ
least_below m homes i zero = 255
least_below m homes i (suc n) = cond (set.contains homes n) (min (least_below m homes i n) (distance m i n)) (least_below m homes i n)

-- one number more, where it is a home's and where it is none
homes_more : (homes : Ids) (n m : ℕ) → m ≡ n + 1 → filter (set.contains homes) (range_with_len 0 m)
    ≡ filter (set.contains homes) (range_with_len 0 n) ++ cond (set.contains homes n) (n ∷ []) []
homes_more homes n m next =
    ap (λ k. filter (set.contains homes) (range_with_len 0 k)) next
    ∙ ap (filter (set.contains homes)) (sym (map-id (range_with_len 0 (n + 1))))
    ∙ filter_of_map_range_with_len_more (set.contains homes) (λ k. k) 0 n n (omega arith)
    ∙ ap (λ xs. filter (set.contains homes) xs ++ cond (set.contains homes n) (n ∷ []) []) (map-id (range_with_len 0 n))

one_least : (d : ℕ → ℕ) (n w : ℕ) (b : Bool) → fold min w (map d (cond b (n ∷ []) [])) ≡ cond b (min w (d n)) w
one_least d n w true = refl
one_least d n w false = refl

fold-least_below :
    (m : Layout) (homes : Ids) (i n : ℕ)
    → fold min 255 (map (distance m i) (filter (set.contains homes) (range_with_len 0 n))) ≡ least_below m homes i n
unfolding least_below
fold-least_below m homes i zero = refl
fold-least_below m homes i (suc n) =
    let d = distance m i in
    let before = filter (set.contains homes) (range_with_len 0 n) in
    let here = cond (set.contains homes n) (n ∷ []) [] in
    let more : filter (set.contains homes) (range_with_len 0 (suc n)) ≡ before ++ here = homes_more homes n (suc n) (omega arith) in
    ap (λ xs. fold min 255 (map d xs)) more
    ∙ ap (fold min 255) (map-append d before here)
    ∙ fold-append min 255 (map d before) (map d here)
    ∙ ap (λ w. fold min w (map d here)) (fold-least_below m homes i n)
    ∙ one_least d n (least_below m homes i n) (set.contains homes n)

-- no home is at or above the count of the nodes
homes_below :
    (homes : Ids) (count more : ℕ) → ((h : ℕ) → count ≤ h → set.contains homes h ≡ false)
    → filter (set.contains homes) (range_with_len 0 (count + more)) ≡ filter (set.contains homes) (range_with_len 0 count)
homes_below homes count zero none = ap (λ n. filter (set.contains homes) (range_with_len 0 n)) (omega arith)
homes_below homes count (suc more) none =
    let last = count + more in
    homes_more homes last (count + suc more) (omega arith)
    ∙ ap (λ b. filter (set.contains homes) (range_with_len 0 last) ++ cond b (last ∷ []) []) (none last (omega arith))
    ∙ append-nil _
    ∙ homes_below homes count more none

not_there : (m : Layout) (homes : Ids) → AreHomes m homes → (h : ℕ) → node_count m ≤ h → set.contains homes h ≡ false
not_there m homes are h above =
    false_from_ne_true _ (λ member. let below : h < node_count m = are.nodes h member in absurd (omega arith))

-- the least distance to the homes is that to the homes below the count of the nodes
pub weight-least_below :
    (m : Layout) (homes : Ids) (cpu : ℕ) → IsSound m → AreHomes m homes
    → weight m homes cpu ≡ least_below m homes (node_of m cpu) (node_count m)
unfolding weight
weight-least_below m homes cpu sound are =
    let few : node_count m ≤ NODE_LIMIT = sound.few in
    let all : node_count m + (CPU_LIMIT - node_count m) ≡ CPU_LIMIT = omega arith in
    ap (λ ids. fold min 255 (map (distance m (node_of m cpu)) (filter (set.contains homes) ids))) (cpus_from _ all)
    ∙ ap (λ xs. fold min 255 (map (distance m (node_of m cpu)) xs))
    (homes_below homes (node_count m) (CPU_LIMIT - node_count m) (not_there m homes are))
    ∙ fold-least_below m homes (node_of m cpu) (node_count m)

-- the least distance to a home below n, or the greatest distance where no home is below n
record IsLeastBelow (m : Layout) (homes : Ids) (i n w : ℕ) : Type 0 where
  reached : ((w ≡ 255) × ((h : ℕ) → h < n → set.contains homes h ≡ false)) ⊎ ((h : ℕ) × (set.contains homes h ≡ true) × (w ≡ distance m i h))
  least : (h : ℕ) → h < n → set.contains homes h ≡ true → w ≤ distance m i h

with_home :
    (m : Layout) (homes : Ids) (i n w : ℕ) → set.contains homes n ≡ true → distance m i n ≤ 255
    → IsLeastBelow m homes i n w → IsLeastBelow m homes i (suc n) (min w (distance m i n))
with_home m homes i n w home reach below = record {
  reached = elim (cases_lt w (distance m i n)) [
    | inl less ↦ let kept : min w (distance m i n) ≡ w = omega arith in
        elim below.reached [
          | inl none ↦ absurd (omega (arith, none.0))
          | inr some ↦ inr (some.0, some.1, kept ∙ some.2)
        ]
    | inr not_less ↦ let taken : min w (distance m i n) ≡ distance m i n = omega arith in inr (n, home, taken)
  ];
  least = λ h lt is_home. elim (cases_lt h n) [
    | inl before ↦ let so_far = below.least h before is_home in omega arith
    | inr last ↦ let same : h ≡ n = omega arith in rw same (omega arith)
  ];
}

without_home :
    (m : Layout) (homes : Ids) (i n w : ℕ) → set.contains homes n ≡ false
    → IsLeastBelow m homes i n w → IsLeastBelow m homes i (suc n) w
without_home m homes i n w no_home below = record {
  reached = elim below.reached [
    | inl none ↦ inl (
      none.0,
      λ h lt. elim (cases_lt h n) [
        | inl before ↦ none.1 h before
        | inr last ↦ let same : h ≡ n = omega arith in rw same no_home
      ],
    )
    | inr some ↦ inr some
  ];
  least = λ h lt is_home. elim (cases_lt h n) [
    | inl before ↦ below.least h before is_home
    | inr last ↦ let same : n ≡ h = omega arith in absurd (false≢true (sym no_home ∙ ap (set.contains homes) same ∙ is_home))
  ];
}

one_more :
    (m : Layout) (homes : Ids) (i n w : ℕ) (b : Bool) → set.contains homes n ≡ b → distance m i n ≤ 255
    → IsLeastBelow m homes i n w → IsLeastBelow m homes i (suc n) (cond b (min w (distance m i n)) w)
one_more m homes i n w true home reach below = with_home m homes i n w home reach below
one_more m homes i n w false no_home reach below = without_home m homes i n w no_home below

least_below-IsLeastBelow :
    (m : Layout) (homes : Ids) (i n : ℕ) → ((h : ℕ) → h < n → distance m i h ≤ 255)
    → IsLeastBelow m homes i n (least_below m homes i n)
unfolding least_below
least_below-IsLeastBelow m homes i zero reach = record {
  reached = inl (refl, λ h lt. absurd (omega arith));
  least = λ h lt. absurd (omega arith);
}
least_below-IsLeastBelow m homes i (suc n) reach =
    one_more m homes i n _ (set.contains homes n) refl (reach n (omega arith))
    (least_below-IsLeastBelow m homes i n (λ h lt. reach h (omega arith)))

no_homes : (m : Layout) (homes : Ids) → AreHomes m homes → ((h : ℕ) → h < node_count m → set.contains homes h ≡ false) → ⊥
no_homes m homes are none =
    are.some (empty_of_none homes (λ q _. false_from_ne_true _ (λ member.
    true≢false (sym member ∙ none q (are.nodes q member)))))

-- the least of all nodes' distances is that to a home
pub least_below-IsLeastDistance :
    (m : Layout) (homes : Ids) (i : ℕ) → IsSound m → AreHomes m homes → i < node_count m
    → IsLeastDistance m homes i (least_below m homes i (node_count m))
least_below-IsLeastDistance m homes i sound are is_node =
    let below = least_below-IsLeastBelow m homes i (node_count m) (λ h lt. (sound.distances.rows i is_node h lt).at_most) in
    record {
      reached = elim below.reached [
        | inl none ↦ absurd (no_homes m homes are none.1)
        | inr some ↦ some
      ];
      least = λ h home. below.least h (are.nodes h home) home;
    }
