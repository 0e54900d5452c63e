use Rattle.cpu_set.specs.Ids.{Ids}
use Rattle.std.proofs.Common.{◌≡◌, ℕ, ◌++◌, ◌<◌, ◌≤◌, [], ◌∷◌, List, append_assoc, false, filter, get_or, length, sym, ap, ◌∙◌, arith}
use Rattle.std.proofs.lemmas.List.{get_or_default}
use Rattle.std.proofs.lemmas.Result.{on_ok_weaker}
use Rattle.certificate.specs.Packed.{packed}
use Rattle.certificate.specs.declared.Offer.{Offer}
use Rattle.rows.specs.Offers.{has_some}
use Rattle.rows.specs.Scaled.{held_part}
use Rattle.std.specs.FinSet as set
use Rattle.rows.proofs.HeldLemmas.{distance_at, parted_cut}
use Rattle.rows.proofs.parts.push_cut.Goals as goal

pub weight-kept-requires : goal.weight-kept-requires
weight-kept-requires c =
    let low : c.from-distance.result ≤ 254 = distance_at _ _ _ c.requires.distances c.requires.place (λ d. c.from-distance.ensures ∙ c.weight.ensures d) in
    omega arith

-- the offer as it is read
read_as : (offers : List Offer) (at : ℕ) (o d : Offer) → at < length offers → o ≡ get_or offers at o → o ≡ get_or offers at d
read_as offers at o d lt is = is ∙ get_or_default offers at o d lt

kept_of : (held s : Ids) (o e : Offer) (w : ℕ) → o ≡ e → w ≡ packed e.weight 0 → s ≡ set.intersection o.cpus held → record { weight = w; cpus = s } ≡ held_part held e
kept_of held s o e w same weighs has =
    ap (λ n. record { weight = n; cpus = s }) weighs
    ∙ ap (λ (t : Ids). record { weight = packed e.weight 0; cpus = t }) (has ∙ ap (λ (p : Offer). set.intersection p.cpus held) same)

pub returns-then-not-is_subset : goal.returns-then-not-is_subset
returns-then-not-is_subset c = λ d.
    let held = c.args.held.now in
    let parts = c.args.parts.now in
    let o : Offer = get_or c.args.offers.now c.args.at d in
    let same : c.offer-cpus.result ≡ o = read_as c.args.offers.now c.args.at _ d c.requires.place c.offer-cpus.ensures in
    let cut : set.is_subset o.cpus held ≡ false =
    ap (λ (p : Offer). set.is_subset p.cpus held) (sym same) ∙ sym c.is_subset.ensures ∙ c.if-not-is_subset.true in
    let distance = c.from-distance.ensures ∙ c.weight.ensures d in
    on_ok_weaker c.push_without.result
    (λ pushed. pushed
    ∙ ap (λ (l : List Offer). l ++ record { weight = c.args.moved; cpus = set.difference o.cpus held } ∷ [])
    (c.in_ok-push_some.ensures
    ∙ ap (λ x. parts ++ filter has_some (x ∷ [])) (kept_of held _ _ o _ same (c.weight-kept.ensures ∙ ap (λ w. packed w 0) distance) c.meet.ensures))
    ∙ append_assoc parts (filter has_some (held_part held o ∷ [])) (record { weight = c.args.moved; cpus = set.difference o.cpus held } ∷ [])
    ∙ ap (λ w. parts ++ (filter has_some (held_part held o ∷ []) ++ record { weight = w; cpus = set.difference o.cpus held } ∷ []))
    (c.requires.moved d)
    ∙ ap (λ l. parts ++ l) (sym (parted_cut held o cut)))
    (c.push_without.ensures.ok d)
