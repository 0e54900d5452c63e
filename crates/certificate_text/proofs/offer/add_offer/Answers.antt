use Rattle.std.proofs.Common.{◌≡◌, ◌++◌, ◌∷◌, [], ℕ, List, Bool, false, Option, Some, None, MatchOption, sym, ap, ◌∙◌}
use Rattle.cpu_set.specs.Ids.{Ids}
use Rattle.certificate.specs.declared.rows.Offer.{Offer}
use Rattle.tagged_sets.specs.Tagged.{set_of_ranges}
use Rattle.certificate_text.specs.Line.{IsOfferWord}
use Rattle.certificate_text.specs.ListWord.{IsListWord}
use Rattle.certificate_text.proofs.offer.add_offer.Goals as goal

pub returns-then-reads_rising : goal.returns-then-reads_rising
returns-then-reads_rising c = (
  record { weight = c.in_ok-weight-2.weight; cpus = set_of_ranges c.reads_rising.new.ranges.items },
  record {
    before = c.in_ok-weight.weight.now;
    after = c.in_ok-weight.list.now;
    parts_are = c.in_ok-weight.ensures;
    weight_is = c.in_ok-weight-2.ensures;
    cpus_are = c.reads_rising.ensures.names c.if-reads_rising.true;
  },
  λ kept. let k = c.add_ranges.ensures kept in
      (k.0, k.1 ∙ ap (λ (rs : List (ℕ × ℕ)). c.args.offers.now ++ record { weight = c.in_ok-weight-2.weight; cpus = set_of_ranges rs } ∷ []) c.as_slice.ensures.value),
)

-- what is said of a list's set is said of the word's offer
said :
    (result : Option Bool) (word list : List ℕ) (weight : ℕ) (lacks : Bool) (old new : List Offer)
    → ((cpus : Ids) → IsListWord list cpus → IsOfferWord word (record { weight = weight; cpus = cpus }))
    → ((o : Offer) → IsOfferWord word o → IsListWord list o.cpus)
    → MatchOption result ((cpus : Ids) → IsListWord list cpus → ⊥)
    (λ more. (cpus : Ids) × IsListWord list cpus × (more ≡ false → (lacks ≡ false) × (new ≡ old ++ record { weight = weight; cpus = cpus } ∷ [])))
    → MatchOption result ((o : Offer) → IsOfferWord word o → ⊥)
    (λ more. (o : Offer) × IsOfferWord word o × (more ≡ false → (lacks ≡ false) × (new ≡ old ++ o ∷ [])))
said None word list weight lacks old new there back none = λ o spelled. none o.cpus (back o spelled)
said (Some more) word list weight lacks old new there back (cpus, is, kept) = (record { weight = weight; cpus = cpus }, there cpus is, kept)

pub returns : goal.returns
returns c = said c.add_set.result c.args.word.now c.in_ok-weight.list.now c.in_ok-weight-2.weight c.args.lacks c.args.offers.now c.add_set.new.offers
    (λ cpus is. record {
      before = c.in_ok-weight.weight.now;
      after = c.in_ok-weight.list.now;
      parts_are = c.in_ok-weight.ensures;
      weight_is = c.in_ok-weight-2.ensures;
      cpus_are = is;
    })
    (λ o h.
    let same = sym c.in_ok-weight.ensures ∙ h.parts_are in
    let list : h.after ≡ c.in_ok-weight.list.now = cc in
    rw list at h.cpus_are)
    c.add_set.ensures
