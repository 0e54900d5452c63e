use Rattle.std.proofs.Common.{◌≡◌, [], ◌∷◌, ◌++◌, refl, sym, ◌∙◌, ap, append_assoc}
use Rattle.std.specs.List.{AllZip}
use Rattle.certificate_text.specs.Line.{IsOfferWord, words}
use Rattle.certificate_text.proofs.Zips.{zip_at, zip_append}
use Rattle.certificate_text.proofs.offer.read_offers.Goals as goal

pub returns-in_default-add_offer-clause-bad : goal.returns-in_default-add_offer-clause-bad
returns-in_default-add_offer-clause-bad c = λ _ bad os h.
    let front = c.loop-word.invariant.0 in
    let whole : words c.args.text.now ≡ front ++ c.in-Some.word.now ∷ words c.in-Some.after.now =
    c.loop-word.invariant.2 ∙ ap (λ ws. front ++ ws) c.in-Some.ensures.0 in
    let some = zip_at IsOfferWord front c.in-Some.word.now (words c.in-Some.after.now) os (rw whole at h) in
    c.in_default-add_offer.ensures some.0 some.1

pub loop-word-init : goal.loop-word-init
loop-word-init c = ([], [], refl, tt, λ _. c.new-offers.ensures)

pub loop-word-preserved : goal.loop-word-preserved
loop-word-preserved c =
    let front = c.loop-word.invariant.0 in
    let os = c.loop-word.invariant.1 in
    let offer = c.in-Some-add_offer.ensures.0 in
    let whole : words c.args.text.now ≡ (front ++ c.in-Some.word.now ∷ []) ++ words c.in-Some.after.now =
    c.loop-word.invariant.2 ∙ ap (λ ws. front ++ ws) c.in-Some.ensures.0 ∙ sym (append_assoc front (c.in-Some.word.now ∷ []) (words c.in-Some.after.now)) in
    let one : AllZip IsOfferWord (c.in-Some.word.now ∷ []) (offer ∷ []) = (c.in-Some-add_offer.ensures.1, tt) in (
      front ++ c.in-Some.word.now ∷ [],
      os ++ offer ∷ [],
      whole,
      zip_append IsOfferWord front (c.in-Some.word.now ∷ []) os (offer ∷ []) c.loop-word.invariant.3 one,
      λ kept. let k = c.in-Some-add_offer.ensures.2 kept in k.1 ∙ ap (λ xs. xs ++ offer ∷ []) (c.loop-word.invariant.4 k.0),
    )

pub returns-in_default-add_offer-2-clause-bad : goal.returns-in_default-add_offer-2-clause-bad
returns-in_default-add_offer-2-clause-bad c = λ _ bad os h.
    let front = c.loop-word.invariant.0 in
    let whole : words c.args.text.now ≡ front ++ c.loop-word.rest.now ∷ [] =
    c.loop-word.invariant.2 ∙ ap (λ ws. front ++ ws) c.in_default.ensures in
    let some = zip_at IsOfferWord front c.loop-word.rest.now [] os (rw whole at h) in
    c.in_default-add_offer-2.ensures some.0 some.1

pub returns-then-lacks_more-clause-memory : goal.returns-then-lacks_more-clause-memory
returns-then-lacks_more-clause-memory c = λ _.
    let front = c.loop-word.invariant.0 in
    let os = c.loop-word.invariant.1 in
    let offer = c.in-Some-add_offer-2.ensures.0 in
    let whole : words c.args.text.now ≡ front ++ c.loop-word.rest.now ∷ [] =
    c.loop-word.invariant.2 ∙ ap (λ ws. front ++ ws) c.in_default.ensures in
    let one : AllZip IsOfferWord (c.loop-word.rest.now ∷ []) (offer ∷ []) = (c.in-Some-add_offer-2.ensures.1, tt) in
    (os ++ offer ∷ [], rw whole (zip_append IsOfferWord front (c.loop-word.rest.now ∷ []) os (offer ∷ []) c.loop-word.invariant.3 one))

pub returns-clause-ok : goal.returns-clause-ok
returns-clause-ok c =
    let front = c.loop-word.invariant.0 in
    let os = c.loop-word.invariant.1 in
    let offer = c.in-Some-add_offer-2.ensures.0 in
    let whole : words c.args.text.now ≡ front ++ c.loop-word.rest.now ∷ [] =
    c.loop-word.invariant.2 ∙ ap (λ ws. front ++ ws) c.in_default.ensures in
    let one : AllZip IsOfferWord (c.loop-word.rest.now ∷ []) (offer ∷ []) = (c.in-Some-add_offer-2.ensures.1, tt) in
    let kept = c.in-Some-add_offer-2.ensures.2 c.if-lacks_more.false in
    let all = kept.1 ∙ ap (λ xs. xs ++ offer ∷ []) (c.loop-word.invariant.4 kept.0) in
    rw (whole, all) (zip_append IsOfferWord front (c.loop-word.rest.now ∷ []) os (offer ∷ []) c.loop-word.invariant.3 one)
