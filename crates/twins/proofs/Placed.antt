-- Sets of parts, kept by their places while sets are added.
use Rattle.std.proofs.Common.{◌≡◌, List, [], ◌∷◌, ◌++◌, length, map, refl, sym, ap, ◌∙◌}
use Rattle.std.specs.FinSet as set
use Rattle.std.specs.List.{All}
use Rattle.std.proofs.lemmas.List.{get_or_push, get_or_append_left, map-append}
use Rattle.std.proofs.lemmas.List.Elements.{All-head, All-tail}
use Rattle.cpu_set.specs.Ids.{Ids}
use Rattle.twins.specs.declared.parts.Part.{Part}
use Rattle.twins.specs.PartsView.{PartsView, set_of, IsPlaced, ArePlaced, parts_view, IsAdded}

sets_kept : (sets : List Ids) (s : Ids) (ps : List Part) → All (IsPlaced sets) ps → map (set_of (sets ++ s ∷ [])) ps ≡ map (set_of sets) ps
sets_kept sets s [] all = refl
sets_kept sets s (p ∷ ps) all =
    let here : set_of (sets ++ s ∷ []) p ≡ set_of sets p =
    get_or_append_left sets (s ∷ []) set.empty p.place (All-head (IsPlaced sets) p ps all).there in
    let rest : map (set_of (sets ++ s ∷ [])) ps ≡ map (set_of sets) ps = sets_kept sets s ps (All-tail (IsPlaced sets) p ps all) in
    ap (λ (t : Ids). t ∷ map (set_of (sets ++ s ∷ [])) ps) here ∙ ap (λ (l : List Ids). set_of sets p ∷ l) rest

-- the last set, as a part
last_set : (sets : List Ids) (s : Ids) (p : Part) → p.place ≡ length sets → set_of (sets ++ s ∷ []) p ≡ s
last_set sets s p last = get_or_push sets s set.empty p.place (sym last)

-- a set more, whose part is done
pub added :
    (sets sets_new : List Ids) (s : Ids) (waiting done done_new : List Part) (p : Part) (old : PartsView) → sets_new ≡ sets ++ s ∷ [] → done_new ≡ done ++ p ∷ []
    → p.place ≡ length sets → ArePlaced sets waiting done → parts_view sets waiting done ≡ old → IsAdded s old (parts_view sets_new waiting done_new)
added sets sets_new s waiting done done_new p old more one_more last placed is = rw (more, one_more, ← is) (record {
  waiting = sets_kept sets s waiting placed.waiting;
  done = map-append (set_of (sets ++ s ∷ [])) done (p ∷ [])
      ∙ ap (λ (l : List Ids). l ++ set_of (sets ++ s ∷ []) p ∷ []) (sets_kept sets s done placed.done)
      ∙ ap (λ (t : Ids). map (set_of sets) done ++ t ∷ []) (last_set sets s p last);
})
