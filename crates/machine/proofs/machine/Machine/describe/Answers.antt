use Rattle.std.proofs.Common.{map}
use Rattle.std.proofs.lemmas.List.{length-map}
use Rattle.serde_json.specs.View.{view}
use Rattle.machine.proofs.SoundLaws.{IsSound-read}
use Rattle.machine.proofs.machine.Machine.describe.Goals as goal

pub indexed-requires-clause-sound : goal.indexed-requires-clause-sound
indexed-requires-clause-sound c =
    let items = c.in_ok-items.items.now in
    let present = c.in_ok-present.ensures in
    IsSound-read (map view items) _ _ _ _ _ _ _ _ _ _ (length-map items view)
    present.some present.few present.apart c.as_slice.ensures.value c.in_ok-distances.ensures.are
    present.union c.stays_below_the_limit.ensures
    c.in_ok-reserved.ensures.some c.in_ok-reserved.ensures.present c.in_ok-offline.ensures.within c.minus-online.ensures
    c.in_ok-cores.ensures.fault c.in_ok-cores.ensures.lowest c.in_ok-cores.ensures.threads
