use Rattle.machine.proofs.SoundLaws.{IsIndexed-copied}
use Rattle.machine.proofs.machine.Machine.indexed.Goals as goal

pub siblings_of-requires : goal.siblings_of-requires
siblings_of-requires c = record { room = c.requires.sound.cores.room; low = c.requires.sound.cores.lowest }

pub firsts_of-requires : goal.firsts_of-requires
firsts_of-requires c = c.requires.sound.cores.room

pub invariant_of-result : goal.invariant_of-result
invariant_of-result c =
    IsIndexed-copied _ _ _ _ _ _ _ _ _ _ _ _ _ _ _
    c.in_ok-sets_of.ensures c.in_ok-from_slice.ensures.items c.in_ok-from_slice-3.ensures.items
    c.in_ok-from_slice-2.ensures.items c.in_ok-from_slice-4.ensures.items c.requires.sound
    c.requires.nodes.present c.requires.in_range c.places_of.ensures c.siblings_of.ensures c.firsts_of.ensures

pub returns-clause-sound : goal.returns-clause-sound
returns-clause-sound c = (invariant_of-result c).sound
