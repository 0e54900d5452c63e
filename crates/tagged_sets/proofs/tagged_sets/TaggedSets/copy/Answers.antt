use Rattle.tagged_sets.proofs.tagged_sets.TaggedSets.copy.Goals as goal

pub invariant_of-result : goal.invariant_of-result
invariant_of-result g c =
    rw (c.in_ok-heads.ensures.items, c.as_slice.ensures.value, c.in_ok-ranges.ensures.items, c.as_slice-2.ensures.value, c.in_ok-wide.ensures.items, c.as_slice-3.ensures.value) c.self.invariant

pub returns : goal.returns
returns g c =
    rw (c.in_ok-heads.ensures.items, c.as_slice.ensures.value, c.in_ok-ranges.ensures.items, c.as_slice-2.ensures.value) c.self.view_is
