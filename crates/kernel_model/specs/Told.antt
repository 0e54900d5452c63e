-- A writing call that was made, as the trace has it.
use Rattle.kernel_model.specs.declared.trace.CallMade.{CallMade}
use Rattle.kernel_model.specs.declared.trace.CallMade.TheVariants as made
use Rattle.kernel_model.specs.Trace.{WritingCall, MadeGroup, RemovedGroup, WroteCpus, WroteMems, Spawned, EndedGroup}

-- the call with its answer
abbrev pub told : CallMade → WritingCall
told (made.Group parent name r) = MadeGroup parent name.now r
told (made.Removal g r) = RemovedGroup g r
told (made.Cpus g cpus r) = WroteCpus g cpus.now r
told (made.Mems g mems r) = WroteMems g mems.now r
told (made.Process g r) = Spawned g r
told (made.End g r) = EndedGroup g r
