use Rattle.std.proofs.Common.{refl, ◌∙◌, arith}
use Rattle.std.proofs.lemmas.List.{length-set}
use Rattle.blame.proofs.MarkingLemmas.{left_fewer}
use Rattle.blame.proofs.OwnerLemmas.{noted_first, noted_more}
use Rattle.blame.proofs.owners.note.Goals as goal

pub loop-cpu-init : goal.loop-cpu-init
loop-cpu-init c = record { noted = noted_first c.args.cpus.now c.args.cpus.now c.args.row c.args.own.now.items refl; long = c.requires }

pub loop-cpu-smaller : goal.loop-cpu-smaller
loop-cpu-smaller c = left_fewer _ _ c.in-Some.cpu c.remove.ensures c.in-Some.ensures.first.member

pub loop-cpu-preserved : goal.loop-cpu-preserved
loop-cpu-preserved c =
    let was = c.loop-cpu.invariant in
    record {
      noted = noted_more c.args.cpus.now _ _ c.args.row c.in-Some.cpu c.args.own.now.items _ was.noted c.in-Some.ensures.first.member
          (omega (arith, was.long, c.in-Some.ensures.in_range)) c.remove.ensures;
      long = length-set _ c.in-Some.cpu c.args.row ∙ was.long;
    }
