use Rattle.direct_finish.specs.FinishLemmas.{finish_placed, finish_safe, finish_on_way, finish_keeps, finish_counts, finish_spends, finish_few, finish_done, finish_squeezes}
use Rattle.direct_finish.proofs.finish.finish_directly.Goals as goal

pub returns : goal.returns
returns g c =
    let old = g.K.Kernel.state c.args.kernel.now in
    let new = g.K.Kernel.state c.finish_body.new.kernel in
    let d = c.args.handover.now in
    let least = g.C.Cores.least_of c.args.cores.now in
    let a = c.finish_body.ensures in
    let valid = a.valid.handover in
    let r = c.finish_body.result in
    record {
      same = a.same;
      finishes = a.finishes;
      safe = finish_safe d valid least a.serves old new c.requires.placed r a.finishes c.requires.safe;
      done = finish_done d valid least a.serves old new c.requires.placed r a.finishes;
      made = finish_spends d valid least a.serves old new c.requires.placed r a.finishes;
      few = finish_few d valid least a.serves old new c.requires.placed r a.finishes;
      on_way = finish_on_way d valid least a.serves old new c.requires.placed r a.finishes;
      squeezes = finish_squeezes d valid least a.serves old new c.requires.placed r a.finishes;
      counted = finish_counts d valid least a.serves old new c.requires.placed r a.finishes;
      rest = finish_keeps d valid least a.serves old new c.requires.placed r a.finishes;
      placed = finish_placed d valid least a.serves old new c.requires.placed r a.finishes;
    }
