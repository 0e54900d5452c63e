use Rattle.std.proofs.Common.{refl}
use Rattle.apply_plan.proofs.FinishLemmas.{finish_safe, finish_done, finish_between, finish_counts, finish_spends, finish_all, finish_few, finish_keeps, finish_places}
use Rattle.apply_plan.proofs.handover.Handover.finish.Goals as goal

pub returns : goal.returns
returns g c =
    let old = g.K.Kernel.state c.args.kernel.now in
    let new = g.K.Kernel.state c.finish_body.new.kernel in
    let h = c.args.self.now in
    let a = c.finish_body.ensures in
    record {
      same = refl;
      finishes = a.finishes;
      safe = finish_safe h a.valid old new c.requires c.finish_body.result a.finishes;
      done = finish_done h a.valid old new c.requires c.finish_body.result a.finishes;
      made = finish_spends h a.valid old new c.requires c.finish_body.result a.finishes;
      all = finish_all h a.valid old new c.requires c.finish_body.result a.finishes;
      few = finish_few h a.valid old new c.requires c.finish_body.result a.finishes;
      between = finish_between h a.valid old new c.requires c.finish_body.result a.finishes;
      counted = finish_counts h a.valid old new c.requires c.finish_body.result a.finishes;
      rest = finish_keeps h a.valid old new c.requires c.finish_body.result a.finishes;
      placed = finish_places h a.valid old new c.requires c.finish_body.result a.finishes;
    }
