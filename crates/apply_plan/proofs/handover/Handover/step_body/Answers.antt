use Rattle.std.proofs.Common.{List, sym, ap, ◌∙◌}
use Rattle.std.specs.Prelude.{find, is_none}
use Rattle.apply_plan.specs.declared.entry.Entry.{Entry}
use Rattle.apply_plan.specs.DueWrite.{must_move, due_write, written, progress_of}
use Rattle.apply_plan.specs.DueLemmas.{nothing_is_due}
use Rattle.apply_plan.proofs.handover.Handover.step_body.Goals as goal

pub returns-then-all_arrived-clause-step : goal.returns-then-all_arrived-clause-step
returns-then-all_arrived-clause-step g c =
    let all = c.entries-entries.ensures in
    let none = nothing_is_due (g.K.Kernel.state c.make_due.new.kernel) c.args.self.now.reserved c.args.self.now.entries all.valid.some
    (ap (λ (entries : List Entry). is_none (find (must_move (g.K.Kernel.state c.make_due.new.kernel)) entries)) (sym all.entries) ∙ sym c.all_arrived.ensures ∙ c.if-all_arrived.true) in
    let old = g.K.Kernel.state c.args.kernel.now in
    (c.in_ok-place.ensures.made ∙ (λ i. written old (due_write old (c.self.view_is i).reserved (all.entries i))), sym (ap progress_of none))
