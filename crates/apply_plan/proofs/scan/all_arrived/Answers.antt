use Rattle.std.proofs.Common.{List, take, drop, sym, ap, ◌∙◌}
use Rattle.std.proofs.lemmas.List.{take-append-drop}
use Rattle.std.specs.Prelude.{find, is_none}
use Rattle.apply_plan.specs.declared.entry.Entry.{Entry}
use Rattle.apply_plan.specs.DueWrite.{must_move}
use Rattle.apply_plan.specs.ListLemmas.{none_in_both, some_in_later}
use Rattle.apply_plan.proofs.scan.all_arrived.Goals as goal

pub returns-then-have_arrived : goal.returns-then-have_arrived
returns-then-have_arrived g c =
    let test = must_move (g.K.Kernel.state c.args.kernel.now) in
    let entries = c.args.entries.now in
    let from = c.min.result in
    c.have_arrived-then-have_arrived.ensures
    ∙ ap (λ (l : List Entry). is_none (find test l)) c.split_at.ensures.front
    ∙ sym (none_in_both test (take from entries) (drop from entries)
    (ap (λ (l : List Entry). is_none (find test l)) (sym c.split_at.ensures.back) ∙ sym c.have_arrived.ensures ∙ c.if-have_arrived.true))
    ∙ ap (λ (l : List Entry). is_none (find test l)) (take-append-drop from entries)

pub returns-else-have_arrived : goal.returns-else-have_arrived
returns-else-have_arrived g c =
    let test = must_move (g.K.Kernel.state c.args.kernel.now) in
    let entries = c.args.entries.now in
    let from = c.min.result in
    c.if-have_arrived.false
    ∙ sym (some_in_later test (take from entries) (drop from entries)
    (ap (λ (l : List Entry). is_none (find test l)) (sym c.split_at.ensures.back) ∙ sym c.have_arrived.ensures ∙ c.if-have_arrived.false))
    ∙ ap (λ (l : List Entry). is_none (find test l)) (take-append-drop from entries)
