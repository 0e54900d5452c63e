use Rattle.std.proofs.Common.{◌≡◌, ℕ, length, Option, Vec, Global, refl, ap, ◌∙◌, subst, arith}
use Rattle.std.specs.Vec.{with_items}
use Rattle.std.proofs.lemmas.List.{with_items_is}
use Rattle.transport.specs.Searches.{AreNeverDue}
use Rattle.transport.specs.Settled.{IsForgotten}
use Rattle.transport.specs.declared.labels.Label.{Label}
use Rattle.transport.proofs.Clearing.{label_at, both_forgotten}
use Rattle.transport.proofs.labels.Labels.clear.Goals as goal

pub returns : goal.returns
returns c =
    let old : Vec (Option Label) Global = c.args.self.now.of_class in
    let mid : Vec (Option Label) Global = with_items old c.forget.new.of_class in
    let labelled : IsForgotten old.items c.forget.new.of_class c.args.self.now.labelled.items = rw (← c.deref_mut.ensures.value, ← c.deref.ensures.value) c.forget.ensures.forgotten in
    let mid_is : mid.items ≡ c.forget.new.of_class = with_items_is old c.forget.new.of_class (omega (arith, labelled.long, old.ok.0)) in
    let taken : IsForgotten c.forget.new.of_class c.forget-2.new.of_class c.args.taken.now = subst (λ ns. IsForgotten ns c.forget-2.new.of_class c.args.taken.now) (c.deref_mut-3.ensures.value ∙ mid_is) c.forget-2.ensures.forgotten in
    let new_is : (with_items mid c.forget-2.new.of_class).items ≡ c.forget-2.new.of_class = with_items_is mid c.forget-2.new.of_class (omega (arith, taken.long, ap length mid_is, mid.ok.0)) in
    let due : Vec ℕ Global = c.args.self.now.due in
    let mid_due : Vec ℕ Global = with_items due c.forget.new.due in
    let due_long : length c.forget.new.due ≡ length due.items = c.forget.ensures.long ∙ ap length c.deref_mut-2.ensures.value in
    let mid_due_is : mid_due.items ≡ c.forget.new.due = with_items_is due c.forget.new.due (omega (arith, due_long, due.ok.0)) in
    let new_long : length c.forget-2.new.due ≡ length c.forget.new.due = c.forget-2.ensures.long ∙ ap length (c.deref_mut-4.ensures.value ∙ mid_due_is) in
    let new_due_is : (with_items mid_due c.forget-2.new.due).items ≡ c.forget-2.new.due = with_items_is mid_due c.forget-2.new.due (omega (arith, new_long, ap length mid_due_is, mid_due.ok.0)) in
    let never : AreNeverDue c.forget.new.of_class c.forget.new.due = c.forget.ensures.never (rw (c.deref_mut.ensures.value, c.deref_mut-2.ensures.value) c.requires.unlabelled) in
    record {
      labels_long = ap length new_is ∙ taken.long ∙ labelled.long;
      due_long = ap length new_due_is ∙ new_long ∙ due_long ∙ c.requires.due_long;
      due = rw (new_is, new_due_is) (c.forget-2.ensures.never (rw (c.deref_mut-3.ensures.value, mid_is, c.deref_mut-4.ensures.value, mid_due_is) never));
      of_class = λ g. ap (λ ns. label_at ns g) new_is ∙ both_forgotten _ _ _ _ _ c.requires.all labelled taken g;
      labelled = c.clear.ensures.items;
      free_end = refl;
    }
