use Rattle.std.proofs.Common.{◌≡◌, Some, None, refl, sym, ap, ◌∙◌}
use Rattle.transport.specs.declared.labels.Label.{Label}
use Rattle.transport.proofs.Running.{label_read}
use Rattle.transport.proofs.augment.nearest_row.Goals as goal

same_label : (a b : Label) → Some a ≡ Some b → a ≡ b
same_label a b h = cc

pub returns-in-Some : goal.returns-in-Some
returns-in-Some c = λ n its. ap (λ (x : Label). x.row) (same_label c.in-Some.label n (sym (label_read _ _ _ _ _ c.requires refl c.index.ensures c.in-Some.is) ∙ its))

pub returns-in-None : goal.returns-in-None
returns-in-None c = λ n its. (let both : Some n ≡ None = sym its ∙ label_read _ _ _ _ _ c.requires refl c.index.ensures c.in-None.is in cc)
