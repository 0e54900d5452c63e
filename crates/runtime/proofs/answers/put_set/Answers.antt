use Rattle.std.proofs.Common.{◌≡◌, ◌∙◌, sym, true, false}
use Rattle.runtime.proofs.SetTexts.{set_text-empty, set_text-some}
use Rattle.runtime.proofs.answers.put_set.Goals as goal

pub returns-then-is_empty : goal.returns-then-is_empty
returns-then-is_empty g c = rw (set_text-empty c.args.set.now (c.is_empty.ensures.0 c.if-is_empty.true)) c.put.ensures

pub returns : goal.returns
returns g c =
    rw (set_text-some c.args.set.now (λ e. let t : true ≡ false = sym (c.is_empty.ensures.1 e) ∙ c.if-is_empty.false in let f : ⊥ = cc in f))
    c.write_list.ensures
