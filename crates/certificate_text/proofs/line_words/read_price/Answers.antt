use Rattle.std.proofs.Common.{◌≡◌, sym, ◌∙◌}
use Rattle.certificate_text.proofs.line_words.read_price.Goals as goal

pub returns-in_err-cpus : goal.returns-in_err-cpus
returns-in_err-cpus c = rw c.from_residual-in_err-cpus.ensures (λ price h.
    let same = sym c.in_ok-amount.ensures ∙ h.words_are in
    let list : h.list ≡ c.in_ok-amount.cpus.now = cc in
    c.in_err-cpus.ensures price.cpus (rw list at h.cpus_are))
