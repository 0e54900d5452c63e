use Rattle.std.proofs.Common.{◌≡◌, sym, ◌∙◌}
use Rattle.certificate_text.proofs.line_words.read_hold.Goals as goal

pub returns-in_err-cpus : goal.returns-in_err-cpus
returns-in_err-cpus c = rw c.from_residual-in_err-cpus.ensures (λ id cpus value h.
    let same = sym c.in_ok-id.ensures ∙ h.words_are in
    let list : h.list ≡ c.in_ok-id.cpus.now = cc in
    c.in_err-cpus.ensures cpus (rw list at h.cpus_are))
