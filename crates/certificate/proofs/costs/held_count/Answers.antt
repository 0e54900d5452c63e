use Rattle.std.proofs.Common.{◌≡◌, Bool, true, false, cond, refl, sym, ap, ◌∙◌}
use Rattle.std.specs.Int.{from_bool}
use Rattle.certificate.proofs.Singles.{len-single, in_range-single}
use Rattle.certificate.proofs.costs.held_count.Goals as goal

in_bits : (b : Bool) → from_bool b ≡ cond b 1 0
in_bits true = refl
in_bits false = refl

pub returns-in-Some-clause-is_len : goal.returns-in-Some-clause-is_len
returns-in-Some-clause-is_len c d =
    c.from.ensures ∙ in_bits c.contains.result ∙ ap (λ b. cond b 1 0) c.contains.ensures
    ∙ sym (len-single c.args.held.now _ c.in-Some.cpu (λ q. sym (c.ranges-2.ensures.members d q) ∙ c.in-Some.ensures.alone q))

pub returns-in-Some-clause-in_range : goal.returns-in-Some-clause-in_range
returns-in-Some-clause-in_range c d =
    in_range-single c.args.held.now _ c.in-Some.cpu (λ q. sym (c.ranges-2.ensures.members d q) ∙ c.in-Some.ensures.alone q) c.in-Some.ensures.in_range
