use Rattle.std.proofs.Common.{◌==◌, arith, length-drop}
use Rattle.std.proofs.lemmas.List.{take_rest}
use Rattle.certificate_text.proofs.Cuts.{one_part, first_part}
use Rattle.certificate_text.proofs.split_once.split_once.Goals as goal

pub returns-in-None : goal.returns-in-None
returns-in-None c = one_part (λ b. b == c.args.separator) c.args.text.now c.in-None.ensures

pub returns-in-Some : goal.returns-in-Some
returns-in-Some c =
    let first = first_part (λ b. b == c.args.separator) c.args.text.now c.in-Some.at c.in-Some.ensures.0 c.in-Some.ensures.1 in
    rw take_rest (first.1, simp length-drop (omega arith))
