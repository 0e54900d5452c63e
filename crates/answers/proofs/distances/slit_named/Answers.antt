-- Standard input, or the file of the name.
use Rattle.std.proofs.Common.{◌≡◌, bytes_eq, codes, false, rules, true}
use Rattle.answers.proofs.Named.{Reads-opened}
use Rattle.answers.proofs.distances.slit_named.Goals as goal
use Rattle.std.proofs.lemmas.Bool.{both_ways}

pub returns-then-eq : goal.returns-then-eq
returns-then-eq g c =
    let is : bytes_eq c.args.name.now (codes "-") ≡ true = search rules in
    let t = c.do_slit.ensures in
    (t.0, (t.1.0, (λ _. Reads-opened g.I.Input.gives c.args.input t.1.0 t.1.1, λ other. absurd (both_ways _ other is)), t.1.2), rw is t.2)

pub returns-else-eq : goal.returns-else-eq
returns-else-eq g c =
    let is : bytes_eq c.args.name.now (codes "-") ≡ false = search rules in
    let t = c.do_slit-else-eq.ensures in
    (t.0, (t.1.0, (λ other. absurd (both_ways _ is other), λ _. t.1.1), t.1.2), rw is t.2)
