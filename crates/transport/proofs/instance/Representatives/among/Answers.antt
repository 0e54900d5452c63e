use Rattle.std.proofs.Common.{◌≡◌, ℕ, true, ◌&&◌, sym, ap, ◌∙◌, subst}
use Rattle.std.proofs.lemmas.Bool.{and_from}
use Rattle.std.specs.FinSet as set
use Rattle.cpu_set.specs.PointwiseLaws.{contains-intersection}
use Rattle.certificate.specs.TestLaws.{true_left, true_right}
use Rattle.transport.specs.Numbers.{number, IsIn}
use Rattle.transport.proofs.instance.Representatives.among.Goals as goal
use Rattle.transport.proofs.instance.Representatives.among.Goals.{After-meet}

in_both : (c : After-meet) → (cpu : ℕ) → set.contains c.meet.result cpu ≡ (set.contains c.self.inside.set cpu && set.contains c.args.cpus.now cpu)
in_both c cpu = ap (λ s. set.contains s cpu) c.meet.ensures ∙ contains-intersection _ _ cpu

pub returns-clause-first : goal.returns-clause-first
returns-clause-first c = λ cpu has.
    let e = in_both (goal.at.returns-clause-first c).After-meet cpu in
    subst (λ cpus. IsIn cpus cpu) c.self.view_is (c.self.invariant.first cpu (true_left _ _ (sym e ∙ has)))

pub returns-clause-some : goal.returns-clause-some
returns-clause-some c = λ cpu has.
    let e = in_both (goal.at.returns-clause-some c).After-meet cpu in
    true_right _ _ (sym e ∙ has)

pub returns-clause-all : goal.returns-clause-all
returns-clause-all c = λ g lt has.
    let e = in_both (goal.at.returns-clause-all c).After-meet (number c.args.self.now g) in
    e ∙ and_from _ _ (subst (λ cpus. set.contains c.self.inside.set (number cpus g) ≡ true) c.self.view_is (c.self.invariant.all g (rw c.self.view_is lt))) has
