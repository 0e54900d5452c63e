use Rattle.std.proofs.Common.{◌≡◌, refl, sym, ap, ◌∙◌, subst, arith}
use Rattle.twins.specs.Holdings.{share_of}
use Rattle.transport.specs.Shares.{HasNoShare, IsShareGiven}
use Rattle.transport.specs.States.{shares_of}
use Rattle.transport.proofs.Running.{shares_read}
use Rattle.transport.proofs.Cells.{given_cells, given_holdings, kept_none}
use Rattle.transport.proofs.augment.give_to.Goals as goal
use Rattle.transport.proofs.augment.give_to.Goals.{After-behind-assignment}

are : (c : After-behind-assignment) → c.behind-assignment.inside.shares.items ≡ shares_of c.args.assignment.now.holdings.items c.args.class
are c = c.behind-assignment.view_is ∙ shares_read _ _ _ _ c.requires.class refl c.index_mut.ensures.value

pub give-requires-clause-fits : goal.give-requires-clause-fits
give-requires-clause-fits c =
    let e = ap (λ xs. share_of c.args.row xs) (are (goal.at.give-requires-clause-fits c).After-behind-assignment) in
    omega (arith, e, c.requires.bottleneck)

pub give-requires-clause-none : goal.give-requires-clause-none
give-requires-clause-none c = λ new. subst (HasNoShare c.args.row) (sym (are (goal.at.give-requires-clause-none c).After-behind-assignment)) (c.requires.none new)

pub returns : goal.returns
returns c =
    let e = are (goal.at.returns c).After-behind-assignment in
    let s = subst (λ xs. IsShareGiven xs c.give.new.shares.items c.args.row c.args.amount) e c.in_ok-give.ensures in
    record {
      given = given_cells c.args.assignment.now.holdings.items _ c.args.class c.args.row c.args.amount c.give.new.shares.items c.requires.class refl s;
      holdings = λ rows classes in_rows h. given_holdings c.args.assignment.now.holdings.items _ c.args.class c.args.row c.args.amount c.give.new.shares.items c.requires.class refl rows classes in_rows s h;
      none = λ k ne none. kept_none c.args.assignment.now.holdings.items _ c.args.class c.args.row c.args.amount c.give.new.shares.items c.requires.class refl k (s.none k ne) none;
      rest = record { values = refl; prices = refl; residual = refl; deficit = refl };
    }
