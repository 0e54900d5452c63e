use Rattle.std.proofs.Common.{◌≡◌, refl, ap, ◌∙◌, subst, arith}
use Rattle.twins.specs.Holdings.{share_of}
use Rattle.transport.specs.Numbers.{IsIn}
use Rattle.transport.specs.Shares.{IsShareTaken}
use Rattle.transport.specs.States.{shares_of}
use Rattle.transport.proofs.Running.{shares_read}
use Rattle.transport.proofs.Cells.{given_up_cells, given_up_holdings, kept_none}
use Rattle.transport.proofs.augment.take_from.Goals as goal
use Rattle.transport.proofs.augment.take_from.Goals.{After-behind-assignment}

are : (c : After-behind-assignment) → c.behind-assignment.inside.shares.items ≡ shares_of c.args.assignment.now.holdings.items c.args.class
are c = c.behind-assignment.view_is ∙ shares_read _ _ _ _ c.requires.class refl c.index_mut.ensures.value

pub take-requires : goal.take-requires
take-requires c =
    let e = ap (λ xs. share_of c.args.row xs) (are (goal.at.take-requires c).After-behind-assignment) in
    omega (arith, e, c.requires.held)

pub returns : goal.returns
returns c =
    let e = are (goal.at.returns c).After-behind-assignment in
    let s = subst (λ xs. IsShareTaken xs c.take.new.shares.items c.args.row c.args.amount) e c.take.ensures in
    record {
      given_up = given_up_cells c.args.assignment.now.holdings.items _ c.args.class c.args.row c.args.amount c.take.new.shares.items c.requires.class refl s;
      holdings = λ rows classes in_rows h. given_up_holdings c.args.assignment.now.holdings.items _ c.args.class c.args.row c.args.amount c.take.new.shares.items c.requires.class refl rows classes in_rows s h;
      none = λ k none. kept_none c.args.assignment.now.holdings.items _ c.args.class c.args.row c.args.amount c.take.new.shares.items c.requires.class refl k (λ no h. no (subst (λ ns. IsIn ns k) s.holders h)) none;
      rest = record { values = refl; prices = refl; residual = refl; deficit = refl };
    }
