use Rattle.std.proofs.Common.{◌<◌, ◌≤◌, ◌≡◌, [], length, ap, subst, inl, inr, arith}
use Rattle.std.specs.Prelude.{All}
use Rattle.std.proofs.lemmas.Bool.{cases_lt}
use Rattle.std.proofs.lemmas.List.{get_or_default, get_or_past}
use Rattle.twins.specs.Holdings.{shared_out, held_of}
use Rattle.twins.specs.declared.holders.Share.{Share}
use Rattle.network_simplex.proofs.room.has_room.Goals as goal

pub returns : goal.returns
returns c = λ yes. record {
  same = same;
  rows_in = λ g d lt.
      subst (All (λ (s : Share). s.row < c.args.rows)) (get_or_default c.args.holdings.now g [] d lt) (c.loop-g.invariant g (omega (arith, lt, same, all))).rows_in;
  room = λ g. elim (cases_lt g (length c.args.classes.now)) [
    | inl lt ↦ (c.loop-g.invariant g (omega (arith, lt, all))).room
    | inr past ↦ (let none : held_of c.args.holdings.now g ≡ 0 = ap shared_out (get_or_past c.args.holdings.now g [] (omega (arith, past, same))) in omega (arith, none))
  ];
}
  where
    same : length c.args.holdings.now ≡ length c.args.classes.now
    same = omega (arith, c.if-holdings-classes.false)

    all : length c.args.classes.now ≤ c.loop-g.g
    all = omega (arith, c.loop-g-test.false, c.loop-g.auto.g-end)
