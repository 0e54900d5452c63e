use Rattle.std.proofs.Common.{◌≡◌, ◌+◌, ◌<◌, ◌≤◌, [], length, get_or, replicate, rules, sym, ap, subst, ◌∙◌, arith}
use Rattle.std.specs.FinSet as set
use Rattle.std.proofs.lemmas.List.{get_or_default}
use Rattle.cpu_set.specs.Members.{InRange}
use Rattle.twins.specs.Holdings.{shared_out}
use Rattle.twins.proofs.Rounds.{Round, round_empty, round_more, round_end, next_free, rows_here, written_back}
use Rattle.twins.proofs.dealing.deal_body.Goals as goal
use Rattle.twins.proofs.dealing.deal_body.Goals.{After-as_slice}

pub loop-g-init : goal.loop-g-init
loop-g-init c =
    let items : c.in_ok-sets.sets.items ≡ replicate c.args.rows c.empty.result = c.in_ok-sets.ensures.items_if_clones_equal (search rules) in
    round_empty c.args.classes.now c.args.holdings.now c.args.rows c.in_ok-sets.sets.items c.empty.result items c.empty.ensures

class_is : (c : After-as_slice) → c.index-classes-g.result ≡ get_or c.args.classes.now c.loop-g.g set.empty
class_is c = c.index-classes-g.is ∙ get_or_default c.args.classes.now c.loop-g.g c.index-classes-g.result set.empty c.loop-g-test.true

in_holdings : (c : After-as_slice) → c.loop-g.g < length c.args.holdings.now
in_holdings c = omega (arith, c.loop-g-test.true, c.requires.same)

shares_are : (c : After-as_slice) → c.as_slice.result.now ≡ get_or c.args.holdings.now c.loop-g.g []
shares_are c =
    c.as_slice.ensures.value ∙ c.holders.view_is ∙ c.index-holdings-g.is
    ∙ get_or_default c.args.holdings.now c.loop-g.g c.index-holdings-g.result [] (in_holdings c)

pub deal_class-requires : goal.deal_class-requires
deal_class-requires c =
    let at = (goal.at.deal_class-requires c).After-as_slice in
    record {
      in_range = subst InRange (sym (class_is at)) (c.requires.in_range c.loop-g.g set.empty c.loop-g-test.true);
      rows = rows_here c.args.holdings.now c.args.rows c.loop-g.g (length c.as_mut_slice.result.now) c.as_slice.result.now (shares_are at) (in_holdings at) c.requires.rows
          (sym (ap length c.as_mut_slice.ensures.value ∙ c.loop-g.invariant.long));
      room =
          let here : shared_out (get_or c.args.holdings.now c.loop-g.g []) ≤ set.len (get_or c.args.classes.now c.loop-g.g set.empty) = c.requires.room c.loop-g.g in
          omega (arith, here, ap shared_out (shares_are at), ap set.len (class_is at));
      free = λ k cpu here holds.
          next_free c.args.classes.now c.args.holdings.now c.args.rows c.loop-g.sets.items c.loop-g.g c.requires.apart c.loop-g-test.true c.loop-g.invariant k cpu
          (ap (λ s. set.contains s cpu) (sym (class_is at)) ∙ here)
          (ap (λ l. set.contains (get_or l k set.empty) cpu) (sym c.as_mut_slice.ensures.value) ∙ holds);
    }

pub loop-g-preserved : goal.loop-g-preserved
loop-g-preserved c =
    let at = (goal.at.loop-g-preserved c).After-as_slice in
    subst (λ sets. Round c.args.classes.now c.args.holdings.now c.args.rows sets (c.loop-g.g + 1))
    (sym (written_back c.loop-g.sets.len c.deal_class.new.sets c.loop-g.sets.items c.as_mut_slice.result.now c.in_ok-deal_class.ensures.long c.as_mut_slice.ensures.value c.as_mut_slice.ensures.len))
    (round_more c.args.classes.now c.args.holdings.now c.args.rows c.as_mut_slice.result.now c.deal_class.new.sets c.loop-g.g c.index-classes-g.result c.as_slice.result.now
    c.requires.apart c.loop-g-test.true (class_is at) (shares_are at)
    (subst (λ sets. Round c.args.classes.now c.args.holdings.now c.args.rows sets c.loop-g.g) (sym c.as_mut_slice.ensures.value) c.loop-g.invariant)
    c.in_ok-deal_class.ensures)

pub returns : goal.returns
returns c = record {
  long = c.loop-g.invariant.long;
  dealt =
      round_end c.args.classes.now c.args.holdings.now c.args.rows c.loop-g.sets.items c.loop-g.g c.requires.in_range c.requires.same (omega arith) c.loop-g.invariant;
}
