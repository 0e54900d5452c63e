use Rattle.std.proofs.Common.{◌≡◌, ℕ, ◌-◌, ◌<◌, Vec, Global, length, set, refl, sym, ap, ◌∙◌, subst, arith}
use Rattle.transport.specs.Numbers.{number}
use Rattle.transport.specs.ReachedRows.{parent_class, index, row_at}
use Rattle.transport.specs.States.{IsNoHolder}
use Rattle.transport.proofs.Numbers.{read_number}
use Rattle.transport.proofs.Paths.{path_start, path_row, path_fits, path_parent_of, path_held_of, path_holds, path_smaller, path_step, set_as}
use Rattle.transport.proofs.Augmentation.{end_tight, end_row, end_others, end_class}
use Rattle.transport.proofs.augment.augment.Goals as goal
use Rattle.transport.proofs.augment.augment.Goals.{After-index, After-index-class}

pub path-init : goal.path-init
path-init c = record { augmenting = λ ws h. path_start ws _ _ _ _ h c.requires.bottleneck; holdings = c.requires.found.1.running.holdings; none = λ k none. none; rest = record { values = refl; prices = refl; residual = refl; deficit = refl } }

in_rows : (c : After-index) → c.path.row < length c.args.assignment.now.values.items
in_rows c = path_row _ _ _ _ _ _ _ _ c.requires.found.1.running (c.path.invariant.augmenting _ c.requires.found.1)

at_place : (c : After-index) → index c.args.tree.now.reached_rows c.path.row ≡ c.index.result.now
at_place c = read_number _ _ _ _ (in_rows c) c.requires.found.1.running.search.reached_rows.index_long c.index.ensures

through : (c : After-index-class) → c.index-class.result.now ≡ parent_class c.args.tree.now.reached_rows c.path.row
through c = sym (read_number _ _ _ _ (path_row _ _ _ _ _ _ _ _ c.requires.found.1.running (c.path.invariant.augmenting _ c.requires.found.1)) c.requires.found.1.running.search.reached_rows.parent_class_long c.index-class.ensures)

pub give_to-requires-clause-bottleneck : goal.give_to-requires-clause-bottleneck
give_to-requires-clause-bottleneck c =
    path_fits _ _ _ _ _ _ _ _ c.requires.found.1.running (c.path.invariant.augmenting _ c.requires.found.1) c.requires.residual (c.requires.sizes c.path.class)

pub index-class-requires : goal.index-class-requires
index-class-requires c =
    let i = (goal.at.index-class-requires c).After-index in
    omega (arith, in_rows i, c.requires.found.1.running.search.reached_rows.parent_class_long, c.args.tree.now.reached_rows.parent_class.ok.0)

pub take_from-requires-clause-class : goal.take_from-requires-clause-class
take_from-requires-clause-class c =
    let i = (goal.at.take_from-requires-clause-class c).After-index in
    let j = (goal.at.take_from-requires-clause-class c).After-index-class in
    let v = path_parent_of _ _ _ _ _ _ _ _ c.requires.found.1.running (c.path.invariant.augmenting _ c.requires.found.1) (omega (arith, at_place i, c.path-test.true)) _ (through j) in
    let h = c.in_ok-give_to.ensures.holdings _ _ (in_rows i) c.path.invariant.holdings in
    omega (arith, v, h.long)

pub take_from-requires-clause-held : goal.take_from-requires-clause-held
take_from-requires-clause-held c =
    let i = (goal.at.take_from-requires-clause-held c).After-index in
    let j = (goal.at.take_from-requires-clause-held c).After-index-class in
    path_held_of _ _ _ _ _ _ _ _ c.requires.found.1.running (c.path.invariant.augmenting _ c.requires.found.1) (omega (arith, at_place i, c.path-test.true)) _ _ (through j) c.in_ok-give_to.ensures.given

pub nearest_row-row-requires : goal.nearest_row-row-requires
nearest_row-row-requires c =
    let i = (goal.at.nearest_row-row-requires c).After-index in
    let j = (goal.at.nearest_row-row-requires c).After-index-class in
    let v = path_parent_of _ _ _ _ _ _ _ _ c.requires.found.1.running (c.path.invariant.augmenting _ c.requires.found.1) (omega (arith, at_place i, c.path-test.true)) _ (through j) in
    omega (arith, v, c.requires.found.1.running.search.labels_long)

pub path-preserved : goal.path-preserved
path-preserved c =
    let i = (goal.at.path-preserved c).After-index in
    let j = (goal.at.path-preserved c).After-index-class in
    let mid = c.in_ok-give_to.ensures.holdings _ _ (in_rows i) c.path.invariant.holdings in
    let deep : 0 < index c.args.tree.now.reached_rows c.path.row = omega (arith, at_place i, c.path-test.true) in
    record {
      augmenting = λ ws h. path_step ws _ _ _ _ _ _ _ h.running (c.path.invariant.augmenting ws h) deep _ _ _ _ (through j) c.nearest_row-row.ensures c.in_ok-give_to.ensures.given c.take_from.ensures.given_up;
      holdings = c.take_from.ensures.holdings _ _ (in_rows i) (c.in_ok-give_to.ensures.holdings _ _ (in_rows i) c.path.invariant.holdings);
      none = λ k none. c.take_from.ensures.none k
          (c.in_ok-give_to.ensures.none k (path_holds _ _ _ _ _ _ _ _ c.requires.found.1.running (c.path.invariant.augmenting _ c.requires.found.1) deep k none) (c.path.invariant.none k none));
      rest = record {
        values = c.take_from.ensures.rest.values ∙ c.in_ok-give_to.ensures.rest.values ∙ c.path.invariant.rest.values;
        prices = c.take_from.ensures.rest.prices ∙ c.in_ok-give_to.ensures.rest.prices ∙ c.path.invariant.rest.prices;
        residual = c.take_from.ensures.rest.residual ∙ c.in_ok-give_to.ensures.rest.residual ∙ c.path.invariant.rest.residual;
        deficit = c.take_from.ensures.rest.deficit ∙ c.in_ok-give_to.ensures.rest.deficit ∙ c.path.invariant.rest.deficit;
      };
    }

pub path-smaller : goal.path-smaller
path-smaller c =
    let i = (goal.at.path-smaller c).After-index in
    let j = (goal.at.path-smaller c).After-index-class in
    path_smaller _ _ _ _ _ _ _ _ c.requires.found.1.running (c.path.invariant.augmenting _ c.requires.found.1) (omega (arith, at_place i, c.path-test.true)) _ _ (through j) c.nearest_row-row.ensures

pub give_to-requires-2-clause-bottleneck : goal.give_to-requires-2-clause-bottleneck
give_to-requires-2-clause-bottleneck c =
    path_fits _ _ _ _ _ _ _ _ c.requires.found.1.running (c.path.invariant.augmenting _ c.requires.found.1) c.requires.residual (c.requires.sizes c.path.class)

pub give_to-requires-2-clause-none : goal.give_to-requires-2-clause-none
give_to-requires-2-clause-none c = λ new.
    let i = (goal.at.give_to-requires-2-clause-none c).After-index in
    let p = c.path.invariant.augmenting c.requires.found.0 c.requires.found.1 in
    let at_0 : index c.args.tree.now.reached_rows c.path.row ≡ 0 = omega (arith, at_place i, c.path-test.false) in
    let root : row_at c.args.tree.now.reached_rows 0 ≡ c.path.row = ap (λ n. row_at c.args.tree.now.reached_rows n) (sym at_0) ∙ c.requires.found.1.running.search.reached_rows.placed c.path.row p.on in
    c.path.invariant.none c.path.row (subst (λ k. IsNoHolder k c.args.assignment.now.holdings.items) root (c.requires.fresh new)) c.path.class

pub index_mut-requires-2 : goal.index_mut-requires-2
index_mut-requires-2 c =
    let i = (goal.at.index_mut-requires-2 c).After-index in
    omega (arith, in_rows i, c.requires.deficit_long, ap (λ (v : Vec ℕ Global). length v.items) (c.in_ok-give_to-2.ensures.rest.deficit ∙ c.path.invariant.rest.deficit))

pub returns : goal.returns
returns c =
    let i = (goal.at.returns c).After-index in
    let f = c.requires.found.1 in
    let q = f.running.search in
    let p = c.path.invariant.augmenting c.requires.found.0 f in
    let give = c.in_ok-give_to-2.ensures.given in
    let items = λ (v : Vec ℕ Global). v.items in
    let at_0 : index c.args.tree.now.reached_rows c.path.row ≡ 0 = omega (arith, at_place i, c.path-test.false) in
    let root : row_at c.args.tree.now.reached_rows 0 ≡ c.path.row = ap (λ n. row_at c.args.tree.now.reached_rows n) (sym at_0) ∙ q.reached_rows.placed c.path.row p.on in
    let residual = ap items (c.in_ok-give_to-2.ensures.rest.residual ∙ c.path.invariant.rest.residual) in
    let deficit = ap items (c.in_ok-give_to-2.ensures.rest.deficit ∙ c.path.invariant.rest.deficit) in
    let x = q.free_end c.args.free_end f.its in
    record {
      values = c.in_ok-give_to-2.ensures.rest.values ∙ c.path.invariant.rest.values;
      prices = c.in_ok-give_to-2.ensures.rest.prices ∙ c.path.invariant.rest.prices;
      residual = set_as _ _ _ _ _ _ residual (f.running.fit.class _ _ _ x.weighs) (ap length residual ∙ q.residual_long) c.index_mut.ensures.value;
      deficit = set_as _ _ _ _ _ _ deficit (in_rows i) (ap length deficit ∙ c.requires.deficit_long) c.index_mut-2.ensures.value
          ∙ ap (λ k. set c.args.assignment.now.deficit.items k (number c.args.assignment.now.deficit.items k - c.args.amount)) (sym root);
      holdings = c.in_ok-give_to-2.ensures.holdings _ _ (in_rows i) c.path.invariant.holdings;
      none = λ k ne none. c.in_ok-give_to-2.ensures.none k (λ e. ne (e ∙ sym root)) (c.path.invariant.none k none);
      tight = λ ws h. end_tight ws _ _ _ _ _ _ _ _ _ _ _ _ (c.path.invariant.augmenting ws h) h.running.fit.class (in_rows i) give;
      by_root = rw root (end_row _ _ _ _ _ _ _ _ _ _ _ _ _ p f.running.fit.class (in_rows i) give);
      by_others = λ k lt ne. end_others _ _ _ _ _ _ _ _ _ _ _ _ _ p f.running.fit.class (in_rows i) give k lt (λ e. ne (e ∙ sym root));
      by_class = end_class _ _ _ _ _ _ _ _ _ _ _ _ _ p f.running.fit.class (in_rows i) give;
    }
