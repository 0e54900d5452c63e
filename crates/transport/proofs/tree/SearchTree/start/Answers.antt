use Rattle.std.proofs.Common.{rules}
use Rattle.transport.proofs.Starting.{reached_at_root}
use Rattle.transport.proofs.tree.SearchTree.start.Goals as goal

pub returns : goal.returns
returns c = λ rows classes tidy lt. record {
  at_root = reached_at_root rows c.args.root c.args.bottleneck c.clear.new.self c.reach.new.self lt (c.clear.ensures rows tidy.reached_rows) c.in_ok-reach.ensures;
  labels = record {
    labels_long = search rules;
    due_long = search rules;
    due = c.clear-2.ensures.due;
    of_class = c.clear-2.ensures.of_class;
    labelled = c.clear-2.ensures.labelled;
    free_end = c.clear-2.ensures.free_end;
  };
  tree_classes = record {
    taken_long = search rules;
    taken = c.clear-3.ensures.taken;
    order = c.clear-3.ensures.order;
  };
}
