-- What steps of a hand-over leave, one after another.
use Rattle.std.specs.Prelude.{◌≡◌, Some}
use Rattle.std.proofs.Common.{◌∙◌}
use Rattle.cpuset_tree.specs.declared.Group.{Group}
use Rattle.cpuset_tree.specs.TreeState.{GroupEntry, TreeState}
use Rattle.cpuset_tree.specs.Groups.{entry_of}
use Rattle.cpuset_tree.specs.TreeLaws.{StandsAs, StandAlike}
use Rattle.kernel_model.specs.KernelState.{KernelState}
use Rattle.apply_plan.specs.Targets.{Targets}
use Rattle.apply_plan.specs.Leaves.{KeepsRest}

-- trees that stand alike, one after another
module _ (a b c : TreeState) (x : StandAlike a b) (y : StandAlike b c) where
  before : (p : Group) (e : GroupEntry) → entry_of c p ≡ Some e → StandsAs a p e
  before p e at =
      let f = y.before p e at in
      let g = x.before p f.entry f.there in
      record {
        entry = g.entry;
        there = g.there;
        place = record { group = f.place.group ∙ g.place.group; parent = f.place.parent ∙ g.place.parent; name = f.place.name ∙ g.place.name };
      }

  after : (p : Group) (e : GroupEntry) → entry_of a p ≡ Some e → StandsAs c p e
  after p e at =
      let f = x.after p e at in
      let g = y.after p f.entry f.there in
      record {
        entry = g.entry;
        there = g.there;
        place = record { group = f.place.group ∙ g.place.group; parent = f.place.parent ∙ g.place.parent; name = f.place.name ∙ g.place.name };
      }

  alike_then : StandAlike a c
  alike_then = record {
    before = before;
    after = after;
    there = λ p. y.there p ∙ x.there p;
    rootness = λ p. y.rootness p ∙ x.rootness p;
    child = λ p name. y.child p name ∙ x.child p name;
    children = λ p. y.children p ∙ x.children p;
    root = y.root ∙ x.root;
    next_serial = y.next_serial ∙ x.next_serial;
  }

pub rest_then : (h : Targets) (old mid new : KernelState) → KeepsRest h old mid → KeepsRest h mid new → KeepsRest h old new
rest_then h old mid new a b = record {
  table = b.table ∙ a.table;
  present = b.present ∙ a.present;
  reserved = b.reserved ∙ a.reserved;
  online = b.online ∙ a.online;
  nodes = b.nodes ∙ a.nodes;
  alike = alike_then old.tree mid.tree new.tree a.alike b.alike;
  mems = λ g. b.mems g ∙ a.mems g;
  others = λ g apart. b.others g apart ∙ a.others g apart;
}
