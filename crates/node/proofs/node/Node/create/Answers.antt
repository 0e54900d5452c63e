use Rattle.std.proofs.Common.{ℕ, subst}
use Rattle.std.specs.Prelude.{Result}
use Rattle.faults.specs.declared.OrMemory.{OrMemory}
use Rattle.node.specs.declared.fault.NodeFault.{NodeFault}
use Rattle.node.specs.Calls.{Creates}
use Rattle.node.proofs.FreeLemmas.{creates_by, never_by}
use Rattle.node.proofs.CountLemmas.{place_counts}
use Rattle.node.proofs.WriteLemmas.{place_makes}
use Rattle.node.proofs.LateLemmas.{places_fail_late}
use Rattle.node.proofs.LeaveLemmas.{place_leaves}
use Rattle.node.proofs.node.Node.create.Goals as goal

pub returns : goal.returns
returns g c =
    let n = c.args.self.now in
    let id = c.args.id.now in
    let bundle = c.args.bundle.now in
    let config = c.args.config.now in
    let done = creates_by _ _ c.self.view_is id bundle config c.place.result c.place.new.self c.reserved-reserved.result c.reserved-reserved.ensures.reserved c.place.ensures in
    record {
      creates = done;
      leaves = place_leaves n.machine.reserved n c.holds.ensures id config bundle c.place.result c.place.new.self done;
      counted = place_counts n.machine.reserved n id bundle config c.place.result c.place.new.self done;
      made = place_makes n.machine.reserved n id bundle config c.place.result c.place.new.self done;
      late = λ fault is. places_fail_late n.machine.reserved n id bundle config fault c.place.new.self c.holds.ensures
          (subst (λ (r : Result ℕ (OrMemory NodeFault)). Creates n id bundle config r c.place.new.self) is done);
      never = never_by _ _ c.self.view_is id bundle config c.place.result c.place.new.self c.reserved-reserved.result c.reserved-reserved.ensures.reserved c.place.ensures
          c.reserved-reserved.ensures.present;
    }
