use Rattle.std.proofs.Common.{ℕ, subst}
use Rattle.std.specs.Prelude.{Result}
use Rattle.faults.specs.declared.OrMemory.{OrMemory}
use Rattle.node.specs.declared.fault.NodeFault.{NodeFault}
use Rattle.node.specs.Calls.{Adopts}
use Rattle.node.proofs.CountLemmas.{place_counts}
use Rattle.node.proofs.WriteLemmas.{place_makes}
use Rattle.node.proofs.LateLemmas.{places_fail_late}
use Rattle.node.proofs.LeaveLemmas.{place_leaves}
use Rattle.node.proofs.node.Node.adopt.Goals as goal

pub returns : goal.returns
returns g c =
    let done = c.place.ensures in
    let n = c.args.self.now in
    let id = c.args.id.now in
    let bundle = c.args.bundle.now in
    let config = c.args.config.now in
    record {
      adopts = done;
      leaves = place_leaves c.args.cpus n c.holds.ensures id config bundle c.place.result c.place.new.self done;
      counted = place_counts c.args.cpus n id bundle config c.place.result c.place.new.self done;
      made = place_makes c.args.cpus n id bundle config c.place.result c.place.new.self done;
      late = λ fault is. places_fail_late c.args.cpus n id bundle config fault c.place.new.self c.holds.ensures
          (subst (λ (r : Result ℕ (OrMemory NodeFault)). Adopts n id bundle config c.args.cpus r c.place.new.self) is done);
    }
