use Rattle.std.proofs.Common.{ap, subst}
use Rattle.std.specs.Prelude.{Ok, Err, codes}
use Rattle.faults.specs.declared.OrMemory.{OrMemory}
use Rattle.cpuset_tree.specs.Groups.{child_of}
use Rattle.kernel_model.specs.declared.KernelFault.{KernelFault}
use Rattle.node.specs.Launch.{FindsOrMakes}
use Rattle.node.specs.Viewed.{all_seen}
use Rattle.node.proofs.FirstLemmas.{root_there, first_node}
use Rattle.node.proofs.WriteLemmas.{find_makes}
use Rattle.node.proofs.AgainLemmas.{used_again}
use Rattle.node.proofs.LateLemmas.{opens_fail_late}
use Rattle.node.proofs.node.Node.new.Goals as goal

pub find_or_make-requires : goal.find_or_make-requires
find_or_make-requires g c = root_there (g.K.Kernel.state c.args.kernel) c.root-root.result c.root-root.ensures.well_formed c.root-root.ensures.root

pub invariant_of-result : goal.invariant_of-result
invariant_of-result g c = record {
  node = first_node (g.K.Kernel.state c.args.kernel) (g.K.Kernel.state c.find_or_make.new.kernel) c.requires.unused c.root-root.ensures.well_formed c.root-root.result c.root-root.ensures.root
      c.args.machine (record { sound = c.threads.ensures.sound; in_range = c.threads.ensures.in_range }) c.requires.machine c.in-Ok.parent c.reserved.result _ (ap all_seen c.new.ensures.empty) c.in-Ok.ensures;
  cpus = tt;
}

pub returns-in-Ok-clause-made : goal.returns-in-Ok-clause-made
returns-in-Ok-clause-made g c = (
  c.root-root.result,
  c.root-root.ensures.root,
  find_makes (child_of (g.K.Kernel.state c.args.kernel).tree c.root-root.result (codes "numarun")) (g.K.Kernel.state c.args.kernel) c.root-root.result (codes "numarun") (Ok c.in-Ok.parent)
      (g.K.Kernel.state c.find_or_make.new.kernel) c.in-Ok.ensures,
)

pub returns-in-Err-clause-made : goal.returns-in-Err-clause-made
returns-in-Err-clause-made g c = (
  c.root-root.result,
  c.root-root.ensures.root,
  find_makes (child_of (g.K.Kernel.state c.args.kernel).tree c.root-root.result (codes "numarun")) (g.K.Kernel.state c.args.kernel) c.root-root.result (codes "numarun") (Err c.in-Err.error)
      (g.K.Kernel.state c.find_or_make.new.kernel) c.in-Err.ensures,
)

pub returns-in-Err-clause-again : goal.returns-in-Err-clause-again
returns-in-Err-clause-again g c =
    used_again (g.K.Kernel.state c.args.kernel) (g.K.Kernel.state c.find_or_make.new.kernel) c.root-root.ensures.well_formed c.args.machine c.requires.machine c.requires.unused
    (child_of (g.K.Kernel.state c.args.kernel).tree c.root-root.result (codes "numarun")) c.root-root.result (codes "numarun") c.in-Err.error c.in-Err.ensures

pub returns-in-Err-clause-late : goal.returns-in-Err-clause-late
returns-in-Err-clause-late g c = λ fault is.
    opens_fail_late (g.K.Kernel.state c.args.kernel) fault (g.K.Kernel.state c.find_or_make.new.kernel) c.root-root.ensures.well_formed (
      c.root-root.result,
      c.root-root.ensures.root,
      subst (λ (e : OrMemory KernelFault). FindsOrMakes (g.K.Kernel.state c.args.kernel) c.root-root.result (codes "numarun") (Err e) (g.K.Kernel.state c.find_or_make.new.kernel)) is c.in-Err.ensures,
    )
