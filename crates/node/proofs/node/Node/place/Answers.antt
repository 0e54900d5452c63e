use Rattle.std.proofs.Common.{ap, sym, subst}
use Rattle.node.specs.MayRequest.{AreFreeCpus}
use Rattle.node.specs.Viewed.{all_seen}
use Rattle.node.proofs.ContainerLemmas.{appended}
use Rattle.node.proofs.CallLemmas.{place_taken, place_lacks, create_late, refused_node, create_done, create_node}
use Rattle.node.proofs.node.Node.place.Goals as goal

pub returns-in-Some : goal.returns-in-Some
returns-in-Some g c =
    place_taken _ _ c.self.view_is c.args.id.now c.args.config.now c.in_ok-check_id.ensures c.in_ok-runnable.runnable c.in_ok-runnable.demand c.in_ok-runnable.ensures c.args.cpus c.is_pinned.result c.is_pinned.ensures
    c.in-Some.cpu c.in-Some.ensures

pub returns-then-lacks_pid : goal.returns-then-lacks_pid
returns-then-lacks_pid g c =
    place_lacks _ _ c.self.view_is c.args.id.now c.args.bundle.now c.args.config.now c.in_ok-check_id.ensures c.in_ok-runnable.runnable c.in_ok-runnable.demand c.in_ok-runnable.ensures c.args.cpus
    (record { some = c.requires; free = subst (λ b. AreFreeCpus c.args.self.now b c.args.cpus) c.is_pinned.ensures c.in_default.ensures }) (sym c.if-lacks_pid.ensures) c.late_answer.result c.late_answer.ensures

pub invariant_of-self-in-Err-launch : goal.invariant_of-self-in-Err-launch
invariant_of-self-in-Err-launch g c = record {
  node = refused_node _ _ c.self.view_is c.args.id.now c.args.bundle.now c.args.config.now c.in_ok-check_id.ensures c.in_ok-runnable.runnable c.in_ok-runnable.demand c.in_ok-runnable.ensures c.args.cpus
      (record { some = c.requires; free = subst (λ b. AreFreeCpus c.args.self.now b c.args.cpus) c.is_pinned.ensures c.in_default.ensures }) (g.K.Kernel.state c.launch.new.kernel) (all_seen c.prepare.new.containers.entries) c.self.invariant.node c.in-Err-launch.error c.in-Err-launch.ensures
      (ap all_seen c.in-Ok.ensures.same);
  cpus = c.self.invariant.cpus;
}

pub returns-in-Err-launch : goal.returns-in-Err-launch
returns-in-Err-launch g c =
    create_late _ _ c.self.view_is c.args.id.now c.args.bundle.now c.args.config.now c.in_ok-check_id.ensures c.in_ok-runnable.runnable c.in_ok-runnable.demand c.in_ok-runnable.ensures c.args.cpus
    (record { some = c.requires; free = subst (λ b. AreFreeCpus c.args.self.now b c.args.cpus) c.is_pinned.ensures c.in_default.ensures }) (g.K.Kernel.state c.launch.new.kernel) (all_seen c.prepare.new.containers.entries) c.self.invariant.node (sym c.if-lacks_pid.ensures) c.in-Err-launch.error c.in-Err-launch.ensures
    (ap all_seen c.in-Ok.ensures.same) c.late_answer-in-Err-launch.result c.late_answer-in-Err-launch.ensures

pub invariant_of-self-2 : goal.invariant_of-self-2
invariant_of-self-2 g c = record {
  node = create_node _ _ c.self.view_is c.args.id.now c.args.bundle.now c.args.config.now c.in_ok-check_id.ensures c.in_ok-runnable.runnable c.in_ok-runnable.demand c.in_ok-runnable.ensures c.args.cpus
      (record { some = c.requires; free = subst (λ b. AreFreeCpus c.args.self.now b c.args.cpus) c.is_pinned.ensures c.in_default.ensures }) (g.K.Kernel.state c.launch.new.kernel) (all_seen c.append.new.containers.entries) c.in-Ok-launch.made.0 c.in-Ok-launch.made.1 c.in-Ok-launch.ensures _ _
      c.in-Ok.ensures.id c.in-Ok.ensures.bundle (appended _ _ _ _ c.append.ensures c.in-Ok.ensures.same) c.self.invariant.node;
  cpus = c.self.invariant.cpus;
}

pub returns : goal.returns
returns g c =
    create_done _ _ c.self.view_is c.args.id.now c.args.bundle.now c.args.config.now c.in_ok-check_id.ensures c.in_ok-runnable.runnable c.in_ok-runnable.demand c.in_ok-runnable.ensures c.args.cpus
    (record { some = c.requires; free = subst (λ b. AreFreeCpus c.args.self.now b c.args.cpus) c.is_pinned.ensures c.in_default.ensures }) (g.K.Kernel.state c.launch.new.kernel) (all_seen c.append.new.containers.entries) c.in-Ok-launch.made.0 c.in-Ok-launch.made.1 c.in-Ok-launch.ensures _ _
    c.in-Ok.ensures.id c.in-Ok.ensures.bundle (appended _ _ _ _ c.append.ensures c.in-Ok.ensures.same)
