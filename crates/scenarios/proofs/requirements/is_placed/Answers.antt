use Rattle.std.proofs.Common.{◌≡◌, not, sym, ap, ◌∙◌}
use Rattle.std.proofs.lemmas.Bool.{false≢true, not-false}
use Rattle.std.specs.Prelude.{is_ok}
use Rattle.cpuset_tree.specs.Groups.{same_group, has_group, requested_cpus}
use Rattle.cpuset_tree.specs.GroupLemmas.{same_group_itself}
use Rattle.kernel_model.specs.declared.KernelFault.TheVariants.{NoGroup}
use Rattle.scenarios.proofs.ConditionLemmas.{ok_behind, read_is_there, not_root, is_the_root}
use Rattle.scenarios.proofs.requirements.is_placed.Goals as goal

pub returns-then-ne : goal.returns-then-ne
returns-then-ne g c =
    let tree = (g.K.Kernel.state c.args.kernel.now).tree in
    let there : c.is_ok.result ≡ has_group tree c.args.group =
    c.is_ok.ensures.value ∙ ok_behind c.requested_cpus.result ∙ ap is_ok c.requested_cpus.ensures ∙ read_is_there (has_group tree c.args.group) (requested_cpus tree c.args.group) NoGroup in (
      λ yes. record {
        there = sym there ∙ yes;
        below = not_root tree c.root.result c.args.group c.root.ensures.well_formed.tree c.root.ensures.root
            (λ e. false≢true (sym (ap not (ap (λ x. same_group x c.root.result) e ∙ same_group_itself c.root.result)) ∙ sym c.ne.ensures ∙ c.if-ne.true));
      },
      λ placed. there ∙ placed.there,
    )

pub returns-else-ne : goal.returns-else-ne
returns-else-ne g c =
    let tree = (g.K.Kernel.state c.args.kernel.now).tree in (
      λ yes. absurd (false≢true (sym c.if-ne.false ∙ yes)),
      λ placed. absurd (false≢true (sym placed.below
          ∙ is_the_root tree c.root.result c.args.group c.root.ensures.well_formed.tree c.root.ensures.root (not-false _ (sym c.ne.ensures ∙ c.if-ne.false)))),
    )
