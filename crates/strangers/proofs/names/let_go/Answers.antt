-- What is kept is what has another name.
use Rattle.std.proofs.Common.{not, bytes_eq, string_bytes, ap, ◌∙◌, rules}
use Rattle.std.proofs.lemmas.Fn.{filter_same}
use Rattle.cgroup_tree.specs.Asked.{named}
use Rattle.cgroup_tree.specs.declared.stranger.Stranger.{Stranger as Struct}
use Rattle.strangers.proofs.NameLemmas.{without_named}
use Rattle.strangers.proofs.names.let_go.Goals as goal

pub returns : goal.returns
returns c =
    ap named (filter_same _ (λ (s : Struct). not (bytes_eq (string_bytes s.name) c.args.name.now)) _ (λ x b f' k. search rules) _ _ c.retain.ensures.filtered)
    ∙ without_named c.args.name.now c.args.strangers.now.items
