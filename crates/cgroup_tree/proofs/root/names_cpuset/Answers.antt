-- Each word that spaces and line feeds part is compared.
use Rattle.std.proofs.Common.{rules, tests, codes}
use Rattle.std.specs.Prelude.{bytes_eq}
use Rattle.std.proofs.lemmas.Iterator.Search.{any_from_yields_List}
use Rattle.std.proofs.lemmas.Iterator.Splits.{YieldsList-from_slice_split}
use Rattle.cgroup_tree.specs.Roots.{is_gap}
use Rattle.cgroup_tree.proofs.root.names_cpuset.Goals as goal

pub returns : goal.returns
returns c =
    any_from_yields_List (λ word. bytes_eq word (codes "cpuset")) _ _ _ c.any.ensures.ran
    (YieldsList-from_slice_split _ is_gap c.args.text.now c.split.ensures.rest c.split.ensures.done c.split.ensures.closure (λ x r q k. search (rules, tests)))
    (λ x b q k. search (rules, tests))
