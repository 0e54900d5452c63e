use Rattle.std.proofs.Common.{rules, map, ap, sym, ◌∙◌, Some}
use Rattle.std.proofs.lemmas.List.{at_drop_all}
use Rattle.std.specs.Map.{lookup}
use Rattle.std.specs.Str.{bytes_eq}
use Rattle.runtime.proofs.Entries.{entry_of, found_here, found_later}
use Rattle.runtime.proofs.bundle_list.BundleListBundles.config.Goals as goal

pub returns-then-eq-clause-found : goal.returns-then-eq-clause-found
returns-then-eq-clause-found c =
    ap Some c.in_ok-from_slice.ensures.items
    ∙ sym (found_here c.args.bundle.now c.self.inside.configs.now c.loop-name.name-index _ (search rules) (sym c.eq.ensures ∙ c.if-eq.true))
    ∙ c.loop-name.invariant
    ∙ ap (lookup (bytes_eq c.args.bundle.now)) c.self.view_is

pub loop-name-preserved : goal.loop-name-preserved
loop-name-preserved c =
    sym (found_later c.args.bundle.now c.self.inside.configs.now c.loop-name.name-index _ (search rules) (sym c.eq.ensures ∙ c.if-eq.false))
    ∙ c.loop-name.invariant

pub returns-clause-found : goal.returns-clause-found
returns-clause-found c =
    sym (at_drop_all (λ rest. lookup (bytes_eq c.args.bundle.now) (map entry_of rest)) c.self.inside.configs.now c.loop-name.name-index c.loop-name-test.false)
    ∙ c.loop-name.invariant
    ∙ ap (lookup (bytes_eq c.args.bundle.now)) c.self.view_is
