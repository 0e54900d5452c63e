use Rattle.std.proofs.Common.{◌≡◌}
use Rattle.runtime.proofs.Entries.{found_from}
use Rattle.runtime.proofs.bundle_list.BundleListBundles.config.Given as goal

abbrev pub invariant-loop-name : goal.invariant-loop-name
invariant-loop-name l = found_from l.bundle l.name-items l.name-index ≡ found_from l.bundle l.self-inside.configs.now 0
