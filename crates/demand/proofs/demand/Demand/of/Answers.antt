use Rattle.std.proofs.Common.{◌≤◌, sym, ap, ◌∙◌, arith}
use Rattle.std.specs.Prelude.{unwrap_or}
use Rattle.std.proofs.lemmas.Bool.{false≢true}
use Rattle.std.specs.FinSet as set
use Rattle.cpu_set.specs.declared.TheConstants.{CPU_LIMIT}
use Rattle.demand.proofs.Asked.{count_at, shared_fits, pinned_fits}
use Rattle.demand.proofs.demand.Demand.of.Goals as goal

pub returns-then-not-is_pinned-clause-fits : goal.returns-then-not-is_pinned-clause-fits
returns-then-not-is_pinned-clause-fits c =
    shared_fits c.args.machine.now c.empty.result c.homes-homes.result c.empty.ensures c.homes-homes.ensures.homes

pub returns-clause-fits : goal.returns-clause-fits
returns-clause-fits c =
    let few : set.len c.allowed-allowed.result ≤ CPU_LIMIT = omega arith in
    pinned_fits c.args.machine.now _ _ _ c.allowed-allowed.result c.homes-homes.result
    c.in_ok-count.count _ c.homes-homes.ensures.sound.cores c.threads.ensures.in_range
    (count_at _ _ _ _ _ c.threads.ensures.is c.in_ok-count.ensures.count)
    c.allowed-allowed.ensures c.homes-homes.ensures.homes few
    (λ none. false≢true (sym c.if-is_empty.false ∙ c.is_empty.ensures.1 none))
    (c.unwrap_or.ensures ∙ ap (unwrap_or c.in_ok-count.count) c.count-2.ensures.is_len)
