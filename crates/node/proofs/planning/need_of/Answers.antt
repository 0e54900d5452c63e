use Rattle.std.proofs.Common.{◌≡◌, ℕ, ◌*◌, ◌<◌, ◌^◌, length, refl, sym, ap, ◌∙◌, arith}
use Rattle.std.specs.FinSet as set
use Rattle.certificate.specs.IsShortage.{asked, chosen, offered, is_offered}
use Rattle.certificate.specs.IsShown.{IsShown}
use Rattle.node.proofs.AskingLemmas.{offered_len}
use Rattle.node.proofs.NeedLemmas.{asked_small, threads_few}
use Rattle.node.proofs.planning.need_of.Goals as goal

pub unreachable-requires : goal.unreachable-requires
unreachable-requires c =
    let named = chosen c.args.problem.now c.args.members.now in
    let shown : IsShown c.args.problem.now c.args.members.now (asked named) (length (offered named)) = record { limits = c.requires.fit; shortage = c.requires.short; asks = refl; has = refl } in
    c.in_default.not-Ok _ (c.check_shortage.ensures.complete (asked named) (length (offered named)) shown)

pub prove-unreachable-requires : goal.prove-unreachable-requires
prove-unreachable-requires c =
    let rows : c.as_slice.result.now ≡ c.args.problem.now = c.as_slice.ensures.value ∙ c.problem.view_is in
    let has : (core : ℕ) → set.contains c.offered_to-cores.result core ≡ is_offered (chosen c.args.problem.now c.args.members.now) core = rw (← rows) c.offered_to-cores.ensures in
    c.if-prove.true (c.count-count.ensures.is_len ∙ offered_len c.offered_to-cores.result (chosen c.args.problem.now c.args.members.now) c.count-count.ensures.in_range has ∙ c.in-Ok.ensures.shown.has)

pub in_cpus-requires-clause-cores : goal.in_cpus-requires-clause-cores
in_cpus-requires-clause-cores c =
    let small : asked (chosen c.args.problem.now c.args.members.now) < 2 ^ 48 = asked_small c.args.problem.now c.args.members.now c.requires.fit c.requires.short in
    omega (arith, small, c.in-Ok.ensures.shown.asks)

pub in_cpus-requires-clause-threads : goal.in_cpus-requires-clause-threads
in_cpus-requires-clause-threads c =
    omega (arith, c.threads.ensures.is, threads_few c.args.machine.now (record { sound = c.threads.ensures.sound; in_range = c.threads.ensures.in_range }))

pub returns : goal.returns
returns c =
    let rows : c.as_slice.result.now ≡ c.args.problem.now = c.as_slice.ensures.value ∙ c.problem.view_is in
    record {
      cores = c.offered_to-cores.result;
      asks = c.in_cpus.ensures ∙ ap (λ n. n * c.threads.result) (sym c.in-Ok.ensures.shown.asks)
          ∙ ap (λ t. asked (chosen c.args.problem.now c.args.members.now) * t) c.threads.ensures.is;
      has = rw (← rows) c.offered_to-cores.ensures;
      in_range = c.count-count.ensures.in_range;
      is = c.cpus_of_cores.ensures.is;
    }
