use Rattle.std.proofs.Common.{◌≡◌, true, sym, ap, ◌∙◌}
use Rattle.std.specs.Prelude.{Some, option_map}
use Rattle.apply_plan.specs.declared.entry.Entry.{Entry}
use Rattle.apply_plan.specs.Directed.{allowed_in}
use Rattle.apply_plan.specs.DirectedLemmas.{found_at, allowed_here}
use Rattle.apply_plan.specs.DueLemmas.{found_here, passed_over}
use Rattle.apply_plan.specs.MayWrite.{write_of}
use Rattle.apply_plan.specs.Turns.{gives_by, gets_by}
use Rattle.apply_plan.specs.TurnLemmas.{gives_alike, gets_alike}
use Rattle.apply_plan.specs.TellLemmas.{overview_tells}
use Rattle.apply_plan.proofs.giving.first_giving.Goals as goal

pub gets-requires-clause-tells : goal.gets-requires-clause-tells
gets-requires-clause-tells g c =
    overview_tells (g.K.Kernel.state c.args.kernel.now) c.args.reserved.now c.args.entries.now c.args.seen.now c.index-entries-place.result c.requires.valid
    (found_at c.args.entries.now c.loop-place.place c.index-entries-place.result c.requires.valid.groups c.loop-place-test.true c.index-entries-place.is) c.requires.seen

pub returns-then-gives : goal.returns-then-gives
returns-then-gives g c =
    let k = g.K.Kernel.state c.args.kernel.now in
    let reserved = c.args.reserved.now in
    let entries = c.args.entries.now in
    let e = c.index-entries-place.result in
    let allowed = allowed_in entries c.args.allowed.now in
    let least = g.C.Cores.least_of c.args.cores.now in
    let same = c.allowed_at-own.ensures ∙ sym (allowed_here entries c.args.allowed.now c.loop-place.place e c.requires.valid.groups c.loop-place-test.true c.index-entries-place.is) in
    let passes : gives_by k reserved entries allowed least c.args.giving e ≡ true =
    sym (gives_alike k reserved entries (λ _. c.allowed_at-own.result) allowed e same least c.args.giving) ∙ sym c.gives.ensures ∙ c.if-gives.true in
    ap (λ s. Some (write_of e s)) (c.gets.ensures ∙ gets_alike k reserved entries (λ _. c.allowed_at-own.result) allowed e same least c.args.giving)
    ∙ sym (ap (option_map (λ (d : Entry). write_of d (gets_by k reserved entries allowed least c.args.giving d)))
    (sym c.loop-place.invariant ∙ found_here (gives_by k reserved entries allowed least c.args.giving) entries c.loop-place.place e c.loop-place-test.true c.index-entries-place.is passes))

pub loop-place-preserved : goal.loop-place-preserved
loop-place-preserved g c =
    let k = g.K.Kernel.state c.args.kernel.now in
    let reserved = c.args.reserved.now in
    let entries = c.args.entries.now in
    let e = c.index-entries-place.result in
    let allowed = allowed_in entries c.args.allowed.now in
    let least = g.C.Cores.least_of c.args.cores.now in
    let same = c.allowed_at-own.ensures ∙ sym (allowed_here entries c.args.allowed.now c.loop-place.place e c.requires.valid.groups c.loop-place-test.true c.index-entries-place.is) in
    sym (passed_over (gives_by k reserved entries allowed least c.args.giving) entries c.loop-place.place e c.loop-place-test.true c.index-entries-place.is
    (sym (gives_alike k reserved entries (λ _. c.allowed_at-own.result) allowed e same least c.args.giving) ∙ sym c.gives.ensures ∙ c.if-gives.false))
    ∙ c.loop-place.invariant
