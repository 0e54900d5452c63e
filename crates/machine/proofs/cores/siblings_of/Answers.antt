use Rattle.std.proofs.Common.{◌≡◌, ◌+◌, ◌-◌, ◌<◌, ◌≤◌, ℕ, List, length, get_or, refl, sym, arith}
use Rattle.std.proofs.lemmas.List.{get_or_default}
use Rattle.cpu_set.specs.declared.TheConstants.{CPU_LIMIT}
use Rattle.machine.proofs.Siblings.{at, AreLinked, AreLinked-none, AreLinked-more}
use Rattle.machine.proofs.cores.siblings_of.Goals as goal

-- the lowest CPU of a core is a CPU number
low : (lowest : List ℕ) (n : ℕ) → length lowest ≡ CPU_LIMIT → ((c : ℕ) → get_or lowest c c ≤ c) → n < CPU_LIMIT
    → (get_or lowest n 0 ≡ at lowest n) × (get_or lowest n 0 < 4096)
low lowest n room below lt =
    let same : get_or lowest n 0 ≡ get_or lowest n n = get_or_default lowest n 0 n (omega arith) in
    let least : get_or lowest n n ≤ n = below n in
    (same, omega (arith, same, least))

pub loop-cpu-init : goal.loop-cpu-init
loop-cpu-init c = AreLinked-none c.args.lowest.now _ _ refl refl

pub bounds-firsts-core : goal.bounds-firsts-core
bounds-firsts-core c =
    let within : c.loop-cpu.cpu ≤ CPU_LIMIT = c.loop-cpu.invariant.within in
    (low c.args.lowest.now (c.loop-cpu.cpu - 1) c.requires.room c.requires.low (omega (arith, within, c.loop-cpu-test.true))).1

pub bounds-firsts-core-in-loop-cpu : goal.bounds-firsts-core-in-loop-cpu
bounds-firsts-core-in-loop-cpu c =
    let within : c.loop-cpu.cpu ≤ CPU_LIMIT = c.loop-cpu.invariant.within in
    (low c.args.lowest.now (c.loop-cpu.cpu - 1) c.requires.room c.requires.low (omega (arith, within, c.loop-cpu-test.true))).1

linked_at : (lowest firsts next : List ℕ) (n m : ℕ) → n ≡ m → AreLinked lowest firsts next n → AreLinked lowest firsts next m
linked_at lowest firsts next n m same are = rw (sym same) are

pub loop-cpu-preserved : goal.loop-cpu-preserved
loop-cpu-preserved c =
    let within : c.loop-cpu.cpu ≤ CPU_LIMIT = c.loop-cpu.invariant.within in
    let n : ℕ = c.loop-cpu.cpu - 1 in
    let up : c.loop-cpu.cpu ≡ n + 1 = omega (arith, c.loop-cpu-test.true) in
    let here = low c.args.lowest.now n c.requires.room c.requires.low (omega (arith, within, up)) in
    AreLinked-more c.args.lowest.now c.loop-cpu.firsts c.loop-cpu.next _ _ n (get_or c.args.lowest.now n 0)
    (linked_at c.args.lowest.now c.loop-cpu.firsts c.loop-cpu.next c.loop-cpu.cpu (n + 1) up c.loop-cpu.invariant)
    here.0 here.1 refl refl
