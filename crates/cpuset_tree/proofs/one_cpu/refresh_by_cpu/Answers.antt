use Rattle.std.proofs.Common.{◌≡◌, ℕ, List, [], ◌-◌, drop, get_or, refl, sym, subst, ◌∙◌, inl, arith}
use Rattle.std.proofs.lemmas.List.{drop_all, get_or_default}
use Rattle.cpuset_tree.specs.declared.groups.Resource.TheVariants.{Cpus}
use Rattle.cpuset_tree.specs.Kept.{ChangesAt, IsInOrder, passed}
use Rattle.cpuset_tree.specs.Near.{IsNearAt}
use Rattle.cpuset_tree.proofs.RefreshLemmas.{IsRefreshing-first, IsRefreshing-more}
use Rattle.cpuset_tree.proofs.OneCpuLemmas.{near_next, near_more}
use Rattle.cpuset_tree.proofs.one_cpu.refresh_by_cpu.Goals as goal

pub loop-place-init : goal.loop-place-init
loop-place-init c =
    let keys = c.args.order.now.items in
    let none : drop c.len-place.result keys ≡ [] = drop_all c.len-place.result keys (omega arith) in
    record {
      so_far = IsRefreshing-first Cpus c.args.groups.now c.args.top.now c.args.written keys c.len-place.result c.requires.in_order
          (subst (λ (l : List ℕ). IsInOrder c.args.groups.now c.args.written l) (sym none) tt) c.requires.granted;
      near = λ key. inl (λ q ne. refl);
    }

pub pass_by_cpu-requires-clause-near : goal.pass_by_cpu-requires-clause-near
pass_by_cpu-requires-clause-near c =
    let keys = c.args.order.now.items in
    let place = c.loop-place.place - 1 in
    let here : c.index.result.now ≡ get_or keys place 0 = c.index.ensures ∙ get_or_default keys place c.index.result.now 0 (omega arith) in
    subst (λ (k : ℕ). IsNearAt c.args.cpu c.loop-place.groups k) (sym here)
    (near_next c.args.cpu c.args.groups.now c.args.top.now c.args.written keys c.requires.was c.loop-place.groups c.loop-place.place place
    (omega arith) (omega arith) c.loop-place.invariant.so_far c.loop-place.invariant.near)

pub loop-place-preserved : goal.loop-place-preserved
loop-place-preserved c =
    let old = c.loop-place.groups in
    let new = c.pass_by_cpu.new.groups in
    let keys = c.args.order.now.items in
    let place = c.loop-place.place - 1 in
    let here : c.index.result.now ≡ get_or keys place 0 = c.index.ensures ∙ get_or_default keys place c.index.result.now 0 (omega arith) in
    let change : ChangesAt old new (get_or keys place 0) (passed Cpus old c.args.top.now c.args.written) =
    subst (λ (k : ℕ). ChangesAt old new k (passed Cpus old c.args.top.now c.args.written)) here c.pass_by_cpu.ensures in
    record {
      so_far = IsRefreshing-more Cpus c.args.groups.now c.args.top.now c.args.written keys old new c.loop-place.place place
          (omega arith) (omega arith) c.requires.granted change c.loop-place.invariant.so_far;
      near = near_more c.args.cpu c.args.groups.now c.args.top.now c.args.written keys c.requires.was old c.loop-place.place place
          (omega arith) (omega arith) c.loop-place.invariant.so_far c.loop-place.invariant.near new change;
    }
