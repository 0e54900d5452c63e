-- What was found behind the lock could be found before it, and what is told there comes behind it.
use Rattle.std.proofs.Common.{[], ◌∷◌, Ok, Err, false, refl, subst, inl, inr}
use Rattle.std.proofs.lemmas.List.{append_assoc}
use Rattle.std.proofs.lemmas.Result.{err_from_is_err_and}
use Rattle.cgroup_tree.specs.Asked.{Locked, done, named, refused}
use Rattle.cgroup_tree.specs.Roots.{LooksAtStrangers, behind_lock, names_strangers}
use Rattle.cgroup_tree.specs.RootLemmas.{looks_before, machine_tells_before, strangers_before, lock_refused, answer_behind, tells_behind, strangers_tell}
use Rattle.cgroup_tree.proofs.root.open_tree.Goals as goal

pub returns-in_err-lock-clause-refused : goal.returns-in_err-lock-clause-refused
returns-in_err-lock-clause-refused g c =
    let a = c.args in
    let p = err_from_is_err_and c.from_residual-in_err-lock.result c.from_residual-in_err-lock.ensures.1 in
    rw (p.1, p.2) (refused (Locked a.root.now) ∷ [], lock_refused (g.T.GroupTrees.finds a.trees.now) a.root.now a.online.now a.nodes.now a.options.adopt c.in_err-lock.field-0.0 c.in_err-lock.ensures.looks, c.in_err-lock.ensures.asked)

pub returns-in_err-memory-clause-answers : goal.returns-in_err-memory-clause-answers
returns-in_err-memory-clause-answers g c =
    let a = c.args in
    let p = err_from_is_err_and c.from_residual-in_err-memory.result c.from_residual-in_err-memory.ensures.1 in
    rw (p.1, p.2) (answer_behind (g.T.GroupTrees.finds a.trees.now) a.root.now a.online.now a.nodes.now a.options.partition a.options.adopt c.in_err-memory.field-0.0 c.in_ok-look_at_folder.ensures c.in_ok-lock.ensures.looks
    (inl (looks_before _ _ c.lock_root.ensures.finds a.root.now a.online.now a.nodes.now a.options.partition (Err c.in_err-memory.field-0.0) c.in_err-memory.ensures.looks)))

pub returns-in_err-memory-clause-refused : goal.returns-in_err-memory-clause-refused
returns-in_err-memory-clause-refused g c =
    let a = c.args in
    let tells = c.in_err-memory.ensures.tells in
    let p = err_from_is_err_and c.from_residual-in_err-memory.result c.from_residual-in_err-memory.ensures.1 in
    rw (p.1, p.2) (
      behind_lock (g.T.GroupTrees.finds a.trees.now) a.root.now tells.0,
      tells_behind (g.T.GroupTrees.finds a.trees.now) a.root.now a.online.now a.nodes.now a.options.partition a.options.adopt c.in_err-memory.field-0.0 tells.0
          (looks_before _ _ c.lock_root.ensures.finds a.root.now a.online.now a.nodes.now a.options.partition (Err c.in_err-memory.field-0.0) c.in_err-memory.ensures.looks)
          (machine_tells_before _ _ c.lock_root.ensures.finds a.root.now a.online.now a.nodes.now (Err c.in_err-memory.field-0.0) tells.0 tells.1),
      λ how before held. rw (append_assoc tells.0 (done (Locked a.root.now) ∷ []) before) (tells.2 how _ (c.in_ok-lock.ensures.asked how before held)),
    )

pub returns-in_err-strangers-clause-answers : goal.returns-in_err-strangers-clause-answers
returns-in_err-strangers-clause-answers g c =
    let a = c.args in
    let finds = g.T.GroupTrees.finds a.trees.now in
    let memory = c.in_ok-memory.memory in
    let p = err_from_is_err_and c.from_residual-in_err-strangers.result c.from_residual-in_err-strangers.ensures.1 in
    rw (p.1, p.2) (answer_behind finds a.root.now a.online.now a.nodes.now a.options.partition a.options.adopt c.in_err-strangers.field-0.0 c.in_ok-look_at_folder.ensures c.in_ok-lock.ensures.looks
    (inr (
      (memory, looks_before _ _ c.lock_root.ensures.finds a.root.now a.online.now a.nodes.now a.options.partition (Ok memory) c.in_ok-memory.ensures.looks),
      strangers_before _ _ c.lock_root.ensures.finds a.root.now a.options.adopt (Err c.in_err-strangers.field-0.0) (subst (λ t. LooksAtStrangers (g.T.GroupTrees.finds t) a.root.now a.options.adopt (Err c.in_err-strangers.field-0.0)) c.in_ok-memory.ensures.same c.in_err-strangers.ensures.looks),
    )))

pub returns-in_err-strangers-clause-refused : goal.returns-in_err-strangers-clause-refused
returns-in_err-strangers-clause-refused g c =
    let a = c.args in
    let finds = g.T.GroupTrees.finds a.trees.now in
    let p = err_from_is_err_and c.from_residual-in_err-strangers.result c.from_residual-in_err-strangers.ensures.1 in
    rw (p.1, p.2) (
      behind_lock finds a.root.now [],
      strangers_tell finds a.root.now a.online.now a.nodes.now a.options.adopt c.in_err-strangers.field-0.0
          (strangers_before _ _ c.lock_root.ensures.finds a.root.now a.options.adopt (Err c.in_err-strangers.field-0.0) (subst (λ t. LooksAtStrangers (g.T.GroupTrees.finds t) a.root.now a.options.adopt (Err c.in_err-strangers.field-0.0)) c.in_ok-memory.ensures.same c.in_err-strangers.ensures.looks)),
      λ how before held. rw (c.in_err-strangers.ensures.tells, c.in_ok-memory.ensures.same) (c.in_ok-lock.ensures.asked how before held),
    )

pub returns-clause-taken : goal.returns-clause-taken
returns-clause-taken g c =
    let a = c.args in
    let finds = g.T.GroupTrees.finds a.trees.now in
    let names = names_strangers finds a.root.now a.options.adopt (named c.in_ok-strangers.strangers.items) in (
      behind_lock finds a.root.now names,
      refl,
      λ before held. c.files.ensures.out _ (rw (append_assoc names (done (Locked a.root.now) ∷ []) before)
          (c.in_ok-strangers.ensures.tells false _ (rw c.in_ok-memory.ensures.same (c.in_ok-lock.ensures.asked false before held)))),
    )
