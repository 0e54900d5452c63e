use Rattle.std.proofs.Common.{◌≡◌, ℕ, List, ◌∷◌, [], ◌++◌, length, take, drop, refl, sym, ap, ◌∙◌, subst, arith}
use Rattle.std.proofs.Math.Seq.{take-append_seam}
use Rattle.transport.specs.Blocks.{InBlocks, AreWeightsAdded}
use Rattle.transport.specs.declared.arcs.Block.{Block}
use Rattle.transport.proofs.Blocks.{pushed_sound, pushed_kept, pushed_added, pushed_weights}
use Rattle.transport.proofs.arcs.add_to_blocks.Goals as goal
use Rattle.transport.proofs.arcs.add_to_blocks.Goals.{In_ok-push}

abbrev fresh : (c : In_ok-push) → Block
fresh c = record { weight = c.args.weight; firsts = c.of-firsts.result }

-- the blocks are written back as they were
same_items : (items shown : List Block) (n : ℕ) → shown ≡ items → n ≡ length items → take n (shown ++ drop (length shown) items) ≡ items
same_items items shown n e long = rw (e, long) (take-append_seam items (drop (length items) items))

items : (c : In_ok-push) → c.push.new.self.items ≡ c.args.blocks.now.items ++ fresh c ∷ []
items c =
    c.in_ok-push.ensures.items
    ∙ ap (λ xs. xs ++ fresh c ∷ []) (same_items c.args.blocks.now.items c.extend_last.new.blocks _ (c.if-extend_last.ensures.same refl ∙ c.deref_mut.ensures.value) (omega (arith, c.args.blocks.now.ok.0)))

pub returns-clause-sound : goal.returns-clause-sound
returns-clause-sound c = λ cpu w b.
    let i = (goal.at.returns-clause-sound c).In_ok-push in
    pushed_sound _ c.of-firsts.result c.args.cpu c.args.weight c.of-firsts.ensures cpu w (subst (λ xs. InBlocks xs cpu w) (items i) b)

pub returns-clause-kept : goal.returns-clause-kept
returns-clause-kept c = λ cpu w b.
    let i = (goal.at.returns-clause-kept c).In_ok-push in
    subst (λ xs. InBlocks xs cpu w) (sym (items i)) (pushed_kept _ c.of-firsts.result c.args.cpu c.args.weight c.of-firsts.ensures cpu w b)

pub returns-clause-added : goal.returns-clause-added
returns-clause-added c =
    let i = (goal.at.returns-clause-added c).In_ok-push in
    subst (λ xs. InBlocks xs c.args.cpu c.args.weight) (sym (items i)) (pushed_added _ c.of-firsts.result c.args.cpu c.args.weight c.of-firsts.ensures)

pub returns-clause-weights : goal.returns-clause-weights
returns-clause-weights c =
    let i = (goal.at.returns-clause-weights c).In_ok-push in
    subst (λ xs. AreWeightsAdded c.args.blocks.now.items xs c.args.weight) (sym (items i)) (pushed_weights _ c.of-firsts.result c.args.cpu c.args.weight c.of-firsts.ensures)
