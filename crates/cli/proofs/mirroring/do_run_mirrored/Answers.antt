-- The script was run in the tree, or its group can't be made, or the root or a file is refused.
use Rattle.std.proofs.Common.{◌++◌, inl, inr, refl}
use Rattle.cgroup_tree.specs.Asked.{Closes, HandsBack, named}
use Rattle.runtime.specs.MirroredNodes.{site_of}
use Rattle.cli.proofs.Leaving.{behind, leaves_more}
use Rattle.cli.proofs.mirroring.do_run_mirrored.Goals as goal

pub returns-in-Ok-open_below : goal.returns-in-Ok-open_below
returns-in-Ok-open_below g c =
    let tree = c.in-Ok-open_below in
    let opened = tree.ensures.taken in
    let mid = c.open_below.new.trees in
    let ran = c.run_mirrored_in in
    inl (
      c.in-Ok.found,
      c.in-Ok.ensures,
      inl (
        (tree.tree.memory, named tree.tree.strangers.items),
        tree.ensures.answers,
        (
          opened.0,
          opened.1,
          leaves_more g.T.Files.GroupFiles.asked (site_of c.in-Ok.found c.args.root.path.now tree.tree.memory c.args.root.options)
              (λ calls. Closes g.T.GroupTrees.asked mid calls ran.new.trees)
              (λ calls. HandsBack g.T.GroupTrees.asked c.args.trees.now (calls ++ opened.0) ran.new.trees)
              (behind g.T.GroupTrees.asked c.args.trees.now mid ran.new.trees opened.0 opened.2)
              g.W.Write.contents g.E.Write.contents c.args.console.now ran.new.console ran.result c.in-Ok.found g.B.Bundles.finds (g.B.Bundles.told c.args.bundles) (named tree.tree.strangers.items)
              (g.R.Read.remaining c.args.script.now) (g.R.Read.remaining ran.new.script)
              (rw (tree.ensures.root, tree.ensures.options) at ran.ensures),
        ),
      ),
    )

pub returns-in-Err-open_below : goal.returns-in-Err-open_below
returns-in-Err-open_below g c =
    inl (c.in-Ok.found, c.in-Ok.ensures, inr (c.in-Err-open_below.why, c.in-Err-open_below.ensures.answers, rw c.note_of.ensures at c.print_then_note.ensures, refl))

pub returns-in-Err : goal.returns-in-Err
returns-in-Err g c = inr (c.in-Err.unready, c.in-Err.ensures, c.refuse.ensures, refl, λ how before held. held)
