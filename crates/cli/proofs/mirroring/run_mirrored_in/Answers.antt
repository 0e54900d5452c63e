-- The script was run over the node, or there is none; and what the files were asked for is asked of trees.
use Rattle.std.proofs.Common.{◌-◌, ◌^◌, inl, inr, refl}
use Rattle.std.specs.Prelude.{string_bytes}
use Rattle.cgroup_tree.specs.Asked.{Closes, named}
use Rattle.cgroup_tree.specs.Site.{opening}
use Rattle.program_io.specs.Pages.{contents_of}
use Rattle.runtime.specs.MirroredNodes.{site_of}
use Rattle.cli.proofs.Leaving.{boots_not_more, plays_more}
use Rattle.cli.proofs.mirroring.run_mirrored_in.Goals as goal

pub returns-in-Ok : goal.returns-in-Ok
returns-in-Ok g c =
    let a = c.args in
    let site = site_of a.machine (string_bytes a.tree.root) a.tree.memory a.tree.options in
    let played = c.play_mirrored-end in
    inl (
      c.in-Ok.node,
      c.in-Ok.ensures.boots,
      (
        record a.console.now { out = played.new.w },
        played.result.0,
        plays_more g.T.Files.GroupFiles.asked site (g.T.Files.GroupFiles.asked played.result.1 (opening site))
            (λ calls. Closes g.T.GroupTrees.asked a.trees.now calls c.close.new.self)
            (λ calls made before held. c.close.ensures (opening site) before calls held made)
            g.B.Bundles.finds (2 ^ 64 - 1) c.in-Ok.node (g.B.Bundles.told a.bundles) (named a.tree.strangers.items) (g.R.Read.remaining a.script.now) (g.R.Read.remaining played.new.script)
            (contents_of g.W.Write.contents a.console.now.out) (contents_of g.W.Write.contents played.new.w) played.result.0
            (rw (c.requires.site, c.replace-strangers.ensures.value) at played.ensures),
        refl,
        c.finish.ensures,
      ),
    )

pub returns-in-Err : goal.returns-in-Err
returns-in-Err g c =
    let a = c.args in
    let site = site_of a.machine (string_bytes a.tree.root) a.tree.memory a.tree.options in
    let none = c.in-Err.not_booted in
    inr (
      none.error,
      boots_not_more g.T.Files.GroupFiles.asked site (g.T.Files.GroupFiles.asked none.files (opening site))
          (λ calls. Closes g.T.GroupTrees.asked a.trees.now calls c.close-in-Err.new.self)
          (λ calls made before held. c.close-in-Err.ensures (opening site) before calls held made)
          a.machine none.error (rw c.requires.site at c.in-Err.ensures.err),
      rw c.from-why.ensures at c.print_then_note.ensures,
      refl,
    )
