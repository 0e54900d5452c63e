use Rattle.std.proofs.Common.{◌<◌, ℕ, List, ◌++◌, length, subst, sym, ap, ◌∙◌, arith}
use Rattle.std.proofs.lemmas.List.{append-nil, length-append}
use Rattle.std.specs.Prelude.{string_bytes}
use Rattle.cgroup_tree.specs.FolderLemmas.{older, folder_none, folder_below, slash, pushed}
use Rattle.cgroup_tree.specs.Paths.{folder, below}
use Rattle.cgroup_tree.proofs.paths.+push_folder.Goals as goal

pub returns-in_default-clause-bytes : goal.returns-in_default-clause-bytes
returns-in_default-clause-bytes t c =
    let s = c.args.kernel.now.tree in
    let g = c.args.group in
    sym (ap (λ (below : List ℕ). string_bytes c.args.text.now ++ below) (folder_none s g (sym c.in_default.ensures)) ∙ append-nil (string_bytes c.args.text.now))

pub returns-in_default-clause-len : goal.returns-in_default-clause-len
returns-in_default-clause-len t c = omega (arith, ap length (folder_none c.args.kernel.now.tree c.args.group (sym c.in_default.ensures)))

pub push_folder-requires : goal.push_folder-requires
push_folder-requires t c =
    let s = c.args.kernel.now.tree in
    let name = c.in-Some.name.now in
    let place = sym c.in-Some.ensures in (
      subst (λ (n : ℕ). c.in-Some.parent.serial < n) c.decreases
          (older s c.args.group c.in-Some.parent name c.root.ensures.well_formed.tree place),
      omega (
        arith,
        c.requires,
        ap length (folder_below s c.args.group c.in-Some.parent name c.root.ensures.well_formed.tree place),
        length-append (folder s c.in-Some.parent) (below name),
      ),
    )

pub push_within-requires : goal.push_within-requires
push_within-requires t c =
    let s = c.args.kernel.now.tree in
    let name = c.in-Some.name.now in
    omega (
      arith,
      c.requires,
      c.push_folder.ensures.len,
      c.push_folder.ensures.capacity,
      ap length (folder_below s c.args.group c.in-Some.parent name c.root.ensures.well_formed.tree (sym c.in-Some.ensures)),
      length-append (folder s c.in-Some.parent) (below name),
    )

pub push_within-requires-2 : goal.push_within-requires-2
push_within-requires-2 t c =
    let s = c.args.kernel.now.tree in
    let name = c.in-Some.name.now in
    omega (
      arith,
      c.requires,
      c.push_folder.ensures.len,
      c.push_folder.ensures.capacity,
      c.push_within.ensures.len,
      c.push_within.ensures.capacity,
      ap length (folder_below s c.args.group c.in-Some.parent name c.root.ensures.well_formed.tree (sym c.in-Some.ensures)),
      length-append (folder s c.in-Some.parent) (below name),
    )

pub returns-clause-bytes : goal.returns-clause-bytes
returns-clause-bytes t c =
    let s = c.args.kernel.now.tree in
    let name = c.in-Some.name.now in
    c.push_within-2.ensures.bytes
    ∙ ap (λ (bytes : List ℕ). bytes ++ name) c.push_within.ensures.bytes
    ∙ ap (λ (bytes : List ℕ). (bytes ++ slash) ++ name) c.push_folder.ensures.bytes
    ∙ pushed (string_bytes c.args.text.now) s c.args.group c.in-Some.parent name c.root.ensures.well_formed.tree (sym c.in-Some.ensures)

pub returns-clause-len : goal.returns-clause-len
returns-clause-len t c =
    let s = c.args.kernel.now.tree in
    let name = c.in-Some.name.now in
    omega (
      arith,
      c.push_folder.ensures.len,
      c.push_within.ensures.len,
      c.push_within-2.ensures.len,
      ap length (folder_below s c.args.group c.in-Some.parent name c.root.ensures.well_formed.tree (sym c.in-Some.ensures)),
      length-append (folder s c.in-Some.parent) (below name),
    )
