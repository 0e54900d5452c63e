use Rattle.std.proofs.Common.{◌≡◌, string_bytes, ◌∙◌, ap, sym}
use Rattle.std.proofs.lemmas.Option.{none-some}
use Rattle.std.specs.Prelude.{option_map}
use Rattle.std.specs.Map.{set_value}
use Rattle.std.specs.Str.{bytes_eq}
use Rattle.node.specs.NodeState.{ContainerState}
use Rattle.node.specs.Viewed.{all_seen, viewed}
use Rattle.node.proofs.ContainerLemmas.{written, looked_up}
use Rattle.node.proofs.containers.replace.Goals as goal

pub returns-in-Some : goal.returns-in-Some
returns-in-Some c = λ x found.
    let es = c.args.containers.now.entries in
    let id = c.args.id.now in
    let now = c.in-Some.container.now in
    let w = record now { bundle = c.args.bundle; demand = c.args.demand } in
    let at = sym found ∙ looked_up id es ∙ ap (option_map viewed) (sym c.in-Some.ensures.value) in
    let same : x ≡ viewed now = cc at in
    ap all_seen (c.get_mut.follows.holds w).0 ∙ written id w es
    ∙ ap (λ (y : ContainerState). set_value (bytes_eq id) (all_seen es) (record y { bundle = string_bytes c.args.bundle; demand = c.args.demand })) (sym same)

pub returns-in_default : goal.returns-in_default
returns-in_default c = λ x found.
    absurd (none-some x (ap (option_map viewed) c.in_default.ensures.value ∙ sym (looked_up c.args.id.now c.args.containers.now.entries) ∙ found))
