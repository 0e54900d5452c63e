use Rattle.std.proofs.Common.{◌∙◌, ap}
use Rattle.std.specs.List.{before_first}
use Rattle.std.proofs.lemmas.List.{take_rest}
use Rattle.std.specs.FinSet as set
use Rattle.cpu_set.specs.PointwiseLaws.{contains-empty}
use Rattle.cpu_list.specs.ListText.{is_comma, item_of}
use Rattle.cpu_list.specs.FirstFault.{item_fault}
use Rattle.cpu_list.specs.FirstFaultLaws.{first_decides}
use Rattle.cpu_list.proofs.ReadSteps.{IsRead-none, IsRead-more, IsRead-fault, IsRead-all}
use Rattle.cpu_list.proofs.reading.read.Goals as goal

pub loop-at-init : goal.loop-at-init
loop-at-init c = IsRead-none _ _ _ (λ n. ap (λ s. set.contains s n) c.empty-set.ensures ∙ contains-empty n)

pub returns-in-Err : goal.returns-in-Err
returns-in-Err c =
    let first = c.first_piece.ensures ∙ ap (before_first is_comma) (take_rest c.args.text.now c.loop-at.at) in
    let faulty = ap (λ piece. item_fault c.args.limit (item_of piece)) c.first_piece.ensures ∙ c.in-Err.ensures.faulty in
    let fault = IsRead-fault _ _ _ _ _ _ _ c.loop-at.invariant c.loop-at-test.true first faulty c.leading_blanks.ensures.value in
    (fault, (first_decides c.args.limit c.args.text.now _).0 fault)

pub loop-at-preserved : goal.loop-at-preserved
loop-at-preserved c =
    let first = ap (before_first is_comma) (take_rest c.args.text.now c.loop-at.at) in
    rw c.in-Ok.ensures.long (IsRead-more _ _ _ _ _ _ c.loop-at.invariant c.loop-at-test.true first c.in-Ok.ensures.right c.in-Ok.ensures.added)

pub returns : goal.returns
returns c = IsRead-all _ _ _ _ c.loop-at.invariant c.loop-at-test.false
