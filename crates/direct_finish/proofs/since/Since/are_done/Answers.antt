use Rattle.apply_plan.specs.SetMemberLaws.{one_of_two}
use Rattle.direct_finish.proofs.since.Since.are_done.Goals as goal

pub returns : goal.returns
returns c = λ t. record {
  all = c.if-not-self.false;
  each = λ p noted. one_of_two noted (λ one. c.is_done.ensures c.if-not-is_done.false p one) (λ two. c.is_done-2.ensures t p two);
}
