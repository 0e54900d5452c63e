use Rattle.std.specs.Bool.{one_answer}
use Rattle.std.specs.Prelude.{bit_xor}
use Rattle.cpu_set.specs.PointwiseLaws.{is_same_decides}
use Rattle.cpu_set.proofs.Combined.{AreWords-lanes, set_of_words-lanes, differs, xor-IsBitwise, one_sided, contains-one_sided, same_one_sided}
use Rattle.cpu_set.proofs.id_set.IdSetPartialEq.eq.Goals as goal

pub has_none-requires : goal.has_none-requires
has_none-requires c = AreWords-lanes bit_xor differs _ _ xor-IsBitwise c.lanes.ensures.words c.lanes-2.ensures.words

pub returns : goal.returns
returns c =
    let e = set_of_words-lanes bit_xor differs one_sided contains-one_sided _ _ xor-IsBitwise c.lanes.ensures.words c.lanes-2.ensures.words in
    let same = same_one_sided c.args.self.now c.args.other.now in
    let none = rw (e, c.lanes.ensures.numbers, c.lanes-2.ensures.numbers) at c.has_none.ensures in
    one_answer _ _ (λ yes. same.0 (none.0 yes), λ is. none.1 (same.1 is)) (is_same_decides _ _)
