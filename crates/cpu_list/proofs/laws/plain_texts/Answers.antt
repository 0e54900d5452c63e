use Rattle.cpu_list.proofs.PlainText.{text_is_plain, text_lacks, text_is_empty}
use Rattle.cpu_list.proofs.laws.plain_texts.Goals as goal

pub returns-clause-plain : goal.returns-clause-plain
returns-clause-plain c = text_is_plain

pub returns-clause-lacks : goal.returns-clause-lacks
returns-clause-lacks c = text_lacks

pub returns-clause-empty : goal.returns-clause-empty
returns-clause-empty c = text_is_empty
