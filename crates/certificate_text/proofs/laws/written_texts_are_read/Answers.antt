use Rattle.certificate_text.proofs.Rereading.{written_reads_again}
use Rattle.certificate_text.proofs.laws.written_texts_are_read.Goals as goal

pub returns : goal.returns
returns c = written_reads_again c.canonical_texts.ensures.canonical c.canonical_texts.ensures.reads_again c.plain_texts.ensures.lacks
