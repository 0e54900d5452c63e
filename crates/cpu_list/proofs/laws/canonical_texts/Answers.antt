use Rattle.cpu_list.proofs.Canonical.{text_is_canonical, one_canonical_text}
use Rattle.cpu_list.proofs.RoundTrip.{reads_again}
use Rattle.cpu_list.proofs.laws.canonical_texts.Goals as goal

pub returns-clause-canonical : goal.returns-clause-canonical
returns-clause-canonical c = text_is_canonical

pub returns-clause-one : goal.returns-clause-one
returns-clause-one c = one_canonical_text

pub returns-clause-reads_again : goal.returns-clause-reads_again
returns-clause-reads_again c = reads_again
