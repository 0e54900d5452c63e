use Rattle.certificate_text.proofs.Grammar.{one_certificate}
use Rattle.certificate_text.proofs.BadLines.{one_bad_line}
use Rattle.certificate_text.proofs.laws.one_reading.Goals as goal

pub returns-clause-certificate : goal.returns-clause-certificate
returns-clause-certificate c = one_certificate

pub returns-clause-line : goal.returns-clause-line
returns-clause-line c = one_bad_line
