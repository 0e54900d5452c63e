use Rattle.certificate_text.proofs.Writable.{read_can_be_written}
use Rattle.certificate_text.proofs.laws.read_certificates_can_be_written.Goals as goal

pub returns : goal.returns
returns c = read_can_be_written
