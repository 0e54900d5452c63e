use Rattle.std.proofs.Common.{decimal, append-nil}
use Rattle.byte_output.proofs.output.put_argument.Goals as goal

pub returns : goal.returns
returns g c = rw (append-nil (decimal c.args.number)) at c.put_number.ensures
