-- What is no text is told, and is no allocation failure.
use Rattle.std.proofs.Common.{◌≢◌, refl, rules}
use Rattle.std.specs.IoError.{error_kind}
use Rattle.std.specs.declared.io.ErrorKind.TheVariants.{OutOfMemory}
use Rattle.cli.proofs.arguments.start.Goals as goal

pub returns : goal.returns
returns g c =
    let other : error_kind c.in-Err.error ≢ OutOfMemory = search rules in
    rw c.in-Err.is (((λ short. absurd (other short)), λ _. (refl, refl, rw c.as_bytes.ensures.value at c.tell.ensures)), λ how before held. held)
