-- What goes to standard error is no request.
use Rattle.std.proofs.Common.{◌≢◌, inl, inr, refl, rules}
use Rattle.clap.specs.Words.{kind_of}
use Rattle.clap.specs.declared.error.kind.ErrorKind.TheVariants.{DisplayHelp, DisplayVersion}
use Rattle.cli.specs.Program.{IsRequest}
use Rattle.cli.proofs.program.print_usage.Goals as goal

pub returns-then-use_stderr : goal.returns-then-use_stderr
returns-then-use_stderr g c =
    let other : (kind_of c.args.error.now ≢ DisplayHelp) × (kind_of c.args.error.now ≢ DisplayVersion) = search rules in
    let mistake : IsRequest (kind_of c.args.error.now) → ⊥ = λ request. elim request [ inl help ↦ other.0 help | inr version ↦ other.1 version ] in
    inl (c.as_bytes.result.now, (λ request. absurd (mistake request)), λ _. (refl, refl, c.tell.ensures))
