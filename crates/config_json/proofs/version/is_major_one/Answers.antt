use Rattle.std.proofs.Common.{rules}
use Rattle.config_json.proofs.VersionErrors.{wants_memory}
use Rattle.config_json.proofs.version.is_major_one.Goals as goal

pub returns-in-Err-clause-plain : goal.returns-in-Err-clause-plain
returns-in-Err-clause-plain c = λ _. wants_memory _ c.args.text.now c.in-Err.e (search rules) c.in-Err.ensures.refused c.in-Err.ensures.plain
