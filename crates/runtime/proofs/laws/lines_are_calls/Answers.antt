use Rattle.runtime.specs.Found.{IsFound}
use Rattle.runtime.specs.ScriptLaws.{commands_are_calls, lines_are_calls}
use Rattle.runtime.proofs.laws.lines_are_calls.Goals as goal

pub returns : goal.returns
returns c = record { commands = commands_are_calls IsFound; lines = lines_are_calls IsFound }
