-- A command line that is put together from its subcommands, and a subcommand from its arguments.
use Rattle.std.proofs.Common.{◌≡◌, ◌++◌, ◌∷◌, [], ap, ap₂, ◌∙◌, false}
use Rattle.clap.specs.Words.{AddsArg, AddsSubcommand, App, Rule, Shape, app_of, rule_of, with_rule, with_subcommand}
use Rattle.clap.specs.declared.builder.arg.Arg.{Arg}
use Rattle.clap.specs.declared.builder.command.Command.{Command}
use Rattle.command_line.specs.CommandLine.{IsLeaf}

pub app_of-leaf : {a : App} {s : Shape} (old sub new : Command) → app_of old ≡ a → IsLeaf s sub → AddsSubcommand old sub new
    → app_of new ≡ with_subcommand a s
app_of-leaf old sub new before leaf adds =
    adds.shape leaf.local ∙ ap₂ with_subcommand before (ap (λ (app : App). app.top) leaf.app)

pub IsLeaf-arg : {s : Shape} {r : Rule} (old new : Command) (a : Arg) → IsLeaf s old → AddsArg old a new → rule_of a ≡ r → a.global ≡ false
    → IsLeaf (record s { rules = s.rules ++ r ∷ [] }) new
IsLeaf-arg old new a leaf adds rule local = record {
  app = adds.shape local ∙ ap₂ with_rule leaf.app rule;
  local = rw (leaf.local, local) at adds.globals;
}
