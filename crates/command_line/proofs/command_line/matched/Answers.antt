-- No argument has a rule on another.
use Rattle.std.proofs.Common.{◌≡◌, refl, map, string_bytes, subst, sym, true}
use Rattle.std.proofs.lemmas.Result.{IfOk-weaker}
use Rattle.clap.specs.Words.{App, FailsBy, app_of, fault_of, is_simple, is_simple_and_free, subcommand_of, subcommand_rows_of}
use Rattle.command_line.specs.CommandLine.{numarun}
use Rattle.command_line.proofs.command_line.matched.Goals as goal

simple : is_simple numarun ≡ true
simple = refl

free : is_simple_and_free numarun ≡ true
free = refl

pub returns-clause-matches : goal.returns-clause-matches
returns-clause-matches c =
    let app : app_of c.in_ok-command_line.field-0 ≡ numarun = c.in_ok-command_line.ensures in
    let is : is_simple (app_of c.in_ok-command_line.field-0) ≡ true = subst (λ (a : App). is_simple a ≡ true) (sym app) simple in
    IfOk-weaker c.try_get_matches_from.result _ _
    (λ m has. subst (λ (a : App). subcommand_rows_of m ≡ subcommand_of a (map string_bytes c.args.words.now)) app (has is).1)
    c.try_get_matches_from.ensures.matches

pub returns-clause-kinds : goal.returns-clause-kinds
returns-clause-kinds c =
    let app : app_of c.in_ok-command_line.field-0 ≡ numarun = c.in_ok-command_line.ensures in
    let simple : is_simple_and_free (app_of c.in_ok-command_line.field-0) ≡ true = subst (λ (a : App). is_simple_and_free a ≡ true) (sym app) free in
    subst (λ (a : App). FailsBy (fault_of a (map string_bytes c.args.words.now)) c.try_get_matches_from.result) app (c.try_get_matches_from.ensures.kinds simple)
