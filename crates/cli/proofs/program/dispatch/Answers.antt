-- The input that a check names, and the script on standard input. Of trees nothing is asked, but for a script.
use Rattle.std.proofs.Common.{◌≡◌, ◌∙◌, ℕ, Bor, List, ap, option_map, refl, subst}
use Rattle.program_io.specs.Readings.{Reads}
use Rattle.cli.proofs.Named.{name_of-or_hyphen}
use Rattle.command_line.specs.Asked.{word_bytes}
use Rattle.answers.specs.Named.{name_of, reads_named}
use Rattle.answers.specs.Notes.{shown}
use Rattle.answers.specs.Tells.{Checks, Solves}
use Rattle.cli.proofs.program.dispatch.Goals as goal

pub returns-in-Check : goal.returns-in-Check
returns-in-Check g c =
    let called : c.unwrap_or.result.now ≡ name_of (option_map word_bytes c.in-Check.file) =
    ap (λ (word : Bor (List ℕ)). word.now) c.unwrap_or.ensures ∙ name_of-or_hyphen c.in-Check.file _ refl in
    rw c.in-Check.is (
      subst (λ (name : List ℕ). Checks g.W.Write.contents g.E.Write.contents c.args.console.now c.check_named.new.console c.check_named.result
          (reads_named (Reads (g.F.Opens.opens c.args.files.now) (g.F.Opens.fails c.args.files.now) g.F.File.Input.gives) (g.R.Input.gives c.args.input) name) (shown name)) called c.check_named.ensures,
      λ how before held. held,
    )

pub returns-in-List : goal.returns-in-List
returns-in-List g c = rw c.in-List.is (c.do_list.ensures, λ how before held. held)

pub returns-in-Slit : goal.returns-in-Slit
returns-in-Slit g c = rw c.in-Slit.is (c.slit_named.ensures, λ how before held. held)

pub returns-in-Run : goal.returns-in-Run
returns-in-Run g c = rw c.in-Run.is c.run_in.ensures

pub returns-in-Solve : goal.returns-in-Solve
returns-in-Solve g c =
    let called : c.unwrap_or-in-Solve.result.now ≡ name_of (option_map word_bytes c.in-Solve.file) =
    ap (λ (word : Bor (List ℕ)). word.now) c.unwrap_or-in-Solve.ensures ∙ name_of-or_hyphen c.in-Solve.file _ refl in
    rw c.in-Solve.is (
      subst (λ (name : List ℕ). Solves g.W.Write.contents g.E.Write.contents c.args.console.now c.solve_named.new.console c.solve_named.result
          (reads_named (Reads (g.F.Opens.opens c.args.files.now) (g.F.Opens.fails c.args.files.now) g.F.File.Input.gives) (g.R.Input.gives c.args.input) name) (shown name)) called c.solve_named.ensures,
      λ how before held. held,
    )
