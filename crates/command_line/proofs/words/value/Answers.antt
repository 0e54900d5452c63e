-- The value of an argument, by the entries of the matches and by their rows.
use Rattle.std.proofs.Common.{◌≡◌, ℕ, List, [], Option, None, Some, Bor, unwrap_or, option_map, refl, ap, ◌∙◌}
use Rattle.clap.proofs.WalkLemmas.{first_value-rows}
use Rattle.clap.specs.Words.{found_of}
use Rattle.command_line.proofs.words.value.Goals as goal

now-unwrap_or : (o : Option (Bor (List ℕ))) (empty : Bor (List ℕ)) → empty.now ≡ []
    → (unwrap_or o empty).now ≡ unwrap_or (option_map (λ (s : Bor (List ℕ)). s.now) o) []
now-unwrap_or None empty e = e
now-unwrap_or (Some s) empty e = refl

pub returns : goal.returns
returns c =
    ap (λ (s : Bor (List ℕ)). s.now) c.unwrap_or.ensures ∙ now-unwrap_or c.get_str.result _ refl
    ∙ ap (λ (o : Option (List ℕ)). unwrap_or o []) (c.get_str.ensures ∙ first_value-rows (found_of c.args.given.now) c.args.id.now)
