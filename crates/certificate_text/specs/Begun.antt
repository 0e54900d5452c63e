-- A draft that some lines make.
use Rattle.std.specs.Prelude.{◌≡◌, ℕ, List, [], ◌∷◌, Option, Some, option_and_then}
use Rattle.std.specs.List.{AllZip}
use Rattle.certificate_text.specs.Line.{LineView, Spells}
use Rattle.certificate_text.specs.DraftView.{DraftView, next, empty_draft}

-- the draft with more lines, where each can follow
abbrev pub run : DraftView → List LineView → Option DraftView
run d [] = Some d
run d (l ∷ ls) = option_and_then (λ e. run e ls) (next d l)

-- from nothing, these lines of a text make the draft
pub record IsBegun (ls : List (List ℕ)) (d : DraftView) : Type 0 where
  pub said : List LineView
  pub spelled : AllZip Spells ls said
  pub run_is : run empty_draft said ≡ Some d
