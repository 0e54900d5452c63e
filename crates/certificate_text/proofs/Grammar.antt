-- What a draft that some lines make says of the certificates that begin with them.
use Rattle.std.proofs.Common.{◌≡◌, ℕ, ◌+◌, ◌<◌, ◌≤◌, ◌++◌, List, [], ◌∷◌, map, length, Some, refl, sym, ap, ◌∙◌, subst, arith}
use Rattle.std.specs.List.{All, AllPairs, AllZip}
use Rattle.std.specs.List.Sorted.{IsStrictlyIncreasing}
use Rattle.std.proofs.lemmas.Option.{option_and_then_some, same_Some, none-some}
use Rattle.std.proofs.lemmas.List.{append-nil, append_assoc, append_cancel_right}
use Rattle.certificate.specs.declared.certificates.Certificate.{Certificate}
use Rattle.certificate.specs.declared.certificates.Certificate.TheVariants.{Plan, Short}
use Rattle.certificate_text.specs.declared.stage.Stage.{Stage}
use Rattle.certificate_text.specs.declared.stage.Stage.TheVariants.{Start, Body, Totalled, Planned, Named, Shown}
use Rattle.certificate_text.specs.Line.{LineView, HeaderLine, RowLine, PriceLine, TotalLine, EndLine, Spells}
use Rattle.certificate_text.specs.CertificateText.{IsText, hold_lines, lines_of, AreLines}
use Rattle.certificate_text.specs.Begun.{run, IsBegun}
use Rattle.certificate_text.specs.Finished.{plan_of, shortage_of, finished, finished_at}
use Rattle.certificate_text.specs.DraftView.{DraftView, next, empty_draft}
use Rattle.certificate_text.proofs.DraftSteps.{IsRightAt, lines_at, step}
use Rattle.certificate_text.proofs.DraftLines.{ended_of, run-lines_of}
use Rattle.certificate_text.proofs.SpelledOnce.{spelled_once}
use Rattle.certificate_text.proofs.Zips.{zip_once}

-- a draft is right, and holds what was said
pub record Holds (d : DraftView) (said : List LineView) : Type 0 where
  pub right : IsRightAt d.stage d
  pub lines : lines_at d.stage d ≡ said

run_holds : (d : DraftView) (before ls : List LineView) (texts : List (List ℕ)) (e : DraftView) → Holds d before → AllZip Spells texts ls
    → run d ls ≡ Some e → Holds e (before ++ ls)
run_holds d before [] [] e h s r =
    let same : d ≡ e = same_Some d e r in
    subst (λ (x : DraftView). Holds x (before ++ [])) same (record { right = h.right; lines = h.lines ∙ sym (append-nil before) })
run_holds d before (l ∷ ls) (t ∷ texts) e h s r =
    option_and_then_some (λ x. run x ls) (next d l) e r (λ x n rest.
    let stepped = step d l t x h.right s.0 n in
    let there : Holds x (before ++ l ∷ []) = record { right = stepped.right; lines = stepped.lines ∙ ap (λ k. k ++ l ∷ []) h.lines } in
    let whole : (before ++ l ∷ []) ++ ls ≡ before ++ l ∷ ls = append_assoc before (l ∷ []) ls in
    subst (λ (k : List LineView). Holds e k) whole (run_holds x (before ++ l ∷ []) ls texts e there s.1 rest))
run_holds d before [] (t ∷ texts) e h s r = absurd s
run_holds d before (l ∷ ls) [] e h s r = absurd s

pub begun_holds : (ls : List (List ℕ)) (d : DraftView) (b : IsBegun ls d) → Holds d b.said
begun_holds ls d b =
    let start : Holds empty_draft [] = record { right = (record { no_rows = refl; no_sets = refl; no_values = refl; no_prices = refl }, record { no_members = refl; from_first = refl }); lines = refl } in
    run_holds empty_draft [] b.said ls d start b.spelled b.run_is

regroup : {A : Type 0} (a h p x : List A) → (a ++ (h ++ p)) ++ x ≡ a ++ (h ++ (p ++ x))
regroup a h p x = append_assoc a (h ++ p) x ∙ ap (λ l. a ++ l) (append_assoc h p x)

lines_of_plan : (d : DraftView) → lines_at Planned d ≡ lines_of (plan_of d)
lines_of_plan d =
    let whole = regroup (map RowLine d.rows) (hold_lines d.rows d.sets d.values) (map PriceLine d.prices) (TotalLine d.weights d.total ∷ EndLine ∷ []) in
    ap (λ ls. HeaderLine d.weights ∷ ls) whole

-- the lines of an ended draft are those of its certificate
ended_lines : (stage : Stage) (ls : List (List ℕ)) (d : DraftView) (said : List LineView) (c : Certificate) → IsRightAt stage d → lines_at stage d ≡ said
    → AllZip Spells ls said → finished_at stage d ≡ Some c → AreLines ls c
ended_lines Planned ls d said c right lines spelled f =
    let same : said ≡ lines_of (plan_of d) = sym lines ∙ lines_of_plan d in
    let done : AreLines ls (plan_of d) = record {
      can = record { sets_len = right.1; values_len = right.0.values_len ∙ right.1; apart = right.0.apart };
      spelled = subst (λ (k : List LineView). AllZip Spells ls k) same spelled;
    } in
    subst (λ (k : Certificate). AreLines ls k) (same_Some (plan_of d) c f) done
ended_lines Shown ls d said c right lines spelled f =
    let done : AreLines ls (shortage_of d) = record {
      can = record { some = right.some; rising = increasing d.members right.rising; there = below d.members d.from (length d.rows) right.below right.within; apart = right.apart };
      spelled = subst (λ (k : List LineView). AllZip Spells ls k) (sym lines) spelled;
    } in
    subst (λ (k : Certificate). AreLines ls k) (same_Some (shortage_of d) c f) done
  where
    increasing : (ks : List ℕ) → AllPairs (λ j k. j < k) ks → IsStrictlyIncreasing ks
    increasing ks h k within = h k (k + 1) 0 (omega arith) within

    below : (ks : List ℕ) (m n : ℕ) → All (λ k. k < m) ks → m ≤ n → All (λ k. k < n) ks
    below ks m n h le = λ k d lt. let b = h k d lt in omega (arith, b, le)
ended_lines Start ls d said c right lines spelled f = absurd (none-some c f)
ended_lines Body ls d said c right lines spelled f = absurd (none-some c f)
ended_lines Totalled ls d said c right lines spelled f = absurd (none-some c f)
ended_lines Named ls d said c right lines spelled f = absurd (none-some c f)

-- what lines make an ended draft are those of its certificate
pub begun_ended : (ls : List (List ℕ)) (d : DraftView) (c : Certificate) → IsBegun ls d → finished d ≡ Some c → AreLines ls c
begun_ended ls d c b f =
    let h = begun_holds ls d b in
    ended_lines d.stage ls d b.said c h.right h.lines b.spelled f

-- the lines of a certificate make its draft
pub lines_begun : (ls : List (List ℕ)) (c : Certificate) → AreLines ls c → IsBegun ls (ended_of c)
lines_begun ls c a = record { said = lines_of c; spelled = a.spelled; run_is = run-lines_of c a.can }

-- lines make one draft
pub begun_once : (ls : List (List ℕ)) (d e : DraftView) → IsBegun ls d → IsBegun ls e → d ≡ e
begun_once ls d e a b =
    let same : a.said ≡ b.said = zip_once Spells spelled_once ls a.said b.said a.spelled b.spelled in
    same_Some d e (sym a.run_is ∙ ap (run empty_draft) same ∙ b.run_is)

pub finished-ended : (c : Certificate) → finished (ended_of c) ≡ Some c
finished-ended (Plan rows sets prices total weights) = refl
finished-ended (Short rows members weights) = refl

pub lines_once : (ls : List (List ℕ)) (c d : Certificate) → AreLines ls c → AreLines ls d → c ≡ d
lines_once ls c d a b =
    let same = begun_once ls (ended_of c) (ended_of d) (lines_begun ls c a) (lines_begun ls d b) in
    same_Some c d (sym (finished-ended c) ∙ ap finished same ∙ finished-ended d)

pub one_certificate : (text : List ℕ) (c d : Certificate) → IsText text c → IsText text d → c ≡ d
one_certificate text c d p q =
    let same : p.0 ≡ q.0 = append_cancel_right p.0 q.0 ([] ∷ []) (sym p.1 ∙ q.1) in
    lines_once p.0 c d p.2 (rw (← same) at q.2)
