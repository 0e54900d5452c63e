-- What decides rows, as a solution of them.
use Rattle.std.proofs.Common.{List, length, refl, sym, subst}
use Rattle.std.specs.Prelude.{IsTrue}
use Rattle.certificate.specs.IsShortage.{asked, chosen, offered}
use Rattle.certificate.specs.Limits.{rows_fit}
use Rattle.certificate.specs.RowView.{RowView}
use Rattle.certificate.specs.declared.checking.Verdict.TheVariants as verdict
use Rattle.certificate.specs.declared.certificates.Certificate.{Certificate}
use Rattle.certificate.specs.declared.certificates.Certificate.TheVariants.{Plan, Short}
use Rattle.certificate.specs.declared.weights.Weights.{Weights}
use Rattle.certificate.specs.declared.weights.Weights.TheVariants.{Plain}
use Rattle.solution.specs.Decides.{Decides}
use Rattle.solution.specs.Solves.{IsSolution}

module _ (rows : List RowView) (fit : IsTrue (rows_fit rows)) where
  -- what decides rows, in version 1, is a solution of them
  pub solution : (c : Certificate) → Decides rows Plain c → IsSolution rows c
  solution (Plan own sets prices total said) d =
      subst (λ (w : Weights). IsSolution rows (Plan own sets prices total w)) (sym d.1)
      (subst (λ (rs : List RowView). IsSolution rows (Plan rs sets prices total Plain)) (sym d.0)
      (record {
        rows_are = refl;
        version = refl;
        verdict = verdict.Plan total;
        proved = (d.2.proved, refl);
        best = (d.2.least, d.2.proved.costs);
        dealt = d.2.dealt;
        needed = tt;
      }))
  solution (Short own members said) d =
      subst (λ (w : Weights). IsSolution rows (Short own members w)) (sym d.1)
      (subst (λ (rs : List RowView). IsSolution rows (Short rs members Plain)) (sym d.0)
      (record {
        rows_are = refl;
        version = refl;
        verdict = verdict.Short (asked (chosen rows members)) (length (offered (chosen rows members)));
        proved = record { limits = fit; shortage = d.2.shortage; asks = refl; has = refl };
        best = d.2.none;
        dealt = tt;
        needed = d.2.needed;
      }))
