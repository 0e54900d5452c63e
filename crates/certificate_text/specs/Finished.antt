-- The certificate of a draft to which nothing can be added.
use Rattle.std.specs.Prelude.{◌≡◌, ℕ, ◌<◌, List, Option, Some, None, length}
use Rattle.certificate.specs.declared.certificates.Certificate.{Certificate}
use Rattle.certificate.specs.declared.certificates.Certificate.TheVariants.{Plan, Short}
use Rattle.certificate_text.specs.declared.stage.Stage.{Stage}
use Rattle.certificate_text.specs.declared.stage.Stage.TheVariants.{Start, Body, Totalled, Planned, Named, Shown}
use Rattle.certificate_text.specs.CertificateText.{IsText}
use Rattle.certificate_text.specs.DraftView.{DraftView}

-- what a draft of a plan says, and one of a shortage
abbrev pub plan_of : DraftView → Certificate
plan_of d = Plan d.rows d.sets (record { values = d.values; of_cpu = d.prices }) d.total d.weights

abbrev pub shortage_of : DraftView → Certificate
shortage_of d = Short d.rows d.members d.weights

-- the same, where the last line has been read
abbrev pub finished_at : Stage → DraftView → Option Certificate
finished_at Planned d = Some (plan_of d)
finished_at Shown d = Some (shortage_of d)
finished_at Start d = None
finished_at Body d = None
finished_at Totalled d = None
finished_at Named d = None

-- the certificate, if all of it has been read
abbrev pub finished : DraftView → Option Certificate
finished d = finished_at d.stage d

-- all of some certificate has been read
abbrev pub IsComplete : DraftView → Type 0
IsComplete d = (c : Certificate) × (finished d ≡ Some c)

-- and the text stands for it
abbrev pub IsDraftOf : List ℕ → DraftView → Type 0
IsDraftOf text d = (c : Certificate) × (finished d ≡ Some c) × IsText text c

-- the draft is a plan's, and some row has a set
abbrev pub HasSets : DraftView → Type 0
HasSets d = (d.stage ≡ Planned) × (0 < length d.sets)
