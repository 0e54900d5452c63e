-- From the cores of a plan to the sets that the hand-over gives.
use Rattle.std.proofs.Common.{◌≡◌, List, [], ◌∷◌, refl, sym, ap, ◌∙◌, subst}
use Rattle.std.specs.List.{AllByRecursion, AllZip}
use Rattle.cpu_set.specs.Ids.{Ids}
use Rattle.cpu_set.specs.Members.{InRange}
use Rattle.certificate.specs.IsPlan.{Meets, IsPlan}
use Rattle.certificate.specs.RowView.{RowView}
use Rattle.machine.specs.CoreCountLaws.{single_cpus_of_cores}
use Rattle.machine.specs.IsSound.{IsSound}
use Rattle.machine.specs.Layout.{Layout}
use Rattle.rows.specs.Weighs.{RowsWeigh}
use Rattle.node.specs.NodeState.{NodeState}
use Rattle.node.specs.IsNode.{IsNode}
use Rattle.node.specs.Rows.{as_cpus, rows_of}
use Rattle.node.specs.Best.{CouldHave}
use Rattle.node.proofs.AskingLemmas.{home, rows_are_weighed}
use Rattle.node.proofs.DistanceLemmas.{plan_could}

-- the CPUs of a plan are sets that the containers could have
module _ (n now : NodeState) (is : n ≡ now) (h : IsNode n) (weigh : RowsWeigh) (plan : List Ids) (p : IsPlan (rows_of now) plan) where
  there : IsNode now
  there = subst (λ (m : NodeState). IsNode m) is h

  pub opening_could : (sets : List Ids) → sets ≡ as_cpus now.machine plan → CouldHave now sets
  opening_could sets same =
      subst (λ (ss : List Ids). CouldHave now ss) (sym same) (plan_could now there (home now.machine) (rows_of now) (rows_are_weighed now there weigh) plan p)

-- the numbers of a plan's sets are such as a set may have
pub plan_in_range : (rows : List RowView) (plan : List Ids) → AllZip Meets rows plan → AllByRecursion InRange plan
plan_in_range [] [] meets = tt
plan_in_range [] (s ∷ plan) meets = absurd meets
plan_in_range (row ∷ rows) [] meets = tt
plan_in_range (row ∷ rows) (s ∷ plan) meets = (meets.0.in_range, plan_in_range rows plan meets.1)

-- where a core has one CPU, they are their own CPUs
pub single_plan : (m : Layout) → IsSound m → m.threads ≡ 1 → (plan : List Ids) → AllByRecursion InRange plan → as_cpus m plan ≡ plan
single_plan m sound one [] within = refl
single_plan m sound one (s ∷ plan) within =
    ap (λ t. t ∷ as_cpus m plan) (single_cpus_of_cores m s sound.cores one within.0)
    ∙ ap (λ ts. s ∷ ts) (single_plan m sound one plan within.1)
