-- The texts of plans and shortages.
use Rattle.std.specs.Prelude.{◌≡◌, ◌<◌, ℕ, List, [], ◌++◌, Option, Some, None, All, codes, decimal, length, zip}
use Rattle.std.specs.List.{flat_map}
use Rattle.cpu_set.specs.Ids.{Ids}
use Rattle.machine.specs.Layout.{Layout}
use Rattle.certificate.specs.RowView.{RowView}
use Rattle.certificate.specs.declared.certificates.Certificate.{Certificate}
use Rattle.certificate.specs.declared.certificates.Certificate.TheVariants as certificate
use Rattle.certificate_text.specs.CertificateText.{id_at}
use Rattle.apply_plan.specs.declared.Progress.{Progress}
use Rattle.apply_plan.specs.declared.Progress.TheVariants.{More, Done}
use Rattle.node.specs.declared.named.Named.{Named}
use Rattle.node.specs.declared.named.Named.TheVariants.{Holders, Members}
use Rattle.node.specs.declared.outcome.Outcome.{Outcome}
use Rattle.node.specs.declared.outcome.Outcome.TheVariants.{Plan, Short}
use Rattle.node.specs.NodeState.{NodeState}
use Rattle.node.specs.Rows.{as_cpus}
use Rattle.runtime.specs.AnswerTexts.{set_text}

-- what a plan gives a container
abbrev pub hold_line : RowView × Ids → List ℕ
hold_line p = (codes "hold " ++ (p.0.id ++ codes " ")) ++ (set_text p.1 ++ codes "\n")

-- a container that is short
abbrev pub member_line : List RowView → ℕ → List ℕ
member_line rows k = codes "member " ++ (id_at rows k ++ codes "\n")

-- a line for each container that a certificate names, whose rows have cores by their lowest CPUs
abbrev pub container_lines : Layout → Certificate → List ℕ
container_lines m (certificate.Plan rows plan prices total weights) = flat_map hold_line (zip rows (as_cpus m plan))
container_lines m (certificate.Short rows members weights) = flat_map (member_line rows) members

abbrev pub last_lines : Layout → Option Certificate → List ℕ
last_lines m (Some c) = container_lines m c
last_lines m None = []

-- whom an outcome names, as the program has it: a set for each row, or members among the rows
abbrev pub AreInPlace : Named → Type 0
AreInPlace (Holders rows sets) = length sets.now ≡ length rows.now
AreInPlace (Members rows members) = All (λ k. k < length rows.now) members.now

-- the lines of whom an outcome names
abbrev pub named_lines : Named → List ℕ
named_lines (Holders rows sets) = flat_map hold_line (zip rows.now sets.now)
named_lines (Members rows members) = flat_map (member_line rows.now) members.now

-- the total; or what is asked for, and what is allowed
abbrev pub total_line : ℕ → List ℕ
total_line total = codes "plan total " ++ (decimal total ++ codes "\n")

abbrev pub need_line : ℕ → Ids → List ℕ
need_line wanted allowed = (codes "short demand " ++ (decimal wanted ++ codes " allowed ")) ++ (set_text allowed ++ codes "\n")

abbrev pub first_line : Outcome → List ℕ
first_line (Plan total) = total_line total
first_line (Short wanted allowed) = need_line wanted allowed

-- the pool that a plan leaves, and the end
abbrev pub pool_lines : Ids → List ℕ
pool_lines pool = (codes "pool " ++ set_text pool) ++ codes "\nend\n"

abbrev pub end_lines : Ids → Outcome → List ℕ
end_lines pool (Plan total) = pool_lines pool
end_lines pool (Short wanted allowed) = codes "end\n"

-- the text of a plan or a shortage, with the containers of the last certificate and the pool
abbrev pub outcome_text : NodeState → Outcome → List ℕ
outcome_text n outcome = first_line outcome ++ (last_lines n.machine n.last ++ end_lines n.pool outcome)

-- the text of a step
abbrev pub progress_line : Progress → List ℕ
progress_line More = codes "more\n"
progress_line Done = codes "done\n"
