-- What the text of a node's certificate proves to whoever checks it.
use Rattle.std.specs.Prelude.{◌≡◌, ◌*◌, ℕ, Some, length}
use Rattle.std.specs.FinSet as set
use Rattle.cpu_set.specs.Ids.{Ids}
use Rattle.certificate.specs.IsShortage.{asked, chosen, offered}
use Rattle.certificate.specs.Verdict.{plan_verdict}
use Rattle.certificate.specs.declared.certificates.Certificate.{Certificate}
use Rattle.certificate.specs.declared.certificates.Certificate.TheVariants as certificate
use Rattle.certificate.specs.declared.checking.Verdict.{Verdict}
use Rattle.certificate.specs.declared.checking.Verdict.TheVariants.{Moves, Short}
use Rattle.certificate_text.specs.Verdict.{IsVerdict}
use Rattle.certificate_text.specs.Written.{text_of}
use Rattle.node.specs.NodeState.{NodeState}
use Rattle.node.specs.IsNode.{IsNode}
use Rattle.node.specs.Best.{moved}
use Rattle.node.specs.Headline.{effective_sets}
use Rattle.node.specs.Tells.{TellsPlan}
use Rattle.node.specs.Rebalance.{Lacks}

-- the verdict of a certificate: the distance and the moves that it claims, or how many CPUs its members want and how many
-- there are
abbrev pub verdict_of : Certificate → Verdict
verdict_of (certificate.Plan rows sets prices total weights) = plan_verdict total weights
verdict_of (certificate.Short rows members weights) = Short (asked (chosen rows members)) (length (offered (chosen rows members)))

-- the text of what a node worked out last proves just that
abbrev pub LastIsProved : Type 0
LastIsProved = (n : NodeState) → IsNode n → (c : Certificate) → n.last ≡ Some c → IsVerdict (text_of c) (verdict_of c)

-- after a rebalance that plans, the text proves a distance, and as the moves how many cores the sets in effect moved. The
-- total that was answered is that distance, for each CPU that a core has.
abbrev pub TotalIsProved : Type 0
TotalIsProved = (old n : NodeState) (total : ℕ) → IsNode n → TellsPlan old total n → (c : Certificate) → n.last ≡ Some c
    → (distance : ℕ) × (total ≡ distance * old.machine.threads)
    × IsVerdict (text_of c) (Moves distance (moved old (effective_sets n.kernel n.containers)))

-- after one that answers a shortage, the text proves how many cores are asked for and how many there are. Each of the two,
-- for each CPU that a core has, is the count that was answered.
abbrev pub ShortIsProved : Type 0
ShortIsProved = (old n : NodeState) (wanted : ℕ) (allowed : Ids) → IsNode n → Lacks old wanted allowed n → (c : Certificate) → n.last ≡ Some c
    → (cores : ℕ) × (there : ℕ) × (wanted ≡ cores * old.machine.threads) × (set.len allowed ≡ there * old.machine.threads)
    × IsVerdict (text_of c) (Short cores there)
