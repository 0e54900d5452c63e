use Rattle.network_simplex.proofs.Proposals.{if_found}
use Rattle.network_simplex.proofs.proposal.propose.Goals as goal

pub returns : goal.returns
returns c = record {
  proved = if_found c.propose_body.result (λ p h. h.proved) c.propose_body.ensures;
  least = if_found c.propose_body.result (λ p h. h.least) c.propose_body.ensures;
  dealt = if_found c.propose_body.result (λ p h. h.dealt) c.propose_body.ensures;
  priced = if_found c.propose_body.result (λ p h. (h.by_class, h.some)) c.propose_body.ensures;
}
