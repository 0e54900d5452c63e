-- What is kept proves its verdict.
use Rattle.std.proofs.Common.{◌≡◌, ℕ, ◌*◌, length, Option, Some, None, refl, ap, subst, sym, ◌∙◌, arith}
use Rattle.std.proofs.Math.Nat.{mod-lt}
use Rattle.std.specs.Prelude.{IfSome}
use Rattle.std.specs.FinSet as set
use Rattle.certificate.specs.IsShortage.{asked, chosen, offered}
use Rattle.certificate.specs.Packed.{distance_of, moves_of}
use Rattle.certificate.specs.PackedLemmas.{packed-parts}
use Rattle.certificate.specs.declared.weights.Weights.TheVariants.{Plain, WithMoves}
use Rattle.certificate.specs.Verdict.{AreParts, IsProvedCertificate}
use Rattle.certificate.specs.declared.certificates.Certificate.{Certificate}
use Rattle.certificate.specs.declared.certificates.Certificate.TheVariants as certificate
use Rattle.certificate.specs.declared.checking.Verdict.{Verdict}
use Rattle.certificate.specs.declared.checking.Verdict.TheVariants.{Plan, Moves, Short}
use Rattle.std.specs.Option.{option_map_or}
use Rattle.certificate_text.specs.Verdict.{IsVerdict}
use Rattle.certificate_text.specs.Written.{WrittenReadsAgain, text_of}
use Rattle.rows.specs.Scaled.{ScaledRowsWeigh}
use Rattle.rows.specs.Weighs.{RowsWeigh}
use Rattle.cpu_set.specs.Ids.{Ids}
use Rattle.node.specs.IsNode.{IsKept, IsNode, ProvesItself}
use Rattle.node.specs.NodeState.{NodeState}
use Rattle.node.specs.Rows.{as_cores, scaled_rows_of, planned, lacking}
use Rattle.node.specs.Rebalance.{Lacks}
use Rattle.node.specs.Best.{moved}
use Rattle.node.specs.Headline.{effective_sets}
use Rattle.node.specs.Proved.{LastIsProved, TotalIsProved, ShortIsProved, verdict_of}
use Rattle.node.proofs.AskingLemmas.{there_counted}

-- a total is its parts
are_parts : (total : ℕ) → AreParts total (distance_of total) (moves_of total)
are_parts total = record { moves_fit = mod-lt total (omega arith); whole = sym (packed-parts total) }

plain_is_not : Plain ≡ WithMoves → ⊥
plain_is_not same = cc

proves : (c : Certificate) → ProvesItself c → IsProvedCertificate c (verdict_of c)
proves (certificate.Plan rows sets prices total WithMoves) p = (p.1, p.2, are_parts total)
proves (certificate.Plan rows sets prices total Plain) p = absurd (plain_is_not p.0)
proves (certificate.Short rows members WithMoves) p = (p.1, record { limits = p.2; shortage = p.3; asks = refl; has = refl })
proves (certificate.Short rows members Plain) p = absurd (plain_is_not p.0)

pub last_is_proved : WrittenReadsAgain → LastIsProved
last_is_proved again n h c is =
    let kept : IsKept c = subst (λ (last : Option Certificate). IfSome last IsKept) is h.proved in
    (c, again c kept.0 kept.1, proves c kept.2)

pub total_is_proved : WrittenReadsAgain → TotalIsProved
total_is_proved again old n total h r c is =
    let sets = effective_sets n.kernel n.containers in
    let own : Certificate = planned old (as_cores old.machine sets) r.told.prices r.told.whole in
    let c_is : c ≡ own = ap (λ (last : Option Certificate). option_map_or (λ (x : Certificate). x) last own) (sym is ∙ r.told.is) in
    let kept : IsKept c = subst (λ (last : Option Certificate). IfSome last IsKept) is h.proved in
    let itself : ProvesItself own = subst ProvesItself c_is kept.2 in
    let proved : IsProvedCertificate own (Moves r.told.distance (moved old sets)) = (itself.1, itself.2, r.told.parts) in (
      r.told.distance,
      r.told.counts,
      (c, again c kept.0 kept.1, subst (λ (x : Certificate). IsProvedCertificate x (Moves r.told.distance (moved old sets))) (sym c_is) proved),
    )

-- before what was worked out last there was a node as well
module _ (old n : NodeState) (wanted : ℕ) (allowed : Ids) (h : IsNode n) (l : Lacks old wanted allowed n) where
  abbrev earlier : NodeState
  earlier = record old { last = None }

  earlier_node : IsNode earlier
  earlier_node =
      let same : IsNode (record old { last = Some (lacking old l.members) }) = subst (λ (m : NodeState). IsNode m) l.is h in
      record {
        layout = same.layout;
        machine = same.machine;
        holds = same.holds;
        few = same.few;
        asked = same.asked;
        stands = same.stands;
        proved = tt;
      }

  abbrev earlier_lacks : Lacks earlier wanted allowed n
  earlier_lacks = record { members = l.members; settled = l.settled; decides = l.decides; kept = l.kept; need = l.need; is = l.is }

  named_counted : RowsWeigh → ScaledRowsWeigh → set.len allowed ≡ length (offered (chosen (scaled_rows_of old) l.members)) * old.machine.threads
  named_counted weigh parts = there_counted earlier earlier_node weigh parts wanted allowed n earlier_lacks

pub short_is_proved : WrittenReadsAgain → RowsWeigh → ScaledRowsWeigh → ShortIsProved
short_is_proved again weigh parts old n wanted allowed h l c is =
    let named = chosen (scaled_rows_of old) l.members in
    let same : verdict_of c ≡ Short (asked named) (length (offered named)) =
    ap (λ (last : Option Certificate). option_map_or verdict_of last (Plan 0)) (sym is ∙ ap (λ (m : NodeState). m.last) l.is) in (
      asked named,
      length (offered named),
      l.need.asks,
      named_counted old n wanted allowed h l weigh parts,
      subst (λ (v : Verdict). IsVerdict (text_of c) v) same (last_is_proved again n h c is),
    )
