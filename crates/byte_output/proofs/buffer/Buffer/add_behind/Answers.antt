use Rattle.std.proofs.Common.{◌∙◌, ◌++◌, ap, sym}
use Rattle.std.proofs.lemmas.Result.{err_from_is_err_and}
use Rattle.byte_output.specs.SendingLemmas.{SendsFront-more, Writes-then}
use Rattle.byte_output.specs.GatheringLemmas.{gathers_sent}
use Rattle.byte_output.proofs.buffer.Buffer.add_behind.Goals as goal

pub returns-in_err-send : goal.returns-in_err-send
returns-in_err-send g c =
    let p = err_from_is_err_and c.from_residual.result c.from_residual.ensures.1 in
    rw p.1 (record { front = SendsFront-more _ _ _ _ c.in_err-send.ensures.written })

pub returns-then-take : goal.returns-then-take
returns-then-take g c = record {
  sent = c.args.self.now;
  cut = ap (λ waits. c.args.self.now ++ waits) (sym (c.take.ensures.taken c.if-take.true ∙ ap (λ l. l ++ c.args.bytes.now) c.send.ensures.empty));
  went_out = c.in_ok-send.ensures.written;
}

pub returns : goal.returns
returns g c =
    gathers_sent _ _ _ _ c.put.result _ (c.take.ensures.same c.if-take.false ∙ c.send.ensures.empty)
    (Writes-then _ _ _ c.put.result _ _ c.in_ok-send.ensures.written c.put.ensures)
