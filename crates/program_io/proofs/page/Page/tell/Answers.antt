-- The front that fits, and then the rest.
use Rattle.std.proofs.Common.{◌≡◌, ◌-◌, drop, length, take, arith, length-drop, take_all}
use Rattle.program_io.specs.TakingLemmas.{TakesFront-written}
use Rattle.program_io.proofs.Taking.{TakesFront-kept, TakesIfRoom-of}
use Rattle.program_io.proofs.page.Page.tell.Goals as goal

pub returns-then-is_ok : goal.returns-then-is_ok
returns-then-is_ok g c =
    let text = c.args.text.now in
    let k = c.buffer-kept.result in
    let rest : take (length text - k) (drop k text) ≡ drop k text = take_all _ _ (omega (arith, length-drop k text)) in
    let front = TakesFront-written _ _ c.put.result (drop k text) (rw rest at c.put.ensures) in
    TakesIfRoom-of {W = g.row.W.Denot} g.W.Write.contents c.args.self.now c.buffer-kept.new.self c.flush-sent.new.self text k c.buffer-kept.ensures.count c.buffer-kept.ensures.bytes (TakesFront-kept _ _ _ _ front c.flush-sent.ensures.bytes)

pub returns-else-is_ok : goal.returns-else-is_ok
returns-else-is_ok g c =
    let text = c.args.text.now in
    let k = c.buffer-kept.result in
    let rest : take (length text - k) (drop k text) ≡ drop k text = take_all _ _ (omega (arith, length-drop k text)) in
    TakesIfRoom-of {W = g.row.W.Denot} g.W.Write.contents c.args.self.now c.buffer-kept.new.self c.put.new.w text k c.buffer-kept.ensures.count c.buffer-kept.ensures.bytes (TakesFront-written _ _ c.put.result (drop k text) (rw rest at c.put.ensures))
