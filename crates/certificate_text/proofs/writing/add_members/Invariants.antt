use Rattle.std.proofs.Common.{take}
use Rattle.std.specs.List.{flat_map}
use Rattle.byte_output.specs.Gathering.{HasGathered}
use Rattle.certificate_text.specs.CertificateText.{id_at}
use Rattle.certificate_text.specs.Line.{ShortLine}
use Rattle.certificate_text.specs.Written.{line_text}
use Rattle.certificate_text.proofs.writing.add_members.Given as goal

abbrev pub invariant-loop-k : goal.invariant-loop-k
invariant-loop-k g l = HasGathered (g.W.Write.contents l.fn.w) (g.W.Write.contents l.w) l.fn.buffer l.buffer (flat_map (λ k. line_text (ShortLine (id_at l.rows k))) (take l.k-index l.members))
