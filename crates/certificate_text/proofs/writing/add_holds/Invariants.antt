use Rattle.std.proofs.Common.{◌<◌, ◌++◌, drop}
use Rattle.std.specs.Prelude.{◌^◌}
use Rattle.cpu_set.specs.Members.{InRange}
use Rattle.std.specs.List.{flat_map}
use Rattle.byte_output.specs.Sending.{HasSent}
use Rattle.certificate_text.specs.CertificateText.{hold_lines}
use Rattle.certificate_text.specs.Written.{line_text}
use Rattle.certificate_text.proofs.HeldItems.{HoldUpTo}
use Rattle.certificate_text.proofs.writing.add_holds.Given as goal

abbrev pub invariant-loop-k : goal.invariant-loop-k
invariant-loop-k g l = record {
  sent :
      HasSent (g.W.Write.contents l.fn.w) (g.W.Write.contents l.w) (l.fn.buffer ++ flat_map line_text (hold_lines l.rows l.sets l.values))
      (l.buffer ++ flat_map line_text (hold_lines (drop l.k l.rows) (drop l.k l.sets) (drop l.k l.values)));
  sets : HoldUpTo InRange l.sets l.k;
  values : HoldUpTo (λ v. v < 2 ^ 64) l.values l.k;
}
