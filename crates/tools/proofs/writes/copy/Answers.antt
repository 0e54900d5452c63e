use Rattle.tools.proofs.writes.copy.Goals as goal

pub write_text-requires : goal.write_text-requires
write_text-requires g c = c.read_certificates_can_be_written.ensures c.args.text.now _ c.in-Ok.ensures.ok
