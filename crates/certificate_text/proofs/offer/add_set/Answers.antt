use Rattle.certificate_text.proofs.offer.add_set.Goals as goal

pub returns : goal.returns
returns c = (c.in_ok-cpus.cpus, c.in_ok-cpus.ensures, λ kept. c.add.ensures kept)
