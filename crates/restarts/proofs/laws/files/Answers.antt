use Rattle.restarts.proofs.FileLemmas.{moments_stand, files_name_cpus}
use Rattle.restarts.proofs.laws.files.Goals as goal

pub returns : goal.returns
returns c = record {
  moments = moments_stand;
  names = files_name_cpus c.canonical_texts.ensures.canonical c.canonical_texts.ensures.reads_again c.first_faults.ensures.none;
}
