use Rattle.std.proofs.Common.{◌≡◌, refl, sym, ◌∙◌}
use Rattle.std.proofs.lemmas.Option.{none-some}
use Rattle.std.proofs.lemmas.Bool.{false≢true}
use Rattle.cpu_set.specs.PointwiseLaws.{same_members}
use Rattle.cpu_set.specs.declared.TheConstants.{CPU_LIMIT}
use Rattle.cpu_list.specs.FirstFaultLaws.{none_where_list}
use Rattle.certificate_text.proofs.list_word.read_cpus.Goals as goal

pub returns-in_default : goal.returns-in_default
returns-in_default c = λ cpus h.
    let accepted = (none_where_list CPU_LIMIT c.args.word.now).1 h.is_list in
    none-some c.in_default.field-0 (sym accepted ∙ c.in_default.ensures.0)

pub returns-then-is_empty : goal.returns-then-is_empty
returns-then-is_empty c = λ cpus h.
    let same : cpus ≡ c.in-Ok.cpus = same_members cpus c.in-Ok.cpus (λ n. h.names n ∙ sym (c.in-Ok.ensures.1 n)) in
    h.some (same ∙ c.if-is_empty.ensures.0 refl)

pub returns : goal.returns
returns c = record {
  is_list = c.in-Ok.ensures.2;
  names = c.in-Ok.ensures.1;
  some = λ e. absurd (false≢true (c.if-is_empty.ensures.1 e));
}
