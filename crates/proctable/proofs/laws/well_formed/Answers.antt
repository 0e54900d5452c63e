use Rattle.proctable.specs.TableLemmas.{first_is_well_formed, stays_well_formed, live_belong, empty_once_first_ended, found_has_pid, pid_is_given, none_where_none_counted, none_counted_where_none}
use Rattle.proctable.proofs.laws.well_formed.Goals as goal

pub returns : goal.returns
returns c = record {
  first = first_is_well_formed;
  stays = stays_well_formed;
  belong = live_belong;
  empty = empty_once_first_ended;
  pid = found_has_pid;
  given = pid_is_given;
  uncounted = none_where_none_counted;
  none = none_counted_where_none;
}
