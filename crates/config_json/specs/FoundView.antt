-- The section whose texts are still in the JSON value.
use Rattle.std.specs.Prelude.{option_map}
use Rattle.config_json.specs.SectionOf.{Section}
use Rattle.config_json.specs.declared.cpu_section.Found.{Found}

-- the section that was found
abbrev pub found_view : Found → Section
found_view f = record {
  quota = f.quota;
  period = f.period;
  cpus = option_map (λ t. t.now) f.cpus;
  mems = option_map (λ t. t.now) f.mems;
}
