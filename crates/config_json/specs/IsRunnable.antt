-- Whether a config says which program to start: `process` is required when start is called.
use Rattle.std.specs.Prelude.{Bool, true, false, ◌&&◌, is_some}
use Rattle.std.specs.Option.{option_map_or}
use Rattle.serde_json.specs.Data.{Data, Items, no_items, item}
use Rattle.serde_json.specs.Find.{as_str}
use Rattle.config_json.specs.Members.{args_of}

-- each item is a text
abbrev pub all_texts : Items → Bool
all_texts no_items = true
all_texts (item d ds) = is_some (as_str d) && all_texts ds

-- each item is a text, and there is one
abbrev pub are_words : Items → Bool
are_words no_items = false
are_words (item d ds) = is_some (as_str d) && all_texts ds

-- `process.args` is an array of texts, and not an empty one
abbrev pub is_runnable : Data → Bool
is_runnable d = option_map_or are_words (args_of d) false
