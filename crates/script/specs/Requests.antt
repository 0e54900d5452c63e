-- What a line asks for: its first word names a command, and the words behind it have to be as many and of the kinds
-- that the command takes.
use Rattle.std.specs.Prelude.{ℕ, ◌^◌, ◌&&◌, true, false, nat_lt, if◌then◌else◌, List, [], ◌∷◌, length, bytes_eq, codes, Option, Some, None, option_map}
use Rattle.std.specs.Char.{is_ascii_digit}
use Rattle.std.specs.List.{list_all}
use Rattle.std.specs.Option.{option_zip}
use Rattle.std.specs.Str.{is_utf8}
use Rattle.std.specs.Str.Parse.{digits_value}
use Rattle.script.specs.Commands as command
use Rattle.script.specs.Commands.{Asked, asked}
use Rattle.script.specs.declared.command.Request.{Request}
use Rattle.script.specs.declared.command.Request.TheVariants as request

-- what a line asks for: nothing, nothing that can be done, or a command
pub data Wanted : Type 0 where
  nothing : Wanted
  bad : Wanted
  asks : Asked → Wanted

-- a request of the code as a plain value
abbrev pub wanted : Request → Wanted
wanted request.Nothing = nothing
wanted request.BadLine = bad
wanted (request.Asks command) = asks (asked command)

-- a word as a text, if it is UTF-8
abbrev pub text_of : List ℕ → Option (List ℕ)
text_of word = if is_utf8 word then Some word else None

abbrev pub fitting : ℕ → Option ℕ
fitting n = if nat_lt n (2 ^ 32) then Some n else None

-- the number of 32 bits that a word writes in decimal digits, one or more of them and nothing else
abbrev pub number_of : List ℕ → Option ℕ
number_of word = if nat_lt 0 (length word) && list_all is_ascii_digit word then fitting (digits_value 10 word) else None

-- a name alone
abbrev pub bare_command : List ℕ → Option Asked
bare_command name =
    if bytes_eq name (codes "list") then Some command.list
    else if bytes_eq name (codes "rebalance") then Some (command.rebalance false)
    else if bytes_eq name (codes "begin") then Some (command.begin false)
    else if bytes_eq name (codes "step") then Some command.step
    else if bytes_eq name (codes "phase") then Some command.phase
    else if bytes_eq name (codes "certificate") then Some command.certificate
    else None

-- a command of the direct order, by the text behind its name
abbrev pub directly : Asked → Option (List ℕ) → Option Asked
directly command None = None
directly command (Some text) = if bytes_eq text (codes "direct") then Some command else None

-- a name, and one word behind it
abbrev pub short_command : List ℕ → List ℕ → Option Asked
short_command name word =
    if bytes_eq name (codes "start") then option_map command.start (text_of word)
    else if bytes_eq name (codes "delete") then option_map command.delete (text_of word)
    else if bytes_eq name (codes "forget") then option_map command.forget (text_of word)
    else if bytes_eq name (codes "state") then option_map command.state (text_of word)
    else if bytes_eq name (codes "sets") then option_map command.sets (text_of word)
    else if bytes_eq name (codes "fork") then option_map command.fork (number_of word)
    else if bytes_eq name (codes "exit") then option_map command.exit (number_of word)
    else if bytes_eq name (codes "offline") then option_map command.offline (number_of word)
    else if bytes_eq name (codes "online") then option_map command.online (number_of word)
    else if bytes_eq name (codes "rebalance") then directly (command.rebalance true) (text_of word)
    else if bytes_eq name (codes "begin") then directly (command.begin true) (text_of word)
    else None

-- a name, and two texts behind it
abbrev pub pair_command : List ℕ → List ℕ × List ℕ → Option Asked
pair_command name texts =
    if bytes_eq name (codes "create") then Some (command.create texts.0 texts.1)
    else if bytes_eq name (codes "update") then Some (command.update texts.0 texts.1)
    else if bytes_eq name (codes "kill") then Some (command.kill texts.0 texts.1)
    else None

abbrev pub long_command : List ℕ → Option (List ℕ × List ℕ) → Option Asked
long_command name None = None
long_command name (Some texts) = pair_command name texts

-- a name, and three texts behind it
abbrev pub triple_command : List ℕ → List ℕ × (List ℕ × List ℕ) → Option Asked
triple_command name texts = if bytes_eq name (codes "adopt") then Some (command.adopt texts.0 texts.1.0 texts.1.1) else None

abbrev pub longest_command : List ℕ → Option (List ℕ × (List ℕ × List ℕ)) → Option Asked
longest_command name None = None
longest_command name (Some texts) = triple_command name texts

-- the command that a name and the words behind it are, by their number
abbrev pub command_of : List ℕ → List (List ℕ) → Option Asked
command_of name [] = bare_command name
command_of name (word ∷ []) = short_command name word
command_of name (first ∷ second ∷ []) = long_command name (option_zip (text_of first) (text_of second))
command_of name (first ∷ second ∷ third ∷ []) = longest_command name (option_zip (text_of first) (option_zip (text_of second) (text_of third)))
command_of name (first ∷ second ∷ third ∷ fourth ∷ more) = None

abbrev pub command_by : Option (List ℕ) → List (List ℕ) → Option Asked
command_by None words = None
command_by (Some name) words = command_of name words

abbrev pub asks_for : Option Asked → Wanted
asks_for None = bad
asks_for (Some command) = asks command

-- what a line of these words asks for: nothing, a command, or nothing that can be done
abbrev pub request_of : List (List ℕ) → Wanted
request_of [] = nothing
request_of (name ∷ words) = asks_for (command_by (text_of name) words)
