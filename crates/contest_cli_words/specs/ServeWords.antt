-- What the words of `serve` name.
use Rattle.std.specs.Prelude.{◌≡◌, ◌&&◌, ◌∷◌, ◌++◌, ℕ, List, [], Option, Some, None, codes, nat_le, if◌then◌else◌}
use Rattle.std.specs.Option.{option_and_then}
use Rattle.std.specs.Str.{bytes_eq}
use Rattle.std.specs.Str.Parse.{digits_value}
use Rattle.clap.specs.Simple.{App}
use Rattle.clap.specs.Walk.{Row, Text, first_of}
use Rattle.contest_types.specs.RelTimeRead.{are_digits}
use Rattle.contest_cli_words.specs.Arguments.{word, option}
use Rattle.contest_cli_words.specs.CommandTable.{command_with}
use Rattle.contest_cli_words.specs.declared.serve_words.ServeWords.{ServeWords}

-- the command
unfoldable pub serve_app : App
serve_app = command_with (codes "serve") (word (codes "FILE") ∷ option (codes "requests") ∷ option (codes "port") ∷ [])

-- one or more digits that write a number up to `most`
abbrev pub number_to : (most : ℕ) → Text → Option ℕ
number_to most text = if are_digits text && nat_le (digits_value 10 text) most then Some (digits_value 10 text) else None

-- how many requests are served: the number that a text writes, or as many as there can be for `all`
abbrev pub number_or_all : Text → Option ℕ
number_or_all text = if bytes_eq text (codes "all") then Some 18_446_744_073_709_551_615 else number_to 4_294_967_295 text

-- there is no usual number
abbrev pub requests_of : Option Text → Option ℕ
requests_of text = option_and_then number_or_all text

-- the port; without one the system chooses, which 0 asks for
abbrev pub port_of : Option Text → Option ℕ
port_of None = Some 0
port_of (Some text) = number_to 65_535 text

-- what is said of an option that isn't a number up to a limit, or isn't there
abbrev pub no_number : (name most : Text) → List ℕ
no_number name most = codes "error: '" ++ name ++ codes "' wants a decimal number up to " ++ most ++ codes "\n"

-- the file that keeps the contest, how many requests are served, and a port
pub record NamesServe (values : List Row) (named : ServeWords) : Type 0 where
  pub file_is : first_of (codes "FILE") values ≡ Some named.file.now
  pub requests_is : requests_of (first_of (codes "requests") values) ≡ Some named.requests
  pub port_is : port_of (first_of (codes "port") values) ≡ Some named.port
