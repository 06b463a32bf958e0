-- What clap finds in the words of a command.
use Rattle.std.specs.Prelude.{◌≡◌, ◌&&◌, ◌||◌, ◌==◌, ℕ, Bool, true, false, not, List, [], ◌∷◌, Option, Some, is_some, codes, length, if◌then◌else◌}
use Rattle.std.specs.List.{list_all, list_any}
use Rattle.std.specs.Str.{bytes_eq}
use Rattle.clap.specs.Faults.{fault_of, has_free_rules}
use Rattle.clap.specs.Kinds.{Kinds}
use Rattle.clap.specs.Simple.{App, new_rule, matches_of, is_ready, is_ready_leaf}
use Rattle.clap.specs.Walk.{Rule, Row, Text, first_of}
use Rattle.clap.specs.declared.builder.action.ArgAction.{ArgAction}
use Rattle.clap.specs.declared.builder.action.ArgAction.TheVariants.{Set, SetTrue}

-- a word that has to be there
abbrev pub word : List ℕ → Rule
word name = record (new_rule name) { required = true; action = Some Set }

-- `--name`
abbrev pub flag : List ℕ → Rule
flag name = record (new_rule name) { long = Some name; action = Some SetTrue }

-- `--name VALUE`
abbrev pub option : List ℕ → Rule
option name = record (new_rule name) { long = Some name; value_names = 1 }

-- what the words give a command, where they have no fault
unfoldable pub rows_in : App → List Text → List Row
rows_in app words = matches_of app words

-- the kinds of the first fault that the words have for a command; none where they have no fault
unfoldable pub faults_in : App → List Text → Kinds
faults_in app words = fault_of app words

-- the flag stands among the words
abbrev pub HasFlag : App → List ℕ → List Text → Type 0
HasFlag app name words = first_of name (rows_in app words) ≡ Some (codes "true")

-- the value of an option or a word, where it stands among the words
abbrev pub value_of : App → List ℕ → List Text → Option Text
value_of app name words = first_of name (rows_in app words)

-- the argument has this name
abbrev pub is_named : Text → Rule → Bool
is_named name rule = bytes_eq rule.id name

abbrev pub is_set : Option ArgAction → Bool
is_set (Some Set) = true
is_set _ = false

-- the argument has to be there, with one value
abbrev pub is_word : Rule → Bool
is_word rule = rule.required && (is_set rule.action && not (is_some rule.range))

-- one argument has this name, and it is a word that has to be there
abbrev pub wants_among : Text → List Rule → Bool
wants_among name [] = false
wants_among name (rule ∷ rest) =
    if is_named name rule then is_word rule && not (list_any (is_named name) rest) else wants_among name rest

-- the name isn't one that clap gives
abbrev pub is_own_name : Text → Bool
is_own_name name = not (length name == 0) && not (bytes_eq name (codes "help") || bytes_eq name (codes "version"))

-- the command wants this word, and nothing else among its arguments bears on it
abbrev pub wants_word : Text → App → Bool
wants_word name app = is_ready app.top && (list_all is_ready_leaf app.subs && (has_free_rules app.top
    && (not app.top.subcommand_negates_reqs && (is_own_name name && wants_among name app.top.rules))))
