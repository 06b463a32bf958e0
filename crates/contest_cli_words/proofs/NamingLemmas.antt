-- A command that is put together from its rows, and what its words name, of what clap finds in them.
use Rattle.std.proofs.Common.{◌≡◌, ◌<◌, ◌+◌, ◌++◌, ◌∙◌, ap, sym, subst, true, ℕ, List, [], ◌∷◌, length, take, map, Result, IfOk, is_some}
use Rattle.std.proofs.lemmas.List.{map-append, take_more}
use Rattle.std.proofs.Math.ListN.{get_or}
use Rattle.std.specs.Prelude.{IsOkAnd}
use Rattle.std.specs.List.{list_all}
use Rattle.clap.proofs.WalkLemmas.{both}
use Rattle.clap.specs.Faults.{is_simple_and_free}
use Rattle.clap.specs.Simple.{App, app_of, with_rule}
use Rattle.clap.specs.Walk.{Row, Rule, Text, first_of}
use Rattle.clap.specs.declared.builder.command.Command.{Command}
use Rattle.contest_cli_words.specs.Arguments.{wants_word}
use Rattle.contest_cli_words.specs.CommandTable.{HasWords, command_with, rule_by, wants_words}
use Rattle.contest_cli_words.specs.declared.command_table.WordRow.{WordRow}
use Rattle.contest_cli_words.proofs.ArgumentLemmas.{adds}

-- the rows so far and one more are the next rows so far
pub adds_row : {E : Type 0} (given made : Result Command E) (name : Text) (rows : List WordRow) (i : ℕ) (d : WordRow) (rule : Rule)
    → i < length rows → IfOk given (λ c. app_of c ≡ command_with name (map rule_by (take i rows))) → rule ≡ rule_by (get_or rows i d)
    → IfOk made (λ c. IsOkAnd given (λ old. app_of c ≡ with_rule (app_of old) rule))
    → IfOk made (λ c. app_of c ≡ command_with name (map rule_by (take (i + 1) rows)))
adds_row given made name rows i d rule within stands same more =
    let row = get_or rows i d in
    let rules : map rule_by (take (i + 1) rows) ≡ map rule_by (take i rows) ++ rule_by row ∷ [] =
    ap (map rule_by) (take_more rows i d within) ∙ map-append rule_by (take i rows) (row ∷ []) in
    subst (λ rs. IfOk made (λ c. app_of c ≡ command_with name rs)) (sym rules)
    (adds given made (command_with name (map rule_by (take i rows))) rule (rule_by row) stands same more)

all_there : (names : List Text) (app : App) (values : List Row) → list_all (λ name. wants_word name app) names ≡ true
    → ((name : Text) → wants_word name app ≡ true → is_some (first_of name values) ≡ true) → HasWords names values
all_there [] app values all found = tt
all_there (name ∷ names) app values all found =
    let parts = both (wants_word name app) _ all in
    (found name parts.0, all_there names app values parts.1 found)

-- the words that a command wants have values, if each word has one that it wants
pub wanted_found : (names : List Text) (app : App) (values : List Row) → wants_words names app ≡ true
    → ((name : Text) → wants_word name app ≡ true → is_some (first_of name values) ≡ true) → HasWords names values
wanted_found names app values wants found = all_there names app values (both (is_simple_and_free app) _ wants).1 found
