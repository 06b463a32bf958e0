-- The clarification that a row is.
use Rattle.std.specs.Prelude.{ℕ, ◌-◌, ◌==◌, nat_le, List, [], map, Option, Some, None, if◌then◌else◌}
use Rattle.std.specs.Option.{option_and_then, option_map}
use Rattle.sqlite_value.specs.declared.value.Value.{Value}
use Rattle.sqlite_value.specs.Order.{Row, column}
use Rattle.contest_types.specs.ClarificationText.{text_from}
use Rattle.contest_types.specs.IdText.{id_of}
use Rattle.contest_types.specs.Setup.{Setup}
use Rattle.contest_types.specs.declared.clarification.Addressee.{Addressee}
use Rattle.contest_types.specs.declared.clarification.Addressee.TheVariants.{All as ToAll, Group as ToGroup, Team as ToTeam}
use Rattle.contest_types.specs.declared.clarification.Clarification.{Clarification}
use Rattle.contest_types.specs.declared.clarification.Reference.{Reference}
use Rattle.contest_types.specs.declared.limits.TheConstants.{LAST_MOMENT}
use Rattle.contest_types.specs.declared.objects.Problem.{Problem}
use Rattle.contest_store_rows.specs.Cells.{is_null, number_of, text_of}
use Rattle.contest_store_rows.specs.ListRows.{clarification_row}
use Rattle.contest_store_rows.specs.Lists.{list_in}
use Rattle.contest_store_rows.specs.Readings.{id_if_any, if_its_row, place_if_any}
use Rattle.contest_store_rows.specs.References.{reference_of}
use Rattle.contest_store_rows.specs.declared.versions.Version.{Version}
use Rattle.contest_store_rows.specs.declared.versions.Version.TheVariants.{First, Second}

-- of kind 0 is all, of kind 1 a team, of another a group
abbrev pub addressee_of : (kind number : ℕ) → Addressee
addressee_of kind number = if kind == 0 then ToAll else if kind == 1 then ToTeam (number - 1) else ToGroup (number - 1)

-- the clarification that one answers, or NULL
abbrev pub reply_if_any : Value → Option (Option Reference)
reply_if_any v = if is_null v then Some None else option_map Some (reference_of (text_of v))

-- what the cells say, if the texts, the reply and the time are some
abbrev pub clarification_said : Setup → Row → Option Clarification
clarification_said s r =
    option_and_then (λ account. option_and_then (λ text. option_and_then (λ key. option_and_then (λ reply. if nat_le (number_of (column r 9)) LAST_MOMENT then Some (record {
      addressee = addressee_of (number_of (column r 1)) (number_of (column r 2));
      number = number_of (column r 3);
      from_jury = number_of (column r 4) == 1;
      account = account;
      problem = place_if_any (map (λ (p : Problem). p.id) s.problems) (column r 6);
      reply = reply;
      text = text;
      time = number_of (column r 9);
      key = key;
    }) else None) (reply_if_any (column r 7))) (id_if_any (column r 10))) (text_from (text_of (column r 8)))) (id_of (text_of (column r 5)))

abbrev pub clarification_in : Setup → ℕ → Row → Option Clarification
clarification_in s n r = option_and_then (if_its_row (clarification_row s n) r) (clarification_said s r)

-- the clarifications that the loaded rows of both tables are: in each version of the schema one of them has none
abbrev pub clarifications_in : Version → Setup → (first today : List Row) → Option (List Clarification)
clarifications_in First s first [] = list_in (clarification_in s) first
clarifications_in Second s [] today = list_in (clarification_in s) today
clarifications_in _ s first today = None
