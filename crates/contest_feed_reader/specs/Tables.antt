-- What a feed's lines come to: the collections after all of them, or the first fault.
use Rattle.std.specs.Prelude.{ℕ, ◌+◌, List, [], ◌∷◌, Option, Some, None, Result, Ok, Err, if◌then◌else◌}
use Rattle.contest_types.specs.declared.refusal.Cause.{Cause}
use Rattle.contest_types.specs.declared.refusal.Cause.TheVariants.{Malformed}
use Rattle.contest_types.specs.declared.refusal.Refusal.{Refusal}
use Rattle.contest_types.specs.declared.refusal.Refusal.TheVariants.{BodyTooLarge, ImportRow}
use Rattle.contest_files.specs.FieldTexts.{Text}
use Rattle.contest_feed_reader.specs.Collections.{change_in, rows_after}
use Rattle.contest_feed_reader.specs.Events.{FeedEvent, event_of}
use Rattle.contest_feed_reader.specs.Lines.{Line, is_blank, is_too_large, lines_of}
use Rattle.contest_feed_reader.specs.Objects.{contest_members, group_members, judgement_members, problem_members, submission_members, team_members, type_members}
use Rattle.contest_feed_reader.specs.declared.event.EventKind.{EventKind}
use Rattle.contest_feed_reader.specs.declared.event.EventKind.TheVariants.{Contest, JudgementTypes, Problems, Groups, Teams, Submissions, Judgements}
use Rattle.contest_feed_reader.specs.declared.row.Row.{Row}
use Rattle.contest_feed_reader.specs.declared.tables.Tables.{Tables}

abbrev pub no_tables : Tables
no_tables = record { contests = []; types = []; problems = []; groups = []; teams = []; submissions = []; judgements = [] }

-- the tables with a collection that was changed, or the event is off its form
abbrev pub with_rows : {A : Type 0} → (List (Row A) → Tables) → Result (List (Row A)) Cause → Result Tables Cause
with_rows tables (Ok rows) = Ok (tables rows)
with_rows tables (Err cause) = Err cause

-- after an event of a type that is used
abbrev pub after_used : Tables → (line : ℕ) → FeedEvent → EventKind → Result Tables Cause
after_used t line e Contest = with_rows (λ rows. record t { contests = rows }) (rows_after line t.contests (change_in contest_members e))
after_used t line e JudgementTypes = with_rows (λ rows. record t { types = rows }) (rows_after line t.types (change_in type_members e))
after_used t line e Problems = with_rows (λ rows. record t { problems = rows }) (rows_after line t.problems (change_in problem_members e))
after_used t line e Groups = with_rows (λ rows. record t { groups = rows }) (rows_after line t.groups (change_in group_members e))
after_used t line e Teams = with_rows (λ rows. record t { teams = rows }) (rows_after line t.teams (change_in team_members e))
after_used t line e Submissions = with_rows (λ rows. record t { submissions = rows }) (rows_after line t.submissions (change_in submission_members e))
after_used t line e Judgements = with_rows (λ rows. record t { judgements = rows }) (rows_after line t.judgements (change_in judgement_members e))

-- an event of another type changes nothing
abbrev pub after_kind : Tables → (line : ℕ) → FeedEvent → Option EventKind → Result Tables Cause
after_kind t line e None = Ok t
after_kind t line e (Some kind) = after_used t line e kind

abbrev pub after_event : Tables → (line : ℕ) → Option FeedEvent → Result Tables Cause
after_event t line None = Err Malformed
after_event t line (Some e) = after_kind t line e e.kind

-- after a line with this number; a blank one changes nothing
abbrev pub after_line : Tables → (line : ℕ) → Text → Result Tables Cause
after_line t line text = if is_blank text then Ok t else after_event t line (event_of text)

-- what follows a line, or that line's fault with its number
abbrev pub or_fault_at : {A : Type 0} → (Tables → Result A Refusal) → (line : ℕ) → Result Tables Cause → Result A Refusal
or_fault_at more line (Ok t) = more t
or_fault_at more line (Err cause) = Err (ImportRow line cause)

-- the tables after lines n, n + 1 and so on, before which so many bytes stand, or the first fault
abbrev pub after_lines : Tables → (n before : ℕ) → List Line → Result Tables Refusal
after_lines t n before [] = Ok t
after_lines t n before (l ∷ ls) =
    if is_too_large l.text (before + l.bytes) then Err BodyTooLarge
    else or_fault_at (λ u. after_lines u (n + 1) (before + l.bytes) ls) n (after_line t n l.text)

-- the tables of a feed's bytes, or the first fault; the lines are numbered from 1, blank ones too
abbrev pub tables_in : List ℕ → Result Tables Refusal
tables_in bytes = after_lines no_tables 1 0 (lines_of bytes)
