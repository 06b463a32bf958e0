-- An import: a file adds all of its rows or none (own).
use Rattle.std.specs.Prelude.{ℕ, ◌&&◌, ◌||◌, Bool, true, false, List, [], ◌∷◌, count_by, length, nat_lt, Result, Ok, Err, if◌then◌else◌}
use Rattle.contest_types.specs.Clock.{reached}
use Rattle.contest_types.specs.State.{ContestState, add_all}
use Rattle.contest_types.specs.declared.entry.Entry.{Entry}
use Rattle.contest_types.specs.declared.entry.Entry.TheVariants.{NewRelease}
use Rattle.contest_types.specs.declared.import_kind.FixedKind.TheVariants as fixed
use Rattle.contest_types.specs.declared.limits.TheConstants.{IMPORTED_FILE}
use Rattle.contest_types.specs.declared.refusal.Refusal.{Refusal}
use Rattle.contest_types.specs.declared.refusal.Refusal.TheVariants.{BodyTooLarge, SettingsClosed}
use Rattle.contest_import.specs.Files.{rows_in}
use Rattle.contest_import_verdicts.specs.VerdictFiles.{verdict_rows}
use Rattle.contest_types.specs.declared.import_kind.ImportKind.{ImportKind}
use Rattle.contest_types.specs.declared.import_kind.ImportKind.TheVariants as kind

-- accounts and verdicts may be imported at any time, all else is settings
abbrev pub is_of_settings : ImportKind → Bool
is_of_settings (kind.Fixed (fixed.Settings settings)) = true
is_of_settings (kind.Fixed fixed.TeamsCsv) = true
is_of_settings (kind.Fixed fixed.AccountsCsv) = false
is_of_settings kind.VerdictsCsv = false

-- no more settings are taken: the contest has started, or a submission stands
abbrev pub are_closed : ContestState → (now : ℕ) → Bool
are_closed x now = reached x.fixed.marks.start now || nat_lt 0 (length x.submissions)

-- what would add a row where none is taken is refused
abbrev pub unless_closed : (closed : Bool) → Result (List Entry) Refusal → Result (List Entry) Refusal
unless_closed closed (Err refusal) = Err refusal
unless_closed closed (Ok []) = Ok []
unless_closed closed (Ok (row ∷ rows)) = if closed then Err SettingsClosed else Ok (row ∷ rows)

-- what a file adds to what stands, or why its form or its first record at fault refuses it
abbrev pub file_rows : ContestState → (now : ℕ) → ImportKind → List ℕ → Result (List Entry) Refusal
file_rows x now (kind.Fixed fixed) file = rows_in fixed x.fixed file
file_rows x now kind.VerdictsCsv file = verdict_rows x now file

-- what a file adds at a moment, or why it is refused: its size, then its form, then its first record at fault, then
-- settings that are closed
abbrev pub imported : ContestState → (now : ℕ) → ImportKind → List ℕ → Result (List Entry) Refusal
imported x now kind file =
    if nat_lt IMPORTED_FILE (length file) then Err BodyTooLarge
    else unless_closed (is_of_settings kind && are_closed x now) (file_rows x now kind file)

-- it comes of a record of the file; the release that goes with an imported verdict is none of its own
unfoldable pub is_of_record : Entry → Bool
is_of_record (NewRelease v) = false
is_of_record _ = true

-- how many records added something, or why the file is refused
abbrev pub count_of : Result (List Entry) Refusal → Result ℕ Refusal
count_of (Ok rows) = Ok (count_by is_of_record rows)
count_of (Err refusal) = Err refusal

abbrev pub entries_of : Result (List Entry) Refusal → List Entry
entries_of (Ok rows) = rows
entries_of (Err refusal) = []

-- how many records an import adds, or why it is refused; and the contest afterwards
abbrev pub import_step : ContestState → (now : ℕ) → ImportKind → List ℕ → Result ℕ Refusal × ContestState
import_step x now kind file = (count_of (imported x now kind file), add_all x (entries_of (imported x now kind file)))
