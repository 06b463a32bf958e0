-- Worked examples: files that are put together by their bytes, and what they add.
use Rattle.std.proofs.Common.{◌≡◌, ◌++◌, ℕ, true, false, List, [], ◌∷◌, map, Some, None, Ok, Err, inr, refl}
use Rattle.std.specs.Fmt.{digits}
use Rattle.std.specs.Prelude.{codes}
use Rattle.std.specs.Str.{chars, is_utf8}
use lib.Utf8.{encode}
use Rattle.std.proofs.lemmas.Bool.{leb-true}
use Rattle.csv.specs.Machine.{next_record}
use Rattle.csv.specs.Reading.{records_from, strip_bom}
use Rattle.serde_json.specs.Data.{Data, member, no_members, object, string}
use Rattle.serde_json.proofs.OnLiterals.{serde_json_on_literals}
use Rattle.contest_types.specs.State.{ContestState}
use Rattle.contest_types.specs.declared.import_kind.FixedKind.TheVariants as fixed
use Rattle.contest_types.specs.declared.import_kind.ImportKind.{ImportKind}
use Rattle.contest_types.specs.declared.import_kind.ImportKind.TheVariants as kind
use Rattle.contest_types.specs.declared.import_kind.SettingsKind.TheVariants as settings
use Rattle.contest_types.specs.declared.limits.TheConstants.{IMPORTED_FILE}
use Rattle.contest_types.specs.declared.objects.Team.{Team}
use Rattle.contest_types.specs.declared.refusal.Cause.TheVariants as cause
use Rattle.contest_types.specs.declared.refusal.Refusal.TheVariants.{ImportRow}
use Rattle.contest_types.specs.declared.submission.Release.{Release}
use Rattle.contest_types.proofs.ExampleContest.{empty, minutes, submitted, team_named}
use Rattle.contest_files.specs.JsonMembers.{data_of}
use Rattle.contest_import.specs.CsvFiles.{team_names}
use Rattle.contest_import.specs.Files.{csv_records}
use Rattle.contest_desk.specs.Imports.{import_step, is_of_record}
use Rattle.contest_laws.specs.JoinedFiles.{AreJoined, EndsLine}
use Rattle.contest_laws.proofs.JoinLaws.{faults_join, imports_join}

abbrev teams : ImportKind
teams = kind.Fixed fixed.TeamsCsv

abbrev header : List ℕ
header = codes "id,name,group_ids,hidden\n"

abbrev first_rows : List ℕ
first_rows = codes "t4,Delta,,\nt5,\"Echo, and others\",,true\n"

abbrev second_rows : List ℕ
second_rows = codes "t6,Foxtrot,,"

-- the second file's records below those of the first
are_joined : AreJoined teams (header ++ first_rows) (header ++ second_rows) (header ++ (first_rows ++ second_rows))
unfolding next_record records_from strip_bom
are_joined = record {
  front = (codes "t4" ∷ codes "Delta" ∷ [] ∷ [] ∷ []) ∷ (codes "t5" ∷ codes "Echo, and others" ∷ [] ∷ codes "true" ∷ []) ∷ [];
  back = (codes "t6" ∷ codes "Foxtrot" ∷ [] ∷ [] ∷ []) ∷ [];
  of_first = refl;
  of_second = refl;
  of_joined = refl;
}

-- those of the first end in a line's end that is no part of a field. One within quotation marks is
ends_line : EndsLine (csv_records team_names) header first_rows
unfolding next_record records_from strip_bom
ends_line = inr (codes "t4,Delta,,\nt5,\"Echo, and others\",,true", refl, refl)

within_marks : csv_records team_names (header ++ codes "t4,\"Delta\n") ≡ Some ((codes "t4" ∷ codes "Delta\n" ∷ []) ∷ [])
unfolding next_record records_from strip_bom
within_marks = refl

without_it : csv_records team_names (header ++ codes "t4,\"Delta") ≡ Some ((codes "t4" ∷ codes "Delta" ∷ []) ∷ [])
unfolding next_record records_from strip_bom
without_it = refl

-- a contest whose start isn't set yet
abbrev unset : ContestState
unset = record empty { fixed = record empty.fixed { marks = record empty.fixed.marks { start = None } } }

abbrev with_teams : ContestState → List Team → ContestState
with_teams x more = record x { fixed = record x.fixed { settings = record x.fixed.settings { teams = x.fixed.settings.teams ++ more } } }

abbrev with_two : ContestState
with_two = with_teams unset (team_named (codes "t4") (codes "Delta") false ∷ team_named (codes "t5") (codes "Echo, and others") true ∷ [])

abbrev with_three : ContestState
with_three = with_teams with_two (team_named (codes "t6") (codes "Foxtrot") false ∷ [])

first_adds : import_step unset 0 teams (header ++ first_rows) ≡ (Ok 2, with_two)
unfolding chars encode is_of_record is_utf8 next_record records_from strip_bom
first_adds = refl

second_adds : import_step with_two 7 teams (header ++ second_rows) ≡ (Ok 1, with_three)
unfolding chars encode is_of_record is_utf8 next_record records_from strip_bom
second_adds = refl

both_add : import_step unset 0 teams (header ++ (first_rows ++ second_rows)) ≡ (Ok 3, with_three)
both_add = imports_join unset with_two with_three 0 7 teams (header ++ first_rows) (header ++ second_rows) (header ++ (first_rows ++ second_rows)) 2 1 (leb-true 0 7 refl) are_joined (leb-true 76 IMPORTED_FILE refl) first_adds second_adds

-- one that says of the first team something else is at fault, and in the whole file it is the third record
abbrev other_rows : List ℕ
other_rows = codes "t4,Other,,\n"

other_fault : (import_step with_two 7 teams (header ++ other_rows)).0 ≡ Err (ImportRow 1 cause.KeyReused)
unfolding chars encode is_of_record is_utf8 next_record records_from strip_bom
other_fault = refl

with_other : AreJoined teams (header ++ first_rows) (header ++ other_rows) (header ++ (first_rows ++ other_rows))
unfolding next_record records_from strip_bom
with_other = record {
  front = (codes "t4" ∷ codes "Delta" ∷ [] ∷ [] ∷ []) ∷ (codes "t5" ∷ codes "Echo, and others" ∷ [] ∷ codes "true" ∷ []) ∷ [];
  back = (codes "t4" ∷ codes "Other" ∷ [] ∷ [] ∷ []) ∷ [];
  of_first = refl;
  of_second = refl;
  of_joined = refl;
}

third_at_fault : import_step unset 0 teams (header ++ (first_rows ++ other_rows)) ≡ (Err (ImportRow 3 cause.KeyReused), unset)
unfolding next_record records_from strip_bom
third_at_fault =
    faults_join.of_second unset with_two 0 7 teams (header ++ first_rows) (header ++ other_rows) (header ++ (first_rows ++ other_rows)) 2 1 cause.KeyReused (leb-true 0 7 refl) with_other (leb-true 75 IMPORTED_FILE refl) first_adds other_fault

-- the elements of two arrays in one
abbrev languages : ImportKind
languages = kind.Fixed (fixed.Settings settings.Languages)

abbrev language : (id : List ℕ) → Data
language id = object (member (codes "id") (string id) no_members)

joined_arrays : AreJoined languages (codes "[{\"id\":\"c\"}]") (codes "[{\"id\":\"d\"}]\n") (codes "[{\"id\":\"c\"},\n {\"id\":\"d\"}]")
unfolding chars data_of is_utf8 serde_json_on_literals
joined_arrays = record { front = language (codes "c") ∷ []; back = language (codes "d") ∷ []; of_first = refl; of_second = refl; of_joined = refl }

-- and verdicts below one header
joined_verdicts :
    AreJoined kind.VerdictsCsv (codes "submission_id,judgement_type_id\ns1-1,AC\n") (codes "submission_id,judgement_type_id\r\ns2-1,WA\r\n") (codes "submission_id,judgement_type_id\ns1-1,AC\ns2-1,WA\r\n")
unfolding next_record records_from strip_bom
joined_verdicts = record { front = (codes "s1-1" ∷ codes "AC" ∷ []) ∷ []; back = (codes "s2-1" ∷ codes "WA" ∷ []) ∷ []; of_first = refl; of_second = refl; of_joined = refl }

-- verdicts have the moment of their file, so two files of them at two moments aren't one file at either
abbrev judged_at : (now : ℕ) → List ℕ
judged_at now = map (λ (v : Release). v.time) (import_step (record empty { submissions = submitted 0 1 (minutes 5) 0 ∷ [] }) now kind.VerdictsCsv (codes "submission_id,judgement_type_id\ns1-1,AC\n")).1.releases

judged_at_ten : judged_at (minutes 10) ≡ minutes 10 ∷ []
unfolding digits next_record records_from strip_bom
judged_at_ten = refl

judged_at_eleven : judged_at (minutes 11) ≡ minutes 11 ∷ []
unfolding digits next_record records_from strip_bom
judged_at_eleven = refl
