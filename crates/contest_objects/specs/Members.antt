-- The members of a JSON object, one by one.
use Rattle.std.specs.Prelude.{ℕ, List, [], ◌∷◌, Option, Some, None}
use Rattle.std.specs.Option.{option_map, option_map_or}
use Rattle.serde_json.specs.Data.{Data, Members, boolean, no_members, null, number, string, unsigned}
use Rattle.contest_types.specs.MomentText.{moment_text}
use Rattle.contest_types.specs.SettingsNames.{group_id_at}
use Rattle.contest_types.specs.Setup.{Setup}
use Rattle.contest_types.specs.TeamPlaces.{team_id_at}
use Rattle.contest_objects.specs.Objects.{file_array, ids_data, member_where}
use Rattle.contest_objects.specs.Times.{contest_time_data, moment_or_null, span_data, span_or_null}
use Rattle.contest_objects.specs.declared.members.IdKind.{IdKind}
use Rattle.contest_objects.specs.declared.members.IdKind.TheVariants.{Group, Team}
use Rattle.contest_objects.specs.declared.members.Member.{Member}
use Rattle.contest_objects.specs.declared.members.Member.TheVariants.{Text, TextOrNull, Number, NumberOrNull, Flag, Span, SpanOrNull, Time, TimeOrNull, ContestTime, File, Ids, Absent}

-- a whole number, or null
abbrev pub number_or_null : Option ℕ → Data
number_or_null n = option_map_or (λ k. number (unsigned k)) n null

-- a text, or null
abbrev pub text_or_null : Option (List ℕ) → Data
text_or_null t = option_map_or string t null

-- the id of what stands at a place
abbrev pub id_at : Setup → IdKind → ℕ → List ℕ
id_at s Group place = group_id_at s place
id_at s Team place = team_id_at s place

-- what stands under a name, if anything
abbrev pub shown : Member → Option Data
shown (Text t) = Some (string t.now)
shown (TextOrNull t) = Some (text_or_null (option_map (λ s. s.now) t))
shown (Number n) = Some (number (unsigned n))
shown (NumberOrNull n) = Some (number_or_null n)
shown (Flag b) = Some (boolean b)
shown (Span s) = Some (span_data s.now)
shown (SpanOrNull s) = Some (span_or_null s.now)
shown (Time m) = Some (string (moment_text m.now))
shown (TimeOrNull m) = Some (moment_or_null m.now)
shown (ContestTime start time) = Some (contest_time_data start.now time.now)
shown (File href) = Some (file_array href.now)
shown (Ids s kind places) = Some (ids_data (id_at s.now kind) places.now)
shown Absent = None

-- the object's members: these, in their order, each where it is there
abbrev pub in_order : List (List ℕ × Option Data) → Members
in_order [] = no_members
in_order (m ∷ rest) = member_where m.1 m.0 (in_order rest)
