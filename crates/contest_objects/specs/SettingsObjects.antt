-- The rows of a contest's settings as they are served (Contest API 2023-06, the objects of these names; which
-- members each has is this desk's choice).
use Rattle.std.specs.Prelude.{ℕ, List, Option, codes, map, slice_get}
use Rattle.std.specs.List.{filter_map}
use Rattle.serde_json.specs.Data.{Data, boolean, number, unsigned, string, object, member, no_members}
use Rattle.contest_types.specs.Setup.{Setup}
use Rattle.contest_types.specs.declared.objects.Group.{Group}
use Rattle.contest_types.specs.declared.objects.JudgementType.{JudgementType}
use Rattle.contest_types.specs.declared.objects.Language.{Language}
use Rattle.contest_types.specs.declared.objects.Problem.{Problem}
use Rattle.contest_types.specs.declared.objects.Team.{Team}
use Rattle.contest_types.specs.ProblemPlaces.{problem_order}
use Rattle.contest_types.specs.SettingsNames.{group_id_at}
use Rattle.contest_objects.specs.Items.{Item, array_of, found_in}
use Rattle.contest_objects.specs.Objects.{ids_data}
use Rattle.contest_objects.specs.declared.settings_objects.SettingsEndpoint.{SettingsEndpoint}
use Rattle.contest_objects.specs.declared.settings_objects.SettingsEndpoint.TheVariants.{Groups, JudgementTypes, Languages, Problems, Teams}

abbrev pub type_item : JudgementType → Item
type_item t = record {
  id = t.id;
  object = object (member (codes "id") (string t.id) (member (codes "name") (string t.name)
      (member (codes "penalty") (boolean t.penalty) (member (codes "solved") (boolean t.solved) no_members))));
}

abbrev pub language_item : Language → Item
language_item l = record {
  id = l.id;
  object = object (member (codes "entry_point_required") (boolean l.entry_point_required) (member (codes "id") (string l.id)
      (member (codes "name") (string l.name) no_members)));
}

abbrev pub problem_item : Problem → Item
problem_item p = record {
  id = p.id;
  object = object (member (codes "id") (string p.id) (member (codes "label") (string p.label)
      (member (codes "name") (string p.name) (member (codes "ordinal") (number (unsigned p.ordinal)) no_members))));
}

abbrev pub group_item : Group → Item
group_item g = record { id = g.id; object = object (member (codes "id") (string g.id) (member (codes "name") (string g.name) no_members)) }

-- a team, with the ids of its groups as they were given
abbrev pub team_item : Setup → Team → Item
team_item s t = record {
  id = t.id;
  object = object (member (codes "group_ids") (ids_data (group_id_at s) t.groups) (member (codes "hidden") (boolean t.hidden)
      (member (codes "id") (string t.id) (member (codes "name") (string t.name) no_members))));
}

-- problems by ordinal, then id
abbrev pub problem_items : Setup → List Item
problem_items s = map problem_item (filter_map (slice_get s.problems) (problem_order s))

-- all objects of an endpoint; all but problems in the order in which they were imported
abbrev pub settings_items : SettingsEndpoint → Setup → List Item
settings_items Languages s = map language_item s.languages
settings_items JudgementTypes s = map type_item s.types
settings_items Groups s = map group_item s.groups
settings_items Problems s = problem_items s
settings_items Teams s = map (team_item s) s.teams

-- the array of them
abbrev pub settings_data : SettingsEndpoint → Setup → Data
settings_data endpoint s = array_of (settings_items endpoint s)

-- the one with this id
abbrev pub setting_found : SettingsEndpoint → Setup → (id : List ℕ) → Option Data
setting_found Languages s = found_in (map language_item s.languages)
setting_found JudgementTypes s = found_in (map type_item s.types)
setting_found Groups s = found_in (map group_item s.groups)
setting_found Problems s = found_in (map problem_item s.problems)
setting_found Teams s = found_in (map (team_item s) s.teams)
