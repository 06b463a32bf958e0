-- The rows of a feed that has ended. Words of private functions: nothing public is said with them.
use Rattle.std.specs.Prelude.{ℕ, ◌≡◌, ◌≤◌, Bool, true, Option, Some, None, length, map, nat_lt}
use Rattle.contest_types.specs.Places.{are_different}
use Rattle.contest_types.specs.declared.limits.TheConstants.{JUDGEMENT_TYPES, PROBLEMS, TEAMS}
use Rattle.contest_feed_reader.specs.References.{Fault, ids_of}
use Rattle.contest_feed_reader.specs.declared.feed_rows.FeedRows.{FeedRows}
use Rattle.contest_feed_reader.specs.declared.tables.Tables.{Tables}

-- the collections of these rows
abbrev pub tables_of : FeedRows → Tables
tables_of r = record {
  contests = r.contests.items;
  types = r.types.items;
  problems = r.problems.items;
  groups = r.groups.items;
  teams = r.teams.items;
  submissions = r.submissions.items;
  judgements = r.judgements.items;
}

-- no two rows of a collection of the settings have one id
pub record AreDifferent (r : FeedRows) : Type 0 where
  pub types : are_different (ids_of r.types.items) ≡ true
  pub problems : are_different (ids_of r.problems.items) ≡ true
  pub teams : are_different (ids_of r.teams.items) ≡ true

-- the settings have a place for each row, and no two of a collection have one id, or one label
pub record Fits (r : FeedRows) : Type 0 where
  pub different : AreDifferent r
  pub labels : are_different (map (λ row. row.object.label) r.problems.items) ≡ true
  pub few_types : length r.types.items ≤ JUDGEMENT_TYPES
  pub few_problems : length r.problems.items ≤ PROBLEMS
  pub few_teams : length r.teams.items ≤ TEAMS

-- a fault in a line would be the first
abbrev pub is_earlier : Option Fault → (line : ℕ) → Bool
is_earlier None line = true
is_earlier (Some first) line = nat_lt line first.0
