-- What settings hold, and when they are valid.
use Rattle.std.specs.Prelude.{ℕ, ◌≡◌, ◌≤◌, ◌&&◌, Bool, true, List, length, map, nat_lt, nat_le, Option, None, Some}
use Rattle.std.specs.List.{list_all}
use Rattle.contest_types.specs.Places.{are_different}
use Rattle.contest_types.specs.declared.contest.ContestHead.{ContestHead}
use Rattle.contest_types.specs.declared.contest.Medals.{Medals}
use Rattle.contest_types.specs.declared.objects.JudgementType.{JudgementType}
use Rattle.contest_types.specs.declared.objects.Language.{Language}
use Rattle.contest_types.specs.declared.objects.Problem.{Problem}
use Rattle.contest_types.specs.declared.objects.Group.{Group}
use Rattle.contest_types.specs.declared.objects.Team.{Team}
use Rattle.contest_types.specs.declared.limits.TheConstants.{JUDGEMENT_TYPES, LANGUAGES, PROBLEMS, GROUPS, TEAMS, LONGEST_CONTEST, PENALTY_MINUTES, MEDAL_PLACES}

-- the settings as lists, each in the order in which it was imported
pub record Setup : Type 0 where
  pub head : ContestHead
  pub types : List JudgementType
  pub languages : List Language
  pub problems : List Problem
  pub groups : List Group
  pub teams : List Team

abbrev pub labels_of : List Problem → List (List ℕ)
labels_of problems = map (λ (p : Problem). p.label) problems

-- a freeze, where there is one, is no longer than the contest
abbrev pub has_valid_freeze : Option ℕ → ℕ → Bool
has_valid_freeze None duration = true
has_valid_freeze (Some freeze) duration = nat_le freeze duration

abbrev pub has_valid_medals : Medals → Bool
has_valid_medals m = nat_le m.gold MEDAL_PLACES && nat_le m.silver MEDAL_PLACES && nat_le m.bronze MEDAL_PLACES

-- each number of the head is within its range
abbrev pub is_valid_head : ContestHead → Bool
is_valid_head h =
    nat_lt 0 h.duration && nat_le h.duration LONGEST_CONTEST && has_valid_freeze h.freeze h.duration
    && nat_le h.penalty_time PENALTY_MINUTES && has_valid_medals h.medals

-- a team names groups that are there
abbrev pub refers : ℕ → Team → Bool
refers groups t = list_all (λ g. nat_lt g groups) t.groups

-- ids and labels stand once, references hold, and all is within its limits
pub record IsValid (s : Setup) : Type 0 where
  pub head : is_valid_head s.head ≡ true
  pub types : are_different (map (λ (t : JudgementType). t.id) s.types) ≡ true
  pub languages : are_different (map (λ (l : Language). l.id) s.languages) ≡ true
  pub problems : are_different (map (λ (p : Problem). p.id) s.problems) ≡ true
  pub labels : are_different (labels_of s.problems) ≡ true
  pub groups : are_different (map (λ (g : Group). g.id) s.groups) ≡ true
  pub teams : are_different (map (λ (t : Team). t.id) s.teams) ≡ true
  pub references : list_all (refers (length s.groups)) s.teams ≡ true
  pub few_types : length s.types ≤ JUDGEMENT_TYPES
  pub few_languages : length s.languages ≤ LANGUAGES
  pub few_problems : length s.problems ≤ PROBLEMS
  pub few_groups : length s.groups ≤ GROUPS
  pub few_teams : length s.teams ≤ TEAMS
