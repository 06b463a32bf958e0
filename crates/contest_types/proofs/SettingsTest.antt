-- The test of the settings is that of the type of settings.
use Rattle.std.proofs.Common.{◌≡◌, Bool, true, List, [], ◌∷◌, length, map}
use Rattle.std.specs.Prelude.{nat_le}
use Rattle.std.specs.List.{list_all}
use Rattle.std.proofs.lemmas.Bool.{leb-true, le-leb}
use Rattle.contest_types.specs.Places.{are_different}
use Rattle.contest_types.specs.Setup.{Setup, IsValid, labels_of, is_valid_head, refers}
use Rattle.contest_types.specs.State.{ContestState}
use Rattle.contest_types.specs.ValidFixed.{has_valid_settings}
use Rattle.contest_types.specs.declared.limits.TheConstants.{JUDGEMENT_TYPES, LANGUAGES, PROBLEMS, GROUPS, TEAMS}
use Rattle.contest_types.specs.declared.objects.JudgementType.{JudgementType}
use Rattle.contest_types.specs.declared.objects.Language.{Language}
use Rattle.contest_types.specs.declared.objects.Problem.{Problem}
use Rattle.contest_types.specs.declared.objects.Group.{Group}
use Rattle.contest_types.specs.declared.objects.Team.{Team}
use Rattle.contest_types.proofs.Tests.{each_of, all_of}

-- the tests behind that of the head
abbrev list_tests : Setup → List Bool
list_tests s =
    are_different (map (λ (t : JudgementType). t.id) s.types) ∷ nat_le (length s.types) JUDGEMENT_TYPES
    ∷ are_different (map (λ (l : Language). l.id) s.languages) ∷ nat_le (length s.languages) LANGUAGES
    ∷ are_different (map (λ (p : Problem). p.id) s.problems) ∷ are_different (labels_of s.problems) ∷ nat_le (length s.problems) PROBLEMS
    ∷ are_different (map (λ (g : Group). g.id) s.groups) ∷ nat_le (length s.groups) GROUPS
    ∷ are_different (map (λ (t : Team). t.id) s.teams) ∷ nat_le (length s.teams) TEAMS ∷ list_all (refers (length s.groups)) s.teams ∷ []

pub is_settings : (x : ContestState) → has_valid_settings x ≡ true → IsValid x.fixed.settings
is_settings x h =
    let s = x.fixed.settings in
    let each = each_of (is_valid_head s.head) (list_tests s) h in
    record {
      head = each 0;
      types = each 1;
      few_types = leb-true (length s.types) JUDGEMENT_TYPES (each 2);
      languages = each 3;
      few_languages = leb-true (length s.languages) LANGUAGES (each 4);
      problems = each 5;
      labels = each 6;
      few_problems = leb-true (length s.problems) PROBLEMS (each 7);
      groups = each 8;
      few_groups = leb-true (length s.groups) GROUPS (each 9);
      teams = each 10;
      few_teams = leb-true (length s.teams) TEAMS (each 11);
      references = each 12;
    }

pub has_settings : (x : ContestState) → IsValid x.fixed.settings → has_valid_settings x ≡ true
has_settings x v = all_of (is_valid_head x.fixed.settings.head) (list_tests x.fixed.settings) v.head (
  v.types,
  (
    le-leb _ _ v.few_types,
    (
      v.languages,
      (
        le-leb _ _ v.few_languages,
        (
          v.problems,
          (
            v.labels,
            (
              le-leb _ _ v.few_problems,
              (v.groups, (le-leb _ _ v.few_groups, (v.teams, (le-leb _ _ v.few_teams, (v.references, tt))))),
            ),
          ),
        ),
      ),
    ),
  ),
)
