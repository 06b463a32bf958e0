-- When the fixed part of a contest is valid (own).
use Rattle.std.specs.Prelude.{Bool, true, not, ◌&&◌, ◌||◌, ◌==◌, nat_le, length, map, is_some, codes}
use Rattle.std.specs.List.{list_all}
use Rattle.std.specs.Option.{option_map_or}
use Rattle.std.specs.Str.{bytes_eq}
use Rattle.contest_types.specs.Places.{are_different}
use Rattle.contest_types.specs.MomentText.{latest}
use Rattle.contest_types.specs.Clock.{end_of}
use Rattle.contest_types.specs.Setup.{Setup, labels_of, is_valid_head, refers}
use Rattle.contest_types.specs.Accounts.{has_valid_role}
use Rattle.contest_types.specs.State.{ContestState}
use Rattle.contest_types.specs.declared.limits.TheConstants.{JUDGEMENT_TYPES, LANGUAGES, PROBLEMS, GROUPS, TEAMS, ACCOUNTS}
use Rattle.contest_types.specs.declared.account.Account.{Account}
use Rattle.contest_types.specs.declared.objects.JudgementType.{JudgementType}
use Rattle.contest_types.specs.declared.objects.Language.{Language}
use Rattle.contest_types.specs.declared.objects.Problem.{Problem}
use Rattle.contest_types.specs.declared.objects.Group.{Group}
use Rattle.contest_types.specs.declared.objects.Team.{Team}

-- ids and labels stand once, references hold, and all is within its limits
abbrev pub has_valid_settings : ContestState → Bool
has_valid_settings x =
    let s = x.fixed.settings in
    is_valid_head s.head
    && are_different (map (λ (t : JudgementType). t.id) s.types) && nat_le (length s.types) JUDGEMENT_TYPES
    && are_different (map (λ (l : Language). l.id) s.languages) && nat_le (length s.languages) LANGUAGES
    && are_different (map (λ (p : Problem). p.id) s.problems) && are_different (labels_of s.problems) && nat_le (length s.problems) PROBLEMS
    && are_different (map (λ (g : Group). g.id) s.groups) && nat_le (length s.groups) GROUPS
    && are_different (map (λ (t : Team). t.id) s.teams) && nat_le (length s.teams) TEAMS && list_all (refers (length s.groups)) s.teams

-- the end is a moment, and where a submission or a clarification stands the start is set
abbrev pub has_valid_clock : ContestState → Bool
has_valid_clock x =
    option_map_or (λ end. nat_le end latest) (end_of x.fixed.settings x.fixed.marks) true
    && (is_some x.fixed.marks.start || (length x.submissions == 0) && (length x.clarifications == 0))

-- nobody else is called `import`
abbrev pub is_valid_account : Setup → Account → Bool
is_valid_account s a = has_valid_role s a.role && not (bytes_eq a.id (codes "import"))

-- ids and token digests stand once
abbrev pub has_valid_accounts : ContestState → Bool
has_valid_accounts x =
    let accounts = x.fixed.accounts in
    list_all (is_valid_account x.fixed.settings) accounts
    && are_different (map (λ (a : Account). a.id) accounts) && are_different (map (λ (a : Account). a.digest) accounts)
    && nat_le (length accounts) ACCOUNTS
