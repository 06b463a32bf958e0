-- Worked examples: each limit of a list reached, and passed.
use Rattle.std.proofs.Common.{◌≡◌, ℕ, true, false, List, [], ◌∷◌, length, map, refl, None}
use Rattle.std.specs.Prelude.{◌&&◌, codes, count_by, nat_le, Ok, Err}
use Rattle.std.specs.List.{list_all, range_with_len}
use Rattle.std.proofs.lemmas.Bool.{and_right}
use Rattle.contest_types.specs.PlainRows.{plain_group, plain_language, plain_problem, plain_type}
use Rattle.contest_types.specs.Setup.{Setup}
use Rattle.contest_types.specs.Accounts.{account_addition}
use Rattle.contest_types.specs.SetupAdditions.{type_addition, language_addition, problem_addition, group_addition, team_addition}
use Rattle.contest_types.specs.State.{ContestState}
use Rattle.contest_types.specs.ValidFixed.{has_valid_settings}
use Rattle.contest_types.specs.ValidSubmissions.{is_valid_submission, are_valid_submissions, are_valid_proposals}
use Rattle.contest_types.specs.ValidClarifications.{are_valid_clarifications}
use Rattle.contest_types.specs.ValidRejudgings.{are_different_members, is_valid_member, is_valid_rejudging}
use Rattle.contest_types.specs.Addable.{is_next_submission, is_next_proposal, is_next_clarification, is_next_rejudging}
use Rattle.contest_types.specs.declared.account.Account.{Account}
use Rattle.contest_types.specs.declared.account.Role.TheVariants as role
use Rattle.contest_types.specs.declared.clarification.Clarification.{Clarification}
use Rattle.contest_types.specs.declared.limits.TheConstants.{REJUDGING_MEMBERS}
use Rattle.contest_types.specs.declared.objects.JudgementType.{JudgementType}
use Rattle.contest_types.specs.declared.objects.Language.{Language}
use Rattle.contest_types.specs.declared.objects.Problem.{Problem}
use Rattle.contest_types.specs.declared.objects.Group.{Group}
use Rattle.contest_types.specs.declared.objects.Team.{Team}
use Rattle.contest_types.specs.declared.refusal.Cause.TheVariants.{TableFull}
use Rattle.contest_types.specs.declared.submission.Submission.{Submission}
use Rattle.contest_types.specs.declared.proposal.Proposal.{Proposal}
use Rattle.contest_types.specs.declared.rejudging.Rejudging.{Rejudging}
use Rattle.contest_types.specs.declared.rejudging.RejudgingState.TheVariants as state
use Rattle.contest_types.specs.declared.rejudging.MemberState.TheVariants as member
use Rattle.contest_types.specs.declared.rejudging.Member.{Member}
use Rattle.contest_types.proofs.ExampleContest.{settings, empty, team_named, wrong, submitted, released, proposed, asked, answered, announced, rejudged}

-- so many rows, each made of its number
abbrev rows : {X : Type 0} → (ℕ → X) → ℕ → List X
rows row n = map row (range_with_len 1 n)

abbrev with_settings : Setup → ContestState
with_settings s = record empty { fixed = record empty.fixed { settings = s } }

-- 40 judgement types: a new one is added to 39, and an equal one adds nothing to 40
abbrev a_type : ℕ → JudgementType
a_type n = plain_type (n ∷ []) (codes "wrong answer") false true

abbrev with_types : ℕ → Setup
with_types n = record settings { types = rows a_type n }

last_type : type_addition (with_types 39) (a_type 40) ≡ Ok true
last_type = refl

no_more_types : type_addition (with_types 40) (a_type 41) ≡ Err TableFull
no_more_types = refl

equal_type : type_addition (with_types 40) (a_type 40) ≡ Ok false
equal_type = refl

types_within : has_valid_settings (with_settings (with_types 40)) ≡ true
types_within = refl

types_past : has_valid_settings (with_settings (with_types 41)) ≡ false
types_past = refl

-- 500 teams
abbrev a_team : ℕ → Team
a_team n = team_named (n ∷ []) (codes "Alpha") false

abbrev with_teams : ℕ → Setup
with_teams n = record settings { teams = rows a_team n }

last_team : team_addition (with_teams 499) (a_team 500) ≡ Ok true
last_team = refl

no_more_teams : team_addition (with_teams 500) (a_team 501) ≡ Err TableFull
no_more_teams = refl

teams_within : has_valid_settings (with_settings (with_teams 500)) ≡ true
teams_within = refl

teams_past : has_valid_settings (with_settings (with_teams 501)) ≡ false
teams_past = refl

-- 40 languages, 40 problems and 50 groups
abbrev a_language : ℕ → Language
a_language n = plain_language (n ∷ []) (codes "C++")

abbrev with_languages : ℕ → Setup
with_languages n = record settings { languages = rows a_language n }

last_language : language_addition (with_languages 39) (a_language 40) ≡ Ok true
last_language = refl

no_more_languages : language_addition (with_languages 40) (a_language 41) ≡ Err TableFull
no_more_languages = refl

languages_past : has_valid_settings (with_settings (with_languages 41)) ≡ false
languages_past = refl

abbrev a_problem : ℕ → Problem
a_problem n = plain_problem (n ∷ []) (n ∷ []) (codes "Apples") n

abbrev with_problems : ℕ → Setup
with_problems n = record settings { problems = rows a_problem n }

last_problem : problem_addition (with_problems 39) (a_problem 40) ≡ Ok true
last_problem = refl

no_more_problems : problem_addition (with_problems 40) (a_problem 41) ≡ Err TableFull
no_more_problems = refl

problems_past : has_valid_settings (with_settings (with_problems 41)) ≡ false
problems_past = refl

abbrev a_group : ℕ → Group
a_group n = plain_group (n ∷ []) (codes "North")

abbrev with_groups : ℕ → Setup
with_groups n = record settings { groups = rows a_group n }

last_group : group_addition (with_groups 49) (a_group 50) ≡ Ok true
last_group = refl

no_more_groups : group_addition (with_groups 50) (a_group 51) ≡ Err TableFull
no_more_groups = refl

groups_past : has_valid_settings (with_settings (with_groups 51)) ≡ false
groups_past = refl

-- 2,000 accounts
abbrev an_account : ℕ → Account
an_account n = record { id = n ∷ []; role = role.Judge; digest = n ∷ [] }

last_account : account_addition settings (rows an_account 1999) (an_account 2000) ≡ Ok true
last_account = refl

no_more_accounts : account_addition settings (rows an_account 2000) (an_account 2001) ≡ Err TableFull
no_more_accounts = refl

-- 500 submissions of a team
abbrev a_submission : ℕ → Submission
a_submission n = submitted 0 n 5 0

last_submission : is_next_submission (rows a_submission 499) (a_submission 500) ≡ true
last_submission = refl

no_more_submissions : is_next_submission (rows a_submission 500) (a_submission 501) ≡ false
no_more_submissions = refl

submissions_within : are_valid_submissions (rows a_submission 500) ≡ true
submissions_within = refl

submissions_past : are_valid_submissions (rows a_submission 501) ≡ false
submissions_past = refl

-- a file of 1,048,576 bytes, whatever they are
largest_file : (file : List ℕ) → length file ≡ 1_048_576 → is_valid_submission empty.fixed (record (submitted 0 1 5 0) { file = file }) ≡ true
largest_file file is = rw is refl

too_large_file : (file : List ℕ) → length file ≡ 1_048_577 → is_valid_submission empty.fixed (record (submitted 0 1 5 0) { file = file }) ≡ false
too_large_file file is = rw is refl

-- 1,000 proposals for a submission
abbrev a_proposal : ℕ → Proposal
a_proposal n = proposed 0 1 wrong n

last_proposal : is_next_proposal (rows a_proposal 999) (a_proposal 1000) ≡ true
last_proposal = refl

no_more_proposals : is_next_proposal (rows a_proposal 1000) (a_proposal 1001) ≡ false
no_more_proposals = refl

proposals_within : are_valid_proposals (rows a_proposal 1000) ≡ true
proposals_within = refl

proposals_past : are_valid_proposals (rows a_proposal 1001) ≡ false
proposals_past = refl

-- 200 requests of a team, after which the jury may still answer
abbrev a_request : ℕ → Clarification
a_request n = asked 0 n 5

last_request : is_next_clarification (rows a_request 199) (a_request 200) ≡ true
last_request = refl

no_more_requests : is_next_clarification (rows a_request 200) (a_request 201) ≡ false
no_more_requests = refl

still_answered : is_next_clarification (rows a_request 200) (answered 0 201 5) ≡ true
still_answered = refl

requests_within : are_valid_clarifications (rows a_request 200) ≡ true
requests_within = refl

requests_past : are_valid_clarifications (rows a_request 201) ≡ false
requests_past = refl

-- 100,000 clarifications by the jury for one addressee, whatever they are
last_from_jury : (cs : List Clarification) → length cs ≡ 99_999 → count_by (λ (c : Clarification). c.from_jury) cs ≡ 99_999 → is_next_clarification cs (announced 100_000 5 None) ≡ true
last_from_jury cs are all = rw (are, all) refl

no_more_from_jury : (cs : List Clarification) → length cs ≡ 100_000 → count_by (λ (c : Clarification). c.from_jury) cs ≡ 100_000 → is_next_clarification cs (announced 100_001 5 None) ≡ false
no_more_from_jury cs are all = rw (are, all) refl

-- 100,000 rejudgings, whatever they are
last_rejudging : (rs : List Rejudging) → length rs ≡ 99_999 → is_next_rejudging rs (rejudged 0 1 wrong state.Cancelled) ≡ true
last_rejudging rs is = rw is refl

no_more_rejudgings : (rs : List Rejudging) → length rs ≡ 100_000 → is_next_rejudging rs (rejudged 0 1 wrong state.Cancelled) ≡ false
no_more_rejudgings rs is = rw is refl

-- 500 members of a rejudging
abbrev a_member : ℕ → Member
a_member n = record { team = 0; number = n; state = member.Empty }

abbrev with_releases : ℕ → ContestState
with_releases n = record empty { submissions = rows a_submission n; releases = rows (λ k. released 0 k 1 wrong 5) n }

abbrev with_members : ℕ → Rejudging
with_members n = record { reason = codes "limits"; state = state.Open; members = rows a_member n }

members_within : is_valid_rejudging (with_releases 500) (with_members 500) ≡ true
members_within = refl

members_past : (x : ContestState) (r : Rejudging) → length r.members ≡ 501 → is_valid_rejudging x r ≡ false
members_past x r is = and_right (list_all (is_valid_member x) r.members && are_different_members r.members) (nat_le (length r.members) REJUDGING_MEMBERS) (rw is refl)
