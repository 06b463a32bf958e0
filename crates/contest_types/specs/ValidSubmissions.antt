-- When the submissions, the proposals and the releases of a contest are valid (own).
use Rattle.std.specs.Prelude.{ℕ, Bool, true, false, not, ◌&&◌, ◌==◌, nat_le, nat_lt, List, length, map, count_by, is_some}
use Rattle.std.specs.List.{list_any, list_all}
use Rattle.contest_types.specs.Accounts.{account_named}
use Rattle.contest_types.specs.Clock.{reached, end_of}
use Rattle.contest_types.specs.Series.{in_each, count_up, never_fall, have_own_keys}
use Rattle.contest_types.specs.State.{FixedPart, ContestState, names, of_submission, of_release, of_proposal}
use Rattle.contest_types.specs.declared.limits.TheConstants.{TEAM_SUBMISSIONS, POSTED_FILE, PROPOSALS}
use Rattle.contest_types.specs.declared.submission.Submission.{Submission}
use Rattle.contest_types.specs.declared.submission.Release.{Release}
use Rattle.contest_types.specs.declared.proposal.Proposal.{Proposal}
use Rattle.contest_types.specs.declared.proposal.Proposer.{Proposer}
use Rattle.contest_types.specs.declared.proposal.Proposer.TheVariants as proposer

-- a submission names what is there, its time is from the start to before the end, and its file isn't too large
abbrev pub is_valid_submission : FixedPart → Submission → Bool
is_valid_submission f s =
    nat_lt s.team (length f.settings.teams) && nat_lt s.problem (length f.settings.problems) && nat_lt s.language (length f.settings.languages)
    && reached f.marks.start s.time && not (reached (end_of f.settings f.marks) s.time)
    && nat_le (length s.file) POSTED_FILE

abbrev pub of_one_team : Submission → Submission → Bool
of_one_team s t = t.team == s.team

-- a team's submissions count up, their times never fall, their keys are their own, and they are not too many
abbrev pub are_valid_submissions : List Submission → Bool
are_valid_submissions own =
    count_up (map (λ (s : Submission). s.number) own) && never_fall (map (λ (s : Submission). s.time) own)
    && have_own_keys (map (λ (s : Submission). s.key) own) && nat_le (length own) TEAM_SUBMISSIONS

abbrev pub has_valid_submissions : ContestState → Bool
has_valid_submissions x = list_all (is_valid_submission x.fixed) x.submissions && in_each of_one_team are_valid_submissions x.submissions

-- a submission with this number of the team stands
abbrev pub has_submission : ContestState → (team number : ℕ) → Bool
has_submission x team number = list_any (λ s. names team number (of_submission s)) x.submissions

-- a release names what is there
abbrev pub is_valid_release : ContestState → Release → Bool
is_valid_release x v = has_submission x v.team v.number && nat_lt v.verdict (length x.fixed.settings.types)

abbrev pub on_one_submission : Release → Release → Bool
on_one_submission v w = names v.team v.number (of_release w)

abbrev pub are_valid_releases : List Release → Bool
are_valid_releases vs = count_up (map (λ (v : Release). v.round) vs)

abbrev pub has_valid_releases : ContestState → Bool
has_valid_releases x = list_all (is_valid_release x) x.releases && in_each on_one_submission are_valid_releases x.releases

abbrev pub is_there : FixedPart → Proposer → Bool
is_there f (proposer.Account id) = is_some (account_named f.accounts id)
is_there f proposer.Import = true

-- a proposal names what is there
abbrev pub is_valid_proposal : ContestState → Proposal → Bool
is_valid_proposal x p =
    has_submission x p.team p.number && nat_lt p.verdict (length x.fixed.settings.types) && is_there x.fixed p.proposer

abbrev pub for_one_submission : Proposal → Proposal → Bool
for_one_submission p q = names p.team p.number (of_proposal q)

abbrev pub is_imported_by : Proposer → Bool
is_imported_by (proposer.Account id) = false
is_imported_by proposer.Import = true

abbrev pub is_imported : Proposal → Bool
is_imported p = is_imported_by p.proposer

-- a submission's proposals are not too many, and at most one was imported
abbrev pub are_valid_proposals : List Proposal → Bool
are_valid_proposals ps = nat_le (length ps) PROPOSALS && nat_le (count_by is_imported ps) 1

abbrev pub has_valid_proposals : ContestState → Bool
has_valid_proposals x = list_all (is_valid_proposal x) x.proposals && in_each for_one_submission are_valid_proposals x.proposals
