-- Which changes keep a valid contest valid (own).
use Rattle.std.specs.Prelude.{◌+◌, Bool, true, false, not, ◌&&◌, ◌||◌, ◌==◌, nat_le, nat_lt, List, [], ◌∷◌, ◌++◌, length, map, filter, count_by, Result, Ok, Err, is_some, if◌then◌else◌}
use Rattle.std.specs.List.{list_all}
use Rattle.std.specs.Option.{option_map_or}
use Rattle.contest_types.specs.MomentText.{latest}
use Rattle.contest_types.specs.Clock.{moment_after, end_of, is_frozen}
use Rattle.contest_types.specs.Places.{is_among}
use Rattle.contest_types.specs.Series.{is_new_key}
use Rattle.contest_types.specs.Setup.{Setup, is_valid_head}
use Rattle.contest_types.specs.Accounts.{account_named, account_addition}
use Rattle.contest_types.specs.SetupAdditions.{type_addition, language_addition, problem_addition, group_addition, team_addition}
use Rattle.contest_types.specs.State.{ContestState, submissions_of, releases_on, proposals_for, clarifications_to, with_duration, add, Entry, NewSubmission, NewProposal, NewRelease, NewClarification, NewRejudging, SetMember, SetRejudging, SetStart, SetThaw, SetFinalized, SetDuration, SetTeamName, SetDigest, NewType, NewLanguage, NewProblem, NewGroup, NewTeam, NewAccount}
use Rattle.contest_types.specs.ValidFixed.{is_valid_account}
use Rattle.contest_types.specs.ValidSubmissions.{is_valid_submission, is_valid_proposal, is_valid_release, is_imported}
use Rattle.contest_types.specs.ValidClarifications.{is_valid_clarification, is_request, in_one_scope}
use Rattle.contest_types.specs.ValidRejudgings.{is_valid_rejudging, is_valid_state, is_open, is_open_by, open_members, are_different_members}
use Rattle.contest_types.specs.declared.limits.TheConstants.{TEAM_SUBMISSIONS, PROPOSALS, TEAM_REQUESTS, JURY_CLARIFICATIONS, REJUDGINGS}
use Rattle.contest_types.specs.declared.refusal.Cause.{Cause}
use Rattle.contest_types.specs.declared.account.Account.{Account}
use Rattle.contest_types.specs.declared.marks.Marks.{Marks}
use Rattle.contest_types.specs.declared.submission.Submission.{Submission}
use Rattle.contest_types.specs.declared.submission.Release.{Release}
use Rattle.contest_types.specs.declared.proposal.Proposal.{Proposal}
use Rattle.contest_types.specs.declared.clarification.Clarification.{Clarification}
use Rattle.contest_types.specs.declared.rejudging.Rejudging.{Rejudging}

-- the team's next submission: not before its last, its key is new, and there is room for it
abbrev pub is_next_submission : List Submission → Submission → Bool
is_next_submission own s =
    (s.number == length own + 1) && list_all (λ (t : Submission). nat_le t.time s.time) own
    && is_new_key (map (λ (t : Submission). t.key) own) s.key && nat_lt (length own) TEAM_SUBMISSIONS

-- one more proposal for a submission: the only imported one, if it is imported
abbrev pub is_next_proposal : List Proposal → Proposal → Bool
is_next_proposal ps p = nat_lt (length ps) PROPOSALS && (not (is_imported p) || (count_by is_imported ps == 0))

abbrev pub is_next_release : List Release → Release → Bool
is_next_release vs v = v.round == length vs + 1

-- the next clarification of its addressee, with room for it in its direction
abbrev pub is_next_clarification : List Clarification → Clarification → Bool
is_next_clarification cs c =
    (c.number == length cs + 1)
    && (if c.from_jury then nat_lt (count_by (λ (d : Clarification). d.from_jury) cs) JURY_CLARIFICATIONS else nat_lt (count_by is_request cs) TEAM_REQUESTS)

-- the rejudging, if it is open, shares no member with another open one
abbrev pub is_next_rejudging : List Rejudging → Rejudging → Bool
is_next_rejudging rs r =
    nat_lt (length rs) REJUDGINGS && (not (is_open r) || are_different_members (open_members rs ++ r.members))

-- with both settings the same of these submissions are frozen
abbrev pub freezes_the_same : Setup → Setup → Marks → List Submission → Bool
freezes_the_same s t marks =
    list_all (λ (u : Submission). if is_frozen s marks u.time then is_frozen t marks u.time else not (is_frozen t marks u.time))

-- the settings with the duration are valid, it isn't shorter, and no submission thaws or freezes by it
abbrev pub may_last : ContestState → Setup → Bool
may_last x s =
    is_valid_head s.head && nat_le x.fixed.settings.head.duration s.head.duration
    && option_map_or (λ end. nat_le end latest) (end_of s x.fixed.marks) true
    && freezes_the_same x.fixed.settings s x.fixed.marks x.submissions

-- the row is taken as a new one
abbrev pub is_added : Result Bool Cause → Bool
is_added (Ok added) = added
is_added (Err cause) = false

-- the change may be made to a valid contest
abbrev pub is_addable : ContestState → Entry → Bool
is_addable x (NewSubmission s) = is_valid_submission x.fixed s && is_next_submission (submissions_of s.team x.submissions) s
is_addable x (NewProposal p) = is_valid_proposal x p && is_next_proposal (proposals_for p.team p.number x.proposals) p
is_addable x (NewRelease v) = is_valid_release x v && is_next_release (releases_on v.team v.number x.releases) v
is_addable x (NewClarification c) =
    is_some x.fixed.marks.start && is_valid_clarification x c && is_next_clarification (clarifications_to c.addressee x.clarifications) c
    && is_new_key (map (λ (d : Clarification). d.key) (filter (in_one_scope c) x.clarifications)) c.key
is_addable x (NewRejudging r) = is_valid_rejudging x r && is_next_rejudging x.rejudgings r
is_addable x (SetMember n place state) = is_valid_state x.fixed state
is_addable x (SetRejudging n state) = not (is_open_by state)
is_addable x (SetStart start) =
    (length x.submissions == 0) && (length x.clarifications == 0)
    && option_map_or (λ end. nat_le end latest) (moment_after start x.fixed.settings.head.duration) true
is_addable x (SetThaw thaw) = true
is_addable x (SetFinalized finalized) = true
is_addable x (SetDuration duration freeze) = may_last x (with_duration x.fixed.settings duration freeze)
is_addable x (SetTeamName team name) = nat_lt team (length x.fixed.settings.teams)
is_addable x (SetDigest id digest) =
    is_some (account_named x.fixed.accounts id) && not (is_among (map (λ (a : Account). a.digest) x.fixed.accounts) digest)
is_addable x (NewType t) = is_added (type_addition x.fixed.settings t)
is_addable x (NewLanguage l) = is_added (language_addition x.fixed.settings l)
is_addable x (NewProblem p) = is_added (problem_addition x.fixed.settings p)
is_addable x (NewGroup g) = is_added (group_addition x.fixed.settings g)
is_addable x (NewTeam t) = is_added (team_addition x.fixed.settings t)
is_addable x (NewAccount a) = is_valid_account x.fixed.settings a && is_added (account_addition x.fixed.settings x.fixed.accounts a)

-- the changes may be made one after another
abbrev pub are_addable : ContestState → List Entry → Bool
are_addable x [] = true
are_addable x (e ∷ es) = is_addable x e && are_addable (add x e) es
