-- Worked examples: each kind of change, one that may be made and one that may not.
use Rattle.std.proofs.Common.{◌≡◌, ℕ, ◌+◌, ◌-◌, List, [], ◌∷◌, map, refl, Some, None, true, false}
use Rattle.std.specs.Prelude.{codes, Ok, Err}
use Rattle.std.specs.List.{list_any, list_all, range_with_len}
use Rattle.contest_types.specs.PlainRows.{plain_group, plain_language, plain_problem, plain_team, plain_type}
use Rattle.contest_types.specs.State.{ContestState, new_contest, Entry, NewSubmission, NewProposal, NewRelease, NewClarification, NewRejudging, SetMember, SetRejudging, SetStart, SetThaw, SetFinalized, SetDuration, SetTeamName, SetDigest, NewType, NewLanguage, NewProblem, NewGroup, NewTeam, NewAccount}
use Rattle.contest_types.specs.Addable.{is_addable}
use Rattle.contest_types.specs.Judging.{next_release, last_proposal}
use Rattle.contest_types.specs.Valid.{is_valid}
use Rattle.contest_types.specs.VerdictAdditions.{verdict_addition}
use Rattle.contest_types.specs.declared.refusal.Cause.TheVariants.{UnknownReference, KeyReused, TableFull, AlreadyReleased}
use Rattle.contest_types.specs.declared.proposal.Proposal.{Proposal}
use Rattle.contest_types.specs.declared.account.Role.TheVariants as role
use Rattle.contest_types.specs.declared.proposal.Proposer.TheVariants as proposer
use Rattle.contest_types.specs.declared.rejudging.RejudgingState.TheVariants as state
use Rattle.contest_types.specs.declared.rejudging.MemberState.TheVariants as member
use Rattle.contest_types.proofs.ExampleContest.{minutes, hours, head, wrong, accepted, account_for, team_named, empty, submitted, released, proposed, asked, announced, rejudged}
use Rattle.contest_types.proofs.ExampleTalk.{base}

-- what judges, teams and directors add to the contest
abbrev may_be_added : List Entry
may_be_added =
    NewSubmission (submitted 0 2 (minutes 10) 1) ∷ NewProposal (proposed 1 2 wrong 5) ∷ NewProposal (record (proposed 1 2 wrong 5) { proposer = proposer.Import })
    ∷ NewRelease (released 0 1 2 accepted 9) ∷ NewRelease (released 1 2 1 wrong 9)
    ∷ NewClarification (asked 0 3 5) ∷ NewClarification (announced 2 5 None) ∷ NewRejudging (rejudged 0 1 wrong state.Open)
    ∷ SetMember 1 0 (member.Proposed accepted (codes "j2")) ∷ SetMember 1 0 (member.Ready wrong) ∷ SetRejudging 1 state.Applied
    ∷ SetThaw 9 ∷ SetFinalized 9
    ∷ SetDuration (hours 5 + minutes 20) (Some (hours 1 + minutes 20)) ∷ SetTeamName 0 (codes "Omega") ∷ SetDigest (codes "j1") (codes "other")
    ∷ NewType (plain_type (codes "RE") (codes "run error") false true)
    ∷ NewLanguage (plain_language (codes "py") (codes "Python"))
    ∷ NewProblem (plain_problem (codes "c") (codes "C") (codes "Cakes") 0)
    ∷ NewGroup (plain_group (codes "n") (codes "North"))
    ∷ NewTeam (team_named (codes "t4") (codes "Delta") false) ∷ NewAccount (account_for (codes "adm") role.Admin) ∷ []

all_may : list_all (is_addable base) may_be_added ≡ true
all_may = refl

-- and what they may not: a number or a round left out or held, a time before the team's last, what isn't
-- there, a reopened rejudging, a start once something stands, an end that thaws what is frozen or comes
-- earlier, a token that is held, an equal row, another one under an id or a label
abbrev may_not : List Entry
may_not =
    NewSubmission (submitted 0 3 (minutes 10) 1) ∷ NewSubmission (submitted 0 2 (minutes 9) 1) ∷ NewSubmission (submitted 0 2 (hours 5) 1)
    ∷ NewProposal (proposed 0 2 wrong 5) ∷ NewProposal (record (proposed 0 1 wrong 5) { proposer = proposer.Account (codes "j3") })
    ∷ NewRelease (released 0 1 1 accepted 9) ∷ NewRelease (released 0 2 1 accepted 9) ∷ NewRelease (released 0 1 2 3 9)
    ∷ NewClarification (asked 0 4 5) ∷ NewClarification (record (asked 0 3 5) { account = codes "a2" }) ∷ NewClarification (announced 1 5 None)
    ∷ NewRejudging (rejudged 1 2 wrong state.Open) ∷ SetMember 1 0 (member.Ready 3) ∷ SetMember 1 0 (member.Proposed wrong (codes "j3")) ∷ SetRejudging 1 state.Open
    ∷ SetStart None ∷ SetStart (Some 5)
    ∷ SetDuration (hours 5 + minutes 20) (Some (hours 1)) ∷ SetDuration (hours 4 + minutes 59) (Some (minutes 59)) ∷ SetDuration (hours 5) (Some (hours 6))
    ∷ SetTeamName 4 (codes "Omega") ∷ SetDigest (codes "j3") (codes "other") ∷ SetDigest (codes "j1") (codes "j1")
    ∷ NewType (plain_type (codes "AC") (codes "correct") true false)
    ∷ NewLanguage (plain_language (codes "cpp") (codes "C"))
    ∷ NewProblem (plain_problem (codes "c") (codes "A") (codes "Cakes") 0)
    ∷ NewTeam (record (plain_team (codes "t4") (codes "Delta")) { groups = 0 ∷ [] })
    ∷ NewAccount (account_for (codes "j1") role.Admin) ∷ NewAccount (account_for (codes "import") role.Judge) ∷ NewAccount (account_for (codes "a4") (role.Team 4)) ∷ []

none_may : list_any (is_addable base) may_not ≡ false
none_may = refl

-- a second group of the same id, a token that is held, and a second imported proposal
same_group_not : is_addable (record base { fixed = record base.fixed { settings = record base.fixed.settings { groups = plain_group (codes "n") (codes "North") ∷ [] } } }) (NewGroup (plain_group (codes "n") (codes "South"))) ≡ false
same_group_not = refl

token_held : is_addable base (NewAccount (record (account_for (codes "adm") role.Admin) { digest = codes "j1" })) ≡ false
token_held = refl

one_import : is_addable (record base { proposals = record (proposed 0 1 wrong 5) { proposer = proposer.Import } ∷ [] }) (NewProposal (record (proposed 0 1 accepted 5) { proposer = proposer.Import })) ≡ false
one_import = refl

-- with nothing submitted or asked the start may be set, moved and unset, and so late that the end is the last moment
starts : list_all (is_addable empty) (SetStart None ∷ SetStart (Some 5) ∷ SetStart (Some (253_370_764_799_999 - hours 5)) ∷ []) ≡ true
starts = refl

-- the freeze moves with the end where nothing is frozen
lasts : list_all (is_addable empty) (SetDuration (hours 5 + minutes 20) (Some (hours 1)) ∷ SetDuration (hours 5) None ∷ []) ≡ true
lasts = refl

no_start : list_any (is_addable empty) (SetStart (Some (253_370_764_799_999 - hours 5 + 1)) ∷ []) ≡ false
no_start = refl

-- a contest that is set up is valid, with a start or without
set_up : list_all is_valid (new_contest (record { head = head; start = None }) ∷ new_contest (record { head = head; start = Some 5 }) ∷ []) ≡ true
set_up = refl

-- the next release of a submission is its next round
second_round : next_release base (record { team = 0; number = 1 }) accepted 9 ≡ released 0 1 2 accepted 9
second_round = refl

first_round : next_release base (record { team = 1; number = 2 }) wrong 9 ≡ released 1 2 1 wrong 9
first_round = refl

-- of several proposals the last stands
stands_last : last_proposal (record base { proposals = proposed 0 1 wrong 5 ∷ proposed 1 2 wrong 6 ∷ proposed 0 1 accepted 7 ∷ [] }) (record { team = 0; number = 1 }) ≡ Some (proposed 0 1 accepted 7)
stands_last = refl

-- importing a verdict: a new one is added, also where a judge has proposed one; an equal one adds nothing,
-- and another one for the same submission is refused
abbrev imported : (team number verdict : ℕ) → Proposal
imported team number verdict = record (proposed team number verdict 5) { proposer = proposer.Import }

abbrev with_proposals : List Proposal → ContestState
with_proposals proposals = record base { proposals = proposals }

first_import : verdict_addition base (imported 1 2 wrong) ≡ Ok true
first_import = refl

beside_a_judge : verdict_addition (with_proposals (proposed 1 2 accepted 5 ∷ [])) (imported 1 2 wrong) ≡ Ok true
beside_a_judge = refl

equal_import : verdict_addition (with_proposals (imported 1 2 wrong ∷ [])) (record (imported 1 2 wrong) { time = 9 }) ≡ Ok false
equal_import = refl

other_import : verdict_addition (with_proposals (imported 1 2 wrong ∷ [])) (imported 1 2 accepted) ≡ Err KeyReused
other_import = refl

-- a submission or a type that isn't there, a submission that has a release
no_submission : verdict_addition base (imported 1 3 wrong) ≡ Err UnknownReference
no_submission = refl

no_type : verdict_addition base (imported 1 2 3) ≡ Err UnknownReference
no_type = refl

released_already : verdict_addition base (imported 0 1 wrong) ≡ Err AlreadyReleased
released_already = refl

-- once imported it stands, whatever was released since
released_since : verdict_addition (with_proposals (imported 0 1 accepted ∷ [])) (imported 0 1 accepted) ≡ Ok false
released_since = refl

-- no room is told before a release
abbrev judged_often : ℕ → ContestState
judged_often n = with_proposals (map (λ k. proposed 0 1 wrong k) (range_with_len 0 n))

no_room : verdict_addition (judged_often 1000) (imported 0 1 wrong) ≡ Err TableFull
no_room = refl

room_for_one : verdict_addition (judged_often 999) (imported 0 1 wrong) ≡ Err AlreadyReleased
room_for_one = refl
