-- Worked examples: the clock, and who sees what.
use Rattle.std.proofs.Common.{◌≡◌, ℕ, ◌+◌, ◌-◌, List, [], ◌∷◌, refl, Option, Some, None, true, false, map}
use Rattle.std.specs.Prelude.{codes}
use Rattle.std.specs.Fmt.{digits}
use Rattle.contest_types.specs.Clock.{end_of, freeze_of, is_frozen, is_freezing, is_finalized, phase_at}
use Rattle.contest_types.specs.State.{ContestState, Entry, NewProposal, NewRelease, NewRejudging, SetMember, SetRejudging, SetThaw, add, add_all}
use Rattle.contest_types.specs.Setup.{Setup}
use Rattle.contest_types.specs.Masks.{is_audience}
use Rattle.contest_types.specs.VisibleIds.{judgement_id, clarification_id}
use Rattle.contest_types.specs.Judging.{SeenJudgement, seen_judgements, Proposed, open_proposals}
use Rattle.contest_types.specs.Sight.{Program, SeenSubmission, SeenClarification, Judgement, seen_submissions, seen_clarifications, full_verdict, held_verdict, seen_verdict, sees_team, program_of}
use Rattle.contest_types.specs.declared.audience.Audience.{Audience}
use Rattle.contest_types.specs.declared.audience.Audience.TheVariants as audience
use Rattle.contest_types.specs.declared.audience.Phase.TheVariants as phase
use Rattle.contest_types.specs.declared.clarification.Addressee.TheVariants as addressee
use Rattle.contest_types.specs.declared.clarification.Reference.{Reference}
use Rattle.contest_types.specs.declared.submission.Submission.{Submission}
use Rattle.contest_types.specs.declared.rejudging.RejudgingState.TheVariants as state
use Rattle.contest_types.specs.declared.rejudging.MemberState.TheVariants as member
use Rattle.contest_types.proofs.ExampleContest.{minutes, hours, settings, started, empty, thawed_at, team_named, accepted, wrong, submitted, released, proposed, asked, announced, rejudged}

ends : end_of settings started ≡ Some (hours 5)
ends = refl

freezes : freeze_of settings started ≡ Some (hours 4)
freezes = refl

-- with no start there is no freeze moment
never_freezes : freeze_of settings (record started { start = None }) ≡ None
never_freezes = refl

-- a millisecond before the freeze, and exactly at it
not_yet_frozen : is_frozen settings started (hours 4 - 1) ≡ false
not_yet_frozen = refl

frozen : is_frozen settings started (hours 4) ≡ true
frozen = refl

freeze_lasts : is_freezing settings started (hours 6) ≡ true
freeze_lasts = refl

thaw_ends_it : is_freezing settings (record started { thaw = Some (hours 6) }) (hours 6) ≡ false
thaw_ends_it = refl

before_start : phase_at settings (record started { start = Some 10 }) 9 ≡ phase.Before
before_start = refl

unset_start : phase_at settings (record started { start = None }) (hours 9) ≡ phase.Before
unset_start = refl

at_start : phase_at settings started 0 ≡ phase.Running
at_start = refl

last_millisecond : phase_at settings started (hours 5 - 1) ≡ phase.Running
last_millisecond = refl

at_end : phase_at settings started (hours 5) ≡ phase.Ended
at_end = refl

finalized_now : is_finalized (record started { finalized = Some 7 }) 7 ≡ true
finalized_now = refl

-- the second team submits a just before the freeze and b exactly at it; both are accepted later
abbrev around_freeze : ContestState
around_freeze = record empty {
  submissions = submitted 1 1 (hours 4 - 1) 0 ∷ submitted 1 2 (hours 4) 1 ∷ [];
  releases = released 1 1 1 accepted (hours 4 + minutes 10) ∷ released 1 2 1 accepted (hours 4 + minutes 10) ∷ [];
}

abbrev verdicts_seen : Audience → ℕ → ContestState → List (Option Judgement)
verdicts_seen a now x = map (λ (s : SeenSubmission). s.judgement) (seen_submissions a now x)

abbrev its_acceptance : Option Judgement
its_acceptance = Some (record { round = 1; verdict = accepted; time = hours 4 + minutes 10 })

public_sees : verdicts_seen audience.Public (hours 4 + minutes 20) around_freeze ≡ its_acceptance ∷ None ∷ []
public_sees = refl

other_team_sees : verdicts_seen (audience.Team 1) (hours 4 + minutes 20) around_freeze ≡ its_acceptance ∷ None ∷ []
other_team_sees = refl

owner_sees : verdicts_seen (audience.Team 2) (hours 4 + minutes 20) around_freeze ≡ its_acceptance ∷ its_acceptance ∷ []
owner_sees = refl

jury_sees : verdicts_seen audience.Jury (hours 4 + minutes 20) around_freeze ≡ its_acceptance ∷ its_acceptance ∷ []
jury_sees = refl

thawed_public_sees : verdicts_seen audience.Public (hours 5) (thawed_at around_freeze (hours 5)) ≡ its_acceptance ∷ its_acceptance ∷ []
thawed_public_sees = refl

-- the last release counts
abbrev judged_twice : ContestState
judged_twice = record empty {
  submissions = submitted 0 1 (minutes 5) 0 ∷ [];
  releases = released 0 1 1 accepted (minutes 6) ∷ released 0 1 2 wrong (minutes 9) ∷ [];
}

last_counts : map (λ s. seen_verdict audience.Public 0 judged_twice s) judged_twice.submissions ≡ Some wrong ∷ []
last_counts = refl

-- the hidden team's submissions are seen by it and by the jury
hidden_from_public : sees_team audience.Public settings 3 ≡ false
hidden_from_public = refl

seen_by_itself : sees_team (audience.Team 4) settings 3 ≡ true
seen_by_itself = refl

hidden_submits : seen_submissions audience.Public 0 (record empty { submissions = submitted 3 1 0 0 ∷ [] }) ≡ []
hidden_submits = refl

-- whichever was accepted first, submissions stand by time, then by team id
abbrev order_of : List SeenSubmission → List ℕ
order_of = map (λ s. s.team)

in_time : order_of (seen_submissions audience.Jury 0 (record empty { submissions = submitted 2 1 (minutes 3) 0 ∷ submitted 1 1 (minutes 1) 0 ∷ submitted 0 1 (minutes 3) 0 ∷ [] })) ≡ 1 ∷ 0 ∷ 2 ∷ []
in_time = refl

-- the second team asks, and the jury answers it before all
abbrev talk : ContestState
talk = record empty {
  clarifications = asked 1 1 (minutes 5) ∷ announced 1 (minutes 9) (Some (record { addressee = addressee.Team 1; number = 1 })) ∷ [];
}

abbrev replies_heard : Audience → ContestState → List (Option Reference)
replies_heard a x = map (λ (c : SeenClarification). c.reply) (seen_clarifications a x)

asker_hears : replies_heard (audience.Team 2) talk ≡ None ∷ Some (record { addressee = addressee.Team 1; number = 1 }) ∷ []
unfolding digits
asker_hears = refl

-- another team hears the answer, and not which question it answers
other_hears : replies_heard (audience.Team 1) talk ≡ None ∷ []
unfolding digits
other_hears = refl

public_hears : replies_heard audience.Public talk ≡ None ∷ []
unfolding digits
public_hears = refl

-- of one moment, clarifications stand by the bytes of their ids: `c2-10` before `c2-2`
request_id : clarification_id (addressee.Team 1) 10 ≡ codes "c2-10"
unfolding digits
request_id = refl

general_id : clarification_id addressee.All 3 ≡ codes "g-3"
unfolding digits
general_id = refl

numbers_by_id : map (λ (c : SeenClarification). c.number) (seen_clarifications (audience.Team 2) (record empty { clarifications = asked 1 2 5 ∷ asked 1 10 5 ∷ announced 1 5 None ∷ [] })) ≡ 10 ∷ 2 ∷ 1 ∷ []
unfolding digits
numbers_by_id = refl

-- a file and where its program starts are shown to the team itself and the jury alone
abbrev with_program : ContestState
with_program = record empty { submissions = record (submitted 1 1 (minutes 5) 0) { file = 80 ∷ 75 ∷ []; entry_point = Some (codes "Main") } ∷ [] }

abbrev programs_seen : Audience → List (Option Program)
programs_seen a = map (λ (s : SeenSubmission). s.program) (seen_submissions a (hours 9) (thawed_at with_program (hours 5)))

abbrev its_program : Option Program
its_program = Some (record (program_of (submitted 1 1 (minutes 5) 0)) { file = 80 ∷ 75 ∷ []; entry_point = Some (codes "Main") })

shown_to_owner : programs_seen (audience.Team 2) ≡ its_program ∷ []
shown_to_owner = refl

shown_to_jury : programs_seen audience.Jury ≡ its_program ∷ []
shown_to_jury = refl

never_to_others : programs_seen (audience.Team 1) ≡ None ∷ []
never_to_others = refl

never_to_public : programs_seen audience.Public ≡ None ∷ []
never_to_public = refl

-- the jury hears what a team asks, and which question an answer answers
jury_hears : replies_heard audience.Jury talk ≡ None ∷ Some (record { addressee = addressee.Team 1; number = 1 }) ∷ []
unfolding digits
jury_hears = refl

-- results that are to be final later aren't yet
final_to_come : is_finalized (record started { finalized = Some 7 }) 6 ≡ false
final_to_come = refl

-- each mark stands for itself: results that are final thaw nothing, and a thaw finalizes nothing
final_not_thawed : is_freezing settings (record started { finalized = Some (hours 5) }) (hours 6) ≡ true
final_not_thawed = refl

final_shows_nothing : verdicts_seen audience.Public (hours 6) (record around_freeze { fixed = record around_freeze.fixed { marks = record started { finalized = Some (hours 5) } } }) ≡ its_acceptance ∷ None ∷ []
final_shows_nothing = refl

thawed_not_final : is_finalized (record started { thaw = Some (hours 5) }) (hours 6) ≡ false
thawed_not_final = refl

-- a team as an audience is one that is there
audiences : map (is_audience settings) (audience.Public ∷ audience.Jury ∷ audience.Team 1 ∷ audience.Team 4 ∷ []) ≡ true ∷ true ∷ true ∷ true ∷ []
audiences = refl

no_audiences : map (is_audience settings) (audience.Team 0 ∷ audience.Team 5 ∷ []) ≡ false ∷ false ∷ []
no_audiences = refl

-- without a freeze duration nothing is ever frozen; a freeze of no length begins at the end
abbrev with_freeze : Option ℕ → Setup
with_freeze freeze = record settings { head = record settings.head { freeze = freeze } }

no_freeze : is_frozen (with_freeze None) started (hours 9) ≡ false
no_freeze = refl

empty_freeze : freeze_of (with_freeze (Some 0)) started ≡ Some (hours 5)
empty_freeze = refl

last_not_frozen : is_frozen (with_freeze (Some 0)) started (hours 5 - 1) ≡ false
last_not_frozen = refl

-- of one moment submissions stand by the team's id, not by its place
abbrev other_ids : Setup
other_ids = record settings { teams = team_named (codes "zebra") (codes "Alpha") false ∷ team_named (codes "ant") (codes "Beta") false ∷ [] }

by_team_id : order_of (seen_submissions audience.Public 0 (record empty { fixed = record empty.fixed { settings = other_ids }; submissions = submitted 0 1 (minutes 3) 0 ∷ submitted 1 1 (minutes 3) 0 ∷ [] })) ≡ 1 ∷ 0 ∷ []
by_team_id = refl

-- of a submission's verdicts the last is judged, and the judgements stand in the order of the submissions
abbrev judgements_seen : Audience → ℕ → ContestState → List (ℕ × ℕ)
judgements_seen a now x = map (λ (v : SeenJudgement). (v.submission.number, v.judgement.verdict)) (seen_judgements a now x)

last_judged : judgements_seen audience.Public 0 judged_twice ≡ (1, wrong) ∷ []
last_judged = refl

judged_before_freeze : judgements_seen audience.Public (hours 4 + minutes 20) around_freeze ≡ (1, accepted) ∷ []
judged_before_freeze = refl

jury_judges : judgements_seen audience.Jury (hours 4 + minutes 20) around_freeze ≡ (1, accepted) ∷ (2, accepted) ∷ []
jury_judges = refl

judgement_ids : judgement_id 1 12 3 ≡ codes "s2-12.3"
unfolding digits
judgement_ids = refl

-- what is proposed and not released waits for the jury, the last proposal of each submission
abbrev proposed_twice : ContestState
proposed_twice = record around_freeze { releases = released 1 1 1 accepted 9 ∷ []; proposals = proposed 1 1 wrong 5 ∷ proposed 1 2 wrong 5 ∷ proposed 1 2 accepted 6 ∷ [] }

one_waits : map (λ (p : Proposed). p.proposal) (open_proposals 0 proposed_twice) ≡ proposed 1 2 accepted 6 ∷ []
one_waits = refl

-- a thaw only adds: before it one verdict is seen, from it on both
shortly_before_thaw : verdicts_seen audience.Public (hours 5 - 1) (thawed_at around_freeze (hours 5)) ≡ its_acceptance ∷ None ∷ []
shortly_before_thaw = refl

-- adding alone would let a thaw that has come be put off, and hide again what it showed: that is for the
-- command on the clock to refuse
thaw_put_off : verdicts_seen audience.Public (hours 5) (add (thawed_at around_freeze (hours 5)) (SetThaw (hours 6))) ≡ its_acceptance ∷ None ∷ []
thaw_put_off = refl

-- the verdict that is seen is one of two
abbrev verdicts_by : (Submission → Option ℕ) → List (Option ℕ)
verdicts_by verdict = map verdict around_freeze.submissions

released_last : verdicts_by (full_verdict around_freeze) ≡ Some accepted ∷ Some accepted ∷ []
released_last = refl

held_back : verdicts_by (held_verdict around_freeze) ≡ Some accepted ∷ None ∷ []
held_back = refl

held_from_public : verdicts_by (seen_verdict audience.Public (hours 5) around_freeze) ≡ verdicts_by (held_verdict around_freeze)
held_from_public = refl

full_for_jury : verdicts_by (seen_verdict audience.Jury (hours 5) around_freeze) ≡ verdicts_by (full_verdict around_freeze)
full_for_jury = refl

-- another verdict is proposed, and the submission rejudged: the jury too sees the old one until a release
abbrev rejudging : List Entry
rejudging =
    NewProposal (proposed 0 1 accepted (minutes 10)) ∷ NewRejudging (rejudged 0 1 accepted state.Open) ∷ SetMember 1 0 (member.Ready accepted) ∷ SetRejudging 1 state.Applied
    ∷ []

shown_as_before : verdicts_seen audience.Jury (minutes 20) (add_all judged_twice rejudging) ≡ verdicts_seen audience.Jury (minutes 20) judged_twice
shown_as_before = refl

shown_by_release : verdicts_seen audience.Public (minutes 20) (add (add_all judged_twice rejudging) (NewRelease (released 0 1 3 accepted (minutes 11)))) ≡ Some (record { round = 3; verdict = accepted; time = minutes 11 }) ∷ []
shown_by_release = refl
