-- Worked examples: contests that differ only in what an audience may not learn are alike for it.
use Rattle.std.proofs.Common.{◌≡◌, ◌+◌, [], ◌∷◌, refl, Some, None, true}
use Rattle.std.specs.Prelude.{codes}
use Rattle.std.specs.List.{list_all}
use Rattle.contest_types.specs.State.{ContestState}
use Rattle.contest_types.specs.Alike.{Alike}
use Rattle.contest_types.specs.Valid.{is_valid}
use Rattle.contest_types.specs.declared.audience.Audience.{Audience}
use Rattle.contest_types.specs.declared.audience.Audience.TheVariants as audience
use Rattle.contest_types.specs.declared.clarification.Addressee.TheVariants as addressee
use Rattle.contest_types.specs.declared.rejudging.RejudgingState.TheVariants as state
use Rattle.contest_types.proofs.AlikeLemmas.{alike_within}
use Rattle.contest_types.proofs.ExampleContest.{minutes, hours, accepted, wrong, released, proposed, rejudged, asked, answered, announced}
use Rattle.contest_types.proofs.ExampleTalk.{base, own_submission, other_submission, frozen_submission, hidden_submission, own_release, other_release, frozen_release}

-- the first team, which asks
abbrev pub me : Audience
me = audience.Team 1

abbrev with_proposal : ContestState
with_proposal = record base { proposals = proposed 1 2 wrong (hours 4 + minutes 6) ∷ proposed 3 1 accepted (hours 4) ∷ [] }

proposals_untold : Alike me base with_proposal
proposals_untold = alike_within me base with_proposal refl refl refl (refl, (refl, (refl, (refl, tt)))) refl tt (refl, (refl, (refl, (refl, tt))))

-- an own submission is proposed for too: the team learns nothing before the release
abbrev with_own_proposal : ContestState
with_own_proposal = record base { proposals = proposed 0 1 accepted (hours 4) ∷ [] }

own_proposals_untold : Alike me base with_own_proposal
own_proposals_untold = alike_within me base with_own_proposal refl refl refl (refl, (refl, (refl, (refl, tt)))) refl tt (refl, (refl, (refl, (refl, tt))))

-- a rejudging of an own submission is open, another was cancelled
abbrev with_rejudgings : ContestState
with_rejudgings = record base { rejudgings = rejudged 1 1 wrong state.Cancelled ∷ rejudged 0 1 accepted state.Open ∷ [] }

rejudgings_untold : Alike me base with_rejudgings
rejudgings_untold = alike_within me base with_rejudgings refl refl refl (refl, (refl, (refl, (refl, tt)))) refl tt (refl, (refl, (refl, (refl, tt))))

-- the other team's file, entry point and key
abbrev with_file : ContestState
with_file = record base { submissions = own_submission ∷ record other_submission { file = 80 ∷ 75 ∷ [] } ∷ frozen_submission ∷ hidden_submission ∷ [] }

files_untold : Alike me base with_file
files_untold = alike_within me base with_file refl refl refl (refl, (refl, (refl, (refl, tt)))) refl tt (refl, (refl, (refl, (refl, tt))))

abbrev with_entry_point : ContestState
with_entry_point = record base { submissions = own_submission ∷ record other_submission { entry_point = Some (codes "Main") } ∷ frozen_submission ∷ hidden_submission ∷ [] }

entry_points_untold : Alike me base with_entry_point
entry_points_untold = alike_within me base with_entry_point refl refl refl (refl, (refl, (refl, (refl, tt)))) refl tt (refl, (refl, (refl, (refl, tt))))

abbrev with_key : ContestState
with_key = record base { submissions = own_submission ∷ record other_submission { key = Some (codes "k1") } ∷ frozen_submission ∷ hidden_submission ∷ [] }

keys_untold : Alike me base with_key
keys_untold = alike_within me base with_key refl refl refl (refl, (refl, (refl, (refl, tt)))) refl tt (refl, (refl, (refl, (refl, tt))))

-- the hidden team has submitted nothing
abbrev without_hidden : ContestState
without_hidden = record base { submissions = own_submission ∷ other_submission ∷ frozen_submission ∷ [] }

hidden_untold : Alike me base without_hidden
hidden_untold = alike_within me base without_hidden refl refl refl (refl, (refl, (refl, (refl, tt)))) refl tt (refl, (refl, (refl, (refl, tt))))

-- the other team's frozen submission is judged
abbrev with_frozen_release : ContestState
with_frozen_release = record base { releases = own_release ∷ other_release ∷ frozen_release ∷ [] }

frozen_untold : Alike me base with_frozen_release
frozen_untold = alike_within me base with_frozen_release refl refl refl (refl, (refl, (refl, (refl, tt)))) refl tt (refl, (refl, (refl, (refl, tt))))

-- another team asks and is answered
abbrev with_other_talk : ContestState
with_other_talk = record base { clarifications = asked 1 1 (minutes 1) ∷ asked 0 1 (minutes 40) ∷ answered 0 2 (minutes 50) ∷ announced 1 (minutes 60) None ∷ answered 1 2 (minutes 70) ∷ [] }

other_talk_untold : Alike me base with_other_talk
other_talk_untold = alike_within me base with_other_talk refl refl refl (refl, (refl, (refl, (refl, tt)))) refl tt (refl, (refl, (refl, (refl, tt))))

-- what is told to all answers the other team's question
abbrev with_reply_to_other : ContestState
with_reply_to_other = record base { clarifications = asked 1 1 (minutes 1) ∷ asked 0 1 (minutes 40) ∷ answered 0 2 (minutes 50) ∷ announced 1 (minutes 60) (Some (record { addressee = addressee.Team 1; number = 1 })) ∷ [] }

reply_to_other_untold : Alike me base with_reply_to_other
reply_to_other_untold = alike_within me base with_reply_to_other refl refl refl (refl, (refl, (refl, (refl, tt)))) refl tt (refl, (refl, (refl, (refl, tt))))

-- the second judge wrote for the jury, with a key
abbrev with_other_writer : ContestState
with_other_writer = record base { clarifications = asked 0 1 (minutes 40) ∷ record (answered 0 2 (minutes 50)) { account = codes "j2"; key = Some (codes "k1") } ∷ record (announced 1 (minutes 60) None) { account = codes "j2" } ∷ [] }

writer_untold : Alike me base with_other_writer
writer_untold = alike_within me base with_other_writer refl refl refl (refl, (refl, (refl, (refl, tt)))) refl tt (refl, (refl, (refl, (refl, tt))))

-- different teams' rows were accepted in another order
abbrev in_other_order : ContestState
in_other_order = record base {
  submissions = hidden_submission ∷ other_submission ∷ frozen_submission ∷ own_submission ∷ [];
  releases = other_release ∷ own_release ∷ [];
  clarifications = announced 1 (minutes 60) None ∷ asked 0 1 (minutes 40) ∷ answered 0 2 (minutes 50) ∷ [];
}

order_untold : Alike me base in_other_order
order_untold = alike_within me base in_other_order refl refl refl (refl, (refl, (refl, (refl, tt)))) refl tt (refl, (refl, (refl, (refl, tt))))

-- to the public the first team's own talk with the jury is untold too
abbrev without_talk : ContestState
without_talk = record base { clarifications = announced 1 (minutes 60) None ∷ [] }

talk_untold : Alike audience.Public base without_talk
talk_untold = alike_within audience.Public base without_talk refl refl refl (refl, (refl, (refl, (refl, tt)))) refl tt (refl, (refl, (refl, (refl, tt))))

-- a verdict on the hidden team's submission is untold, to a team and to the public
abbrev with_hidden_release : ContestState
with_hidden_release = record base { releases = own_release ∷ other_release ∷ released 3 1 1 accepted (minutes 31) ∷ [] }

hidden_release_untold : Alike me base with_hidden_release
hidden_release_untold = alike_within me base with_hidden_release refl refl refl (refl, (refl, (refl, (refl, tt)))) refl tt (refl, (refl, (refl, (refl, tt))))

public_hidden_release_untold : Alike audience.Public base with_hidden_release
public_hidden_release_untold = alike_within audience.Public base with_hidden_release refl refl refl (refl, (refl, (refl, (refl, tt)))) refl tt (refl, (refl, (refl, (refl, tt))))

-- to the public every team's file and key are untold
public_files_untold : Alike audience.Public base with_file
public_files_untold = alike_within audience.Public base with_file refl refl refl (refl, (refl, (refl, (refl, tt)))) refl tt (refl, (refl, (refl, (refl, tt))))

public_keys_untold : Alike audience.Public base with_key
public_keys_untold = alike_within audience.Public base with_key refl refl refl (refl, (refl, (refl, (refl, tt)))) refl tt (refl, (refl, (refl, (refl, tt))))

-- the hidden team learns no more of others than any team
abbrev staff : Audience
staff = audience.Team 4

staff_files_untold : Alike staff base with_file
staff_files_untold = alike_within staff base with_file refl refl refl (refl, (refl, (refl, (refl, tt)))) refl tt (refl, (refl, (refl, (refl, tt))))

staff_frozen_untold : Alike staff base with_frozen_release
staff_frozen_untold = alike_within staff base with_frozen_release refl refl refl (refl, (refl, (refl, (refl, tt)))) refl tt (refl, (refl, (refl, (refl, tt))))

-- all of these contests are valid
all_valid : list_all is_valid (base ∷ with_proposal ∷ with_own_proposal ∷ with_rejudgings ∷ with_file ∷ with_entry_point ∷ with_key ∷ without_hidden ∷ with_frozen_release ∷ with_other_talk ∷ with_reply_to_other ∷ with_other_writer ∷ in_other_order ∷ without_talk ∷ with_hidden_release ∷ []) ≡ true
all_valid = refl
