-- Worked examples: what an audience can't notice, and what it does.
use Rattle.std.proofs.Common.{◌+◌, List, [], ◌∷◌, length, None, true, false, refl, inl, inr}
use Rattle.std.specs.Prelude.{◌&&◌, ◌==◌, codes}
use Rattle.contest_types.specs.State.{ContestState, add, add_all}
use Rattle.contest_types.specs.Alike.{Alike}
use Rattle.contest_types.specs.declared.entry.Entry.{Entry}
use Rattle.contest_types.specs.declared.entry.Entry.TheVariants.{NewSubmission, NewProposal, NewRelease, NewClarification}
use Rattle.contest_types.specs.declared.audience.Audience.{Audience}
use Rattle.contest_types.specs.declared.audience.Audience.TheVariants as audience
use Rattle.contest_types.specs.declared.clarification.Addressee.TheVariants as addressee
use Rattle.contest_types.specs.declared.clarification.Clarification.{Clarification}
use Rattle.contest_types.specs.declared.objects.Team.{Team}
use Rattle.contest_types.specs.declared.submission.Release.{Release}
use Rattle.contest_types.proofs.AlikeLemmas.{some_own, some_open, unlike_talk, unlike_teams}
use Rattle.contest_types.proofs.ExampleContest.{minutes, hours, accepted, wrong, submitted, released, proposed, asked, announced, team_named}
use Rattle.contest_types.proofs.ExampleTalk.{base, frozen_release}
use Rattle.contest_desk.specs.Unseen.{IsUnseen, AreUnseen}
use Rattle.contest_desk.proofs.UnseenLemmas.{frozen_where, unseen_entry, unseen_entries}

-- the first team
abbrev me : Audience
me = audience.Team 1

-- the verdict on the second team's submission in the freeze: to the first team and to the public it
-- doesn't show
frozen_unseen : IsUnseen me base (NewRelease frozen_release)
frozen_unseen = record { other = refl; held = inr (frozen_where base frozen_release refl) }

frozen_unseen_by_public : IsUnseen audience.Public base (NewRelease frozen_release)
frozen_unseen_by_public = record { other = refl; held = inr (frozen_where base frozen_release refl) }

-- the second team itself sees it
frozen_seen_by_own : IsUnseen (audience.Team 2) base (NewRelease frozen_release) → ⊥
frozen_seen_by_own h = unlike_teams (audience.Team 2) (add base (NewRelease frozen_release)) base 1 (some_own (λ r. (r.submission.number == 2) && (length r.judgements == 1))) refl refl (unseen_entry (audience.Team 2) base (NewRelease frozen_release) h)

-- another verdict in the freeze, on its submission from before: all see it
abbrev second_release : Release
second_release = released 1 1 2 wrong (hours 4 + minutes 20)

early_alters : Alike audience.Public (add base (NewRelease second_release)) base → ⊥
early_alters = unlike_teams audience.Public (add base (NewRelease second_release)) base 1 (some_open (λ r. length r.judgements == 2)) refl refl

early_seen : IsUnseen audience.Public base (NewRelease second_release) → ⊥
early_seen h = early_alters (unseen_entry audience.Public base (NewRelease second_release) h)

-- things that the first team can't notice, one after another: the second team's frozen submission is
-- judged, the hidden team submits and is judged, the second team asks, and a verdict is proposed on the
-- first team's own submission
abbrev unnoticed : List Entry
unnoticed =
    NewRelease frozen_release ∷ NewSubmission (submitted 3 2 (minutes 50) 1) ∷ NewRelease (released 3 2 1 accepted (minutes 51))
    ∷ NewClarification (asked 1 1 (minutes 52)) ∷ NewProposal (proposed 0 1 accepted (hours 4)) ∷ []

are_unnoticed : AreUnseen me base unnoticed
are_unnoticed = (frozen_unseen, (record { other = refl; hidden = refl }, (record { other = refl; held = inl refl }, (refl, (tt, tt)))))

all_alike : Alike me (add_all base unnoticed) base
all_alike = unseen_entries me base unnoticed are_unnoticed

-- where the first team is in a group, the others and the public can't notice what the group is told
abbrev northern : Team
northern = record (team_named (codes "t1") (codes "Alpha") false) { groups = 0 ∷ [] }

abbrev grouped : ContestState
grouped = record base {
  fixed = record base.fixed {
    settings = record base.fixed.settings {
      groups = record { id = codes "north"; name = codes "North" } ∷ [];
      teams = northern ∷ team_named (codes "t2") (codes "Beta") false ∷ team_named (codes "t3") (codes "Gamma") false ∷ team_named (codes "t9") (codes "Staff") true ∷ [];
    };
  };
}

abbrev told_group : Clarification
told_group = record (announced 1 (minutes 60) None) { addressee = addressee.Group 0 }

group_unseen : IsUnseen (audience.Team 2) grouped (NewClarification told_group)
group_unseen = refl

group_unseen_by_public : IsUnseen audience.Public grouped (NewClarification told_group)
group_unseen_by_public = refl

-- the team does
group_told : Alike me (add grouped (NewClarification told_group)) grouped → ⊥
group_told = unlike_talk me (add grouped (NewClarification told_group)) grouped (addressee.Group 0) (λ c. c.number == 1) refl refl

group_seen : IsUnseen me grouped (NewClarification told_group) → ⊥
group_seen h = group_told (unseen_entry me grouped (NewClarification told_group) h)
