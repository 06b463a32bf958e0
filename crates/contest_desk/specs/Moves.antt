-- What others add to two contests that are alike for an audience (own).
use Rattle.std.specs.Prelude.{◌≡◌, ◌⊎◌, true, false, List, [], ◌∷◌, length}
use Rattle.contest_types.specs.Addable.{are_addable}
use Rattle.contest_types.specs.Alike.{Alike, open_clarification}
use Rattle.contest_types.specs.Masks.{owns}
use Rattle.contest_types.specs.TeamPlaces.{is_public}
use Rattle.contest_types.specs.State.{ContestState, add, add_all}
use Rattle.contest_types.specs.Valid.{is_valid}
use Rattle.contest_types.specs.declared.entry.Entry.{Entry}
use Rattle.contest_types.specs.declared.entry.Entry.TheVariants.{NewClarification, NewRelease, NewSubmission, NewType, NewLanguage, NewProblem, NewGroup, NewTeam, NewAccount, SetStart, SetThaw, SetFinalized, SetDuration, SetTeamName, SetDigest}
use Rattle.contest_types.specs.declared.audience.Audience.{Audience}
use Rattle.contest_types.specs.declared.clarification.Clarification.{Clarification}
use Rattle.contest_types.specs.declared.objects.Team.{Team}
use Rattle.contest_types.specs.declared.submission.Release.{Release}
use Rattle.contest_types.specs.declared.submission.Submission.{Submission}
use Rattle.contest_desk.specs.Unseen.{IsUnseen}

-- submissions of one other team, which isn't hidden, that show the audience the same: whatever their files, entry
-- points and keys
pub record ShowTheSame (a : Audience) (x : ContestState) (s t : Submission) : Type 0 where
  pub other : owns a s.team ≡ false
  pub shown : is_public x.fixed.settings s.team ≡ true
  pub team : s.team ≡ t.team
  pub number : s.number ≡ t.number
  pub problem : s.problem ≡ t.problem
  pub language : s.language ≡ t.language
  pub time : s.time ≡ t.time

abbrev pub ShowsLike : Audience → ContestState → Submission → Entry → Type 0
ShowsLike a x s (NewSubmission t) = ShowTheSame a x s t
ShowsLike a x s _ = ⊥

-- the same release, on whatever submission
abbrev pub ReleasesLike : Release → Entry → Type 0
ReleasesLike v (NewRelease u) = v ≡ u
ReleasesLike v _ = ⊥

-- clarifications of one addressee that tell whoever hears them the same: whoever of the jury wrote them and under whatever
-- key, and whatever they answer that the audience doesn't hear
pub record TellTheSame (a : Audience) (x : ContestState) (c d : Clarification) : Type 0 where
  pub addressee : c.addressee ≡ d.addressee
  pub told : open_clarification a x.fixed.settings c ≡ open_clarification a x.fixed.settings d

abbrev pub TellsLike : Audience → ContestState → Clarification → Entry → Type 0
TellsLike a x c (NewClarification d) = TellTheSame a x c d
TellsLike a x c _ = ⊥

-- a new team that isn't the audience itself, or is in no group: else the audience would hear what its groups were told
-- before
abbrev pub TellsNothingOlder : Audience → ContestState → Team → Type 0
TellsNothingOlder a x t = (owns a (length x.fixed.settings.teams) ≡ false) ⊎ (t.groups ≡ [])

-- two entries that show an audience the same: of the settings, the accounts and the marks, which the promise takes as
-- equal, the same. Nothing else that is added is seen
abbrev pub AreSame : Audience → ContestState → Entry → Entry → Type 0
AreSame a x (NewSubmission s) f = ShowsLike a x s f
AreSame a x (NewRelease v) f = ReleasesLike v f
AreSame a x (NewClarification c) f = TellsLike a x c f
AreSame a x (NewType t) f = f ≡ NewType t
AreSame a x (NewLanguage l) f = f ≡ NewLanguage l
AreSame a x (NewProblem p) f = f ≡ NewProblem p
AreSame a x (NewGroup g) f = f ≡ NewGroup g
AreSame a x (NewTeam t) f = (f ≡ NewTeam t) × TellsNothingOlder a x t
AreSame a x (NewAccount account) f = f ≡ NewAccount account
AreSame a x (SetStart start) f = f ≡ SetStart start
AreSame a x (SetThaw thaw) f = f ≡ SetThaw thaw
AreSame a x (SetFinalized finalized) f = f ≡ SetFinalized finalized
AreSame a x (SetDuration duration freeze) f = f ≡ SetDuration duration freeze
AreSame a x (SetTeamName team name) f = f ≡ SetTeamName team name
AreSame a x (SetDigest id digest) f = f ≡ SetDigest id digest
AreSame a x _ f = ⊥

-- an entry that is added to the first of two contests, to the second, or one to each
pub data Move : Type 0 where
  InFirst : Entry → Move
  InSecond : Entry → Move
  InBoth : Entry → Entry → Move

-- what is added to the first
abbrev pub first_entries : List Move → List Entry
first_entries [] = []
first_entries (InFirst e ∷ moves) = e ∷ first_entries moves
first_entries (InSecond f ∷ moves) = first_entries moves
first_entries (InBoth e f ∷ moves) = e ∷ first_entries moves

-- and to the second
abbrev pub second_entries : List Move → List Entry
second_entries [] = []
second_entries (InFirst e ∷ moves) = second_entries moves
second_entries (InSecond f ∷ moves) = f ∷ second_entries moves
second_entries (InBoth e f ∷ moves) = f ∷ second_entries moves

-- what is added to one of them alone can't be noticed, and what is added to both shows the same
abbrev pub AreAlikeMoves : Audience → (x y : ContestState) → List Move → Type 0
AreAlikeMoves a x y [] = Unit {0}
AreAlikeMoves a x y (InFirst e ∷ moves) = IsUnseen a x e × AreAlikeMoves a (add x e) y moves
AreAlikeMoves a x y (InSecond f ∷ moves) = IsUnseen a y f × AreAlikeMoves a x (add y f) moves
AreAlikeMoves a x y (InBoth e f ∷ moves) = AreSame a x e f × AreAlikeMoves a (add x e) (add y f) moves

-- such moves leave alike contests alike
abbrev pub MovesStayAlike : Type 0
MovesStayAlike =
    (a : Audience) (x y : ContestState) (moves : List Move) → is_valid x ≡ true → is_valid y ≡ true → Alike a x y
    → are_addable x (first_entries moves) ≡ true → are_addable y (second_entries moves) ≡ true → AreAlikeMoves a x y moves
    → Alike a (add_all x (first_entries moves)) (add_all y (second_entries moves))
