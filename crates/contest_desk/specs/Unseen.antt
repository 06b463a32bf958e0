-- What may be added to a contest without an audience's notice before the thaw (own; the freeze is
-- that of the DOMjudge manual, "Scoreboard"). This is about the public and the teams: the jury sees
-- more than is compared.
use Rattle.std.specs.Prelude.{◌≡◌, ◌⊎◌, true, false, List, [], ◌∷◌}
use Rattle.contest_types.specs.Order.{Has}
use Rattle.contest_types.specs.Clock.{is_frozen}
use Rattle.contest_types.specs.TeamPlaces.{is_public}
use Rattle.contest_types.specs.Masks.{owns}
use Rattle.contest_types.specs.Sight.{hears}
use Rattle.contest_types.specs.State.{ContestState, add}
use Rattle.contest_types.specs.declared.entry.Entry.{Entry}
use Rattle.contest_types.specs.declared.entry.Entry.TheVariants.{NewSubmission, NewProposal, NewRelease, NewClarification, NewRejudging, SetMember, SetRejudging, SetStart, SetThaw, SetFinalized, SetDuration, SetTeamName, SetDigest, NewType, NewLanguage, NewProblem, NewGroup, NewTeam, NewAccount}
use Rattle.contest_types.specs.declared.audience.Audience.{Audience}
use Rattle.contest_types.specs.declared.submission.Submission.{Submission}
use Rattle.contest_types.specs.declared.submission.Release.{Release}
use Rattle.contest_types.specs.declared.clarification.Clarification.{Clarification}

-- the submission that a release is on is frozen
abbrev pub IsOnFrozen : ContestState → Release → Type 0
IsOnFrozen x v =
    (s : Submission) → Has x.submissions s → s.team ≡ v.team → s.number ≡ v.number → is_frozen x.fixed.settings x.fixed.marks s.time ≡ true

-- a submission of a hidden team that isn't the audience's own
pub record IsUnseenSubmission (a : Audience) (x : ContestState) (s : Submission) : Type 0 where
  pub other : owns a s.team ≡ false
  pub hidden : is_public x.fixed.settings s.team ≡ false

-- a verdict on another team's submission, where the team is hidden or the submission is frozen
pub record IsUnseenRelease (a : Audience) (x : ContestState) (v : Release) : Type 0 where
  pub other : owns a v.team ≡ false
  pub held : (is_public x.fixed.settings v.team ≡ false) ⊎ IsOnFrozen x v

-- a clarification that the audience doesn't hear
abbrev pub IsUnheard : Audience → ContestState → Clarification → Type 0
IsUnheard a x c = hears a x.fixed.settings c.addressee ≡ false

-- a change that an audience can't notice
abbrev pub IsUnseen : Audience → ContestState → Entry → Type 0
IsUnseen a x (NewSubmission s) = IsUnseenSubmission a x s
-- proposals are the jury's alone, for whatever submission
IsUnseen a x (NewProposal p) = Unit {0}
IsUnseen a x (NewRelease v) = IsUnseenRelease a x v
IsUnseen a x (NewClarification c) = IsUnheard a x c
-- so are rejudgings, until a verdict comes of them, which is a release
IsUnseen a x (NewRejudging r) = Unit {0}
IsUnseen a x (SetMember n place state) = Unit {0}
IsUnseen a x (SetRejudging n state) = Unit {0}
-- the marks of the clock, the settings and the accounts are what the promise takes as equal: a change of
-- these doesn't count as unseen
IsUnseen a x (SetStart start) = ⊥
IsUnseen a x (SetThaw thaw) = ⊥
IsUnseen a x (SetFinalized finalized) = ⊥
IsUnseen a x (SetDuration duration freeze) = ⊥
IsUnseen a x (SetTeamName team name) = ⊥
IsUnseen a x (SetDigest id digest) = ⊥
IsUnseen a x (NewType t) = ⊥
IsUnseen a x (NewLanguage l) = ⊥
IsUnseen a x (NewProblem p) = ⊥
IsUnseen a x (NewGroup g) = ⊥
IsUnseen a x (NewTeam t) = ⊥
IsUnseen a x (NewAccount account) = ⊥

-- one after another, each in the contest that those before it were added to
abbrev pub AreUnseen : Audience → ContestState → List Entry → Type 0
AreUnseen a x [] = Unit {0}
AreUnseen a x (e ∷ es) = IsUnseen a x e × AreUnseen a (add x e) es
