-- When two contests agree on all that an audience may learn before the thaw, and on their fixed parts,
-- which the promise takes as equal (own). Nothing else is compared: not proposals, rejudgings, files, entry points or keys of others, hidden teams'
-- submissions, releases on others' frozen submissions, clarifications of other teams, who wrote for
-- the jury, or the order of acceptance across teams.
use Rattle.std.specs.Prelude.{◌≡◌, ◌≢◌, ℕ, Bool, false, List, [], map, Option, None, if◌then◌else◌}
use Rattle.std.specs.Option.{option_and_then}
use Rattle.contest_types.specs.Setup.{Setup}
use Rattle.contest_types.specs.Clock.{is_frozen, is_thawed}
use Rattle.contest_types.specs.TeamPlaces.{is_public}
use Rattle.contest_types.specs.Masks.{owns}
use Rattle.contest_types.specs.State.{ContestState, submissions_of, clarifications_to}
use Rattle.contest_types.specs.Sight.{Judgement, judgements_on, hears, heard_reference}
use Rattle.contest_types.specs.declared.audience.Audience.{Audience}
use Rattle.contest_types.specs.declared.audience.Audience.TheVariants.{Jury}
use Rattle.contest_types.specs.declared.submission.Submission.{Submission}
use Rattle.contest_types.specs.declared.clarification.Clarification.{Clarification}
use Rattle.contest_types.specs.declared.clarification.Addressee.{Addressee}
use Rattle.contest_types.specs.declared.clarification.Reference.{Reference}

-- what a team knows of a submission of its own: all of it, and all that was released on it
pub record OwnRecord : Type 0 where
  pub submission : Submission
  pub judgements : List Judgement

abbrev pub own_record : ContestState → Submission → OwnRecord
own_record x s = record { submission = s; judgements = judgements_on x s }

-- what is open to all of a submission: no file, and what was released on it only where it isn't frozen
pub record OpenRecord : Type 0 where
  pub number : ℕ
  pub problem : ℕ
  pub language : ℕ
  pub time : ℕ
  pub judgements : List Judgement

abbrev pub open_record : ContestState → Submission → OpenRecord
open_record x s = record {
  number = s.number;
  problem = s.problem;
  language = s.language;
  time = s.time;
  judgements = if is_frozen x.fixed.settings x.fixed.marks s.time then [] else judgements_on x s;
}

-- what one who hears a clarification knows of it; its key only where a team wrote it
pub record OpenClarification : Type 0 where
  pub number : ℕ
  pub from_jury : Bool
  pub problem : Option ℕ
  pub reply : Option Reference
  pub text : List ℕ
  pub time : ℕ
  pub key : Option (List ℕ)

abbrev pub open_clarification : Audience → Setup → Clarification → OpenClarification
open_clarification a s c = record {
  number = c.number;
  from_jury = c.from_jury;
  problem = c.problem;
  reply = option_and_then (heard_reference a s) c.reply;
  text = c.text;
  time = c.time;
  key = if c.from_jury then None else c.key;
}

-- what an audience may learn of one team's submissions before the thaw: its own whole, those of
-- another team as far as they are open to all, of a hidden one nothing
pub data TeamSight : Type 0 where
  Whole : List OwnRecord → TeamSight
  Open : List OpenRecord → TeamSight
  Nothing : TeamSight

abbrev pub sight_of : Audience → ContestState → ℕ → TeamSight
sight_of a x team =
    if owns a team then Whole (map (own_record x) (submissions_of team x.submissions))
    else (if is_public x.fixed.settings team then Open (map (open_record x) (submissions_of team x.submissions)) else Nothing)

-- what it may learn of one addressee's clarifications
abbrev pub told_of : Audience → ContestState → Addressee → List OpenClarification
told_of a x addressee = if hears a x.fixed.settings addressee then map (open_clarification a x.fixed.settings) (clarifications_to addressee x.clarifications) else []

-- the two contests are alike for the audience. The public is an audience that owns no team
pub record Alike (a : Audience) (x y : ContestState) : Type 0 where
  -- the settings, the accounts and the marks
  pub fixed : x.fixed ≡ y.fixed
  pub teams : (team : ℕ) → sight_of a x team ≡ sight_of a y team
  pub told : (addressee : Addressee) → told_of a x addressee ≡ told_of a y addressee

-- the audience isn't the jury, and the contest isn't thawed: verdicts may be held back from it
pub record MayBeHeld (a : Audience) (now : ℕ) (x : ContestState) : Type 0 where
  pub no_jury : a ≢ Jury
  pub held : is_thawed x.fixed.marks now ≡ false
