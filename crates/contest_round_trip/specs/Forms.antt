-- What the values of a contest keep to, whichever contest it is: each is of a type of its own.
use Rattle.std.specs.Prelude.{◌≡◌, ◌<◌, ◌≤◌, ◌^◌, ℕ, true, List, IfSome, All}
use Rattle.std.specs.Str.{IsUtf8}
use Rattle.contest_types.specs.IdText.{IsId}
use Rattle.contest_types.specs.MomentText.{latest}
use Rattle.contest_types.specs.NameText.{is_name}
use Rattle.contest_types.specs.Setup.{Setup}
use Rattle.contest_types.specs.State.{ContestState}
use Rattle.contest_types.specs.declared.clarification.Clarification.{Clarification}
use Rattle.contest_types.specs.declared.clarification.Reference.{Reference}
use Rattle.contest_types.specs.declared.marks.Marks.{Marks}
use Rattle.contest_types.specs.declared.objects.Group.{Group}
use Rattle.contest_types.specs.declared.objects.JudgementType.{JudgementType}
use Rattle.contest_types.specs.declared.objects.Language.{Language}
use Rattle.contest_types.specs.declared.objects.Problem.{Problem}
use Rattle.contest_types.specs.declared.objects.Team.{Team}
use Rattle.contest_types.specs.declared.submission.Release.{Release}
use Rattle.contest_types.specs.declared.submission.Submission.{Submission}

-- a name, in UTF-8
pub record IsName (text : List ℕ) : Type 0 where
  pub name : is_name text ≡ true
  pub utf8 : IsUtf8 text

-- an id and a name
pub record IsCalled (id name : List ℕ) : Type 0 where
  pub has_id : IsId id
  pub has_name : IsName name

-- a label too, and an ordinal of 16 bits
pub record IsProblem (p : Problem) : Type 0 where
  pub called : IsCalled p.id p.name
  pub label : IsName p.label
  pub ordinal : p.ordinal ≤ 65_535

pub record HasNames (s : Setup) : Type 0 where
  pub contest : IsCalled s.head.id s.head.name
  pub types : All (λ (t : JudgementType). IsCalled t.id t.name) s.types
  pub languages : All (λ (l : Language). IsCalled l.id l.name) s.languages
  pub problems : All IsProblem s.problems
  pub groups : All (λ (g : Group). IsCalled g.id g.name) s.groups
  pub teams : All (λ (t : Team). IsCalled t.id t.name) s.teams

-- a moment of the clock
abbrev pub IsMoment : ℕ → Type 0
IsMoment m = m ≤ latest

pub record HasMoments (m : Marks) : Type 0 where
  pub start : IfSome m.start IsMoment
  pub thaw : IfSome m.thaw IsMoment
  pub finalized : IfSome m.finalized IsMoment

-- a round of 64 bits, at a moment
pub record IsRelease (v : Release) : Type 0 where
  pub round : v.round < 2 ^ 64
  pub time : IsMoment v.time

-- numbers of 64 bits, a text in UTF-8, at a moment
pub record IsTold (c : Clarification) : Type 0 where
  pub number : c.number < 2 ^ 64
  pub reply : IfSome c.reply (λ (r : Reference). r.number < 2 ^ 64)
  pub text : IsUtf8 c.text
  pub time : IsMoment c.time

-- all values of a contest
pub record HasForms (x : ContestState) : Type 0 where
  pub settings : HasNames x.fixed.settings
  pub marks : HasMoments x.fixed.marks
  pub entry_points : All (λ (s : Submission). IfSome s.entry_point IsUtf8) x.submissions
  pub releases : All IsRelease x.releases
  pub clarifications : All IsTold x.clarifications
