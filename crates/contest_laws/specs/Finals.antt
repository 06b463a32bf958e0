-- Final results are final (own). The law is the contract of a function of src/laws.rt.
use Rattle.std.specs.Prelude.{◌≡◌, ℕ, true, List, Option, None}
use Rattle.contest_types.specs.Clock.{end_of}
use Rattle.contest_types.specs.State.{ContestState}
use Rattle.contest_types.specs.Valid.{is_valid}
use Rattle.contest_score.specs.Awards.{awards_of}
use Rattle.contest_score.specs.Contest.{board_for, solves_of}
use Rattle.contest_types.specs.declared.audience.Audience.TheVariants.{Jury}
use Rattle.contest_operations.specs.Step.{step}
use Rattle.contest_operations.specs.declared.command.Posted.TheVariants.{Final}
use Rattle.contest_desk.specs.Runs.{IsRun}
use Rattle.contest_desk.specs.declared.item.Answer.{Answer}
use Rattle.contest_desk.specs.declared.item.Item.{Item}
use Rattle.contest_desk.specs.declared.item.Item.TheVariants as item
use Rattle.contest_desk.specs.declared.item.RequestItem.{RequestItem}
use Rattle.contest_laws.specs.Verdicts.{Asks}

-- the results are made final by a request, which is answered as done
pub record IsFinal (x : ContestState) (i : RequestItem) : Type 0 where
  pub asked : Asks x (item.Request i) Final
  pub accepted : (step x i.now i.credential i.request).0.status ≡ 200

-- what teams did and what was released of it, and when the contest was, stay as they are; and so do the rows of the jury's
-- boards and the awards, unless settings were added or a name was corrected
pub record HasSameResults (x y : ContestState) : Type 0 where
  pub submissions : y.submissions ≡ x.submissions
  pub releases : y.releases ≡ x.releases
  pub clarifications : y.clarifications ≡ x.clarifications
  pub rejudgings : y.rejudgings ≡ x.rejudgings
  pub start : y.fixed.marks.start ≡ x.fixed.marks.start
  pub end : end_of y.fixed.settings y.fixed.marks ≡ end_of x.fixed.settings x.fixed.marks
  pub finalized : y.fixed.marks.finalized ≡ x.fixed.marks.finalized
  pub boards : y.fixed.settings ≡ x.fixed.settings → (now later : ℕ) (group : Option ℕ) → board_for Jury later group y ≡ board_for Jury now group x
  pub awards : y.fixed.settings ≡ x.fixed.settings → (now later : ℕ) → awards_of y.fixed.settings (board_for Jury later None y) (solves_of y) ≡ awards_of x.fixed.settings (board_for Jury now None x) (solves_of x)

-- once results were made final, whatever is asked and imported afterwards, they stay
abbrev pub FinalResultsStay : Type 0
FinalResultsStay =
    (x y : ContestState) (i : RequestItem) (items : List Item) (answers : List Answer) → is_valid x ≡ true → IsFinal x i → IsRun (step x i.now i.credential i.request).1 items answers y
    → HasSameResults (step x i.now i.credential i.request).1 y
