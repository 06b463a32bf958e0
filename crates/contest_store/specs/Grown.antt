-- A contest that one change made of another, as far as scoring reads it.
-- Words of private functions: nothing public is said with them.
use Rattle.std.specs.Prelude.{◌≡◌, Bool, true, false, ◌++◌}
use Rattle.contest_types.specs.State.{ContestState}
use Rattle.contest_types.specs.declared.entry.Entry.{Entry}
use Rattle.contest_types.specs.declared.entry.Entry.TheVariants.{NewProposal, NewClarification, NewRejudging, SetMember, SetRejudging, SetDigest, NewAccount}
use Rattle.contest_lists.specs.RowsAdded.{HasSameSettings, added_releases, added_submissions, is_setting_or_mark}

pub record IsGrown (e : Entry) (x y : ContestState) : Type 0 where
  pub submissions : y.submissions ≡ x.submissions ++ added_submissions e
  pub releases : y.releases ≡ x.releases ++ added_releases e
  pub settings : is_setting_or_mark e ≡ false → HasSameSettings x.fixed y.fixed

-- no change of its kind bears on a cell
abbrev pub scores_nothing : Entry → Bool
scores_nothing (NewProposal p) = true
scores_nothing (NewClarification c) = true
scores_nothing (NewRejudging r) = true
scores_nothing (SetMember n place state) = true
scores_nothing (SetRejudging n state) = true
scores_nothing (SetDigest id digest) = true
scores_nothing (NewAccount a) = true
scores_nothing e = false
