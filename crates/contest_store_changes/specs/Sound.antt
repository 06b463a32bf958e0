-- The contests that tables keep: valid ones, whose texts and times are of their kinds, and whose accounts stand by
-- their ids.
use Rattle.std.specs.Prelude.{◌≡◌, IsTrue, true}
use Rattle.sqlite_trees.specs.Tree.{IsAscending}
use Rattle.contest_types.specs.Accounts.{comes_before}
use Rattle.contest_types.specs.State.{ContestState}
use Rattle.contest_types.specs.Valid.{is_valid}
use Rattle.contest_store_changes.specs.Kinds.{AreOfKinds}

pub record IsSound (x : ContestState) : Type 0 where
  pub valid : is_valid x ≡ true
  pub kinds : AreOfKinds x
  pub by_id : IsAscending (λ a b. IsTrue (comes_before a b)) x.fixed.accounts
