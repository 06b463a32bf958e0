-- Rows that are added in another order (own).
use Rattle.std.specs.Prelude.{◌≡◌, ◌⊎◌, ℕ, true, List, [], ◌∷◌}
use Rattle.contest_types.specs.Accounts.{with_account}
use Rattle.contest_types.specs.Addable.{are_addable}
use Rattle.contest_types.specs.State.{ContestState, releases_on, with_digest}
use Rattle.contest_types.specs.declared.account.Account.{Account}
use Rattle.contest_types.specs.declared.entry.Entry.{Entry}
use Rattle.contest_types.specs.declared.entry.Entry.TheVariants.{NewAccount, NewRelease, SetDigest}
use Rattle.contest_types.specs.declared.submission.Release.{Release}

-- the releases that are added
abbrev pub releases_in : List Entry → List Release
releases_in [] = []
releases_in (NewRelease v ∷ es) = v ∷ releases_in es
releases_in (_ ∷ es) = releases_in es

-- the accounts, which stand by id, after these changes
abbrev pub accounts_after : List Account → List Entry → List Account
accounts_after accounts [] = accounts
accounts_after accounts (NewAccount a ∷ es) = accounts_after (with_account accounts a) es
accounts_after accounts (SetDigest id digest ∷ es) = accounts_after (with_digest accounts id digest) es
accounts_after accounts (_ ∷ es) = accounts_after accounts es

-- all else that is added
abbrev pub others_in : List Entry → List Entry
others_in [] = []
others_in (NewRelease v ∷ es) = others_in es
others_in (NewAccount a ∷ es) = others_in es
others_in (SetDigest id digest ∷ es) = others_in es
others_in (e ∷ es) = e ∷ others_in es

-- on each submission the same releases come in the same order, the same accounts stand afterwards, and all else is the same
pub record IsReordered (x : ContestState) (es fs : List Entry) : Type 0 where
  pub releases : (team number : ℕ) → releases_on team number (releases_in es) ≡ releases_on team number (releases_in fs)
  pub accounts : accounts_after x.fixed.accounts es ≡ accounts_after x.fixed.accounts fs
  pub others : others_in es ≡ others_in fs

-- these are added, or in another order in which they may be added too
abbrev pub AreAddedAs : ContestState → (es fs : List Entry) → Type 0
AreAddedAs x es fs = (es ≡ fs) ⊎ (IsReordered x es fs × (are_addable x fs ≡ true))
