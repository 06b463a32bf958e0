-- What a contest keeps of itself while rows are added to it (own).
use Rattle.std.specs.Prelude.{◌≡◌, ◌⊎◌, ◌<◌, ℕ, List, [], Some, length, map}
pub use Rattle.contest_types.specs.Growing.{IsFront}
use Rattle.contest_types.specs.Accounts.{account_named}
use Rattle.contest_types.specs.State.{ContestState, lasting}
use Rattle.contest_types.specs.declared.account.Account.{Account}
use Rattle.contest_types.specs.declared.account.Role.{Role}
use Rattle.contest_types.specs.declared.objects.Team.{Team}

-- a submission or a clarification stands
abbrev pub HasRows : ContestState → Type 0
HasRows x = (0 < length x.submissions) ⊎ (0 < length x.clarifications)

-- a team but for its name, which may be corrected
abbrev pub unnamed : Team → Team
unnamed t = record t { name = [] }

-- an account with this role is named so
pub record HasAccount (accounts : List Account) (id : List ℕ) (r : Role) : Type 0 where
  pub account : Account
  pub named : account_named accounts id ≡ Some account
  pub role : account.role ≡ r

-- the second has the rows of the first in front of its own, the head but for the duration and the freeze duration, which an
-- extension sets, the start of one that has rows, and its accounts with their roles
pub record Grows (x y : ContestState) : Type 0 where
  pub head : y.fixed.settings.head ≡ lasting x.fixed.settings.head y.fixed.settings.head.duration y.fixed.settings.head.freeze
  pub types : IsFront x.fixed.settings.types y.fixed.settings.types
  pub languages : IsFront x.fixed.settings.languages y.fixed.settings.languages
  pub problems : IsFront x.fixed.settings.problems y.fixed.settings.problems
  pub groups : IsFront x.fixed.settings.groups y.fixed.settings.groups
  pub teams : IsFront (map unnamed x.fixed.settings.teams) (map unnamed y.fixed.settings.teams)
  pub accounts : (id : List ℕ) (a : Account) → account_named x.fixed.accounts id ≡ Some a → HasAccount y.fixed.accounts id a.role
  pub start : HasRows x → y.fixed.marks.start ≡ x.fixed.marks.start
  pub submissions : IsFront x.submissions y.submissions
  pub proposals : IsFront x.proposals y.proposals
  pub releases : IsFront x.releases y.releases
  pub clarifications : IsFront x.clarifications y.clarifications
