-- Accounts by their ids (own).
use Rattle.std.specs.Prelude.{◌≡◌, ℕ, List, Bool, true, Option, Some, is_some, unwrap_or, if◌then◌else◌}
use Rattle.std.specs.Borrow.{Bor}
use Rattle.std.specs.HashMap.{HashMap, get}
use Rattle.std.specs.Option.{option_map}
use Rattle.std.specs.Str.{bytes_eq}
use Rattle.contest_types.specs.Accounts.{account_named}
use Rattle.contest_types.specs.declared.account.Account.{Account}
use Rattle.contest_types.specs.declared.account.Role.{Role}
use Rattle.contest_types.specs.declared.proposal.Proposer.{Proposer}
use Rattle.contest_types.specs.declared.proposal.Proposer.TheVariants as proposer

-- the role of the account with this id, if there is one
abbrev pub role_named : List Account → (id : List ℕ) → Option Role
role_named accounts id = option_map (λ (a : Account). a.role) (account_named accounts id)

-- who proposed is one of the accounts, or a file of verdicts
abbrev pub has_proposer : List Account → Proposer → Bool
has_proposer accounts (proposer.Account id) = is_some (account_named accounts id)
has_proposer accounts proposer.Import = true

-- the role that a map has for an id
abbrev pub role_in : {H : Type 0} → HashMap (Bor (List ℕ)) Role H → Bor (List ℕ) → Option Role
role_in roles id = get (λ i j. bytes_eq i.now j.now) roles id

-- a map has the role of each account by its id
abbrev pub AreRoles : {H : Type 0} → List Account → HashMap (Bor (List ℕ)) Role H → Type 0
AreRoles accounts roles = (id : Bor (List ℕ)) → role_in roles id ≡ role_named accounts id.now

-- the roles by id, with that of one more account; an account before it with the same id keeps its own
abbrev pub with_role : (List ℕ → Option Role) → Account → List ℕ → Option Role
with_role before a id = if bytes_eq a.id id then Some (unwrap_or (before a.id) a.role) else before id
