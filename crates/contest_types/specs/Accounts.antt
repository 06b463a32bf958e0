-- The accounts of a contest. They stand by id, and rows name them by it (own).
use Rattle.std.specs.Prelude.{ℕ, Bool, true, false, ◌&&◌, ◌==◌, nat_lt, nat_le, List, ◌∷◌, ◌++◌, length, map, filter, find, Option, Result, Err, if◌then◌else◌}
use Rattle.std.specs.Ordering.{nat_cmp, is_lt}
use Rattle.std.specs.Cmp.Lexicographic.{slice_cmp}
use Rattle.std.specs.Str.{bytes_eq}
use Rattle.contest_types.specs.Places.{is_among}
use Rattle.contest_types.specs.Setup.{Setup}
use Rattle.contest_types.specs.Additions.{id_match_of, keyed_addition}
use Rattle.contest_types.specs.declared.limits.TheConstants.{ACCOUNTS}
use Rattle.contest_types.specs.declared.account.Account.{Account}
use Rattle.contest_types.specs.declared.account.Role.{Role}
use Rattle.contest_types.specs.declared.account.Role.TheVariants as role
use Rattle.contest_types.specs.declared.refusal.Cause.{Cause}
use Rattle.contest_types.specs.declared.refusal.Cause.TheVariants.{UnknownReference}

-- by the bytes of the ids
abbrev pub comes_before : Account → Account → Bool
comes_before a b = is_lt (slice_cmp nat_cmp a.id b.id)

-- the accounts with one more, at the place that its id has
abbrev pub with_account : List Account → Account → List Account
with_account accounts a = filter (λ b. comes_before b a) accounts ++ a ∷ filter (λ b. comes_before a b) accounts

-- the account with this id, if there is one
abbrev pub account_named : List Account → (id : List ℕ) → Option Account
account_named accounts id = find (λ (a : Account). bytes_eq a.id id) accounts

-- an account for a team names one that is there
abbrev pub has_valid_role : Setup → Role → Bool
has_valid_role s (role.Team team) = nat_lt team (length s.teams)
has_valid_role s role.Judge = true
has_valid_role s role.Admin = true
has_valid_role s role.Analyst = true

abbrev pub same_role : Role → Role → Bool
same_role (role.Team t) (role.Team u) = t == u
same_role role.Judge role.Judge = true
same_role role.Admin role.Admin = true
same_role role.Analyst role.Analyst = true
same_role _ _ = false

abbrev pub same_account : Account → Account → Bool
same_account a b = bytes_eq a.id b.id && same_role a.role b.role && bytes_eq a.digest b.digest

-- what adding an account comes to: its team is there, and its token is its own
abbrev pub account_addition : Setup → List Account → Account → Result Bool Cause
account_addition s accounts a =
    if has_valid_role s a.role then
    keyed_addition (id_match_of (λ (b : Account). b.id) same_account accounts a) (is_among (map (λ (b : Account). b.digest) accounts) a.digest) (nat_le ACCOUNTS (length accounts))
    else Err UnknownReference
