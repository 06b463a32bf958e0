-- A contest in which nothing stands yet is as valid as its clock and its accounts.
use Rattle.std.proofs.Common.{◌≡◌, Bool, true, false, ◌&&◌, List, [], length, map, nat_le, refl, ◌<◌, ◌≤◌, arith}
use Rattle.std.proofs.lemmas.Bool.Decides.{nat_tests}
use Rattle.std.proofs.lemmas.Bool.{false≢true}
use Rattle.std.specs.List.{list_all}
use Rattle.contest_types.specs.Places.{are_different}
use Rattle.contest_types.specs.Setup.{IsValid}
use Rattle.contest_types.specs.State.{FixedPart}
use Rattle.contest_types.specs.Valid.{is_valid}
use Rattle.contest_types.specs.ValidFixed.{has_valid_settings, has_valid_clock, has_valid_accounts, is_valid_account}
use Rattle.contest_types.specs.declared.limits.TheConstants.{ACCOUNTS}
use Rattle.contest_types.specs.declared.account.Account.{Account}
use Rattle.contest_types.proofs.SettingsTest.{has_settings}
use Rattle.contest_lists.specs.Lists.{with_submissions}
use Rattle.contest_lists.proofs.AccountLemmas.{told_apart}

two_left : (settings clock accounts : Bool) → settings ≡ true → (settings && clock && accounts && true && true && true && true && true) ≡ (clock && accounts)
two_left true true true h = refl
two_left true true false h = refl
two_left true false accounts h = refl
two_left false clock accounts h = absurd (false≢true h)

pub valid_while_bare : (f : FixedPart) → IsValid f.settings → is_valid (with_submissions f []) ≡ (has_valid_clock (with_submissions f []) && has_valid_accounts (with_submissions f []))
valid_while_bare f v =
    let x = with_submissions f [] in
    two_left (has_valid_settings x) (has_valid_clock x) (has_valid_accounts x) (has_settings x v)

last_false : (all ids digests few : Bool) → few ≡ false → (all && ids && digests && few) ≡ false
last_false true true true few h = h
last_false true true false few h = refl
last_false true false digests few h = refl
last_false false ids digests few h = refl

last_true : (all ids digests few : Bool) → few ≡ true → (all && ids && digests && few) ≡ (all && (ids && digests))
last_true true true true few h = h
last_true true true false few h = refl
last_true true false digests few h = refl
last_true false ids digests few h = refl

-- no more is asked of too many accounts
pub too_many : (f : FixedPart) → ACCOUNTS < length f.accounts → has_valid_accounts (with_submissions f []) ≡ false
too_many f h =
    last_false (list_all (is_valid_account f.settings) f.accounts) (are_different (map (λ (a : Account). a.id) f.accounts))
    (are_different (map (λ (a : Account). a.digest) f.accounts)) (nat_le (length f.accounts) ACCOUNTS) (grind (arith, nat_tests, h))

not_too_many : (f : FixedPart) → length f.accounts ≤ ACCOUNTS → has_valid_accounts (with_submissions f []) ≡ (list_all (is_valid_account f.settings) f.accounts && told_apart f.accounts)
not_too_many f h =
    last_true (list_all (is_valid_account f.settings) f.accounts) (are_different (map (λ (a : Account). a.id) f.accounts))
    (are_different (map (λ (a : Account). a.digest) f.accounts)) (nat_le (length f.accounts) ACCOUNTS) (grind (arith, nat_tests, h))

-- where each account is valid, what is left is that they are told apart
pub all_valid : (f : FixedPart) (accounts : List Account) (apart : Bool) → accounts ≡ f.accounts → length accounts ≤ ACCOUNTS → list_all (is_valid_account f.settings) accounts ≡ true → apart ≡ told_apart accounts → apart ≡ has_valid_accounts (with_submissions f [])
all_valid f accounts apart same few valid tells =
    let whole : has_valid_accounts (with_submissions f []) ≡ (list_all (is_valid_account f.settings) f.accounts && told_apart f.accounts) = not_too_many f (rw (← same) few) in
    rw (whole, ← same, valid) tells
