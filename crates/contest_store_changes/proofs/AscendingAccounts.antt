-- Accounts that rise by their ids, with one more or with another token of one.
use Rattle.std.proofs.Common.{◌≡◌, ℕ, Bool, true, false, List, [], ◌∷◌, filter, refl, ap, IsTrue, is_lt}
use Rattle.std.specs.Prelude.{if◌then◌else◌}
use Rattle.std.specs.List.{AllByRecursion}
use Rattle.std.proofs.lemmas.Cmp.{nat_list_cmp_total}
use Rattle.sqlite_keyed.proofs.ListLemmas.{all_weaker, ascending-append, ascending-filter, ascending-map, ascending_weaker}
use Rattle.sqlite_trees.specs.Tree.{IsAscending}
use Rattle.contest_types.specs.Accounts.{comes_before, with_account}
use Rattle.contest_types.specs.declared.account.Account.{Account}
use Rattle.contest_types.specs.State.{with_digest}
use Rattle.contest_types.proofs.AddChanges.{given, same_id}
use Rattle.contest_types.proofs.InOrderLemmas.{is_less}

-- what comes before another comes before what that comes before
before_next : (a b c : Account) → IsTrue (comes_before a b) → IsTrue (comes_before b c) → IsTrue (comes_before a c)
before_next a b c h k = ap is_lt (nat_list_cmp_total.trans a.id b.id c.id (is_less _ h) (is_less _ k))

-- what a filter leaves passes its test
all_passed : {X : Type 0} (p : X → Bool) (xs : List X) → AllByRecursion (λ x. IsTrue (p x)) (filter p xs)
all_passed p [] = tt
all_passed {X} p (x ∷ xs) =
    let go : (b : Bool) → p x ≡ b → AllByRecursion (λ y. IsTrue (p y)) (if b then x ∷ filter p xs else filter p xs) = elim [
      | true ↦ λ e. (e, all_passed p xs)
      | false ↦ λ e. all_passed p xs
    ] in
    go (p x) refl

-- the accounts before one, that one, and those after it rise
pub account_ascends : (accounts : List Account) (a : Account) → IsAscending (λ b c. IsTrue (comes_before b c)) accounts → IsAscending (λ b c. IsTrue (comes_before b c)) (with_account accounts a)
account_ascends accounts a up =
    let R : Account → Account → Type 0 = λ b c. IsTrue (comes_before b c) in
    let low = filter (λ b. comes_before b a) accounts in
    let high = filter (λ b. comes_before a b) accounts in
    let above : AllByRecursion (R a) high = all_passed (λ b. comes_before a b) accounts in
    let below : AllByRecursion (λ b. R b a) low = all_passed (λ b. comes_before b a) accounts in
    let across : AllByRecursion (λ b. AllByRecursion (R b) (a ∷ high)) low =
    all_weaker (λ b. R b a) (λ b. AllByRecursion (R b) (a ∷ high)) (λ b h. (h, all_weaker (R a) (R b) (λ c k. before_next b a c h k) high above)) low below in
    ascending-append R low (a ∷ high) (ascending-filter R (λ b. comes_before b a) accounts up) (above, ascending-filter R (λ b. comes_before a b) accounts up) across

-- an account stands where it stood when it gets another token
pub digest_ascends : (accounts : List Account) (id digest : List ℕ) → IsAscending (λ b c. IsTrue (comes_before b c)) accounts → IsAscending (λ b c. IsTrue (comes_before b c)) (with_digest accounts id digest)
digest_ascends accounts id digest up =
    let R : Account → Account → Type 0 = λ b c. IsTrue (comes_before b c) in
    ascending-map R (given id digest) accounts
    (ascending_weaker R (λ b c. R (given id digest b) (given id digest c)) (λ b c h. rw (same_id id digest b, same_id id digest c) h) accounts up)
