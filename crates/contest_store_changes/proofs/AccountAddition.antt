-- A new account is one more row of its table.
use Rattle.std.proofs.Common.{◌≡◌, ◌∙◌, Bool, true, false, cond, not, List, [], ◌∷◌, ◌++◌, map, filter, refl, ap, Ordering, Less, Equal, Greater, is_lt, is_eq, nat_cmp, IsPermutation}
use Rattle.std.specs.Prelude.{Err, if◌then◌else◌}
use Rattle.std.specs.Cmp.Lexicographic.{slice_cmp}
use Rattle.std.specs.List.{AllByRecursion}
use Rattle.std.specs.Ordering.{ordering_reverse}
use Rattle.std.specs.Str.{bytes_eq}
use Rattle.std.proofs.lemmas.Cmp.{nat_list_cmp_total}
use Rattle.std.proofs.lemmas.List.Sorted.{IsPermutation-cons, IsPermutation-map, IsPermutation-middle, IsPermutation-refl, IsPermutation-sym, IsPermutation-trans}
use Rattle.std.proofs.lemmas.Map.Text.{is_eq-slice_cmp}
use Rattle.sqlite_keyed.proofs.ListLemmas.{all_unmap, all_weaker, none_from_any}
use Rattle.contest_types.specs.Accounts.{comes_before, has_valid_role, same_account, with_account}
use Rattle.contest_types.specs.Addable.{is_addable, is_added}
use Rattle.contest_types.specs.Additions.{id_match_of, keyed_addition}
use Rattle.contest_types.specs.State.{ContestState, add}
use Rattle.contest_types.specs.ValidFixed.{is_valid_account}
use Rattle.contest_types.specs.declared.account.Account.{Account}
use Rattle.contest_types.specs.declared.entry.Entry.TheVariants.{NewAccount}
use Rattle.contest_types.specs.declared.id_list.IdMatch.{IdMatch}
use Rattle.contest_types.specs.declared.id_list.IdMatch.TheVariants.{New, Same, Other}
use Rattle.contest_types.specs.declared.refusal.Cause.{Cause}
use Rattle.contest_types.proofs.AdditionLemmas.{place_of_new}
use Rattle.contest_types.proofs.PlaceLemmas.{and_right, not_among}
use Rattle.contest_store_rows.specs.FixedRows.{account_row}
use Rattle.contest_store_tables.specs.declared.table_name.TableName.TheVariants.{Accounts}
use Rattle.contest_store_changes.specs.Laws.{AccountIsAdded}
use Rattle.contest_store_changes.proofs.AscendingAccounts.{account_ascends}
use Rattle.contest_store_changes.proofs.HeldRows.{account_given}
use Rattle.contest_store_changes.proofs.OneMoreRow.{same_tables}
use Rattle.contest_store_changes.proofs.RisingRows.{rises}

-- of an account that may be added no other has the id
is_new : (b : Bool) (found : IdMatch) (held full : Bool) (cause : Cause) → is_added (if b then keyed_addition found held full else Err cause) ≡ true → found ≡ New
is_new true New held full cause added = refl
is_new true Same held full cause added = absurd (cc added)
is_new true Other held full cause added = absurd (cc added)
is_new false found held full cause added = absurd (cc added)

has_new_id : (x : ContestState) (a : Account) → is_addable x (NewAccount a) ≡ true → AllByRecursion (λ (b : Account). bytes_eq b.id a.id ≡ false) x.fixed.accounts
has_new_id x a may =
    let accounts = x.fixed.accounts in
    let ids = λ (b : Account). b.id in
    let new = is_new (has_valid_role x.fixed.settings a.role) (id_match_of ids same_account accounts a) _ _ _ (and_right (is_valid_account x.fixed.settings a) _ may) in
    let none = not_among a.id 0 (map ids accounts) (place_of_new ids same_account accounts a new) in
    all_unmap (λ id. bytes_eq id a.id ≡ false) ids accounts (none_from_any (λ id. bytes_eq id a.id) (map ids accounts) none)

-- of two accounts with different ids one comes before the other
turned : (o : Ordering) → is_eq o ≡ false → is_lt (ordering_reverse o) ≡ not (is_lt o)
turned Less apart = refl
turned Equal apart = absurd (cc apart)
turned Greater apart = refl

one_side : (a b : Account) → bytes_eq b.id a.id ≡ false → comes_before a b ≡ not (comes_before b a)
one_side a b apart = ap is_lt (nat_list_cmp_total.antisymm a.id b.id) ∙ turned (slice_cmp nat_cmp b.id a.id) (is_eq-slice_cmp b.id a.id ∙ apart)

-- a list is those that pass a test and those that pass the opposite one
both_sides : {X : Type 0} (p q : X → Bool) (xs : List X) → AllByRecursion (λ x. q x ≡ not (p x)) xs → IsPermutation xs (filter p xs ++ filter q xs)
both_sides p q [] all = IsPermutation-refl []
both_sides {X} p q (x ∷ xs) all = go (p x) (q x) all.0 (both_sides p q xs all.1)
  where
    go : (b c : Bool) → c ≡ not b → IsPermutation xs (filter p xs ++ filter q xs) → IsPermutation (x ∷ xs) (cond b (x ∷ filter p xs) (filter p xs) ++ cond c (x ∷ filter q xs) (filter q xs))
    go true true other rest = absurd (cc other)
    go true false other rest = IsPermutation-cons x xs (filter p xs ++ filter q xs) rest
    go false true other rest = IsPermutation-trans _ _ _ (IsPermutation-cons x xs (filter p xs ++ filter q xs) rest) (IsPermutation-sym _ _ (IsPermutation-middle (filter p xs) x (filter q xs)))
    go false false other rest = absurd (cc other)

with_one_more : (accounts : List Account) (a : Account) → AllByRecursion (λ (b : Account). bytes_eq b.id a.id ≡ false) accounts → IsPermutation (a ∷ accounts) (with_account accounts a)
with_one_more accounts a apart =
    let low = filter (λ b. comes_before b a) accounts in
    let high = filter (λ b. comes_before a b) accounts in
    let sides = both_sides (λ b. comes_before b a) (λ b. comes_before a b) accounts (all_weaker (λ b. bytes_eq b.id a.id ≡ false) (λ b. comes_before a b ≡ not (comes_before b a)) (one_side a) accounts apart) in
    IsPermutation-trans (a ∷ accounts) (a ∷ (low ++ high)) (low ++ a ∷ high) (IsPermutation-cons a accounts (low ++ high) sides) (IsPermutation-sym (low ++ a ∷ high) (a ∷ (low ++ high)) (IsPermutation-middle low a high))

pub account_is_added : AccountIsAdded
account_is_added x a sound may =
    let row = account_row x.fixed.settings in
    let accounts = x.fixed.accounts in
    record {
      of_lists = refl;
      with_it = record {
        as_given = account_given x.fixed.settings a;
        among = IsPermutation-map row (a ∷ accounts) (with_account accounts a) (with_one_more accounts a (has_new_id x a may));
        rises = rises (add x (NewAccount a)) (account_ascends accounts a sound.by_id) Accounts;
      };
      others = same_tables _ _ refl refl refl refl refl refl refl refl refl refl refl refl;
    }
