-- Accounts whose rows rise stand by their ids.
use Rattle.std.proofs.Common.{◌≡◌, ◌∙◌, ℕ, List, map, Ordering, Less, Equal, Greater, is_lt, nat_cmp, refl, sym, ap}
use Rattle.std.specs.Prelude.{IsTrue}
use Rattle.std.specs.Cmp.Lexicographic.{slice_cmp}
use Rattle.std.specs.Ordering.{ordering_then}
use Rattle.sqlite_keyed.proofs.ListLemmas.{ascending_from_map, ascending_weaker}
use Rattle.sqlite_trees.specs.Tree.{IsAscending}
use Rattle.sqlite_value.specs.Order.{Row, value_cmp}
use Rattle.sqlite_value.specs.declared.value.Value.TheVariants.{Text}
use Rattle.sqlite_value.proofs.OrderLemmas.{value_cmp-Text}
use Rattle.contest_types.specs.Accounts.{comes_before}
use Rattle.contest_types.specs.Setup.{Setup}
use Rattle.contest_types.specs.declared.account.Account.{Account}
use Rattle.contest_store_rows.specs.FixedRows.{account_row}
use Rattle.contest_store_tables.specs.Schema.{form_of}
use Rattle.contest_store_tables.specs.Steps.{Rises}
use Rattle.contest_store_tables.specs.Tables.{by_key}
use Rattle.contest_store_tables.specs.declared.table_name.TableName.TheVariants.{Accounts}

lower : (o : Ordering) → ordering_then o Equal ≡ Less → IsTrue (is_lt o)
lower Less is = refl
lower Equal is = absurd (cc is)
lower Greater is = absurd (cc is)

lower_text : (s t : List ℕ) → ordering_then (value_cmp (Text s) (Text t)) Equal ≡ Less → IsTrue (is_lt (slice_cmp nat_cmp s t))
lower_text s t is = lower (slice_cmp nat_cmp s t) (sym (ap (λ first. ordering_then first Equal) (value_cmp-Text s t)) ∙ is)

-- one comes below the other by the key of the table
abbrev BelowIn : Row → Row → Type 0
BelowIn a b = by_key (form_of Accounts) a b ≡ Less

account_before : (s : Setup) (a b : Account) → BelowIn (account_row s a) (account_row s b) → IsTrue (comes_before a b)
account_before s a b is = lower_text a.id b.id is

pub stand_by_id : (s : Setup) (accounts : List Account) → Rises Accounts (map (account_row s) accounts) → IsAscending (λ a b. IsTrue (comes_before a b)) accounts
stand_by_id s accounts up =
    ascending_weaker (λ a b. BelowIn (account_row s a) (account_row s b)) (λ a b. IsTrue (comes_before a b)) (account_before s) accounts (ascending_from_map BelowIn (account_row s) accounts up)
