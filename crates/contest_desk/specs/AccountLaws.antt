-- What becomes of an account that stands (own).
use Rattle.std.specs.Prelude.{◌≡◌, ℕ, Bool, true, false, List, Option, Some, None, Result, Ok, Err}
use Rattle.std.specs.Option.{option_map_or}
use Rattle.std.specs.Str.{bytes_eq}
use Rattle.contest_types.specs.Accounts.{account_named}
use Rattle.contest_types.specs.State.{ContestState}
use Rattle.contest_types.specs.Valid.{is_valid}
use Rattle.contest_types.specs.declared.account.Account.{Account}
use Rattle.contest_operations.specs.Growing.{HasAccount}
use Rattle.contest_operations.specs.Step.{wish_or_reply}
use Rattle.contest_operations.specs.declared.command.Posted.{Posted}
use Rattle.contest_operations.specs.declared.command.Posted.TheVariants.{Change as Changed}
use Rattle.contest_operations.specs.declared.reply.Reply.{Reply}
use Rattle.contest_operations.specs.declared.wish.Wish.{Wish}
use Rattle.contest_operations.specs.declared.wish.Wish.TheVariants.{Do, Read}
use Rattle.contest_postings.specs.declared.changes.WantedChange.TheVariants as wanted
use Rattle.contest_desk.specs.Items.{item_step}
use Rattle.contest_desk.specs.Runs.{IsRun}
use Rattle.contest_desk.specs.declared.item.Answer.{Answer}
use Rattle.contest_desk.specs.declared.item.Item.{Item}
use Rattle.contest_desk.specs.declared.item.Item.TheVariants as item

-- whatever is asked and imported, an account stays, with its role and its team
abbrev pub AccountsStay : Type 0
AccountsStay =
    (x : ContestState) (items : List Item) (answers : List Answer) (y : ContestState) → is_valid x ≡ true → IsRun x items answers y
    → (id : List ℕ) (a : Account) → account_named x.fixed.accounts id ≡ Some a → HasAccount y.fixed.accounts id a.role

-- the account whose token is to be replaced by what is posted, which only an administrator posts
abbrev pub token_posted : Posted → Option (List ℕ)
token_posted (Changed (wanted.Token t)) = Some t.id
token_posted _ = None

abbrev pub token_wished : Result Wish Reply → Option (List ℕ)
token_wished (Ok (Do posted)) = token_posted posted
token_wished (Ok (Read reading a named)) = None
token_wished (Err reply) = None

-- an administrator asks for another token of this account
abbrev pub replaces_token : ContestState → (id : List ℕ) → Item → Bool
replaces_token x id (item.Request i) = option_map_or (λ other. bytes_eq other id) (token_wished (wish_or_reply x.fixed i.credential i.request)) false
replaces_token x id (item.Import i) = false

-- any other request, and any import, leaves it as it is, its token too
abbrev pub OnlyTokensAreReplaced : Type 0
OnlyTokensAreReplaced =
    (x : ContestState) (i : Item) (id : List ℕ) (a : Account) → is_valid x ≡ true → account_named x.fixed.accounts id ≡ Some a
    → replaces_token x id i ≡ false → account_named (item_step x i).1.fixed.accounts id ≡ Some a
