-- What stays: a rejudging that is closed, a thaw that has come, an account's token without an administrator, and a board
-- without the verdicts that are held (own). Each law is the contract of a function of src/laws.rt.
use Rattle.std.specs.Prelude.{◌≡◌, ◌≢◌, ◌≤◌, ℕ, Bool, true, false, List, [], ◌∷◌, Option, Some}
use Rattle.std.specs.Option.{option_map_or}
use Rattle.contest_types.specs.Accounts.{account_named}
use Rattle.contest_types.specs.Clock.{is_thawed}
use Rattle.contest_types.specs.Masks.{owns}
use Rattle.contest_types.specs.Order.{Has}
use Rattle.contest_types.specs.State.{ContestState, add}
use Rattle.contest_types.specs.Valid.{is_valid}
use Rattle.contest_types.specs.ValidRejudgings.{is_open}
use Rattle.contest_types.specs.declared.account.Account.{Account}
use Rattle.contest_types.specs.declared.audience.Audience.{Audience}
use Rattle.contest_types.specs.declared.audience.Audience.TheVariants.{Jury}
use Rattle.contest_types.specs.declared.entry.Entry.TheVariants.{NewRelease}
use Rattle.contest_types.specs.declared.rejudging.Rejudging.{Rejudging}
use Rattle.contest_types.specs.declared.submission.Release.{Release}
use Rattle.contest_score.specs.Contest.{board_for}
use Rattle.contest_view.specs.Rejudgings.{named_rejudging}
use Rattle.contest_operations.specs.Callers.{caller_of, is_admin}
use Rattle.contest_desk.specs.AccountLaws.{replaces_token}
use Rattle.contest_desk.specs.Runs.{IsRun, IsServed}
use Rattle.contest_desk.specs.Unseen.{IsOnFrozen}
use Rattle.contest_desk.specs.declared.item.Answer.{Answer}
use Rattle.contest_desk.specs.declared.item.Item.{Item}
use Rattle.contest_desk.specs.declared.item.Item.TheVariants as item

-- a rejudging that is applied or cancelled stays so, with its reason and its members
abbrev pub ClosedRejudgingsStay : Type 0
ClosedRejudgingsStay =
    (x y : ContestState) (items : List Item) (answers : List Answer) → is_valid x ≡ true → IsRun x items answers y
    → (id : List ℕ) (number : ℕ) (r : Rejudging) → named_rejudging id x.rejudgings ≡ Some (number, r) → is_open r ≡ false → named_rejudging id y.rejudgings ≡ Some (number, r)

-- when an item is asked for or imported
abbrev pub moment_of : Item → ℕ
moment_of (item.Request i) = i.now
moment_of (item.Import i) = i.now

-- no moment falls behind one that was: a thaw that has come stays as it is
abbrev pub ComeThawStays : Type 0
ComeThawStays =
    (x y : ContestState) (items : List Item) (answers : List Answer) (thaw : ℕ) → is_valid x ≡ true → x.fixed.marks.thaw ≡ Some thaw → ((i : Item) → Has items i → thaw ≤ moment_of i)
    → IsRun x items answers y → y.fixed.marks.thaw ≡ Some thaw

-- an administrator asks
abbrev pub is_of_admin : ContestState → Item → Bool
is_of_admin x (item.Request i) = option_map_or is_admin (caller_of x.fixed i.credential) false
is_of_admin x (item.Import i) = false

-- an account's token is replaced by an administrator alone
abbrev pub OnlyAdminsReplaceTokens : Type 0
OnlyAdminsReplaceTokens = (x : ContestState) (i : Item) (id : List ℕ) → replaces_token x id i ≡ true → is_of_admin x i ≡ true

-- a run of which each item is so in the contest that it meets
abbrev pub IsRunOf : (So : ContestState → Item → Type 0) → ContestState → List Item → List Answer → ContestState → Type 0
IsRunOf So x [] [] y = y ≡ x
IsRunOf So x (item ∷ items) (answer ∷ answers) y = So x item × (mid : ContestState) × IsServed x item answer mid × IsRunOf So mid items answers y
IsRunOf So x [] (answer ∷ answers) y = ⊥
IsRunOf So x (item ∷ items) [] y = ⊥

-- while no administrator asks for anything an account stays, with its role, its team and its token
abbrev pub AccountsStayWithoutAdmins : Type 0
AccountsStayWithoutAdmins =
    (x y : ContestState) (items : List Item) (answers : List Answer) → is_valid x ≡ true → IsRunOf (λ z item. is_of_admin z item ≡ false) x items answers y
    → (id : List ℕ) (a : Account) → account_named x.fixed.accounts id ≡ Some a → account_named y.fixed.accounts id ≡ Some a

-- until the thaw a verdict on another team's submission, which is frozen, moves no board but the jury's and that team's own
abbrev pub HeldReleasesMoveNoBoard : Type 0
HeldReleasesMoveNoBoard =
    (a : Audience) (now : ℕ) (group : Option ℕ) (x : ContestState) (v : Release) → a ≢ Jury → owns a v.team ≡ false → is_thawed x.fixed.marks now ≡ false → IsOnFrozen x v
    → board_for a now group (add x (NewRelease v)) ≡ board_for a now group x
