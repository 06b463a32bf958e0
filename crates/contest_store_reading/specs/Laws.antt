-- The fixed part of a contest and its rows, one to one. Each is the contract of a function of src/laws.rt.
use Rattle.std.specs.Prelude.{◌≡◌, ◌≤◌, ◌<◌, ◌^◌, ℕ, true, List, [], ◌∷◌, length, map, IfSome, Some}
use Rattle.std.specs.List.{AllByRecursion}
use Rattle.sqlite_value.specs.Order.{Row}
use Rattle.contest_types.specs.Accounts.{has_valid_role}
use Rattle.contest_types.specs.IdText.{IsId}
use Rattle.contest_types.specs.NameText.{name_from}
use Rattle.contest_types.specs.Setup.{Setup, IsValid}
use Rattle.contest_types.specs.State.{FixedPart}
use Rattle.contest_types.specs.declared.account.Account.{Account}
use Rattle.contest_types.specs.declared.limits.TheConstants.{LAST_MOMENT}
use Rattle.contest_types.specs.declared.marks.Marks.{Marks}
use Rattle.contest_types.specs.declared.objects.JudgementType.{JudgementType}
use Rattle.contest_types.specs.declared.objects.Language.{Language}
use Rattle.contest_types.specs.declared.objects.Problem.{Problem}
use Rattle.contest_types.specs.declared.objects.Group.{Group}
use Rattle.contest_types.specs.declared.objects.Team.{Team}
use Rattle.contest_store_rows.specs.FixedRows.{account_row, contest_row, desk_row, items_rows}
use Rattle.contest_store_rows.specs.declared.versions.Version.{Version}
use Rattle.contest_store_reading.specs.AccountRows.{accounts_in}
use Rattle.contest_store_reading.specs.FixedParts.{fixed_in}

-- an id and a name are of their kinds
pub record IsWritableItem (own_id own_name : List ℕ) : Type 0 where
  pub id : IsId own_id
  pub name : name_from own_name ≡ Some own_name

pub record IsWritableProblem (p : Problem) : Type 0 where
  pub id : IsId p.id
  pub name : name_from p.name ≡ Some p.name
  pub label : name_from p.label ≡ Some p.label
  pub ordinal : p.ordinal < 2 ^ 16

-- settings whose texts are of their kinds
pub record IsWritableSetup (s : Setup) : Type 0 where
  pub head : IsWritableItem s.head.id s.head.name
  pub types : AllByRecursion (λ (t : JudgementType). IsWritableItem t.id t.name) s.types
  pub languages : AllByRecursion (λ (l : Language). IsWritableItem l.id l.name) s.languages
  pub groups : AllByRecursion (λ (g : Group). IsWritableItem g.id g.name) s.groups
  pub problems : AllByRecursion IsWritableProblem s.problems
  pub teams : AllByRecursion (λ (t : Team). IsWritableItem t.id t.name) s.teams

-- an account whose texts are of their kinds, and whose team is there
pub record IsWritableAccount (s : Setup) (a : Account) : Type 0 where
  pub id : IsId a.id
  pub digest : length a.digest ≡ 32
  pub role : has_valid_role s a.role ≡ true

-- the marks are moments
pub record IsWritableMarks (m : Marks) : Type 0 where
  pub start : IfSome m.start (λ t. t ≤ LAST_MOMENT)
  pub thaw : IfSome m.thaw (λ t. t ≤ LAST_MOMENT)
  pub finalized : IfSome m.finalized (λ t. t ≤ LAST_MOMENT)

-- accounts are read of their own rows, and of no others
abbrev pub AccountsReadBack : Type 0
AccountsReadBack = (s : Setup) → IsValid s → (accounts : List Account) → AllByRecursion (IsWritableAccount s) accounts → accounts_in s (map (account_row s) accounts) ≡ Some accounts

abbrev pub AccountsWriteBack : Type 0
AccountsWriteBack = (s : Setup) (rows : List Row) (accounts : List Account) → accounts_in s rows ≡ Some accounts → rows ≡ map (account_row s) accounts

-- and so is the whole fixed part
pub record IsWritableFixed (f : FixedPart) : Type 0 where
  pub settings : IsWritableSetup f.settings
  pub accounts : AllByRecursion (IsWritableAccount f.settings) f.accounts
  pub marks : IsWritableMarks f.marks

abbrev pub FixedReadsBack : Type 0
FixedReadsBack = (version : Version) (f : FixedPart) → IsValid f.settings → IsWritableFixed f →
    fixed_in version (desk_row version ∷ []) (contest_row f ∷ []) (items_rows f.settings) (map (account_row f.settings) f.accounts) ≡ Some f

-- the rows of a fixed part
pub record AreRowsOf (version : Version) (f : FixedPart) (d c i a : List Row) : Type 0 where
  pub desk : d ≡ desk_row version ∷ []
  pub contest : c ≡ contest_row f ∷ []
  pub items : i ≡ items_rows f.settings
  pub accounts : a ≡ map (account_row f.settings) f.accounts

abbrev pub FixedWritesBack : Type 0
FixedWritesBack = (version : Version) (desk contest items accounts : List Row) (f : FixedPart) → fixed_in version desk contest items accounts ≡ Some f → AreRowsOf version f desk contest items accounts
