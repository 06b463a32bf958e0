-- A contest in which nothing stands, and what may be the first of it.
use Rattle.std.specs.Prelude.{◌≡◌, [], true}
use Rattle.contest_types.specs.Addable.{is_addable}
use Rattle.contest_types.specs.State.{FixedPart}
use Rattle.contest_types.specs.declared.entry.Entry.{Entry}
use Rattle.contest_lists.specs.Lists.{with_submissions}

-- no settings but the head, and no accounts
pub record IsBare (f : FixedPart) : Type 0 where
  pub types : f.settings.types ≡ []
  pub languages : f.settings.languages ≡ []
  pub problems : f.settings.problems ≡ []
  pub groups : f.settings.groups ≡ []
  pub teams : f.settings.teams ≡ []
  pub accounts : f.accounts ≡ []

abbrev pub MayBeFirst : Entry → Type 0
MayBeFirst e = (f : FixedPart) → IsBare f → is_addable (with_submissions f []) e ≡ true
