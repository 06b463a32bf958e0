-- What is known while a file of verdicts is read. Words of private functions: nothing public is said with them.
use Rattle.std.specs.Prelude.{◌≡◌, ℕ, true, List, None}
use Rattle.std.specs.HashMap.{HashMap}
use Rattle.contest_types.specs.State.{ContestState, of_proposal}
use Rattle.contest_types.specs.Valid.{is_valid}
use Rattle.contest_types.specs.VerdictAdditions.{first_addition, imported_for}
use Rattle.contest_types.specs.declared.proposal.Proposal.{Proposal}
use Rattle.contest_lists.specs.Lists.{loaded}
use Rattle.contest_rules.specs.declared.proposing.NewVerdict.{NewVerdict}
use Rattle.contest_import_verdicts.specs.ImportedVerdicts.{AreImported}
use Rattle.contest_import_verdicts.specs.VerdictFiles.{with_verdicts}

-- the first verdict that is imported for a submission is decided by one contest as by another
abbrev pub DecidesFirst : (x y : ContestState) → Type 0
DecidesFirst x y = (p : Proposal) → imported_for y (of_proposal p) ≡ None → first_addition y p ≡ first_addition x p

-- the lists are those of a valid contest, the imported verdicts are kept, and the contest without the verdicts so far decides the first of a submission
pub record SoFar {H : Type 0} (x lists : ContestState) (imported : HashMap (ℕ × ℕ) ℕ H) (so_far : List NewVerdict) : Type 0 where
  pub valid : is_valid x ≡ true
  pub lists_are : lists ≡ loaded x
  pub imported_are : AreImported imported (with_verdicts x so_far).proposals
  pub first : DecidesFirst x (with_verdicts x so_far)
