-- What holds of every file of verdicts, in the subject's words. Each is the contract of a function of src/laws.rt.
use Rattle.std.specs.Prelude.{◌≡◌, ℕ, true, List, [], Ok}
use Rattle.contest_types.specs.Addable.{are_addable}
use Rattle.contest_types.specs.State.{ContestState, add_all}
use Rattle.contest_types.specs.declared.entry.Entry.{Entry}
use Rattle.contest_import_verdicts.specs.VerdictFiles.{verdict_rows}

-- what a file adds may be added, one after the other
abbrev pub VerdictsAreAddable : Type 0
VerdictsAreAddable = (x : ContestState) (now : ℕ) (bytes : List ℕ) (rows : List Entry) → verdict_rows x now bytes ≡ Ok rows → are_addable x rows ≡ true

-- a file that was imported adds nothing when it is imported again, at whatever moment
abbrev pub VerdictsAddNothingAgain : Type 0
VerdictsAddNothingAgain =
    (x : ContestState) (now later : ℕ) (bytes : List ℕ) (rows : List Entry) → verdict_rows x now bytes ≡ Ok rows → verdict_rows (add_all x rows) later bytes ≡ Ok []
