-- What holds of every import, in the subject's words. Each is the contract of a function of src/laws.rt.
use Rattle.std.specs.Prelude.{◌≡◌, ℕ, true, List, Ok}
use Rattle.contest_types.specs.State.{ContestState}
use Rattle.contest_types.specs.Valid.{is_valid}
use Rattle.contest_types.specs.declared.import_kind.ImportKind.{ImportKind}
use Rattle.contest_desk.specs.Imports.{import_step}
use Rattle.contest_desk.specs.Items.{HasStoreError}

-- no import answers that the store failed or that memory was refused
abbrev pub ImportsNeverFail : Type 0
ImportsNeverFail = (x : ContestState) (now : ℕ) (kind : ImportKind) (file : List ℕ) → HasStoreError (import_step x now kind file).0 → ⊥

-- an import leaves a valid contest valid
abbrev pub ImportsKeepValid : Type 0
ImportsKeepValid = (x : ContestState) (now : ℕ) (kind : ImportKind) (file : List ℕ) → is_valid x ≡ true → is_valid (import_step x now kind file).1 ≡ true

-- a file that was imported adds nothing when it is imported again, at whatever moment: not even settings that are closed
-- since refuse it
abbrev pub ImportedAgainAddsNothing : Type 0
ImportedAgainAddsNothing =
    (x : ContestState) (now later : ℕ) (kind : ImportKind) (file : List ℕ) (added : ℕ) → (import_step x now kind file).0 ≡ Ok added
    → import_step (import_step x now kind file).1 later kind file ≡ (Ok 0, (import_step x now kind file).1)
