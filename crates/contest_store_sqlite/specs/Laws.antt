-- The laws of a store, from those of the trees below it.
use Rattle.std.proofs.Common.{◌≡◌, Bool, Option, Some, IsTrue, sym, ap, ◌∙◌, refl}
use Rattle.std.proofs.Math.Logic.{∥∥₁_map}
use Rattle.sqlite.specs.Tree.{Trees}
use Rattle.contest_types.specs.State.{ContestState}
use Rattle.contest_store.specs.Keeping.{LeavesOnly}
use Rattle.contest_store_sqlite.specs.Contests.{contest_in_trees}

-- what a crash may leave where these trees may be left
abbrev pub leaves_of : (Trees → Type 0) → Option ContestState → Type 0
leaves_of left c = (db : Trees) × left db × (contest_in_trees db ≡ c)

-- while it is open, the last commit alone
pub settled_at : (left : Trees → Type 0) (up : Bool) (committed : Trees) (x : ContestState) (clean : Type 0) → ((db : Trees) → IsTrue up → left db → db ≡ committed) → (IsTrue up → left committed)
    → clean × (IsTrue up → contest_in_trees committed ≡ Some x) → IsTrue up → LeavesOnly (leaves_of left) x
settled_at left up committed x clean only stays trusted is = (
  (committed, stays is, trusted.1 is),
  λ c found. sym found.2 ∙ ap contest_in_trees (only found.0 is found.1) ∙ trusted.1 is,
)

-- and always something
pub survives_at : (left : Trees → Type 0) → ∥ ((db : Trees) × left db) ∥₁ → ∥ ((c : Option ContestState) × leaves_of left c) ∥₁
survives_at left some = ∥∥₁_map some (λ found. (contest_in_trees found.0, (found.0, found.1, refl)))
