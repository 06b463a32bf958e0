use Rattle.std.proofs.Common.{ℕ, ℤ, List, subst}
use Rattle.std.specs.Prelude.{IfNone}
use Rattle.contest_types.specs.RelTimeText.{IsRelTimeText}
use Rattle.contest_types.proofs.rel_time.RelTime.parse.Goals as goal

pub returns-clause-none : goal.returns-clause-none
returns-clause-none c =
    let P : List ℕ → Type 0 = λ xs. IfNone c.from_bytes.result ((time : ℤ) → IsRelTimeText xs time → ⊥) in
    subst P c.as_bytes.ensures.value c.from_bytes.ensures.none
