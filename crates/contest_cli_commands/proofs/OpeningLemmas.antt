-- A store that was opened is settled.
use Rattle.std.proofs.Common.{◌≡◌, ◌∙◌, ap, sym, true, Result, subst}
use Rattle.std.specs.Prelude.{IfErr}
use Rattle.std.specs.Result.{IsErrAnd}
use Rattle.contest_cli_commands.proofs.PrintLemmas.{told_err}
use Rattle.contest_types.specs.Valid.{is_valid}
use Rattle.contest_store.specs.Keeping.{Kept}
use Rattle.contest_store_sqlite.specs.Opening.{ShowsValid}

pub is_settled : (kept : Kept) → ShowsValid kept → (kept.contest ≡ kept.committed) × (is_valid kept.contest ≡ true)
is_settled kept s = (s.shows.now_is ∙ sym s.shows.kept_is, ap is_valid s.shows.now_is ∙ s.valid)

-- what holds of an error holds where it is handed on
pub same_err : {T E : Type 0} (r : Result T E) (P : E → Type 0) (given : E) → IsErrAnd r (λ e. e ≡ given) → P given → IfErr r P
same_err r P given is holds = told_err r (λ e. e ≡ given) P is (λ e same. subst P (sym same) holds)
