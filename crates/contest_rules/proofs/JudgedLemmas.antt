-- What is counted of the verdicts on a submission is what the rules ask.
use Rattle.std.proofs.Common.{◌≡◌, ℕ, Bool, true, false, cond, List, [], ◌∷◌, length, refl, arith}
use Rattle.std.specs.Prelude.{◌||◌, ◌&&◌, ◌==◌, nat_lt}
use Rattle.std.proofs.lemmas.Bool.Decides.{nat_tests}
use Rattle.contest_types.specs.State.{releases_on}
use Rattle.contest_types.specs.ValidRejudgings.{is_released}
use Rattle.contest_types.specs.declared.submission.Release.{Release}

some_more : (v : Release) (vs : List Release) → nat_lt 0 (length (v ∷ vs)) ≡ true
some_more v vs = grind (arith, nat_tests)

-- what has releases is released
pub counted_released : (team number : ℕ) (vs : List Release) → nat_lt 0 (length (releases_on team number vs)) ≡ is_released team number vs
counted_released team number [] = refl
counted_released team number (v ∷ vs) =
    let go : (b : Bool) → nat_lt 0 (length (cond b (v ∷ releases_on team number vs) (releases_on team number vs))) ≡ (b || is_released team number vs) = elim [
      | true ↦ some_more v (releases_on team number vs)
      | false ↦ counted_released team number vs
    ] in
    go ((v.team == team) && (v.number == number))
