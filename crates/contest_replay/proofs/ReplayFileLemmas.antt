-- What a replay file comes to, where all of its records could be taken, and else.
use Rattle.std.proofs.Common.{ℕ, ◌≡◌, ◌∙◌, Bool, true, false, [], sym, refl, inl, inr, Option, Some, None, Result, Ok, Err}
use Rattle.std.specs.Prelude.{OnOk, IfOk, IfErr}
use Rattle.std.specs.Result.{result_and}
use Rattle.contest_types.specs.declared.refusal.Cause.{Cause}
use Rattle.contest_types.specs.declared.refusal.Refusal.{Refusal}
use Rattle.contest_types.specs.declared.refusal.Refusal.TheVariants.{Memory}
use Rattle.contest_files.specs.Refused.{Refuses}
use Rattle.contest_replay.specs.ReplayFile.{ended, result_from}
use Rattle.contest_replay.specs.ReplayLists.{ReplayLists}

-- what was read is what the records come to
pub read_if_taken : {U A : Type 0} (taken : Result U Refusal) (read : Result A Refusal) (ended : ℕ → Result A Refusal) (told : Result A Refusal)
    → OnOk taken ((n : ℕ) → ended n ≡ told) → ((n : ℕ) → IfOk read (λ r. ended n ≡ Ok r)) → IfOk (result_and taken read) (λ r. told ≡ Ok r)
read_if_taken (Ok u) (Ok r) ended told h k = sym (h 0) ∙ k 0
read_if_taken (Ok u) (Err e) ended told h k = tt
read_if_taken (Err e) read ended told h k = tt

-- memory is refused, or their refusal is told
pub refused_if_taken : {U A : Type 0} (taken : Result U Refusal) (read : Result A Refusal) (ended : ℕ → Result A Refusal) (told : Result A Refusal)
    → OnOk taken ((n : ℕ) → ended n ≡ told) → IfErr taken (λ e. e ≡ Memory) → ((n : ℕ) → IfErr read (λ e. ended n ≡ Err e)) → IfErr (result_and taken read) (λ e. Refuses e told)
refused_if_taken (Ok u) (Ok r) ended told h m k = tt
refused_if_taken (Ok u) (Err e) ended told h m k = inr (sym (h 0) ∙ k 0)
refused_if_taken (Err e) read ended told h m k = inl m

-- without further records it is what was read
pub ended_is : (so_far : Option ReplayLists) (fault : Option (ℕ × Cause)) (named : Bool) (n : ℕ) → result_from so_far fault named n [] ≡ ended named fault so_far
ended_is so_far fault false n = refl
ended_is so_far (Some f) true n = refl
ended_is None None true n = refl
ended_is (Some r) None true n = refl

pub ok_of : {A : Type 0} (found : Result A Refusal) → IfOk found (λ r. found ≡ Ok r)
ok_of (Ok r) = refl
ok_of (Err e) = tt

pub err_of : {A : Type 0} (found : Result A Refusal) → IfErr found (λ e. found ≡ Err e)
err_of (Ok r) = tt
err_of (Err e) = refl
