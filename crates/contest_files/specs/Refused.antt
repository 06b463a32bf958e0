-- How a file or a body is refused.
use Rattle.std.specs.Prelude.{◌≡◌, ◌⊎◌, Option, IsNone, Result, Err}
use Rattle.contest_types.specs.declared.refusal.Refusal.{Refusal}
use Rattle.contest_types.specs.declared.refusal.Refusal.TheVariants.{Malformed, Memory}

-- memory is refused, or there is no such value
abbrev pub IsRefused : {A : Type 0} → Refusal → Option A → Type 0
IsRefused e o = (e ≡ Memory) ⊎ ((e ≡ Malformed) × IsNone o)

-- memory is refused, or this is the refusal
abbrev pub Refuses : {A : Type 0} → Refusal → Result A Refusal → Type 0
Refuses {A} e r = (e ≡ Memory) ⊎ (r ≡ Err e)
