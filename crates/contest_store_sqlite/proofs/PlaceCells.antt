-- The cells that a file is asked for with.
use Rattle.std.proofs.Common.{◌≡◌, ◌∙◌, ◌<◌, ◌+◌, ◌^◌, ◌+ℤ◌, ℕ, ℤ, pos, [], ◌∷◌, w64, to_z, of_z, sym, ap, ap₂, arith}
use Rattle.std.proofs.lemmas.Int.{of_z-to_z, to_z_pos}
use Rattle.sqlite_value.specs.declared.value.Value.TheVariants.{Int}
use Rattle.contest_store_rows.specs.Cells.{number}

-- the place of a team, counted from 1, below what a cell holds
next_place : (team : ℕ) → team + 1 < 2 ^ 63 → to_z w64 (of_z w64 (to_z w64 team +ℤ pos 1)) ≡ pos (team + 1)
next_place team low =
    let as_is : to_z w64 team ≡ pos team = to_z_pos w64 team (omega (arith, low)) in
    let next : to_z w64 (team + 1) ≡ pos (team + 1) = to_z_pos w64 (team + 1) low in
    ap (λ z. to_z w64 (of_z w64 (z +ℤ pos 1))) as_is ∙ ap (λ z. to_z w64 (of_z w64 z)) (sym next) ∙ ap (to_z w64) (of_z-to_z w64 (team + 1) (omega (arith, low))) ∙ next

pub place_cells : (team n : ℕ) → team < 9223372036854775807 → n < 9223372036854775808 →
    Int (to_z w64 (of_z w64 (to_z w64 team +ℤ pos 1))) ∷ Int (to_z w64 n) ∷ [] ≡ number (team + 1) ∷ number n ∷ []
place_cells team n low small =
    ap₂ (λ (a b : ℤ). Int a ∷ Int b ∷ []) (next_place team (omega (arith, low))) (to_z_pos w64 n (omega (arith, small)))
