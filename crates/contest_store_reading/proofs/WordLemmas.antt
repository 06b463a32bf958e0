-- The ids of groups in one text, as a first and others.
use Rattle.std.proofs.Common.{◌≡◌, ◌++◌, ℕ, List, [], ◌∷◌, sym, ap}
use Rattle.std.proofs.lemmas.List.{append-nil}
use Rattle.contest_types.specs.Setup.{Setup}
use Rattle.contest_types.specs.SettingsNames.{group_id_at}
use Rattle.contest_store_rows.specs.FixedRows.{joined_ids}
use Rattle.contest_store_reading.specs.Items.{spaced_ids}

-- the first, and each of the others after a space
pub joined_first : (s : Setup) (g : ℕ) (gs : List ℕ) → joined_ids s (g ∷ gs) ≡ group_id_at s g ++ spaced_ids s gs
joined_first s g [] = sym (append-nil (group_id_at s g))
joined_first s g (h ∷ hs) = ap (λ t. group_id_at s g ++ 32 ∷ t) (joined_first s h hs)
