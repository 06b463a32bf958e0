-- Problems by their places in a list of them, from 0.
use Rattle.std.specs.Prelude.{ℕ, List, [], ◌∷◌, length, slice_get}
use Rattle.std.specs.List.{range_with_len}
use Rattle.std.specs.Option.{option_map_or}
use Rattle.std.specs.declared.cmp.Ordering.{Ordering}
use Rattle.contest_types.specs.Order.{by_number, by_text, by_each, in_order}
use Rattle.contest_types.specs.Setup.{Setup}
use Rattle.contest_types.specs.declared.objects.Problem.{Problem}

abbrev pub problem_id_at : List Problem → ℕ → List ℕ
problem_id_at ps place = option_map_or (λ (p : Problem). p.id) (slice_get ps place) []

abbrev pub label_at : Setup → ℕ → List ℕ
label_at s place = option_map_or (λ (p : Problem). p.label) (slice_get s.problems place) []

abbrev pub ordinal_at : List Problem → ℕ → ℕ
ordinal_at ps p = option_map_or (λ (q : Problem). q.ordinal) (slice_get ps p) 0

-- by ordinal, then id
abbrev pub problem_cmp : List Problem → ℕ → ℕ → Ordering
problem_cmp ps = by_each (by_number (ordinal_at ps) ∷ by_text (problem_id_at ps) ∷ [])

-- the problems in the order in which they are listed, and in which a board's cells stand
abbrev pub problem_order : Setup → List ℕ
problem_order s = in_order (problem_cmp s.problems) (range_with_len 0 (length s.problems))
