use Rattle.std.specs.Prelude.{◌≡◌, ◌++◌, take, string_bytes}
use Rattle.std.specs.List.{flat_map}
use Rattle.contest_text.specs.BoardText.{right_field}
use Rattle.contest_types.specs.ProblemPlaces.{label_at}
use Rattle.contest_text.proofs.board.push_labels.Given as goal

abbrev pub invariant-loop-place : goal.invariant-loop-place
invariant-loop-place l = string_bytes l.out ≡ string_bytes l.fn.out ++ flat_map (λ p. right_field 9 (label_at l.settings p)) (take l.place-index l.columns)
