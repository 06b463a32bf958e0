use Rattle.std.specs.Prelude.{◌≡◌, ◌++◌, [], map, take}
use Rattle.csv.specs.Records.{fields_of, partial_of}
use Rattle.contest_types.specs.ProblemPlaces.{label_at}
use Rattle.contest_text.proofs.csv_board.push_labels.Given as goal

abbrev pub invariant-loop-place : goal.invariant-loop-place
invariant-loop-place l = record {
  fields : fields_of l.fields ≡ fields_of l.fn.fields ++ map (label_at l.settings) (take l.place-index l.columns);
  whole : partial_of l.fields ≡ [];
}
