use Rattle.std.specs.Prelude.{◌≡◌, ◌++◌, [], map, take}
use Rattle.csv.specs.Records.{fields_of, partial_of}
use Rattle.contest_text.proofs.csv_record.push_fields.Given as goal

abbrev pub invariant-loop-text : goal.invariant-loop-text
invariant-loop-text l = record {
  fields : fields_of l.fields ≡ fields_of l.fn.fields ++ map (λ t. t.now) (take l.text-index l.texts);
  whole : partial_of l.fields ≡ [];
}
