use Rattle.std.proofs.Common.{◌≡◌, None, rules}
use Rattle.contest_types.specs.IdText.{id_of}
use Rattle.contest_types.specs.NameText.{name_from}
use Rattle.contest_files.specs.FieldTexts.{span_of, span_or_empty}
use Rattle.contest_replay.proofs.RecordLemmas.{nothing_read}
use Rattle.contest_replay.proofs.replay.settings_row.head_in.Goals as goal

pub returns-in_default-time_span_or_empty-clause-value : goal.returns-in_default-time_span_or_empty-clause-value
returns-in_default-time_span_or_empty-clause-value c =
    let f = c.args.fields.now in
    let none : span_or_empty f.f3 ≡ None = search rules in
    rw none (nothing_read (id_of f.id) (name_from f.f1) (span_of f.f2))
