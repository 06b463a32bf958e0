use Rattle.std.proofs.Common.{◌≡◌, ◌∙◌, true, false, inl, sym}
use Rattle.csv.specs.Records.{fields_of}
use Rattle.contest_files.proofs.Steps.{stays, gives_more, gives_end, fails}
use Rattle.contest_files.proofs.csv_records.CsvRecords.next.Goals.{in-Ok, in-Err}
use Rattle.contest_files.proofs.csv_records.CsvRecords.next.Goals as goal

pub invariant_of-self : goal.invariant_of-self
invariant_of-self c =
    let e = c.read_byte_record.ensures in
    let a = c.self.inside.reader in
    let b = c.read_byte_record.new.self in
    elim c.match-read_byte_record.branch [
      | in-Ok w ↦
          let o = w.in-Ok.ensures in
          stays a b w.in-Ok.found (fields_of c.read_byte_record.new.row) c.self.invariant o.goes o.flexible o.ready o.reads
      | in-Err w ↦
          let o = w.in-Err.ensures in
          inl (o.fails ∙ fails a b w.in-Err.error.kind c.self.invariant (λ bad. absurd (cc (o.failed bad, w.in-Err.is))) o.why)
    ]

pub returns-clause-more : goal.returns-clause-more
returns-clause-more c t =
    let a = c.self.inside.reader in
    let b = c.read_byte_record.new.self in
    elim c.match-read_byte_record.branch [
      | in-Ok w ↦
          let o = w.in-Ok.ensures in
          let found : w.in-Ok.found ≡ true = cc (t, w.result-is) in
          let m = gives_more a b (fields_of c.read_byte_record.new.row) c.self.invariant (λ bad. absurd (cc (o.failed bad, found))) (rw found at o.reads) in
          sym c.self.view_is ∙ m
      | in-Err w ↦ absurd (cc (t, w.result-is))
    ]

pub returns-clause-end : goal.returns-clause-end
returns-clause-end c t =
    let a = c.self.inside.reader in
    let b = c.read_byte_record.new.self in
    elim c.match-read_byte_record.branch [
      | in-Ok w ↦
          let o = w.in-Ok.ensures in
          let found : w.in-Ok.found ≡ false = cc (t, w.result-is) in
          sym c.self.view_is ∙ gives_end a b (fields_of c.read_byte_record.new.row) c.self.invariant (rw found at o.reads)
      | in-Err w ↦ absurd (cc (t, w.result-is))
    ]
