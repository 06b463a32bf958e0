-- What is told of a refusal, part by part.
use Rattle.std.proofs.Common.{◌≡◌, ap}
use Rattle.contest_types.specs.Refusals.{RefusalFacts, told_by, row_of, number_of, refusal_name, status_of, body_of}
use Rattle.contest_types.specs.declared.refusal.Refusal.{Refusal}
use Rattle.contest_types.specs.declared.refusal.RefusalRow.{RefusalRow}

pub number_told : (row : RefusalRow) (r : Refusal) → told_by row ≡ row_of r → row.number ≡ number_of r
number_told row r told = ap (λ (f : RefusalFacts). f.number) told

pub name_told : (row : RefusalRow) (r : Refusal) → told_by row ≡ row_of r → row.name.now ≡ refusal_name r
name_told row r told = ap (λ (f : RefusalFacts). f.name) told

pub status_told : (row : RefusalRow) (r : Refusal) → told_by row ≡ row_of r → row.status ≡ status_of r
status_told row r told = ap (λ (f : RefusalFacts). f.status) told

pub body_told : (row : RefusalRow) (r : Refusal) → told_by row ≡ row_of r → row.body.now ≡ body_of r
body_told row r told = ap (λ (f : RefusalFacts). f.body) told
