-- How each refusal is numbered and named, its HTTP status and its body.
use Rattle.std.specs.Prelude.{ℕ, List, ◌++◌, codes}
use Rattle.contest_types.specs.RelTimeText.{three_digits}
use Rattle.contest_types.specs.declared.refusal.Refusal.{Refusal}
use Rattle.contest_types.specs.declared.refusal.Refusal.TheVariants as refusal
use Rattle.contest_types.specs.declared.refusal.RefusalRow.{RefusalRow}
use Rattle.contest_types.specs.declared.refusal.Cause.{Cause}
use Rattle.contest_types.specs.declared.refusal.Cause.TheVariants as cause

-- what is told of a refusal
pub record RefusalFacts : Type 0 where
  pub number : ℕ
  pub name : List ℕ
  pub status : ℕ
  pub body : List ℕ

-- the body is `{"code":<status>,"message":"<name>"}`
abbrev pub refusal_facts : (number : ℕ) → (name : List ℕ) → (status : ℕ) → RefusalFacts
refusal_facts number name status = record {
  number = number;
  name = name;
  status = status;
  body = codes "{\"code\":" ++ three_digits status ++ codes ",\"message\":\"" ++ name ++ codes "\"}";
}

abbrev pub told_by : RefusalRow → RefusalFacts
told_by row = record { number = row.number; name = row.name.now; status = row.status; body = row.body.now }

abbrev pub row_of : Refusal → RefusalFacts
row_of refusal.Malformed = refusal_facts 1 (codes "Malformed") 400
row_of refusal.UnknownToken = refusal_facts 2 (codes "UnknownToken") 401
row_of refusal.RoleForbids = refusal_facts 3 (codes "RoleForbids") 403
row_of refusal.NotFound = refusal_facts 4 (codes "NotFound") 404
row_of refusal.Method = refusal_facts 5 (codes "Method") 405
row_of refusal.BodyTooLarge = refusal_facts 6 (codes "BodyTooLarge") 413
row_of refusal.HeadTooLarge = refusal_facts 7 (codes "HeadTooLarge") 431
row_of refusal.Encoding = refusal_facts 8 (codes "Encoding") 501
row_of refusal.NotOpen = refusal_facts 9 (codes "NotOpen") 409
row_of refusal.UnknownReference = refusal_facts 10 (codes "UnknownReference") 400
row_of refusal.EntryPointMissing = refusal_facts 11 (codes "EntryPointMissing") 400
row_of refusal.TeamLimit = refusal_facts 12 (codes "TeamLimit") 409
row_of refusal.KeyReused = refusal_facts 13 (codes "KeyReused") 409
row_of refusal.AlreadyReleased = refusal_facts 14 (codes "AlreadyReleased") 409
row_of refusal.NothingToVerify = refusal_facts 15 (codes "NothingToVerify") 409
row_of refusal.SameJudge = refusal_facts 16 (codes "SameJudge") 403
row_of refusal.TypeDiffers = refusal_facts 17 (codes "TypeDiffers") 409
row_of refusal.InRejudging = refusal_facts 18 (codes "InRejudging") 409
row_of refusal.RejudgingIncomplete = refusal_facts 19 (codes "RejudgingIncomplete") 409
row_of refusal.RejudgingClosed = refusal_facts 20 (codes "RejudgingClosed") 409
row_of refusal.ClockRefused = refusal_facts 21 (codes "ClockRefused") 409
row_of (refusal.ImportRow n c) = refusal_facts 22 (codes "ImportRow") 409
row_of refusal.SettingsClosed = refusal_facts 23 (codes "SettingsClosed") 409
row_of refusal.StoreFault = refusal_facts 24 (codes "StoreFault") 503
row_of refusal.Memory = refusal_facts 25 (codes "Memory") 503
row_of refusal.OldSchema = refusal_facts 26 (codes "OldSchema") 503

abbrev pub number_of : Refusal → ℕ
number_of r = (row_of r).number

abbrev pub refusal_name : Refusal → List ℕ
refusal_name r = (row_of r).name

abbrev pub status_of : Refusal → ℕ
status_of r = (row_of r).status

abbrev pub body_of : Refusal → List ℕ
body_of r = (row_of r).body

abbrev pub cause_name : Cause → List ℕ
cause_name cause.Malformed = codes "Malformed"
cause_name cause.UnknownReference = codes "UnknownReference"
cause_name cause.KeyReused = codes "KeyReused"
cause_name cause.TableFull = codes "TableFull"
cause_name cause.AlreadyReleased = codes "AlreadyReleased"
cause_name cause.NotOpen = codes "NotOpen"
