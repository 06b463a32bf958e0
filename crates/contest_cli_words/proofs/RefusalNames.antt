-- A refusal's name is short, so that its line has room.
use Rattle.std.proofs.Common.{◌≡◌, true, ◌≤◌, leb, length, refl, ap, arith}
use Rattle.std.proofs.lemmas.Bool.{leb-true}
use Rattle.contest_types.specs.Refusals.{told_by, row_of, refusal_name}
use Rattle.contest_types.specs.declared.refusal.Refusal.{Refusal}
use Rattle.contest_types.specs.declared.refusal.RefusalRow.{RefusalRow}
use Rattle.contest_types.specs.declared.refusal.Refusal.TheVariants as refusal
use Rattle.contest_types.proofs.RefusalLemmas.{name_told}

fits : (r : Refusal) → leb (length (refusal_name r)) 19 ≡ true
fits refusal.Malformed = refl
fits refusal.UnknownToken = refl
fits refusal.RoleForbids = refl
fits refusal.NotFound = refl
fits refusal.Method = refl
fits refusal.BodyTooLarge = refl
fits refusal.HeadTooLarge = refl
fits refusal.Encoding = refl
fits refusal.NotOpen = refl
fits refusal.UnknownReference = refl
fits refusal.EntryPointMissing = refl
fits refusal.TeamLimit = refl
fits refusal.KeyReused = refl
fits refusal.AlreadyReleased = refl
fits refusal.NothingToVerify = refl
fits refusal.SameJudge = refl
fits refusal.TypeDiffers = refl
fits refusal.InRejudging = refl
fits refusal.RejudgingIncomplete = refl
fits refusal.RejudgingClosed = refl
fits refusal.ClockRefused = refl
fits (refusal.ImportRow n cause) = refl
fits refusal.SettingsClosed = refl
fits refusal.StoreFault = refl
fits refusal.Memory = refl
fits refusal.OldSchema = refl

pub name_is_short : (row : RefusalRow) (r : Refusal) → told_by row ≡ row_of r → length row.name.now ≤ 19
name_is_short row r told = omega (arith, ap length (name_told row r told), leb-true (length (refusal_name r)) 19 (fits r))
