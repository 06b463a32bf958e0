-- Worked examples: what is told of a refusal.
use Rattle.std.proofs.Common.{◌≡◌, refl}
use Rattle.std.specs.Prelude.{codes}
use Rattle.contest_types.specs.Refusals.{row_of}
use Rattle.contest_types.specs.declared.refusal.Refusal.TheVariants.{HeadTooLarge, ImportRow, OldSchema, SameJudge}
use Rattle.contest_types.specs.declared.refusal.Cause.TheVariants.{TableFull}

same_judge : row_of SameJudge ≡ record { number = 16; name = codes "SameJudge"; status = 403; body = codes "{\"code\":403,\"message\":\"SameJudge\"}" }
same_judge = refl

head_too_large : row_of HeadTooLarge ≡ record { number = 7; name = codes "HeadTooLarge"; status = 431; body = codes "{\"code\":431,\"message\":\"HeadTooLarge\"}" }
head_too_large = refl

-- the record and its cause aren't in the body
import_row : row_of (ImportRow 501 TableFull) ≡ record { number = 22; name = codes "ImportRow"; status = 409; body = codes "{\"code\":409,\"message\":\"ImportRow\"}" }
import_row = refl

old_schema : row_of OldSchema ≡ record { number = 26; name = codes "OldSchema"; status = 503; body = codes "{\"code\":503,\"message\":\"OldSchema\"}" }
old_schema = refl
