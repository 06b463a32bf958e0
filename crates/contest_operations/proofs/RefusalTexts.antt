-- The text of each refusal's body.
use Rattle.std.proofs.Common.{◌≡◌, ◌∙◌, true≢false, length, refl, sym, ap}
use Rattle.std.specs.Prelude.{ℕ, List, ◌==◌}
use Rattle.std.specs.Fmt.{digits}
use Rattle.serde_json.proofs.OnLiterals.{serde_json_on_literals}
use Rattle.contest_types.specs.Refusals.{body_of, status_of, row_of, told_by}
use Rattle.contest_types.specs.declared.refusal.Refusal.{Refusal}
use Rattle.contest_types.specs.declared.refusal.RefusalRow.{RefusalRow}
use Rattle.contest_types.specs.declared.refusal.Refusal.TheVariants as refusal
use Rattle.contest_types.proofs.RefusalLemmas.{status_told, body_told}
use Rattle.contest_operations.specs.Replies.{refusal_text, refused}
use Rattle.contest_operations.specs.declared.reply.Reply.{Reply}
use Rattle.contest_operations.specs.declared.reply.ExtraField.{ExtraField}
use Rattle.contest_operations.specs.declared.reply.ContentType.TheVariants.{Json}

-- the body that a refusal's row has is the compact text of its object
pub body_is_text : (r : Refusal) → body_of r ≡ refusal_text r
unfolding serde_json_on_literals digits refusal_text
body_is_text refusal.Malformed = refl
body_is_text refusal.UnknownToken = refl
body_is_text refusal.RoleForbids = refl
body_is_text refusal.NotFound = refl
body_is_text refusal.Method = refl
body_is_text refusal.BodyTooLarge = refl
body_is_text refusal.HeadTooLarge = refl
body_is_text refusal.Encoding = refl
body_is_text refusal.NotOpen = refl
body_is_text refusal.UnknownReference = refl
body_is_text refusal.EntryPointMissing = refl
body_is_text refusal.TeamLimit = refl
body_is_text refusal.KeyReused = refl
body_is_text refusal.AlreadyReleased = refl
body_is_text refusal.NothingToVerify = refl
body_is_text refusal.SameJudge = refl
body_is_text refusal.TypeDiffers = refl
body_is_text refusal.InRejudging = refl
body_is_text refusal.RejudgingIncomplete = refl
body_is_text refusal.RejudgingClosed = refl
body_is_text refusal.ClockRefused = refl
body_is_text (refusal.ImportRow n cause) = refl
body_is_text refusal.SettingsClosed = refl
body_is_text refusal.StoreFault = refl
body_is_text refusal.Memory = refl
body_is_text refusal.OldSchema = refl

-- what a refusal's row tells, with the refusal's field, is its reply
pub told_is_refused : (row : RefusalRow) (r : Refusal) (extra : ExtraField) (text : List ℕ)
    → told_by row ≡ row_of r → extra ≡ (refused r).extra → text ≡ row.body.now
    → record { status = row.status; content = Json; extra = extra; body = text } ≡ refused r
told_is_refused row r extra text told field body =
    let whole : ℕ → ExtraField → List ℕ → Reply = λ status extra text. record { status = status; content = Json; extra = extra; body = text } in
    let spelt : text ≡ refusal_text r = body ∙ (body_told row r told ∙ body_is_text r) in
    let same : whole row.status extra text ≡ whole (status_of r) (refused r).extra (refusal_text r) = cc (status_told row r told, field, spelt) in
    same

-- what a fault is answered isn't what want of memory is
pub fault_is_not_memory : refused refusal.Memory ≡ refused refusal.StoreFault → ⊥
fault_is_not_memory e =
    let same : body_of refusal.Memory ≡ body_of refusal.StoreFault = body_is_text refusal.Memory ∙ (ap (λ (r : Reply). r.body) e ∙ sym (body_is_text refusal.StoreFault)) in
    true≢false (ap (λ text. length text == 31) same)
