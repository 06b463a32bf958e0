-- A reply of a fault comes where a fault is counted.
use Rattle.std.proofs.Common.{◌≡◌, ◌∙◌, ℕ, Result, Err, refl, sym, ap, subst, inl, inr}
use Rattle.std.specs.Prelude.{◌⊎◌, ◌↔◌, ◌==◌}
use Rattle.std.proofs.lemmas.Bool.{false≢true}
use Rattle.contest_streams.specs.Streams.{Failed}
use Rattle.contest_types.specs.declared.refusal.Refusal.{Refusal}
use Rattle.contest_types.specs.declared.refusal.Refusal.TheVariants.{StoreFault, Memory as OutOfMemory}
use Rattle.contest_store.specs.Keeping.{CountsRefusals}
use Rattle.contest_store.specs.StoreErrors.{refusal_of}
use Rattle.contest_store.specs.declared.store_error.StoreError.{StoreError}
use Rattle.contest_store.specs.declared.store_error.StoreError.TheVariants.{Fault, Memory}
use Rattle.contest_store.proofs.LeaveLemmas.{one_more_failed}
use Rattle.contest_desk.specs.Items.{HasStoreError}
use Rattle.contest_operations.specs.Replies.{refused, IsOrdinary, IsStoreReply}
use Rattle.contest_operations.specs.declared.reply.Reply.{Reply}
use Rattle.contest_operations.proofs.RefusalTexts.{fault_is_not_memory}

pub ordinary_apart : (reply : Reply) → IsOrdinary reply → IsStoreReply reply → ⊥
ordinary_apart reply ordinary (inl e) = false≢true (sym ordinary ∙ ap (λ (r : Reply). r.status == 503) e)
ordinary_apart reply ordinary (inr e) = false≢true (sym ordinary ∙ ap (λ (r : Reply). r.status == 503) e)

-- a reply tells of a fault exactly if the store had one
pub reply_fault : (e : StoreError) (reply : Reply) → reply ≡ refused (refusal_of e) → (reply ≡ refused StoreFault) ↔ (e ≡ Fault)
reply_fault Fault reply is = (λ told. refl, λ e. is)
reply_fault Memory reply is = (λ told. absurd (fault_is_not_memory (sym is ∙ told)), λ e. absurd (cc e))

-- so does the answer to an import
pub answer_fault : (e : StoreError) (r : Result ℕ Refusal) → r ≡ Err (refusal_of e) → (r ≡ Err StoreFault) ↔ (e ≡ Fault)
answer_fault Fault r is = (λ told. refl, λ e. is)
answer_fault Memory r is = (λ told. absurd (let no : ◌≡◌ {A = Result ℕ Refusal} (Err OutOfMemory) (Err StoreFault) = sym is ∙ told in cc no), λ e. absurd (cc e))

pub answer_failed : (e : StoreError) (r : Result ℕ Refusal) → r ≡ Err (refusal_of e) → HasStoreError r
answer_failed Fault r is = inl is
answer_failed Memory r is = inr is

-- want of memory is told where the store was refused some, or where the desk may have been
pub memory_counted : (own T : Type 0) (e : StoreError) (old new : ℕ) (reply : Reply) → CountsRefusals {T = T} own (Err e) old new → reply ≡ refused (refusal_of e) → reply ≡ refused OutOfMemory → Failed old new ⊎ own
memory_counted own T Fault old new reply counts is told = absurd (fault_is_not_memory (sym told ∙ is))
memory_counted own T Memory old new reply (inl more) is told = inl (subst (Failed old) (sym more) (one_more_failed old))
memory_counted own T Memory old new reply (inr may) is told = inr may.0

-- a failure of the store is told as one
pub store_reply : (e : StoreError) (reply : Reply) → reply ≡ refused (refusal_of e) → IsStoreReply reply
store_reply Fault reply is = inl is
store_reply Memory reply is = inr is
