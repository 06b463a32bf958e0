-- Readings that give no value.
use Rattle.std.proofs.Common.{◌≡◌, ℕ, List, true≢false, Option, Some, None, Ok, Err, IsNone, option_and_then, option_map, codes, inl, inr, refl}
use Rattle.serde_json.specs.Data.{Data}
use Rattle.base64.specs.GeneralPurpose.{decode_of, decoded_of, IsDecodeFailure}
use Rattle.base64.specs.declared.decode.DecodeAllocError.{DecodeAllocError}
use Rattle.base64.specs.declared.decode.DecodeAllocError.TheVariants.{DecodeError as Failed, OutOfMemory}
use Rattle.base64.specs.declared.decode.DecodeError.{DecodeError}
use Rattle.base64.specs.declared.engine.general_purpose.GeneralPurpose.{GeneralPurpose}
use Rattle.contest_files.specs.JsonMembers.{id_in, optional_id_in}
use Rattle.contest_requests.specs.ClarificationBodies.{clarification_of, message_in, receivers_in}
use Rattle.contest_requests.specs.SubmissionBodies.{entry_point_in, file_in, refusal_of_decoding, submission_of}
use Rattle.contest_files.specs.Refused.{IsRefused}
use Rattle.contest_types.specs.declared.refusal.Refusal.{Refusal}

pub decoded_of_ok : (e : GeneralPurpose) (s v : List ℕ) → decode_of e s ≡ Ok v → decoded_of e s ≡ Some v
unfolding decoded_of
decoded_of_ok e s v is = rw is refl

pub decoded_of_err : (e : GeneralPurpose) (s : List ℕ) (f : DecodeAllocError) (d : DecodeError) → f ≡ Failed d → IsDecodeFailure e s f → IsNone (decoded_of e s)
unfolding decoded_of
decoded_of_err e s f d is failure = let err : decode_of e s ≡ Err d = rw is at failure in rw err refl

pub decoding_refused : (e : GeneralPurpose) (s : List ℕ) (f : DecodeAllocError) → IsDecodeFailure e s f → IsRefused (refusal_of_decoding f) (decoded_of e s)
decoding_refused e s OutOfMemory failure = inl refl
decoding_refused e s (Failed d) failure = inr (refl, decoded_of_err e s (Failed d) d refl failure)

-- what comes after a refused reading is refused too
refused_then : {A B : Type 0} (r : Refusal) (f : A → Option B) (o : Option A) → IsRefused r o → IsRefused r (option_and_then f o)
refused_then r f o (inl memory) = inl memory
refused_then r f None (inr malformed) = inr malformed
refused_then r f (Some x) (inr malformed) = absurd (true≢false malformed.1)

refused_map : {A B : Type 0} (r : Refusal) (f : A → B) (o : Option A) → IsRefused r o → IsRefused r (option_map f o)
refused_map r f o (inl memory) = inl memory
refused_map r f None (inr malformed) = inr malformed
refused_map r f (Some x) (inr malformed) = absurd (true≢false malformed.1)

-- the members of a submission, one after another
pub submission_problem : (r : Refusal) (d : Data) → IsRefused r (id_in (codes "problem_id") d) → IsRefused r (submission_of d)
unfolding submission_of
submission_problem r d refused = refused_then r _ (id_in (codes "problem_id") d) refused

pub submission_language : (r : Refusal) (d : Data) (p : List ℕ) → id_in (codes "problem_id") d ≡ Some p → IsRefused r (id_in (codes "language_id") d) → IsRefused r (submission_of d)
unfolding submission_of
submission_language r d p has_p refused = rw has_p (refused_then r _ (id_in (codes "language_id") d) refused)

pub submission_entry : (r : Refusal) (d : Data) (p l : List ℕ) → id_in (codes "problem_id") d ≡ Some p → id_in (codes "language_id") d ≡ Some l → IsRefused r (entry_point_in d) → IsRefused r (submission_of d)
unfolding submission_of
submission_entry r d p l has_p has_l refused = rw (has_p, has_l) (refused_then r _ (entry_point_in d) refused)

pub submission_team : (r : Refusal) (d : Data) (p l : List ℕ) (e : Option (List ℕ)) → id_in (codes "problem_id") d ≡ Some p → id_in (codes "language_id") d ≡ Some l → entry_point_in d ≡ Some e → IsRefused r (optional_id_in (codes "team_id") d) → IsRefused r (submission_of d)
unfolding submission_of
submission_team r d p l e has_p has_l has_e refused = rw (has_p, has_l, has_e) (refused_then r _ (optional_id_in (codes "team_id") d) refused)

pub submission_file : (r : Refusal) (d : Data) (p l : List ℕ) (e t : Option (List ℕ)) → id_in (codes "problem_id") d ≡ Some p → id_in (codes "language_id") d ≡ Some l → entry_point_in d ≡ Some e → optional_id_in (codes "team_id") d ≡ Some t → IsRefused r (file_in d) → IsRefused r (submission_of d)
unfolding submission_of
submission_file r d p l e t has_p has_l has_e has_t refused = rw (has_p, has_l, has_e, has_t) (refused_map r _ (file_in d) refused)

pub submission_whole : (d : Data) (p l : List ℕ) (e t : Option (List ℕ)) (f : List ℕ) → id_in (codes "problem_id") d ≡ Some p → id_in (codes "language_id") d ≡ Some l → entry_point_in d ≡ Some e → optional_id_in (codes "team_id") d ≡ Some t → file_in d ≡ Some f
    → submission_of d ≡ Some (record { problem = p; language = l; entry_point = e; team = t; file = f })
unfolding submission_of
submission_whole d p l e t f has_p has_l has_e has_t has_f = rw (has_p, has_l, has_e, has_t, has_f) refl

-- what is read last of a clarification
pub clarification_to : (r : Refusal) (d : Data) (t : List ℕ) (p q f : Option (List ℕ)) → message_in d ≡ Some t → optional_id_in (codes "problem_id") d ≡ Some p → optional_id_in (codes "reply_to_id") d ≡ Some q
    → optional_id_in (codes "from_team_id") d ≡ Some f → IsRefused r (receivers_in d) → IsRefused r (clarification_of d)
unfolding clarification_of
clarification_to r d t p q f has_t has_p has_q has_f refused = rw (has_t, has_p, has_q, has_f) (refused_map r _ (receivers_in d) refused)
