-- What is written of a contest's submissions, while its store is only looked at.
use Rattle.std.proofs.Common.{◌≡◌, ◌∙◌, ◌+◌, ◌++◌, ◌<◌, ℕ, zero, suc, Bool, true, false, List, [], ◌∷◌, Result, Ok, Err, drop, length, take, refl, sym, ap, subst, arith}
use Rattle.std.specs.Prelude.{IsErr, IsTrue, nat_lt, slice_get, if◌then◌else◌}
use Rattle.std.specs.List.{flat_map}
use Rattle.std.specs.Io.KnownBytes.{Appends}
use Rattle.std.specs.Option.{option_map_or}
use Rattle.std.proofs.lemmas.Bool.Decides.{nat_tests}
use Rattle.std.proofs.lemmas.Grind.{flat_map-append}
use Rattle.std.proofs.lemmas.List.{append_assoc, append-nil, take-append-drop}
use Rattle.std.proofs.KnownBytes.{Appends-trans}
use Rattle.contest_streams.specs.Streams.{AppendsFront, Stream}
use Rattle.contest_streams.proofs.StreamLemmas.{front_first, front_second}
use Rattle.contest_store.specs.Keeping.{Kept}
use Rattle.contest_desk.specs.Serving.{OnlyReads}
use Rattle.contest_exports.specs.Exports.{FailsIfWrite, Writes, next_record}
use Rattle.contest_exports.specs.SubmissionsCsv.{record_of}
use Rattle.contest_exports.specs.Walks.{all_in_order, stepped}
use Rattle.contest_exports.specs.declared.export.ExportFault.{ExportFault}
use Rattle.contest_exports.specs.declared.export.ExportFault.TheVariants.{Write, Store}
use Rattle.contest_exports.proofs.ExportReads.{then_reads}

-- the texts of so many and of the next are those of one more
one_more_text : {X : Type 0} (f : X → List ℕ) (xs : List X) (k : ℕ) → flat_map f (take (suc k) xs) ≡ flat_map f (take k xs) ++ option_map_or f (slice_get xs k) []
one_more_text f [] zero = refl
one_more_text f [] (suc k) = refl
one_more_text f (x ∷ xs) zero = append-nil (f x)
one_more_text f (x ∷ xs) (suc k) = ap (λ text. f x ++ text) (one_more_text f xs k) ∙ sym (append_assoc (f x) (flat_map f (take k xs)) (option_map_or f (slice_get xs k) []))

-- the texts of so many, of the next and of the rest are the texts of all
all_texts : {X : Type 0} (f : X → List ℕ) (xs : List X) (k : ℕ) → flat_map f (take k xs) ++ (option_map_or f (slice_get xs k) [] ++ flat_map f (drop (suc k) xs)) ≡ flat_map f xs
all_texts f xs k =
    sym (append_assoc (flat_map f (take k xs)) (option_map_or f (slice_get xs k) []) (flat_map f (drop (suc k) xs)))
    ∙ (ap (λ text. text ++ flat_map f (drop (suc k) xs)) (sym (one_more_text f xs k)) ∙ (sym (flat_map-append f (take (suc k) xs) (drop (suc k) xs)) ∙ ap (flat_map f) (take-append-drop (suc k) xs)))

-- a step before the end gives one more
pub stepped_within : (length given : ℕ) → given < length → stepped length given ≡ given + 1
stepped_within length given within =
    let go : (b : Bool) → nat_lt given length ≡ b → (if b then given + 1 else given) ≡ given + 1 = elim [
      | true ↦ λ is. refl
      | false ↦ λ is. absurd (grind (arith, nat_tests, is, within))
    ] in
    go (nat_lt given length) refl

-- so many submissions are written, and nothing failed
pub record WrittenSoFar (old now : Kept) (out_old out_now : Stream) (count : ℕ) : Type 0 where
  pub reads : OnlyReads {T = Unit {0}} (Ok tt) old now
  pub loaded : IsTrue now.is_loaded
  pub calm : out_now.faults ≡ out_old.faults
  pub written : now.is_clean → Appends out_old.bytes out_now.bytes (flat_map (record_of old.contest) (take count (all_in_order old.contest)))

-- one more is
pub written_more : (old mid new : Kept) (o m n : Stream) (count : ℕ) → WrittenSoFar old mid o m count
    → (new.is_clean → Appends m.bytes n.bytes (next_record mid.contest count)) → n.faults ≡ m.faults → OnlyReads {T = Unit {0}} (Ok tt) mid new → WrittenSoFar old new o n (suc count)
written_more old mid new o m n count w next calm reads = record {
  reads = then_reads tt (Ok tt) old mid new w.reads reads;
  loaded = reads.loaded w.loaded;
  calm = calm ∙ w.calm;
  written = λ clean.
      (let before = reads.clean clean in
      let same : mid.contest ≡ old.contest = (w.reads.ok before).now_is in
      let x = old.contest in
      subst (Appends o.bytes n.bytes) (sym (one_more_text (record_of x) (all_in_order x) count))
      (Appends-trans o.bytes m.bytes n.bytes (flat_map (record_of x) (take count (all_in_order x))) (next_record x count) (w.written before) (subst (λ y. Appends m.bytes n.bytes (next_record y count)) same (next clean))));
}

-- a front of one more is a front of all
pub front_more : (old mid : Kept) (o m n : Stream) (count : ℕ) → mid.is_clean → WrittenSoFar old mid o m count
    → AppendsFront m.bytes n.bytes (next_record mid.contest count) → AppendsFront o.bytes n.bytes (flat_map (record_of old.contest) (all_in_order old.contest))
front_more old mid o m n count clean w next =
    let same : mid.contest ≡ old.contest = (w.reads.ok clean).now_is in
    let x = old.contest in
    let rest = flat_map (record_of x) (drop (suc count) (all_in_order x)) in
    subst (AppendsFront o.bytes n.bytes) (all_texts (record_of x) (all_in_order x) count)
    (front_second o.bytes m.bytes n.bytes (flat_map (record_of x) (take count (all_in_order x))) (next_record x count ++ rest) (w.written clean)
    (front_first m.bytes n.bytes (next_record x count) rest (subst (λ y. AppendsFront m.bytes n.bytes (next_record y count)) same next)))

-- the stream failed since it was calm
pub fails_since : (fault : ExportFault) (o m n : Stream) → m.faults ≡ o.faults → FailsIfWrite (Err fault) m n → FailsIfWrite (Err fault) o n
fails_since Write o m n calm fails = rw calm at fails
fails_since (Store error) o m n calm fails = tt

-- after an error a front is out, whichever error it is
pub front_if_err : (r : Result (Unit {0}) ExportFault) (o n : Stream) (text : List ℕ) → IsErr r → AppendsFront o.bytes n.bytes text → Writes r o n text
front_if_err (Ok done) o n text err front = absurd (cc err)
front_if_err (Err fault) o n text err front = front

-- one text is out, and then another is written
pub writes_then : (r : Result (Unit {0}) ExportFault) (o m n : Stream) (first rest : List ℕ) → Appends o.bytes m.bytes first → Writes r m n rest → Writes r o n (first ++ rest)
writes_then (Ok done) o m n first rest out w = Appends-trans o.bytes m.bytes n.bytes first rest out w
writes_then (Err fault) o m n first rest out w = front_second o.bytes m.bytes n.bytes first rest out w
