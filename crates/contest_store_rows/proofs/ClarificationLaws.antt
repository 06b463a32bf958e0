-- Clarifications and their rows, one to one.
use Rattle.std.proofs.Common.{◌≡◌, ℕ, ◌<◌, Bool, true, false, List, [], length, map, Option, Some, None, refl, ap}
use Rattle.std.specs.Prelude.{◌==◌, IfSome, slice_get}
use Rattle.std.specs.List.{list_all}
use Rattle.std.specs.Option.{option_map, option_map_or}
use Rattle.std.proofs.lemmas.Bool.{le-leb}
use Rattle.sqlite.specs.Values.{or_null}
use Rattle.sqlite_value.specs.declared.value.Value.TheVariants.{Text}
use Rattle.contest_types.specs.Places.{are_different}
use Rattle.contest_types.specs.ProblemPlaces.{problem_id_at}
use Rattle.contest_types.specs.Setup.{Setup, IsValid}
use Rattle.contest_types.specs.declared.clarification.Addressee.{Addressee}
use Rattle.contest_types.specs.declared.clarification.Addressee.TheVariants.{All as ToAll, Group as ToGroup, Team as ToTeam}
use Rattle.contest_types.specs.declared.clarification.Clarification.{Clarification}
use Rattle.contest_types.specs.declared.clarification.Reference.{Reference}
use Rattle.contest_types.specs.declared.limits.TheConstants.{LAST_MOMENT}
use Rattle.contest_types.specs.declared.objects.Problem.{Problem}
use Rattle.contest_store_rows.specs.Cells.{flag, number_of}
use Rattle.contest_store_rows.specs.Clarifications.{addressee_of, clarification_in, clarification_said, reply_if_any}
use Rattle.contest_store_rows.specs.Laws.{ReadsBack, WritesBack, IsWritableClarification, IsWritableReference}
use Rattle.contest_store_rows.specs.ListRows.{audience_kind, audience_number, clarification_row, reference_id}
use Rattle.contest_store_rows.specs.Readings.{place_if_any}
use Rattle.contest_store_rows.proofs.PlaceBack.{place_back}
use Rattle.contest_store_rows.proofs.ReferenceLaws.{reference_back}
use Rattle.contest_store_rows.proofs.RowLaws.{id_back, less_one}
use Rattle.contest_store_rows.proofs.RowLemmas.{is_no_real, no_real_text, reads_back, writes_back}

pub place_if_back : {T : Type 0} (id : T → List ℕ) (rows : List T) (at : Option ℕ) → are_different (map id rows) ≡ true → IfSome at (λ p. p < length rows) →
    place_if_any (map id rows) (or_null Text (option_map (λ p. option_map_or id (slice_get rows p) []) at)) ≡ at
place_if_back id rows None d w = refl
place_if_back id rows (Some p) d w = ap Some (place_back id rows p d w)

reply_back : (reply : Option Reference) → IfSome reply IsWritableReference → reply_if_any (or_null Text (option_map reference_id reply)) ≡ Some reply
reply_back None w = refl
reply_back (Some r) w = ap (option_map Some) (reference_back r w)

pub flag_back : (b : Bool) → (number_of (flag b) == 1) ≡ b
flag_back true = refl
flag_back false = refl

addressee_back : (a : Addressee) → addressee_of (audience_kind a) (audience_number a) ≡ a
addressee_back ToAll = refl
addressee_back (ToTeam team) = rw (less_one team) refl
addressee_back (ToGroup group) = rw (less_one group) refl

clarification_is_said : (s : Setup) → IsValid s → (n : ℕ) (c : Clarification) → IsWritableClarification s c → clarification_said s (clarification_row s n c) ≡ Some c
clarification_is_said s valid n c w =
    rw (
      w.account,
      w.text,
      id_back c.key w.key,
      reply_back c.reply w.reply,
      le-leb c.time LAST_MOMENT w.time,
      addressee_back c.addressee,
      flag_back c.from_jury,
      place_if_back (λ (p : Problem). p.id) s.problems c.problem valid.problems w.problem,
    ) refl

pub clarifications_read_back : ReadsBack IsWritableClarification clarification_row clarification_in
clarifications_read_back s valid n c w =
    let no_real : list_all is_no_real (clarification_row s n c) ≡ true = rw (no_real_text (option_map (problem_id_at s.problems) c.problem), no_real_text (option_map reference_id c.reply), no_real_text c.key) refl in
    reads_back (clarification_row s n) (clarification_said s (clarification_row s n c)) c (clarification_is_said s valid n c w) no_real

pub clarifications_write_back : WritesBack clarification_row clarification_in
clarifications_write_back s n r c is = writes_back (clarification_row s n) r (clarification_said s r) c is
