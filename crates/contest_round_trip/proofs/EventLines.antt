-- The lines of a feed are read back as its events.
use Rattle.std.proofs.Common.{◌≡◌, ◌∙◌, ◌≤◌, ◌<◌, ◌+◌, ◌^◌, ℕ, suc, Bool, true, false, List, [], ◌∷◌, ◌++◌, Option, Some, None, Result, Ok, Err, length, decimal, refl, sym, ap, subst, inl, inr, arith, append_assoc, codes}
use Rattle.std.specs.Prelude.{All, is_some, nat_lt, if◌then◌else◌}
use Rattle.std.specs.Option.{option_and_then}
use Rattle.std.proofs.lemmas.Bool.{false≢true, ltb-false}
use Rattle.std.proofs.lemmas.Str.{is_utf8-from_IsUtf8}
use Rattle.json.proofs.Printed.Utf8.{IsUtf8-are_ascii}
use Rattle.serde_json.specs.Data.{Data, null, boolean, number, string, array, object}
use Rattle.serde_json.specs.Find.{as_object}
use Rattle.serde_json.specs.Written.{compact_text}
use Rattle.contest_types.proofs.PlaceLemmas.{or_right}
use Rattle.contest_types.specs.declared.refusal.Cause.{Cause}
use Rattle.contest_types.specs.declared.refusal.Refusal.{Refusal}
use Rattle.contest_types.specs.declared.refusal.Refusal.TheVariants.{BodyTooLarge}
use Rattle.contest_files.specs.JsonMembers.{data_of}
use Rattle.contest_objects.specs.EventFeed.{FeedEvent, event_data, event_line, lines_from}
use Rattle.contest_feed_reader.specs.Events.{event_in, event_of, kind_of}
use Rattle.contest_feed_reader.specs.Lines.{Line, is_too_large, lines_after}
use Rattle.contest_feed_reader.specs.Tables.{after_event, after_kind, after_line, after_lines, or_fault_at}
use Rattle.contest_feed_reader.specs.FeedTypes.{TablesRead}
use Rattle.contest_feed_reader.specs.declared.limits.TheConstants.{FEED, FEED_LINE}
use Rattle.contest_feed_reader.proofs.LineLemmas.{inside_line}
use Rattle.contest_round_trip.proofs.HeardEvents.{ComesTo, IsRead, after_events, heard_event}
use Rattle.contest_round_trip.proofs.JsonText.{read_back, text_in_line, utf8_text}
use Rattle.contest_round_trip.proofs.PlainObjects.{IsPlain, last_member, next_member, object_plain, of_all, text_or_null_plain, text_plain}
use Rattle.contest_round_trip.proofs.PlainSeen.{decimal_utf8}

-- ---- one line

line_plain : (n : ℕ) (e : FeedEvent) → n < 2 ^ 64 → IsRead e → IsPlain 4 (event_data n e)
line_plain n e small r =
    object_plain (next_member refl refl r.plain (next_member refl refl (text_or_null_plain 3 e.id r.id)
    (next_member refl refl (text_plain 3 (decimal n) (decimal_utf8 n small)) (next_member refl refl (text_plain 3 e.collection (IsUtf8-are_ascii e.collection r.collection)) (last_member 3 _)))))

data_back : (d : Data) → IsPlain 4 d → data_of (compact_text d) ≡ Some d
unfolding data_of
data_back d p = rw (is_utf8-from_IsUtf8 (compact_text d) (utf8_text d p.fits p.ordered)) (read_back d p.fits p.ordered (omega (arith, p.shallow)))

-- what an object with an id and a body says
said : (n : ℕ) (collection : List ℕ) (id : Option (List ℕ)) (body : Data) → is_some (as_object body) ≡ true
    → event_in (event_data n (record { collection = collection; id = id; object = body })) ≡ Some (record { kind = kind_of collection; deletes = false; id = id; body = body })
said n collection id null b = absurd (false≢true b)
said n collection id (boolean t) b = absurd (false≢true b)
said n collection id (number k) b = absurd (false≢true b)
said n collection id (string s) b = absurd (false≢true b)
said n collection id (array ds) b = absurd (false≢true b)
said n collection None (object ms) b = refl
said n collection (Some text) (object ms) b = refl

line_back : (n : ℕ) (e : FeedEvent) → n < 2 ^ 64 → IsRead e → event_of (compact_text (event_data n e)) ≡ Some (heard_event e)
line_back n e small r =
    ap (λ o. option_and_then event_in o) (data_back (event_data n e) (line_plain n e small r)) ∙ said n e.collection e.id e.object r.object

-- the lines from one that stands before others
next_line : (n : ℕ) (e : FeedEvent) (more : List ℕ) → n < 2 ^ 64 → IsRead e
    → lines_after [] (event_line n e ++ more) ≡ record { text = compact_text (event_data n e); bytes = length (compact_text (event_data n e)) + 1 } ∷ lines_after [] more
unfolding event_line
next_line n e more small r =
    let text = compact_text (event_data n e) in
    let p = line_plain n e small r in
    ap (lines_after []) (append_assoc text (codes "\n") more) ∙ inside_line [] text (10 ∷ more) (text_in_line (event_data n e) p.fits)

-- ---- all lines

goes_on : (t : TablesRead) (n : ℕ) (judged : Result TablesRead Cause) (found wanted : TablesRead → Result TablesRead Refusal) → ((u : TablesRead) → ComesTo (found u) (wanted u)) → ComesTo (or_fault_at found n judged) (or_fault_at wanted n judged)
goes_on t n (Ok u) found wanted more = more u
goes_on t n (Err cause) found wanted more = inr refl

within : (text : List ℕ) (bytes : ℕ) → is_too_large text bytes ≡ false → bytes ≤ FEED
within text bytes e = ltb-false FEED bytes (or_right (nat_lt FEED_LINE (length text)) (nat_lt FEED bytes) e)

pub lines_back : (es : List FeedEvent) (t : TablesRead) (n before : ℕ) → n ≤ before + 1 → before ≤ FEED → All IsRead es → ComesTo (after_lines t n before (lines_after [] (lines_from n es))) (after_events t n es)
lines_back [] t n before h k all = inr refl
lines_back (e ∷ es) t n before h k all =
    let text = compact_text (event_data n e) in
    let bytes = before + (length text + 1) in
    let read : IsRead e = of_all IsRead (e ∷ es) e all (inl refl) in
    let rest : All IsRead es = λ i d l. all (suc i) d (omega (arith, l)) in
    let small : n < 2 ^ 64 = omega (arith, h, k) in
    let line : Line = record { text = text; bytes = length text + 1 } in
    let wanted = after_events t n (e ∷ es) in
    let lines : lines_after [] (lines_from n (e ∷ es)) ≡ line ∷ lines_after [] (lines_from (n + 1) es) = next_line n e (lines_from (n + 1) es) small read in
    let by_size : (large : Bool) → is_too_large text bytes ≡ large
    → ComesTo (if large then Err BodyTooLarge else or_fault_at (λ u. after_lines u (n + 1) bytes (lines_after [] (lines_from (n + 1) es))) n (after_line t n text)) wanted = elim [
      | true ↦ λ large. inl refl
      | false ↦ λ fits. subst (λ judged. ComesTo (or_fault_at (λ u. after_lines u (n + 1) bytes (lines_after [] (lines_from (n + 1) es))) n judged) wanted)
          (sym (ap (after_event t n) (line_back n e small read)))
          (goes_on t n (after_kind t n (heard_event e) (kind_of e.collection)) (λ u. after_lines u (n + 1) bytes (lines_after [] (lines_from (n + 1) es))) (λ u. after_events u (n + 1) es)
          (λ u. lines_back es u (n + 1) bytes (omega (arith, h)) (within text bytes fits) rest))
    ] in
    subst (λ ls. ComesTo (after_lines t n before ls) wanted) (sym lines) (by_size (is_too_large text bytes) refl)
