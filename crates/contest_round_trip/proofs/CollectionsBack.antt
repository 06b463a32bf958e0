-- The events of a collection whose objects are put in turn come to its rows.
use Rattle.std.proofs.Common.{◌≡◌, ◌∙◌, ◌+◌, ℕ, suc, true, false, List, [], ◌∷◌, ◌++◌, Option, Some, None, Ok, length, map, refl, sym, ap, inl, arith, append_assoc, append-nil, codes}
use Rattle.std.specs.Prelude.{All, is_some, not}
use Rattle.std.specs.Option.{option_and_then, option_map}
use Rattle.std.specs.Str.{bytes_eq}
use Rattle.std.proofs.lemmas.Bool.{and_parts, false≢true, not-true}
use Rattle.std.proofs.lemmas.List.{map-append}
use Rattle.serde_json.specs.Data.{Data, null, boolean, number, string, array, object}
use Rattle.serde_json.specs.Find.{as_array, as_object}
use Rattle.contest_types.specs.IdText.{id_of}
use Rattle.contest_types.specs.Places.{are_different, is_among}
use Rattle.contest_types.proofs.PlaceLemmas.{differs, or_left, or_right}
use Rattle.contest_files.specs.JsonMembers.{list_of, present_in, unless_null}
use Rattle.contest_objects.specs.EventFeed.{FeedEvent, item_event}
use Rattle.contest_objects.specs.Items.{Item}
use Rattle.contest_feed_reader.specs.Collections.{change_by, change_in, name_by, name_of, named, put, rows_after}
use Rattle.contest_feed_reader.specs.Collections.Change.{Put}
use Rattle.contest_feed_reader.specs.Events as heard
use Rattle.contest_feed_reader.specs.Events.{kind_of}
use Rattle.contest_feed_reader.specs.FeedTypes.{RowRead, TablesRead}
use Rattle.contest_feed_reader.specs.References.{ids_of}
use Rattle.contest_feed_reader.specs.Tables.{after_kind, or_fault_at, with_rows}
use Rattle.contest_round_trip.proofs.HeardEvents.{IsMade, Made, after_events, heard_event, rows_from}
use Rattle.contest_round_trip.proofs.PlainObjects.{of_all}

-- ---- one event puts its object

no_array : (d : Data) → is_some (as_object d) ≡ true → as_array d ≡ None
no_array null e = absurd (false≢true e)
no_array (boolean b) e = absurd (false≢true e)
no_array (number n) e = absurd (false≢true e)
no_array (string s) e = absurd (false≢true e)
no_array (array ds) e = absurd (false≢true e)
no_array (object ms) e = refl

pub puts : {A : Type 0} (members : Data → Option A) (m : Made A) → IsMade members m → (collection : List ℕ) (id : Option (List ℕ))
    → change_in members (heard_event (record { collection = collection; id = id; object = m.item.object })) ≡ Some (Put (record { id = m.item.id; object = m.object }))
puts {A} members m h collection id =
    let e : heard.FeedEvent = heard_event (record { collection = collection; id = id; object = m.item.object }) in
    let is_one : option_map list_of (as_array m.item.object) ≡ None = ap (option_map list_of) (no_array m.item.object h.body) in
    let own : present_in (codes "id") m.item.object ≡ Some (string m.item.id) = ap (option_and_then unless_null) h.own in
    let name : name_of e ≡ Some (Some m.item.id) = ap (λ o. name_by o id) own in
    let good : id_of m.item.id ≡ Some m.item.id = rw h.id refl in
    let whole : named members m.item.id m.item.object ≡ Some (record { id = m.item.id; object = m.object }) =
    ap (option_and_then (λ i. option_map (λ o. record { id = i; object = o }) (members m.item.object))) good ∙ ap (option_map (λ o. record { id = m.item.id; object = o })) h.read in
    ap (change_by members e) is_one
    ∙ ap (λ n. option_map Put (option_and_then (λ found. option_and_then (λ i. named members i m.item.object) found) n)) name
    ∙ ap (option_map Put) whole

-- ---- rows with new ids stand behind all

put_behind : {A : Type 0} (rows : List (RowRead A)) (row : RowRead A) → is_among (ids_of rows) row.id ≡ false → put rows row ≡ rows ++ row ∷ []
put_behind [] row e = refl
put_behind {A} (other ∷ rows) row e =
    rw (or_left (bytes_eq other.id row.id) (is_among (ids_of rows) row.id) e) (ap (λ rest. other ∷ rest) (put_behind rows row (or_right (bytes_eq other.id row.id) (is_among (ids_of rows) row.id) e)))

-- an id behind others is none of them
apart_behind : (before : List (List ℕ)) (id : List ℕ) (after : List (List ℕ)) → are_different (before ++ id ∷ after) ≡ true → is_among before id ≡ false
apart_behind [] id after e = refl
apart_behind (x ∷ before) id after e =
    let parts = and_parts (not (is_among (before ++ id ∷ after) x)) (are_different (before ++ id ∷ after)) e in
    rw (differs id x (unlike before (not-true (is_among (before ++ id ∷ after) x) parts.0))) (apart_behind before id after parts.1)
  where
    unlike : (xs : List (List ℕ)) → is_among (xs ++ id ∷ after) x ≡ false → bytes_eq id x ≡ false
    unlike [] f = or_left (bytes_eq id x) (is_among after x) f
    unlike (y ∷ ys) f = unlike ys (or_right (bytes_eq y x) (is_among (ys ++ id ∷ after) x) f)

-- ---- all events of a collection, which is told from the others by what takes it and what puts it back

abbrev pub events_of : {A : Type 0} → (collection : List ℕ) → List (Made A) → List FeedEvent
events_of collection ms = map (λ m. item_event collection m.item) ms

abbrev pub made_ids : {A : Type 0} → List (Made A) → List (List ℕ)
made_ids ms = map (λ m. m.item.id) ms

module _ {A : Type 0} (members : Data → Option A) (collection : List ℕ) (take_out : TablesRead → List (RowRead A)) (put_in : TablesRead → List (RowRead A) → TablesRead)
    (step : (t : TablesRead) (n : ℕ) (e : heard.FeedEvent) → after_kind t n e (kind_of collection) ≡ with_rows (put_in t) (rows_after n (take_out t) (change_in members e)))
    (taken : (t : TablesRead) (rows : List (RowRead A)) → take_out (put_in t rows) ≡ rows)
    (twice : (t : TablesRead) (rows others : List (RowRead A)) → put_in (put_in t rows) others ≡ put_in t others)
    (same : (t : TablesRead) → put_in t (take_out t) ≡ t) where
  pub collection_back : (ms : List (Made A)) (t : TablesRead) (n : ℕ) (more : List FeedEvent) → All (IsMade members) ms → are_different (ids_of (take_out t) ++ made_ids ms) ≡ true
      → after_events t n (events_of collection ms ++ more) ≡ after_events (put_in t (take_out t ++ rows_from n ms)) (n + length ms) more
  collection_back [] t n more all apart =
      let none : n + 0 ≡ n = omega arith in
      ap (λ u. after_events u n more) (sym (ap (put_in t) (append-nil (take_out t)) ∙ same t)) ∙ ap (λ k. after_events (put_in t (take_out t ++ [])) k more) (sym none)
  collection_back (m ∷ ms) t n more all apart =
      let row : RowRead A = record { id = m.item.id; line = n; object = m.object } in
      let rows = take_out t in
      let u = put_in t (rows ++ row ∷ []) in
      let first : IsMade members m = of_all (IsMade members) (m ∷ ms) m all (inl refl) in
      let rest : All (IsMade members) ms = λ i d l. all (suc i) d (omega (arith, l)) in
      let put_here : after_kind t n (heard_event (item_event collection m.item)) (kind_of collection) ≡ Ok u =
      step t n (heard_event (item_event collection m.item))
      ∙ ap (λ c. with_rows (put_in t) (rows_after n rows c)) (puts members m first collection (Some m.item.id))
      ∙ ap (λ rs. Ok (put_in t rs)) (put_behind rows row (apart_behind (ids_of rows) m.item.id (made_ids ms) apart)) in
      let ids : ids_of (take_out u) ++ made_ids ms ≡ ids_of rows ++ made_ids (m ∷ ms) =
      ap (λ rs. ids_of rs ++ made_ids ms) (taken t (rows ++ row ∷ [])) ∙ ap (λ is. is ++ made_ids ms) (map-append (λ (r : RowRead A). r.id) rows (row ∷ [])) ∙ append_assoc (ids_of rows) (m.item.id ∷ []) (made_ids ms) in
      let next : (n + 1) + length ms ≡ n + suc (length ms) = omega arith in
      ap (or_fault_at (λ v. after_events v (n + 1) (events_of collection ms ++ more)) n) put_here
      ∙ collection_back ms u (n + 1) more rest (ap are_different ids ∙ apart)
      ∙ ap (λ rs. after_events (put_in u (rs ++ rows_from (n + 1) ms)) ((n + 1) + length ms) more) (taken t (rows ++ row ∷ []))
      ∙ ap (λ v. after_events v ((n + 1) + length ms) more) (twice t (rows ++ row ∷ []) ((rows ++ row ∷ []) ++ rows_from (n + 1) ms) ∙ ap (put_in t) (append_assoc rows (row ∷ []) (rows_from (n + 1) ms)))
      ∙ ap (λ k. after_events (put_in t (rows ++ rows_from n (m ∷ ms))) k more) next

-- events of a collection that isn't used change nothing
pub unused_back : (collection : List ℕ) → kind_of collection ≡ None → (items : List Item) (t : TablesRead) (n : ℕ) (more : List FeedEvent)
    → after_events t n (map (item_event collection) items ++ more) ≡ after_events t (n + length items) more
unused_back collection none [] t n more = let same : n ≡ n + 0 = omega arith in ap (λ k. after_events t k more) same
unused_back collection none (i ∷ items) t n more =
    let next : (n + 1) + length items ≡ n + suc (length items) = omega arith in
    ap (λ k. or_fault_at (λ u. after_events u (n + 1) (map (item_event collection) items ++ more)) n (after_kind t n (heard_event (item_event collection i)) k)) none
    ∙ unused_back collection none items t (n + 1) more ∙ ap (λ k. after_events t k more) next
