-- The table of routes as it is read.
use Rattle.std.proofs.Common.{◌≡◌, ◌∙◌, ◌<◌, ℕ, suc, Bool, true, false, List, [], ◌∷◌, length, map, Option, None, Some, Result, Ok, Err, refl, sym, ap, subst, arith, inl, inr, cond}
use Rattle.std.specs.Prelude.{◌⊎◌, ◌&&◌, ◌||◌, not, nat_lt, if◌then◌else◌}
use Rattle.std.specs.List.{All, list_all}
use Rattle.std.specs.Option.{option_map}
use Rattle.std.specs.Str.{bytes_eq, is_utf8}
use Rattle.std.proofs.lemmas.Bool.{false≢true, not-true}
use Rattle.std.proofs.lemmas.Slice.Eq.{bytes_eq-Decides}
use Rattle.matchit.specs.Order.{placed}
use Rattle.matchit.specs.Rows.{RowsOf, comes_before}
use Rattle.matchit.specs.Route.{Scan, parse_route}
use Rattle.matchit.specs.Router.{RouteOf, route_from}
use Rattle.matchit.specs.Seek.{first}
use Rattle.matchit.specs.declared.error.InsertError.{InsertError}
use Rattle.matchit.proofs.OnLiterals.{matchit_on_literals}
use Rattle.contest_types.specs.Order.{Has}
use Rattle.contest_types.proofs.SeenWhole.{all_has}
use Rattle.contest_types.proofs.PlaceLemmas.{and_left, and_right}
use Rattle.contest_operations.specs.declared.offer.Offer.{Offer}
use Rattle.contest_operations.specs.RouteReading.{is_name, pieces, takes_piece, takes_pieces, goes_by}
use Rattle.contest_operations.specs.Routes.{Routes, route_rows, routes, with_scan, with_route, with_routes, offer_at}
use Rattle.contest_operations.specs.Laws.{RoutesRead}
use Rattle.contest_operations.proofs.RouteLemmas.{all_made}
use Rattle.contest_operations.proofs.SeekRows.{AreBytes, goes, proper, finds, meets}
use Rattle.contest_operations.proofs.PieceLemmas.{is_parameter, takes_token, takes_tokens, by_pieces}

-- what a route's text is in matchit: a parameter for each name in braces

abbrev pub token_of : List ℕ → List ℕ
token_of piece = if is_name piece then 256 ∷ [] else piece

abbrev pub same_pieces : (ps qs : List (List ℕ)) → Bool
same_pieces [] [] = true
same_pieces [] (q ∷ qs) = false
same_pieces (p ∷ ps) [] = false
same_pieces (p ∷ ps) (q ∷ qs) = bytes_eq p q && same_pieces ps qs

abbrev pub is_of_text : List ℕ → Result Scan InsertError → Bool
is_of_text text (Ok s) = proper true s.pattern && same_pieces (pieces s.pattern) (map token_of (pieces text))
is_of_text text (Err e) = false

abbrev pub fits : List ℕ × Offer → Bool
fits row = list_all (λ piece. not (is_parameter piece)) (pieces row.0) && is_of_text row.0 (parse_route row.0)

all_fit : list_all fits route_rows ≡ true
unfolding matchit_on_literals
all_fit = refl

same_is : (ps qs : List (List ℕ)) → same_pieces ps qs ≡ true → ps ≡ qs
same_is [] [] h = refl
same_is [] (q ∷ qs) h = absurd (cc h)
same_is (p ∷ ps) [] h = absurd (cc h)
same_is (p ∷ ps) (q ∷ qs) h = rw ((bytes_eq-Decides p q).0 (and_left (bytes_eq p q) (same_pieces ps qs) h), same_is ps qs (and_right (bytes_eq p q) (same_pieces ps qs) h)) refl

takes_itself : (piece path : List ℕ) → is_parameter piece ≡ false → takes_token (token_of piece) path ≡ takes_piece piece path
takes_itself piece path plain =
    let go : (b : Bool) → is_name piece ≡ b → takes_token (if b then 256 ∷ [] else piece) path ≡ (if b then nat_lt 0 (length path) else bytes_eq piece path) = elim [
      | true ↦ λ e. refl
      | false ↦ λ e. rw plain refl
    ] in
    go (is_name piece) refl

by_tokens : (ps path : List (List ℕ)) → list_all (λ piece. not (is_parameter piece)) ps ≡ true → takes_tokens (map token_of ps) path ≡ takes_pieces ps path
by_tokens [] [] plain = refl
by_tokens [] (q ∷ path) plain = refl
by_tokens (p ∷ ps) [] plain = refl
by_tokens (p ∷ ps) (q ∷ path) plain =
    rw (takes_itself p q (not-true (is_parameter p) (and_left (not (is_parameter p)) (list_all (λ piece. not (is_parameter piece)) ps) plain)), by_tokens ps path (and_right (not (is_parameter p)) (list_all (λ piece. not (is_parameter piece)) ps) plain)) refl

-- what a row of the table of texts is in matchit's table
record InTable (row : List ℕ × Offer) (s : Scan) : Type 0 where
  pub read : parse_route row.0 ≡ Ok s
  pub proper_so : proper true s.pattern ≡ true
  pub goes_so : (path : List ℕ) → goes s.pattern path ≡ goes_by row.0 path

in_table : (row : List ℕ × Offer) → Has route_rows row → (s : Scan) × InTable row s
in_table row h =
    let fit = all_has fits route_rows row all_fit h in
    let plain = and_left (list_all (λ piece. not (is_parameter piece)) (pieces row.0)) (is_of_text row.0 (parse_route row.0)) fit in
    let go : (r : Result Scan InsertError) → parse_route row.0 ≡ r → is_of_text row.0 r ≡ true → (s : Scan) × InTable row s = elim [
      | (Ok s) ↦ λ e k. (let shaped = and_left (proper true s.pattern) (same_pieces (pieces s.pattern) (map token_of (pieces row.0))) k in
          let same = same_is (pieces s.pattern) (map token_of (pieces row.0)) (and_right (proper true s.pattern) (same_pieces (pieces s.pattern) (map token_of (pieces row.0))) k) in (
            s,
            record {
              read = e;
              proper_so = shaped;
              goes_so = λ path. by_pieces true s.pattern path shaped ∙ (ap (λ ps. takes_tokens ps (pieces path)) same ∙ by_tokens (pieces row.0) (pieces path) plain);
            },
          ))
      | (Err f) ↦ λ e k. absurd (cc k)
    ] in
    go (parse_route row.0) refl (and_right (list_all (λ piece. not (is_parameter piece)) (pieces row.0)) (is_of_text row.0 (parse_route row.0)) fit)

-- the rows of matchit's table are those of the texts

is_placed : {K : Type 0} (r : List ℕ × K) (rs : RowsOf K) → Has (placed r rs) r
is_placed r [] = inl refl
is_placed r (x ∷ rest) =
    let go : (b : Bool) → Has (cond b (r ∷ x ∷ rest) (x ∷ placed r rest)) r = elim [ true ↦ inl refl | false ↦ inr (is_placed r rest) ] in
    go (comes_before r.0 x.0)

stays_placed : {K : Type 0} (r y : List ℕ × K) (rs : RowsOf K) → Has rs y → Has (placed r rs) y
stays_placed r y [] h = absurd h
stays_placed r y (x ∷ rest) h =
    let go : (b : Bool) → (x ≡ x) → Has (x ∷ rest) y → Has (cond b (r ∷ x ∷ rest) (x ∷ placed r rest)) y = elim [
      | true ↦ λ e g. inr g
      | false ↦ λ e g. elim g [ inl is ↦ inl is | inr in_rest ↦ inr (stays_placed r y rest in_rest) ]
    ] in
    go (comes_before r.0 x.0) refl h

was_placed : {K : Type 0} (r y : List ℕ × K) (rs : RowsOf K) → Has (placed r rs) y → (y ≡ r) ⊎ Has rs y
was_placed r y [] h = elim h [ inl e ↦ inl e | inr none ↦ absurd none ]
was_placed r y (x ∷ rest) h =
    let go : (b : Bool) → Has (cond b (r ∷ x ∷ rest) (x ∷ placed r rest)) y → (y ≡ r) ⊎ Has (x ∷ rest) y = elim [
      | true ↦ λ g. g
      | false ↦ λ g. elim g [
        | inl e ↦ inr (inl e)
        | inr k ↦ elim (was_placed r y rest k) [ inl e ↦ inl e | inr more ↦ inr (inr more) ]
      ]
    ] in
    go (comes_before r.0 x.0) h

-- where a row of matchit's table comes from
abbrev pub ComesOf : List (List ℕ × Offer) → List ℕ × RouteOf Offer → Type 0
ComesOf rows r = (row : List ℕ × Offer) × Has rows row × (s : Scan) × (parse_route row.0 ≡ Ok s) × (r ≡ (s.pattern, route_from s row.1))

scan_came : (read : Result Scan InsertError) (offer : Offer) (table : Routes) (r : List ℕ × RouteOf Offer) → Has (with_scan read offer table) r
    → ((s : Scan) × (read ≡ Ok s) × (r ≡ (s.pattern, route_from s offer))) ⊎ Has table r
scan_came (Ok s) offer table r h = elim (was_placed (s.pattern, route_from s offer) r table h) [ inl e ↦ inl (s, refl, e) | inr more ↦ inr more ]
scan_came (Err e) offer table r h = inr h

came : (rows : List (List ℕ × Offer)) (table : Routes) (r : List ℕ × RouteOf Offer) → Has (with_routes rows table) r → ComesOf rows r ⊎ Has table r
unfolding with_route
came [] table r h = inr h
came (row ∷ rows) table r h =
    elim (came rows (with_scan (parse_route row.0) row.1 table) r h) [
      | inl more ↦ inl (more.0, inr more.1, more.2, more.3, more.4)
      | inr here ↦ elim (scan_came (parse_route row.0) row.1 table r here) [
        | inl new ↦ inl (row, inl refl, new.0, new.1, new.2)
        | inr old ↦ inr old
      ]
    ]

stays : (rows : List (List ℕ × Offer)) (table : Routes) (r : List ℕ × RouteOf Offer) → Has table r → Has (with_routes rows table) r
unfolding with_route
stays [] table r h = h
stays (row ∷ rows) table r h =
    let go : (read : Result Scan InsertError) → Has (with_scan read row.1 table) r = elim [
      | (Ok s) ↦ stays_placed (s.pattern, route_from s row.1) r table h
      | (Err e) ↦ h
    ] in
    stays rows (with_scan (parse_route row.0) row.1 table) r (go (parse_route row.0))

is_there : (rows : List (List ℕ × Offer)) (table : Routes) (row : List ℕ × Offer) (s : Scan) → parse_route row.0 ≡ Ok s → Has rows row → Has (with_routes rows table) (s.pattern, route_from s row.1)
unfolding with_route
is_there [] table row s e h = absurd h
is_there (first_row ∷ rows) table row s e (inl is) =
    let here : Has (with_scan (parse_route row.0) row.1 table) (s.pattern, route_from s row.1) = rw e (is_placed (s.pattern, route_from s row.1) table) in
    stays rows (with_scan (parse_route first_row.0) first_row.1 table) (s.pattern, route_from s row.1) (subst (λ (z : List ℕ × Offer). Has (with_scan (parse_route z.0) z.1 table) (s.pattern, route_from s row.1)) is here)
is_there (first_row ∷ rows) table row s e (inr h) = is_there rows (with_scan (parse_route first_row.0) first_row.1 table) row s e h

-- no path goes by two rows

abbrev pub differ : (p q : List ℕ) → Bool
differ p q = if is_name p then false else (if is_name q then false else not (bytes_eq p q))

abbrev pub are_apart : (ps qs : List (List ℕ)) → Bool
are_apart [] [] = false
are_apart [] (q ∷ qs) = true
are_apart (p ∷ ps) [] = true
are_apart (p ∷ ps) (q ∷ qs) = differ p q || are_apart ps qs

abbrev pub all_apart : List (List ℕ × Offer) → Bool
all_apart [] = true
all_apart (row ∷ rows) = list_all (λ other. are_apart (pieces row.0) (pieces other.0)) rows && all_apart rows

rows_apart : all_apart route_rows ≡ true
rows_apart = refl

not_both : (p q piece : List ℕ) → differ p q ≡ true → takes_piece p piece ≡ true → takes_piece q piece ≡ true → ⊥
not_both p q piece h g k =
    let go : (a b c : Bool) → bytes_eq p q ≡ c → (if a then false else (if b then false else not c)) ≡ true
    → (if a then nat_lt 0 (length piece) else bytes_eq p piece) ≡ true → (if b then nat_lt 0 (length piece) else bytes_eq q piece) ≡ true → ⊥ = elim [
      | true ↦ λ b c e h g k. false≢true h
      | false ↦ elim [
        | true ↦ λ c e h g k. false≢true h
        | false ↦ elim [
          | true ↦ λ e h g k. false≢true h
          | false ↦ λ e h g k. (let same : p ≡ q = (bytes_eq-Decides p piece).0 g ∙ sym ((bytes_eq-Decides q piece).0 k) in
              false≢true (sym e ∙ (bytes_eq-Decides p q).1 same))
        ]
      ]
    ] in
    go (is_name p) (is_name q) (bytes_eq p q) refl h g k

not_by_both : (ps qs path : List (List ℕ)) → are_apart ps qs ≡ true → takes_pieces ps path ≡ true → takes_pieces qs path ≡ true → ⊥
not_by_both [] [] path h g k = false≢true h
not_by_both [] (q ∷ qs) [] h g k = false≢true k
not_by_both [] (q ∷ qs) (piece ∷ path) h g k = false≢true g
not_by_both (p ∷ ps) [] [] h g k = false≢true g
not_by_both (p ∷ ps) [] (piece ∷ path) h g k = false≢true k
not_by_both (p ∷ ps) (q ∷ qs) [] h g k = false≢true g
not_by_both (p ∷ ps) (q ∷ qs) (piece ∷ path) h g k =
    let go : (b : Bool) → differ p q ≡ b → (b || are_apart ps qs) ≡ true → ⊥ = elim [
      | true ↦ λ e o. not_both p q piece e (and_left (takes_piece p piece) (takes_pieces ps path) g) (and_left (takes_piece q piece) (takes_pieces qs path) k)
      | false ↦ λ e o. not_by_both ps qs path o (and_right (takes_piece p piece) (takes_pieces ps path) g) (and_right (takes_piece q piece) (takes_pieces qs path) k)
    ] in
    go (differ p q) refl h

one_row : (rows : List (List ℕ × Offer)) (path : List ℕ) (a b : List ℕ × Offer) → all_apart rows ≡ true → Has rows a → Has rows b → goes_by a.0 path ≡ true → goes_by b.0 path ≡ true → a ≡ b
one_row [] path a b apart ha hb ga gb = absurd ha
one_row (row ∷ rows) path a b apart (inl ea) (inl eb) ga gb = ea ∙ sym eb
one_row (row ∷ rows) path a b apart (inl ea) (inr hb) ga gb =
    let from_row = and_left (list_all (λ (other : List ℕ × Offer). are_apart (pieces row.0) (pieces other.0)) rows) (all_apart rows) apart in
    let so = all_has (λ (other : List ℕ × Offer). are_apart (pieces row.0) (pieces other.0)) rows b from_row hb in
    absurd (not_by_both (pieces row.0) (pieces b.0) (pieces path) so (subst (λ (z : List ℕ × Offer). goes_by z.0 path ≡ true) ea ga) gb)
one_row (row ∷ rows) path a b apart (inr ha) (inl eb) ga gb =
    let from_row = and_left (list_all (λ (other : List ℕ × Offer). are_apart (pieces row.0) (pieces other.0)) rows) (all_apart rows) apart in
    let so = all_has (λ (other : List ℕ × Offer). are_apart (pieces row.0) (pieces other.0)) rows a from_row ha in
    absurd (not_by_both (pieces row.0) (pieces a.0) (pieces path) so (subst (λ (z : List ℕ × Offer). goes_by z.0 path ≡ true) eb gb) ga)
one_row (row ∷ rows) path a b apart (inr ha) (inr hb) ga gb =
    one_row rows path a b (and_right (list_all (λ (other : List ℕ × Offer). are_apart (pieces row.0) (pieces other.0)) rows) (all_apart rows) apart) ha hb ga gb

-- the law

are_bytes : (path : List ℕ) → All (λ b. b < 256) path → AreBytes path
are_bytes [] all = tt
are_bytes (b ∷ path) all = (all 0 0 (omega arith), are_bytes path (λ k d h. all (suc k) d (omega (arith, h))))

abbrev pub the_ok : Scan → Result Scan InsertError
the_ok s = Ok s

-- each row of the table comes of a text, and is shaped so
of_text : (r : List ℕ × RouteOf Offer) → Has routes r → (row : List ℕ × Offer) × Has route_rows row × (s : Scan) × InTable row s × (r ≡ (s.pattern, route_from s row.1))
of_text r h =
    elim (came route_rows [] r (subst (λ t. Has t r) (sym all_made) h)) [
      | inl more ↦ (let t = in_table more.0 more.1 in
          let same : more.2 ≡ t.0 = of_ok (sym more.3 ∙ t.1.read) in
          (more.0, more.1, t.0, t.1, more.4 ∙ ap (λ (s : Scan). (s.pattern, route_from s more.0.1)) same))
      | inr none ↦ absurd none
    ]
  where
    of_ok : {a b : Scan} → the_ok a ≡ the_ok b → a ≡ b
    of_ok e = cc e

all_proper : (t : List ℕ) (k : RouteOf Offer) → Has routes (t, k) → proper true t ≡ true
all_proper t k h =
    let from = of_text (t, k) h in
    let is : t ≡ from.2.pattern = ap (λ (p : List ℕ × RouteOf Offer). p.0) from.4 in
    subst (λ z. proper true z ≡ true) (sym is) from.3.proper_so

-- what is found is of a text by which the path goes
found_by : (path : List ℕ) (k : RouteOf Offer) → All (λ b. b < 256) path → first routes path ≡ Some k → (row : List ℕ × Offer) × Has route_rows row × (goes_by row.0 path ≡ true) × (k.value ≡ row.1)
found_by path k bytes h =
    let found = finds (length path) true routes path k (omega arith) (are_bytes path bytes) all_proper h in
    let from = of_text (found.0, k) found.1 in
    let is : found.0 ≡ from.2.pattern = ap (λ (p : List ℕ × RouteOf Offer). p.0) from.4 in
    let key : k ≡ route_from from.2 from.0.1 = ap (λ (p : List ℕ × RouteOf Offer). p.1) from.4 in
    (from.0, from.1, sym (from.3.goes_so path) ∙ (ap (λ t. goes t path) (sym is) ∙ found.2), ap (λ (r : RouteOf Offer). r.value) key)

offered : (found : Option (RouteOf Offer)) (offer : Offer) → option_map (λ k. k.value) found ≡ Some offer → (k : RouteOf Offer) × (found ≡ Some k) × (k.value ≡ offer)
offered None offer h = absurd (cc h)
offered (Some k) offer h = (k, refl, cc h)

-- a path that is a text is looked up
looked_up : (path : List ℕ) → is_utf8 path ≡ true → offer_at path ≡ option_map (λ (k : RouteOf Offer). k.value) (first routes path)
looked_up path text = rw text refl

pub routes_read : RoutesRead
routes_read path bytes text offer = (
  λ h. (let k = offered (first routes path) offer (sym (looked_up path text) ∙ h) in
      let row = found_by path k.0 bytes k.1 in
      let same : row.0 ≡ (row.0.0, offer) = ap (λ (o : Offer). (row.0.0, o)) (sym row.3 ∙ k.2) in
      (row.0.0, subst (λ z. Has route_rows z) same row.1, row.2)),
  λ h. (let t = in_table (h.0, offer) h.1 in
      let there : Has routes (t.0.pattern, route_from t.0 offer) = subst (λ z. Has z (t.0.pattern, route_from t.0 offer)) all_made (is_there route_rows [] (h.0, offer) t.0 t.1.read h.1) in
      let met = meets (length path) true routes path t.0.pattern (route_from t.0 offer) (omega arith) (are_bytes path bytes) all_proper there (t.1.goes_so path ∙ h.2) in
      let row = found_by path met.0 bytes met.1 in
      let one = one_row route_rows path row.0 (h.0, offer) rows_apart row.1 h.1 row.2 h.2 in
      looked_up path text ∙ (ap (λ found. option_map (λ (k : RouteOf Offer). k.value) found) met.1 ∙ ap (λ (o : Offer). Some o) (row.3 ∙ ap (λ (z : List ℕ × Offer). z.1) one))),
)
