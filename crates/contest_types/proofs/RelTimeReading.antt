-- A relative time that is read is the one that the text shows.
use Rattle.std.proofs.Common.{ℕ, ℤ, ◌≡◌, ◌+◌, ◌-◌, ◌*◌, ◌<◌, inl, inr, Bool, true, false, List, [], ◌∷◌, ◌++◌, length, take, drop, get_or, Option, Some, None, refl, sym, ap, subst, ◌∙◌, arith}
use Rattle.std.specs.Prelude.{◌&&◌, nat_lt, nat_le, nat_eq, IfSome, IfNone}
use Rattle.std.specs.Option.{option_and_then, option_map}
use Rattle.std.specs.List.{list_all}
use Rattle.std.specs.Char.{digit_value}
use Rattle.std.specs.Str.Parse.{IsNumeral, AllDigits, digits_value}
use Rattle.std.proofs.Math.Seq.{get_or-append_seam}
use Rattle.std.proofs.lemmas.Bool.{false≢true, eqb-true, eq-eqb, ltb-true, lt-ltb, leb-true, ltb-false, leb-false}
use Rattle.std.proofs.lemmas.List.{append_assoc, length-append, take-append-drop, drop_more, drop_at, take_at, length-drop}
use Rattle.contest_types.specs.RelTimeText.{farthest, Field, IsSplit, IsClock, IsRelTimeText, sign, signed}
use Rattle.contest_types.specs.RelTimeRead.{are_digits, has_field, field_of, or_whole, total_of, clock_of, reltime_of}
use Rattle.contest_types.proofs.PlaceLemmas.{and_left, and_right, both_true}
use Rattle.contest_types.proofs.RelTimeLemmas.{closed, no_seconds, no_minutes, no_hours, no_sixty, one_total, one_shown, no_clock}

pub all_digits : (ds : List ℕ) → list_all (λ c. nat_lt (digit_value c) 10) ds ≡ true → AllDigits 10 ds
all_digits [] h = tt
all_digits (d ∷ ds) h = (ltb-true (digit_value d) 10 (and_left _ _ h), all_digits ds (and_right (nat_lt (digit_value d) 10) _ h))

pub digits_all : (ds : List ℕ) → AllDigits 10 ds → list_all (λ c. nat_lt (digit_value c) 10) ds ≡ true
digits_all [] h = refl
digits_all (d ∷ ds) h = both_true _ _ (lt-ltb (digit_value d) 10 h.0) (digits_all ds h.1)

pub numeral : (ds : List ℕ) → are_digits ds ≡ true → IsNumeral 10 ds
numeral ds h = (ltb-true 0 (length ds) (and_left _ _ h), all_digits ds (and_right (nat_lt 0 (length ds)) _ h))

pub are_numeral : (ds : List ℕ) → IsNumeral 10 ds → are_digits ds ≡ true
are_numeral ds h = both_true _ _ (lt-ltb 0 (length ds) h.0) (digits_all ds h.1)

-- the parts of a text at a mark
pub record Parts (text : List ℕ) (m n : ℕ) (front digits : List ℕ) : Type 0 where
  pub there : nat_lt n (length text) ≡ true
  pub mark : get_or text (length text - n - 1) 0 ≡ m
  pub before : take (length text - n - 1) text ≡ front
  pub behind : drop (length text - n) text ≡ digits

parts : (text front ds : List ℕ) (m n : ℕ) → text ≡ front ++ m ∷ ds → length ds ≡ n → Parts text m n front ds
parts text front ds m n whole long =
    let count : length text ≡ length front + (n + 1) = omega (arith, ap length whole, length-append front (m ∷ ds)) in
    let at : length text - n - 1 ≡ length front = omega arith in
    let cut : length text - n ≡ length front + 1 = omega arith in
    let one : length (front ++ m ∷ []) ≡ length front + 1 = omega (arith, length-append front (m ∷ [])) in
    let split : text ≡ (front ++ m ∷ []) ++ ds = whole ∙ sym (append_assoc front (m ∷ []) ds) in
    record {
      there = lt-ltb n (length text) (omega arith);
      mark = rw (at, whole) (get_or-append_seam front m ds 0);
      before = rw (at, whole) (take_at front (m ∷ ds) (length front) refl);
      behind = rw (cut, split) (drop_at (front ++ m ∷ []) ds (length front + 1) one);
    }

-- a field that is there is read
pair_of : (a b : List ℕ) (v w : ℕ) → a ≡ b → v ≡ w → ◌≡◌ {A = Option (List ℕ × ℕ)} (Some (a, v)) (Some (b, w))
pair_of a b v w e f = rw (e, f) refl

field_there : (text : List ℕ) (m n : ℕ) (front : List ℕ) (v : ℕ) → Field text m n front v → field_of text m n ≡ Some (front, v)
field_there text m n front v f =
    let p = parts text front f.digits m n f.whole f.numeral.1 in
    let digits : are_digits (drop (length text - n) text) ≡ true = rw p.behind (are_numeral f.digits f.numeral.0) in
    let has : has_field text m n ≡ true = both_true _ _ (both_true _ _ p.there (eq-eqb _ _ p.mark)) digits in
    rw has (pair_of _ _ _ _ p.before (ap (digits_value 10) p.behind ∙ sym f.writes))

-- a field that is read is there
field_is : (text : List ℕ) (m n : ℕ) → has_field text m n ≡ true → Field text m n (take (length text - n - 1) text) (digits_value 10 (drop (length text - n) text))
field_is text m n h =
    let l : n < length text = ltb-true n (length text) (and_left _ _ (and_left _ _ h)) in
    let mark : get_or text (length text - n - 1) 0 ≡ m = eqb-true _ _ (and_right (nat_lt n (length text)) _ (and_left _ _ h)) in
    let i = length text - n - 1 in
    let next : i + 1 ≡ length text - n = omega arith in
    record {
      digits = drop (length text - n) text;
      whole = sym (take-append-drop i text) ∙ ap (λ t. take i text ++ t) (drop_more text i 0 (omega arith) ∙ (rw (mark, next) refl));
      numeral = (numeral _ (and_right _ _ h), omega (arith, length-drop (length text - n) text));
      writes = refl;
    }

some_field : (text : List ℕ) (m n : ℕ) (split : List ℕ × ℕ) (b : Bool) → has_field text m n ≡ b → field_of text m n ≡ Some split → Field text m n split.0 split.1
some_field text m n split true t e =
    let same : ◌≡◌ {A = List ℕ × ℕ} (take (length text - n - 1) text, digits_value 10 (drop (length text - n) text)) split = cc (rw t at e) in
    subst (λ (s : List ℕ × ℕ). Field text m n s.0 s.1) same (field_is text m n t)
some_field text m n split false t e = absurd (cc (rw t at e))

field_read : (text : List ℕ) (m n : ℕ) (split : List ℕ × ℕ) → field_of text m n ≡ Some split → Field text m n split.0 split.1
field_read text m n split e = some_field text m n split _ refl e

no_field : (text : List ℕ) (m n : ℕ) → field_of text m n ≡ None → (front : List ℕ) (v : ℕ) → Field text m n front v → ⊥
no_field text m n e front v f = absurd (cc (sym e ∙ field_there text m n front v f))

-- the fraction
split_at : (text : List ℕ) (o : Option (List ℕ × ℕ)) → field_of text 46 3 ≡ o → IsSplit text (or_whole text o).0 (or_whole text o).1
split_at text None e = inr (no_field text 46 3 e, refl, refl)
split_at text (Some split) e = inl (field_read text 46 3 split e)

-- what the hours, minutes and seconds come to
total_found : (hours : List ℕ) (m s t n : ℕ) (b : Bool) → (are_digits hours && nat_lt m 60 && nat_lt s 60 && nat_le (digits_value 10 hours * 3_600_000 + m * 60_000 + s * 1_000 + t) farthest) ≡ b → total_of hours m s t ≡ Some n → (b ≡ true) × (digits_value 10 hours * 3_600_000 + m * 60_000 + s * 1_000 + t ≡ n)
total_found hours m s t n true h e = (refl, cc (rw h at e))
total_found hours m s t n false h e = absurd (cc (rw h at e))

read_minutes : (text rest front : List ℕ) (t s n : ℕ) → IsSplit text rest t → Field rest 58 2 front s → (o : Option (List ℕ × ℕ)) → field_of front 58 2 ≡ o → option_and_then (λ m. total_of m.0 m.1 s t) o ≡ Some n → IsClock text n
read_minutes text rest front t s n split seconds None h e = absurd (cc e)
read_minutes text rest front t s n split seconds (Some m) h e =
    let r = total_found m.0 m.1 s t n _ refl e in
    let minutes = field_read front 58 2 m h in
    let b = r.0 in
    let sum = r.1 in
    let digits = numeral m.0 (and_left _ _ (and_left _ _ (and_left _ _ b))) in
    let low_minutes = ltb-true m.1 60 (and_right (are_digits m.0) _ (and_left _ _ (and_left _ _ b))) in
    let low_seconds = ltb-true s 60 (and_right (are_digits m.0 && nat_lt m.1 60) _ (and_left _ _ b)) in
    let high = leb-true _ farthest (and_right (are_digits m.0 && nat_lt m.1 60 && nat_lt s 60) _ b) in
    closed text rest front m.0 n t s m.1 split seconds minutes digits low_minutes low_seconds (sym sum) (omega (arith, sum, high))

read_seconds : (text rest : List ℕ) (t n : ℕ) → IsSplit text rest t → (o : Option (List ℕ × ℕ)) → field_of rest 58 2 ≡ o → option_and_then (λ s. option_and_then (λ m. total_of m.0 m.1 s.1 t) (field_of s.0 58 2)) o ≡ Some n → IsClock text n
read_seconds text rest t n split None h e = absurd (cc e)
read_seconds text rest t n split (Some s) h e = read_minutes text rest s.0 t s.1 n split (field_read rest 58 2 s h) (field_of s.0 58 2) refl e

-- the digits' text shows what is read of it
pub clock_read : (text : List ℕ) (n : ℕ) → clock_of text ≡ Some n → IsClock text n
clock_read text n e = let p = or_whole text (field_of text 46 3) in read_seconds text p.0 p.1 n (split_at text _ refl) (field_of p.0 58 2) refl e

-- where no total is found, one of its ranges fails
no_total : (text rest front hours : List ℕ) (t s m n : ℕ) → IsSplit text rest t → Field rest 58 2 front s → Field front 58 2 hours m → (a b c d : Bool)
    → are_digits hours ≡ a → nat_lt m 60 ≡ b → nat_lt s 60 ≡ c → nat_le (digits_value 10 hours * 3_600_000 + m * 60_000 + s * 1_000 + t) farthest ≡ d → total_of hours m s t ≡ None → IsClock text n → ⊥
no_total text rest front hours t s m n split seconds minutes false b c d ea eb ec ed e h = no_hours text rest front hours t s m split seconds minutes (λ k. false≢true (sym ea ∙ are_numeral hours k.0)) n h
no_total text rest front hours t s m n split seconds minutes true false c d ea eb ec ed e h = no_sixty text rest front hours t s m split seconds minutes (inl (ltb-false m 60 eb)) n h
no_total text rest front hours t s m n split seconds minutes true true false d ea eb ec ed e h = no_sixty text rest front hours t s m split seconds minutes (inr (ltb-false s 60 ec)) n h
no_total text rest front hours t s m n split seconds minutes true true true false ea eb ec ed e h =
    let sum = one_total text rest front hours t s m n split seconds minutes h in
    let high = leb-false _ farthest ed in
    omega (arith, sum, high, h.4)
no_total text rest front hours t s m n split seconds minutes true true true true ea eb ec ed e h = absurd (cc (rw (ea, eb, ec, ed) at e))

unread_minutes : (text rest front : List ℕ) (t s n : ℕ) → IsSplit text rest t → Field rest 58 2 front s → (o : Option (List ℕ × ℕ)) → field_of front 58 2 ≡ o → option_and_then (λ m. total_of m.0 m.1 s t) o ≡ None → IsClock text n → ⊥
unread_minutes text rest front t s n split seconds None h e c = no_minutes text rest front t s split seconds (no_field front 58 2 h) n c
unread_minutes text rest front t s n split seconds (Some m) h e c = no_total text rest front m.0 t s m.1 n split seconds (field_read front 58 2 m h) _ _ _ _ refl refl refl refl e c

unread_seconds : (text rest : List ℕ) (t n : ℕ) → IsSplit text rest t → (o : Option (List ℕ × ℕ)) → field_of rest 58 2 ≡ o → option_and_then (λ s. option_and_then (λ m. total_of m.0 m.1 s.1 t) (field_of s.0 58 2)) o ≡ None → IsClock text n → ⊥
unread_seconds text rest t n split None h e c = no_seconds text rest t split (no_field rest 58 2 h) n c
unread_seconds text rest t n split (Some s) h e c = unread_minutes text rest s.0 t s.1 n split (field_read rest 58 2 s h) (field_of s.0 58 2) refl e c

pub clock_unread : (text : List ℕ) → clock_of text ≡ None → (n : ℕ) → IsClock text n → ⊥
clock_unread text e n c = let p = or_whole text (field_of text 46 3) in unread_seconds text p.0 p.1 n (split_at text _ refl) (field_of p.0 58 2) refl e c

-- the sign that a text begins with
begins : (text : List ℕ) → nat_eq (get_or text 0 0) 45 ≡ true → text ≡ 45 ∷ drop 1 text
begins [] h = absurd (false≢true h)
begins (x ∷ xs) h = ap (λ c. c ∷ xs) (eqb-true x 45 h)

read_as : (text : List ℕ) (b : Bool) (time : ℤ) (digits : List ℕ) (o : Option ℕ) → text ≡ sign b ++ digits → clock_of digits ≡ o → option_map (signed b) o ≡ Some time → IsRelTimeText text time
read_as text b time digits None whole c e = absurd (cc e)
read_as text b time digits (Some n) whole c e = (b, digits, n, clock_read digits n c, whole, cc e)

reads : (text : List ℕ) (time : ℤ) (b : Bool) → nat_eq (get_or text 0 0) 45 ≡ b → reltime_of text ≡ Some time → IsRelTimeText text time
reads text time true h e = read_as text true time (drop 1 text) (clock_of (drop 1 text)) (begins text h) refl (rw h at e)
reads text time false h e = read_as text false time text (clock_of text) refl refl (rw h at e)

-- a text shows what is read of it
pub reltime_read : (text : List ℕ) (time : ℤ) → reltime_of text ≡ Some time → IsRelTimeText text time
reltime_read text time e = reads text time _ refl e

no_option : {A B : Type 0} (f : A → B) (o : Option A) → option_map f o ≡ None → o ≡ None
no_option f None e = refl
no_option f (Some x) e = absurd (cc e)

unreads : (text : List ℕ) (b : Bool) → nat_eq (get_or text 0 0) 45 ≡ b → reltime_of text ≡ None → (time : ℤ) → IsRelTimeText text time → ⊥
unreads text true h e = no_clock text (drop 1 text) true (begins text h) (λ f. absurd (cc f)) (clock_unread (drop 1 text) (no_option (signed true) _ (rw h at e)))
unreads text false h e = no_clock text text false refl (λ f z. false≢true (sym h ∙ eq-eqb _ _ z)) (clock_unread text (no_option (signed false) _ (rw h at e)))

pub reltime_unread : (text : List ℕ) → reltime_of text ≡ None → (time : ℤ) → IsRelTimeText text time → ⊥
reltime_unread text e = unreads text _ refl e

-- what is found by the spelling is what is read
pub found_at : (text : List ℕ) (time : ℤ) (o : Option ℤ) → reltime_of text ≡ o → IsRelTimeText text time → Some time ≡ reltime_of text
found_at text time None e h = absurd (reltime_unread text e time h)
found_at text time (Some other) e h = ap Some (one_shown text time other h (reltime_read text other e)) ∙ sym e

none_at : (text : List ℕ) (o : Option ℤ) → reltime_of text ≡ o → ((time : ℤ) → IsRelTimeText text time → ⊥) → None ≡ reltime_of text
none_at text None e h = sym e
none_at text (Some other) e h = absurd (h other (reltime_read text other e))

pub agrees : (text : List ℕ) (found : Option ℤ) → IfSome found (λ time. IsRelTimeText text time) → IfNone found ((time : ℤ) → IsRelTimeText text time → ⊥) → found ≡ reltime_of text
agrees text None some none = none_at text _ refl none
agrees text (Some time) some none = found_at text time _ refl some
