-- The lines of bytes that come in pieces.
use Rattle.std.proofs.Common.{◌≡◌, ◌∙◌, ◌≤◌, ◌<◌, ◌+◌, ◌⊎◌, ℕ, suc, Bool, true, false, cond, List, [], ◌∷◌, ◌++◌, length, take, drop, Some, None, Result, Ok, Err, refl, sym, ap, inl, inr, arith, append_assoc, append-nil, length-append}
use Rattle.std.specs.Prelude.{◌==◌, ◌&&◌, ◌||◌, not, nat_lt, if◌then◌else◌}
use Rattle.std.specs.Prelude.{IfErr, IfOk, OnOk}
use Rattle.std.specs.List.{position, position_or_len}
use Rattle.std.specs.Result.{result_and}
use Rattle.std.proofs.lemmas.Bool.{cases_Bool, false≢true, eqb-true, lt-ltb, ltb-false, ltb-true}
use Rattle.std.proofs.lemmas.Bool.Decides.{nat_tests}
use Rattle.contest_types.proofs.PlaceLemmas.{and_left, and_right, both_true}
use Rattle.contest_types.specs.declared.refusal.Cause.{Cause}
use Rattle.contest_types.specs.declared.refusal.Refusal.{Refusal}
use Rattle.contest_types.specs.declared.refusal.Refusal.TheVariants.{BodyTooLarge}
use Rattle.contest_files.specs.FieldTexts.{is_empty}
use Rattle.contest_files.specs.Refused.{Refuses}
use Rattle.contest_feed_reader.specs.Lines.{is_too_large, lines_after}
use Rattle.contest_feed_reader.specs.LinesLeft.{IsSplit, after_last, is_inside, told_at}
use Rattle.contest_feed_reader.specs.Tables.{after_line, after_lines, or_fault_at}
use Rattle.contest_feed_reader.specs.declared.limits.TheConstants.{FEED, FEED_LINE}
use Rattle.contest_feed_reader.specs.declared.tables.Tables.{Tables}

abbrev newline : ℕ → Bool
newline b = b == 10

split_at : (bytes : List ℕ) → position_or_len newline bytes < length bytes → IsSplit bytes (take (position_or_len newline bytes) bytes) (drop (position_or_len newline bytes + 1) bytes)
split_at [] l = absurd (omega (arith, l))
split_at (b ∷ bytes) l =
    let k = position_or_len newline bytes in
    let go : (t : Bool) → (b == 10) ≡ t → (if not t then 1 + k else 0) < length (b ∷ bytes) → IsSplit (b ∷ bytes) (take (if not t then 1 + k else 0) (b ∷ bytes)) (drop ((if not t then 1 + k else 0) + 1) (b ∷ bytes)) = elim [
      | true ↦ λ e m. record { whole = ap (λ c. c ∷ bytes) (eqb-true b 10 e); inside = refl }
      | false ↦ λ e m. (let rest = split_at bytes (omega (arith, m)) in
          let first : 1 + k ≡ suc k = omega arith in
          let next : (1 + k) + 1 ≡ suc (k + 1) = omega arith in
          rw (next, first) (record { whole = ap (λ more. b ∷ more) rest.whole; inside = both_true _ _ (ap not e) rest.inside }))
    ] in
    go (b == 10) refl l

-- a newline that is found
pub split_found : (bytes : List ℕ) (at : ℕ) → Some at ≡ position (λ b. b == 10) bytes → IsSplit bytes (take at bytes) (drop (at + 1) bytes)
split_found bytes at is =
    let k = position_or_len newline bytes in
    let go : (t : Bool) → nat_lt k (length bytes) ≡ t → Some at ≡ cond t (Some k) None → IsSplit bytes (take at bytes) (drop (at + 1) bytes) = elim [
      | true ↦ λ e h. (let same : at ≡ k = cc h in rw same (split_at bytes (ltb-true k (length bytes) e)))
      | false ↦ λ e h. absurd (cc h)
    ] in
    go (nat_lt k (length bytes)) refl is

none_at : (bytes : List ℕ) → (position_or_len newline bytes < length bytes → ⊥) → is_inside bytes ≡ true
none_at [] n = refl
none_at (b ∷ bytes) n =
    let k = position_or_len newline bytes in
    let go : (t : Bool) → (b == 10) ≡ t → ((if not t then 1 + k else 0) < length (b ∷ bytes) → ⊥) → (not t && is_inside bytes) ≡ true = elim [
      | true ↦ λ e m. absurd (m (omega arith))
      | false ↦ λ e m. none_at bytes (λ l. m (omega (arith, l)))
    ] in
    go (b == 10) refl n

-- or none
pub none_found : (bytes : List ℕ) → None ≡ position (λ b. b == 10) bytes → is_inside bytes ≡ true
none_found bytes is =
    let k = position_or_len newline bytes in
    let go : (t : Bool) → nat_lt k (length bytes) ≡ t → None ≡ cond t (Some k) None → is_inside bytes ≡ true = elim [
      | true ↦ λ e h. absurd (cc h)
      | false ↦ λ e h. none_at bytes (λ l. false≢true (sym e ∙ lt-ltb k (length bytes) l))
    ] in
    go (nat_lt k (length bytes)) refl is

-- bytes without a newline are part of the line
pub inside_line : (so_far part more : List ℕ) → is_inside part ≡ true → lines_after so_far (part ++ more) ≡ lines_after (so_far ++ part) more
inside_line so_far [] more h = ap (λ text. lines_after text more) (sym (append-nil so_far))
inside_line so_far (b ∷ part) more h =
    let f : (b == 10) ≡ false = not_true (b == 10) (and_left (not (b == 10)) (is_inside part) h) in
    rw f (inside_line (so_far ++ b ∷ []) part more (and_right (not (b == 10)) (is_inside part) h) ∙ ap (λ text. lines_after text more) (append_assoc so_far (b ∷ []) part))
  where
    not_true : (t : Bool) → not t ≡ true → t ≡ false
    not_true true e = absurd (false≢true e)
    not_true false e = refl

-- what stands so far of a line is over a limit
abbrev pub IsOver : (so_far : List ℕ) → (before : ℕ) → Type 0
IsOver so_far before = (FEED_LINE < length so_far) ⊎ (FEED < before + length so_far)

over_more : (so_far more : List ℕ) (before : ℕ) → IsOver so_far before → IsOver (so_far ++ more) before
over_more so_far more before (inl l) = inl (omega (arith, l, length-append so_far more))
over_more so_far more before (inr l) = inr (omega (arith, l, length-append so_far more))

too_large : (text : List ℕ) (before bytes : ℕ) → IsOver text before → length text ≤ bytes → is_too_large text (before + bytes) ≡ true
too_large text before bytes (inl l) m = ap (λ b. b || nat_lt FEED (before + bytes)) (lt-ltb FEED_LINE (length text) l)
too_large text before bytes (inr l) m = or_right (nat_lt FEED_LINE (length text)) _ (lt-ltb FEED (before + bytes) (omega (arith, l, m)))
  where
    or_right : (a b : Bool) → b ≡ true → (a || b) ≡ true
    or_right true b e = refl
    or_right false b e = e

not_empty : (text : List ℕ) (before : ℕ) → before ≤ FEED → IsOver text before → is_empty text ≡ false
not_empty [] before h (inl l) = absurd (omega (arith, l))
not_empty [] before h (inr l) = absurd (omega (arith, l, h))
not_empty (b ∷ text) before h over = refl

-- so the feed is refused, whatever follows
pub over_refused : (t : Tables) (n before : ℕ) (so_far more : List ℕ) → before ≤ FEED → IsOver so_far before → after_lines t n before (lines_after so_far more) ≡ Err BodyTooLarge
over_refused t n before so_far [] h over =
    rw (not_empty so_far before h over) (rw (too_large so_far before (length so_far) over (omega arith)) refl)
over_refused t n before so_far (b ∷ more) h over = elim (cases_Bool (b == 10)) [
  | inl e ↦ rw e (rw (too_large so_far before (length so_far + 1) over (omega arith)) refl)
  | inr e ↦ rw e (over_refused t n before (so_far ++ b ∷ []) more h (over_more so_far (b ∷ []) before over))
]

-- there is no room for bytes more
pub no_room : (line part : List ℕ) (before : ℕ) (room : Bool) → room ≡ false → ((length line + length part ≤ FEED_LINE) × ((before + length line) + length part ≤ FEED) → room ≡ true) → IsOver (line ++ part) before
no_room line part before room none has =
    let long : length (line ++ part) ≡ length line + length part = length-append line part in
    let n = length line in
    let m = length part in
    elim (cases_Bool (nat_lt FEED_LINE (n + m))) [
      | inl l ↦ inl (let over : FEED_LINE < n + m = ltb-true FEED_LINE (n + m) l in omega (arith, over, long))
      | inr l ↦ elim (cases_Bool (nat_lt FEED ((before + n) + m))) [
        | inl k ↦ inr (let over : FEED < (before + n) + m = ltb-true FEED ((before + n) + m) k in omega (arith, over, long))
        | inr k ↦ absurd (false≢true (sym none ∙ has (ltb-false FEED_LINE (n + m) l, ltb-false FEED ((before + n) + m) k)))
      ]
    ]

-- a line within the limits isn't too large
fits : (text : List ℕ) (bytes : ℕ) → length text ≤ FEED_LINE → bytes ≤ FEED → is_too_large text bytes ≡ false
fits text bytes l k = (let a : nat_lt FEED_LINE (length text) ≡ false = grind (arith, nat_tests, l) in let b : nat_lt FEED bytes ≡ false = grind (arith, nat_tests, k) in rw (a, b) refl)

-- the last line
pub last_line : (t : Tables) (n before : ℕ) (line : List ℕ) → length line ≤ FEED_LINE → before + length line ≤ FEED → after_lines t n before (lines_after line []) ≡ after_last t n line
last_line t n before [] l k = refl
last_line t n before (b ∷ line) l k = rw (fits (b ∷ line) (before + length (b ∷ line)) l k) refl

pub read_last : {U A : Type 0} (judged : Result U Refusal) (read : A) (told : Result A Refusal) → OnOk judged (told ≡ Ok read) → IfOk (result_and judged (Ok read)) (λ r. told ≡ Ok r)
read_last (Ok u) read told h = h
read_last (Err e) read told h = tt

pub refused_last : {U A : Type 0} (judged : Result U Refusal) (read : A) (told : Result A Refusal) → IfErr judged (λ e. Refuses e told) → IfErr (result_and judged (Ok read)) (λ e. Refuses e told)
refused_last (Ok u) read told h = tt
refused_last (Err e) read told h = h

-- the fault of a line is that of the feed
pub fault_stays : (n : ℕ) (judged : Result Tables Cause) (more : Tables → Result Tables Refusal) (e : Refusal) → Refuses e (told_at n judged) → Refuses e (or_fault_at more n judged)
fault_stays n (Ok t) more e (inl m) = inl m
fault_stays n (Ok t) more e (inr bad) = absurd (cc bad)
fault_stays n (Err cause) more e h = h

pub line_refused : {U : Type 0} (t : Tables) (n before : ℕ) (text : List ℕ) (judged : Result U Refusal) → length text ≤ FEED_LINE → before + (length text + 1) ≤ FEED
    → IfErr judged (λ e. Refuses e (told_at n (after_line t n text))) → IfErr judged (λ e. (more : List ℕ) → Refuses e (after_lines t n before (lines_after text (10 ∷ more))))
line_refused t n before text (Ok u) l k h = tt
line_refused t n before text (Err e) l k h = λ more. rw (fits text (before + (length text + 1)) l k) (fault_stays n (after_line t n text) _ e h)
