-- The text of a plain value is read back as that value, and is one line.
use Rattle.std.proofs.Common.{◌≡◌, ◌∙◌, ◌≤◌, ◌<◌, ℕ, zero, suc, Bool, true, false, List, [], ◌∷◌, ◌++◌, Some, Ordering, Less, Equal, Greater, decimal, option_map, option_and_then, refl, sym, ap, inl, inr, arith, append-nil, ne_eqb}
use Rattle.std.specs.Prelude.{◌&&◌, ◌==◌, not}
use Rattle.std.specs.Cmp.Lexicographic.{slice_cmp}
use Rattle.std.specs.List.{list_all}
use Rattle.std.specs.Ordering.{is_gt, nat_cmp}
use Rattle.std.specs.Str.{IsUtf8}
use Rattle.std.specs.Str.Parse.{AllDigits}
use Rattle.std.proofs.lemmas.Bool.{and_parts, cases_eq, cases_lt}
use Rattle.std.proofs.lemmas.Fmt.{IsAscii-decimal, decimal_is_IsNumeral}
use Rattle.std.proofs.lemmas.Str.{IsUtf8-append, IsUtf8-from_ascii}
use Rattle.std.proofs.lemmas.Str.Parse.{digit_from_value}
use Rattle.json.specs.Json.{if_last, value}
use Rattle.json.specs.Lex.{tokens}
use Rattle.json.specs.Print.{escape, escape_byte, quoted}
use Rattle.json.specs.Tree as tree
use Rattle.json.specs.Tree.{HasNumbers, ItemsHaveNumbers, MembersHaveNumbers, json_tokens}
use Rattle.json.proofs.Printed.Decimals.{IsNumber-decimal}
use Rattle.json.proofs.Printed.Strings.{escape_byte_plain}
use Rattle.json.proofs.Printed.Tokens.{tokens-print}
use Rattle.json.proofs.Printed.Trees.{ArePrintable-json_tokens, value-json_tokens}
use Rattle.json.proofs.Printed.Utf8.{IsUtf8-are_ascii, IsUtf8-quoted}
use Rattle.serde_json.specs.Data.{unsigned, negative, float, Data, null, boolean, number, string, array, object, Items, no_items, item, Members, no_members, member, depth, items_depth, members_depth, put}
use Rattle.serde_json.specs.Read.{max_depth, of_json, of_items, of_members, read}
use Rattle.serde_json.specs.Written.{comma_if, compact_text, items_outline, items_text, members_outline, members_text, outline}
use Rattle.serde_json.proofs.Numbers.{number_of-decimal}
use Rattle.serde_json.proofs.Texts.{print-outline}
use Rattle.contest_round_trip.specs.PlainValues.{Fits, ItemsFit, MembersFit, are_ordered, is_above, is_ordered, joined, rise_above}

-- ---- numbers

mutual
  numbers : (d : Data) → Fits d → HasNumbers (outline d)
  numbers null h = tt
  numbers (boolean b) h = tt
  numbers (number (unsigned n)) h = IsNumber-decimal n h
  numbers (number (negative z)) h = absurd h
  numbers (number (float x)) h = absurd h
  numbers (string s) h = tt
  numbers (array ds) h = items_numbers ds h
  numbers (object ms) h = members_numbers ms h

  items_numbers : (ds : Items) → ItemsFit ds → ItemsHaveNumbers (items_outline ds)
  items_numbers no_items h = tt
  items_numbers (item d ds) h = (numbers d h.0, items_numbers ds h.1)

  members_numbers : (ms : Members) → MembersFit ms → MembersHaveNumbers (members_outline ms)
  members_numbers no_members h = tt
  members_numbers (member k d ms) h = (numbers d h.0, members_numbers ms h.1)

-- ---- members in their order

greater : (o : Ordering) → is_gt o ≡ true → o ≡ Greater
greater Less e = absurd cc
greater Equal e = absurd cc
greater Greater e = refl

put_last : (k : List ℕ) (d : Data) (found : Members) → is_above k found ≡ true → put k d found ≡ joined found (member k d no_members)
put_last k d no_members e = refl
put_last k d (member l f ms) e =
    let parts = and_parts (is_gt (slice_cmp nat_cmp k l)) (is_above k ms) e in
    rw (greater (slice_cmp nat_cmp k l) parts.0) (ap (member l f) (put_last k d ms parts.1))

joined_one : (found : Members) (k : List ℕ) (d : Data) (ms : Members) → joined (joined found (member k d no_members)) ms ≡ joined found (member k d ms)
joined_one no_members k d ms = refl
joined_one (member l e found) k d ms = ap (member l e) (joined_one found k d ms)

joined_none : (found : Members) → joined found no_members ≡ found
joined_none no_members = refl
joined_none (member l e found) = ap (member l e) (joined_none found)

mutual
  of_outline : (d : Data) → Fits d → is_ordered d ≡ true → of_json (outline d) ≡ Some d
  of_outline null h e = refl
  of_outline (boolean b) h e = refl
  of_outline (number (unsigned n)) h e = ap (option_map number) (number_of-decimal n h)
  of_outline (number (negative z)) h e = absurd h
  of_outline (number (float x)) h e = absurd h
  of_outline (string s) h e = refl
  of_outline (array ds) h e = ap (option_map array) (of_items_outline ds h e)
  of_outline (object ms) h e = ap (option_map object) (of_members_outline ms no_members h e)

  of_items_outline : (ds : Items) → ItemsFit ds → are_ordered ds ≡ true → of_items (items_outline ds) ≡ Some ds
  of_items_outline no_items h e = refl
  of_items_outline (item d ds) h e =
      let parts = and_parts (is_ordered d) (are_ordered ds) e in
      ap (option_and_then (λ f. option_map (item f) (of_items (items_outline ds)))) (of_outline d h.0 parts.0)
      ∙ ap (option_map (item d)) (of_items_outline ds h.1 parts.1)

  of_members_outline : (ms found : Members) → MembersFit ms → rise_above found ms ≡ true → of_members (members_outline ms) found ≡ Some (joined found ms)
  of_members_outline no_members found h e = ap Some (sym (joined_none found))
  of_members_outline (member k d ms) found h e =
      let later = and_parts _ _ (and_parts _ _ e).1 in
      let inner = and_parts (is_ordered d) (rise_above (joined found (member k d no_members)) ms) later.1 in
      ap (option_and_then (λ f. of_members (members_outline ms) (put k f found))) (of_outline d h.0 inner.0)
      ∙ ap (of_members (members_outline ms)) (put_last k d found later.0)
      ∙ of_members_outline ms (joined found (member k d no_members)) h.1 inner.1
      ∙ ap Some (joined_one found k d ms)

-- ---- the outline nests as the value does

mutual
  as_deep : (d : Data) → tree.depth (outline d) ≡ depth d
  as_deep null = refl
  as_deep (boolean b) = refl
  as_deep (number n) = refl
  as_deep (string s) = refl
  as_deep (array ds) = ap suc (items_as_deep ds)
  as_deep (object ms) = ap suc (members_as_deep ms)

  items_as_deep : (ds : Items) → tree.items_depth (items_outline ds) ≡ items_depth ds
  items_as_deep no_items = refl
  items_as_deep (item d ds) = rw (as_deep d, items_as_deep ds) refl

  members_as_deep : (ms : Members) → tree.members_depth (members_outline ms) ≡ members_depth ms
  members_as_deep no_members = refl
  members_as_deep (member k d ms) = rw (as_deep d, members_as_deep ms) refl

-- the text is read back
pub read_back : (d : Data) → Fits d → is_ordered d ≡ true → depth d ≤ 127 → read (compact_text d) ≡ Some d
read_back d h e shallow =
    let j = outline d in
    let read_tokens : tokens (compact_text d) ≡ json_tokens j = ap tokens (sym (print-outline d)) ∙ tokens-print (json_tokens j) (ArePrintable-json_tokens j (numbers d h)) in
    let nests : tree.depth j ≤ max_depth = omega (arith, as_deep d, shallow) in
    let read_value : value max_depth (tokens (compact_text d)) ≡ Some (j, []) =
    ap (value max_depth) (read_tokens ∙ sym (append-nil (json_tokens j))) ∙ value-json_tokens j max_depth [] nests in
    ap (λ o. option_and_then of_json (option_and_then (λ p. if_last p.0 p.1) o)) read_value ∙ of_outline d h e

-- ---- UTF-8

utf8_comma : (later : Bool) → IsUtf8 (comma_if later)
utf8_comma true = IsUtf8-are_ascii _ refl
utf8_comma false = IsUtf8-are_ascii _ refl

mutual
  pub utf8_text : (d : Data) → Fits d → is_ordered d ≡ true → IsUtf8 (compact_text d)
  utf8_text null h e = IsUtf8-are_ascii _ refl
  utf8_text (boolean true) h e = IsUtf8-are_ascii _ refl
  utf8_text (boolean false) h e = IsUtf8-are_ascii _ refl
  utf8_text (number (unsigned n)) h e = IsUtf8-from_ascii (decimal n) (IsAscii-decimal n h)
  utf8_text (number (negative z)) h e = absurd h
  utf8_text (number (float x)) h e = absurd h
  utf8_text (string s) h e = IsUtf8-quoted s h
  utf8_text (array ds) h e = IsUtf8-append (91 ∷ []) _ (IsUtf8-are_ascii _ refl) (utf8_items false ds h e)
  utf8_text (object ms) h e = IsUtf8-append (123 ∷ []) _ (IsUtf8-are_ascii _ refl) (utf8_members false no_members ms h e)

  utf8_items : (later : Bool) (ds : Items) → ItemsFit ds → are_ordered ds ≡ true → IsUtf8 (items_text later ds)
  utf8_items later no_items h e = IsUtf8-are_ascii _ refl
  utf8_items later (item d ds) h e =
      let parts = and_parts (is_ordered d) (are_ordered ds) e in
      IsUtf8-append _ _ (utf8_comma later) (IsUtf8-append _ _ (utf8_text d h.0 parts.0) (utf8_items true ds h.1 parts.1))

  utf8_members : (later : Bool) (before ms : Members) → MembersFit ms → rise_above before ms ≡ true → IsUtf8 (members_text later ms)
  utf8_members later before no_members h e = IsUtf8-are_ascii _ refl
  utf8_members later before (member k d ms) h e =
      let first = and_parts _ _ e in
      let later_parts = and_parts _ _ first.1 in
      let inner = and_parts (is_ordered d) (rise_above (joined before (member k d no_members)) ms) later_parts.1 in
      IsUtf8-append _ _ (utf8_comma later) (IsUtf8-append _ _ (IsUtf8-quoted k (IsUtf8-are_ascii k first.0))
      (IsUtf8-append (58 ∷ []) _ (IsUtf8-are_ascii _ refl) (IsUtf8-append _ _ (utf8_text d h.0 inner.0) (utf8_members true _ ms h.1 inner.1))))

-- ---- no newline

abbrev in_line : List ℕ → Bool
in_line bytes = list_all (λ b. not (b == 10)) bytes

in_line-append : (xs ys : List ℕ) → in_line xs ≡ true → in_line ys ≡ true → in_line (xs ++ ys) ≡ true
in_line-append [] ys e f = f
in_line-append (x ∷ xs) ys e f = let parts = and_parts (not (x == 10)) (in_line xs) e in rw parts.0 (in_line-append xs ys parts.1 f)

-- the escapes of the bytes below n
abbrev escapes_in_line : ℕ → Bool
escapes_in_line zero = true
escapes_in_line (suc n) = in_line (escape_byte n) && escapes_in_line n

low_in_line : (n : ℕ) → escapes_in_line n ≡ true → (x : ℕ) → x < n → in_line (escape_byte x) ≡ true
low_in_line zero e x h = absurd (omega arith)
low_in_line (suc n) e x h =
    let p = and_parts _ _ e in
    elim (cases_eq x n) [ inl same ↦ rw same p.0 | inr other ↦ low_in_line n p.1 x (omega arith) ]

ascii_in_line : escapes_in_line 128 ≡ true
unfolding escape_byte
ascii_in_line = refl

byte_in_line : (x : ℕ) → in_line (escape_byte x) ≡ true
byte_in_line x = elim (cases_lt x 128) [
  | inl small ↦ low_in_line 128 ascii_in_line x small
  | inr big ↦ rw (escape_byte_plain x (λ e. omega arith) (λ e. omega arith) (omega arith)) (one_in_line x (omega arith))
]
  where
    one_in_line : (y : ℕ) → 10 < y → in_line (y ∷ []) ≡ true
    one_in_line y big = rw (ne_eqb y 10 (λ e. omega (arith, e, big))) refl

escape_in_line : (s : List ℕ) → in_line (escape s) ≡ true
escape_in_line [] = refl
escape_in_line (x ∷ s) = in_line-append (escape_byte x) (escape s) (byte_in_line x) (escape_in_line s)

quoted_in_line : (s : List ℕ) → in_line (quoted s) ≡ true
quoted_in_line s = in_line-append (escape s) (34 ∷ []) (escape_in_line s) refl

digits_in_line : (ds : List ℕ) → AllDigits 10 ds → in_line ds ≡ true
digits_in_line [] h = refl
digits_in_line (d ∷ ds) h = rw (ne_eqb d 10 (λ e. omega (arith, e, digit_from_value d h.0))) (digits_in_line ds h.1)

comma_in_line : (later : Bool) → in_line (comma_if later) ≡ true
comma_in_line true = refl
comma_in_line false = refl

mutual
  pub text_in_line : (d : Data) → Fits d → in_line (compact_text d) ≡ true
  text_in_line null h = refl
  text_in_line (boolean true) h = refl
  text_in_line (boolean false) h = refl
  text_in_line (number (unsigned n)) h = digits_in_line (decimal n) (decimal_is_IsNumeral n h).0.1
  text_in_line (number (negative z)) h = absurd h
  text_in_line (number (float x)) h = absurd h
  text_in_line (string s) h = quoted_in_line s
  text_in_line (array ds) h = items_in_line false ds h
  text_in_line (object ms) h = members_in_line false ms h

  items_in_line : (later : Bool) (ds : Items) → ItemsFit ds → in_line (items_text later ds) ≡ true
  items_in_line later no_items h = refl
  items_in_line later (item d ds) h = in_line-append (comma_if later) _ (comma_in_line later) (in_line-append (compact_text d) _ (text_in_line d h.0) (items_in_line true ds h.1))

  members_in_line : (later : Bool) (ms : Members) → MembersFit ms → in_line (members_text later ms) ≡ true
  members_in_line later no_members h = refl
  members_in_line later (member k d ms) h =
      in_line-append (comma_if later) _ (comma_in_line later) (in_line-append (quoted k) _ (quoted_in_line k)
      (in_line-append (compact_text d) _ (text_in_line d h.0) (members_in_line true ms h.1)))
