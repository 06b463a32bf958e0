-- The ids of submissions and judgements are ids.
use Rattle.std.proofs.Common.{◌≡◌, ◌∙◌, ◌≤◌, ◌<◌, ◌+◌, ◌^◌, ℕ, true, List, [], ◌∷◌, ◌++◌, length, decimal, refl, arith, codes, lt-ltb, le-leb, length-append}
use Rattle.std.specs.List.{list_all}
use Rattle.std.specs.Str.Parse.{AllDigits}
use Rattle.std.proofs.lemmas.Bool.Decides.{nat_tests}
use Rattle.std.proofs.lemmas.Fmt.{decimal_is_IsNumeral, length-decimal-le}
use Rattle.std.proofs.lemmas.List.Folds.{list_all-append}
use Rattle.std.proofs.lemmas.Str.Parse.{digit_from_value}
use Rattle.contest_types.specs.IdText.{IsId, is_id_byte}
use Rattle.contest_types.specs.VisibleIds.{judgement_id, submission_id}
use Rattle.contest_types.specs.declared.limits.TheConstants.{ID_LENGTH}

digit_is : (d : ℕ) → 48 ≤ d → d ≤ 57 → is_id_byte d ≡ true
digit_is d h k = grind (arith, nat_tests, h, k)

digits_are : (ds : List ℕ) → AllDigits 10 ds → list_all is_id_byte ds ≡ true
digits_are [] h = refl
digits_are (d ∷ ds) h = let r = digit_from_value d h.0 in rw (digit_is d r.0 r.1) (digits_are ds h.1)

decimal_bytes : (n : ℕ) → n < 2 ^ 64 → list_all is_id_byte (decimal n) ≡ true
decimal_bytes n h = digits_are (decimal n) (decimal_is_IsNumeral n h).0.1

both : (xs ys : List ℕ) → list_all is_id_byte xs ≡ true → list_all is_id_byte ys ≡ true → list_all is_id_byte (xs ++ ys) ≡ true
both xs ys h k = list_all-append is_id_byte xs ys ∙ rw (h, k) refl

submission_bytes : (team number : ℕ) → team ≤ 1_000 → number ≤ 1_000 → list_all is_id_byte (submission_id team number) ≡ true
submission_bytes team number h k =
    both (codes "s") (decimal (team + 1) ++ (codes "-" ++ decimal number)) refl
    (both (decimal (team + 1)) (codes "-" ++ decimal number) (decimal_bytes (team + 1) (omega (arith, h))) (both (codes "-") (decimal number) refl (decimal_bytes number (omega (arith, k)))))

submission_length : (team number : ℕ) → team ≤ 1_000 → number ≤ 1_000 → length (submission_id team number) ≤ 10
submission_length team number h k =
    let rest = codes "-" ++ decimal number in
    let a = length-decimal-le 4 (team + 1) (omega arith) (omega (arith, h)) (omega (arith, h)) in
    let b = length-decimal-le 4 number (omega arith) (omega (arith, k)) (omega (arith, k)) in
    omega (arith, a, b, length-append (codes "s") (decimal (team + 1) ++ rest), length-append (decimal (team + 1)) rest, length-append (codes "-") (decimal number))

an_id : (rest : List ℕ) → list_all is_id_byte (115 ∷ rest) ≡ true → length rest ≤ 35 → IsId (115 ∷ rest)
an_id rest bytes short =
    let some : 0 < length (115 ∷ rest) = omega arith in
    let few : length (115 ∷ rest) ≤ ID_LENGTH = omega (arith, short) in
    rw (lt-ltb 0 (length (115 ∷ rest)) some, le-leb (length (115 ∷ rest)) ID_LENGTH few) bytes

pub submission_is_id : (team number : ℕ) → team ≤ 1_000 → number ≤ 1_000 → IsId (submission_id team number)
submission_is_id team number h k =
    let few = submission_length team number h k in
    an_id (decimal (team + 1) ++ (codes "-" ++ decimal number)) (submission_bytes team number h k) (omega (arith, few, length-append (codes "s") (decimal (team + 1) ++ (codes "-" ++ decimal number))))

pub judgement_is_id : (team number round : ℕ) → team ≤ 1_000 → number ≤ 1_000 → round < 2 ^ 64 → IsId (judgement_id team number round)
judgement_is_id team number round h k l =
    let few = submission_length team number h k in
    let more = codes "." ++ decimal round in
    let digits = length-decimal-le 20 round (omega arith) (omega (arith, l)) l in
    let rest = (decimal (team + 1) ++ (codes "-" ++ decimal number)) ++ more in
    an_id rest (both (submission_id team number) more (submission_bytes team number h k) (both (codes ".") (decimal round) refl (decimal_bytes round l)))
    (omega (arith, few, digits, length-append (codes "s") (decimal (team + 1) ++ (codes "-" ++ decimal number)), length-append (decimal (team + 1) ++ (codes "-" ++ decimal number)) more, length-append (codes ".") (decimal round)))
