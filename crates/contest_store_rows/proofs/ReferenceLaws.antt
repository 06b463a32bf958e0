-- The visible id of a clarification names that clarification.
use Rattle.std.proofs.Common.{◌≡◌, ◌∙◌, ℕ, ◌+◌, ◌≤◌, ◌<◌, Bool, true, List, [], ◌∷◌, ◌++◌, length, take, drop, Option, Some, refl, ap, append_assoc, arith}
use Rattle.std.specs.Prelude.{◌==◌, not, false, codes}
use Rattle.std.specs.Str.{bytes_eq}
use Rattle.std.specs.Char.{digit_value}
use Rattle.std.specs.Fmt.{decimal}
use Rattle.std.specs.Int.{IsInRange}
use Rattle.std.specs.List.{list_all, take_while}
use Rattle.std.specs.Option.{option_and_then, option_map}
use Rattle.std.specs.Str.Parse.{AllDigits}
use Rattle.std.proofs.lemmas.Bool.Decides.{nat_tests}
use Rattle.std.proofs.lemmas.Fmt.{decimal_is_IsNumeral}
use Rattle.std.proofs.lemmas.Str.Parse.{digit_from_value}
use Rattle.std.proofs.Math.Seq.{take-append_seam}
use Rattle.std.proofs.lemmas.List.Sums.{take_while-cons}
use Rattle.std.proofs.lemmas.Bool.{le-leb}
use Rattle.contest_types.proofs.PlaceLemmas.{and_left, and_right, both_true}
use Rattle.contest_types.specs.VisibleIds.{clarification_id}
use Rattle.contest_types.specs.declared.clarification.Addressee.{Addressee}
use Rattle.contest_types.specs.declared.clarification.Addressee.TheVariants.{All as ToAll, Group as ToGroup, Team as ToTeam}
use Rattle.contest_types.specs.declared.clarification.Reference.{Reference}
use Rattle.contest_store_rows.specs.Laws.{IsWritableReference}
use Rattle.contest_store_rows.specs.ListRows.{audience_number, reference_id}
use Rattle.contest_store_rows.specs.References.{addressee_named, addressee_numbered, dash_in, largest, number_written, reference_of}
use Rattle.contest_store_rows.proofs.NumeralLemmas.{numeral_tested}
use Rattle.contest_store_rows.proofs.RowLaws.{after_all, less_one}

number_back : (n : ℕ) → n ≤ largest → number_written (decimal n) ≡ Some n
number_back n small =
    let is = decimal_is_IsNumeral n (omega (arith, small)) in
    rw (numeral_tested (decimal n) is.0, is.1, le-leb n largest small) refl

no_dash : (c : ℕ) → digit_value c < 10 → not (c == 45) ≡ true
no_dash c digit =
    let r : IsInRange 48 57 c = digit_from_value c digit in
    grind (arith, nat_tests, r)

abbrev is_no_dash : ℕ → Bool
is_no_dash b = not (b == 45)

all_no_dash : (ds : List ℕ) → AllDigits 10 ds → list_all is_no_dash ds ≡ true
all_no_dash [] all = refl
all_no_dash (c ∷ cs) all = both_true _ _ (no_dash c all.0) (all_no_dash cs all.1)

dash_after : (front rest : List ℕ) → list_all is_no_dash front ≡ true → take_while is_no_dash (front ++ 45 ∷ rest) ≡ front
dash_after [] rest all = refl
dash_after (c ∷ cs) rest all =
    let other : is_no_dash c ≡ true = and_left _ _ all in
    take_while-cons is_no_dash c (cs ++ 45 ∷ rest) ∙ rw other (ap (λ xs. c ∷ xs) (dash_after cs rest (and_right (is_no_dash c) _ all)))

dropped : (ds rest : List ℕ) → drop (length ds) (ds ++ rest) ≡ rest
dropped [] rest = refl
dropped (c ∷ cs) rest = dropped cs rest

team_back : (t : ℕ) → addressee_numbered 99 (t + 1) ≡ Some (ToTeam t)
team_back t = rw (after_all t, less_one t) refl

group_back : (g : ℕ) → addressee_numbered 103 (g + 1) ≡ Some (ToGroup g)
group_back g = rw (after_all g, less_one g) refl

-- an addressee and a number
abbrev both : Option Addressee → Option ℕ → Option Reference
both addressee number = option_and_then (λ a. option_map (λ n. record { addressee = a; number = n }) number) addressee

cut : (at : ℕ) (text front back : List ℕ) → take at text ≡ front → drop at text ≡ back
    → both (addressee_named (take at text)) (number_written (drop 1 (drop at text))) ≡ both (addressee_named front) (number_written (drop 1 back))
cut at text front back taken left = rw (taken, left) refl

-- a letter, a number, a dash and a number
of_letter : (letter : ℕ) (a : Addressee) (ds es : List ℕ) (n number : ℕ) → is_no_dash letter ≡ true → bytes_eq (letter ∷ ds) (codes "g") ≡ false → AllDigits 10 ds → number_written ds ≡ Some n
    → addressee_numbered letter n ≡ Some a → number_written es ≡ Some number → reference_of ((letter ∷ ds) ++ 45 ∷ es) ≡ Some (record { addressee = a; number = number })
of_letter letter a ds es n number no_dash other digits n_is a_is number_is =
    let text = (letter ∷ ds) ++ 45 ∷ es in
    let dash : dash_in text ≡ length (letter ∷ ds) = ap length (dash_after (letter ∷ ds) es (both_true _ _ no_dash (all_no_dash ds digits))) in
    let named : both (addressee_named (letter ∷ ds)) (number_written es) ≡ Some (record { addressee = a; number = number }) = rw (other, n_is, a_is, number_is) refl in
    ap (λ at. both (addressee_named (take at text)) (number_written (drop 1 (drop at text)))) dash
    ∙ (cut (length (letter ∷ ds)) text (letter ∷ ds) (45 ∷ es) (take-append_seam (letter ∷ ds) (45 ∷ es)) (dropped (letter ∷ ds) (45 ∷ es)) ∙ named)

-- `g` with a number isn't `g` alone
not_alone : (ds : List ℕ) (n : ℕ) → number_written ds ≡ Some n → bytes_eq (103 ∷ ds) (codes "g") ≡ false
not_alone [] n is = absurd (cc is)
not_alone (d ∷ ds) n is = refl

by_addressee : (a : Addressee) (n : ℕ) → audience_number a ≤ largest → n ≤ largest → reference_of (clarification_id a n) ≡ Some (record { addressee = a; number = n })
by_addressee ToAll n few small = rw (number_back n small) refl
by_addressee (ToTeam t) n few small =
    let digits = (decimal_is_IsNumeral (t + 1) (omega (arith, few))).0.1 in
    let joined : clarification_id (ToTeam t) n ≡ (99 ∷ decimal (t + 1)) ++ 45 ∷ decimal n = append_assoc (99 ∷ decimal (t + 1)) (45 ∷ []) (decimal n) in
    ap reference_of joined ∙ of_letter 99 (ToTeam t) (decimal (t + 1)) (decimal n) (t + 1) n refl refl digits (number_back (t + 1) few) (team_back t) (number_back n small)
by_addressee (ToGroup g) n few small =
    let digits = (decimal_is_IsNumeral (g + 1) (omega (arith, few))).0.1 in
    let number = number_back (g + 1) few in
    let joined : clarification_id (ToGroup g) n ≡ (103 ∷ decimal (g + 1)) ++ 45 ∷ decimal n = append_assoc (103 ∷ decimal (g + 1)) (45 ∷ []) (decimal n) in
    ap reference_of joined ∙ of_letter 103 (ToGroup g) (decimal (g + 1)) (decimal n) (g + 1) n refl (not_alone (decimal (g + 1)) (g + 1) number) digits number (group_back g) (number_back n small)

pub reference_back : (r : Reference) → IsWritableReference r → reference_of (reference_id r) ≡ Some r
reference_back r w = by_addressee r.addressee r.number w.addressee w.number
