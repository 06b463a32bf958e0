-- The file of a submission that stands is found by its number.
use Rattle.std.proofs.Common.{◌≡◌, ◌∙◌, ◌+◌, ℕ, zero, suc, true, false, List, [], ◌∷◌, length, map, Some, refl, sym, ap, arith}
use Rattle.std.specs.Prelude.{◌==◌, ◌&&◌, find, slice_get}
use Rattle.std.specs.List.{range_with_len}
use Rattle.std.specs.Option.{option_map}
use Rattle.std.proofs.lemmas.Bool.{eq-eqb}
use Rattle.std.proofs.lemmas.Bool.Decides.{nat_tests}
use Rattle.contest_types.specs.Loads.{file_of}
use Rattle.contest_types.specs.State.{ContestState, submissions_of}
use Rattle.contest_types.specs.Valid.{is_valid}
use Rattle.contest_types.specs.declared.submission.Submission.{Submission}
use Rattle.contest_view.proofs.OwnNumbers.{number_of, find_both, own_numbers}
use Rattle.contest_types.proofs.Ranges.{first_is, rest_is}

number_at : (ss : List Submission) (k n i : ℕ) (s : Submission) → map number_of ss ≡ range_with_len k n → slice_get ss i ≡ Some s → s.number ≡ k + i
number_at [] k n i s all at = absurd (cc at)
number_at (t ∷ ss) k zero i s all at = absurd (cc all)
number_at (t ∷ ss) k (suc n) zero s all at = let e : t ≡ s = cc at in let f : t.number ≡ k = first_is _ k n _ all in let g : s.number ≡ k = ap number_of (sym e) ∙ f in omega (arith, g)
number_at (t ∷ ss) k (suc n) (suc i) s all at = let f : s.number ≡ (k + 1) + i = number_at ss (k + 1) n i s (rest_is _ k n _ all) at in omega (arith, f)

other_number : (a b k i : ℕ) → a ≡ k → b ≡ (k + 1) + i → (a == b) ≡ false
other_number a b k i f g = grind (arith, nat_tests, f, g)

found_at : (ss : List Submission) (k n i : ℕ) (s : Submission) → map number_of ss ≡ range_with_len k n → slice_get ss i ≡ Some s → find (λ t. t.number == s.number) ss ≡ Some s
found_at [] k n i s all at = absurd (cc at)
found_at (t ∷ ss) k zero i s all at = absurd (cc all)
found_at (t ∷ ss) k (suc n) zero s all at = let e : t ≡ s = cc at in rw (e, eq-eqb s.number s.number refl) refl
found_at (t ∷ ss) k (suc n) (suc i) s all at =
    let other : (t.number == s.number) ≡ false = other_number t.number s.number k i (first_is _ k n _ all) (number_at ss (k + 1) n i s (rest_is _ k n _ all) at) in
    rw other (found_at ss (k + 1) n i s (rest_is _ k n _ all) at)

pub file_there : (x : ContestState) (team place : ℕ) (s : Submission) → is_valid x ≡ true → slice_get (submissions_of team x.submissions) place ≡ Some s
    → file_of x team s.number ≡ Some s.file
file_there x team place s valid at =
    let own = submissions_of team x.submissions in
    let found : find (λ t. t.number == s.number) own ≡ Some s = found_at own 1 (length (map number_of own)) place s (own_numbers x team valid) at in
    let both : find (λ t. (t.team == team) && (t.number == s.number)) x.submissions ≡ Some s = find_both (λ t. t.team == team) (λ t. t.number == s.number) x.submissions ∙ found in
    ap (option_map (λ (t : Submission). t.file)) both
