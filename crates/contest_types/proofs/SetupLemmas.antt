-- Settings stay valid as they grow.
use Rattle.std.proofs.Common.{ℕ, ◌≡◌, ◌<◌, ◌≤◌, Bool, true, false, List, [], ◌∷◌, ◌++◌, length, refl, arith}
use Rattle.std.specs.Prelude.{nat_lt, nat_le, Ok}
use Rattle.std.specs.List.{list_all}
use Rattle.std.proofs.lemmas.Bool.Decides.{nat_tests}
use Rattle.std.proofs.lemmas.List.{map-append, length-append}
use Rattle.contest_types.specs.Setup.{refers, labels_of}
use Rattle.contest_types.specs.Places.{is_among, are_different}
use Rattle.contest_types.specs.Additions.{addition_by, grown}
use Rattle.contest_types.specs.declared.id_list.IdMatch.TheVariants.{New}
use Rattle.contest_types.specs.declared.objects.Problem.{Problem}
use Rattle.contest_types.specs.declared.objects.Team.{Team}
use Rattle.contest_types.proofs.PlaceLemmas.{and_left, and_right, both_true, different_push, all_push}

pub all_wider : {T : Type 0} (s t : T → Bool) → ((x : T) → s x ≡ true → t x ≡ true) → (xs : List T) → list_all s xs ≡ true → list_all t xs ≡ true
all_wider s t f [] h = refl
all_wider s t f (x ∷ xs) h = both_true _ _ (f x (and_left _ _ h)) (all_wider s t f xs (and_right (s x) _ h))

pub below_wider : (m n g : ℕ) → m ≤ n → nat_lt g m ≡ true → nat_lt g n ≡ true
below_wider m n g l h = grind (arith, nat_tests)

-- references hold where there are more groups
pub refers_wider : (m n : ℕ) → m ≤ n → (teams : List Team) → list_all (refers m) teams ≡ true → list_all (refers n) teams ≡ true
refers_wider m n l teams h = all_wider (refers m) (refers n) (λ t. all_wider (λ g. nat_lt g m) (λ g. nat_lt g n) (λ g. below_wider m n g l) t.groups) teams h

pub length_grown : {T : Type 0} (added : Bool) (rows : List T) (row : T) → length rows ≤ length (grown added rows row)
length_grown true rows row = omega (arith, length-append rows (row ∷ []))
length_grown false rows row = omega arith

-- one more team whose groups are there
pub refers_grown : (n : ℕ) (added : Bool) (teams : List Team) (team : Team) → list_all (refers n) teams ≡ true → refers n team ≡ true → list_all (refers n) (grown added teams team) ≡ true
refers_grown n true teams team h e = all_push (refers n) teams team h e
refers_grown n false teams team h e = h

-- one more problem whose label is new
pub labels_push : (problems : List Problem) (problem : Problem) → are_different (labels_of problems) ≡ true → is_among (labels_of problems) problem.label ≡ false → are_different (labels_of (problems ++ problem ∷ [])) ≡ true
labels_push problems problem h e = rw map-append (different_push (labels_of problems) problem.label h e)

no_room : (most n : ℕ) (b : Bool) → nat_le most n ≡ b → addition_by New b ≡ Ok true → n < most
no_room most n true e h = absurd (cc h)
no_room most n false e h = grind (arith, nat_tests)

-- a list that took one more had room for it
pub room_for : {T : Type 0} (most : ℕ) (rows : List T) (row : T) → addition_by New (nat_le most (length rows)) ≡ Ok true → length (rows ++ row ∷ []) ≤ most
room_for most rows row h =
    let less = no_room most (length rows) _ refl h in
    omega (arith, less, length-append rows (row ∷ []))
