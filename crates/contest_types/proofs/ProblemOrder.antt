-- The keys of the problems follow the order of the board.
use Rattle.std.proofs.Common.{◌≡◌, ℕ, ◌≤◌, List, length, refl, ap, arith, Ordering, map, All, take, true}
use Rattle.std.specs.List.{range_with_len}
use Rattle.std.specs.List.Sorted.{IsPermutation, IsSorted}
use Rattle.std.specs.Cmp.{IsTotalOrder}
use Rattle.std.specs.Ordering.{nat_cmp, ordering_then}
use Rattle.std.specs.Cmp.Lexicographic.{slice_cmp}
use Rattle.std.specs.declared.cmp.Ordering.TheVariants.{Less, Equal, Greater}
use Rattle.std.proofs.lemmas.List.{take_all, length-map, length-take}
use Rattle.std.proofs.lemmas.List.Sorted.{length_permutation}
use Rattle.std.proofs.lemmas.List.FromFn.{length-range_with_len}
use Rattle.std.proofs.lemmas.Cmp.{nat_cmp_total, nat_list_cmp_total, then_total, on_total}
use Rattle.std.proofs.lemmas.Map.Lookups.{exact_bytes}
use Rattle.contest_types.specs.declared.objects.Problem.{Problem}
use Rattle.contest_types.specs.declared.problem_key.ProblemKey.{ProblemKey}
use Rattle.contest_types.specs.declared.limits.TheConstants.{PROBLEMS}
use Rattle.contest_types.specs.Places.{are_different}
use Rattle.contest_types.specs.Setup.{Setup, IsValid}
use Rattle.contest_types.specs.ProblemKeys.{TellsProblem}
use Rattle.contest_types.specs.ProblemPlaces.{problem_cmp, problem_order, ordinal_at, problem_id_at}
use Rattle.contest_types.proofs.Different.{one_place}
use Rattle.contest_types.proofs.KeyOrder.{Follows, sorted_keys, range_rises}

pub then_less : (x y z : Ordering) → ordering_then x y ≡ Less → ordering_then x (ordering_then y z) ≡ Less
then_less Less y z h = refl
then_less Equal y z h = rw h refl
then_less Greater y z h = h

pub then_equal : (x y : Ordering) → ordering_then x y ≡ Equal → y ≡ Equal
then_equal Less y h = cc
then_equal Equal y h = h
then_equal Greater y h = cc

-- the order that the keys' derived `cmp` computes to
abbrev pub key_cmp : ProblemKey → ProblemKey → Ordering
key_cmp a b = ordering_then (nat_cmp a.ordinal b.ordinal) (ordering_then (slice_cmp nat_cmp a.id.now b.id.now) (nat_cmp a.place b.place))

key_cmp_total : IsTotalOrder key_cmp
key_cmp_total = then_total (on_total (λ (k : ProblemKey). k.ordinal) nat_cmp_total) (then_total (on_total (λ (k : ProblemKey). k.id.now) nat_list_cmp_total) (on_total (λ (k : ProblemKey). k.place) nat_cmp_total))

pub problem_cmp_total : (ps : List Problem) → IsTotalOrder (problem_cmp ps)
problem_cmp_total ps = then_total (on_total (ordinal_at ps) nat_cmp_total) (on_total (problem_id_at ps) nat_list_cmp_total)

follows : (ps : List Problem) → are_different (map (λ (p : Problem). p.id) ps) ≡ true → Follows key_cmp (λ k. k.place) (TellsProblem ps) (problem_cmp ps)
follows ps ids = record {
  less = λ a b ta tb h. rw (ta.ordinal, tb.ordinal, ta.id, tb.id) (then_less _ _ (nat_cmp a.place b.place) h);
  exact = λ a b ta tb h. one_place (λ (p : Problem). p.id) ps ids a.place b.place ta.within tb.within (exact_bytes _ _ (then_equal _ _ h));
}

-- the places of the sorted keys are the problems in order
pub problems_sorted : (s : Setup) → IsValid s → (keys ks : List ProblemKey) → IsPermutation keys ks → map (λ (k : ProblemKey). k.place) keys ≡ range_with_len 0 (length s.problems) → All (TellsProblem s.problems) keys → IsSorted key_cmp ks → (n : ℕ) → length ks ≤ n → map (λ (k : ProblemKey). k.place) (take n ks) ≡ problem_order s
problems_sorted s v keys ks p places told up n l =
    let sorted = sorted_keys key_cmp_total (λ (k : ProblemKey). k.place) (TellsProblem s.problems) (problem_cmp_total s.problems) (follows s.problems v.problems) keys ks p told up (rw places (range_rises 0 (length s.problems))) in
    rw (take_all n ks l) (rw places at sorted)

pub few_problems : (s : Setup) → IsValid s → (keys ks : List ProblemKey) → IsPermutation keys ks → map (λ (k : ProblemKey). k.place) keys ≡ range_with_len 0 (length s.problems) → (n : ℕ) (order : List ℕ) → order ≡ map (λ (k : ProblemKey). k.place) (take n ks) → length order ≤ PROBLEMS
few_problems s v keys ks p places n order e =
    omega (arith, ap length e, length-map (take n ks) (λ (k : ProblemKey). k.place), length-take n ks, length_permutation keys ks p, ap length places, length-map keys (λ (k : ProblemKey). k.place), length-range_with_len 0 (length s.problems), v.few_problems)
