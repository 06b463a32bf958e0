-- The releases on each submission, by which of those each one is.
use Rattle.std.proofs.Common.{◌≡◌, ℕ, List, length, map, refl, sym, ◌∙◌, ap}
use Rattle.std.specs.Prelude.{◌&&◌, nat_eq, nat_lt}
use Rattle.std.specs.List.{list_all}
use Rattle.std.specs.Cmp.Lexicographic.{pointwise}
use Rattle.std.proofs.lemmas.List.Folds.{list_all-map}
use Rattle.contest_types.specs.Series.{in_each}
use Rattle.contest_types.specs.State.{ContestState, of_release}
use Rattle.contest_types.specs.ValidSubmissions.{has_submission, has_valid_releases, on_one_submission, are_valid_releases}
use Rattle.contest_types.specs.declared.submission.Release.{Release}
use Rattle.contest_store_valid.specs.Numbering.{numbered}
use Rattle.contest_store_valid.specs.Keys.{pair_of, same_numbers}
use Rattle.contest_store_valid.proofs.StepLemmas.{all_both}
use Rattle.contest_store_valid.proofs.NumberLemmas.{Tells, tells, each_counts_up}
use Rattle.contest_store_valid.proofs.PairLemmas.{same_numbers_equiv}

abbrev pair : Release → ℕ × ℕ
pair v = pair_of (of_release v)

release_tells : Tells on_one_submission same_numbers pair
release_tells = tells on_one_submission same_numbers pair same_numbers_equiv (λ v w. refl)

pub numbered_by_submission : (vs : List Release) (pairs : List (ℕ × ℕ)) (rounds : List ℕ) → pairs ≡ map (λ (v : Release). pair_of (of_release v)) vs → rounds ≡ map (λ (v : Release). v.round) vs
    → pointwise nat_eq rounds (numbered (λ j k. nat_eq j.0 k.0 && nat_eq j.1 k.1) pairs) ≡ in_each on_one_submission are_valid_releases vs
numbered_by_submission vs pairs rounds p r = rw (p, r) (sym (each_counts_up (λ v. v.round) release_tells vs))

pub on_submissions : (x : ContestState) (vs : List Release) (pairs : List (ℕ × ℕ)) → pairs ≡ map (λ (v : Release). pair_of (of_release v)) vs
    → list_all (λ k. has_submission x k.0 k.1) pairs ≡ list_all (λ (v : Release). has_submission x v.team v.number) vs
on_submissions x vs pairs h = ap (list_all (λ k. has_submission x k.0 k.1)) h ∙ list_all-map (λ k. has_submission x k.0 k.1) pair vs

pub valid_releases : (x : ContestState)
    → has_valid_releases x
    ≡ (list_all (λ (v : Release). has_submission x v.team v.number) x.releases && list_all (λ (v : Release). nat_lt v.verdict (length x.fixed.settings.types)) x.releases && in_each on_one_submission are_valid_releases x.releases)
valid_releases x =
    ap (λ b. b && in_each on_one_submission are_valid_releases x.releases)
    (all_both (λ (v : Release). has_submission x v.team v.number) (λ v. nat_lt v.verdict (length x.fixed.settings.types)) x.releases)
