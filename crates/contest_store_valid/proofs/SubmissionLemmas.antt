-- The submissions of each team, by which of its team's each one is.
use Rattle.std.proofs.Common.{◌≡◌, ℕ, Bool, List, length, map, refl, sym, ◌∙◌, ap}
use Rattle.std.specs.Prelude.{◌&&◌, nat_eq, nat_le}
use Rattle.std.specs.Borrow.{Bor}
use Rattle.std.specs.List.{list_all}
use Rattle.std.specs.Cmp.{nat_eq_equiv}
use Rattle.std.specs.Cmp.Lexicographic.{pointwise}
use Rattle.contest_types.specs.Series.{in_each, count_up, never_fall, have_own_keys}
use Rattle.contest_types.specs.ValidSubmissions.{of_one_team, are_valid_submissions}
use Rattle.contest_types.specs.declared.limits.TheConstants.{TEAM_SUBMISSIONS}
use Rattle.contest_types.specs.declared.submission.Submission.{Submission}
use Rattle.contest_store_valid.specs.Numbering.{numbered}
use Rattle.contest_store_valid.specs.Keys.{keyed, same_keyed, read}
use Rattle.contest_store_valid.proofs.StepLemmas.{in_each_both}
use Rattle.contest_store_valid.proofs.NumberLemmas.{Tells, tells, each_counts_up, each_has_few, numbered_read}
use Rattle.contest_store_valid.proofs.KeyLemmas.{own_keys_numbered}

abbrev counts : List Submission → Bool
counts own = count_up (map (λ (s : Submission). s.number) own)

abbrev in_time : List Submission → Bool
in_time own = never_fall (map (λ (s : Submission). s.time) own)

abbrev keys : List Submission → Bool
keys own = have_own_keys (map (λ (s : Submission). s.key) own)

abbrev few : List Submission → Bool
few own = nat_le (length own) TEAM_SUBMISSIONS

team_tells : Tells of_one_team nat_eq (λ (s : Submission). s.team)
team_tells = tells of_one_team nat_eq (λ s. s.team) nat_eq_equiv (λ s t. refl)

pub numbered_by_team : (xs : List Submission) (teams numbers : List ℕ) → teams ≡ map (λ (s : Submission). s.team) xs → numbers ≡ map (λ (s : Submission). s.number) xs
    → pointwise nat_eq numbers (numbered nat_eq teams) ≡ in_each of_one_team counts xs
numbered_by_team xs teams numbers t n = rw (t, n) (sym (each_counts_up (λ s. s.number) team_tells xs))

pub few_by_team : (xs : List Submission) → in_each of_one_team few xs ≡ list_all (λ n. nat_le n TEAM_SUBMISSIONS) (numbered nat_eq (map (λ (s : Submission). s.team) xs))
few_by_team = each_has_few TEAM_SUBMISSIONS team_tells

pub keys_by_team : (xs : List Submission) (ks : List (ℕ × Bor (List ℕ))) → map read ks ≡ keyed (λ (s : Submission). s.team) (λ s. s.key) xs
    → in_each of_one_team keys xs ≡ list_all (λ n. nat_le n 1) (numbered (λ j k. nat_eq j.0 k.0 && pointwise nat_eq j.1.now k.1.now) ks)
keys_by_team xs ks h =
    own_keys_numbered (λ s. s.key) team_tells xs
    ∙ ap (list_all (λ n. nat_le n 1)) (ap (numbered (same_keyed nat_eq)) (sym h) ∙ sym (numbered_read read (same_keyed nat_eq) (λ j k. nat_eq j.0 k.0 && pointwise nat_eq j.1.now k.1.now) (λ j k. refl) ks))

pub by_team : (xs : List Submission) → in_each of_one_team are_valid_submissions xs ≡ (in_each of_one_team counts xs && in_each of_one_team in_time xs && in_each of_one_team keys xs && in_each of_one_team few xs)
by_team xs =
    in_each_both of_one_team (λ own. counts own && in_time own && keys own) few xs
    ∙ ap (λ b. b && in_each of_one_team few xs) (in_each_both of_one_team (λ own. counts own && in_time own) keys xs
    ∙ ap (λ b. b && in_each of_one_team keys xs) (in_each_both of_one_team counts in_time xs))
