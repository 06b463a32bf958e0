-- The tests of a valid contest, one by one.
use Rattle.std.proofs.Common.{◌≡◌, Bool, true, List, [], ◌∷◌, refl}
use Rattle.std.specs.Prelude.{◌&&◌}
use Rattle.contest_types.specs.State.{ContestState}
use Rattle.contest_types.specs.ValidFixed.{has_valid_settings, has_valid_clock, has_valid_accounts}
use Rattle.contest_types.specs.ValidSubmissions.{has_valid_submissions, has_valid_proposals, has_valid_releases}
use Rattle.contest_types.specs.ValidClarifications.{has_valid_clarifications}
use Rattle.contest_types.specs.ValidRejudgings.{has_valid_rejudgings}
use Rattle.contest_types.specs.Valid.{is_valid}
use Rattle.contest_types.proofs.PlaceLemmas.{and_left, and_right}
use Rattle.contest_types.proofs.Tests.{each_of, all_of}

-- the tests behind the first
abbrev other_tests : ContestState → List Bool
other_tests x =
    has_valid_clock x ∷ has_valid_accounts x ∷ has_valid_submissions x ∷ has_valid_proposals x ∷ has_valid_releases x
    ∷ has_valid_clarifications x ∷ has_valid_rejudgings x ∷ []

pub record Parts (x : ContestState) : Type 0 where
  pub settings : has_valid_settings x ≡ true
  pub clock : has_valid_clock x ≡ true
  pub accounts : has_valid_accounts x ≡ true
  pub submissions : has_valid_submissions x ≡ true
  pub proposals : has_valid_proposals x ≡ true
  pub releases : has_valid_releases x ≡ true
  pub clarifications : has_valid_clarifications x ≡ true
  pub rejudgings : has_valid_rejudgings x ≡ true

pub parts : (x : ContestState) → is_valid x ≡ true → Parts x
parts x v =
    let each = each_of (has_valid_settings x) (other_tests x) v in
    record { settings = each 0; clock = each 1; accounts = each 2; submissions = each 3; proposals = each 4; releases = each 5; clarifications = each 6; rejudgings = each 7 }

pub whole : (x : ContestState) → Parts x → is_valid x ≡ true
whole x v = all_of (has_valid_settings x) (other_tests x) v.settings (v.clock, (v.accounts, (v.submissions, (v.proposals, (v.releases, (v.clarifications, (v.rejudgings, tt)))))))

pub record AllFour (a b c d : Bool) : Type 0 where
  pub first : a ≡ true
  pub second : b ≡ true
  pub third : c ≡ true
  pub fourth : d ≡ true

pub four : (a b c d : Bool) → (a && b && c && d) ≡ true → AllFour a b c d
four a b c d v =
    let v3 = and_left (a && b && c) d v in
    let v2 = and_left (a && b) c v3 in
    record { first = and_left a b v2; second = and_right a b v2; third = and_right (a && b) c v3; fourth = and_right (a && b && c) d v }

pub all_four : (a b c d : Bool) → a ≡ true → b ≡ true → c ≡ true → d ≡ true → (a && b && c && d) ≡ true
all_four a b c d ta tb tc td = rw (ta, tb, tc, td) refl

pub all_six : (a b c d e f : Bool) → a ≡ true → b ≡ true → c ≡ true → d ≡ true → e ≡ true → f ≡ true → (a && b && c && d && e && f) ≡ true
all_six a b c d e f ta tb tc td te tf = rw (ta, tb, tc, td, te, tf) refl
