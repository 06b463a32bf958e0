-- What is known of a rejudging that was read.
use Rattle.std.proofs.Common.{◌≡◌, ℕ, ◌<◌, ◌≤◌, List, length, Bool, true, false, Option, Some, None, Ok, codes, refl, ap, subst, arith}
use Rattle.std.specs.Prelude.{nat_lt, nat_le, ◌&&◌, if◌then◌else◌}
use Rattle.std.specs.Option.{ok_or, option_map, option_and_then}
use Rattle.std.proofs.lemmas.Bool.Decides.{nat_tests}
use Rattle.std.proofs.lemmas.Option.{option_and_then_some}
use Rattle.serde_json.specs.Data.{Data}
use Rattle.serde_json.specs.Find.{get}
use Rattle.contest_types.specs.Places.{are_different}
use Rattle.contest_types.specs.declared.limits.TheConstants.{REJUDGING_MEMBERS}
use Rattle.contest_types.specs.declared.refusal.Refusal.TheVariants.{Malformed}
use Rattle.contest_types.proofs.PlaceLemmas.{and_left, and_right}
use Rattle.contest_rules.specs.declared.opening.WantedRejudging.{WantedRejudging}
use Rattle.contest_files.specs.JsonMembers.{data_of, name_in}
use Rattle.contest_requests.specs.RejudgingBodies.{may_be_members, posted_rejudging, rejudging_in, rejudging_of, submissions_in, texts_in}

-- what passes a test is what was tested
kept : (b : Bool) (xs ys : List (List ℕ)) → (if b then Some xs else None) ≡ Some ys → (b ≡ true) × (xs ≡ ys)
kept true xs ys is = (refl, cc is)
kept false xs ys is = absurd (cc is)

members_read : (d : Data) (ids : List (List ℕ)) → submissions_in d ≡ Some ids → may_be_members ids ≡ true
members_read d ids is = option_and_then_some (λ found. if may_be_members found then Some found else None) (option_and_then texts_in (get (codes "submission_ids") d)) ids is
    (λ found _ passed. (let k = kept (may_be_members found) found ids passed in subst (λ xs. may_be_members xs ≡ true) k.1 k.0))

-- the members of what is read are those that its object names
members_named : (reason : List ℕ) (o : Option (List (List ℕ))) (w : WantedRejudging) → option_map (λ submissions. record { reason = reason; submissions = submissions }) o ≡ Some w → o ≡ Some w.submissions
members_named reason None w is = absurd (cc is)
members_named reason (Some ids) w is = let same : record { reason = reason; submissions = ids } ≡ w = cc is in ap (λ (v : WantedRejudging). Some v.submissions) same

object_read : (d : Data) (w : WantedRejudging) → rejudging_of d ≡ Some w → may_be_members w.submissions ≡ true
unfolding rejudging_of
object_read d w is = option_and_then_some _ (name_in (codes "reason") d) w is (λ reason _ more. members_read d w.submissions (members_named reason (submissions_in d) w more))

body_read : (body : List ℕ) (w : WantedRejudging) → rejudging_in body ≡ Some w → may_be_members w.submissions ≡ true
body_read body w is = option_and_then_some rejudging_of (data_of body) w is (λ d _ more. object_read d w more)

-- what is read names no submission twice, and not too many
pub rejudging_fits : (body : List ℕ) (w : WantedRejudging) → rejudging_in body ≡ Some w → (are_different w.submissions ≡ true) × (length w.submissions ≤ REJUDGING_MEMBERS)
rejudging_fits body w is =
    let ids = w.submissions in
    let all : may_be_members ids ≡ true = body_read body w is in
    let counted = nat_lt 0 (length ids) && nat_le (length ids) REJUDGING_MEMBERS in
    let few : nat_le (length ids) REJUDGING_MEMBERS ≡ true = and_right (nat_lt 0 (length ids)) _ (and_left counted (are_different ids) all) in
    (and_right counted (are_different ids) all, grind (arith, nat_tests, few))

-- and it names one at least
pub rejudging_names_some : (body : List ℕ) (w : WantedRejudging) → rejudging_in body ≡ Some w → 0 < length w.submissions
rejudging_names_some body w is =
    let ids = w.submissions in
    let some : nat_lt 0 (length ids) ≡ true = and_left _ (nat_le (length ids) REJUDGING_MEMBERS) (and_left _ (are_different ids) (body_read body w is)) in
    grind (arith, nat_tests, some)

passed : (o : Option WantedRejudging) (w : WantedRejudging) → ok_or o Malformed ≡ Ok w → o ≡ Some w
passed None w is = absurd (cc is)
passed (Some v) w is = cc is

-- what a caller posts fits too
pub posted_rejudging_fits : (judge : Option (List ℕ)) (body : List ℕ) (w : WantedRejudging) → posted_rejudging judge body ≡ Ok w → (are_different w.submissions ≡ true) × (length w.submissions ≤ REJUDGING_MEMBERS)
posted_rejudging_fits None body w is = absurd (cc is)
posted_rejudging_fits (Some account) body w is = rejudging_fits body w (passed (rejudging_in body) w is)
