-- The order in which submissions are exported.
use Rattle.std.proofs.Common.{◌≡◌, ◌∙◌, true, List, map, ap, subst}
use Rattle.std.specs.List.{IsDistinct}
use Rattle.std.specs.List.Sorted.{IsPermutation, IsSorted}
use Rattle.std.specs.Ordering.{eq_by_cmp, is_lt}
use Rattle.std.proofs.lemmas.Cmp.{eq_by_cmp_equiv}
use Rattle.std.proofs.lemmas.List.Sorted.{IsPermutation-sym}
use Rattle.std.proofs.lemmas.Map.Keys.{IsDistinct-IsPermutation}
use Rattle.std.proofs.lemmas.Simd.{map-map}
use Rattle.contest_types.specs.Loads.{without_file}
use Rattle.contest_types.specs.Order.{Has, in_order}
use Rattle.contest_types.specs.State.{ContestState}
use Rattle.contest_types.specs.Valid.{is_valid}
use Rattle.contest_types.specs.declared.submission.Submission.{Submission}
use Rattle.contest_types.proofs.InOrderLemmas.{nothing_added, nothing_lost}
use Rattle.contest_types.proofs.OrderLemmas.{same_order}
use Rattle.contest_types.proofs.Rising.{rising, strict}
use Rattle.contest_types.proofs.SeenWhole.{both_equal, one_submission, team_there}
use Rattle.contest_types.proofs.ValidParts.{parts}
use Rattle.contest_types.specs.declared.objects.Team.{Team}
use Rattle.contest_types.proofs.SettingsTest.{is_settings}
use Rattle.contest_types.proofs.Different.{one_place}
use Rattle.std.proofs.lemmas.Map.Lookups.{exact_bytes, exact_unsigned}
use Rattle.std.specs.declared.cmp.Ordering.TheVariants.{Equal}
use Rattle.contest_lists.specs.Lists.{loaded}
use Rattle.contest_objects.proofs.ListingLemmas.{sorted_unmap, unmap}
use Rattle.contest_objects.proofs.Sorting.{moved_has, rises}
use Rattle.contest_view.specs.Rows.{row_cmp, row_total}
use Rattle.contest_view.proofs.SeenApart.{rows_apart}
use Rattle.contest_exports.specs.Walks.{all_in_order, numbers_of}

-- no two submissions of a valid contest tie
pub no_ties : (x : ContestState) → is_valid x ≡ true → (s t : Submission) → Has x.submissions s → Has x.submissions t → row_cmp x.fixed.settings t s ≡ Equal → t ≡ s
no_ties x valid s t hs ht e =
    let rest = (both_equal _ _ e).1 in
    let ids = exact_bytes _ _ (both_equal _ _ rest).0 in
    let team : t.team ≡ s.team = one_place (λ (u : Team). u.id) x.fixed.settings.teams (is_settings x (parts x valid).settings).teams t.team s.team (team_there x t valid ht) (team_there x s valid hs) ids in
    one_submission x t s valid ht hs team (exact_unsigned _ _ (both_equal _ _ rest).1)

-- which submissions the loaded rows are, sorted, is which those of the contest are in their order
pub ordered : (x lists : ContestState) (rows : List Submission) → is_valid x ≡ true → lists ≡ loaded x → IsPermutation lists.submissions rows → IsSorted (row_cmp lists.fixed.settings) rows
    → map numbers_of rows ≡ map numbers_of (all_in_order x)
ordered x lists rows valid read moved sorted =
    let R = row_cmp x.fixed.settings in
    let total = row_total x.fixed.settings in
    let u = unmap without_file x.submissions rows (subst (λ (l : ContestState). IsPermutation l.submissions rows) read moved) in
    let up : IsSorted R u.from = sorted_unmap without_file (λ s t. is_lt (R s t)) u.from (subst (IsSorted R) u.is (subst (λ (l : ContestState). IsSorted (row_cmp l.fixed.settings) rows) read sorted)) in
    let apart : IsDistinct (eq_by_cmp R) u.from = IsDistinct-IsPermutation (eq_by_cmp R) (eq_by_cmp_equiv total).symm x.submissions u.from u.moved (rows_apart x valid) in
    let same : u.from ≡ in_order R x.submissions = same_order (λ s t. is_lt (R s t)) (strict total) u.from (in_order R x.submissions) (rises total u.from up apart) (rising total x.submissions)
    (λ s h. (let there = moved_has u.from x.submissions s (IsPermutation-sym x.submissions u.from u.moved) h in
    nothing_lost total x.submissions s there (λ t k e. no_ties x valid s t there k e)))
    (λ s h. moved_has x.submissions u.from s u.moved (nothing_added R x.submissions s h)) in
    ap (map numbers_of) u.is ∙ (map-map numbers_of without_file u.from ∙ ap (map numbers_of) same)
