-- The submissions that an audience sees are seen of those that stand.
use Rattle.std.proofs.Common.{◌≡◌, ◌∙◌, ℕ, true, List, Option, Some, sym, ap}
use Rattle.std.specs.List.{filter_map}
use Rattle.contest_types.specs.Loads.{without_file, loaded_submissions}
use Rattle.contest_types.specs.Sight.{SeenSubmission, seen_submission, seen_submissions, sees_submission, submission_cmp}
use Rattle.contest_types.specs.Laws.{IsSeen}
use Rattle.contest_types.specs.State.{ContestState}
use Rattle.contest_types.specs.Valid.{is_valid}
use Rattle.contest_types.specs.declared.audience.Audience.{Audience}
use Rattle.contest_types.specs.declared.submission.Submission.{Submission}
use Rattle.contest_types.proofs.SeenWhole.{listed_seen, one_list, seen_listed}
use Rattle.contest_objects.specs.Items.{Item, IsOrderOf, found_in}
use Rattle.contest_view.specs.Rows.{row_cmp, row_total, seen_where}
use Rattle.contest_view.proofs.Listed.{HaveOwnIds as OwnIds, IsSeenOf, Serves, items_are as rows_are, found_is as row_is}
use Rattle.contest_objects.proofs.ListingLemmas.{ShownOf, shown_where, where_shown}
use Rattle.contest_view.proofs.SeenApart.{rows_apart}

seen_shown : (a : Audience) (now : ℕ) (x : ContestState) (v : SeenSubmission) → IsSeen a now x v → ShownOf (seen_where a now x) x.submissions v
seen_shown a now x v i = record { row = i.submission; there = i.there; is = shown_where (sees_submission a x i.submission) i.sees (seen_submission a now x i.submission) ∙ ap Some (sym i.shown) }

shown_seen : (a : Audience) (now : ℕ) (x : ContestState) (v : SeenSubmission) → ShownOf (seen_where a now x) x.submissions v → IsSeen a now x v
shown_seen a now x v f =
    let i = where_shown (sees_submission a x f.row) (seen_submission a now x f.row) v f.is in
    record { submission = f.row; there = f.there; sees = i.0; shown = i.1 }

pub seen_of : (a : Audience) (now : ℕ) (x : ContestState) → is_valid x ≡ true → IsSeenOf x.submissions (seen_where a now x) (row_cmp x.fixed.settings) (submission_cmp x.fixed.settings) (seen_submissions a now x)
seen_of a now x valid =
    let st = x.fixed.settings in
    let is : (s : Submission) (v : SeenSubmission) → seen_where a now x s ≡ Some v → v ≡ seen_submission a now x s = λ s v e. (where_shown (sees_submission a x s) (seen_submission a now x s) v e).1 in
    record {
      total = row_total st;
      apart = rows_apart x valid;
      keeps = λ s t v w f g. sym (ap (λ u. submission_cmp st u w) (is s v f) ∙ ap (submission_cmp st (seen_submission a now x s)) (is t w g));
      has = λ v. ((λ h. seen_shown a now x v (listed_seen a now x v h)), (λ f. seen_listed a now x valid v (shown_seen a now x v f)));
      alone = λ vs up same. one_list a now x valid vs up (λ v. ((λ h. shown_seen a now x v ((same v).0 h)), (λ i. (same v).1 (seen_shown a now x v i))));
    }

abbrev pub ServesSeen : Audience → ℕ → ContestState → (Submission → Option Item) → (SeenSubmission → Option Item) → Type 0
ServesSeen a now x = Serves (seen_where a now x) without_file

abbrev pub HaveOwnIds : ContestState → (Submission → Option Item) → Type 0
HaveOwnIds x = OwnIds x.submissions without_file

pub items_are : (a : Audience) (now : ℕ) (x : ContestState) → is_valid x ≡ true → (item : Submission → Option Item) (of : SeenSubmission → Option Item) → ServesSeen a now x item of
    → (order : List Submission) → IsOrderOf (row_cmp x.fixed.settings) (loaded_submissions x) order → filter_map item order ≡ filter_map of (seen_submissions a now x)
items_are a now x valid = rows_are x.submissions (seen_where a now x) without_file (row_cmp x.fixed.settings) (submission_cmp x.fixed.settings) (seen_submissions a now x) (seen_of a now x valid)

pub found_is : (a : Audience) (now : ℕ) (x : ContestState) → is_valid x ≡ true → (item : Submission → Option Item) (of : SeenSubmission → Option Item) → ServesSeen a now x item of → HaveOwnIds x item
    → (id : List ℕ) → found_in (filter_map item (loaded_submissions x)) id ≡ found_in (filter_map of (seen_submissions a now x)) id
found_is a now x valid = row_is x.submissions (seen_where a now x) without_file (row_cmp x.fixed.settings) (submission_cmp x.fixed.settings) (seen_submissions a now x) (seen_of a now x valid)
