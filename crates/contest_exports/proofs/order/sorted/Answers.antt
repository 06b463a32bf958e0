use Rattle.std.proofs.Common.{rules, is_lt}
use Rattle.std.proofs.lemmas.Fn.{always_returns_same}
use Rattle.std.proofs.lemmas.List.Sorted.{IsPermutation-map, ranks_by}
use Rattle.contest_objects.proofs.ListingLemmas.{sorted_map}
use Rattle.contest_view.specs.Rows.{row_cmp, row_total}
use Rattle.contest_exports.proofs.order.sorted.Goals as goal

pub returns-clause-moved : goal.returns-clause-moved
returns-clause-moved c =
    rw (c.in_ok-rows.ensures, c.submissions.ensures) at (IsPermutation-map (λ r. r.now) c.in_ok-rows.rows.items c.sort_unstable_by.new.self.items c.sort_unstable_by.ensures.permutation)

pub returns-clause-sorted : goal.returns-clause-sorted
returns-clause-sorted c =
    let cmp = row_cmp c.args.lists.now.fixed.settings in
    sorted_map (λ r. r.now) (λ x y. is_lt (cmp x y)) c.sort_unstable_by.new.self.items
    (c.sort_unstable_by.ensures.sorted (λ a b. is_lt (cmp a.now b.now)) (ranks_by (row_total c.args.lists.now.fixed.settings) (λ r. r.now)) (always_returns_same _ _ _ (λ a r f k. search rules)))
