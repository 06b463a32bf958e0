use Rattle.std.proofs.Common.{rules, is_lt}
use Rattle.std.proofs.lemmas.Fn.{always_returns_same}
use Rattle.std.proofs.lemmas.List.Sorted.{IsPermutation-map, ranks_by}
use Rattle.contest_objects.proofs.ListingLemmas.{sorted_map}
use Rattle.contest_objects.proofs.collection.sorted.Goals as goal

pub returns : goal.returns
returns g c =
    let cmp = g.C.Ordered.cmp c.args.collection.now in
    record {
      moved = rw c.in_ok-refs.ensures at (IsPermutation-map (λ r. r.now) c.in_ok-refs.refs.items c.sort_unstable_by.new.self.items c.sort_unstable_by.ensures.permutation);
      sorted = sorted_map (λ r. r.now) (λ x y. is_lt (cmp x y)) c.sort_unstable_by.new.self.items
          (c.sort_unstable_by.ensures.sorted (λ a b. is_lt (cmp a.now b.now)) (ranks_by (g.met.C.Ordered.total c.args.collection.now) (λ r. r.now)) (always_returns_same _ _ _ (λ a r f k. search rules)));
    }
