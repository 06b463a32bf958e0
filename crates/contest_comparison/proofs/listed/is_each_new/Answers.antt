use Rattle.std.proofs.Common.{◌≡◌, ◌<◌, ℕ, List, true, false, arith, cond, get_or, length, map, take, sym, ap, ◌∙◌}
use Rattle.std.specs.Borrow.{Bor}
use Rattle.std.specs.Str.{bytes_eq}
use Rattle.std.proofs.lemmas.List.{get_or-map, length-map}
use Rattle.contest_types.specs.Places.{is_among}
use Rattle.contest_files.specs.IdArrays.{is_seen}
use Rattle.contest_files.proofs.IdLemmas.{not_different, seen_more, still_different, was_seen, was_not_seen}
use Rattle.contest_comparison.proofs.listed.is_each_new.Goals as goal

pub returns-then-not-branch : goal.returns-then-not-branch
returns-then-not-branch g c =
    let rows = c.args.rows.now in
    let ids = map g.T.ListedRow.id rows in
    let place = c.loop-row.row-index in
    let id = g.T.ListedRow.id c.row-item.result in
    let there : place < length ids = omega (arith, c.loop-row-test.true, length-map rows g.T.ListedRow.id) in
    let at : id ≡ get_or ids place id = ap g.T.ListedRow.id c.row-item.is ∙ sym (get_or-map g.T.ListedRow.id rows place c.row-item.result id c.loop-row-test.true) in
    let same : c.as_str.result.now ≡ id = c.as_str.ensures.text ∙ c.id-id.ensures in
    let seen : is_among (take place ids) id ≡ true =
    was_seen _ _ _ c.if-not-branch.true c.in_ok-insert.ensures.added (c.loop-row.invariant.0 c.as_str.result ∙ ap (is_among (take place ids)) same) in
    sym (not_different ids place id there at seen)

pub loop-row-preserved : goal.loop-row-preserved
loop-row-preserved g c =
    let rows = c.args.rows.now in
    let ids = map g.T.ListedRow.id rows in
    let place = c.loop-row.row-index in
    let id = g.T.ListedRow.id c.row-item.result in
    let there : place < length ids = omega (arith, c.loop-row-test.true, length-map rows g.T.ListedRow.id) in
    let at : id ≡ get_or ids place id = ap g.T.ListedRow.id c.row-item.is ∙ sym (get_or-map g.T.ListedRow.id rows place c.row-item.result id c.loop-row-test.true) in
    let same : c.as_str.result.now ≡ id = c.as_str.ensures.text ∙ c.id-id.ensures in
    let unseen : is_among (take place ids) id ≡ false =
    was_not_seen _ _ _ c.if-not-branch.false c.in_ok-insert.ensures.added (c.loop-row.invariant.0 c.as_str.result ∙ ap (is_among (take place ids)) same) in
    let put : (other : Bor (List ℕ)) → is_seen c.insert.new.self other ≡ cond (bytes_eq id other.now) true (is_seen c.loop-row.seen other) =
    λ other. c.in_ok-insert.ensures.updates.0 other ∙ ap (λ text. cond (bytes_eq text other.now) true (is_seen c.loop-row.seen other)) same in (
      (λ other. seen_more ids place id other.now (is_seen c.loop-row.seen other) (is_seen c.insert.new.self other)
          there at (c.loop-row.invariant.0 other) (put other)),
      still_different ids place id there at c.loop-row.invariant.1 unseen,
    )
