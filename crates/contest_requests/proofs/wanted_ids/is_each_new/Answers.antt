use Rattle.std.proofs.Common.{◌≡◌, ℕ, List, true, false, cond, take, sym, ap, ◌∙◌}
use Rattle.std.specs.Borrow.{Bor}
use Rattle.std.specs.Str.{bytes_eq}
use Rattle.contest_types.specs.Places.{is_among}
use Rattle.contest_files.specs.IdArrays.{is_seen}
use Rattle.contest_files.proofs.IdLemmas.{not_different, seen_more, still_different, was_seen, was_not_seen}
use Rattle.contest_requests.proofs.wanted_ids.is_each_new.Goals as goal

pub returns-then-not-branch : goal.returns-then-not-branch
returns-then-not-branch c =
    let place = c.loop-id.id-index in
    let seen : is_among (take place c.args.ids.now) c.id-item.result ≡ true =
    was_seen _ _ _ c.if-not-branch.true c.in_ok-insert.ensures.added (c.loop-id.invariant.0 c.as_str.result ∙ ap (is_among (take place c.args.ids.now)) c.as_str.ensures) in
    sym (not_different c.args.ids.now place c.id-item.result c.loop-id-test.true c.id-item.is seen)

pub loop-id-preserved : goal.loop-id-preserved
loop-id-preserved c =
    let place = c.loop-id.id-index in
    let unseen : is_among (take place c.args.ids.now) c.id-item.result ≡ false =
    was_not_seen _ _ _ c.if-not-branch.false c.in_ok-insert.ensures.added (c.loop-id.invariant.0 c.as_str.result ∙ ap (is_among (take place c.args.ids.now)) c.as_str.ensures) in
    let put : (other : Bor (List ℕ)) → is_seen c.insert.new.self other ≡ cond (bytes_eq c.id-item.result other.now) true (is_seen c.loop-id.seen other) =
    λ other. c.in_ok-insert.ensures.updates.0 other ∙ ap (λ text. cond (bytes_eq text other.now) true (is_seen c.loop-id.seen other)) c.as_str.ensures in (
      (λ other. seen_more c.args.ids.now place c.id-item.result other.now (is_seen c.loop-id.seen other) (is_seen c.insert.new.self other)
          c.loop-id-test.true c.id-item.is (c.loop-id.invariant.0 other) (put other)),
      still_different c.args.ids.now place c.id-item.result c.loop-id-test.true c.id-item.is c.loop-id.invariant.1 unseen,
    )
