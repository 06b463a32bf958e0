use Rattle.std.proofs.Common.{◌≡◌, ◌∙◌, Some, ap, map, refl, sym, subst, true, false}
use Rattle.std.specs.Prelude.{if◌then◌else◌}
use Rattle.std.specs.Str.{bytes_eq}
use Rattle.std.proofs.lemmas.Map.Text.{hash_map_updates_str}
use Rattle.contest_feed_reader.specs.LastVerdicts.{is_last, kept_for}
use Rattle.contest_feed_reader.proofs.VerdictLemmas.{counted_last, is_counted, kept_is}
use Rattle.contest_feed_reader.proofs.verdicts.take_judgement.Goals as goal

pub returns-in_ok-insert : goal.returns-in_ok-insert
returns-in_ok-insert c = λ before are.
    let j = c.args.judgement.now in
    let types = map (λ t. t.id) c.args.settings.now.types in
    let on = is_counted j c.in-Some.verdict.now c.in-Some.ensures in
    let known = rw c.as_str-submission.ensures.text at c.get.ensures.value in
    let tested = rw c.end_of-ended.ensures at (ap (λ o. is_last o c.end_of-ended.result) (sym known) ∙ (sym c.is_last.ensures ∙ c.if-is_last.true)) in
    let is = kept_is types j c.in-Some.verdict.now c.end_of-ended.result c.place_in.result on.1 c.end_of-ended.ensures c.place_in.ensures in
    counted_last types before j (kept_for c.args.verdicts.now) (kept_for c.insert.new.self) true on.0 tested
    (λ submission. subst (λ v. kept_for c.insert.new.self submission ≡ (if bytes_eq j.submission submission then Some v else kept_for c.args.verdicts.now submission)) is
    (rw c.as_str-submission.ensures.text at (hash_map_updates_str c.as_str-submission.result.now c.args.verdicts.now c.insert.new.self _ c.in_ok-insert.ensures.updates submission)))
    are

pub returns-else-is_last : goal.returns-else-is_last
returns-else-is_last c = λ before are.
    let j = c.args.judgement.now in
    let types = map (λ t. t.id) c.args.settings.now.types in
    let on = is_counted j c.in-Some.verdict.now c.in-Some.ensures in
    let known = rw c.as_str-submission.ensures.text at c.get.ensures.value in
    let tested = rw c.end_of-ended.ensures at (ap (λ o. is_last o c.end_of-ended.result) (sym known) ∙ (sym c.is_last.ensures ∙ c.if-is_last.false)) in
    counted_last types before j (kept_for c.args.verdicts.now) (kept_for c.args.verdicts.now) false on.0 tested (λ submission. refl) are
