use Rattle.std.proofs.Common.{◌≡◌, rules}
use Rattle.std.proofs.lemmas.List.Sorted.{IsNonDecreasingBy-from_sort_by_key, answers_always}
use Rattle.std.proofs.lemmas.Result.{IfOk-weaker}
use Rattle.contest_score.specs.declared.submission.JudgedSubmission.{JudgedSubmission}
use Rattle.contest_feed_reader.proofs.TimeOrder.{sorted_is}
use Rattle.contest_feed_reader.proofs.attempts.sort.Goals as goal

pub returns : goal.returns
returns c =
    IfOk-weaker c.sort_by_key.result _ _
    (λ u sorted. sorted_is c.args.attempts.now.items c.sort_by_key.new.self.items
    (IsNonDecreasingBy-from_sort_by_key (λ (v : JudgedSubmission). v.time) c.sort_by_key.new.self.items sorted (λ a r q k. search rules))
    (c.sort_by_key.ensures.stable (λ (v : JudgedSubmission). v.time) (answers_always _ (λ a r. r ≡ a.0.now.time) _ (λ f a r q k. search rules))))
    c.sort_by_key.ensures.sorted
