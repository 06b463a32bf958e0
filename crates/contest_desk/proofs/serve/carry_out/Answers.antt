use Rattle.std.proofs.Common.{◌≡◌, ◌∙◌, ap}
use Rattle.std.proofs.lemmas.Result.{IfOk-weaker}
use Rattle.contest_types.specs.Addable.{are_addable}
use Rattle.contest_lists.specs.Lists.{loaded}
use Rattle.contest_postings.specs.OwnSubmissions.{file_at}
use Rattle.contest_operations.specs.declared.outcome.Outcome.{Outcome}
use Rattle.contest_operations.specs.declared.reply.Reply.{Reply}
use Rattle.contest_operations.specs.Wishes.{file_needed, wish_outcome}
use Rattle.contest_operations.proofs.LawLemmas.{come_addable}
use Rattle.contest_desk.proofs.ScoredStores.{scored_as}
use Rattle.contest_desk.proofs.ServingLemmas.{read_then_kept}
use Rattle.contest_desk.proofs.serve.carry_out.Goals as goal

pub conclude-requires-clause-addable : goal.conclude-requires-clause-addable
conclude-requires-clause-addable g c = λ clean.
    let before = c.file_at.ensures.leaves.clean clean in
    let ready = c.requires.ready before in
    let sound = c.requires.sound before in
    let x = (g.S.ContestStore.kept c.args.store.now).contest in
    let y = (g.S.ContestStore.kept c.file_at.new.store).contest in
    let same = (c.in_ok-file.ensures.leaves.ok clean).now_is in
    let filed = c.in_ok-file.ensures.value clean ∙ ap (file_at x) (c.file_needed-needed.ensures x ready.valid (c.lists.ensures before) ∙ ap (file_needed c.args.wish) (c.lists.ensures before)) in
    let scored = scored_as c.cells.result.now x y same ready.valid (c.cells.ensures clean) in
    let comes = c.in_ok-outcome.ensures.outcome x ready.valid (c.lists-2.ensures clean ∙ ap loaded same) scored sound filed in
    ap (λ y. are_addable y c.in_ok-outcome.outcome.entries) same ∙ (ap (λ (o : Outcome). are_addable x o.entries) comes ∙ come_addable x c.args.now c.args.wish ready.valid sound)

pub returns-clause-reply : goal.returns-clause-reply
returns-clause-reply g c = λ ended.
    (let clean = c.conclude.ensures.leaves.clean ended in
    let before = c.file_at.ensures.leaves.clean clean in
    let ready = c.requires.ready before in
    let x = (g.S.ContestStore.kept c.args.store.now).contest in
    let y = (g.S.ContestStore.kept c.file_at.new.store).contest in
    let same = (c.in_ok-file.ensures.leaves.ok clean).now_is in
    let filed = c.in_ok-file.ensures.value clean ∙ ap (file_at x) (c.file_needed-needed.ensures x ready.valid (c.lists.ensures before) ∙ ap (file_needed c.args.wish) (c.lists.ensures before)) in
    let scored = scored_as c.cells.result.now x y same ready.valid (c.cells.ensures clean) in
    let comes = c.in_ok-outcome.ensures.outcome x ready.valid (c.lists-2.ensures clean ∙ ap loaded same) scored (c.requires.sound before) filed in
    let told : c.in_ok-outcome.outcome.reply ≡ (wish_outcome c.args.now c.args.wish x).reply = ap (λ (o : Outcome). o.reply) comes in
    IfOk-weaker c.conclude.result (λ (reply : Reply). reply ≡ c.in_ok-outcome.outcome.reply) (λ (reply : Reply). reply ≡ (wish_outcome c.args.now c.args.wish x).reply) (λ reply is. is ∙ told) c.conclude.ensures.reply)

pub returns-clause-leaves : goal.returns-clause-leaves
returns-clause-leaves g c =
    let old = g.S.ContestStore.kept c.args.store.now in
    let mid = g.S.ContestStore.kept c.file_at.new.store in
    let new = g.S.ContestStore.kept c.conclude.new.store in
    let x = old.contest in
    let entries = (wish_outcome c.args.now c.args.wish x).entries in
    let come : mid.is_clean → c.in_ok-outcome.outcome.entries ≡ entries = λ clean.
    (let before = c.file_at.ensures.leaves.clean clean in
    let ready = c.requires.ready before in
    let same = (c.in_ok-file.ensures.leaves.ok clean).now_is in
    let filed = c.in_ok-file.ensures.value clean ∙ ap (file_at x) (c.file_needed-needed.ensures x ready.valid (c.lists.ensures before) ∙ ap (file_needed c.args.wish) (c.lists.ensures before)) in
    let scored = scored_as c.cells.result.now x mid.contest same ready.valid (c.cells.ensures clean) in
    let comes = c.in_ok-outcome.ensures.outcome x ready.valid (c.lists-2.ensures clean ∙ ap loaded same) scored (c.requires.sound before) filed in
    ap (λ (o : Outcome). o.entries) comes) in
    read_then_kept c.in_ok-file.file c.conclude.result old mid new c.in_ok-outcome.outcome.entries entries c.in_ok-file.ensures.leaves come c.conclude.ensures.leaves
