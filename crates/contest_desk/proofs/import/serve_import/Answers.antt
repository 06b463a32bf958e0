use Rattle.std.proofs.Common.{◌≡◌, ◌∙◌, ap, subst}
use Rattle.std.proofs.lemmas.Result.{IfOk-weaker}
use Rattle.contest_types.specs.Addable.{are_addable}
use Rattle.contest_lists.specs.Lists.{loaded}
use Rattle.contest_desk.specs.Imports.{count_of, entries_of, imported}
use Rattle.contest_desk.specs.Items.{HasStoreError}
use Rattle.contest_desk.proofs.ImportLemmas.{import_addable}
use Rattle.contest_desk.proofs.ServingLemmas.{read_then_kept}
use Rattle.contest_desk.proofs.import.serve_import.Goals as goal

pub keep_rows-requires-clause-addable : goal.keep_rows-requires-clause-addable
keep_rows-requires-clause-addable g c = λ clean.
    let x = (g.S.ContestStore.kept c.args.store.now).contest in
    let shows = c.in_ok-load.ensures.leaves.ok clean in
    let settled = c.requires.settled (c.load.ensures.leaves.clean clean) (c.load.ensures.leaves.up clean shows.up) in
    let rows = c.in_ok-rows.ensures.rows x settled.1 (c.lists.ensures clean ∙ ap loaded shows.now_is) in
    ap (λ y. are_addable y (entries_of c.in_ok-rows.rows)) shows.now_is ∙ (ap (λ r. are_addable x (entries_of r)) rows ∙ import_addable x c.args.now c.args.kind c.args.file.now)

pub returns-clause-answer : goal.returns-clause-answer
returns-clause-answer g c = λ clean.
    let x = (g.S.ContestStore.kept c.args.store.now).contest in
    let before = c.keep_rows.ensures.leaves.clean clean in
    let shows = c.in_ok-load.ensures.leaves.ok before in
    let settled = c.requires.settled (c.load.ensures.leaves.clean before) (c.load.ensures.leaves.up before shows.up) in
    let rows = c.in_ok-rows.ensures.rows x settled.1 (c.lists.ensures before ∙ ap loaded shows.now_is) in
    IfOk-weaker c.keep_rows.result _ _ (λ answer is. is ∙ ap count_of rows) c.keep_rows.ensures.answer

pub returns-clause-ordinary : goal.returns-clause-ordinary
returns-clause-ordinary g c =
    IfOk-weaker c.keep_rows.result _ _ (λ answer is fails. c.in_ok-rows.ensures.ordinary (subst (λ r. HasStoreError r) is fails)) c.keep_rows.ensures.answer

pub returns-clause-leaves : goal.returns-clause-leaves
returns-clause-leaves g c =
    let old = g.S.ContestStore.kept c.args.store.now in
    let mid = g.S.ContestStore.kept c.load.new.self in
    let file = c.args.file.now in
    let rows : mid.is_clean → c.in_ok-rows.rows ≡ imported old.contest c.args.now c.args.kind file = λ clean.
    (let shows = c.in_ok-load.ensures.leaves.ok clean in
    let settled = c.requires.settled (c.load.ensures.leaves.clean clean) (c.load.ensures.leaves.up clean shows.up) in
    c.in_ok-rows.ensures.rows old.contest settled.1 (c.lists.ensures clean ∙ ap loaded shows.now_is)) in
    read_then_kept c.in_ok-load.field-0 c.keep_rows.result old mid (g.S.ContestStore.kept c.keep_rows.new.store) (entries_of c.in_ok-rows.rows) (entries_of (imported old.contest c.args.now c.args.kind file)) c.in_ok-load.ensures.leaves
    (λ clean. ap entries_of (rows clean)) c.keep_rows.ensures.leaves
