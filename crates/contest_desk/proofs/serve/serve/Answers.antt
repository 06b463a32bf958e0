use Rattle.std.proofs.Common.{◌≡◌, ◌∙◌, Ok, ap, sym}
use Rattle.contest_types.specs.State.{ContestState}
use Rattle.contest_operations.specs.Step.{outcome_of, wish_or_reply}
use Rattle.contest_operations.specs.Wishes.{wish_outcome}
use Rattle.contest_operations.proofs.WishLemmas.{wished_sound}
use Rattle.contest_operations.proofs.MemoryLemmas.{wished_takes}
use Rattle.contest_desk.proofs.ServingLemmas.{then_kept}
use Rattle.contest_desk.proofs.serve.serve.Goals as goal

pub carry_out-requires-clause-sound : goal.carry_out-requires-clause-sound
carry_out-requires-clause-sound g c = λ clean.
    let old = g.S.ContestStore.kept c.args.store.now in
    let mid = g.S.ContestStore.kept c.load.new.self in
    let shows = c.in_ok-load.ensures.leaves.ok clean in
    let settled = c.requires.settled (c.load.ensures.leaves.clean clean) (c.load.ensures.leaves.up clean shows.up) in
    let now = c.fixed.ensures ∙ ap (λ (x : ContestState). x.fixed) (c.lists.ensures clean) in
    let same = sym (now ∙ ap (λ (x : ContestState). x.fixed) shows.now_is) in
    wished_sound old.contest c.fixed.result.now mid.contest.fixed c.args.credential.now c.args.request c.in_ok-wish.field-0 c.in-Ok.wish settled.1 same now (c.in_ok-wish.ensures.wish old.contest settled.1 same) c.in-Ok.is

pub returns-in-Ok-clause-leaves : goal.returns-in-Ok-clause-leaves
returns-in-Ok-clause-leaves g c =
    let old = g.S.ContestStore.kept c.args.store.now in
    let mid = g.S.ContestStore.kept c.load.new.self in
    let new = g.S.ContestStore.kept c.carry_out.new.store in
    let credential = c.args.credential.now in
    let request = c.args.request in
    let wish = c.in-Ok.wish in
    let told : mid.is_clean → wish_or_reply old.contest.fixed credential request ≡ Ok wish = λ clean.
    (let shows = c.in_ok-load.ensures.leaves.ok clean in
    let settled = c.requires.settled (c.load.ensures.leaves.clean clean) (c.load.ensures.leaves.up clean shows.up) in
    let now = c.fixed.ensures ∙ ap (λ (x : ContestState). x.fixed) (c.lists.ensures clean) in
    let same = sym (now ∙ ap (λ (x : ContestState). x.fixed) shows.now_is) in
    ap (λ f. wish_or_reply f credential request) same ∙ (sym (c.in_ok-wish.ensures.wish old.contest settled.1 same) ∙ c.in-Ok.is)) in
    then_kept c.in_ok-load.field-0 c.carry_out.result old mid new (wish_outcome c.args.now wish mid.contest).entries (outcome_of old.contest c.args.now (wish_or_reply old.contest.fixed credential request)).entries
    _ _ (λ _ clean. wished_takes old.contest.fixed credential request wish (told (c.carry_out.ensures.leaves.clean clean)))
    c.in_ok-load.ensures.leaves
    (λ clean. ap (λ (x : ContestState). (wish_outcome c.args.now wish x).entries) (c.in_ok-load.ensures.leaves.ok clean).now_is ∙ sym (ap (λ r. (outcome_of old.contest c.args.now r).entries) (told clean)))
    c.carry_out.ensures.leaves
