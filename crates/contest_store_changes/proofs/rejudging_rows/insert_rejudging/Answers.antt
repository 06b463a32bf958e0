use Rattle.std.proofs.Common.{◌≡◌, ℕ, ◌++◌, ◌∷◌, [], List, Ok, Err, length, take, sym, subst}
use Rattle.contest_types.specs.declared.entry.Entry.TheVariants.{NewRejudging}
use Rattle.contest_types.specs.declared.rejudging.Member.{Member}
use Rattle.contest_store_tables.specs.Connected.{shown_by, counts_of}
use Rattle.contest_store_tables.specs.Steps.{Full, MakesNone, Step}
use Rattle.contest_store_tables.proofs.StepLemmas.{refuses}
use Rattle.contest_store_changes.specs.Additions.{Admits, HasListed, HasMember}
use Rattle.contest_store_changes.proofs.FittingNumbers.{member_at_fits}
use Rattle.contest_store_changes.proofs.MemberSteps.{all_members, next_member, one_further, so_many, with_front}
use Rattle.contest_store_changes.proofs.rejudging_rows.insert_rejudging.Goals as goal

pub returns-in-Err-insert_member : goal.returns-in-Err-insert_member
returns-in-Err-insert_member g c =
    let lists = c.args.lists.now in
    let row = c.args.rejudging.now in
    let place = c.loop-place.place in
    let m = c.index-members-place.result in
    let mid = shown_by g.S.Store c.loop-place.tables in
    let new = shown_by g.S.Store c.insert_member.new.tables in
    let front = take place row.members in
    let count : length front ≡ place = so_many row.members c.as_slice-members.result.now place c.as_slice-members.ensures c.loop-place-test.true in
    let two = subst (λ (n : ℕ). Step {T = Unit {0}} (Err c.in-Err-insert_member.error) mid new (counts_of c.loop-place.tables) (counts_of c.insert_member.new.tables) Full
    (HasMember lists n m) (MakesNone mid Full)) (sym count) c.in-Err-insert_member.ensures in
    refuses _ (shown_by g.S.Store c.args.tables.now) new _ _ (Admits lists (NewRejudging row)) (HasListed lists (with_front row (front ++ m ∷ []))) (HasListed lists (NewRejudging row)) _
    (next_member (Err c.in-Err-insert_member.error) (shown_by g.S.Store c.args.tables.now) mid new _ _ _ lists row front m c.loop-place.invariant two
    (λ x sound may. member_at_fits x row c.as_slice-members.result.now place m c.as_slice-members.ensures c.loop-place-test.true c.index-members-place.is sound may))

pub loop-place-preserved : goal.loop-place-preserved
loop-place-preserved g c =
    let lists = c.args.lists.now in
    let row = c.args.rejudging.now in
    let place = c.loop-place.place in
    let m = c.index-members-place.result in
    let old = shown_by g.S.Store c.args.tables.now in
    let mid = shown_by g.S.Store c.loop-place.tables in
    let new = shown_by g.S.Store c.insert_member.new.tables in
    let front = take place row.members in
    let count : length front ≡ place = so_many row.members c.as_slice-members.result.now place c.as_slice-members.ensures c.loop-place-test.true in
    let two = subst (λ (n : ℕ). Step {T = Unit {0}} (Ok c.in-Ok-insert_member.field-0) mid new (counts_of c.loop-place.tables) (counts_of c.insert_member.new.tables) Full
    (HasMember lists n m) (MakesNone mid Full)) (sym count) c.in-Ok-insert_member.ensures in
    subst (λ (ms : List Member). Step {T = Unit {0}} (Ok tt) old new (counts_of c.args.tables.now) (counts_of c.insert_member.new.tables) (Admits lists (NewRejudging row)) (HasListed lists (with_front row ms))
    (MakesNone old (Admits lists (NewRejudging row)))) (one_further row.members c.as_slice-members.result.now place m c.as_slice-members.ensures c.loop-place-test.true c.index-members-place.is)
    (next_member (Ok c.in-Ok-insert_member.field-0) old mid new _ _ _ lists row front m c.loop-place.invariant two
    (λ x sound may. member_at_fits x row c.as_slice-members.result.now place m c.as_slice-members.ensures c.loop-place-test.true c.index-members-place.is sound may))

pub returns : goal.returns
returns g c =
    let lists = c.args.lists.now in
    let row = c.args.rejudging.now in
    let old = shown_by g.S.Store c.args.tables.now in
    let new = shown_by g.S.Store c.loop-place.tables in
    subst (λ (ms : List Member). Step {T = Unit {0}} (Ok tt) old new (counts_of c.args.tables.now) (counts_of c.loop-place.tables) (Admits lists (NewRejudging row)) (HasListed lists (with_front row ms))
    (MakesNone old (Admits lists (NewRejudging row)))) (all_members row.members c.as_slice-members.result.now c.loop-place.place c.as_slice-members.ensures c.loop-place-test.false) c.loop-place.invariant
