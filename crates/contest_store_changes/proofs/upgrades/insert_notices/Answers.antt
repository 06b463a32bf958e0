use Rattle.std.proofs.Common.{◌≡◌, ◌<◌, ◌≤◌, Ok, Err, List, length, slice_index_or, subst, ap}
use Rattle.contest_types.specs.Setup.{Setup}
use Rattle.contest_types.specs.declared.clarification.Clarification.{Clarification}
use Rattle.contest_types.specs.declared.fixed.Fixed.{Fixed}
use Rattle.contest_store_tables.specs.Connected.{shown_by, counts_of}
use Rattle.contest_store_tables.specs.Steps.{Full, MakesNone, Step}
use Rattle.contest_store_tables.proofs.StepLemmas.{refuses}
use Rattle.contest_store_changes.specs.UpgradeSteps.{HasMoved, HasNotice, ShowsNoticeless}
use Rattle.contest_store_changes.proofs.UpgradeLemmas.{all_moved, next_notice, none_moved}
use Rattle.contest_store_changes.proofs.upgrades.insert_notices.Goals as goal

pub loop-place-init : goal.loop-place-init
loop-place-init g c = none_moved c.args.lists.now (shown_by g.S.Store c.args.tables.now) (counts_of c.args.tables.now)

pub returns-in-Err : goal.returns-in-Err
returns-in-Err g c =
    let lists = c.args.lists.now in
    let place = c.loop-place.place in
    let m = c.index-clarifications-place.result in
    let old = shown_by g.S.Store c.args.tables.now in
    let mid = shown_by g.S.Store c.loop-place.tables in
    let new = shown_by g.S.Store c.insert_notice.new.tables in
    let same = c.clarifications-clarifications.ensures in
    let two = subst (λ (s : Setup). Step {T = Unit {0}} (Err c.in-Err.error) mid new (counts_of c.loop-place.tables) (counts_of c.insert_notice.new.tables) Full (HasNotice s place m) (MakesNone mid Full))
    (ap (λ (f : Fixed). f.settings) c.fixed.ensures) c.in-Err.ensures in
    refuses _ old new _ _ (ShowsNoticeless lists) _ (HasMoved lists (length lists.clarifications)) _
    (next_notice lists place m (subst (λ (cs : List Clarification). place < length cs) same c.loop-place-test.true) (subst (λ (cs : List Clarification). m ≡ slice_index_or cs place m) same c.index-clarifications-place.is)
    (Err c.in-Err.error) old mid new _ _ _ c.loop-place.invariant two)

pub loop-place-preserved : goal.loop-place-preserved
loop-place-preserved g c =
    let lists = c.args.lists.now in
    let place = c.loop-place.place in
    let m = c.index-clarifications-place.result in
    let old = shown_by g.S.Store c.args.tables.now in
    let mid = shown_by g.S.Store c.loop-place.tables in
    let new = shown_by g.S.Store c.insert_notice.new.tables in
    let same = c.clarifications-clarifications.ensures in
    let two = subst (λ (s : Setup). Step {T = Unit {0}} (Ok c.in-Ok.field-0) mid new (counts_of c.loop-place.tables) (counts_of c.insert_notice.new.tables) Full (HasNotice s place m) (MakesNone mid Full))
    (ap (λ (f : Fixed). f.settings) c.fixed.ensures) c.in-Ok.ensures in
    next_notice lists place m (subst (λ (cs : List Clarification). place < length cs) same c.loop-place-test.true) (subst (λ (cs : List Clarification). m ≡ slice_index_or cs place m) same c.index-clarifications-place.is)
    (Ok c.in-Ok.field-0) old mid new _ _ _ c.loop-place.invariant two

pub returns : goal.returns
returns g c =
    let lists = c.args.lists.now in
    all_moved _ (shown_by g.S.Store c.args.tables.now) (shown_by g.S.Store c.loop-place.tables) _ _ lists c.loop-place.place
    (subst (λ (cs : List Clarification). length cs ≤ c.loop-place.place) c.clarifications-clarifications.ensures c.loop-place-test.false) c.loop-place.invariant
