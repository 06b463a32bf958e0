use Rattle.contest_store_tables.specs.Connected.{shown_by, counts_of}
use Rattle.contest_store_changes.specs.Additions.{Admits, HasAdded}
use Rattle.contest_store_sqlite.specs.Steps.{MayAdd}
use Rattle.contest_store_sqlite.proofs.CallLemmas.{begun_then, not_begun}
use Rattle.contest_store_sqlite.proofs.ListsGrown.{admits_within}
use Rattle.contest_store_sqlite.proofs.additions.add_everywhere.Goals as goal

pub returns-in-Ok-clause-call : goal.returns-in-Ok-clause-call
returns-in-Ok-clause-call g c =
    let lists = c.args.lists in
    let entry = c.args.entry.now in
    let old = shown_by g.S.Store c.args.tables.now in
    let mid = shown_by g.S.Store c.begin.new.self in
    let new = shown_by g.S.Store c.add_within.new.tables in
    begun_then old mid new _ _ _ (MayAdd lists entry) (Admits lists entry) (HasAdded lists entry) (λ now kept h. h.holds) _ _ c.in-Ok.ensures c.add_within.ensures.step
    (λ now kept h within. admits_within lists entry old mid now kept h within)

pub returns-in-Err-clause-call : goal.returns-in-Err-clause-call
returns-in-Err-clause-call g c =
    let lists = c.args.lists in
    let entry = c.args.entry.now in
    let old = shown_by g.S.Store c.args.tables.now in
    let new = shown_by g.S.Store c.begin.new.self in
    let counts = counts_of c.begin.new.self in
    not_begun old new new _ counts counts (MayAdd lists entry) (Admits lists entry) (HasAdded lists entry) (λ now kept h. h.holds) _ c.in-Err.ensures
