use Rattle.std.proofs.Common.{◌≡◌, subst, sym}
use Rattle.contest_store.specs.declared.store_error.StoreError.{StoreError}
use Rattle.contest_store_tables.specs.Connected.{counts_of, shown_by}
use Rattle.contest_store_tables.specs.Counts.{counted}
use Rattle.contest_store_tables.specs.Steps.{Full, MakesNone}
use Rattle.contest_store_tables.proofs.StepLemmas.{ran}
use Rattle.contest_store_sqlite.proofs.opening.check_valid.Goals as goal

pub returns-in-Err-clause-step : goal.returns-in-Err-clause-step
returns-in-Err-clause-step g c =
    let up = c.out_of_memory in
    let old = shown_by g.S.Store c.args.tables.now in
    let told = subst (λ (e : StoreError). counts_of up.new.self ≡ counted e (counts_of c.args.tables.now)) (sym up.ensures.error) up.ensures.counts in
    ran _ old (shown_by g.S.Store up.new.self) _ _ Full Full (λ _. ⊥) (MakesNone old Full) (λ now kept full. full.0.0) up.ensures.undone told up.ensures.survives (λ _ _ _ _. tt) (λ db none. absurd none)
