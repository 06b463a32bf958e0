use Rattle.std.proofs.Common.{◌≡◌, ◌+◌, ◌<◌, ◌^◌, ◌∙◌, List, length, ap, arith, subst, sym, IsPermutation, IsSorted}
use Rattle.contest_types.specs.Setup.{Setup}
use Rattle.contest_types.specs.State.{ContestState, FixedPart}
use Rattle.contest_score.specs.CachedCells.{cell_cached}
use Rattle.contest_store_cells.specs.PlacedCells.{placed_cmp}
use Rattle.contest_store_cells.specs.declared.placed.PlacedCell.{PlacedCell}
use Rattle.contest_store_cells.proofs.ListedLemmas.{found_of, listed, numbers_fit}
use Rattle.contest_store_cells.proofs.listing.placed_cells.Goals as goal

pub returns : goal.returns
returns c =
    let lists = c.args.lists.now in
    let cells = c.sort.new.cells.items in
    let cell = cell_cached c.cells.result.now in
    let settings : c.fixed.result.now.settings ≡ lists.fixed.settings = ap (λ (f : FixedPart). f.settings) (c.fixed.ensures ∙ ap (λ (l : ContestState). l.fixed) c.lists-rows.ensures) in
    let teams = c.teams.ensures.list ∙ ap (λ (s : Setup). s.teams) settings in
    let rows = c.submissions.ensures ∙ ap (λ (l : ContestState). l.submissions) c.lists-rows.ensures in
    let found = found_of cell lists c.in_ok-cells.cells.items _ _ _ _ c.in_ok-cells.ensures c.deref.ensures.value c.in_ok-places.ensures teams rows in
    let moved = subst (λ (from : List PlacedCell). IsPermutation from cells) found c.sort.ensures.permutation in
    let sorted = subst (λ (s : Setup). IsSorted (placed_cmp s) cells) settings c.sort.ensures.sorted in
    let few : length lists.fixed.settings.teams + 1 < 2 ^ 63 = omega (arith, c.teams.ensures.valid.few_teams, ap (λ (s : Setup). length s.teams) settings) in
    record {
      rows = λ x valid is. listed x valid lists is cells cell (c.cells.ensures x valid (sym is)) moved sorted;
      fits = numbers_fit cell (length lists.fixed.settings.teams) lists.submissions cells few moved;
    }
