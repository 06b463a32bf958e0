-- What is told of a text of a contest, and what is left then.
use Rattle.std.proofs.Common.{◌≡◌, ◌∙◌, ap, subst, sym, inl, inr, true, ℕ, List}
use Rattle.sqlite.specs.State.{HasCleanDisk, State}
use Rattle.contest_types.specs.State.{ContestState}
use Rattle.contest_types.specs.Valid.{is_valid}
use Rattle.contest_lists.specs.Lists.{loaded}
use Rattle.contest_score.specs.CachedCells.{cell_cached}
use Rattle.contest_score.specs.Contest.{contest_cell}
use Rattle.contest_score.specs.declared.cached_cells.CachedCells.{CachedCells}
use Rattle.contest_streams.specs.Streams.{Stream}
use Rattle.contest_store.specs.Keeping.{Kept, LeavesNoMore}
use Rattle.contest_desk.proofs.ScoredStores.{scored_as}
use Rattle.contest_store_sqlite.specs.Contests.{may_leave_of}
use Rattle.contest_store_sqlite.specs.Opening.{FindsContest, Opened}
use Rattle.contest_cli_words.specs.declared.command_error.CommandError.{CommandError}
use Rattle.contest_cli_commands.specs.Printing.{IsStoreStop, StopsOpening}
use Rattle.contest_cli_commands.specs.Showing.{IsShown, ShowsKept, ShowsText, TellsShown}

-- the lists and the cells of a store that has loaded are those of the contest that it kept before
pub shown_now : (old new : Kept) (lists : ContestState) (cells : CachedCells) → (new.is_clean → lists ≡ loaded new.contest)
    → (new.is_clean → is_valid new.contest ≡ true → cell_cached cells ≡ (λ mask. contest_cell mask new.contest)) → (new.is_clean → new.contest ≡ old.contest) → (new.is_clean → is_valid old.contest ≡ true)
    → new.is_clean → IsShown lists cells old.contest
shown_now old new lists cells lists_are cells_are same valid clean = record {
  valid = valid clean;
  lists_are = lists_are clean ∙ ap loaded (same clean);
  cells_are = scored_as cells old.contest new.contest (same clean) (valid clean) (cells_are clean);
}

module _ (Gives : ContestState → List ℕ → Type 0) (Lacks : ContestState → CommandError → Type 0) (Says : CommandError → Type 0) where
  -- what is told of one contest is told of another that is the same
  shown_of : (clean other : Type 0) (Is Was : ContestState → Type 0) (Stops More : CommandError → Type 0) (out_old out_new err_old err_new : Stream) (status : ℕ)
      → (other → clean) → (other → (x : ContestState) → Is x → Was x) → ((stop : CommandError) → Stops stop → More stop)
      → TellsShown Gives Lacks Says clean Is Stops out_old out_new err_old err_new status → TellsShown Gives Lacks Says other Was More out_old out_new err_old err_new status
  shown_of clean other Is Was Stops More out_old out_new err_old err_new status as_clean same more (inl (text, gives, shows)) =
      inl (text, λ c. let g = gives (as_clean c) in (g.0, same c g.0 g.1, g.2), shows)
  shown_of clean other Is Was Stops More out_old out_new err_old err_new status as_clean same more (inr (stop, is, told, keeps, says, why)) =
      inr (
        stop,
        is,
        told,
        keeps,
        says,
        λ c. elim (why (as_clean c)) [ inl stops ↦ inl (more stop stops) | inr lacks ↦ inr (lacks.0, same c lacks.0 lacks.1, lacks.2) ],
      )

  -- what a store shows is what the tables show from which it was opened, and a crash leaves no more than it could before that
  pub shown_by_store : (out_old out_new err_old err_new : Stream) (status : ℕ) (old new : State) (first last : Kept)
      → ShowsKept Gives Lacks Says out_old out_new err_old err_new first last status
      → (HasCleanDisk new → last.is_clean) → (HasCleanDisk new → Opened old first) → (HasCleanDisk new → LeavesNoMore last.may_leave (may_leave_of new))
      → ShowsText Gives Lacks Says out_old out_new err_old err_new old new status
  shown_by_store out_old out_new err_old err_new status old new first last shows as_clean opened kept = record {
    told = shown_of last.is_clean (HasCleanDisk new) (λ x. x ≡ first.contest) (FindsContest old) IsStoreStop (StopsOpening old new) out_old out_new err_old err_new status as_clean
        (λ clean x is. let o = opened clean in subst (FindsContest old) (sym (is ∙ o.shows.now_is)) o.found) (λ stop is. inl is) shows.told;
    leaves = λ clean d left. (opened clean).crash d (shows.crash (as_clean clean) d (kept clean d left));
  }
