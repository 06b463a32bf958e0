-- What is told of a feed, and what is left then.
use Rattle.std.proofs.Common.{◌≡◌, ◌∙◌, ap, subst, sym, inl, inr, refl, ℕ, Some, None, arith}
use Rattle.std.specs.Prelude.{◌⊎◌, string_bytes}
use Rattle.std.specs.Option.{option_map}
use Rattle.std.specs.Io.KnownBytes.{Keeps}
use Rattle.std.proofs.KnownBytes.{Keeps-refl}
use Rattle.sqlite.specs.State.{HasCleanDisk, State}
use Rattle.contest_types.specs.State.{ContestState}
use Rattle.contest_types.specs.declared.audience.Audience.{Audience}
use Rattle.contest_streams.specs.Streams.{AppendsFront, Stream, Tells}
use Rattle.contest_objects.specs.EventFeed.{feed_text}
use Rattle.contest_view.specs.Feeds.{feed_events}
use Rattle.contest_store.specs.Keeping.{Kept, LeavesNoMore}
use Rattle.contest_store_sqlite.specs.Contests.{may_leave_of}
use Rattle.contest_store_sqlite.specs.Opening.{FindsContest, Opened}
use Rattle.contest_cli_words.specs.CommandErrors.{IsMemory, IsWords, exit_status_of, line_of}
use Rattle.contest_cli_words.specs.declared.asked_board.Who.{Who}
use Rattle.contest_cli_words.specs.declared.command_error.CommandError.{CommandError}
use Rattle.contest_cli_words.specs.declared.command_error.CommandError.TheVariants.{Clock, File, Net, Refused, Usage}
use Rattle.contest_cli_commands.specs.Exporting.{PutsFront, StopsKept}
use Rattle.contest_cli_commands.specs.Feeding.{Feeds, FeedsKept, GivesFeed, StopsFeed, TellsFeed}
use Rattle.contest_cli_commands.specs.Looking.{audience_of}
use Rattle.contest_cli_commands.specs.Printing.{StopsOpening}
use Rattle.contest_cli_commands.proofs.ExportLemmas.{as_stop, cut_off, told_of}

-- why it ended early is told, and nothing is out or a front of the feed
pub fed_in_part : (clean : Type 0) (Is : ContestState → Type 0) (Stops : CommandError → Type 0) (now : ℕ) (who : Who) (out_old out_new err_old err_new : Stream) (stop : CommandError) (status : ℕ)
    → StopsFeed Stops out_old out_new stop → exit_status_of stop ≡ 1
    → Keeps out_old.bytes out_new.bytes ⊎ (clean → PutsFront (GivesFeed now who) Is out_old out_new) → status ≡ exit_status_of stop → Tells err_old err_new (line_of stop)
    → TellsFeed clean Is Stops now who out_old out_new err_old err_new status
fed_in_part clean Is Stops now who out_old out_new err_old err_new stop status why one front is told = record {
  statuses = omega (arith, one, is);
  known = cut_off (GivesFeed now who) clean Is (StopsFeed Stops out_old out_new) out_old out_new err_old err_new stop status (inl why) one front is told;
  unknown = λ two. absurd (omega (arith, one, is, two));
}

-- nothing is out
pub not_fed : (clean : Type 0) (Is : ContestState → Type 0) (Stops : CommandError → Type 0) (now : ℕ) (who : Who) (out err_old err_new : Stream) (stop : CommandError) (status : ℕ)
    → Stops stop → exit_status_of stop ≡ 1 → status ≡ exit_status_of stop → Tells err_old err_new (line_of stop) → TellsFeed clean Is Stops now who out out err_old err_new status
not_fed clean Is Stops now who out err_old err_new stop status why one is told =
    fed_in_part clean Is Stops now who out out err_old err_new stop status (inl why) one (inl (Keeps-refl out.bytes)) is told

-- what is told of one contest is told of another that is the same
pub fed_of : (clean other : Type 0) (Is Was : ContestState → Type 0) (Stops More : CommandError → Type 0) (now : ℕ) (who : Who) (out_old out_new err_old err_new : Stream) (status : ℕ)
    → (other → clean) → (other → (x : ContestState) → Is x → Was x) → ((stop : CommandError) → Stops stop → More stop) → TellsFeed clean Is Stops now who out_old out_new err_old err_new status
    → TellsFeed other Was More now who out_old out_new err_old err_new status
fed_of clean other Is Was Stops More now who out_old out_new err_old err_new status as_clean same more t = record {
  statuses = t.statuses;
  known = told_of (GivesFeed now who) clean other Is Was (StopsFeed Stops out_old out_new) (StopsFeed More out_old out_new) out_old out_new err_old err_new status as_clean same
      (λ stop why. elim why [ inl stops ↦ inl (more stop stops) | inr failed ↦ inr failed ]) t.known;
  unknown = λ two. let u = t.unknown two in ((λ c. let n = u.0 (as_clean c) in (n.0, same c n.0 n.1, n.2)), u.1, u.2, u.3);
}

-- what a store shows is what the tables show from which it was opened, and a crash leaves no more than it could before that
pub fed_by_store : (now : ℕ) (who : Who) (out_old out_new err_old err_new : Stream) (status : ℕ) (old new : State) (first last : Kept)
    → FeedsKept now who out_old out_new err_old err_new first last status
    → (HasCleanDisk new → last.is_clean) → (HasCleanDisk new → Opened old first) → (HasCleanDisk new → LeavesNoMore last.may_leave (may_leave_of new))
    → Feeds now who out_old out_new err_old err_new old new status
fed_by_store now who out_old out_new err_old err_new status old new first last feeds as_clean opened kept = record {
  told = fed_of last.is_clean (HasCleanDisk new) (λ x. x ≡ first.contest) (FindsContest old) (StopsKept first last) (StopsOpening old new) now who out_old out_new err_old err_new status as_clean
      (λ clean x is. let o = opened clean in subst (FindsContest old) (sym (is ∙ o.shows.now_is)) o.found) (λ stop is. inl (as_stop first last stop is)) feeds.told;
  leaves = λ clean d left. (opened clean).crash d (feeds.crash (as_clean clean) d (kept clean d left));
}

-- nobody was found who looks, or memory was refused
pub stopped_looking : (clean : Type 0) (now : ℕ) (who : Who) (out err_old err_new : Stream) (stop : CommandError) (status : ℕ) (x : ContestState)
    → IsMemory stop ⊎ (IsWords stop × (clean → audience_of x.fixed.settings who ≡ None)) → status ≡ exit_status_of stop → Tells err_old err_new (line_of stop)
    → TellsFeed clean (λ y. y ≡ x) IsMemory now who out out err_old err_new status
stopped_looking clean now who out err_old err_new (Refused r) status x (inl memory) is told = not_fed clean (λ y. y ≡ x) IsMemory now who out err_old err_new (Refused r) status memory refl is told
stopped_looking clean now who out err_old err_new (Usage text) status x (inr (words, none)) is told = record {
  statuses = omega (arith, is);
  known = record { done = λ e. absurd (omega (arith, is, e)); refused = λ e. absurd (omega (arith, is, e)) };
  unknown = λ two. ((λ c. (x, refl, none c)), Keeps-refl out.bytes, string_bytes text, told);
}
stopped_looking clean now who out err_old err_new (Usage text) status x (inl memory) is told = absurd (cc memory)
stopped_looking clean now who out err_old err_new (Refused r) status x (inr (words, none)) is told = absurd words
stopped_looking clean now who out err_old err_new File status x (inl memory) is told = absurd (cc memory)
stopped_looking clean now who out err_old err_new File status x (inr (words, none)) is told = absurd words
stopped_looking clean now who out err_old err_new Clock status x (inl memory) is told = absurd (cc memory)
stopped_looking clean now who out err_old err_new Clock status x (inr (words, none)) is told = absurd words
stopped_looking clean now who out err_old err_new Net status x (inl memory) is told = absurd (cc memory)
stopped_looking clean now who out err_old err_new Net status x (inr (words, none)) is told = absurd words

-- memory was refused or `out` failed while a front of the feed was out
pub cut_in_feed : (clean : Type 0) (now : ℕ) (who : Who) (out_old out_new err_old err_new : Stream) (stop : CommandError) (status : ℕ) (x : ContestState) (a : Audience)
    → (clean → audience_of x.fixed.settings who ≡ Some a) → (clean → AppendsFront out_old.bytes out_new.bytes (feed_text (feed_events a now x)))
    → StopsFeed IsMemory out_old out_new stop → exit_status_of stop ≡ 1
    → status ≡ exit_status_of stop → Tells err_old err_new (line_of stop) → TellsFeed clean (λ y. y ≡ x) IsMemory now who out_old out_new err_old err_new status
cut_in_feed clean now who out_old out_new err_old err_new stop status x a known front why one is told =
    fed_in_part clean (λ y. y ≡ x) IsMemory now who out_old out_new err_old err_new stop status why one
    (inr (λ c. (x, refl, feed_text (feed_events a now x), ap (option_map (λ b. feed_text (feed_events b now x))) (known c), front c))) is told
