use Rattle.std.proofs.Common.{◌≡◌, Some, inl, inr, refl}
use Rattle.contest_types.specs.declared.refusal.Refusal.TheVariants.{Memory}
use Rattle.contest_streams.specs.Streams.{AppendsFront, Fails, stream}
use Rattle.contest_objects.specs.EventFeed.{feed_text}
use Rattle.contest_view.specs.Feeds.{feed_events}
use Rattle.contest_cli_words.specs.declared.command_error.CommandError.TheVariants.{File, Refused}
use Rattle.contest_cli_commands.specs.Showing.{IsShown}
use Rattle.contest_cli_commands.specs.Looking.{audience_of}
use Rattle.contest_cli_commands.proofs.FeedLemmas.{cut_in_feed, stopped_looking}
use Rattle.contest_cli_commands.proofs.feed_command.feed_of.Goals as goal

pub returns-in-Err-Memory : goal.returns-in-Err-Memory
returns-in-Err-Memory g c x =
    let shown = IsShown c.args.lists.now c.args.cells.now x in
    let known : shown → audience_of x.fixed.settings c.args.who ≡ Some c.in-Ok.audience = λ s. rw (c.fixed.ensures, s.lists_are) at c.in-Ok.ensures.ok in
    cut_in_feed shown c.args.now c.args.who (stream g.O.Write.contents c.args.out.now) (stream g.O.Write.contents c.write_feed.new.out) (stream g.E.Write.contents c.args.err.now) (stream g.E.Write.contents c.refuse-in-Err-Memory.new.err)
    (Refused Memory) c.refuse-in-Err-Memory.result x c.in-Ok.audience known
    (λ s. (c.in-Err-Memory.ensures.written x (record { valid = s.valid; lists = s.lists_are; cells = s.cells_are })))
    (inl refl) refl c.refuse-in-Err-Memory.ensures.status c.refuse-in-Err-Memory.ensures.told

pub returns-in-Err-Write : goal.returns-in-Err-Write
returns-in-Err-Write g c x =
    let shown = IsShown c.args.lists.now c.args.cells.now x in
    let known : shown → audience_of x.fixed.settings c.args.who ≡ Some c.in-Ok.audience = λ s. rw (c.fixed.ensures, s.lists_are) at c.in-Ok.ensures.ok in
    let out_old = stream g.O.Write.contents c.args.out.now in
    let out_new = stream g.O.Write.contents c.write_feed.new.out in
    let written : shown → AppendsFront out_old.bytes out_new.bytes (feed_text (feed_events c.in-Ok.audience c.args.now x)) =
    λ s. (c.in-Err-Write.ensures.written x (record { valid = s.valid; lists = s.lists_are; cells = s.cells_are })) in
    let failed : Fails out_old out_new = rw c.in-Err-Write.field-0-is at c.in-Err-Write.ensures.fault in
    cut_in_feed shown c.args.now c.args.who out_old out_new (stream g.E.Write.contents c.args.err.now) (stream g.E.Write.contents c.refuse.new.err) File c.refuse.result x c.in-Ok.audience known
    written (inr (refl, failed)) refl c.refuse.ensures.status c.refuse.ensures.told

pub returns-in-Err : goal.returns-in-Err
returns-in-Err g c x =
    let shown = IsShown c.args.lists.now c.args.cells.now x in
    stopped_looking shown c.args.now c.args.who (stream g.O.Write.contents c.args.out.now) (stream g.E.Write.contents c.args.err.now) (stream g.E.Write.contents c.refuse-in-Err.new.err) c.in-Err.stop c.refuse-in-Err.result x
    (elim c.in-Err.ensures.err [ inl memory ↦ inl memory | inr words ↦ inr (words.0, λ (s : shown). rw (c.fixed.ensures, s.lists_are) at words.1) ])
    c.refuse-in-Err.ensures.status c.refuse-in-Err.ensures.told
