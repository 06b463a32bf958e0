use Rattle.std.proofs.Common.{ℕ, ◌≡◌, ◌∙◌, sym, ◌<◌, Bool, true, false, Some, None, refl}
use Rattle.std.specs.Prelude.{ℤ, pos, negsuc, nat_lt, if◌then◌else◌}
use Rattle.std.proofs.lemmas.Bool.{ltb-true, leb-false}
use Rattle.contest_replay.specs.ReplayLists.{within}
use Rattle.contest_replay.proofs.ReplayStateLemmas.{IsReplayed-submission}
use Rattle.contest_replay.proofs.replay.builder.ReplayBuilder.push_submission.Goals as goal

time_before : (duration t time : ℕ) (b : Bool) → nat_lt t duration ≡ b → Some time ≡ (if b then Some t else None) → time < duration
time_before duration t time true e h = let same : time ≡ t = cc h in rw same (ltb-true t duration e)
time_before duration t time false e h = absurd (cc h)

-- a time that counts is before the end
is_early : (duration : ℕ) (time : ℤ) (n : ℕ) → Some n ≡ within duration time → n < duration
is_early duration (pos t) n h = time_before duration t n (nat_lt t duration) refl h
is_early duration (negsuc t) n h = absurd (cc h)

pub invariant_of-self-2 : goal.invariant_of-self-2
invariant_of-self-2 c =
    let s = c.self.inside.settings in
    let early : c.in-Some.time < s.head.duration = is_early s.head.duration c.args.time c.in-Some.time (rw c.head.ensures.value at c.in-Some.ensures) in
    rw (c.in_ok-push.ensures.items, c.submission.ensures, c.with_one_more-grown.ensures)
    (IsReplayed-submission s c.self.inside.submissions.items c.self.inside.teams.items c.args.refs c.index-so_far.result.now c.in-Some.time c.self.invariant (rw (← c.self.view_is) at c.requires) c.index-so_far.ensures (leb-false _ _ (sym c.is_full.ensures ∙ c.if-is_full.false)) early)
