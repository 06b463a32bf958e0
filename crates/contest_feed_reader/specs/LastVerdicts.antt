-- The last verdict of each submission, as it is kept. Words of private functions: nothing public is said with them.
use Rattle.std.specs.Prelude.{ℕ, ℤ, ◌≡◌, Bool, true, not, List, Option, Some, None, if◌then◌else◌}
use Rattle.std.specs.Borrow.{Bor}
use Rattle.std.specs.HashMap.{HashMap, get_by}
use Rattle.std.specs.Option.{option_map}
use Rattle.std.specs.Str.{bytes_eq}
use Rattle.contest_feed_reader.specs.Verdicts.{ended_before, last_judgement, place_by}
use Rattle.contest_feed_reader.specs.declared.submissions.FeedJudgement.{FeedJudgement}
use Rattle.contest_feed_reader.specs.declared.verdicts.LastVerdict.{LastVerdict}

-- what is kept of a judgement
abbrev pub kept : (types : List (List ℕ)) → FeedJudgement → LastVerdict
kept types j = record { ended = j.ended; verdict = place_by types j }

-- what a map has for a submission
abbrev pub kept_for : {H : Type 0} → HashMap (Bor (List ℕ)) LastVerdict H → (submission : List ℕ) → Option LastVerdict
kept_for verdicts submission = get_by (λ id. bytes_eq submission id.now) verdicts

-- the map has the last of these judgements of each submission
abbrev pub AreLast : {H : Type 0} → (types : List (List ℕ)) → HashMap (Bor (List ℕ)) LastVerdict H → List FeedJudgement → Type 0
AreLast types verdicts js = (submission : List ℕ) → kept_for verdicts submission ≡ option_map (kept types) (last_judgement submission js)

-- a judgement that ended then would be the last
abbrev pub is_last : Option LastVerdict → Option ℤ → Bool
is_last None ended = true
is_last (Some last) ended = not (ended_before ended last.ended)

-- the type of a judgement that counts
abbrev pub counted_verdict : FeedJudgement → Option (List ℕ)
counted_verdict j = if j.counts then j.verdict else None
