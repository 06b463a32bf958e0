-- What a feed has in it, and how it is written.
use Rattle.std.proofs.Common.{◌≡◌, ◌∙◌, ◌++◌, ◌+◌, ◌<◌, ◌∷◌, ℕ, zero, suc, List, [], Option, Some, None, Result, Ok, Err, append_assoc, append-nil, ap, arith, drop, get_or, length, refl, subst, sym, take}
use Rattle.std.specs.Prelude.{IsErrAnd}
use Rattle.std.specs.Io.KnownBytes.{Appends}
use Rattle.std.proofs.KnownBytes.{Appends-trans}
use Rattle.contest_streams.specs.Streams.{Stream}
use Rattle.contest_streams.proofs.StreamLemmas.{front_first, front_second}
use Rattle.contest_objects.specs.EventFeed.{FeedEvent, event_line, lines_from}
use Rattle.contest_view.specs.Feeding.{Writes}
use Rattle.contest_view.specs.declared.feed.FeedFault.{FeedFault}
use Rattle.contest_view.specs.declared.feed.FeedFault.TheVariants.{Memory}

-- the lines of events are those of the first ones, and of the rest, whose numbers go on
pub lines_in_two : (n : ℕ) (es : List FeedEvent) (k : ℕ) → lines_from n es ≡ lines_from n (take k es) ++ lines_from (n + k) (drop k es)
lines_in_two n es zero = let e : n + zero ≡ n = omega arith in rw e refl
lines_in_two n [] (suc k) = refl
lines_in_two n (e ∷ es) (suc k) =
    let next : n + suc k ≡ (n + 1) + k = omega arith in
    rw next (ap (λ ls. event_line n e ++ ls) (lines_in_two (n + 1) es k) ∙ sym (append_assoc (event_line n e) (lines_from (n + 1) (take k es)) (lines_from ((n + 1) + k) (drop k es))))

-- one line more
pub one_more_line : (n : ℕ) (es : List FeedEvent) (k : ℕ) (d : FeedEvent) → k < length es → lines_from n (take (k + 1) es) ≡ lines_from n (take k es) ++ event_line (n + k) (get_or es k d)
one_more_line n [] k d l = absurd (omega (arith, l))
one_more_line n (e ∷ es) zero d l = let same : n + zero ≡ n = omega arith in rw same (append-nil (event_line n e))
one_more_line n (e ∷ es) (suc k) d l =
    let next : n + suc k ≡ (n + 1) + k = omega arith in
    let more : suc k + 1 ≡ suc (k + 1) = omega arith in
    rw (more, next) (ap (λ ls. event_line n e ++ ls) (one_more_line (n + 1) es k d (omega (arith, l))) ∙ sym (append_assoc (event_line n e) (lines_from (n + 1) (take k es)) (event_line ((n + 1) + k) (get_or es k d))))

-- the lines of two lists of events
pub lines_of_both : (n : ℕ) (es fs : List FeedEvent) → lines_from n (es ++ fs) ≡ lines_from n es ++ lines_from (n + length es) fs
lines_of_both n [] fs = let e : n + length {A = FeedEvent} [] ≡ n = omega arith in rw e refl
lines_of_both n (e ∷ es) fs =
    let next : n + length (e ∷ es) ≡ (n + 1) + length es = omega arith in
    rw next (ap (λ ls. event_line n e ++ ls) (lines_of_both (n + 1) es fs) ∙ sym (append_assoc (event_line n e) (lines_from (n + 1) es) (lines_from ((n + 1) + length es) fs)))

-- one text is out, and then another is written
pub writes_then : (r : Result (Unit {0}) FeedFault) (o m n : Stream) (first rest : List ℕ) → Appends o.bytes m.bytes first → Writes r m n rest → Writes r o n (first ++ rest)
writes_then (Ok done) o m n first rest out w = Appends-trans o.bytes m.bytes n.bytes first rest out w
writes_then (Err fault) o m n first rest out w = front_second o.bytes m.bytes n.bytes first rest out w

-- a front of a text is one of what goes on
pub writes_front : (fault : FeedFault) (o n : Stream) (first rest : List ℕ) → Writes (Err fault) o n first → Writes (Err fault) o n (first ++ rest)
writes_front fault o n first rest w = front_first o.bytes n.bytes first rest w

-- what a call failed with is passed on
pub passed_on : (r : Result (Unit {0}) FeedFault) (fault : FeedFault) (o n : Stream) (text : List ℕ) → IsErrAnd r (λ e. e ≡ fault) → Writes (Err fault) o n text → Writes r o n text
passed_on (Ok done) fault o n text told w = absurd told
passed_on (Err e) fault o n text told w = subst (λ f. Writes (Err f) o n text) (sym told) w

-- where nothing is out, that is a front of any text
pub none_out : (o : Stream) (text : List ℕ) → Writes (Err Memory) o o text
none_out o text =
    let same : (a : Option (List ℕ)) → Appends a a [] = elim [ None ↦ tt | (Some xs) ↦ sym (append-nil xs) ] in
    (0, omega arith, same o.bytes)
