-- What reading takes from a stream, read by read.
use Rattle.std.proofs.Common.{◌≡◌, ◌∙◌, ◌++◌, ℕ, List, [], Option, Some, None, IfSome, Result, sym, ap, subst, append_assoc}
use Rattle.std.specs.Io.KnownBytes.{IsAtEnd}
use Rattle.std.proofs.KnownBytes.{Consumes-trans}
use Rattle.contest_types.specs.declared.refusal.Refusal.{Refusal}
use Rattle.contest_feed_reader.specs.LinesLeft.{tables_left}
use Rattle.contest_feed_reader.specs.StreamLeft.{Takes}
use Rattle.contest_feed_reader.specs.Tables.{tables_in}
use Rattle.contest_feed_reader.specs.declared.reading.Reading.{Reading}
use Rattle.contest_feed_reader.specs.declared.tables.Tables.{Tables}

-- two reads in turn
pub takes_both : (r s t : Reading) (a b c : Option (List ℕ)) → Takes r s a b → Takes s t b c → Takes r t a c
takes_both r s t a b c first second = record {
  taken = first.taken ++ second.taken;
  consumed = Consumes-trans a b c first.taken second.taken first.consumed second.consumed;
  same = λ more. ap (tables_left r) (append_assoc first.taken second.taken more) ∙ first.same (second.taken ++ more) ∙ second.same more;
}

-- once all is taken, the feed is what was read
pub ended_is : (r s : Reading) (a b : Option (List ℕ)) (P : Result Tables Refusal → Type 0) → ((bytes : List ℕ) → tables_left r bytes ≡ tables_in bytes) → Takes r s a b → IsAtEnd b → P (tables_left s []) → IfSome a (λ bytes. P (tables_in bytes))
ended_is r s None b P all t end h = tt
ended_is r s (Some xs) None P all t end h = absurd t.consumed
ended_is r s (Some xs) (Some ys) P all t end h =
    let whole : xs ≡ t.taken ++ [] = t.consumed ∙ ap (λ more. t.taken ++ more) end in
    subst P (sym (sym (all xs) ∙ ap (tables_left r) whole ∙ t.same [])) h
