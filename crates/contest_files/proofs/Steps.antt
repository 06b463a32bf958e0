-- What a read of a record does, whether or not the reader had failed.
use Rattle.std.proofs.Common.{◌≡◌, ◌∙◌, inl, inr, refl, ℕ, List, [], ◌∷◌, Option, Some, None, Bool, true, false, Bor}
use Rattle.csv.specs.Reading.{ExplainsRead, ReadRecord, ReadsNext, Ready, stops_reader}
use Rattle.csv.specs.declared.error.ErrorKind.{ErrorKind}
use Rattle.csv.specs.declared.error.ErrorKind.TheVariants as kind
use Rattle.csv.specs.declared.parser.Config.{Config}
use Rattle.csv.specs.declared.parser.State.{State}
use Rattle.csv.specs.declared.reader.Reader.{Reader}
use Rattle.csv.specs.declared.reader.Trim.TheVariants as trim
use Rattle.contest_files.specs.CsvRecords.{IsReading, rows_left, slice_left}
use Rattle.contest_files.proofs.Rest.{left_end, left_more}

pending : (cfg : Config) (s s2 : State) (xs : List ℕ) (k : Option (List ℕ)) (found : Bool) (f : List (List ℕ)) → ReadsNext cfg s (Some xs) k found f s2 → (ys : List ℕ) × (k ≡ Some ys)
pending cfg s s2 xs None found f r = absurd r
pending cfg s s2 xs (Some ys) found f r = (ys, refl)

-- a read that gave no error leaves a reader that reads
pub stays : (a b : Reader (Bor (List ℕ))) (found : Bool) (f : List (List ℕ)) → IsReading a → b.failed ≡ a.failed → b.flexible ≡ a.flexible
    → (a.trim ≡ trim.None → b.first ≡ true) → (a.trim ≡ trim.None → Ready a → ReadRecord slice_left a b found f) → IsReading b
stays a b found f (inl bad) goes flexible first reads = inl (goes ∙ bad)
stays a b found f (inr h) goes flexible first reads =
    let r = reads h.0 h.1 in
    let s = pending a.config a.state b.state h.4 _ found f (rw h.5 at r.0) in
    inr (r.3 ∙ h.0, inl (first h.0), r.2 ∙ h.2, flexible ∙ h.3, s.0, rw r.1 s.1)

pub gives_more : (a b : Reader (Bor (List ℕ))) (f : List (List ℕ)) → IsReading a → (a.failed ≡ true → ⊥) → (a.trim ≡ trim.None → Ready a → ReadRecord slice_left a b true f)
    → rows_left a ≡ f ∷ rows_left b
gives_more a b f (inl bad) never reads = absurd (never bad)
gives_more a b f (inr h) never reads = (left_more a b f h.4 h.2 h.5 (reads h.0 h.1)).2

pub gives_end : (a b : Reader (Bor (List ℕ))) (f : List (List ℕ)) → IsReading a → (a.trim ≡ trim.None → Ready a → ReadRecord slice_left a b false f) → rows_left a ≡ []
gives_end a b f (inl bad) reads = rw bad refl
gives_end a b f (inr h) reads = left_end a b f h.4 h.2 h.5 (reads h.0 h.1)

-- a flexible reader of bytes fails only where it stops
stops : (a b : Reader (Bor (List ℕ))) (k : ErrorKind) → a.flexible ≡ true → ExplainsRead slice_left a b false k → stops_reader k ≡ true
stops a b (kind.Io e) f h = refl
stops a b kind.OutOfMemory f h = refl
stops a b (kind.UnequalLengths pos expected len) f h = absurd (cc (f, h.0))
stops a b (kind.Utf8 pos err) f h = absurd (cc h.0)
stops a b (kind.Serialize why) f h = absurd h
stops a b (kind.Deserialize pos err) f h = absurd h

pub fails : (a b : Reader (Bor (List ℕ))) (k : ErrorKind) → IsReading a → (a.failed ≡ true → ⊥) → (Ready a → ExplainsRead slice_left a b false k) → stops_reader k ≡ true
fails a b k (inl bad) never why = absurd (never bad)
fails a b k (inr h) never why = stops a b k h.3 (why h.1)
