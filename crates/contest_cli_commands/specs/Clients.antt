-- Clients that are served one after the other, on whatever they connect to (own).
use Rattle.std.specs.Prelude.{◌≡◌, ◌<◌, ◌⊎◌, ℕ, List, [], ◌∷◌, Option, Some, None, Result, Ok, Err, length}
use Rattle.contest_streams.specs.Streams.{Counting, Failed}
use Rattle.contest_store.specs.Keeping.{Kept}
use Rattle.contest_http.specs.Serving.{HandlesOne, ServesOne}
use Rattle.contest_http.specs.declared.framed.ServeFault.{ServeFault}
use Rattle.contest_http.specs.declared.framed.ServeFault.TheVariants.{Read, Write}
use Rattle.contest_http.specs.declared.framed.Served.{Served}
use Rattle.contest_cli_words.specs.declared.command_error.CommandError.{CommandError}
use Rattle.contest_cli_words.specs.declared.command_error.CommandError.TheVariants.{Clock, Net}

-- what listens is of some type L: which client it gives next, by a reader and a writer or by none, and from whom it has
-- parted; what the clock shows, a moment or none, while it has come so far; and what a reader has left, a writer holds and a
-- desk keeps
module _ {L R W S : Type 0} (gives : L → Option (R × W) → L → Type 0) (parts : L → Counting R → Counting W → Type 0) (shows : L → Result ℕ CommandError → Type 0)
    (remaining : R → Option (List ℕ)) (contents : W → Option (List ℕ)) (kept : S → Kept) where
  -- a client is served by one request, at a moment that the clock shows once it is accepted, and parted from with its reader
  -- and writer as they are after that; it isn't answered in full only where one of them failed
  pub record ServesClient (l : L) (old_reader : R) (old_writer : W) (before after : S) : Type 0 where
    pub now : ℕ
    pub shown : shows l (Ok now)
    pub reader : Counting R
    pub writer : Counting W
    pub answer : Result Served ServeFault
    pub handled : HandlesOne kept now before after
    pub bytes : (input left : List ℕ) → remaining old_reader ≡ Some input → remaining reader.inner ≡ Some left
        → ServesOne kept input left (contents old_writer) (contents writer.inner) now before after answer
    pub unread : answer ≡ Err Read → Failed 0 reader.faults
    pub unwritten : answer ≡ Err Write → Failed 0 writer.faults
    pub parted : parts l reader writer

  -- what comes of a client; nothing where its connection failed
  abbrev pub Comes : Option (R × W) → L → (before after : S) → Type 0
  Comes None l before after = after ≡ before
  Comes (Some client) l before after = ServesClient l client.0 client.1 before after

  -- the next client was accepted, and this came of it
  abbrev pub ServesNext : (old new : L) → (before after : S) → Type 0
  ServesNext old new before after = (client : Option (R × W)) × gives old client new × Comes client new before after

  -- these clients were accepted, one after the other
  abbrev pub ServesThese : List (Option (R × W)) → (old new : L) → (before after : S) → Type 0
  ServesThese [] old new before after = (new ≡ old) × (after ≡ before)
  ServesThese (client ∷ clients) old new before after =
      (next : L) × (between : S) × gives old client next × Comes client next before between × ServesThese clients next new between after

  -- so many were
  abbrev pub ServesClients : ℕ → (old new : L) → (before after : S) → Type 0
  ServesClients count old new before after =
      (clients : List (Option (R × W))) × (length clients ≡ count) × ServesThese clients old new before after

  -- the next client can't be served: none can connect any more, where the listener breaks so, or one was accepted and
  -- the clock shows no moment
  abbrev pub Stops : (breaks : L → L → Type 0) → (old new : L) → CommandError → Type 0
  Stops breaks old new stop =
      ((stop ≡ Net) × breaks old new)
      ⊎ ((stop ≡ Clock) × ((client : R × W) × gives old (Some client) new) × shows new (Err stop))

  -- fewer were served than asked for, until that came
  abbrev pub ServesFewer : (breaks : L → L → Type 0) → (requests : ℕ) → (old new : L) → CommandError → (before after : S) → Type 0
  ServesFewer breaks requests old new stop before after =
      (count : ℕ) × (last : L) × (count < requests) × ServesClients count old last before after × Stops breaks last new stop
