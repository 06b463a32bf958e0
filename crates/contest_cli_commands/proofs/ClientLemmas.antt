-- Clients that were served, and one more.
use Rattle.std.proofs.Common.{◌≡◌, ◌∙◌, ◌+◌, ℕ, List, [], ◌∷◌, ◌++◌, Option, Some, Ok, Err, ap, refl, subst}
use Rattle.std.specs.Prelude.{Result}
use Rattle.std.proofs.lemmas.List.{length_push}
use Rattle.contest_streams.specs.Streams.{Counting, Failed}
use Rattle.contest_store.specs.Keeping.{Kept}
use Rattle.contest_http.specs.Serving.{HandlesOne, ServesOne}
use Rattle.contest_http.specs.declared.framed.ServeFault.{ServeFault}
use Rattle.contest_http.specs.declared.framed.ServeFault.TheVariants.{Read, Write}
use Rattle.contest_http.specs.declared.framed.Served.{Served}
use Rattle.contest_cli_words.specs.declared.command_error.CommandError.{CommandError}
use Rattle.contest_cli_commands.specs.Clients.{Comes, ServesClient, ServesClients, ServesNext, ServesThese}

module _ {L R W S : Type 0} (gives : L → Option (R × W) → L → Type 0) (parts : L → Counting R → Counting W → Type 0) (shows : L → Result ℕ CommandError → Type 0)
    (remaining : R → Option (List ℕ)) (contents : W → Option (List ℕ)) (kept : S → Kept) where
  one_more : (clients : List (Option (R × W))) (client : Option (R × W)) (old last new : L) (before between after : S)
      → ServesThese gives parts shows remaining contents kept clients old last before between
      → gives last client new → Comes gives parts shows remaining contents kept client new between after
      → ServesThese gives parts shows remaining contents kept (clients ++ client ∷ []) old new before after
  one_more [] client old last new before between after (same, still) given comes =
      (new, after, subst (λ (l : L). gives l client new) same given, subst (λ (d : S). Comes gives parts shows remaining contents kept client new d after) still comes, (refl, refl))
  one_more (first ∷ clients) client old last new before between after (next, mid, gave, came, rest) given comes =
      (next, mid, gave, came, one_more clients client next last new mid between after rest given comes)

  pub next : (count : ℕ) (old last new : L) (before between after : S)
      → ServesClients gives parts shows remaining contents kept count old last before between
      → ServesNext gives parts shows remaining contents kept last new between after
      → ServesClients gives parts shows remaining contents kept (count + 1) old new before after
  next count old last new before between after (clients, is, these) (client, given, comes) =
      (clients ++ client ∷ [], length_push clients client ∙ ap (λ n. n + 1) is, one_more clients client old last new before between after these given comes)

  -- a client that was served by its reader and its writer, whose failed calls were counted from none
  pub served : (l : L) (old : R) (counted reader : Counting R) (old_w : W) (counted_w writer : Counting W) (before after : S) (now : ℕ) (answer : Result Served ServeFault)
      → shows l (Ok now) → counted.inner ≡ old → counted.faults ≡ 0 → counted_w.inner ≡ old_w → counted_w.faults ≡ 0 → HandlesOne kept now before after
      → ((input left : List ℕ) → remaining counted.inner ≡ Some input → remaining reader.inner ≡ Some left → ServesOne kept input left (contents counted_w.inner) (contents writer.inner) now before after answer)
      → (answer ≡ Err Read → Failed counted.faults reader.faults) → (answer ≡ Err Write → Failed counted_w.faults writer.faults)
      → parts l reader writer → ServesClient gives parts shows remaining contents kept l old old_w before after
  served l old counted reader old_w counted_w writer before after now answer shown same none same_w none_w handled bytes unread unwritten parted = record {
    now = now;
    shown = shown;
    reader = reader;
    writer = writer;
    answer = answer;
    handled = handled;
    bytes = λ input left had has. subst (λ (w : W). ServesOne kept input left (contents w) (contents writer.inner) now before after answer) same_w
        (bytes input left (ap remaining same ∙ had) has);
    unread = λ e. subst (λ (n : ℕ). Failed n reader.faults) none (unread e);
    unwritten = λ e. subst (λ (n : ℕ). Failed n writer.faults) none_w (unwritten e);
    parted = parted;
  }
