-- Requests that are handled one after another are a run.
use Rattle.std.proofs.Common.{◌≤◌, ◌+◌, List, [], ◌∷◌, ◌++◌, append-nil, arith, length, refl, sym, ap, subst, inl, inr, ℕ}
use Rattle.std.proofs.lemmas.List.{append_assoc, length_push}
use Rattle.contest_store.specs.Keeping.{Kept}
use Rattle.contest_desk.specs.declared.item.Answer.{Answer}
use Rattle.contest_desk.specs.declared.item.Answer.TheVariants as answer
use Rattle.contest_desk.specs.declared.item.Item.{Item}
use Rattle.contest_desk.specs.declared.item.Item.TheVariants as item
use Rattle.contest_operations.specs.declared.reply.Reply.{Reply}
use Rattle.contest_requests.specs.declared.request.Credential.{Credential}
use Rattle.contest_requests.specs.declared.request.Request.{Request}
use Rattle.contest_desk.proofs.RunLemmas.{GoesOn, Handles as HandlesItem, begins, ends, handled, leaves_at_end}
use Rattle.contest_http.specs.Serving.{Handles}
use Rattle.contest_cli_commands.specs.Served.{HandlesAny, ServesSome}

-- some items were answered so far, at most one of each client, and whatever comes next goes on from there
pub record SoFar (first now : Kept) (clients : ℕ) : Type 0 where
  pub done : List Item
  pub answers : List Answer
  pub each : length done ≤ clients
  pub goes : (rest : List Item) → GoesOn first now (done ++ rest) rest answers

pub starts : (first : Kept) → SoFar first first 0
starts first = record { done = []; answers = []; each = omega arith; goes = λ rest. begins first rest rest [] refl refl }

-- a request that is handled is an item
as_item : {S : Type 0} (kept : S → Kept) (before after : S) (now : ℕ) (c : Credential) (r : Request) (reply : Reply) → (kept after).is_clean → Handles kept before after now c r reply
    → HandlesItem (kept before) (kept after) (item.Request (record { now = now; credential = c; request = r })) (answer.Reply reply)
as_item kept before after now c r reply clean h = record {
  clean = clean;
  answers = λ well. ap answer.Reply (h.answered clean well);
  leaves = h.leaves;
}

one_more_item : (first old new : Kept) (i : Item) (a : Answer) (clients : ℕ) → HandlesItem old new i a → SoFar first old clients → SoFar first new (clients + 1)
one_more_item first old new i a clients h s = record {
  done = s.done ++ i ∷ [];
  answers = s.answers ++ a ∷ [];
  each = omega (arith, s.each, length_push s.done i);
  goes = λ rest. subst (λ items. GoesOn first new items rest (s.answers ++ a ∷ [])) (sym (append_assoc s.done (i ∷ []) rest))
      (handled first old new (s.done ++ i ∷ rest) (i ∷ rest) rest s.answers (s.answers ++ a ∷ []) i a refl refl h (s.goes (i ∷ rest)));
}

-- a client of whom no request was handled
without : (first now : Kept) (clients : ℕ) → SoFar first now clients → SoFar first now (clients + 1)
without first now clients s = record { done = s.done; answers = s.answers; each = omega (arith, s.each); goes = s.goes }

pub next : {S : Type 0} (kept : S → Kept) (first : Kept) (before after : S) (clients : ℕ) → (kept after).is_clean → HandlesAny kept before after → SoFar first (kept before) clients
    → SoFar first (kept after) (clients + 1)
next kept first before after clients clean (now, inl same) s = without first (kept after) clients (subst (λ d. SoFar first (kept d) clients) (sym same) s)
next kept first before after clients clean (now, inr (c, r, reply, h)) s = one_more_item first (kept before) (kept after) _ _ clients (as_item kept before after now c r reply clean h) s

pub finish : (first now : Kept) (clients asked : ℕ) → clients ≤ asked → SoFar first now clients → ServesSome asked first now
finish first now clients asked most s =
    let g : GoesOn first now s.done [] s.answers = subst (λ items. GoesOn first now items [] s.answers) (append-nil s.done) (s.goes []) in
    record { items = s.done; answers = s.answers; each = omega (arith, s.each, most); runs = ends first now s.done [] s.answers refl g; leaves = leaves_at_end first now s.done [] s.answers refl g }

-- nobody was served yet
pub nobody : (asked : ℕ) (kept : Kept) → ServesSome asked kept kept
nobody asked kept = finish kept kept 0 asked (omega arith) (starts kept)
