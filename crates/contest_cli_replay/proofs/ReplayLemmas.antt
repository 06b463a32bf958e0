-- What an input that is read to its end, or not, says of the text.
use Rattle.std.proofs.Common.{◌≡◌, ◌+◌, ◌⊎◌, inl, inr, refl, subst, ℕ, List, Option, Some, None, IfSome, Result, Ok, Err, length, arith, string_bytes}
use Rattle.std.proofs.lemmas.Bool.{le-ltb, lt-ltb}
use Rattle.std.proofs.KnownBytes.{Keeps-refl}
use Rattle.clap.specs.Walk.{Text}
use Rattle.contest_types.specs.declared.refusal.Refusal.{Refusal}
use Rattle.contest_types.specs.declared.refusal.Refusal.TheVariants.{BodyTooLarge, Memory}
use Rattle.contest_types.specs.declared.limits.TheConstants.{IMPORTED_FILE}
use Rattle.contest_streams.specs.Streams.{Stream, Fails, ReadsAll, TakesFront, Tells}
use Rattle.contest_streams.specs.declared.input.InputFault.{InputFault}
use Rattle.contest_streams.specs.declared.input.InputFault.TheVariants as fault
use Rattle.contest_cli_words.specs.CommandErrors.{stop_of, exit_status_of, line_of}
use Rattle.contest_cli_words.specs.Endings.{Shows}
use Rattle.contest_cli_words.specs.declared.command_error.CommandError.{CommandError}
use Rattle.contest_cli_words.specs.declared.command_error.CommandError.TheVariants.{Usage, Refused, File, Clock, Net}
use Rattle.contest_cli_words.proofs.StreamLemmas.{is_longer}
use Rattle.contest_cli_replay.specs.Asked.{Asks}
use Rattle.contest_cli_replay.specs.Replay.{replay_of, Gives, StopsBy, Replays}
use Rattle.contest_cli_replay.specs.ReplayText.{board_of}
use Rattle.contest_cli_replay.specs.declared.replay_words.ReplayWords.{ReplayWords}

-- the whole input is a file within the limit
whole_file : (asked : ReplayWords) (a b : Option (List ℕ)) (bytes : List ℕ) (given : Result (List ℕ) Refusal)
    → ReadsAll a b IMPORTED_FILE bytes → board_of asked.jury asked.thawed asked.at bytes ≡ given
    → IfSome a (λ left. replay_of asked left ≡ given)
whole_file asked None b bytes given r e = tt
whole_file asked (Some left) b bytes given r e =
    let P : List ℕ → Type 0 = λ xs. replay_of asked xs ≡ given in
    let here : P bytes = rw (le-ltb IMPORTED_FILE (length bytes) r.within) e in
    subst P r.whole here

-- what the whole input gives
pub whole_gives : (words : List Text) (asked : ReplayWords) (a b : Option (List ℕ)) (bytes file : List ℕ) (given : Result (List ℕ) Refusal)
    → Asks words asked → ReadsAll a b IMPORTED_FILE bytes → file ≡ bytes
    → board_of asked.jury asked.thawed asked.at file ≡ given → Gives words a given
whole_gives words asked a b bytes file given asks all same e =
    let P : List ℕ → Type 0 = λ xs. board_of asked.jury asked.thawed asked.at xs ≡ given in
    (asked, asks, whole_file asked a b bytes given all (subst P same e))

-- what a refusal of the whole input stops by
pub refusal_stops : (words : List Text) (asked : ReplayWords) (a b : Option (List ℕ)) (bytes file : List ℕ) (r : Refusal)
    → Asks words asked → ReadsAll a b IMPORTED_FILE bytes → file ≡ bytes
    → (r ≡ Memory) ⊎ (board_of asked.jury asked.thawed asked.at file ≡ Err r) → (r ≡ Memory) ⊎ Gives words a (Err r)
refusal_stops words asked a b bytes file r asks all same (inl e) = inl e
refusal_stops words asked a b bytes file r asks all same (inr e) =
    inr (whole_gives words asked a b bytes file (Err r) asks all same e)

-- the input is longer than a file may be
large_file : (asked : ReplayWords) (a b : Option (List ℕ))
    → TakesFront a b (IMPORTED_FILE + 1) → IfSome a (λ left. replay_of asked left ≡ Err BodyTooLarge)
large_file asked None b t = tt
large_file asked (Some left) None t = absurd t.2
large_file asked (Some left) (Some rest) t =
    rw (lt-ltb IMPORTED_FILE (length left) (is_longer left t.0 rest IMPORTED_FILE t.2 t.1)) refl

-- what a fault of the input stops by
pub fault_stops : (words : List Text) (asked : ReplayWords) (old new : Stream) (f : InputFault)
    → Asks words asked → (f ≡ fault.TooLarge → TakesFront old.bytes new.bytes (IMPORTED_FILE + 1))
    → (f ≡ fault.File → Fails old new) → StopsBy words old new (stop_of f)
fault_stops words asked old new fault.File asks large failed = ((asked, asks), failed refl)
fault_stops words asked old new fault.TooLarge asks large failed =
    inr (asked, asks, large_file asked old.bytes new.bytes (large refl))
fault_stops words asked old new fault.Memory asks large failed = inl refl

-- where there is no text
pub stopped : (words : List Text) (in_old in_new out err_old err_new : Stream) (stop : CommandError) (status : ℕ)
    → StopsBy words in_old in_new stop → status ≡ exit_status_of stop → Tells err_old err_new (line_of stop)
    → Replays words in_old in_new out out err_old err_new status
stopped words in_old in_new out err_old err_new (Usage text) status stops is told = record {
  statuses = omega (arith, is);
  done = λ e. absurd (omega (arith, is, e));
  refused = λ e. absurd (omega (arith, is, e));
  faulty = λ e. (stops, Keeps-refl out.bytes, string_bytes text, told);
}
stopped words in_old in_new out err_old err_new (Refused r) status stops is told = record {
  statuses = omega (arith, is);
  done = λ e. absurd (omega (arith, is, e));
  refused = λ e. (Refused r, refl, told, inl (stops, Keeps-refl out.bytes));
  faulty = λ e. absurd (omega (arith, is, e));
}
stopped words in_old in_new out err_old err_new File status stops is told = record {
  statuses = omega (arith, is);
  done = λ e. absurd (omega (arith, is, e));
  refused = λ e. (File, refl, told, inl (stops, Keeps-refl out.bytes));
  faulty = λ e. absurd (omega (arith, is, e));
}
stopped words in_old in_new out err_old err_new Clock status stops is told = absurd stops
stopped words in_old in_new out err_old err_new Net status stops is told = absurd stops

-- where there is one, and it is shown
pub shown : (words : List Text) (in_old in_new out_old out_new err_old err_new : Stream) (text written : List ℕ) (status : ℕ)
    → Gives words in_old.bytes (Ok text) → written ≡ text → Shows written out_old out_new err_old err_new status
    → Replays words in_old in_new out_old out_new err_old err_new status
shown words in_old in_new out_old out_new err_old err_new text written status given same h =
    let s = subst (λ t. Shows t out_old out_new err_old err_new status) same h in
    record {
      statuses = omega (arith, s.statuses);
      done = λ e. (text, given, (s.done e).0, (s.done e).1);
      refused = λ e. (File, refl, (s.cut e).2, inr (refl, ((s.cut e).0, text, given, (s.cut e).1)));
      faulty = λ e. absurd (omega (arith, s.statuses, e));
    }
