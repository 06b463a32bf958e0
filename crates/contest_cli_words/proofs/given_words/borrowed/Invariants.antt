use Rattle.std.proofs.Common.{◌≡◌, map, string_bytes, take}
use Rattle.contest_cli_words.proofs.given_words.borrowed.Given as goal

abbrev pub invariant-loop-word : goal.invariant-loop-word
invariant-loop-word l = map (λ s. s.now) l.found.items ≡ map string_bytes (take l.word-index l.fn.words)
