-- What a command that keeps a contest reads.
use Rattle.std.specs.Prelude.{◌≡◌, ◌<◌, ℕ, List, IfSome, length}
use Rattle.contest_streams.specs.Streams.{Stream}
use Rattle.contest_types.specs.declared.limits.TheConstants.{IMPORTED_FILE}

-- these bytes were read to their end, as far as the reader tells what it had
abbrev pub WasRead : Stream → List ℕ → Type 0
WasRead input bytes = IfSome input.bytes (λ left. bytes ≡ left)

-- more bytes were there than a file may have
abbrev pub IsTooLarge : Stream → Type 0
IsTooLarge input = IfSome input.bytes (λ left. IMPORTED_FILE < length left)
