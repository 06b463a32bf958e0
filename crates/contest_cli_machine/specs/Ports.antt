-- The port that clients connect to.
use Rattle.std.specs.Prelude.{◌≡◌, ◌≢◌, ℕ}

-- a port that was asked for, or whichever the system chose where that is 0
abbrev pub IsPort : (asked port : ℕ) → Type 0
IsPort asked port = asked ≢ 0 → port ≡ asked
