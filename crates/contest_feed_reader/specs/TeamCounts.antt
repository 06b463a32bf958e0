-- How many of each team's submissions count, as it is kept. Words of private functions: nothing public is said with them.
use Rattle.std.specs.Prelude.{ℕ, ◌≡◌, List, unwrap_or}
use Rattle.std.specs.Borrow.{Bor}
use Rattle.std.specs.HashMap.{HashMap, get_by}
use Rattle.std.specs.Str.{bytes_eq}
use Rattle.contest_feed_reader.specs.References.{counted}
use Rattle.contest_feed_reader.specs.declared.row.Row.{Row}
use Rattle.contest_feed_reader.specs.declared.submissions.FeedSubmission.{FeedSubmission}

-- what a map has for a team
abbrev pub count_in : {H : Type 0} → HashMap (Bor (List ℕ)) ℕ H → (team : List ℕ) → ℕ
count_in counts team = unwrap_or (get_by (λ id. bytes_eq team id.now) counts) 0

-- the map has for each team how many of these are its and count
abbrev pub AreCounted : {H : Type 0} → (duration : ℕ) → HashMap (Bor (List ℕ)) ℕ H → List (Row FeedSubmission) → Type 0
AreCounted duration counts rows = (team : List ℕ) → count_in counts team ≡ counted duration team rows
