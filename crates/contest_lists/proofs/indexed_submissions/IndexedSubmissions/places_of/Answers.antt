use Rattle.std.proofs.Common.{◌≡◌, ◌<◌, length, rules}
use Rattle.std.proofs.lemmas.List.Elements.{All-same}
use Rattle.contest_lists.specs.Lists.{places_of}
use Rattle.contest_lists.proofs.TeamRowLemmas.{places_within}
use Rattle.contest_lists.proofs.indexed_submissions.IndexedSubmissions.places_of.Goals as goal

pub returns-in-Some-clause-within : goal.returns-in-Some-clause-within
returns-in-Some-clause-within c =
    let rows = c.args.self.now in
    let are : c.as_slice.result.now ≡ places_of c.args.team rows = search (rules, c.self.invariant c.args.team) in
    All-same (λ place. place < length rows) c.as_slice.result.now (places_of c.args.team rows) are (places_within c.args.team rows)
