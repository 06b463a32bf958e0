use Rattle.std.proofs.Common.{◌+◌}
use Rattle.std.proofs.lemmas.List.{take_rest}
use Rattle.contest_feed_reader.proofs.LineLemmas.{split_found}
use Rattle.contest_feed_reader.proofs.lines.split_line.Goals as goal

pub returns-clause-found : goal.returns-clause-found
returns-clause-found c = rw (take_rest c.args.bytes.now (c.in_ok-at.at + 1)) (split_found c.args.bytes.now c.in_ok-at.at c.in_ok-at.ensures.place)
