-- The line that tells how much of a feed counts for nothing.
use Rattle.std.specs.Prelude.{ℕ, ◌&&◌, ◌++◌, ◌==◌, Bool, List, codes}
use Rattle.std.specs.Fmt.{decimal}
use Rattle.contest_feed_reader.specs.declared.feed_contest.LeftOut.{LeftOut}

-- `left out: <n> submissions, <m> judgements`
abbrev pub left_out_line : LeftOut → List ℕ
left_out_line left_out =
    codes "left out: " ++ decimal left_out.submissions ++ codes " submissions, " ++ decimal left_out.judgements ++ codes " judgements\n"

-- nothing was
abbrev pub is_nothing : LeftOut → Bool
is_nothing left_out = (left_out.submissions == 0) && (left_out.judgements == 0)
