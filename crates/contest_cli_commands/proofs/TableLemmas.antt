-- What serving leaves of tables, by what it leaves of the contest that they showed.
use Rattle.std.proofs.Common.{subst, ℕ}
use Rattle.sqlite_trees.specs.declared.store.Store.{Ghosts}
use Rattle.sqlite.specs.State.{State}
use Rattle.contest_types.specs.State.{ContestState}
use Rattle.contest_desk.specs.Runs.{IsRun, LeavesAfter}
use Rattle.contest_store_sqlite.specs.Opening.{Opened, may_leave_filled}
use Rattle.contest_store_sqlite.specs.Value.{StoreValue, shown_in, stored}
use Rattle.contest_cli_commands.specs.Serve.{ServesTables}
use Rattle.contest_cli_commands.specs.Served.{ServesSome}
use Rattle.contest_desk.proofs.RunLemmas.{wider}

pub served : {S : Type 0} (g : Ghosts S) (clients : ℕ) (old : State) (before after : StoreValue S) → Opened old (stored g before) → ServesSome clients (stored g before) (stored g after)
    → ServesTables clients old (shown_in g after)
served g clients old before after opened s =
    let same = opened.shows.now_is in
    record {
      contest = opened.contest;
      found = opened.found;
      items = s.items;
      answers = s.answers;
      each = s.each;
      last = s.runs.0;
      runs = subst (λ (x : ContestState). IsRun x s.items s.answers s.runs.0) same s.runs.1;
      leaves = λ c left. subst (λ (x : ContestState). LeavesAfter (may_leave_filled old) x s.items s.answers c) same
          (wider (stored g before).may_leave (may_leave_filled old) opened.crash (stored g before).contest s.items s.answers c (s.leaves c left));
    }
