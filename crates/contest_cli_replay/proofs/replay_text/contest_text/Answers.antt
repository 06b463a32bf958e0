use Rattle.std.proofs.Common.{◌≡◌, ◌∙◌, ap, sym, subst, ℕ, ℤ, Bool, List, Option, None, Ok}
use Rattle.std.proofs.lemmas.Result.{IfOk-weaker}
use Rattle.contest_types.specs.Setup.{Setup}
use Rattle.contest_types.specs.declared.audience.Audience.{Audience}
use Rattle.contest_types.specs.declared.marks.Marks.{Marks}
use Rattle.contest_replay.specs.ReplayContest.{marks_for}
use Rattle.contest_replay.specs.ReplayLists.{ReplayLists}
use Rattle.contest_score.specs.Ranking.{Scoreboard}
use Rattle.contest_text.specs.BoardText.{board_text}
use Rattle.contest_cli_replay.specs.ReplayText.{asked_board, audience_for, moment_for, shown}
use Rattle.contest_cli_replay.proofs.replay_text.contest_text.Goals as goal

-- the text of the board that is asked for, of settings that stayed
shown_as : (jury thawed : Bool) (at : Option ℤ) (r : ReplayLists) (kept s : Setup) (marks : Marks) (now : ℕ) (who : Audience) (b : Scoreboard) (text : List ℕ)
    → kept ≡ r.settings → s ≡ kept → marks ≡ marks_for kept thawed → now ≡ moment_for s at → who ≡ audience_for jury → b ≡ asked_board jury thawed at r
    → text ≡ board_text s marks now who None b → shown jury thawed at (Ok r) ≡ Ok text
shown_as jury thawed at r kept s marks now who b text k is m n w is_board h =
    let same : s ≡ r.settings = is ∙ k in
    let by_settings = subst (λ (x : Setup). text ≡ board_text x marks now who None b) same h in
    let by_marks = subst (λ (x : Marks). text ≡ board_text r.settings x now who None b) (m ∙ ap (λ (x : Setup). marks_for x thawed) k) by_settings in
    let by_time = subst (λ (x : ℕ). text ≡ board_text r.settings (marks_for r.settings thawed) x who None b) (n ∙ ap (λ (x : Setup). moment_for x at) same) by_marks in
    let by_who = subst (λ (x : Audience). text ≡ board_text r.settings (marks_for r.settings thawed) (moment_for r.settings at) x None b) w by_time in
    ap Ok (sym (subst (λ (x : Scoreboard). text ≡ board_text r.settings (marks_for r.settings thawed) (moment_for r.settings at) (audience_for jury) None x) is_board by_who))

pub returns-clause-ok : goal.returns-clause-ok
returns-clause-ok c =
    IfOk-weaker c.board_text.result _ _
    (λ text h. shown_as c.args.asked.now.jury c.args.asked.now.thawed c.args.asked.now.at c.args.contest _ _ _ _ _ _ _
    c.in_ok-board.ensures.settings c.settings-settings.ensures c.marks-marks.ensures c.moment_for-now.ensures c.audience_for-audience.ensures c.in_ok-board.ensures.board h)
    c.board_text.ensures.text
