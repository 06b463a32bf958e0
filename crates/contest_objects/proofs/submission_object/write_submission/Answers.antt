use Rattle.std.proofs.Common.{◌∙◌, ◌∷◌, ◌++◌, ap, sym}
use Rattle.std.specs.Prelude.{Some, codes}
use Rattle.std.proofs.lemmas.Result.{on_ok_weaker}
use Rattle.json.specs.Token.{begin_object}
use Rattle.serde_json.specs.Data.{Members, member, no_members, object, string}
use Rattle.contest_types.specs.MomentText.{moment_text}
use Rattle.contest_objects.specs.JsonTokens.{data_tokens, member_tokens}
use Rattle.contest_objects.specs.Members.{shown}
use Rattle.contest_objects.specs.Objects.{member_where, submission_members}
use Rattle.contest_objects.specs.Times.{contest_time_data}
use Rattle.contest_objects.proofs.WrittenLemmas.{behind, in_words, where_tokens}
use Rattle.contest_objects.proofs.submission_object.write_submission.Goals as goal

pub returns : goal.returns
unfolding data_tokens
returns c =
    let m = c.args.members in
    let contest_time = contest_time_data m.start.now m.time.now in
    let entry = shown m.entry_point in
    let files = shown m.files in
    let named : Members = member (codes "id") (string m.id.now) (member (codes "language_id") (string m.language.now) (member (codes "problem_id") (string m.problem.now) (member (codes "team_id") (string m.team.now) (member (codes "time") (string (moment_text m.time.now)) no_members)))) in
    let is = ap (λ ts. begin_object ∷ (member_tokens (codes "contest_time", Some contest_time) ++ ts))
    (where_tokens entry (codes "entry_point") (member_where files (codes "files") named) ∙ ap (λ ts. member_tokens (codes "entry_point", entry) ++ ts) (where_tokens files (codes "files") named)) in
    on_ok_weaker c.end_object.result
    (λ e. in_words (data_tokens (object (submission_members contest_time entry files m.id.now m.language.now m.problem.now m.team.now (string (moment_text m.time.now))))) (sym is)
    (behind c.in_ok-begin_object.ensures (behind c.in_ok-write_member.ensures (behind c.in_ok-write_member-2.ensures (behind c.in_ok-write_member-3.ensures (behind c.in_ok-write_member-4.ensures
    (behind c.in_ok-write_member-5.ensures (behind c.in_ok-write_member-6.ensures (behind c.in_ok-write_member-7.ensures (behind c.in_ok-write_member-8.ensures e))))))))))
    c.end_object.ensures
