-- Final results are final.
use Rattle.std.proofs.Common.{◌≡◌, ◌∙◌, ℕ, Bool, true, false, List, [], ◌∷◌, Option, Some, None, Result, Ok, Err, inl, inr, refl, sym, ap, subst}
use Rattle.std.specs.Prelude.{◌&&◌, ◌||◌, ◌==◌, is_none, is_some, not, nat_le, if◌then◌else◌}
use Rattle.std.specs.List.{list_any}
use Rattle.std.proofs.lemmas.Bool.{eqb-true, false≢true}
use Rattle.contest_types.specs.Accounts.{account_addition, account_named}
use Rattle.contest_types.specs.Clock.{end_of, phase_at, reached}
use Rattle.contest_types.specs.Order.{Has}
use Rattle.contest_types.specs.SetupAdditions.{team_addition}
use Rattle.contest_types.specs.State.{ContestState, names, of_submission}
use Rattle.contest_types.specs.ValidRejudgings.{is_open, is_released}
use Rattle.contest_types.specs.ValidSubmissions.{has_submission}
use Rattle.contest_types.specs.declared.account.Account.{Account}
use Rattle.contest_types.specs.declared.entry.Entry.{Entry}
use Rattle.contest_types.specs.declared.entry.Entry.TheVariants.{NewSubmission, NewProposal, NewRelease, NewClarification, NewRejudging, SetMember, SetRejudging, SetStart, SetThaw, SetFinalized, SetDuration, SetTeamName, SetDigest, NewType, NewLanguage, NewProblem, NewGroup, NewTeam, NewAccount}
use Rattle.contest_types.specs.declared.objects.Team.{Team}
use Rattle.contest_types.specs.declared.refusal.Cause.{Cause}
use Rattle.contest_types.specs.declared.refusal.Cause.TheVariants as cause
use Rattle.contest_types.specs.declared.rejudging.Rejudging.{Rejudging}
use Rattle.contest_types.specs.declared.submission.Submission.{Submission}
use Rattle.contest_types.proofs.PlaceLemmas.{and_left, and_right, or_left, or_right}
use Rattle.contest_types.proofs.SeenWhole.{all_has}
use Rattle.contest_score.proofs.MedalTeams.{passing}
use Rattle.contest_rules.specs.ClockChanges.{all_released, has_end, has_ended}
use Rattle.contest_rules.specs.Extensions.{extended, extension, freeze_after, may_extend, may_freeze, stands_so}
use Rattle.contest_rules.specs.declared.extensions.Extension.{Extension}
use Rattle.contest_rules.specs.declared.extensions.WantedExtension.{WantedExtension}
use Rattle.contest_rules.specs.declared.rule_refusal.RuleRefusal.TheVariants.{ClockRefused, Malformed}
use Rattle.contest_rules.specs.declared.rule_refusal.RuleRefusal.{RuleRefusal}
use Rattle.contest_postings.specs.PostChanges.{account_added, change_made, is_over, made_as, made_entry, name_set, ruled_row, team_added, team_named, token_ruled, token_set}
use Rattle.contest_import.specs.CsvFiles.{account_of}
use Rattle.contest_import.specs.Teams.{named_team}
use Rattle.contest_postings.specs.declared.changes.FixedChange.{FixedChange}
use Rattle.contest_postings.specs.declared.changes.FixedChange.TheVariants.{Account as OfAccount, Team as OfTeam, Token as OfToken, Name as OfName, Extension as OfExtension}
use Rattle.contest_postings.specs.declared.changes.MadeChange.{MadeChange}
use Rattle.contest_postings.specs.declared.changes.WantedChange.{WantedChange}
use Rattle.contest_postings.specs.declared.changes.WantedChange.TheVariants as wanted
use Rattle.std.specs.Str.{bytes_eq}
use Rattle.contest_laws.specs.Sources.{IsFileRow}
use Rattle.contest_laws.proofs.SourceLemmas.{made_of}

-- a contest with final results: nothing waits for a verdict, and no rejudging is open
pub record IsOver (z : ContestState) : Type 0 where
  pub finalized : is_some z.fixed.marks.finalized ≡ true
  pub released : all_released z.releases z.submissions ≡ true
  pub closed : list_any is_open z.rejudgings ≡ false

pub not_none : {A : Type 0} (o : Option A) → is_some o ≡ true → is_none o ≡ true → ⊥
not_none None h k = false≢true h
not_none (Some a) h k = false≢true k

-- no submission that stands waits for its first release
pub none_waits : (z : ContestState) → IsOver z → (team number : ℕ) → has_submission z team number ≡ true → is_released team number z.releases ≡ false → ⊥
none_waits z over team number there waits =
    let found = passing (λ (s : Submission). names team number (of_submission s)) z.submissions there in
    let s = found.item in
    let released = all_has (λ (t : Submission). is_released t.team t.number z.releases) z.submissions s over.released found.there in
    let same_team : s.team ≡ team = eqb-true s.team team (and_left (s.team == team) (s.number == number) found.passes) in
    let same_number : s.number ≡ number = eqb-true s.number number (and_right (s.team == team) (s.number == number) found.passes) in
    false≢true (sym waits ∙ ap (λ t. is_released t number z.releases) (sym same_team) ∙ ap (λ n. is_released s.team n z.releases) (sym same_number) ∙ released)

-- none of the rejudgings is open
pub none_open : (rs : List Rejudging) → list_any is_open rs ≡ false → (r : Rejudging) → Has rs r → is_open r ≡ true → ⊥
none_open [] h r k e = k
none_open (s ∷ rs) h r k e = elim k [
  | inl here ↦ false≢true (sym (or_left (is_open s) (list_any is_open rs) h) ∙ ap is_open (sym here) ∙ e)
  | inr more ↦ none_open rs (or_right (is_open s) (list_any is_open rs) h) r more e
]

-- ---- what may be added then

-- a thaw, a token, a name, an account, or a row of a file
abbrev pub IsAllowed : Entry → Type 0
IsAllowed (SetThaw thaw) = Unit {0}
IsAllowed (SetTeamName team name) = Unit {0}
IsAllowed (SetDigest id digest) = Unit {0}
IsAllowed (NewType t) = Unit {0}
IsAllowed (NewLanguage l) = Unit {0}
IsAllowed (NewProblem p) = Unit {0}
IsAllowed (NewGroup g) = Unit {0}
IsAllowed (NewTeam t) = Unit {0}
IsAllowed (NewAccount a) = Unit {0}
IsAllowed _ = ⊥

pub row_allowed : (e : Entry) → IsFileRow e → IsAllowed e
row_allowed (NewType t) h = tt
row_allowed (NewLanguage l) h = tt
row_allowed (NewProblem p) h = tt
row_allowed (NewGroup g) h = tt
row_allowed (NewTeam t) h = tt
row_allowed (NewAccount a) h = tt
row_allowed (NewSubmission s) h = h
row_allowed (NewProposal p) h = h
row_allowed (NewRelease v) h = h
row_allowed (NewClarification c) h = h
row_allowed (NewRejudging r) h = h
row_allowed (SetMember n place state) h = h
row_allowed (SetRejudging n state) h = h
row_allowed (SetStart start) h = h
row_allowed (SetThaw thaw) h = absurd h
row_allowed (SetFinalized finalized) h = h
row_allowed (SetDuration duration freeze) h = h
row_allowed (SetTeamName team name) h = absurd h
row_allowed (SetDigest id digest) h = absurd h

-- a team is added no more, and no time
no_team : (over : Bool) (r : Result Bool Cause) (t : FixedChange) (m : MadeChange) → over ≡ true → made_as t (ruled_row over r) ≡ Ok m → m.is_new ≡ true → ⊥
no_team true (Ok true) t m o is new = cc is
no_team true (Ok false) t m o is new = let same : record { change = t; is_new = false } ≡ m = cc is in false≢true (ap (λ (d : MadeChange). d.is_new) same ∙ new)
no_team false r t m o is new = false≢true o
no_team true (Err cause.TableFull) t m o is new = cc is
no_team true (Err cause.Malformed) t m o is new = cc is
no_team true (Err cause.UnknownReference) t m o is new = cc is
no_team true (Err cause.KeyReused) t m o is new = cc is
no_team true (Err cause.AlreadyReleased) t m o is new = cc is
no_team true (Err cause.NotOpen) t m o is new = cc is

made_is : (t : FixedChange) (r : Result Bool RuleRefusal) (m : MadeChange) → made_as t r ≡ Ok m → m.change ≡ t
made_is t (Ok b) m is = let same : record { change = t; is_new = b } ≡ m = cc is in ap (λ (d : MadeChange). d.change) (sym same)
made_is t (Err refusal) m is = absurd (cc is)

no_time : (z : ContestState) (now : ℕ) (w : WantedExtension) (e : Extension) → is_some z.fixed.marks.finalized ≡ true → extension z.fixed z.submissions now w ≡ Ok e → e.is_new ≡ true → ⊥
no_time z now w e final is new = go (stands_so z.fixed.settings.head w) (has_end w.duration z.fixed.marks.start) (may_extend z.fixed z.submissions now w) refl is
  where
    may_not : may_extend z.fixed z.submissions now w ≡ true → ⊥
    may_not h =
        let a = is_none z.fixed.marks.finalized in
        let b = is_none z.fixed.marks.thaw in
        let c = nat_le z.fixed.settings.head.duration w.duration in
        let d = not (reached (end_of (extended z.fixed z.submissions now w) z.fixed.marks) now) in
        not_none z.fixed.marks.finalized final (and_left a b (and_left (a && b) c (and_left (a && b && c) d (and_left (a && b && c && d) (may_freeze z.fixed z.submissions now w) h))))

    go : (p q r : Bool) → may_extend z.fixed z.submissions now w ≡ r
        → (let old : Extension = record { duration = z.fixed.settings.head.duration; freeze = z.fixed.settings.head.freeze; is_new = false } in
        let longer : Extension = record { duration = w.duration; freeze = freeze_after z.fixed z.submissions now w; is_new = true } in
        if p then Ok old else (if not q then Err Malformed else (if r then Ok longer else Err ClockRefused))) ≡ Ok e → ⊥
    go true q r may k = let same : record { duration = z.fixed.settings.head.duration; freeze = z.fixed.settings.head.freeze; is_new = false } ≡ e = cc k in false≢true (ap (λ (d : Extension). d.is_new) same ∙ new)
    go false false r may k = cc k
    go false true true may k = may_not may
    go false true false may k = cc k

pub change_allowed : (z : ContestState) (now : ℕ) (w : WantedChange) (m : MadeChange) → IsOver z → change_made now w z ≡ Ok m → m.is_new ≡ true → IsAllowed (made_entry m.change)
change_allowed z now (wanted.Account a) m over is new = account (account_of z.fixed.settings a) is
  where
    account : (o : Option Account) → account_added z.fixed o ≡ Ok m → IsAllowed (made_entry m.change)
    account None k = absurd (cc k)
    account (Some b) k = subst (λ c. IsAllowed (made_entry c)) (sym (made_is (OfAccount b) (ruled_row false (account_addition z.fixed.settings z.fixed.accounts b)) m k)) tt
change_allowed z now (wanted.Team t) m over is new = team (named_team z.fixed.settings t) is
  where
    or_true : (b : Bool) → (b || true) ≡ true
    or_true true = refl
    or_true false = refl

    team : (o : Option Team) → team_added z.fixed now o ≡ Ok m → IsAllowed (made_entry m.change)
    team None k = absurd (cc k)
    team (Some u) k = absurd (no_team (is_over z.fixed now) (team_addition z.fixed.settings u) (OfTeam u) m (ap (λ b. has_ended (phase_at z.fixed.settings z.fixed.marks now) || b) over.finalized ∙ or_true (has_ended (phase_at z.fixed.settings z.fixed.marks now))) k new)
change_allowed z now (wanted.Token t) m over is new = token (account_named z.fixed.accounts t.id) is
  where
    token : (o : Option Account) → token_set z.fixed t o ≡ Ok m → IsAllowed (made_entry m.change)
    token None k = absurd (cc k)
    token (Some a) k = subst (λ c. IsAllowed (made_entry c)) (sym (made_is (OfToken a t.digest) (token_ruled z.fixed.accounts a t.digest) m k)) tt
change_allowed z now (wanted.Name n) m over is new = name (team_named z.fixed.settings n.team) is
  where
    name : (o : Option (ℕ × Team)) → name_set n.name o ≡ Ok m → IsAllowed (made_entry m.change)
    name None k = absurd (cc k)
    name (Some p) k = let same : record { change = OfName p.0 (record p.1 { name = n.name }); is_new = not (bytes_eq p.1.name n.name) } ≡ m = cc k in subst (λ (d : MadeChange). IsAllowed (made_entry d.change)) same tt
change_allowed z now (wanted.Extension w) m over is new =
    let e = made_of (λ (x : Extension). record { change = OfExtension x.duration x.freeze; is_new = x.is_new }) (extension z.fixed z.submissions now w) m is in
    absurd (no_time z now w e.0 over.finalized e.1 (ap (λ (d : MadeChange). d.is_new) (sym e.2) ∙ new))
