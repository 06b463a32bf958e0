-- What a file adds stands afterwards, so the same file adds nothing more.
use Rattle.std.proofs.Common.{◌≡◌, ◌∙◌, ℕ, ◌+◌, Bool, true, false, List, [], ◌∷◌, ◌++◌, map, filter, option_and_then, Option, Some, None, Result, Ok, Err, refl, sym, ap, subst}
use Rattle.std.specs.Prelude.{IfOk, find, length, nat_le, if◌then◌else◌}
use Rattle.std.specs.Option.{option_or}
use Rattle.std.specs.Str.{bytes_eq}
use Rattle.std.specs.Ordering.{nat_cmp, is_lt, ordering_reverse}
use Rattle.std.specs.Cmp.Lexicographic.{slice_cmp}
use Rattle.std.specs.declared.cmp.Ordering.{Ordering}
use Rattle.std.specs.declared.cmp.Ordering.TheVariants.{Less, Equal, Greater}
use Rattle.std.proofs.lemmas.Cmp.{nat_list_cmp_total}
use Rattle.std.proofs.Math.Bool.{beq}
use Rattle.std.proofs.lemmas.Bool.{eq-eqb, false≢true}
use Rattle.std.proofs.lemmas.List.Folds.{find-append}
use Rattle.std.proofs.lemmas.Slice.Eq.{bytes_eq-Decides}
use Rattle.serde_json.specs.Data.{Data}
use Rattle.contest_types.specs.Options.{all_some}
use Rattle.contest_types.specs.Accounts.{account_named, comes_before, has_valid_role, same_account, same_role, with_account}
use Rattle.contest_types.specs.Additions.{addition, addition_by, id_match_by, id_match_of, keyed_addition}
use Rattle.contest_types.specs.Places.{are_different, is_among, place_of}
use Rattle.contest_types.specs.Rows.{same_group, same_language, same_problem, same_team, same_type}
use Rattle.contest_types.specs.Setup.{Setup, refers}
use Rattle.contest_types.specs.State.{ContestState, FixedPart, add_all}
use Rattle.contest_types.specs.declared.account.Account.{Account}
use Rattle.contest_types.specs.declared.account.Role.{Role}
use Rattle.contest_types.specs.declared.account.Role.TheVariants as role
use Rattle.contest_types.specs.declared.entry.Entry.{Entry}
use Rattle.contest_types.specs.declared.entry.Entry.TheVariants.{NewType, NewLanguage, NewProblem, NewGroup, NewTeam, NewAccount}
use Rattle.contest_types.specs.declared.id_list.IdMatch.{IdMatch}
use Rattle.contest_types.specs.declared.id_list.IdMatch.TheVariants.{New, Same, Other}
use Rattle.contest_types.specs.declared.import_kind.FixedKind.{FixedKind}
use Rattle.contest_types.specs.declared.import_kind.FixedKind.TheVariants as kind
use Rattle.contest_types.specs.declared.import_kind.SettingsKind.{SettingsKind}
use Rattle.contest_types.specs.declared.import_kind.SettingsKind.TheVariants as settings
use Rattle.contest_types.specs.declared.limits.TheConstants.{ACCOUNTS, TEAMS}
use Rattle.contest_types.specs.declared.objects.Group.{Group}
use Rattle.contest_types.specs.declared.objects.JudgementType.{JudgementType}
use Rattle.contest_types.specs.declared.objects.Language.{Language}
use Rattle.contest_types.specs.declared.objects.Problem.{Problem}
use Rattle.contest_types.specs.declared.objects.Team.{Team}
use Rattle.contest_types.specs.declared.refusal.Cause.{Cause}
use Rattle.contest_types.specs.declared.refusal.Cause.TheVariants as cause
use Rattle.contest_types.specs.declared.refusal.Refusal.{Refusal}
use Rattle.contest_types.proofs.AccountLemmas.{named_still}
use Rattle.contest_types.proofs.PlaceLemmas.{same_bytes, bytes_same}
use Rattle.contest_files.specs.JsonMembers.{items_in}
use Rattle.contest_import.specs.CsvFiles.{account_by, account_fields, account_names, account_or_malformed, account_record, four_of, role_of, team_names, team_record}
use Rattle.contest_import.specs.Files.{csv_records, or_off_form, rows_in}
use Rattle.contest_import.specs.RowAdditions.{Additions, after_addition, after_record, after_records, none_yet, or_first_fault, row_addition, rows_of, rows_or_refusal, with_row}
use Rattle.contest_import.specs.SettingsObjects.{object_row, team_in}
use Rattle.contest_import.specs.Teams.{team_by, team_or_malformed}
use Rattle.contest_import.specs.declared.account_row.AccountRow.{AccountRow}
use Rattle.contest_import.specs.declared.team_row.TeamRow.{TeamRow}
use Rattle.contest_import.proofs.RowLemmas.{Fits, IsSoundRow, records_fit}
use Rattle.contest_import.proofs.SoundRows.{IsType, IsLanguage, IsProblem, IsGroup, IsTeam, object_kind, sound_account_record, sound_object, sound_team_record, team_holds}
use Rattle.contest_types.proofs.AdditionLemmas.{new_found}

-- a record adds nothing to what stands: a row that equals the one that it says is there
record Stands {A : Type 0} (row_of : FixedPart → A → Result Entry Cause) (f : FixedPart) (r : A) : Type 0 where
  pub row : Entry
  pub says : row_of f r ≡ Ok row
  pub none : row_addition f row ≡ Ok false

-- what the rows of one kind of file keep to: what a record says goes by no other row of its file, a row that was added
-- stands, and one that stood stands after one more
record Settles {A : Type 0} (row_of : FixedPart → A → Result Entry Cause) (K : Entry → Type 0) : Type 0 where
  pub kind : (f : FixedPart) (r : A) → IfOk (row_of f r) K
  pub apart : (f : FixedPart) (e : Entry) (r : A) → K e → row_of (with_row f e) r ≡ row_of f r
  pub here : (f : FixedPart) (e : Entry) → K e → row_addition f e ≡ Ok true → row_addition (with_row f e) e ≡ Ok false
  pub stays : (f : FixedPart) (d e : Entry) → K d → K e → row_addition f d ≡ Ok true → row_addition f e ≡ Ok false → row_addition (with_row f d) e ≡ Ok false

abbrev AllStand : {A : Type 0} → (FixedPart → A → Result Entry Cause) → FixedPart → List A → Type 0
AllStand row_of f [] = Unit {0}
AllStand row_of f (r ∷ rs) = Stands row_of f r × AllStand row_of f rs

-- read again, they add nothing
again : {A : Type 0} (row_of : FixedPart → A → Result Entry Cause) (a : Additions) (n : ℕ) (rs : List A) → AllStand row_of a.fixed rs → after_records row_of a n rs ≡ Ok a
again row_of a n [] h = refl
again row_of a n (r ∷ rs) (s, rest) =
    ap (λ q. or_first_fault (λ b. after_records row_of b (n + 1) rs) n (after_record a q)) s.says
    ∙ (ap (λ q. or_first_fault (λ b. after_records row_of b (n + 1) rs) n (after_addition a s.row q)) s.none ∙ again row_of a (n + 1) rs rest)

of_kind : {A : Type 0} (row_of : FixedPart → A → Result Entry Cause) (K : Entry → Type 0) → Settles row_of K → (f : FixedPart) (r : A) (e : Entry) → row_of f r ≡ Ok e → K e
of_kind row_of K S f r e is = subst (λ o. IfOk o K) is (S.kind f r)

one_more : {A : Type 0} (row_of : FixedPart → A → Result Entry Cause) (K : Entry → Type 0) → Settles row_of K → (f : FixedPart) (e : Entry) (q : A) → K e → row_addition f e ≡ Ok true
    → Stands row_of f q → Stands row_of (with_row f e) q
one_more row_of K S f e q k is s = record {
  row = s.row;
  says = S.apart f e q k ∙ s.says;
  none = S.stays f e s.row k (of_kind row_of K S f q s.row s.says) is s.none;
}

-- what a record leaves: it stands, and so does whatever stood
record Left {A : Type 0} (row_of : FixedPart → A → Result Entry Cause) (f g : FixedPart) (r : A) : Type 0 where
  pub itself : Stands row_of g r
  pub others : (q : A) → Stands row_of f q → Stands row_of g q

added_leaves : {A : Type 0} (row_of : FixedPart → A → Result Entry Cause) (K : Entry → Type 0) → Settles row_of K → (a b : Additions) (r : A) (e : Entry) (p : Result Bool Cause)
    → row_of a.fixed r ≡ Ok e → row_addition a.fixed e ≡ p → after_addition a e p ≡ Ok b → Left row_of a.fixed b.fixed r
added_leaves row_of K S a b r e (Err c) says is h = absurd (cc h)
added_leaves row_of K S a b r e (Ok false) says is h =
    let same : a ≡ b = cc h in
    subst (λ (z : Additions). Left row_of a.fixed z.fixed r) same (record { itself = record { row = e; says = says; none = is }; others = λ q s. s })
added_leaves row_of K S a b r e (Ok true) says is h =
    let k = of_kind row_of K S a.fixed r e says in
    let grown : Additions = record { fixed = with_row a.fixed e; rows = a.rows ++ e ∷ [] } in
    let same : grown ≡ b = cc h in
    subst (λ (z : Additions). Left row_of a.fixed z.fixed r) same (record {
      itself = record { row = e; says = S.apart a.fixed e r k ∙ says; none = S.here a.fixed e k is };
      others = λ q s. one_more row_of K S a.fixed e q k is s;
    })

record_leaves : {A : Type 0} (row_of : FixedPart → A → Result Entry Cause) (K : Entry → Type 0) → Settles row_of K → (a b : Additions) (r : A) (o : Result Entry Cause)
    → row_of a.fixed r ≡ o → after_record a o ≡ Ok b → Left row_of a.fixed b.fixed r
record_leaves row_of K S a b r (Err c) says h = absurd (cc h)
record_leaves row_of K S a b r (Ok e) says h = added_leaves row_of K S a b r e (row_addition a.fixed e) says refl h

records_leave : {A : Type 0} (row_of : FixedPart → A → Result Entry Cause) (K : Entry → Type 0) → Settles row_of K → (a b : Additions) (n : ℕ) (rs : List A) → after_records row_of a n rs ≡ Ok b
    → AllStand row_of b.fixed rs × ((q : A) → Stands row_of a.fixed q → Stands row_of b.fixed q)
records_leave row_of K S a b n [] h = (tt, λ q s. (let same : a ≡ b = cc h in subst (λ (z : Additions). Stands row_of z.fixed q) same s))
records_leave row_of K S a b n (r ∷ rs) h =
    let go : (p : Result Additions Cause) → after_record a (row_of a.fixed r) ≡ p → or_first_fault (λ m. after_records row_of m (n + 1) rs) n p ≡ Ok b
    → AllStand row_of b.fixed (r ∷ rs) × ((q : _) → Stands row_of a.fixed q → Stands row_of b.fixed q) = elim [
      | (Ok m) ↦ λ is more. (let one = record_leaves row_of K S a m r (row_of a.fixed r) refl is in
          let rest = records_leave row_of K S m b (n + 1) rs more in
          ((rest.1 r one.itself, rest.0), λ q s. rest.1 q (one.others q s)))
      | (Err c) ↦ λ is more. absurd (cc more)
    ] in
    go (after_record a (row_of a.fixed r)) refl h

-- so the records of a file add nothing to the contest that has what they added
rows_again : {A : Type 0} (row_of : FixedPart → A → Result Entry Cause) (K : Entry → Type 0) → Settles row_of K → ((f : FixedPart) (r : A) → IfOk (row_of f r) IsSoundRow) → (x : ContestState) (rs : List A) (rows : List Entry)
    → rows_of row_of x.fixed rs ≡ Ok rows → rows_of row_of (add_all x rows).fixed rs ≡ Ok []
rows_again row_of K S sound x rs rows h =
    let go : (q : Result Additions (ℕ × Cause)) → after_records row_of (none_yet x.fixed) 1 rs ≡ q → IfOk q (Fits x) → rows_or_refusal q ≡ Ok rows → rows_of row_of (add_all x rows).fixed rs ≡ Ok [] = elim [
      | (Ok b) ↦ λ is fits e. (let same : b.rows ≡ rows = cc e in
          let stands = (records_leave row_of K S (none_yet x.fixed) b 1 rs is).0 in
          let fixed : (add_all x rows).fixed ≡ b.fixed = ap (λ es. (add_all x es).fixed) (sym same) ∙ fits.fixed in
          ap (λ f. rows_of row_of f rs) fixed ∙ ap rows_or_refusal (again row_of (none_yet b.fixed) 1 rs stands))
      | (Err fault) ↦ λ is fits e. absurd (cc e)
    ] in
    go (after_records row_of (none_yet x.fixed) 1 rs) refl (records_fit row_of sound x (none_yet x.fixed) 1 rs (record { fixed = refl; addable = refl })) h

-- what is found under an id

flag_itself : (b : Bool) → beq b b ≡ true
flag_itself true = refl
flag_itself false = refl

match_new : (m : IdMatch) (full : Bool) → addition_by m full ≡ Ok true → m ≡ New
match_new New full h = refl
match_new Same full h = absurd (cc h)
match_new Other full h = absurd (cc h)

match_same : (m : IdMatch) (full : Bool) → addition_by m full ≡ Ok false → m ≡ Same
match_same New true h = absurd (cc h)
match_same New false h = absurd (cc h)
match_same Same full h = refl
match_same Other full h = absurd (cc h)

keyed_new : (m : IdMatch) (held full : Bool) → keyed_addition m held full ≡ Ok true → m ≡ New
keyed_new New held full h = refl
keyed_new Same held full h = absurd (cc h)
keyed_new Other held full h = absurd (cc h)

keyed_same : (m : IdMatch) (held full : Bool) → keyed_addition m held full ≡ Ok false → m ≡ Same
keyed_same New true full h = absurd (cc h)
keyed_same New false true h = absurd (cc h)
keyed_same New false false h = absurd (cc h)
keyed_same Same held full h = refl
keyed_same Other held full h = absurd (cc h)

-- what stands the same adds nothing
same_adds : (m : IdMatch) (full : Bool) → m ≡ Same → addition_by m full ≡ Ok false
same_adds m full is = ap (λ n. addition_by n full) is

same_keyed_adds : (m : IdMatch) (held full : Bool) → m ≡ Same → keyed_addition m held full ≡ Ok false
same_keyed_adds m held full is = ap (λ n. keyed_addition n held full) is

found_same : {T : Type 0} (same : T → T → Bool) (row : T) (o : Option T) → id_match_by same row o ≡ Same → (other : T) × (o ≡ Some other)
found_same same row None h = absurd (cc h)
found_same same row (Some other) h = (other, refl)

-- a row that is added to a list stands in it
put_stands : {T : Type 0} (id : T → List ℕ) (same : T → T → Bool) (rows : List T) (row : T) → same row row ≡ true → id_match_of id same rows row ≡ New → id_match_of id same (rows ++ row ∷ []) row ≡ Same
put_stands {T} id same rows row itself new =
    let test : T → Bool = λ other. bytes_eq (id row) (id other) in
    let none : find test rows ≡ None = new_found same row (find test rows) new in
    ap (id_match_by same row) (find-append test rows (row ∷ []) ∙ (ap (λ o. option_or o (find test (row ∷ []))) none ∙ ap (λ b. if b then Some row else None) (bytes_same (id row))))
    ∙ ap (λ b. if b then Same else Other) itself

-- and one that stands stands behind one more
still_stands : {T : Type 0} (id : T → List ℕ) (same : T → T → Bool) (rows more : List T) (row : T) → id_match_of id same rows row ≡ Same → id_match_of id same (rows ++ more) row ≡ Same
still_stands {T} id same rows more row h =
    let test : T → Bool = λ other. bytes_eq (id row) (id other) in
    let found = found_same same row (find test rows) h in
    ap (id_match_by same row) (find-append test rows more ∙ (ap (λ o. option_or o (find test more)) found.1 ∙ sym found.1)) ∙ h

-- each kind of row

abbrev IsAccount : Entry → Type 0
IsAccount e = (a : Account) × (e ≡ NewAccount a)

type_itself : (t : JudgementType) → same_type t t ≡ true
type_itself t = rw (bytes_same t.id, bytes_same t.name, flag_itself t.solved, flag_itself t.penalty) refl

types_settle : Settles (object_row settings.JudgementTypes) IsType
types_settle = record {
  kind = object_kind settings.JudgementTypes;
  apart = λ f e d k. refl;
  here = λ f e k is. (let t = k.0 in let g : row_addition f (NewType t) ≡ Ok true = subst (λ z. row_addition f z ≡ Ok true) k.1 is in
      subst (λ z. row_addition (with_row f z) z ≡ Ok false) (sym k.1)
      (same_adds _ _ (put_stands (λ (u : JudgementType). u.id) same_type f.settings.types t (type_itself t) (match_new _ _ g))));
  stays = λ f d e k l added none. (let t = k.0 in let u = l.0 in let g : row_addition f (NewType u) ≡ Ok false = subst (λ z. row_addition f z ≡ Ok false) l.1 none in
      rw (k.1, l.1) (same_adds _ _ (still_stands (λ (w : JudgementType). w.id) same_type f.settings.types (t ∷ []) u (match_same _ _ g))));
}

language_itself : (l : Language) → same_language l l ≡ true
language_itself l = rw (bytes_same l.id, bytes_same l.name, flag_itself l.entry_point_required) refl

languages_settle : Settles (object_row settings.Languages) IsLanguage
languages_settle = record {
  kind = object_kind settings.Languages;
  apart = λ f e d k. refl;
  here = λ f e k is. (let t = k.0 in let g : row_addition f (NewLanguage t) ≡ Ok true = subst (λ z. row_addition f z ≡ Ok true) k.1 is in
      subst (λ z. row_addition (with_row f z) z ≡ Ok false) (sym k.1)
      (same_adds _ _ (put_stands (λ (u : Language). u.id) same_language f.settings.languages t (language_itself t) (match_new _ _ g))));
  stays = λ f d e k l added none. (let t = k.0 in let u = l.0 in let g : row_addition f (NewLanguage u) ≡ Ok false = subst (λ z. row_addition f z ≡ Ok false) l.1 none in
      rw (k.1, l.1) (same_adds _ _ (still_stands (λ (w : Language). w.id) same_language f.settings.languages (t ∷ []) u (match_same _ _ g))));
}

problem_itself : (p : Problem) → same_problem p p ≡ true
problem_itself p = rw (bytes_same p.id, bytes_same p.label, bytes_same p.name, eq-eqb p.ordinal p.ordinal refl) refl

problems_settle : Settles (object_row settings.Problems) IsProblem
problems_settle = record {
  kind = object_kind settings.Problems;
  apart = λ f e d k. refl;
  here = λ f e k is. (let t = k.0 in let g : row_addition f (NewProblem t) ≡ Ok true = subst (λ z. row_addition f z ≡ Ok true) k.1 is in
      subst (λ z. row_addition (with_row f z) z ≡ Ok false) (sym k.1)
      (same_keyed_adds _ _ _ (put_stands (λ (u : Problem). u.id) same_problem f.settings.problems t (problem_itself t) (keyed_new _ _ _ g))));
  stays = λ f d e k l added none. (let t = k.0 in let u = l.0 in let g : row_addition f (NewProblem u) ≡ Ok false = subst (λ z. row_addition f z ≡ Ok false) l.1 none in
      rw (k.1, l.1) (same_keyed_adds _ _ _ (still_stands (λ (w : Problem). w.id) same_problem f.settings.problems (t ∷ []) u (keyed_same _ _ _ g))));
}

group_itself : (g : Group) → same_group g g ≡ true
group_itself g = rw (bytes_same g.id, bytes_same g.name) refl

groups_settle : Settles (object_row settings.Groups) IsGroup
groups_settle = record {
  kind = object_kind settings.Groups;
  apart = λ f e d k. refl;
  here = λ f e k is. (let t = k.0 in let g : row_addition f (NewGroup t) ≡ Ok true = subst (λ z. row_addition f z ≡ Ok true) k.1 is in
      subst (λ z. row_addition (with_row f z) z ≡ Ok false) (sym k.1)
      (same_adds _ _ (put_stands (λ (u : Group). u.id) same_group f.settings.groups t (group_itself t) (match_new _ _ g))));
  stays = λ f d e k l added none. (let t = k.0 in let u = l.0 in let g : row_addition f (NewGroup u) ≡ Ok false = subst (λ z. row_addition f z ≡ Ok false) l.1 none in
      rw (k.1, l.1) (same_adds _ _ (still_stands (λ (w : Group). w.id) same_group f.settings.groups (t ∷ []) u (match_same _ _ g))));
}

-- what is asked only where a test holds
tested : {T : Type 0} (b : Bool) (r : Result T Cause) (c : Cause) (v : T) → (if b then r else Err c) ≡ Ok v → (b ≡ true) × (r ≡ Ok v)
tested true r c v h = (refl, h)
tested false r c v h = absurd (cc h)

team_itself : (t : Team) → same_team t t ≡ true
team_itself t = rw (bytes_same t.id, bytes_same t.name, bytes_same t.groups, flag_itself t.hidden) refl

-- a team is read by the groups alone
by_groups : (s u : Setup) → u.groups ≡ s.groups → (o : Option TeamRow) → team_or_malformed u o ≡ team_or_malformed s o
by_groups s u same None = refl
by_groups s u same (Some t) = ap (λ gs. if are_different t.groups then team_by t (all_some (map (λ id. place_of id (map (λ (g : Group). g.id) gs)) t.groups)) else Err cause.Malformed) same

teams_apart : (f : FixedPart) (e : Entry) → IsTeam e → (with_row f e).settings.groups ≡ f.settings.groups
teams_apart f e (t, is) = ap (λ z. (with_row f z).settings.groups) is

team_here : (f : FixedPart) (e : Entry) → IsTeam e → row_addition f e ≡ Ok true → row_addition (with_row f e) e ≡ Ok false
team_here f e (t, k) is =
    let g : row_addition f (NewTeam t) ≡ Ok true = subst (λ z. row_addition f z ≡ Ok true) k is in
    let both = tested (refers (length f.settings.groups) t) (addition (λ (r : Team). r.id) same_team TEAMS f.settings.teams t) cause.UnknownReference true g in
    subst (λ z. row_addition (with_row f z) z ≡ Ok false) (sym k)
    (rw both.0 (same_adds _ _ (put_stands (λ (u : Team). u.id) same_team f.settings.teams t (team_itself t) (match_new _ _ both.1))))

team_stays : (f : FixedPart) (d e : Entry) → IsTeam d → IsTeam e → row_addition f d ≡ Ok true → row_addition f e ≡ Ok false → row_addition (with_row f d) e ≡ Ok false
team_stays f d e (t, k) (u, l) added none =
    let g : row_addition f (NewTeam u) ≡ Ok false = subst (λ z. row_addition f z ≡ Ok false) l none in
    let both = tested (refers (length f.settings.groups) u) (addition (λ (r : Team). r.id) same_team TEAMS f.settings.teams u) cause.UnknownReference false g in
    rw (k, l, both.0) (same_adds _ _ (still_stands (λ (w : Team). w.id) same_team f.settings.teams (t ∷ []) u (match_same _ _ both.1)))

team_objects_settle : Settles (object_row settings.Teams) IsTeam
team_objects_settle = record {
  kind = object_kind settings.Teams;
  apart = λ f e d k. by_groups f.settings (with_row f e).settings (teams_apart f e k) (team_in d);
  here = team_here;
  stays = team_stays;
}

team_records_settle : Settles team_record IsTeam
team_records_settle = record {
  kind = λ f r. team_holds f.settings (option_and_then _ (four_of r));
  apart = λ f e r k. by_groups f.settings (with_row f e).settings (teams_apart f e k) (option_and_then _ (four_of r));
  here = team_here;
  stays = team_stays;
}

-- accounts, which stand by id

not_before_itself : (t : List ℕ) → is_lt (slice_cmp nat_cmp t t) ≡ false
not_before_itself t =
    let turns : slice_cmp nat_cmp t t ≡ ordering_reverse (slice_cmp nat_cmp t t) = nat_list_cmp_total.antisymm t t in
    let go : (r : Ordering) → r ≡ ordering_reverse r → is_lt r ≡ false = elim [ Less ↦ λ e. absurd (cc e) | Equal ↦ λ e. refl | Greater ↦ λ e. refl ] in
    go (slice_cmp nat_cmp t t) turns

role_itself : (r : Role) → same_role r r ≡ true
role_itself (role.Team team) = eq-eqb team team refl
role_itself role.Judge = refl
role_itself role.Admin = refl
role_itself role.Analyst = refl

account_itself : (a : Account) → same_account a a ≡ true
account_itself a = rw (bytes_same a.id, role_itself a.role, bytes_same a.digest) refl

turned : (a b : List ℕ) → bytes_eq a b ≡ bytes_eq b a
turned a b =
    let go : (p q : Bool) → bytes_eq a b ≡ p → bytes_eq b a ≡ q → p ≡ q = elim [
      | true ↦ elim [ true ↦ λ e f. refl | false ↦ λ e f. sym (sym f ∙ (bytes_eq-Decides b a).1 (sym (same_bytes a b e))) ]
      | false ↦ elim [ true ↦ λ e f. sym e ∙ (bytes_eq-Decides a b).1 (sym (same_bytes b a f)) | false ↦ λ e f. refl ]
    ] in
    go (bytes_eq a b) (bytes_eq b a) refl refl

looked_up : (accounts : List Account) (id : List ℕ) → find (λ (b : Account). bytes_eq id b.id) accounts ≡ account_named accounts id
looked_up [] id = refl
looked_up (b ∷ accounts) id = rw (turned id b.id) (ap (λ rest. if bytes_eq b.id id then Some b else rest) (looked_up accounts id))

none_among : (accounts : List Account) (id : List ℕ) → account_named accounts id ≡ None → is_among (map (λ (b : Account). b.id) accounts) id ≡ false
none_among [] id h = refl
none_among (b ∷ accounts) id h =
    let go : (p : Bool) → bytes_eq b.id id ≡ p → (if p then Some b else account_named accounts id) ≡ None → is_among (map (λ (c : Account). c.id) (b ∷ accounts)) id ≡ false = elim [
      | true ↦ λ e k. absurd (cc k)
      | false ↦ λ e k. rw e (none_among accounts id k)
    ] in
    go (bytes_eq b.id id) refl h

role_or_malformed_holds : (s : Setup) (o : Option AccountRow) → IfOk (account_or_malformed s o) IsAccount
role_or_malformed_holds s None = tt
role_or_malformed_holds s (Some a) =
    let go : (o : Option Role) → IfOk (account_by a o) IsAccount = elim [ None ↦ tt | (Some r) ↦ (record { id = a.id; role = r; digest = a.digest }, refl) ] in
    go (role_of s a.role)

-- those before an account in the order of the ids have another id
none_before : (accounts : List Account) (a : Account) → account_named (filter (λ b. comes_before b a) accounts) a.id ≡ None
none_before [] a = refl
none_before (b ∷ accounts) a =
    let go : (p q : Bool) → comes_before b a ≡ p → bytes_eq b.id a.id ≡ q → account_named (if p then b ∷ filter (λ c. comes_before c a) accounts else filter (λ c. comes_before c a) accounts) a.id ≡ None = elim [
      | true ↦ elim [
        | true ↦ λ e f. absurd (false≢true (sym (not_before_itself a.id) ∙ (ap (λ t. is_lt (slice_cmp nat_cmp t a.id)) (sym (same_bytes b.id a.id f)) ∙ e)))
        | false ↦ λ e f. rw f (none_before accounts a)
      ]
      | false ↦ λ q e f. none_before accounts a
    ] in
    go (comes_before b a) (bytes_eq b.id a.id) refl refl

-- an account that is put among others is found by its id
named_itself : (accounts : List Account) (a : Account) → account_named (with_account accounts a) a.id ≡ Some a
named_itself accounts a =
    let test : Account → Bool = λ b. bytes_eq b.id a.id in
    let before = filter (λ b. comes_before b a) accounts in
    let after = filter (λ b. comes_before a b) accounts in
    find-append test before (a ∷ after) ∙ (ap (λ o. option_or o (find test (a ∷ after))) (none_before accounts a) ∙ ap (λ b. if b then Some a else find test after) (bytes_same a.id))

account_here : (f : FixedPart) (e : Entry) → IsAccount e → row_addition f e ≡ Ok true → row_addition (with_row f e) e ≡ Ok false
account_here f e (a, k) is =
    let accounts = f.accounts in
    let g : row_addition f (NewAccount a) ≡ Ok true = subst (λ z. row_addition f z ≡ Ok true) k is in
    let both = tested (has_valid_role f.settings a.role) (keyed_addition (id_match_of (λ (c : Account). c.id) same_account accounts a) (is_among (map (λ (c : Account). c.digest) accounts) a.digest) (nat_le ACCOUNTS (length accounts))) cause.UnknownReference true g in
    let new : account_named accounts a.id ≡ None = sym (looked_up accounts a.id) ∙ new_found same_account a _ (keyed_new _ _ _ both.1) in
    let named : account_named (with_account accounts a) a.id ≡ Some a = named_itself accounts a in
    let stands : id_match_of (λ (b : Account). b.id) same_account (with_account accounts a) a ≡ Same =
    ap (id_match_by same_account a) (looked_up (with_account accounts a) a.id ∙ named) ∙ ap (λ b. if b then Same else Other) (account_itself a) in
    subst (λ z. row_addition (with_row f z) z ≡ Ok false) (sym k) (rw both.0 (same_keyed_adds _ _ _ stands))

account_stays : (f : FixedPart) (d e : Entry) → IsAccount d → IsAccount e → row_addition f d ≡ Ok true → row_addition f e ≡ Ok false → row_addition (with_row f d) e ≡ Ok false
account_stays f d e (a, k) (b, l) added none =
    let accounts = f.accounts in
    let g : row_addition f (NewAccount a) ≡ Ok true = subst (λ z. row_addition f z ≡ Ok true) k added in
    let h : row_addition f (NewAccount b) ≡ Ok false = subst (λ z. row_addition f z ≡ Ok false) l none in
    let one = tested (has_valid_role f.settings a.role) (keyed_addition (id_match_of (λ (c : Account). c.id) same_account accounts a) (is_among (map (λ (c : Account). c.digest) accounts) a.digest) (nat_le ACCOUNTS (length accounts))) cause.UnknownReference true g in
    let other = tested (has_valid_role f.settings b.role) (keyed_addition (id_match_of (λ (c : Account). c.id) same_account accounts b) (is_among (map (λ (c : Account). c.digest) accounts) b.digest) (nat_le ACCOUNTS (length accounts))) cause.UnknownReference false h in
    let new : account_named accounts a.id ≡ None = sym (looked_up accounts a.id) ∙ new_found same_account a _ (keyed_new _ _ _ one.1) in
    let was : id_match_of (λ (c : Account). c.id) same_account accounts b ≡ Same = keyed_same _ _ _ other.1 in
    let found = found_same same_account b _ was in
    let still : account_named (with_account accounts a) b.id ≡ Some found.0 = named_still accounts a (none_among accounts a.id new) b.id found.0 (sym (looked_up accounts b.id) ∙ found.1) in
    let stands : id_match_of (λ (c : Account). c.id) same_account (with_account accounts a) b ≡ Same =
    ap (id_match_by same_account b) (looked_up (with_account accounts a) b.id ∙ (still ∙ sym found.1)) ∙ was in
    rw (k, l, other.0) (same_keyed_adds _ _ _ stands)

accounts_settle : Settles account_record IsAccount
accounts_settle = record {
  kind = λ f r. role_or_malformed_holds f.settings (option_and_then account_fields (four_of r));
  apart = λ f e r k. ap (λ z. account_or_malformed (with_row f z).settings (option_and_then account_fields (four_of r))) k.1;
  here = account_here;
  stays = account_stays;
}

-- a file of each kind

off_form_again : {A : Type 0} (rows more : List A → Result (List Entry) Refusal) (o : Option (List A)) (es : List Entry) → ((found : List A) → rows found ≡ Ok es → more found ≡ Ok []) → or_off_form rows o ≡ Ok es → or_off_form more o ≡ Ok []
off_form_again rows more None es h is = absurd (cc is)
off_form_again rows more (Some found) es h is = h found is

objects_again : (k : SettingsKind) (x : ContestState) (rs : List Data) (rows : List Entry) → rows_of (object_row k) x.fixed rs ≡ Ok rows → rows_of (object_row k) (add_all x rows).fixed rs ≡ Ok []
objects_again settings.JudgementTypes x rs rows = rows_again (object_row settings.JudgementTypes) IsType types_settle (sound_object settings.JudgementTypes) x rs rows
objects_again settings.Languages x rs rows = rows_again (object_row settings.Languages) IsLanguage languages_settle (sound_object settings.Languages) x rs rows
objects_again settings.Problems x rs rows = rows_again (object_row settings.Problems) IsProblem problems_settle (sound_object settings.Problems) x rs rows
objects_again settings.Groups x rs rows = rows_again (object_row settings.Groups) IsGroup groups_settle (sound_object settings.Groups) x rs rows
objects_again settings.Teams x rs rows = rows_again (object_row settings.Teams) IsTeam team_objects_settle (sound_object settings.Teams) x rs rows

pub rows_in_again : (k : FixedKind) (x : ContestState) (bytes : List ℕ) (rows : List Entry) → rows_in k x.fixed bytes ≡ Ok rows → rows_in k (add_all x rows).fixed bytes ≡ Ok []
rows_in_again (kind.Settings s) x bytes rows is = off_form_again (rows_of (object_row s) x.fixed) (rows_of (object_row s) (add_all x rows).fixed) (items_in bytes) rows (λ rs. objects_again s x rs rows) is
rows_in_again kind.TeamsCsv x bytes rows is =
    off_form_again (rows_of team_record x.fixed) (rows_of team_record (add_all x rows).fixed) (csv_records team_names bytes) rows (λ rs. rows_again team_record IsTeam team_records_settle sound_team_record x rs rows) is
rows_in_again kind.AccountsCsv x bytes rows is =
    off_form_again (rows_of account_record x.fixed) (rows_of account_record (add_all x rows).fixed) (csv_records account_names bytes) rows (λ rs. rows_again account_record IsAccount accounts_settle sound_account_record x rs rows) is
