-- What the records of files say is sound: no account is called `import`.
use Rattle.std.proofs.Common.{◌≡◌, ℕ, Bool, true, false, List, Option, Some, None, Result, Ok, Err, refl, sym, subst, option_and_then, option_map}
use Rattle.std.specs.Prelude.{IfOk, IfSome, codes, if◌then◌else◌}
use Rattle.std.specs.Str.{bytes_eq}
use Rattle.serde_json.specs.Data.{Data}
use Rattle.contest_types.specs.Addable.{are_addable}
use Rattle.contest_types.specs.IdText.{id_of, is_id}
use Rattle.contest_types.specs.Places.{are_different}
use Rattle.contest_types.specs.Setup.{Setup}
use Rattle.contest_types.specs.State.{FixedPart, ContestState}
use Rattle.contest_types.specs.declared.entry.Entry.{Entry}
use Rattle.contest_types.specs.declared.account.Role.{Role}
use Rattle.contest_types.specs.declared.entry.Entry.TheVariants.{NewType, NewLanguage, NewProblem, NewGroup, NewTeam}
use Rattle.contest_types.specs.declared.objects.JudgementType.{JudgementType}
use Rattle.contest_types.specs.declared.objects.Language.{Language}
use Rattle.contest_types.specs.declared.objects.Problem.{Problem}
use Rattle.contest_types.specs.declared.objects.Group.{Group}
use Rattle.contest_types.specs.declared.objects.Team.{Team}
use Rattle.contest_types.specs.declared.refusal.Cause.{Cause}
use Rattle.contest_types.specs.declared.refusal.Cause.TheVariants as cause
use Rattle.contest_types.specs.declared.refusal.Refusal.{Refusal}
use Rattle.contest_files.specs.FieldTexts.{Text}
use Rattle.contest_files.specs.JsonMembers.{data_of, flag_in, flag_or_false, id_in, items_in, name_in, number_in, text_in}
use Rattle.contest_import.specs.CsvFiles.{FourFields, account_by, account_fields, account_id, account_names, account_or_malformed, account_record, four_of, named_role, role_of, team_names, team_record, token_digest}
use Rattle.contest_import.specs.Files.{csv_records, or_off_form, rows_in}
use Rattle.contest_import.specs.PostedRows.{account_posted, account_said, digest_said, id_said, role_said}
use Rattle.contest_import.specs.RowAdditions.{rows_of}
use Rattle.contest_import.specs.SettingsObjects.{group_in, language_in, object_row, or_malformed, problem_in, team_in, type_in}
use Rattle.contest_import.specs.Teams.{group_places, team_by, team_or_malformed}
use Rattle.contest_import.specs.declared.account_row.AccountRow.{AccountRow}
use Rattle.contest_import.specs.declared.account_row.NamedRole.{NamedRole}
use Rattle.contest_types.specs.declared.import_kind.FixedKind.{FixedKind}
use Rattle.contest_types.specs.declared.import_kind.FixedKind.TheVariants as kind
use Rattle.contest_types.specs.declared.import_kind.SettingsKind.{SettingsKind}
use Rattle.contest_types.specs.declared.import_kind.SettingsKind.TheVariants as settings
use Rattle.contest_import.specs.declared.team_row.TeamRow.{TeamRow}
use Rattle.contest_import.proofs.RowLemmas.{IsSoundRow, rows_addable}

-- what holds of whatever a chain of readings gives
pub then_holds : {A B : Type 0} (P : B → Type 0) (f : A → Option B) (o : Option A) → ((a : A) → IfSome (f a) P) → IfSome (option_and_then f o) P
then_holds P f None h = tt
then_holds P f (Some a) h = h a

pub map_holds : {A B : Type 0} (P : B → Type 0) (f : A → B) (o : Option A) → ((a : A) → P (f a)) → IfSome (option_map f o) P
map_holds P f None h = tt
map_holds P f (Some a) h = h a

-- each kind of row
abbrev pub IsType : Entry → Type 0
IsType e = (t : JudgementType) × (e ≡ NewType t)

abbrev pub IsLanguage : Entry → Type 0
IsLanguage e = (l : Language) × (e ≡ NewLanguage l)

abbrev pub IsProblem : Entry → Type 0
IsProblem e = (p : Problem) × (e ≡ NewProblem p)

abbrev pub IsGroup : Entry → Type 0
IsGroup e = (g : Group) × (e ≡ NewGroup g)

abbrev pub IsTeam : Entry → Type 0
IsTeam e = (t : Team) × (e ≡ NewTeam t)

abbrev pub IsOfKind : SettingsKind → Entry → Type 0
IsOfKind settings.JudgementTypes e = IsType e
IsOfKind settings.Languages e = IsLanguage e
IsOfKind settings.Problems e = IsProblem e
IsOfKind settings.Groups e = IsGroup e
IsOfKind settings.Teams e = IsTeam e

read_holds : (P : Entry → Type 0) (o : Option Entry) → IfSome o P → IfOk (or_malformed o) P
read_holds P None h = tt
read_holds P (Some e) h = h

team_by_holds : (t : TeamRow) (o : Option (List ℕ)) → IfOk (team_by t o) IsTeam
team_by_holds t None = tt
team_by_holds t (Some groups) = (_, refl)

pub team_holds : (s : Setup) (o : Option TeamRow) → IfOk (team_or_malformed s o) IsTeam
team_holds s None = tt
team_holds s (Some t) =
    let go : (b : Bool) → IfOk (if b then team_by t (group_places s t.groups) else Err cause.Malformed) IsTeam = elim [ true ↦ team_by_holds t (group_places s t.groups) | false ↦ tt ] in
    go (are_different t.groups)

-- an object of a file says a row of the file's kind
pub object_kind : (k : SettingsKind) (f : FixedPart) (d : Data) → IfOk (object_row k f d) (IsOfKind k)
object_kind settings.JudgementTypes f d =
    read_holds IsType (type_in d) (then_holds IsType _ (id_in (codes "id") d) (λ id. then_holds IsType _ (name_in (codes "name") d)
    (λ name. then_holds IsType _ (flag_in (codes "solved") d) (λ solved. map_holds IsType _ (flag_or_false (codes "penalty") d) (λ penalty. (_, refl))))))
object_kind settings.Languages f d =
    read_holds IsLanguage (language_in d) (then_holds IsLanguage _ (id_in (codes "id") d) (λ id. then_holds IsLanguage _ (name_in (codes "name") d)
    (λ name. map_holds IsLanguage _ (flag_or_false (codes "entry_point_required") d) (λ required. (_, refl)))))
object_kind settings.Problems f d =
    read_holds IsProblem (problem_in d) (then_holds IsProblem _ (id_in (codes "id") d) (λ id. then_holds IsProblem _ (name_in (codes "label") d)
    (λ label. then_holds IsProblem _ (name_in (codes "name") d) (λ name. map_holds IsProblem _ (number_in 65_535 (codes "ordinal") d) (λ ordinal. (_, refl))))))
object_kind settings.Groups f d =
    read_holds IsGroup (group_in d) (then_holds IsGroup _ (id_in (codes "id") d) (λ id. map_holds IsGroup _ (name_in (codes "name") d) (λ name. (_, refl))))
object_kind settings.Teams f d = team_holds f.settings (team_in d)

-- and is no account
sound_kind : (k : SettingsKind) (r : Result Entry Cause) → IfOk r (IsOfKind k) → IfOk r IsSoundRow
sound_kind k (Err cause) h = tt
sound_kind settings.JudgementTypes (Ok e) (t, is) = subst IsSoundRow (sym is) tt
sound_kind settings.Languages (Ok e) (l, is) = subst IsSoundRow (sym is) tt
sound_kind settings.Problems (Ok e) (p, is) = subst IsSoundRow (sym is) tt
sound_kind settings.Groups (Ok e) (g, is) = subst IsSoundRow (sym is) tt
sound_kind settings.Teams (Ok e) (t, is) = subst IsSoundRow (sym is) tt

pub sound_object : (k : SettingsKind) (f : FixedPart) (d : Data) → IfOk (object_row k f d) IsSoundRow
sound_object k f d = sound_kind k (object_row k f d) (object_kind k f d)

abbrev pub HasSoundId : AccountRow → Type 0
HasSoundId a = bytes_eq a.id (codes "import") ≡ false

id_is : (text : Text) (o : Option Text) → id_of text ≡ o → IfSome o (λ id. id ≡ text)
id_is text None e = tt
id_is text (Some id) e =
    let go : (b : Bool) → is_id text ≡ b → id ≡ text = elim [
      | true ↦ λ is. (let same : Some text ≡ Some id = rw is at e in cc same)
      | false ↦ λ is. absurd (let no : ◌≡◌ {A = Option Text} None (Some id) = rw is at e in cc no)
    ] in
    go (is_id text) refl

sound_id : (text : Text) → IfSome (account_id text) (λ id. bytes_eq id (codes "import") ≡ false)
sound_id text =
    let named : (o : Option Text) → IfSome o (λ id. id ≡ text) → bytes_eq text (codes "import") ≡ false → IfSome o (λ id. bytes_eq id (codes "import") ≡ false) = elim [
      | None ↦ λ h e. tt
      | (Some id) ↦ λ h e. rw h e
    ] in
    let go : (b : Bool) → bytes_eq text (codes "import") ≡ b → IfSome (if b then None else id_of text) (λ id. bytes_eq id (codes "import") ≡ false) = elim [
      | true ↦ λ e. tt
      | false ↦ λ e. named (id_of text) (id_is text (id_of text) refl) e
    ] in
    go (bytes_eq text (codes "import")) refl

sound_fields : (f : FourFields) → IfSome (account_fields f) HasSoundId
sound_fields f =
    let row : List ℕ → NamedRole → List ℕ → AccountRow = λ id role digest. record { id = id; role = role; digest = digest } in
    let go : (o : Option Text) → IfSome o (λ id. bytes_eq id (codes "import") ≡ false)
    → IfSome (option_and_then (λ id. option_and_then (λ role. option_map (row id role) (token_digest f.fourth)) (named_role f.second f.third)) o) HasSoundId = elim [
      | None ↦ λ h. tt
      | (Some id) ↦ λ h. then_holds HasSoundId _ (named_role f.second f.third) (λ role. map_holds HasSoundId _ (token_digest f.fourth) (λ digest. h))
    ] in
    go (account_id f.first) (sound_id f.first)

-- an account that a body says
pub sound_said : (d : Data) → IfSome (account_said d) HasSoundId
sound_said d =
    let row : List ℕ → NamedRole → List ℕ → AccountRow = λ id role digest. record { id = id; role = role; digest = digest } in
    let go : (o : Option Text) → IfSome o (λ id. bytes_eq id (codes "import") ≡ false)
    → IfSome (option_and_then (λ id. option_and_then (λ role. option_map (row id role) (digest_said d)) (role_said d)) o) HasSoundId = elim [
      | None ↦ λ h. tt
      | (Some id) ↦ λ h. then_holds HasSoundId _ (role_said d) (λ role. map_holds HasSoundId _ (digest_said d) (λ digest. h))
    ] in
    go (id_said d) (then_holds (λ id. bytes_eq id (codes "import") ≡ false) account_id (text_in (codes "id") d) sound_id)

pub sound_posted : (body : List ℕ) → IfSome (account_posted body) HasSoundId
sound_posted body = then_holds HasSoundId account_said (data_of body) sound_said

sound_account : (s : Setup) (o : Option AccountRow) → IfSome o HasSoundId → IfOk (account_or_malformed s o) IsSoundRow
sound_account s None h = tt
sound_account s (Some a) h =
    let go : (o : Option Role) → IfOk (account_by a o) IsSoundRow = elim [ None ↦ tt | (Some role) ↦ h ] in
    go (role_of s a.role)

pub sound_account_record : (f : FixedPart) (row : List Text) → IfOk (account_record f row) IsSoundRow
sound_account_record f row = sound_account f.settings (option_and_then account_fields (four_of row)) (then_holds HasSoundId account_fields (four_of row) sound_fields)

pub sound_team_record : (f : FixedPart) (row : List Text) → IfOk (team_record f row) IsSoundRow
sound_team_record f row = sound_kind settings.Teams (team_record f row) (team_holds f.settings (option_and_then _ (four_of row)))

off_form_addable : {A : Type 0} (x : ContestState) (rows : List A → Result (List Entry) Refusal) (o : Option (List A)) → ((found : List A) → IfOk (rows found) (λ es. are_addable x es ≡ true)) → IfOk (or_off_form rows o) (λ es. are_addable x es ≡ true)
off_form_addable x rows None h = tt
off_form_addable x rows (Some found) h = h found

by_kind : (k : FixedKind) (x : ContestState) (bytes : List ℕ) → IfOk (rows_in k x.fixed bytes) (λ es. are_addable x es ≡ true)
by_kind (kind.Settings s) x bytes = off_form_addable x (rows_of (object_row s) x.fixed) (items_in bytes) (rows_addable (object_row s) (sound_object s) x)
by_kind kind.TeamsCsv x bytes = off_form_addable x (rows_of team_record x.fixed) (csv_records team_names bytes) (rows_addable team_record sound_team_record x)
by_kind kind.AccountsCsv x bytes = off_form_addable x (rows_of account_record x.fixed) (csv_records account_names bytes) (rows_addable account_record sound_account_record x)

pub rows_in_addable : (k : FixedKind) (x : ContestState) (bytes : List ℕ) (rows : List Entry) → rows_in k x.fixed bytes ≡ Ok rows → are_addable x rows ≡ true
rows_in_addable k x bytes rows is =
    let go : (r : Result (List Entry) Refusal) → IfOk r (λ es. are_addable x es ≡ true) → r ≡ Ok rows → are_addable x rows ≡ true = elim [
      | (Ok es) ↦ λ h e. (let same : es ≡ rows = cc e in rw (sym same) h)
      | (Err refusal) ↦ λ h e. absurd (cc e)
    ] in
    go (rows_in k x.fixed bytes) (by_kind k x bytes) is
