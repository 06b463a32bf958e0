-- What a feed says of clarifications and of awards is plain.
use Rattle.std.proofs.Common.{◌≡◌, ◌≤◌, ◌<◌, ◌+◌, ◌^◌, ℕ, Bool, true, false, List, [], ◌∷◌, ◌++◌, Option, Some, None, decimal, length, refl, subst, inl, inr, arith, codes}
use Rattle.std.specs.Prelude.{◌&&◌, ◌==◌, nat_lt, IfSome, if◌then◌else◌, is_some}
use Rattle.std.specs.List.{list_all, list_any}
use Rattle.std.specs.Option.{option_and_then, option_map, option_map_or}
use Rattle.std.specs.Str.{IsUtf8}
use Rattle.std.proofs.lemmas.Bool.{and_parts, cases_Bool, false≢true, ltb-true}
use Rattle.std.proofs.lemmas.Str.{IsUtf8-append}
use Rattle.json.proofs.Printed.Utf8.{IsUtf8-are_ascii}
use Rattle.serde_json.specs.Data.{no_members}
use Rattle.contest_types.specs.Accounts.{account_named}
use Rattle.contest_types.specs.MomentText.{moment_text}
use Rattle.contest_types.specs.Order.{Has}
use Rattle.contest_types.specs.ProblemPlaces.{problem_id_at}
use Rattle.contest_types.specs.Setup.{IsValid, Setup}
use Rattle.contest_types.specs.Sight.{SeenClarification, heard_reference, hears, seen_clarification}
use Rattle.contest_types.specs.State.{ContestState, FixedPart, same_addressee}
use Rattle.contest_types.specs.Valid.{is_valid}
use Rattle.contest_types.specs.ValidClarifications.{has_clarification, is_an_addressee, is_valid_clarification, is_well_sent}
use Rattle.contest_types.specs.VisibleIds.{clarification_id}
use Rattle.contest_types.specs.declared.audience.Audience.{Audience}
use Rattle.contest_types.specs.declared.clarification.Addressee.{Addressee}
use Rattle.contest_types.specs.declared.clarification.Addressee.TheVariants.{All as ToAll, Group as ToGroup, Team as ToTeam}
use Rattle.contest_types.specs.declared.clarification.Clarification.{Clarification}
use Rattle.contest_types.specs.declared.clarification.Reference.{Reference}
use Rattle.contest_types.proofs.PlaceLemmas.{and_left, and_right}
use Rattle.contest_types.proofs.SeenWhole.{all_has}
use Rattle.contest_types.proofs.SightLemmas.{same_is_one}
use Rattle.contest_types.proofs.ValidParts.{parts}
use Rattle.contest_types.specs.ValidClarifications.{are_valid_clarifications, in_one_scope, keys_are_own, to_one_addressee}
use Rattle.contest_types.specs.Series.{in_each}
use Rattle.contest_objects.specs.ClarificationObjects.{clarification_data, clarification_members, group_of, receiver, reference_id, team_of, writer}
use Rattle.contest_round_trip.specs.Forms.{HasNames, IsMoment, IsTold}
use Rattle.contest_round_trip.proofs.PlainObjects.{AreMembers, IsPlain, last_member, next_member, object_plain, text_or_null_plain, text_plain}
use Rattle.contest_round_trip.proofs.PlainRows.{group_id_utf8, problem_id_utf8, team_id_utf8}
use Rattle.contest_round_trip.proofs.PlainSeen.{decimal_utf8, time_plain}
use Rattle.contest_round_trip.proofs.TimeTexts.{moment_utf8}

-- ---- addressees

-- its place is one of those that there may be
abbrev pub IsNear : Addressee → Type 0
IsNear ToAll = Unit {0}
IsNear (ToGroup group) = group ≤ 1_000
IsNear (ToTeam team) = team ≤ 1_000

near_of : (f : FixedPart) → IsValid f.settings → (a : Addressee) → is_an_addressee f a ≡ true → IsNear a
near_of f v ToAll e = tt
near_of f v (ToGroup group) e = let l : group < length f.settings.groups = ltb-true group _ e in omega (arith, v.few_groups, l)
near_of f v (ToTeam team) e = let l : team < length f.settings.teams = ltb-true team _ e in omega (arith, v.few_teams, l)

any_has : {X : Type 0} (p : X → Bool) (xs : List X) → list_any p xs ≡ true → (x : X) × Has xs x × (p x ≡ true)
any_has p [] e = absurd (false≢true e)
any_has {X} p (x ∷ xs) e = elim (cases_Bool (p x)) [
  | inl passes ↦ (x, inl refl, passes)
  | inr fails ↦ (let later = any_has p xs (rw fails at e) in (later.0, inr later.1, later.2))
]

-- what a valid clarification keeps to
record ClarificationParts (x : ContestState) (c : Clarification) : Type 0 where
  pub addressee : is_an_addressee x.fixed c.addressee ≡ true
  pub reply : option_map_or (has_clarification x) c.reply true ≡ true

clarification_parts : (x : ContestState) → is_valid x ≡ true → (c : Clarification) → Has x.clarifications c → ClarificationParts x c
clarification_parts x valid c there =
    let a = is_an_addressee x.fixed c.addressee in
    let b = is_some (account_named x.fixed.accounts c.account) in
    let p = option_map_or (λ problem. nat_lt problem (length x.fixed.settings.problems)) c.problem true in
    let r = option_map_or (has_clarification x) c.reply true in
    let each = in_each to_one_addressee are_valid_clarifications x.clarifications in
    let keys = in_each in_one_scope keys_are_own x.clarifications in
    let all = list_all (is_valid_clarification x) x.clarifications in
    let row = all_has (is_valid_clarification x) x.clarifications c (and_left all each (and_left (all && each) keys (parts x valid).clarifications)) there in
    let four = and_left (a && b && p && r) (is_well_sent x.fixed c) row in
    record { addressee = and_left a b (and_left (a && b) p (and_left (a && b && p) r four)); reply = and_right (a && b && p) r four }

reply_near : (x : ContestState) → is_valid x ≡ true → IsValid x.fixed.settings → (reply : Option Reference) → option_map_or (has_clarification x) reply true ≡ true → IfSome reply (λ r. IsNear r.addressee)
reply_near x valid settings None e = tt
reply_near x valid settings (Some r) e =
    let found = any_has (λ (c : Clarification). same_addressee c.addressee r.addressee && (c.number == r.number)) x.clarifications e in
    let same : found.0.addressee ≡ r.addressee = same_is_one found.0.addressee r.addressee (and_parts _ _ found.2).0 in
    subst IsNear same (near_of x.fixed settings found.0.addressee (clarification_parts x valid found.0 found.1).addressee)

-- ---- its texts

clarification_id_utf8 : (a : Addressee) (number : ℕ) → IsNear a → number < 2 ^ 64 → IsUtf8 (clarification_id a number)
clarification_id_utf8 ToAll number h k = IsUtf8-append (codes "g-") (decimal number) (IsUtf8-are_ascii (codes "g-") refl) (decimal_utf8 number k)
clarification_id_utf8 (ToGroup group) number h k =
    let front = codes "g" ++ decimal (group + 1) in
    IsUtf8-append (front ++ codes "-") (decimal number) (IsUtf8-append front (codes "-") (IsUtf8-append (codes "g") (decimal (group + 1)) (IsUtf8-are_ascii (codes "g") refl) (decimal_utf8 (group + 1) (omega (arith, h)))) (IsUtf8-are_ascii (codes "-") refl)) (decimal_utf8 number k)
clarification_id_utf8 (ToTeam team) number h k =
    let front = codes "c" ++ decimal (team + 1) in
    IsUtf8-append (front ++ codes "-") (decimal number) (IsUtf8-append front (codes "-") (IsUtf8-append (codes "c") (decimal (team + 1)) (IsUtf8-are_ascii (codes "c") refl) (decimal_utf8 (team + 1) (omega (arith, h)))) (IsUtf8-are_ascii (codes "-") refl)) (decimal_utf8 number k)

team_utf8 : (s : Setup) → HasNames s → (a : Addressee) → IfSome (team_of s a) IsUtf8
team_utf8 s n ToAll = tt
team_utf8 s n (ToGroup group) = tt
team_utf8 s n (ToTeam team) = team_id_utf8 s n team

group_utf8 : (s : Setup) → HasNames s → (a : Addressee) → IfSome (group_of s a) IsUtf8
group_utf8 s n ToAll = tt
group_utf8 s n (ToGroup group) = group_id_utf8 s n group
group_utf8 s n (ToTeam team) = tt

writer_utf8 : (s : Setup) → HasNames s → (a : Addressee) (from_jury : Bool) → IfSome (writer s a from_jury) IsUtf8
writer_utf8 s n a true = tt
writer_utf8 s n a false = team_utf8 s n a

receiver_utf8 : (s : Setup) → HasNames s → (a : Addressee) (from_jury : Bool) → IfSome (receiver s a from_jury) IsUtf8
receiver_utf8 s n a true = team_utf8 s n a
receiver_utf8 s n a false = tt

problem_utf8 : (s : Setup) → HasNames s → (problem : Option ℕ) → IfSome (option_map (problem_id_at s.problems) problem) IsUtf8
problem_utf8 s n None = tt
problem_utf8 s n (Some problem) = problem_id_utf8 s n problem

reference_utf8 : (reply : Option Reference) → IfSome reply (λ r. IsNear r.addressee) → IfSome reply (λ r. r.number < 2 ^ 64) → IfSome (option_map reference_id reply) IsUtf8
reference_utf8 None h k = tt
reference_utf8 (Some r) h k = clarification_id_utf8 r.addressee r.number h k

-- what an audience hears of a reference, if it hears it
heard_keeps : (P : Reference → Type 0) (a : Audience) (s : Setup) (reply : Option Reference) → IfSome reply P → IfSome (option_and_then (heard_reference a s) reply) P
heard_keeps P a s None h = tt
heard_keeps P a s (Some r) h =
    let go : (b : Bool) → IfSome (if b then Some r else None) P = elim [ true ↦ h | false ↦ tt ] in
    go (hears a s r.addressee)

-- ---- a clarification

members_plain : (start : Option ℕ) (from : Option (List ℕ)) (id : List ℕ) (problem reply : Option (List ℕ)) (text : List ℕ) (time : ℕ) (group to : Option (List ℕ)) → IfSome start IsMoment
    → IfSome from IsUtf8 → IsUtf8 id → IfSome problem IsUtf8 → IfSome reply IsUtf8 → IsUtf8 text → IsMoment time → IfSome group IsUtf8 → IfSome to IsUtf8
    → AreMembers 0 no_members (clarification_members start from id problem reply text time group to)
members_plain start from id problem reply text time None to s f i p r t m g u =
    next_member refl refl (time_plain 0 start time s m) (next_member refl refl (text_or_null_plain 0 from f) (next_member refl refl (text_plain 0 id i)
    (next_member refl refl (text_or_null_plain 0 problem p) (next_member refl refl (text_or_null_plain 0 reply r) (next_member refl refl (text_plain 0 text t)
    (next_member refl refl (text_plain 0 (moment_text time) (moment_utf8 time m)) (next_member refl refl (text_or_null_plain 0 to u) (last_member 0 _))))))))
members_plain start from id problem reply text time (Some group) to s f i p r t m g u =
    next_member refl refl (time_plain 0 start time s m) (next_member refl refl (text_or_null_plain 0 from f) (next_member refl refl (text_plain 0 id i)
    (next_member refl refl (text_or_null_plain 0 problem p) (next_member refl refl (text_or_null_plain 0 reply r) (next_member refl refl (text_plain 0 text t)
    (next_member refl refl (text_plain 0 (moment_text time) (moment_utf8 time m)) (next_member refl refl (text_plain 0 group g) (next_member refl refl (text_or_null_plain 0 to u) (last_member 0 _)))))))))

pub record IsClarification (f : FixedPart) (v : SeenClarification) : Type 0 where
  pub id : IsUtf8 (clarification_id v.addressee v.number)
  pub plain : IsPlain 1 (clarification_data f v)

pub clarification_plain : (a : Audience) (x : ContestState) → is_valid x ≡ true → IsValid x.fixed.settings → HasNames x.fixed.settings → IfSome x.fixed.marks.start IsMoment → (c : Clarification) → Has x.clarifications c → IsTold c
    → IsClarification x.fixed (seen_clarification a x.fixed.settings c)
clarification_plain a x valid settings names start c there told =
    let s = x.fixed.settings in
    let p = clarification_parts x valid c there in
    let id = clarification_id_utf8 c.addressee c.number (near_of x.fixed settings c.addressee p.addressee) told.number in
    let near = heard_keeps (λ r. IsNear r.addressee) a s c.reply (reply_near x valid settings c.reply p.reply) in
    let numbered = heard_keeps (λ r. r.number < 2 ^ 64) a s c.reply told.reply in
    record {
      id = id;
      plain = object_plain (members_plain x.fixed.marks.start (writer s c.addressee c.from_jury) (clarification_id c.addressee c.number) (option_map (problem_id_at s.problems) c.problem)
          (option_map reference_id (option_and_then (heard_reference a s) c.reply)) c.text c.time (group_of s c.addressee) (receiver s c.addressee c.from_jury)
          start (writer_utf8 s names c.addressee c.from_jury) id (problem_utf8 s names c.problem) (reference_utf8 (option_and_then (heard_reference a s) c.reply) near numbered) told.text told.time
          (group_utf8 s names c.addressee) (receiver_utf8 s names c.addressee c.from_jury));
    }
