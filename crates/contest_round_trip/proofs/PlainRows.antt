-- What a feed says of a contest, of its settings and of awards is plain.
use Rattle.std.proofs.Common.{◌≡◌, ◌≤◌, ℕ, true, List, Option, Some, None, pos, refl, arith, codes}
use Rattle.std.specs.Prelude.{◌&&◌, nat_le, nat_lt, IfSome}
use Rattle.std.specs.Str.{IsUtf8}
use Rattle.std.proofs.lemmas.Bool.{leb-true}
use Rattle.json.proofs.Printed.Utf8.{IsUtf8-are_ascii}
use Rattle.contest_types.specs.MomentText.{moment_text}
use Rattle.contest_types.specs.Order.{Has}
use Rattle.contest_types.specs.ProblemPlaces.{label_at, problem_id_at}
use Rattle.contest_types.specs.RelTimeText.{farthest, rel_time_text}
use Rattle.contest_types.specs.SettingsNames.{group_id_at, group_name_at, language_id_at, type_id_at}
use Rattle.contest_types.specs.Setup.{Setup, has_valid_freeze, has_valid_medals, is_valid_head}
use Rattle.contest_types.specs.TeamPlaces.{team_id_at}
use Rattle.contest_types.specs.declared.contest.ContestHead.{ContestHead}
use Rattle.contest_types.specs.declared.limits.TheConstants.{LONGEST_CONTEST, PENALTY_MINUTES}
use Rattle.contest_types.specs.declared.marks.Marks.{Marks}
use Rattle.contest_types.specs.declared.objects.Group.{Group}
use Rattle.contest_types.specs.declared.objects.JudgementType.{JudgementType}
use Rattle.contest_types.specs.declared.objects.Language.{Language}
use Rattle.contest_types.specs.declared.objects.Problem.{Problem}
use Rattle.contest_types.specs.declared.objects.Team.{Team}
use Rattle.contest_types.proofs.PlaceLemmas.{and_left, and_right}
use Rattle.contest_objects.specs.AwardObjects.{award_data}
use Rattle.contest_objects.specs.ContestObjects.{contest_data}
use Rattle.contest_objects.specs.SettingsObjects.{group_item, language_item, problem_item, team_item, type_item}
use Rattle.contest_objects.specs.Times.{moment_or_null, span_data, span_or_null}
use Rattle.contest_round_trip.specs.Forms.{HasMoments, HasNames, IsCalled, IsMoment, IsProblem}
use Rattle.contest_round_trip.proofs.ContestTimes.{span_utf8}
use Rattle.contest_round_trip.proofs.PlainObjects.{IsPlain, flag_plain, id_utf8, ids_plain, last_member, next_member, null_plain, number_plain, object_plain, of_all, text_at, text_plain}
use Rattle.contest_round_trip.proofs.TimeTexts.{moment_utf8}

-- ---- names that stand at a place

module _ (s : Setup) (h : HasNames s) where
  abbrev pub type_called : (t : JudgementType) → Has s.types t → IsCalled t.id t.name
  type_called t k = of_all (λ (u : JudgementType). IsCalled u.id u.name) s.types t h.types k

  abbrev pub language_called : (l : Language) → Has s.languages l → IsCalled l.id l.name
  language_called l k = of_all (λ (m : Language). IsCalled m.id m.name) s.languages l h.languages k

  abbrev pub group_called : (g : Group) → Has s.groups g → IsCalled g.id g.name
  group_called g k = of_all (λ (i : Group). IsCalled i.id i.name) s.groups g h.groups k

  abbrev pub team_called : (t : Team) → Has s.teams t → IsCalled t.id t.name
  team_called t k = of_all (λ (u : Team). IsCalled u.id u.name) s.teams t h.teams k

  abbrev pub problem_is : (p : Problem) → Has s.problems p → IsProblem p
  problem_is p k = of_all IsProblem s.problems p h.problems k

  pub type_id_utf8 : (place : ℕ) → IsUtf8 (type_id_at s place)
  type_id_utf8 place = text_at (λ (t : JudgementType). t.id) s.types place (λ t k. id_utf8 t.id (type_called t k).has_id)

  pub language_id_utf8 : (place : ℕ) → IsUtf8 (language_id_at s place)
  language_id_utf8 place = text_at (λ (l : Language). l.id) s.languages place (λ l k. id_utf8 l.id (language_called l k).has_id)

  pub group_id_utf8 : (place : ℕ) → IsUtf8 (group_id_at s place)
  group_id_utf8 place = text_at (λ (g : Group). g.id) s.groups place (λ g k. id_utf8 g.id (group_called g k).has_id)

  pub group_name_utf8 : (place : ℕ) → IsUtf8 (group_name_at s place)
  group_name_utf8 place = text_at (λ (g : Group). g.name) s.groups place (λ g k. (group_called g k).has_name.utf8)

  pub team_id_utf8 : (place : ℕ) → IsUtf8 (team_id_at s place)
  team_id_utf8 place = text_at (λ t. t.id) s.teams place (λ t k. id_utf8 t.id (team_called t k).has_id)

  pub problem_id_utf8 : (place : ℕ) → IsUtf8 (problem_id_at s.problems place)
  problem_id_utf8 place = text_at (λ (p : Problem). p.id) s.problems place (λ p k. id_utf8 p.id (problem_is p k).called.has_id)

  pub label_utf8 : (place : ℕ) → IsUtf8 (label_at s place)
  label_utf8 place = text_at (λ (p : Problem). p.label) s.problems place (λ p k. (problem_is p k).label.utf8)

-- ---- the settings

pub type_plain : (t : JudgementType) → IsCalled t.id t.name → IsPlain 1 (type_item t).object
type_plain t c =
    object_plain (next_member refl refl (text_plain 0 t.id (id_utf8 t.id c.has_id)) (next_member refl refl (text_plain 0 t.name c.has_name.utf8)
    (next_member refl refl (flag_plain 0 t.penalty) (next_member refl refl (flag_plain 0 t.solved) (last_member 0 _)))))

pub language_plain : (l : Language) → IsCalled l.id l.name → IsPlain 1 (language_item l).object
language_plain l c =
    object_plain (next_member refl refl (flag_plain 0 l.entry_point_required) (next_member refl refl (text_plain 0 l.id (id_utf8 l.id c.has_id))
    (next_member refl refl (text_plain 0 l.name c.has_name.utf8) (last_member 0 _))))

pub problem_plain : (p : Problem) → IsProblem p → IsPlain 1 (problem_item p).object
problem_plain p c =
    object_plain (next_member refl refl (text_plain 0 p.id (id_utf8 p.id c.called.has_id)) (next_member refl refl (text_plain 0 p.label c.label.utf8)
    (next_member refl refl (text_plain 0 p.name c.called.has_name.utf8) (next_member refl refl (number_plain 0 p.ordinal (omega (arith, c.ordinal))) (last_member 0 _)))))

pub group_plain : (g : Group) → IsCalled g.id g.name → IsPlain 1 (group_item g).object
group_plain g c =
    object_plain (next_member refl refl (text_plain 0 g.id (id_utf8 g.id c.has_id)) (next_member refl refl (text_plain 0 g.name c.has_name.utf8) (last_member 0 _)))

pub team_plain : (s : Setup) → HasNames s → (t : Team) → IsCalled t.id t.name → IsPlain 2 (team_item s t).object
team_plain s h t c =
    object_plain (next_member refl refl (ids_plain 0 (group_id_at s) (group_id_utf8 s h) t.groups) (next_member refl refl (flag_plain 1 t.hidden)
    (next_member refl refl (text_plain 1 t.id (id_utf8 t.id c.has_id)) (next_member refl refl (text_plain 1 t.name c.has_name.utf8) (last_member 1 _)))))

-- ---- the contest

pub moment_or_null_plain : (n : ℕ) (o : Option ℕ) → IfSome o IsMoment → IsPlain n (moment_or_null o)
moment_or_null_plain n None h = null_plain n
moment_or_null_plain n (Some m) h = text_plain n (moment_text m) (moment_utf8 m h)

pub span_plain : (n span : ℕ) → span ≤ farthest → IsPlain n (span_data span)
span_plain n span h = text_plain n (rel_time_text (pos span)) (span_utf8 (pos span) h)

pub span_or_null_plain : (n : ℕ) (o : Option ℕ) → IfSome o (λ span. span ≤ farthest) → IsPlain n (span_or_null o)
span_or_null_plain n None h = null_plain n
span_or_null_plain n (Some span) h = span_plain n span h

pub record HeadBounds (h : ContestHead) : Type 0 where
  pub duration : h.duration ≤ LONGEST_CONTEST
  pub some : nat_lt 0 h.duration ≡ true
  pub freeze : has_valid_freeze h.freeze h.duration ≡ true
  pub penalty : h.penalty_time ≤ PENALTY_MINUTES

pub head_bounds : (h : ContestHead) → is_valid_head h ≡ true → HeadBounds h
head_bounds h e =
    let some = nat_lt 0 h.duration in
    let long = nat_le h.duration LONGEST_CONTEST in
    let freeze = has_valid_freeze h.freeze h.duration in
    let penalty = nat_le h.penalty_time PENALTY_MINUTES in
    let four = and_left (some && long && freeze && penalty) (has_valid_medals h.medals) e in
    let three = and_left (some && long && freeze) penalty four in
    let two = and_left (some && long) freeze three in
    record {
      duration = leb-true h.duration LONGEST_CONTEST (and_right some long two);
      some = and_left some long two;
      freeze = and_right (some && long) freeze three;
      penalty = leb-true h.penalty_time PENALTY_MINUTES (and_right (some && long && freeze) penalty four);
    }

pub freeze_bound : (o : Option ℕ) (duration : ℕ) → has_valid_freeze o duration ≡ true → duration ≤ farthest → IfSome o (λ span. span ≤ farthest)
freeze_bound None duration e h = tt
freeze_bound (Some span) duration e h = omega (arith, leb-true span duration e, h)

pub contest_plain : (s : Setup) → HasNames s → (m : Marks) → HasMoments m → is_valid_head s.head ≡ true → IsPlain 1 (contest_data s.head m)
contest_plain s names m h e =
    let b = head_bounds s.head e in
    let long : s.head.duration ≤ farthest = omega (arith, b.duration) in
    object_plain (next_member refl refl (span_plain 0 s.head.duration long)
    (next_member refl refl (text_plain 0 s.head.id (id_utf8 s.head.id names.contest.has_id))
    (next_member refl refl (text_plain 0 s.head.name names.contest.has_name.utf8)
    (next_member refl refl (number_plain 0 s.head.penalty_time (omega (arith, b.penalty)))
    (next_member refl refl (span_or_null_plain 0 s.head.freeze (freeze_bound s.head.freeze s.head.duration b.freeze long))
    (next_member refl refl (moment_or_null_plain 0 m.thaw h.thaw)
    (next_member refl refl (text_plain 0 (codes "pass-fail") (IsUtf8-are_ascii (codes "pass-fail") refl))
    (next_member refl refl (moment_or_null_plain 0 m.start h.start) (last_member 0 _)))))))))

-- ---- an award

pub award_plain : (s : Setup) → HasNames s → (id citation teams : List ℕ) → IsUtf8 id → IsUtf8 citation → IsPlain 2 (award_data s id citation teams)
award_plain s h id citation teams i c =
    object_plain (next_member refl refl (text_plain 1 citation c) (next_member refl refl (text_plain 1 id i)
    (next_member refl refl (ids_plain 0 (team_id_at s) (team_id_utf8 s h) teams) (last_member 1 _))))
