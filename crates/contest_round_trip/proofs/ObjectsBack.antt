-- The objects of the settings, as a reader of a feed has them.
use Rattle.std.proofs.Common.{◌≡◌, ◌∙◌, ◌≤◌, ◌<◌, ℕ, true, false, List, [], ◌∷◌, Option, Some, None, map, pos, length, refl, ap, inl, inr, arith, le-leb}
use Rattle.std.specs.Prelude.{nat_lt, IfSome}
use Rattle.std.specs.List.{list_all}
use Rattle.std.specs.Option.{option_and_then, option_map}
use Rattle.std.proofs.lemmas.Bool.{and_parts, ltb-true}
use Rattle.serde_json.specs.Data.{string}
use Rattle.serde_json.specs.View.{items_of}
use Rattle.contest_types.specs.IdText.{IsId, id_of}
use Rattle.contest_types.specs.Options.{all_some}
use Rattle.contest_types.specs.Order.{Has}
use Rattle.contest_types.specs.RelTimeText.{farthest, rel_time_text}
use Rattle.contest_types.specs.SettingsNames.{group_id_at}
use Rattle.contest_types.specs.Setup.{Setup, is_valid_head, refers}
use Rattle.contest_types.specs.declared.contest.ContestHead.{ContestHead}
use Rattle.contest_types.specs.declared.limits.TheConstants.{LONGEST_CONTEST, PENALTY_MINUTES}
use Rattle.contest_types.specs.declared.marks.Marks.{Marks}
use Rattle.contest_types.specs.declared.objects.Group.{Group}
use Rattle.contest_types.specs.declared.objects.JudgementType.{JudgementType}
use Rattle.contest_types.specs.declared.objects.Problem.{Problem}
use Rattle.contest_types.specs.declared.objects.Team.{Team}
use Rattle.contest_files.specs.FieldTexts.{not_below_zero, span_of}
use Rattle.contest_files.specs.IdArrays.{id_item}
use Rattle.contest_files.specs.JsonMembers.{list_of, optional, unless_null}
use Rattle.contest_import.specs.ContestFile.{freeze_of}
use Rattle.contest_objects.specs.ContestObjects.{contest_data}
use Rattle.contest_objects.specs.SettingsObjects.{group_item, problem_item, team_item, type_item}
use Rattle.contest_objects.specs.Times.{span_or_null}
use Rattle.contest_feed_reader.specs.FeedTypes.{GroupRead, ProblemRead, TeamRead, TypeRead}
use Rattle.contest_feed_reader.specs.Objects.{ContestMembers, are_in_range, contest_members, group_members, problem_members, team_members, type_members}
use Rattle.contest_round_trip.specs.Forms.{HasNames, IsCalled, IsProblem}
use Rattle.contest_round_trip.proofs.ContestTimes.{span_back}
use Rattle.contest_round_trip.proofs.HeardEvents.{IsMade, Made}
use Rattle.contest_round_trip.proofs.PlainObjects.{id_at}
use Rattle.contest_round_trip.proofs.PlainRows.{freeze_bound, group_called, head_bounds}

-- ---- judgement types, problems and groups

abbrev pub type_made : JudgementType → Made TypeRead
type_made t = record { item = type_item t; object = record { name = t.name; solved = t.solved; penalty = t.penalty } }

pub type_is_made : (t : JudgementType) → IsCalled t.id t.name → IsMade type_members (type_made t)
type_is_made t c = record { id = c.has_id; own = refl; body = refl; read = rw (c.has_name.name) refl }

abbrev pub problem_made : Problem → Made ProblemRead
problem_made p = record { item = problem_item p; object = record { label = p.label; name = p.name; ordinal = p.ordinal } }

pub problem_is_made : (p : Problem) → IsProblem p → IsMade problem_members (problem_made p)
problem_is_made p c = record { id = c.called.has_id; own = refl; body = refl; read = rw (c.label.name, c.called.has_name.name, le-leb p.ordinal 65_535 c.ordinal) refl }

abbrev pub group_made : Group → Made GroupRead
group_made g = record { item = group_item g; object = record { hidden = false } }

pub group_is_made : (g : Group) → IsCalled g.id g.name → IsMade group_members (group_made g)
group_is_made g c = record { id = c.has_id; own = refl; body = refl; read = refl }

-- ---- teams

abbrev pub team_made : Setup → Team → Made TeamRead
team_made s t = record { item = team_item s t; object = record { name = t.name; groups = map (group_id_at s) t.groups; hidden = t.hidden } }

ids_back : (id : ℕ → List ℕ) (places : List ℕ) → ((p : ℕ) → Has places p → IsId (id p)) → all_some (map id_item (list_of (items_of (map (λ place. string (id place)) places)))) ≡ Some (map id places)
ids_back id [] h = refl
ids_back id (p ∷ places) h =
    let rest = ids_back id places (λ q k. h q (inr k)) in
    let first : id_of (id p) ≡ Some (id p) = rw (h p (inl refl)) refl in
    let others = all_some (map id_item (list_of (items_of (map (λ place. string (id place)) places)))) in
    ap (option_and_then (λ i. option_map (λ is. i ∷ is) others)) first ∙ ap (option_map (λ is. id p ∷ is)) rest

named_group : (s : Setup) → HasNames s → (places : List ℕ) → list_all (λ g. nat_lt g (length s.groups)) places ≡ true → (p : ℕ) → Has places p → IsId (group_id_at s p)
named_group s names places e p k = id_at (λ (g : Group). g.id) s.groups p (λ g h. (group_called s names g h).has_id) (below places e k)
  where
    below : (ps : List ℕ) → list_all (λ g. nat_lt g (length s.groups)) ps ≡ true → Has ps p → p < length s.groups
    below [] f h = absurd h
    below (q ∷ ps) f h = (let parts = and_parts (nat_lt q (length s.groups)) (list_all (λ g. nat_lt g (length s.groups)) ps) f in
        elim h [ inl same ↦ rw same (ltb-true q (length s.groups) parts.0) | inr later ↦ below ps parts.1 later ])

pub team_is_made : (s : Setup) → HasNames s → (t : Team) → IsCalled t.id t.name → refers (length s.groups) t ≡ true → IsMade team_members (team_made s t)
team_is_made s names t c e = record {
  id = c.has_id;
  own = refl;
  body = refl;
  read = rw (c.has_name.name, ids_back (group_id_at s) t.groups (named_group s names t.groups e)) refl;
}

-- ---- the contest

abbrev pub contest_made : ContestHead → Marks → Made ContestMembers
contest_made h m = record {
  item = record { id = h.id; object = contest_data h m };
  object = record { name = h.name; duration = h.duration; freeze = h.freeze; penalty_time = h.penalty_time };
}

pub span_read : (span : ℕ) → span ≤ farthest → span_of (rel_time_text (pos span)) ≡ Some span
span_read span h = ap (option_and_then not_below_zero) (span_back (pos span) h)

freeze_read : (freeze : Option ℕ) → IfSome freeze (λ span. span ≤ farthest) → optional freeze_of (option_and_then unless_null (Some (span_or_null freeze))) ≡ Some freeze
freeze_read None h = refl
freeze_read (Some span) h = ap (option_map Some) (span_read span h)

pub contest_is_made : (s : Setup) (m : Marks) → IsCalled s.head.id s.head.name → is_valid_head s.head ≡ true → IsMade contest_members (contest_made s.head m)
contest_is_made s m c e =
    let h = s.head in
    let b = head_bounds h e in
    let long : h.duration ≤ farthest = omega (arith, b.duration) in
    let range : are_in_range h.duration h.freeze h.penalty_time ≡ true = rw (b.some, le-leb h.duration LONGEST_CONTEST b.duration, b.freeze, le-leb h.penalty_time PENALTY_MINUTES b.penalty) refl in
    record {
      id = c.has_id;
      own = refl;
      body = refl;
      read = rw (span_read h.duration long, freeze_read h.freeze (freeze_bound h.freeze h.duration b.freeze long), le-leb h.penalty_time PENALTY_MINUTES b.penalty, range, c.has_name.name) refl;
    }
