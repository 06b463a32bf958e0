-- Rows that settings are read of are the rows of those settings, in the same order.
use Rattle.std.proofs.Common.{◌≡◌, ◌∙◌, ℕ, zero, suc, ◌+◌, Bool, true, false, List, [], ◌∷◌, ◌++◌, append_assoc, append-nil, length, Option, Some, None, refl, sym, ap, arith}
use Rattle.std.specs.Prelude.{◌==◌, ◌&&◌, if◌then◌else◌}
use Rattle.std.specs.Option.{option_and_then}
use Rattle.std.proofs.lemmas.Bool.Decides.{nat_tests}
use Rattle.sqlite_value.specs.Order.{Row, column}
use Rattle.contest_types.specs.Setup.{Setup}
use Rattle.contest_types.specs.SetupAdditions.{type_addition, language_addition, group_addition, problem_addition, team_addition}
use Rattle.contest_types.specs.declared.objects.JudgementType.{JudgementType}
use Rattle.contest_types.specs.declared.objects.Language.{Language}
use Rattle.contest_types.specs.declared.objects.Problem.{Problem}
use Rattle.contest_types.specs.declared.objects.Group.{Group}
use Rattle.contest_types.specs.declared.objects.Team.{Team}
use Rattle.contest_types.proofs.PlaceLemmas.{and_left, and_right}
use Rattle.contest_store_rows.specs.Cells.{number_of, same_row}
use Rattle.contest_store_rows.specs.FixedRows.{type_row, language_row, group_row, problem_row, team_row, items_rows}
use Rattle.contest_store_rows.proofs.ListLaws.{one_more, rows_from}
use Rattle.contest_store_rows.proofs.RowLemmas.{same_rows}
use Rattle.contest_store_reading.specs.Items.{is_in_order, is_new, items_in, with_item_in, with_kind_in, with_type_in, with_language_in, with_group_in, with_problem_in, with_team_in, type_said, language_said, group_said, problem_said, team_said}
use Rattle.contest_store_reading.proofs.OptionSteps.{bound, where_true}
use Rattle.contest_types.proofs.AddClarification.{empty_of}

-- what was added, and its row
record Added {X : Type 0} (row : X → Row) (r : Row) (grown : X → Setup) (next : Setup) : Type 0 where
  pub x : X
  pub row_is : r ≡ row x
  pub next_is : next ≡ grown x

added : {X : Type 0} (row : X → Row) (r : Row) (may_stand : X → Bool) (grown : X → Setup) (said : Option X) (next : Setup) →
    option_and_then (λ x. if same_row r (row x) && may_stand x then Some (grown x) else None) said ≡ Some next → Added row r grown next
added row r may_stand grown said next is =
    let b = bound (λ x. if same_row r (row x) && may_stand x then Some (grown x) else None) said next is in
    let own = where_true (same_row r (row b.x) && may_stand b.x) (Some (grown b.x)) next b.next_is in
    record { x = b.x; row_is = same_rows r (row b.x) (and_left _ (may_stand b.x) own.0); next_is = cc (sym own.1) }

-- one more row at the end of a list of rows, also after others
at_end : (more one r : List Row) → more ≡ one ++ r → more ++ [] ≡ (one ++ []) ++ r
at_end more one r is = append-nil more ∙ is ∙ ap (λ rows. rows ++ r) (sym (append-nil one))

after : (front more one r : List Row) → more ≡ one ++ r → front ++ more ≡ (front ++ one) ++ r
after front more one r is = ap (λ rows. front ++ rows) is ∙ sym (append_assoc front one r)

end_row : {X : Type 0} (row_of : ℕ → X → Row) (xs : List X) (x : X) → rows_from row_of 1 (xs ++ x ∷ []) ++ [] ≡ (rows_from row_of 1 xs ++ []) ++ row_of (length xs + 1) x ∷ []
end_row row_of xs x = at_end (rows_from row_of 1 (xs ++ x ∷ [])) (rows_from row_of 1 xs) (row_of (length xs + 1) x ∷ []) (one_more row_of 1 xs x)

type_added : (s next : Setup) (r : Row) (x : JudgementType) → r ≡ type_row (length s.types + 1) x → next ≡ record s { types = s.types ++ x ∷ [] } → s.languages ≡ [] → s.groups ≡ [] → s.problems ≡ [] → s.teams ≡ [] → items_rows next ≡ items_rows s ++ r ∷ []
type_added s next r x row_is next_is l g p t = rw (next_is, row_is, l, g, p, t)
    (end_row type_row s.types x)

type_written : (s next : Setup) (r : Row) → with_type_in s r ≡ Some next → s.languages ≡ [] → s.groups ≡ [] → s.problems ≡ [] → s.teams ≡ [] → items_rows next ≡ items_rows s ++ r ∷ []
type_written s next r is l g p t =
    let a = added (type_row (length s.types + 1)) r (λ x. is_new (type_addition s x)) (λ x. record s { types = s.types ++ x ∷ [] }) (type_said r) next is in
    type_added s next r a.x a.row_is a.next_is l g p t

language_added : (s next : Setup) (r : Row) (x : Language) → r ≡ language_row (length s.languages + 1) x → next ≡ record s { languages = s.languages ++ x ∷ [] } → s.groups ≡ [] → s.problems ≡ [] → s.teams ≡ [] → items_rows next ≡ items_rows s ++ r ∷ []
language_added s next r x row_is next_is g p t = rw (next_is, row_is, g, p, t)
    (after (rows_from type_row 1 s.types) _ _ _ (end_row language_row s.languages x))

language_written : (s next : Setup) (r : Row) → with_language_in s r ≡ Some next → s.groups ≡ [] → s.problems ≡ [] → s.teams ≡ [] → items_rows next ≡ items_rows s ++ r ∷ []
language_written s next r is g p t =
    let a = added (language_row (length s.languages + 1)) r (λ x. is_new (language_addition s x)) (λ x. record s { languages = s.languages ++ x ∷ [] }) (language_said r) next is in
    language_added s next r a.x a.row_is a.next_is g p t

group_added : (s next : Setup) (r : Row) (x : Group) → r ≡ group_row (length s.groups + 1) x → next ≡ record s { groups = s.groups ++ x ∷ [] } → s.problems ≡ [] → s.teams ≡ [] → items_rows next ≡ items_rows s ++ r ∷ []
group_added s next r x row_is next_is p t = rw (next_is, row_is, p, t)
    (after (rows_from type_row 1 s.types) _ _ _ (after (rows_from language_row 1 s.languages) _ _ _ (end_row group_row s.groups x)))

group_written : (s next : Setup) (r : Row) → with_group_in s r ≡ Some next → s.problems ≡ [] → s.teams ≡ [] → items_rows next ≡ items_rows s ++ r ∷ []
group_written s next r is p t =
    let a = added (group_row (length s.groups + 1)) r (λ x. is_new (group_addition s x)) (λ x. record s { groups = s.groups ++ x ∷ [] }) (group_said r) next is in
    group_added s next r a.x a.row_is a.next_is p t

problem_added : (s next : Setup) (r : Row) (x : Problem) → r ≡ problem_row (length s.problems + 1) x → next ≡ record s { problems = s.problems ++ x ∷ [] } → s.teams ≡ [] → items_rows next ≡ items_rows s ++ r ∷ []
problem_added s next r x row_is next_is t = rw (next_is, row_is, t)
    (after (rows_from type_row 1 s.types) _ _ _ (after (rows_from language_row 1 s.languages) _ _ _ (after (rows_from group_row 1 s.groups) _ _ _ (end_row problem_row s.problems x))))

problem_written : (s next : Setup) (r : Row) → with_problem_in s r ≡ Some next → s.teams ≡ [] → items_rows next ≡ items_rows s ++ r ∷ []
problem_written s next r is t =
    let a = added (problem_row (length s.problems + 1)) r (λ x. is_new (problem_addition s x)) (λ x. record s { problems = s.problems ++ x ∷ [] }) (problem_said r) next is in
    problem_added s next r a.x a.row_is a.next_is t

team_added : (s next : Setup) (r : Row) (x : Team) → r ≡ team_row s (length s.teams + 1) x → next ≡ record s { teams = s.teams ++ x ∷ [] } → items_rows next ≡ items_rows s ++ r ∷ []
team_added s next r x row_is next_is = rw (next_is, row_is)
    (after (rows_from type_row 1 s.types) _ _ _ (after (rows_from language_row 1 s.languages) _ _ _ (after (rows_from group_row 1 s.groups) _ _ _ (after (rows_from problem_row 1 s.problems) _ _ _ (one_more (team_row s) 1 s.teams x)))))

team_written : (s next : Setup) (r : Row) → with_team_in s r ≡ Some next → items_rows next ≡ items_rows s ++ r ∷ []
team_written s next r is =
    let a = added (team_row s (length s.teams + 1)) r (λ x. is_new (team_addition s x)) (λ x. record s { teams = s.teams ++ x ∷ [] }) (team_said s r) next is in
    team_added s next r a.x a.row_is a.next_is

pub no_kind : (kind : ℕ) (s : Setup) (r : Row) → (kind == 0) ≡ false → (kind == 1) ≡ false → (kind == 2) ≡ false → (kind == 3) ≡ false → (kind == 4) ≡ false → with_kind_in kind s r ≡ None
no_kind kind s r a b c d e = rw (a, b, c, d, e) refl

pub some_and_none : (s : Setup) → Some s ≡ None → ⊥
some_and_none s is = absurd (cc is)

by_kind : (kind : ℕ) (s next : Setup) (r : Row) → is_in_order kind s ≡ true → with_kind_in kind s r ≡ Some next → items_rows next ≡ items_rows s ++ r ∷ []
by_kind zero s next r o is =
    type_written s next r is
    (empty_of s.languages (and_left _ _ (and_left _ _ (and_left _ (length s.teams == 0) o))))
    (empty_of s.groups (and_right (length s.languages == 0) _ (and_left _ _ (and_left _ (length s.teams == 0) o))))
    (empty_of s.problems (and_right ((length s.languages == 0) && (length s.groups == 0)) _ (and_left _ (length s.teams == 0) o)))
    (empty_of s.teams (and_right ((length s.languages == 0) && (length s.groups == 0) && (length s.problems == 0)) _ o))
by_kind (suc zero) s next r o is =
    language_written s next r is
    (empty_of s.groups (and_left _ _ (and_left _ (length s.teams == 0) o)))
    (empty_of s.problems (and_right (length s.groups == 0) _ (and_left _ (length s.teams == 0) o)))
    (empty_of s.teams (and_right ((length s.groups == 0) && (length s.problems == 0)) _ o))
by_kind (suc (suc zero)) s next r o is =
    group_written s next r is
    (empty_of s.problems (and_left _ (length s.teams == 0) o))
    (empty_of s.teams (and_right (length s.problems == 0) _ o))
by_kind (suc (suc (suc zero))) s next r o is = problem_written s next r is (empty_of s.teams o)
by_kind (suc (suc (suc (suc zero)))) s next r o is = team_written s next r is
by_kind (suc (suc (suc (suc (suc n))))) s next r o is =
    let none = no_kind (suc (suc (suc (suc (suc n))))) s r (grind (arith, nat_tests)) (grind (arith, nat_tests)) (grind (arith, nat_tests)) (grind (arith, nat_tests)) (grind (arith, nat_tests)) in
    absurd (some_and_none next (sym is ∙ none))

item_written : (s next : Setup) (r : Row) → with_item_in s r ≡ Some next → items_rows next ≡ items_rows s ++ r ∷ []
item_written s next r is =
    let kind = number_of (column r 0) in
    let ordered = where_true (is_in_order kind s) (with_kind_in kind s r) next is in
    by_kind kind s next r ordered.0 ordered.1

pub items_written : (s last : Setup) (rows : List Row) → items_in s rows ≡ Some last → items_rows last ≡ items_rows s ++ rows
items_written s last [] is =
    let same : last ≡ s = cc (sym is) in
    ap items_rows same ∙ sym (append-nil (items_rows s))
items_written s last (r ∷ rs) is =
    let b = bound (λ next. items_in next rs) (with_item_in s r) last is in
    items_written b.x last rs b.next_is ∙ ap (λ rows. rows ++ rs) (item_written s b.x r b.first_is) ∙ append_assoc (items_rows s) (r ∷ []) rs
