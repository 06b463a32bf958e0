-- A word that a command wants is there, where clap finds no fault.
use Rattle.std.proofs.Common.{◌≡◌, ◌<◌, ◌≤◌, ◌⊎◌, inl, inr, sym, ap, subst, refl, ℕ, zero, suc, Bool, true, false, not, ◌||◌, List, [], ◌∷◌, length, map, Option, Some, None, is_some, codes, arith}
use Rattle.std.proofs.Math.ListN.{get_or, get_or-map, length-map}
use Rattle.std.proofs.lemmas.List.Folds.{list_any_at}
use Rattle.std.proofs.lemmas.Slice.Eq.{bytes_eq-Decides}
use Rattle.std.specs.Prelude.{◌==◌, ◌≢◌}
use Rattle.std.specs.List.{list_all, list_any}
use Rattle.std.specs.Str.{bytes_eq}
use Rattle.clap.proofs.CallerLemmas.{required_has_value}
use Rattle.clap.proofs.FaultLemmas.{free_args}
use Rattle.clap.proofs.SimpleLemmas.{is_false, ready_simple, simple_groups}
use Rattle.clap.proofs.WalkLemmas.{both, first_value-rows}
use Rattle.clap.specs.Built.{IsParsedFrom, IsPlain}
use Rattle.clap.specs.Facts.{args_of, unwrap_or_range}
use Rattle.clap.specs.Matches.{first_value, found_of}
use Rattle.clap.specs.Faults.{fault_of, has_free_rules, is_simple_and_free}
use Rattle.clap.specs.Kinds.{HasKind, IsAmong, Kinds}
use Rattle.clap.specs.Simple.{App, IsSimple, app_of, has_simple_rules, is_ready, is_ready_leaf, is_simple, matches_of}
use Rattle.clap.specs.Values.{kind_of}
use Rattle.clap.specs.declared.error.Error.{Error}
use Rattle.clap.specs.declared.error.kind.ErrorKind.{ErrorKind}
use Rattle.clap.specs.declared.error.kind.ErrorKind.TheVariants.{OutOfMemory}
use Rattle.clap.specs.Walk.{Rule, Text, first_of, rows_of, rule_of}
use Rattle.clap.specs.declared.builder.action.ArgAction.{ArgAction}
use Rattle.clap.specs.declared.builder.action.ArgAction.TheVariants.{Set}
use Rattle.clap.specs.declared.builder.arg.Arg.{Arg}
use Rattle.clap.specs.declared.builder.command.Command.{Command}
use Rattle.clap.specs.declared.builder.command.Command.TheViews.{out-Command}
use Rattle.clap.specs.declared.builder.range.ValueRange.{ValueRange}
use Rattle.clap.specs.declared.parser.matches.ArgMatches.{ArgMatches}
use Rattle.contest_cli_words.specs.Arguments.{faults_in, is_named, is_own_name, is_set, is_word, rows_in, wants_among, wants_word}
use Rattle.contest_cli_words.specs.CommandErrors.{IsMemory, IsWordsOrMemory, RefusesWords}
use Rattle.contest_cli_words.specs.declared.command_error.CommandError.{CommandError}

neither : (a b : Bool) → not (a || b) ≡ true → (a ≡ false) × (b ≡ false)
neither true b h = (cc, cc)
neither false b h = (refl, is_false b h)

-- the place of the word in the list, which it has alone
record Stands (name : Text) (rules : List Rule) (k : ℕ) : Type 0 where
  pub within : k < length rules
  pub named : (d : Rule) → is_named name (get_or rules k d) ≡ true
  pub wanted : (d : Rule) → is_word (get_or rules k d) ≡ true
  pub alone : (j : ℕ) (d : Rule) → j < length rules → is_named name (get_or rules j d) ≡ true → j ≡ k

stands_first : (name : Text) (rule : Rule) (rest : List Rule) → is_named name rule ≡ true → is_word rule ≡ true
    → list_any (is_named name) rest ≡ false → Stands name (rule ∷ rest) 0
stands_first name rule rest named wanted alone =
    record { within = omega arith; named = λ d. named; wanted = λ d. wanted; alone = first }
  where
    first : (j : ℕ) (d : Rule) → j < length (rule ∷ rest) → is_named name (get_or (rule ∷ rest) j d) ≡ true → j ≡ 0
    first zero d lt e = refl
    first (suc j) d lt e = let other = list_any_at (is_named name) rest j d (omega arith) e in cc

stands_later : (name : Text) (rule : Rule) (rest : List Rule) (k : ℕ) → is_named name rule ≡ false → Stands name rest k
    → Stands name (rule ∷ rest) (suc k)
stands_later name rule rest k other s =
    record { within = omega (arith, s.within); named = s.named; wanted = s.wanted; alone = later }
  where
    later : (j : ℕ) (d : Rule) → j < length (rule ∷ rest) → is_named name (get_or (rule ∷ rest) j d) ≡ true → j ≡ suc k
    later zero d lt e = cc
    later (suc j) d lt e = ap suc (s.alone j d (omega arith) e)

stands : (name : Text) (rules : List Rule) → wants_among name rules ≡ true → (k : ℕ) × Stands name rules k
stands name [] h = cc
stands name (rule ∷ rest) h = go (is_named name rule) refl h (stands name rest)
  where
    go : (t : Bool) → is_named name rule ≡ t → wants_among name (rule ∷ rest) ≡ true
        → (wants_among name rest ≡ true → (k : ℕ) × Stands name rest k) → (k : ℕ) × Stands name (rule ∷ rest) k
    go true e wants later =
        let parts = both (is_word rule) (not (list_any (is_named name) rest)) (rw e at wants) in
        (0, stands_first name rule rest e parts.0 (is_false _ parts.1))
    go false e wants later =
        let found = later (rw e at wants) in
        (suc found.0, stands_later name rule rest found.0 e found.1)

set_action : (action : Option ArgAction) → is_set action ≡ true → action ≡ Some Set
set_action (Some Set) h = refl
set_action other h = cc

one_value : (range : Option ValueRange) → not (is_some range) ≡ true → 1 ≤ (unwrap_or_range range).start_inclusive
one_value None h = omega arith
one_value (Some range) h = cc

-- nothing in the command bears on a word that it wants
record Bears (c : Command) (name : Text) : Type 0 where
  pub simple : IsSimple c
  pub plain : IsPlain c
  pub negates : (out-Command c).subcommand_negates_reqs ≡ false
  pub own : is_own_name name ≡ true
  pub stands : (k : ℕ) × Stands name (app_of c).top.rules k

bears : (c : Command) (name : Text) → wants_word name (app_of c) ≡ true → Bears c name
bears c name wants =
    let ready = both (is_ready (app_of c).top) _ wants in
    let leaves = both (list_all is_ready_leaf (app_of c).subs) _ ready.1 in
    let free = both (has_free_rules (app_of c).top) _ leaves.1 in
    let rules = both (has_simple_rules (app_of c).top) _ ready.0 in
    let in_groups = simple_groups c (both _ _ rules.0).1 in
    let simple = ready_simple c ready.0 leaves.0 in
    let args = free_args c simple free.0 in
    let negates = both (not (app_of c).top.subcommand_negates_reqs) _ free.1 in
    let own = both (is_own_name name) _ negates.1 in
    record {
      simple = simple;
      plain = (λ k d lt. let a = args k d lt in (a.exclusive, a.conflicts, a.overrides, in_groups k d lt), simple.groups);
      negates = is_false _ negates.0;
      own = own.0;
      stands = stands name (app_of c).top.rules own.1;
    }

own_name : (name : Text) → is_own_name name ≡ true → (name ≡ [] → ⊥) × ((name ≡ codes "help") ⊎ (name ≡ codes "version") → ⊥)
own_name name own =
    let parts = both (not (length name == 0)) _ own in
    let others = neither (bytes_eq name (codes "help")) _ parts.1 in (
      λ e. (let empty : length name ≡ 0 = ap length e in cc),
      λ auto. elim auto [
        | inl e ↦ let other : bytes_eq (codes "help") (codes "help") ≡ false = rw e at others.0 in cc
        | inr e ↦ let other : bytes_eq (codes "version") (codes "version") ≡ false = rw e at others.1 in cc
      ],
    )

-- the rule at a place is that of the argument at the place
rule_at : (args : List Arg) (k : ℕ) (d : Arg) → get_or (map rule_of args) k (rule_of d) ≡ rule_of (get_or args k d)
rule_at args k d = get_or-map rule_of args k d

at_place : (c : Command) (m : ArgMatches) (name : Text) (k : ℕ) (d : Arg) → Bears c name
    → Stands name (app_of c).top.rules k → IsParsedFrom c m → is_some (first_value (found_of m) name) ≡ true
at_place c m name k d b s p =
    let args = args_of c in
    let a = get_or args k d in
    let within : k < length args = omega (arith, s.within, length-map {A = Arg} {B = Rule}) in
    let id = (bytes_eq-Decides a.id.now name).0 (subst (λ r. is_named name r ≡ true) (rule_at args k d) (s.named (rule_of d))) in
    let required = both a.required _ (subst (λ r. is_word r ≡ true) (rule_at args k d) (s.wanted (rule_of d))) in
    let set = both (is_set a.action) _ required.1 in
    let alone : (j : ℕ) (e : Arg) → j < length args → bytes_eq (get_or args j e).id.now a.id.now ≡ true → j ≡ k =
    λ j e lt same. s.alone j (rule_of e) (omega (arith, length-map {A = Arg} {B = Rule}))
    (subst (λ r. is_named name r ≡ true) (sym (rule_at args j e)) (subst (λ n. bytes_eq (get_or args j e).id.now n ≡ true) id same)) in
    let own = own_name a.id.now (subst (λ n. is_own_name n ≡ true) (sym id) b.own) in
    subst (λ n. is_some (first_value (found_of m) n) ≡ true) id
    (required_has_value c m p b.plain b.simple.globals b.negates k d within required.0 (set_action a.action set.0)
    (b.simple.args k d within).delimiter (one_value a.num_vals set.1) alone own.0 own.1)

first_arg : (xs : List Arg) (k : ℕ) → k < length (map rule_of xs) → Arg
first_arg [] k lt = absurd (omega arith)
first_arg (x ∷ xs) k lt = x

pub wanted_there : (c : Command) (m : ArgMatches) (name : Text) → wants_word name (app_of c) ≡ true → IsParsedFrom c m
    → is_some (first_of name (rows_of (found_of m))) ≡ true
wanted_there c m name wants p =
    let b = bears c name wants in
    let s = b.stands.1 in
    subst (λ o. is_some o ≡ true) (first_value-rows (found_of m) name)
    (at_place c m name b.stands.0 (first_arg (args_of c) b.stands.0 s.within) b s p)

pub rows_are : (app : App) (words : List Text) → matches_of app words ≡ rows_in app words
unfolding rows_in
rows_are app words = refl

pub faults_are : (app : App) (words : List Text) → faults_in app words ≡ fault_of app words
unfolding faults_in
faults_are app words = refl

pub simple_alone : (app : App) → is_simple_and_free app ≡ true → is_simple app ≡ true
simple_alone app h = (both _ _ h).0

among_some : (k : ErrorKind) (kinds : Kinds) → IsAmong k kinds → kinds ≢ []
among_some k [] h = absurd h
among_some k (x ∷ xs) h = λ e. cc

-- what clap refuses, in the command's own error
pub refuses : (e : Error) (stop : CommandError) (faults kinds : Kinds) → faults ≡ kinds → HasKind kinds e
    → (kind_of e ≡ OutOfMemory → IsMemory stop) → IsWordsOrMemory stop → RefusesWords faults stop
refuses e stop faults kinds same (inl memory) is_memory words = inl (is_memory memory)
refuses e stop faults kinds same (inr among) is_memory (inl memory) = inl memory
refuses e stop faults kinds same (inr among) is_memory (inr words) = inr (words, rw same (among_some _ kinds among))
