-- What is done by a command (own).
use Rattle.std.specs.Prelude.{ℕ, List, Result, Ok, Err}
use Rattle.serde_json.specs.Data.{Data}
use Rattle.serde_json.specs.Written.{compact_text}
use Rattle.contest_types.specs.declared.entry.Entry.{Entry}
use Rattle.contest_rules.specs.declared.rule_refusal.RuleRefusal.{RuleRefusal}

-- the text of what it is answered with, and what it adds
pub record Done : Type 0 where
  pub text : List ℕ
  pub entries : List Entry

-- what is done is answered with an object, and adds its entries
abbrev pub done_of : {D : Type 0} → (object : D → Data) → (entries : D → List Entry) → D → Done
done_of object entries d = record { text = compact_text (object d); entries = entries d }

abbrev pub done_as : {D : Type 0} → (object : D → Data) → (entries : D → List Entry) → Result D RuleRefusal → Result Done RuleRefusal
done_as object entries (Err refusal) = Err refusal
done_as object entries (Ok d) = Ok (done_of object entries d)

-- what is made of what the rules give
abbrev pub ruled_with : {A B : Type 0} → (A → B) → Result A RuleRefusal → Result B RuleRefusal
ruled_with make (Err refusal) = Err refusal
ruled_with make (Ok a) = Ok (make a)
