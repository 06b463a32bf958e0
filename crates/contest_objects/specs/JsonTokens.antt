-- The tokens of a JSON value, as they are written one by one behind what stands in a text.
use Rattle.std.specs.Prelude.{◌≡◌, ℕ, ◌++◌, List, [], ◌∷◌, Option, Some, None}
use Rattle.json.specs.Token.{Token, key}
use Rattle.json.specs.Tree.{json_tokens}
use Rattle.json.specs.Written.{Written}
use Rattle.serde_json.specs.Data.{Data}
use Rattle.serde_json.specs.Written.{outline}

-- of a value with no float
unfoldable pub data_tokens : Data → List Token
data_tokens d = json_tokens (outline d)

-- of a value, where there is one
abbrev pub value_tokens : Option Data → List Token
value_tokens None = []
value_tokens (Some d) = data_tokens d

-- of a name and what stands under it, if anything
abbrev pub member_tokens : List ℕ × Option Data → List Token
member_tokens (name, None) = []
member_tokens (name, Some d) = key name ∷ data_tokens d

-- these tokens were written behind what stood there
pub record Wrote (old new : Written) (ts : List Token) : Type 0 where
  pub tokens : new.tokens ≡ old.tokens ++ ts
  pub before : new.before ≡ old.before
