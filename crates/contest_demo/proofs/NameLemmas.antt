-- A text of printed characters is a name.
use Rattle.std.proofs.Common.{◌≡◌, ◌<◌, ℕ, true, List, length, arith, refl}
use Rattle.std.specs.Prelude.{◌&&◌, nat_le, nat_lt}
use Rattle.std.specs.List.{list_all}
use Rattle.std.specs.Str.{IsAscii}
use Rattle.std.proofs.lemmas.Bool.Decides.{nat_tests}
use Rattle.std.proofs.lemmas.List.Elements.{All-weaker}
use Rattle.std.proofs.lemmas.List.Sums.{AllPass-from_list_all, list_all-from_AllPass}
use Rattle.std.proofs.lemmas.Str.{chars-IsAscii}
use Rattle.std.proofs.lemmas.Str.Ascii.{IsAscii-from_all}
use Rattle.std.proofs.lemmas.Bool.{and_parts}
use Rattle.contest_types.specs.NameText.{is_name, is_plain}
use Rattle.contest_types.specs.declared.limits.TheConstants.{NAME_LENGTH}
use Rattle.contest_demo.specs.Texts.{is_printed, is_printed_name}

is_ascii : (b : ℕ) → is_printed b ≡ true → b < 128
is_ascii b printed = grind (arith, nat_tests, printed)

plain : (b : ℕ) → is_printed b ≡ true → is_plain b ≡ true
plain b printed = grind (arith, nat_tests, printed)

pub is_ascii_text : (text : List ℕ) → list_all is_printed text ≡ true → IsAscii text
is_ascii_text text all = IsAscii-from_all text (All-weaker (λ b. is_printed b ≡ true) (λ b. b < 128) is_ascii text (AllPass-from_list_all is_printed text all))

pub all_plain : (text : List ℕ) → list_all is_printed text ≡ true → list_all is_plain text ≡ true
all_plain text all = list_all-from_AllPass is_plain text (All-weaker (λ b. is_printed b ≡ true) (λ b. is_plain b ≡ true) plain text (AllPass-from_list_all is_printed text all))

pub printed_names : (text : List ℕ) → is_printed_name text ≡ true → is_name text ≡ true
printed_names text is =
    let sized = and_parts (nat_lt 0 (length text) && nat_le (length text) NAME_LENGTH) (list_all is_printed text) is in
    let size = and_parts (nat_lt 0 (length text)) (nat_le (length text) NAME_LENGTH) sized.0 in
    let same = chars-IsAscii text (is_ascii_text text sized.1) in
    let plain = all_plain text sized.1 in
    rw (size.0, size.1, same, plain) refl
