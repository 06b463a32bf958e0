-- What is known of an extension that is read.
use Rattle.std.proofs.Common.{◌≡◌, Bool, true, false, List, ℕ, Option, Some, None, refl}
use Rattle.std.specs.Prelude.{IfSome, if◌then◌else◌}
use Rattle.std.specs.Option.{option_and_then}
use Rattle.contest_files.specs.JsonMembers.{data_of}
use Rattle.contest_requests.specs.ExtensionBodies.{extension_in, extension_said, has_limits, within_limits}
use Rattle.contest_rules.specs.declared.extensions.WantedExtension.{WantedExtension}

kept_within : (o : Option WantedExtension) → IfSome (option_and_then within_limits o) (λ w. has_limits w ≡ true)
kept_within None = tt
kept_within (Some w) =
    let go : (b : Bool) → has_limits w ≡ b → IfSome (if b then Some w else None) (λ v. has_limits v ≡ true) = elim [ true ↦ λ e. e | false ↦ λ e. tt ] in
    go (has_limits w) refl

-- it is within the limits of a contest
pub within_its_limits : (body : List ℕ) → IfSome (extension_in body) (λ w. has_limits w ≡ true)
within_its_limits body = kept_within (option_and_then extension_said (data_of body))
