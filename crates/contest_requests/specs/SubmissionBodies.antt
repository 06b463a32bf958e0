-- The body of a posted submission (Contest API 2023-06, submissions; RFC 4648, section 4; which
-- members are read is own).
use Rattle.std.specs.Prelude.{ℕ, Bool, true, ◌==◌, nat_le, List, length, Option, Some, None, Result, Ok, Err, codes, if◌then◌else◌}
use Rattle.std.specs.Option.{option_map, option_and_then}
use Rattle.std.specs.Str.{bytes_eq}
use Rattle.serde_json.specs.Data.{Data}
use Rattle.serde_json.specs.Find.{get, as_str, as_array}
use Rattle.base64.specs.GeneralPurpose.{decoded_of}
use Rattle.base64.specs.Engines.{standard}
use Rattle.base64.specs.declared.decode.DecodeAllocError.{DecodeAllocError}
use Rattle.base64.specs.declared.decode.DecodeAllocError.TheVariants.{DecodeError as NotDecoded, OutOfMemory}
use Rattle.contest_types.specs.NameText.{name_of}
use Rattle.contest_types.specs.declared.limits.TheConstants.{POSTED_FILE}
use Rattle.contest_types.specs.declared.refusal.Refusal.{Refusal}
use Rattle.contest_types.specs.declared.refusal.Refusal.TheVariants.{Malformed, BodyTooLarge, Memory}
use Rattle.contest_rules.specs.declared.submitting.WantedSubmission.{WantedSubmission}
use Rattle.contest_files.specs.JsonMembers.{data_of, text_in, present_in, optional, id_in, optional_id_in, only_item}
use Rattle.contest_requests.specs.declared.request.KeyField.{KeyField}
use Rattle.contest_requests.specs.declared.request.KeyField.TheVariants.{Absent, Key, Bad}
use Rattle.contest_requests.specs.declared.submission_body.SubmissionBody.{SubmissionBody}

-- an empty entry point counts as none
abbrev pub entry_point_of : List ℕ → Option (Option (List ℕ))
entry_point_of text = if length text == 0 then Some None else option_map Some (name_of text)

abbrev pub entry_point_in : Data → Option (Option (List ℕ))
entry_point_in d = optional (λ v. option_and_then entry_point_of (as_str v)) (present_in (codes "entry_point") d)

-- the bytes that the one file's text stands for
abbrev pub file_in : Data → Option (List ℕ)
file_in d = option_and_then (decoded_of standard) (option_and_then (text_in (codes "data")) (option_and_then only_item (option_and_then as_array (get (codes "files") d))))

-- a text that isn't decoded is off its form, unless memory was refused
abbrev pub refusal_of_decoding : DecodeAllocError → Refusal
refusal_of_decoding OutOfMemory = Memory
refusal_of_decoding (NotDecoded e) = Malformed

-- what a posted object says
unfoldable pub submission_of : Data → Option SubmissionBody
submission_of d =
    option_and_then (λ problem. option_and_then (λ language. option_and_then (λ entry_point. option_and_then (λ team. option_map (λ file.
    record { problem = problem; language = language; entry_point = entry_point; team = team; file = file })
    (file_in d)) (optional_id_in (codes "team_id") d)) (entry_point_in d)) (id_in (codes "language_id") d)) (id_in (codes "problem_id") d)

-- what a body says
abbrev pub submission_in : List ℕ → Option SubmissionBody
submission_in body = option_and_then submission_of (data_of body)

-- the key, unless the field is off its form
abbrev pub key_in : KeyField → Option (Option (List ℕ))
key_in Absent = Some None
key_in (Key id) = Some (Some id)
key_in Bad = None

-- a team names itself, if it names one
abbrev pub is_own : List ℕ → Option (List ℕ) → Bool
is_own team None = true
is_own team (Some named) = bytes_eq named team

-- what the team with this id asks for
abbrev pub wanted_of : List ℕ → Option (List ℕ) → SubmissionBody → Option WantedSubmission
wanted_of team key s =
    if is_own team s.team then Some (record { problem = s.problem; language = s.language; entry_point = s.entry_point; file = s.file; key = key })
    else None

-- what is off its form is told before a file that is too large
abbrev pub within_limit : Option WantedSubmission → Result WantedSubmission Refusal
within_limit None = Err Malformed
within_limit (Some w) = if nat_le (length w.file) POSTED_FILE then Ok w else Err BodyTooLarge

-- what the team with this id asks for by a key and a body, or why that can't be read
abbrev pub wanted_in : List ℕ → KeyField → List ℕ → Result WantedSubmission Refusal
wanted_in team key body = within_limit (option_and_then (λ k. option_and_then (wanted_of team k) (submission_in body)) (key_in key))
