-- What holds of every input and every reply, in the subject's words. Each is the contract of a function of src/laws.rt.
use Rattle.std.specs.Prelude.{◌≡◌, ◌≤◌, ◌<◌, ℕ, List, Bool, false, length, take}
use Rattle.contest_types.specs.declared.limits.TheConstants.{REQUEST_HEAD}
use Rattle.contest_operations.specs.declared.reply.Reply.{Reply}
use Rattle.contest_http.specs.Frames.{Frame, IsFrame}
use Rattle.contest_http.specs.Head.{has_end, head_of}
use Rattle.contest_http.specs.Spelling.{IsSpelling}

-- an input is framed in one way
abbrev pub OneFrame : Type 0
OneFrame = (input : List ℕ) (f g : Frame) → IsFrame input f → IsFrame input g → f ≡ g

-- a frame takes the head at least
abbrev pub FramesTakeHeads : Type 0
FramesTakeHeads = (input : List ℕ) (f : Frame) → IsFrame input f → length (head_of input) ≤ f.front

-- a reply has one text at a moment
abbrev pub OneSpelling : Type 0
OneSpelling = (now : ℕ) (r : Reply) (head_only : Bool) (a b : List ℕ) → IsSpelling now r head_only a → IsSpelling now r head_only b → a ≡ b

-- a head is a front of its input, within the limit
abbrev pub HeadsAreFronts : Type 0
HeadsAreFronts = (input : List ℕ) → (head_of input ≡ take (length (head_of input)) input) × (length (head_of input) ≤ REQUEST_HEAD)

-- a shorter front of the input has no end of a head
abbrev pub HeadsAreShortest : Type 0
HeadsAreShortest = (input : List ℕ) (n : ℕ) → n < length (head_of input) → has_end (take n input) ≡ false

-- where no end of a head is there, all of the input is taken, up to the limit
abbrev pub HeadsWithoutEnd : Type 0
HeadsWithoutEnd = (input : List ℕ) → has_end (head_of input) ≡ false → head_of input ≡ take REQUEST_HEAD input
