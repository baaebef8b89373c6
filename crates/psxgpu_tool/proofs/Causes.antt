-- What the exit status says of an ending, by cause, and what the bytes read say of a capture.
use Rattle.std.proofs.Common.{◌≡◌, ◌≤◌, ℕ, ◌++◌, List, [], Option, Some, None, IfSome, length, refl, ap, sym, ◌∙◌}
use Rattle.std.proofs.Common.{append-nil, arith}
use Rattle.std.proofs.lemmas.List.{length-append}
use Rattle.dev_io.specs.Device.{prepended, IsAtEnd}
use Rattle.gpu_capture.specs.Capture.{Captured, capture}
use Rattle.gpu_capture.specs.Reader.{IsReadFault}
use Rattle.gpu_capture.specs.Reading.{Said, SaysFirst, SaysStop, said_whole}
use Rattle.gpu_capture.specs.Written.{spell, spelled_end}
use Rattle.gpu_capture.specs.declared.event.Event.{Event}
use Rattle.gpu_capture.specs.declared.event.Stop.{Stop}
use Rattle.gpu_capture.specs.declared.event.Stop.TheVariants.{ReadFault, Truncated}
use Rattle.gpu_capture.proofs.Spelled.{spell-append}
use Rattle.gpu_taps.specs.Tally.{Reading}
use Rattle.psxgpu_tool.specs.Outside.{Outside}
use Rattle.psxgpu_tool.specs.Run.{CommandRun, RunsAs}
use Rattle.command_line.specs.declared.command.Command.{Command}

-- ---- the exit status

-- the status of an ending, and its cause: it is done, it is refused, a read failed or a write failed
pub record HasCause (status : ℕ) (Done Read Write : Type 0) : Type 0 where
  pub done : status ≡ 0 → Done
  pub read : status ≡ 3 → Read
  pub write : status ≡ 4 → Write
  pub used : status ≡ 1 → ⊥
  pub remembered : status ≡ 5 → ⊥
  pub few : status ≤ 5

pub is_done : {Done Read Write : Type 0} → Done → HasCause 0 Done Read Write
is_done done = grind arith

pub is_refused : {Done Read Write : Type 0} → HasCause 2 Done Read Write
is_refused = grind arith

pub is_read : {Done Read Write : Type 0} → Read → HasCause 3 Done Read Write
is_read read = grind arith

pub is_write : {Done Read Write : Type 0} → Write → HasCause 4 Done Read Write
is_write write = grind arith

-- a run of a command that ended with such a status
pub answers : {Done Read Write : Type 0} (command : Command) (heard : List Reading) (before now : Outside) (status : ℕ)
    → HasCause status Done Read Write → (status ≡ 0 → now.err ≡ before.err) → RunsAs command heard before now status
    → CommandRun command heard before now status
answers command heard before now status cause silent does = record {
  does = does;
  used = cause.used;
  starving = λ five. absurd (cause.remembered five);
  silent = silent;
  few = cause.few;
}

-- ---- the bytes read

-- the bytes that were read, and those that remain
pub record IsCut (bytes taken : List ℕ) (left : Option (List ℕ)) : Type 0 where
  pub rest : List ℕ
  pub all : bytes ≡ taken ++ rest
  pub left_is : left ≡ Some rest

pub cut : (bytes taken : List ℕ) (left : Option (List ℕ)) → Some bytes ≡ prepended taken left → IsCut bytes taken left
cut bytes taken None e = absurd cc
cut bytes taken (Some rest) e = record { rest = rest; all = cc; left_is = refl }

pub none_left : (bytes taken : List ℕ) (left : Option (List ℕ)) (part : IsCut bytes taken left) → IsAtEnd left
    → part.rest ≡ []
none_left bytes taken None part at_end = absurd cc
none_left bytes taken (Some left) part at_end = let same : left ≡ part.rest = cc in sym same ∙ at_end

-- all bytes were read
pub all_read : (bytes taken : List ℕ) (left : Option (List ℕ)) → IsCut bytes taken left → IsAtEnd left → bytes ≡ taken
all_read bytes taken left part at_end =
    part.all ∙ ap (λ xs. taken ++ xs) (none_left bytes taken left part at_end) ∙ append-nil taken

-- a fact about the bytes that remain, if the source states them
pub if_told : (left : Option (List ℕ)) (P : List ℕ → Type 0) → ((bytes : List ℕ) → left ≡ Some bytes → P bytes)
    → IfSome left P
if_told None P fact = tt
if_told (Some bytes) P fact = fact bytes refl

-- the capture, if the reader stopped and no read failed
pub stop_read : (bytes taken : List ℕ) (left : Option (List ℕ)) (part : IsCut bytes taken left) (said : Said)
    (stop : Stop) → (IsReadFault stop → ⊥) → SaysStop capture taken said stop left
    → (rest : List ℕ) × (capture bytes ≡ said_whole said stop rest)
stop_read bytes taken left part said (ReadFault byte) read says = absurd (read tt)
stop_read bytes taken left part said (Truncated byte) read says =
    ([], ap capture (all_read bytes taken left part says.1) ∙ says.0)
stop_read bytes taken left part said stop read says = (part.rest, ap capture part.all ∙ says part.rest)

-- the capture of these events and then of more, if the reader has not stopped
abbrev pub going_on : (version : ℕ) → List Event → (more : Captured) → Captured
going_on version events more = record more { version = version; events = events ++ more.events }

pub first_read : (bytes taken : List ℕ) (left : Option (List ℕ)) (part : IsCut bytes taken left) (version : ℕ)
    (events : List Event) → SaysFirst capture version taken events
    → (more : Captured) × (capture bytes ≡ going_on version events more)
first_read bytes taken left part version events says =
    let said = says part.rest in
    (said.0, ap capture part.all ∙ said.1 ∙ ap (λ v. going_on v events said.0) said.2)

-- more events make no shorter file
pub longer : (head : List ℕ) (xs ys : List Event)
    → length ((head ++ spell xs) ++ spelled_end) ≤ length ((head ++ spell (xs ++ ys)) ++ spelled_end)
longer head xs ys =
    let a = length-append (head ++ spell xs) spelled_end in
    let b = length-append (head ++ spell (xs ++ ys)) spelled_end in
    let c = length-append head (spell xs) in
    let d = length-append head (spell (xs ++ ys)) in
    let e = length-append (spell xs) (spell ys) in
    let f = ap length (spell-append xs ys) in
    omega (arith, a, b, c, d, e, f)
