-- The content of a file: a capture, or a snapshot and the records after it (our own rule).
use Rattle.std.specs.Prelude.{ℕ, List, if◌then◌else◌, Result, Ok, Err, length, take, drop, nat_lt}
use Rattle.snapshot_words.specs.Reading.{Found, Whole, Short, Bad, Snapshot, state_from}
use Rattle.gpu_snapshot.specs.Head.{file_head}
use Rattle.gpu_snapshot.specs.declared.head.FileHead.{FileHead}
use Rattle.gpu_snapshot.specs.declared.head.FileHead.TheVariants as head

-- `Captured`: a capture of a version, with the bytes after its magic number. `Restored`: a state, the offset of its end
-- and the bytes from there on. `Unknown`: no known magic number begins with these bytes, and `offset` is the first that
-- fits none. `BreaksOff`: the bytes end in a magic number or a state, at `offset`. `BadWord`: a state whose word at
-- `offset` is invalid.
pub data Opened : Type 0 where
  Captured : (version : ℕ) → (rest : List ℕ) → Opened
  Restored : Snapshot → (offset : ℕ) → (rest : List ℕ) → Opened
  Unknown : (offset : ℕ) → (rest : List ℕ) → Opened
  BreaksOff : (offset : ℕ) → Opened
  BadWord : (offset word : ℕ) → Opened

abbrev pub opened_state : Found Snapshot → Opened
opened_state (Whole snapshot offset rest) = Restored snapshot offset rest
opened_state (Short offset) = BreaksOff offset
opened_state (Bad offset word) = BadWord offset word

-- by the kind of a file, and by the bytes after its magic number
abbrev pub after_head : Result FileHead ℕ → List ℕ → Opened
after_head (Ok (head.Capture version)) bytes = Captured version bytes
after_head (Ok head.Snapshot) bytes = opened_state (state_from 8 bytes)
after_head (Err offset) bytes = Unknown offset bytes

-- fewer than 8 bytes break off, also if they differ from every magic number
unfoldable pub opened : List ℕ → Opened
opened bytes =
    if nat_lt (length bytes) 8 then BreaksOff (length bytes)
    else after_head (file_head (take 8 bytes)) (drop 8 bytes)
