-- A capture file while it is written (our own rule): a file header, records, and an End record.
use Rattle.std.specs.Prelude.{◌≤◌, ◌+◌, ◌==◌, ◌++◌, ℕ, List, [], if◌then◌else◌}
use Rattle.gpu_capture.specs.Capture.{IsVersion, head_of, limit}
use Rattle.gpu_capture.specs.Written.{spelled_end}
use Rattle.gpu_capture.specs.declared.draft.CaptureFile.{CaptureFile}

-- `bytes` more bytes and an End record (4 bytes) fit
abbrev pub HasRoom : CaptureFile → (bytes : ℕ) → Type 0
HasRoom file bytes = file.size + bytes + 4 ≤ limit

-- a file of a known version in which an End record fits
pub record IsOpen (file : CaptureFile) : Type 0 where
  pub version : IsVersion file.version
  pub size : file.size + 4 ≤ limit

-- the file header if the file is empty
abbrev pub head_at : CaptureFile → List ℕ
head_at file = if file.size == 0 then head_of file.version else []

-- an End record, after the file header if the file is empty
abbrev pub end_at : CaptureFile → List ℕ
end_at file = head_at file ++ spelled_end

-- the file after `bytes` more bytes
abbrev pub with_bytes : CaptureFile → (bytes : ℕ) → CaptureFile
with_bytes file bytes = record { version = file.version; size = file.size + bytes }
