-- The version of a capture is that of its header.
use Rattle.std.proofs.Common.{◌≡◌, ◌≤◌, ℕ, ◌+◌, List, [], ◌∷◌, true, nat_lt, refl, arith, inl, inr}
use Rattle.std.proofs.lemmas.Bool.{cases_Bool}
use Rattle.gpu_capture.specs.Capture.{Captured, after_step, records, limit}
use Rattle.gpu_capture.specs.Reader.{capture_from}
use Rattle.gpu_capture.specs.declared.progress.Progress.{Progress}
use Rattle.gpu_capture.specs.declared.record.Expected.{Expected}
use Rattle.gpu_capture.specs.declared.record.Step.{Step}
use Rattle.gpu_capture.specs.declared.record.Step.TheVariants.{Opens, Gives, Closes}

after_step_law : (version : ℕ) (step : Step) (on : Expected → Captured) (bytes : List ℕ)
    → ((next : Expected) → (on next).version ≡ version)
    → (after_step version step on bytes).version ≡ version
after_step_law version (Opens next) on bytes keeps = keeps next
after_step_law version (Gives event count next) on bytes keeps = keeps next
after_step_law version (Closes stop) on bytes keeps = refl

pub records_version : (version : ℕ) (at : Expected) (offset : ℕ) (bytes : List ℕ)
    → (records version at offset bytes).version
    ≡ version
records_version version at offset [] = elim
    (cases_Bool (nat_lt offset limit)) [ inl is ↦ rw is refl | inr is ↦ rw is refl ]
records_version version at offset (a ∷ []) = elim
    (cases_Bool (nat_lt offset limit)) [ inl is ↦ rw is refl | inr is ↦ rw is refl ]
records_version version at offset (a ∷ b ∷ []) = elim
    (cases_Bool (nat_lt offset limit)) [ inl is ↦ rw is refl | inr is ↦ rw is refl ]
records_version version at offset (a ∷ b ∷ c ∷ []) = elim
    (cases_Bool (nat_lt offset limit)) [ inl is ↦ rw is refl | inr is ↦ rw is refl ]
records_version version at offset (a ∷ b ∷ c ∷ d ∷ bytes) =
    elim (cases_Bool (nat_lt offset limit)) [
      | inl is ↦
          rw is (after_step_law version _ _ bytes (λ next. records_version version next (offset + 4) bytes))
      | inr is ↦ rw is refl
    ]

known : (version : ℕ) → 1 ≤ version → nat_lt 0 version ≡ true
known version le = grind arith

-- after its header a reader knows the version
pub version_from : (p : Progress) (rest : List ℕ) → 1 ≤ p.version → (capture_from p rest).version ≡ p.version
version_from p rest le = rw (known p.version le) (records_version p.version p.expected p.offset rest)
