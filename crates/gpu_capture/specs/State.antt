-- A reader in contracts: its state, and the stop that it has returned.
use Rattle.std.specs.Prelude.{◌≡◌, Option, None, Some, Result, Err, OnOk, IfErr, IfSome}
use Rattle.gpu_capture.specs.declared.event.Stop.{Stop}
use Rattle.gpu_capture.specs.declared.progress.Progress.{Progress}

pub record ReaderState : Type 0 where
  pub progress : Progress
  pub stop : Option Stop

-- A reader keeps the stop that it returns, and has none after any other result. With a stop kept, a call returns it,
-- changes nothing and asks nothing of the source: the source is the same value.
pub record KeepsStop {Value Source : Type 0} (before now : ReaderState) (source source_now : Source)
    (result : Result Value Stop) : Type 0 where
  pub running : OnOk result (before.stop ≡ None)
  pub runs_on : OnOk result (now.stop ≡ None)
  pub kept : IfErr result (λ stop. now.stop ≡ Some stop)
  pub again : IfSome before.stop (λ stop. (result ≡ Err stop) × (now ≡ before) × (source_now ≡ source))
