-- The bytes after the events of a capture.
use Rattle.std.proofs.Common.{◌≡◌, ℕ, List, [], ◌∷◌, Result, Ok, Err, refl}
use Rattle.gpu_capture.specs.declared.event.Event.{Event}
use Rattle.gpu_capture.specs.declared.event.Stop.TheVariants.{End}
use Rattle.event_play.specs.Replay.{Played, Replay, after_event, go_on, next_number, played_events}
use Rattle.event_play.specs.declared.ending.Ending.TheVariants.{Faulted}
use Rattle.event_play.specs.declared.fault.EventFault.{EventFault}

abbrev SameBut : Played → Played → Type 0
SameBut a b = (a.ending ≡ b.ending) × (a.replay ≡ b.replay)

-- The bytes after a list of events do not matter to its replay.
pub rest_same : (events : List Event) (t : Replay) (rest : List ℕ)
    → SameBut (played_events t events End rest) (played_events t events End [])
rest_same [] t rest = (refl, refl)
rest_same (given ∷ events) t rest = by_case (after_event t given) (λ next. rest_same events next rest)
  where
    by_case : (r : Result Replay EventFault)
        → ((next : Replay) → SameBut (played_events next events End rest) (played_events next events End []))
        → SameBut
        (go_on r (λ next. played_events next events End rest)
        (λ fault. record { replay = t; ending = Faulted (next_number t.played) fault; rest = rest }))
        (go_on r (λ next. played_events next events End [])
        (λ fault. record { replay = t; ending = Faulted (next_number t.played) fault; rest = [] }))
    by_case (Ok next) same = same next
    by_case (Err fault) same = (refl, refl)
