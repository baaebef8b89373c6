-- Events, one after another, and what was written of them.
use Rattle.std.proofs.Common.{◌≡◌, ◌≤◌, ◌+◌, ◌++◌, ℕ, List, [], ◌∷◌, Ok}
use Rattle.std.proofs.Common.{refl, ap}
use Rattle.std.proofs.Common.{sym, ◌∙◌, append_assoc, append-nil, arith}
use Rattle.gp0_packets.specs.declared.note.Note.{Note}
use Rattle.gpu_capture.specs.Written.{AllowsAll}
use Rattle.gpu_capture.specs.declared.event.Event.{Event}
use Rattle.gpu_taps.specs.Tally.{Reading}
use Rattle.event_play.specs.Replay.{Replay, played_events, after_event, go_on, next_number}
use Rattle.event_play.specs.Told.{told_notes}
use Rattle.event_play.specs.declared.ending.Ending.TheVariants.{Faulted as FaultedPlay}
use Rattle.event_play.proofs.Feeds.{told-append}
use Rattle.capture_flat.specs.Flat.{flat_events, flat_replay, then_flat}
use Rattle.capture_flat.specs.Passing.{Follows}
use Rattle.gpu_capture.proofs.Spelled.{allows_append}

-- ---- events that follow

pub follows_none : (first : Replay) → Follows first [] first []
follows_none first =
    record { replays = λ more stop rest. refl; flats = λ more. refl; fresh = λ none. refl; allowed = tt }

pub follows_on : (first replay next : Replay) (events flat : List Event) (given : Event)
    → Follows first events replay flat
    → after_event replay given ≡ Ok next
    → next.played ≡ next_number replay.played → AllowsAll 2 (flat_events replay.state given)
    → Follows first (events ++ given ∷ []) next (flat ++ flat_events replay.state given)
follows_on first replay next events flat given follows is counts allows = record {
  replays = λ more stop rest.
      ap (λ all. played_events first all stop rest) (append_assoc events (given ∷ []) more)
      ∙ follows.replays (given ∷ more) stop rest
      ∙ ap (λ r. go_on r (λ next. played_events next more stop rest)
      (λ fault. record { replay = replay; ending = FaultedPlay (next_number replay.played) fault; rest = rest })) is;
  flats = λ more.
      ap (flat_replay first) (append_assoc events (given ∷ []) more)
      ∙ follows.flats (given ∷ more)
      ∙ ap (λ r. flat ++ (flat_events replay.state given ++ then_flat r (λ next. flat_replay next more))) is
      ∙ sym (append_assoc flat (flat_events replay.state given) (flat_replay next more));
  fresh = λ none. absurd (let some : 1 ≤ next.played = omega (arith, counts) in omega (arith, none, some));
  allowed = allows_append 2 flat (flat_events replay.state given) follows.allowed allows;
}

-- all flat events so far
pub all_flat : (first replay : Replay) (events flat : List Event) → Follows first events replay flat
    → flat_replay first events ≡ flat
all_flat first replay events flat follows =
    ap (flat_replay first) (sym (append-nil events)) ∙ follows.flats [] ∙ append-nil flat

-- ---- sums

pub spent_within : (before now a b : ℕ) → now ≤ before + a → a ≤ b → now ≤ before + b
spent_within before now a b within small = omega arith
