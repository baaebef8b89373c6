-- What was read so far, and what the reader returns next.
use Rattle.std.proofs.Common.{◌≡◌, ◌≤◌, ◌++◌, ℕ, List, [], ◌∷◌, Option, Result, Ok, Err, OnOk, IsOk, IfErr}
use Rattle.std.proofs.Common.{false, true, refl, sym, ◌∙◌}
use Rattle.dev_io.specs.Device.{prepended}
use Rattle.dev_io.proofs.Parts.{prepended-nil, taken_on}
use Rattle.gpu_capture.specs.Capture.{capture}
use Rattle.gpu_capture.specs.Reader.{Takes, StopsAt, IsStart, IsReadFault, capture_from, reader_input}
use Rattle.gpu_capture.specs.declared.event.Event.{Event}
use Rattle.gpu_capture.specs.declared.event.Stop.{Stop}
use Rattle.gpu_capture.specs.declared.progress.Progress.{Progress}
use Rattle.gpu_capture.proofs.Versions.{version_from}
use Rattle.gpu_capture.proofs.Needed.{Answers}
use Rattle.gpu_capture.proofs.Needed.{none_needed, needed_on, needed_end, says_on, stop_says, takes_version}
use Rattle.gpu_capture.proofs.Needed.{stops_version}
use Rattle.capture_cut.specs.Came.{HasRead, IsReadFailure}
use Rattle.capture_cut.specs.Cut.{Way, events_of, ReadsTo, said_of, StopsAfter}

pub read_none : (left : Option (List ℕ)) (p : Progress) → IsStart p → HasRead left left p [] []
read_none left p is = record {
  bytes = prepended-nil left;
  says = λ rest. rw is.version refl;
  needed = none_needed capture;
}

-- one more event
pub read_on : (before mid now : Option (List ℕ)) (old new : Progress) (xs : List ℕ) (events : List Event)
    (given : Event) → HasRead before mid old xs events
    → (takes : Takes (reader_input old mid) (reader_input new now) (given ∷ []))
    → HasRead before now new (xs ++ takes.taken) (events ++ given ∷ [])
read_on before mid now old new xs events given was takes = record {
  bytes = taken_on before mid now xs takes.taken was.bytes takes.bytes;
  says = says_on capture old new events (given ∷ []) xs takes.taken was.says takes.says;
  needed = needed_on capture old events given xs takes.taken was.says was.needed takes.needed;
}

-- what the format says of the bytes that a `Way` has read
pub reads_to : (before now : Option (List ℕ)) (p : Progress) (events : List Event) (way : Way)
    → HasRead before now p way.taken events → 1 ≤ p.version → way.version ≡ p.version → ReadsTo way events
reads_to before now p events way has known same = record {
  says = λ rest. (capture_from p rest, has.says rest, version_from p rest known ∙ sym same);
  needed = has.needed;
}

-- the reader stopped
pub stops_bytes : (before mid now : Option (List ℕ)) (old new : Progress) (xs : List ℕ) (events : List Event)
    (stop : Stop) → HasRead before mid old xs events
    → (stops : StopsAt (reader_input old mid) (reader_input new now) stop)
    → before ≡ prepended (xs ++ stops.taken) now
stops_bytes before mid now old new xs events stop was stops =
    taken_on before mid now xs stops.taken was.bytes stops.bytes

pub stops_after : (before mid now : Option (List ℕ)) (old new : Progress) (xs : List ℕ) (stop : Stop) (way : Way)
    → HasRead before mid old xs (events_of way) → (stops : StopsAt (reader_input old mid) (reader_input new now) stop)
    → way.version ≡ new.version → way.taken ≡ xs ++ stops.taken → StopsAfter way stop now
stops_after before mid now old new xs stop way was stops same taken = record {
  says = rw taken
      (stop_says capture old (said_of way) xs stops.taken now stop was.says (rw same stops.says));
  needed = rw taken (needed_end capture old (events_of way) xs stops.taken was.says was.needed stops.needed);
}

-- ---- what the reader returns next

-- After the file header, the version stays the same.
pub version_on : (old new : Progress) (before now : Option (List ℕ)) (next : Result Event Stop)
    → Answers old new before now next → 1 ≤ old.version → old.version ≡ new.version
version_on old new before now (Ok event) answer known =
    takes_version old new before now (event ∷ []) answer.0 known answer.1
version_on old new before now (Err stop) answer known =
    stops_version old new.version stop answer.taken now answer.says known

-- the reader returned an event
pub answered : (next : Result Event Stop) (P : Type 0) → IsOk next → OnOk next P → P
answered (Ok event) P is on = on
answered (Err stop) P is on = let none : false ≡ true = is in absurd cc

-- the reader returned that its source failed
pub failed : (next : Result Event Stop) (P : Type 0) → IsReadFailure next
    → IfErr next (λ stop. IsReadFault stop → P) → P
failed (Ok event) P is cause = absurd is
failed (Err stop) P is cause = cause is
