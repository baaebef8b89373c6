-- The first n events are read and played, one after another.
use Rattle.std.proofs.Common.{◌≡◌, ◌≤◌, ◌<◌, ◌+◌, ◌^◌, ◌++◌, ℕ, List, [], ◌∷◌, Option, Result, Ok, Err}
use Rattle.std.proofs.Common.{OnOk, IfOk, IfErr, length, length-append, refl, ap, sym, subst, ◌∙◌, append_assoc, arith}
use Rattle.gpu_capture.specs.Reader.{Takes, StopsAt, IsStart, reader_input}
use Rattle.gpu_capture.specs.declared.event.Event.{Event}
use Rattle.gpu_capture.specs.declared.event.Stop.{Stop}
use Rattle.gpu_capture.specs.declared.progress.Progress.{Progress}
use Rattle.gpu_taps.specs.Tally.{Reading}
use Rattle.event_play.specs.Replay.{Replay, played_events, from_state, raised, after_event, go_on}
use Rattle.event_play.specs.Replay.{next_number}
use Rattle.event_play.specs.RigState.{RigState, StandsFor}
use Rattle.event_play.specs.Step.{Machine, event_cost, event_box_cost}
use Rattle.event_play.specs.Streams.{Outlets, Streams, streams, without_sink}
use Rattle.event_play.specs.Told.{told_notes}
use Rattle.event_play.specs.declared.ending.Ending.TheVariants.{Faulted as FaultedPlay}
use Rattle.event_play.proofs.BoxCosts.{event_cost-small}
use Rattle.event_play.proofs.Feeds.{told-append}
use Rattle.event_play.proofs.Firsts.{IsFirst, from_first, raised_first, raised_played}
use Rattle.event_play.proofs.Grows.{replay_on, after-event}
use Rattle.event_play.proofs.Reaching.{both_small, spent_on}
use Rattle.gpu_capture.proofs.Needed.{Answers, answers}
use Rattle.capture_cut.specs.Came.{PlaysNext, PlaysAnswer, HasRead, PlaysFirst}
use Rattle.capture_cut.specs.Cut.{Plays, StandsAfter, cut_at}
use Rattle.capture_cut.proofs.Reading.{read_none, read_on, version_on}

-- ---- playing

-- before the first event
plays_none : (s : Machine) (version : ℕ)
    → Plays (raised (from_state s 0) version) [] (raised (from_state s 0) version)
plays_none s version = record {
  replays = λ more stop rest. refl;
  counts = raised_played (from_state s 0) version;
}

stands_none : (s : Machine) (version : ℕ) (heard : List Reading) (rig : RigState)
    → StandsFor rig (raised (from_state s 0) version)
    → StandsAfter (raised (from_state s 0) version) heard heard rig
stands_none s version heard rig stands =
    let first : IsFirst (raised (from_state s 0) version) = raised_first (from_state s 0) version (from_first s 0) in
    record { rig_is = stands; heard = rw first.notes refl }

-- the replay with one more event
abbrev next_replay : (t : Replay) (event : Event) (before now : Outlets) (rig : RigState)
    → PlaysNext t event before now rig → Replay
next_replay t event before now rig plays = replay_on t event plays.step.machine plays.shown plays.step.notes

plays_on : (first t : Replay) (events : List Event) (event : Event) (mid now : Outlets) (rig : RigState)
    → Plays first events t → (next : PlaysNext t event mid now rig) → length events < 2 ^ 32
    → Plays first (events ++ event ∷ []) (next_replay t event mid now rig next)
plays_on first t events event mid now rig plays next few =
    let after : Replay = next_replay t event mid now rig next in
    let is : after_event t event ≡ Ok after =
    after-event t event next.step.machine next.shown next.step.notes next.step.is in
    let long = length-append events (event ∷ []) in
    record {
      replays = λ more stop rest.
          ap (λ all. played_events first all stop rest) (append_assoc events (event ∷ []) more)
          ∙ plays.replays (event ∷ more) stop rest
          ∙ ap (λ r. go_on r (λ next. played_events next more stop rest)
          (λ fault. record { replay = t; ending = FaultedPlay (next_number t.played) fault; rest = rest })) is;
      counts = omega (arith, plays.counts, long, few);
    }

stands_on : (t : Replay) (event : Event) (heard : List Reading) (mid now : Outlets) (was rig : RigState)
    → StandsAfter t heard mid.heard was → (next : PlaysNext t event mid now rig)
    → StandsAfter (next_replay t event mid now rig next) heard now.heard rig
stands_on t event heard mid now was rig stands next = record {
  rig_is = record { state = next.step.stands; played = sym next.played };
  heard = next.step.heard ∙ ap (told_notes next.step.notes) stands.heard
      ∙ sym (told-append t.notes next.step.notes heard);
}

-- ---- the reader has returned an event or a stop

pub record Awaits (n : ℕ) (start : Replay) (version : ℕ) (before now : Streams) (rig : RigState) (new : Progress)
    (answer : Result Event Stop) : Type 0 where
  pub left : Option (List ℕ)
  pub old : Progress
  pub taken : List ℕ
  pub events : List Event
  pub replay : Replay
  pub many : length events ≡ n
  pub reads : HasRead before.left left old taken events
  pub same : version ≡ new.version
  pub answers : Answers old new left now.left answer
  pub plays : Plays (raised start version) events replay
  pub stands : StandsAfter replay before.heard now.heard rig
  pub cost : now.steps ≤ before.steps + replay.cost
  pub small : replay.cost ≤ replay.box_cost

pub awaits_first : (s : Machine) (left left_now held : Option (List ℕ)) (heard : List Reading) (steps : ℕ)
    (rig : RigState) (first new : Progress) (version : ℕ) (next : Result Event Stop) → IsStart first
    → StandsFor rig (raised (from_state s 0) version) → version ≡ new.version
    → IfOk next (λ event. Takes (reader_input first left) (reader_input new left_now) (event ∷ []))
    → OnOk next (1 ≤ new.version)
    → IfErr next (λ stop. StopsAt (reader_input first left) (reader_input new left_now) stop)
    → Awaits 0 (from_state s 0) version (streams left held heard steps) (streams left_now held heard steps) rig new next
awaits_first s left left_now held heard steps rig first new version next is stands same takes known stops =
    let none : IsFirst (raised (from_state s 0) version) = raised_first (from_state s 0) version (from_first s 0) in
    record {
      left = left;
      old = first;
      taken = [];
      events = [];
      replay = raised (from_state s 0) version;
      many = refl;
      reads = read_none left first is;
      same = same;
      answers = answers first new left left_now next takes known stops;
      plays = plays_none s version;
      stands = stands_none s version heard rig stands;
      cost = omega arith;
      small = omega (arith, none.cost);
    }

pub awaits_next : (n : ℕ) (start : Replay) (before now : Streams) (rig : RigState) (old new : Progress)
    (left : Option (List ℕ)) (next : Result Event Stop) → PlaysFirst (cut_at n start) before now rig old
    → IfOk next (λ event. Takes (reader_input old now.left) (reader_input new left) (event ∷ []))
    → OnOk next (1 ≤ new.version)
    → IfErr next (λ stop. StopsAt (reader_input old now.left) (reader_input new left) stop)
    → Awaits n start old.version before (streams left now.held now.heard now.steps) rig new next
awaits_next n start before now rig old new left next was takes known stops =
    let answer = answers old new now.left left next takes known stops in
    record {
      left = now.left;
      old = old;
      taken = was.taken;
      events = was.events;
      replay = was.replay;
      many = was.many;
      reads = was.reads;
      same = version_on old new now.left left next answer was.known;
      answers = answer;
      plays = was.plays;
      stands = was.stands;
      cost = was.cost;
      small = was.small;
    }

-- ---- the event is played

pub played_on : (n : ℕ) (start : Replay) (version : ℕ) (before now : Streams) (was rig : RigState) (new : Progress)
    (answer : Result Event Stop) (heard : List Reading) (steps : ℕ)
    → (at : Awaits n start version before now was new answer)
    → PlaysAnswer at.replay answer (without_sink now.heard now.steps) (without_sink heard steps) rig → n < 2 ^ 32
    → PlaysFirst (cut_at (n + 1) start) before (streams now.left now.held heard steps) rig new
played_on n start version before now was rig new (Ok event) heard steps at next few =
    let mid = without_sink now.heard now.steps in
    let following = without_sink heard steps in
    let after : Replay = next_replay at.replay event mid following rig next in
    let long = length-append at.events (event ∷ []) in
    let P : ℕ → Type 0 = λ v. Plays (raised start v) (at.events ++ event ∷ []) after in
    record {
      taken = at.taken ++ at.answers.0.taken;
      events = at.events ++ event ∷ [];
      replay = after;
      many = omega (arith, long, at.many);
      known = at.answers.1;
      reads = read_on before.left at.left now.left at.old new at.taken at.events event at.reads at.answers.0;
      plays = subst P at.same
          (plays_on (raised start version) at.replay at.events event mid following rig at.plays next
          (omega (arith, at.many, few)));
      stands = stands_on at.replay event before.heard mid following was rig at.stands next;
      cost = spent_on before.steps now.steps steps at.replay.cost
          (event_cost at.replay.state event) at.cost next.step.cost;
      small = both_small at.replay.cost (event_cost at.replay.state event)
          at.replay.box_cost (event_box_cost at.replay.state event)
          at.small (event_cost-small at.replay.state event);
    }
played_on n start version before now was rig new (Err stop) heard steps at next few = absurd next
