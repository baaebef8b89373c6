-- Lines of an event that were buffered and could not be written.
use Rattle.std.proofs.Common.{◌≡◌, ◌≤◌, inl, inr, ◌+◌, ◌++◌, ℕ, List, [], ◌∷◌, Ok, length, length-append, refl}
use Rattle.std.proofs.Common.{ap, sym, subst, ◌∙◌, append_assoc, append-nil, arith}
use Rattle.gathered_out.proofs.Buffers.{BreaksDue}
use Rattle.gpu_capture.specs.Capture.{Captured, then_events}
use Rattle.gpu_capture.specs.Reading.{AreNeeded, SaysFirst}
use Rattle.gpu_capture.specs.declared.event.Event.{Event}
use Rattle.gpu_capture.specs.declared.event.Stop.{Stop}
use Rattle.gpu_taps.specs.Tally.{Reading}
use Rattle.event_play.specs.Lines.{IsBuffered}
use Rattle.event_play.specs.Out.{lines_of, out_bytes}
use Rattle.event_loop.specs.Pausing.{most_after}
use Rattle.event_play.specs.Playing.{Follows, LacksBytes, LeadsTo, plays, reads}
use Rattle.event_play.specs.Replay.{Replay, Script, after_event, go_on, played_events, replayed, next_number}
use Rattle.event_play.specs.Streams.{Streams}
use Rattle.event_play.specs.declared.ending.Ending.TheVariants.{Faulted}
use Rattle.event_play.specs.declared.ending.Mode.{Mode}
use Rattle.event_play.proofs.Grows.{out_grows}
use Rattle.event_play.specs.PlayInput.{play_input, replay_pair}

-- `due` is the lines of event `number`, one of these, and follows the output `was`. `flushed`: the bytes read at the
-- last flush. The bytes that this event needs start with them.
pub record WasDue (mode : Mode) (script : List ℕ → Script) (read : List Event) (flushed taken : List ℕ) (number : ℕ)
    (was due : List ℕ) : Type 0 where
  pub first : Replay
  pub begins : (rest : List ℕ) → (script (taken ++ rest)).first ≡ first
  pub earlier : List Event
  pub event : Event
  pub later : List Event
  pub are : read ≡ earlier ++ event ∷ later
  pub replay : Replay
  pub follows : Follows first earlier replay
  pub next : Replay
  pub next_is : after_event replay event ≡ Ok next
  pub number_is : number ≡ next_number replay.played
  pub was_is : was ≡ lines_of mode replay
  pub due_is : lines_of mode next ≡ was ++ due
  pub between : List ℕ
  pub rest : List ℕ
  pub taken_is : taken ≡ (flushed ++ between) ++ rest
  pub needed : AreNeeded (reads script) (earlier ++ event ∷ []) (flushed ++ between)

-- the same after further events and bytes are read
pub due_more : (mode : Mode) (script : List ℕ → Script) (events more all : List Event) (flushed taken further : List ℕ)
    → all ≡ events ++ more → (number : ℕ) (was due : List ℕ)
    → WasDue mode script events flushed taken number was due
    → WasDue mode script all flushed (taken ++ further) number was due
due_more mode script events more all flushed taken further all_are number was due is = record {
  first = is.first;
  begins = λ rest.
      ap (λ bytes. (script bytes).first) (append_assoc taken further rest) ∙ is.begins (further ++ rest);
  earlier = is.earlier;
  event = is.event;
  later = is.later ++ more;
  are = all_are ∙ ap (λ (es : List Event). es ++ more) is.are
      ∙ append_assoc is.earlier (is.event ∷ is.later) more;
  replay = is.replay;
  follows = is.follows;
  next = is.next;
  next_is = is.next_is;
  number_is = is.number_is;
  was_is = is.was_is;
  due_is = is.due_is;
  between = is.between;
  rest = is.rest ++ further;
  taken_is = ap (λ bs. bs ++ further) is.taken_is ∙ append_assoc (flushed ++ is.between) is.rest further;
  needed = is.needed;
}

-- the same after further events are read
pub due_on : (mode : Mode) (script : List ℕ → Script) (events more : List Event) (flushed taken : List ℕ)
    (number : ℕ) (was due : List ℕ)
    → WasDue mode script events flushed taken number was due
    → WasDue mode script (events ++ more) flushed taken number was due
due_on mode script events more flushed taken number was due is =
    let P : List ℕ → Type 0 = λ all. WasDue mode script (events ++ more) flushed all number was due in
    subst P (append-nil taken)
    (due_more mode script events more (events ++ more) flushed taken [] refl number was due is)

-- the lines of the last event read
pub due_here : (mode : Mode) (script : List ℕ → Script) (first t next : Replay) (events : List Event) (event : Event)
    (flushed after taken due : List ℕ) → ((rest : List ℕ) → (script (taken ++ rest)).first ≡ first)
    → Follows first events t → taken ≡ flushed ++ after
    → AreNeeded (reads script) (events ++ event ∷ []) taken → after_event t event ≡ Ok next
    → lines_of mode next ≡ lines_of mode t ++ due
    → WasDue mode script (events ++ event ∷ []) flushed taken (next_number t.played) (lines_of mode t) due
due_here mode script first t next events event flushed after taken due begins follows taken_is needed is lines =
    record {
      first = first;
      begins = begins;
      earlier = events;
      event = event;
      later = [];
      are = refl;
      replay = t;
      follows = follows;
      next = next;
      next_is = is;
      number_is = refl;
      was_is = refl;
      due_is = lines;
      between = after;
      rest = [];
      taken_is = taken_is ∙ sym (append-nil (flushed ++ after));
      needed = rw (← taken_is) needed;
    }

-- ---- the whole output

same_first : (first other : Replay) (events : List Event) (t : Replay) → first ≡ other → Follows first events t
    → Follows other events t
same_first first other events t same follows =
    let P : Replay → Type 0 = λ start. Follows start events t in subst P same follows

-- the replay continues after an event
plays_after : (script : List ℕ → Script) (first t next : Replay) (bytes : List ℕ) (earlier : List Event) (event : Event)
    (later read : List Event) (c : Captured) → (script bytes).first ≡ first → reads script bytes ≡ then_events read c
    → read ≡ earlier ++ event ∷ later → Follows first earlier t → after_event t event ≡ Ok next
    → plays script bytes ≡ played_events next (later ++ c.events) c.ending c.rest
plays_after script first t next bytes earlier event later read c begins says are follows is =
    ap (λ (start : Replay). replayed start (script bytes).captured) begins
    ∙ ap (replayed first) says
    ∙ ap (λ (all : List Event). played_events first (all ++ c.events) c.ending c.rest) are
    ∙ ap (λ (all : List Event). played_events first all c.ending c.rest)
    (append_assoc earlier (event ∷ later) c.events)
    ∙ follows.replays (event ∷ (later ++ c.events)) c.ending c.rest
    ∙ ap (λ r. go_on r (λ next. played_events next (later ++ c.events) c.ending c.rest)
    (λ fault. record { replay = t; ending = Faulted (next_number t.played) fault; rest = c.rest })) is

-- In the whole output, the lines of an event follow those of the replay before it.
writes_after : (mode : Mode) (heard : List Reading) (script : List ℕ → Script) (t next : Replay) (bytes due : List ℕ)
    (events : List Event) (stop : Stop) (rest : List ℕ)
    → plays script bytes ≡ played_events next events stop rest → lines_of mode next ≡ lines_of mode t ++ due
    → (more : List ℕ) × (out_bytes mode heard (plays script bytes) ≡ lines_of mode t ++ (due ++ more))
writes_after mode heard script t next bytes due events stop rest is lines =
    let grows = out_grows mode heard next events stop rest in (
      grows.0,
      ap (out_bytes mode heard) is ∙ grows.1 ∙ ap (λ bs. bs ++ grows.0) lines
          ∙ append_assoc (lines_of mode t) due grows.0,
    )

-- ---- incomplete output

module _ (mode : Mode) (script : List ℕ → Script) (before now : Streams) (first last : Replay) (version : ℕ)
    (read : List Event) (flushed taken : List ℕ) (number : ℕ)
    (breaks : BreaksDue (WasDue mode script read flushed taken) before.held now.held number) where
  pub lacks_lines : IsBuffered mode → ((rest : List ℕ) → (script (taken ++ rest)).first ≡ first)
      → SaysFirst (reads script) version taken read → LeadsTo first read last
      → length taken ≤ length flushed + most_after
      → LacksBytes (play_input mode script taken) (replay_pair breaks.is.replay last) number before now
  lacks_lines buffers begins says leads few =
      let is = breaks.is in
      let same : is.first ≡ first = sym (is.begins []) ∙ begins [] in
      let lines : lines_of mode is.next ≡ lines_of mode is.replay ++ breaks.due =
      is.due_is ∙ ap (λ bs. bs ++ breaks.due) is.was_is in
      record {
        number_is = is.number_is;
        start = is.replay;
        due = breaks.due;
        origin = inr (inl (record {
          buffers = buffers;
          before = is.earlier;
          event = is.event;
          after = is.later;
          is_read = record {
            first = first;
            version = version;
            begins = begins;
            says = rw (← is.are) says;
            follows = same_first is.first first is.earlier is.replay same is.follows;
            leads = rw (← is.are) leads;
            few = record {
              needed = flushed ++ is.between;
              later = is.rest;
              are = is.taken_is;
              are_needed = is.needed;
              few = let a = ap length is.taken_is in
                  let b = length-append (flushed ++ is.between) is.rest in
                  let d = length-append flushed is.between in
                  omega (arith, a, b, d, few);
            };
          };
          next = is.next;
          next_is = is.next_is;
          start_is = refl;
          lines = lines;
        }));
        held = rw is.was_is at breaks.held;
        prefix = λ rest.
            let said = says rest in
            writes_after mode before.heard script is.replay is.next (taken ++ rest) breaks.due
            (is.later ++ said.0.events) said.0.ending said.0.rest
            (plays_after script first is.replay is.next (taken ++ rest) is.earlier is.event is.later read said.0
            (begins rest) said.1 is.are (same_first is.first first is.earlier is.replay same is.follows) is.next_is)
            lines;
      }
