-- The ending of playing, stated without the capacity of the sink.
use Rattle.std.proofs.Common.{◌≡◌, ◌+◌, ◌++◌, List, [], ℕ, Option, Some, take, ap}
use Rattle.dev_io.specs.Device.{appended}
use Rattle.dev_io.specs.Memory.{SinkState}
use Rattle.event_play.specs.PlayInput.{PlayInput, ReplayPair, at_end, play_input, replay_pair}
use Rattle.event_play.specs.Out.{lines_of}
use Rattle.event_play.specs.Playing.{EndsPlay, LacksBytes, SaysEnding}
use Rattle.event_play.specs.Replay.{Script, Replay}
use Rattle.event_play.specs.RigState.{RigState}
use Rattle.event_play.specs.Streams.{streams}
use Rattle.event_play.specs.declared.ending.Ending.{Ending}
use Rattle.event_play.specs.declared.ending.Ending.TheVariants.{Done, Stopped, Faulted, NoPicture, WriteFailed}
use Rattle.event_play.specs.declared.ending.Mode.{Mode}
use Rattle.gpu_capture.specs.declared.event.Stop.TheVariants.{End, NotCapture, Truncated, BadRecord, TooLong, ReadFault}
use Rattle.gpu_snapshot.specs.PlayAny.{EndsAny, script_file}
use Rattle.gpu_snapshot.specs.declared.ending.AnyEnding.{AnyEnding}
use Rattle.gpu_snapshot.specs.declared.ending.AnyEnding.TheVariants as any
use Rattle.gpu_taps.specs.Tally.{Reading}
use Rattle.psxgpu_c.specs.Room.{room_and_bytes}
use Rattle.psxgpu_c.proofs.RoomLemmas.{empty_sink, taken_bytes}

-- the sink holds these bytes, and its capacity is unchanged
abbrev IsTold : (room : ℕ) (sink : SinkState) (bytes : List ℕ) → Type 0
IsTold room sink bytes = (Some sink.held ≡ appended (Some []) bytes) × (sink.room ≡ room)

told : (room : ℕ) (sink : SinkState) (bytes : List ℕ)
    → room_and_bytes sink ≡ appended (room_and_bytes (empty_sink room)) bytes → IsTold room sink bytes
told room sink bytes is =
    let has = taken_bytes room sink bytes is in (ap Some has.held, has.room_is)

lacks_told : (on : PlayInput) (replay : ReplayPair) (room : ℕ) (sink : SinkState) (l l' : Option (List ℕ))
    (h h' : List Reading) (n n' number : ℕ)
    → LacksBytes on replay number (streams l (room_and_bytes (empty_sink room)) h n)
    (streams l' (room_and_bytes sink) h' n')
    → LacksBytes on replay number (streams l (Some []) h n) (streams l' (Some sink.held) h' n') × (sink.room ≡ room)
lacks_told on replay room sink l l' h h' n n' number lacks =
    let part = lacks.held in
    let lines = lines_of on.mode lacks.start in
    let is = told room sink (lines ++ take part.count lacks.due) part.held in (
      record {
        number_is = lacks.number_is;
        start = lacks.start;
        due = lacks.due;
        origin = lacks.origin;
        held = record { count = part.count; part = part.part; held = is.0 };
        prefix = lacks.prefix;
      },
      is.1,
    )

says_told : (on : PlayInput) (replay : ReplayPair) (room : ℕ) (sink : SinkState) (l l' : Option (List ℕ))
    (h h' : List Reading) (n n' : ℕ) (ending : Ending)
    → SaysEnding on replay (streams l (room_and_bytes (empty_sink room)) h n) (streams l' (room_and_bytes sink) h' n')
    ending
    → SaysEnding on replay (streams l (Some []) h n) (streams l' (Some sink.held) h' n') ending × (sink.room ≡ room)
says_told on replay room sink l l' h h' n n' Done says =
    let is = told room sink _ says.2 in ((says.0, says.1, is.0), is.1)
says_told on replay room sink l l' h h' n n' (NoPicture number) says =
    let is = told room sink _ says.2 in ((says.0, says.1, is.0), is.1)
says_told on replay room sink l l' h h' n n' (Stopped number (ReadFault byte)) says =
    let is = told room sink _ says.1 in ((says.0, is.0), is.1)
says_told on replay room sink l l' h h' n n' (Stopped number (Truncated byte)) says =
    let is = told room sink _ says.1 in ((says.0, is.0, says.2), is.1)
says_told on replay room sink l l' h h' n n' (Stopped number End) says =
    let is = told room sink _ says.1 in ((says.0, is.0), is.1)
says_told on replay room sink l l' h h' n n' (Stopped number (NotCapture byte)) says =
    let is = told room sink _ says.1 in ((says.0, is.0), is.1)
says_told on replay room sink l l' h h' n n' (Stopped number (BadRecord byte word)) says =
    let is = told room sink _ says.1 in ((says.0, is.0), is.1)
says_told on replay room sink l l' h h' n n' (Stopped number (TooLong byte)) says =
    let is = told room sink _ says.1 in ((says.0, is.0), is.1)
says_told on replay room sink l l' h h' n n' (Faulted number fault) says =
    let is = told room sink _ says.1 in ((says.0, is.0), is.1)
says_told on replay room sink l l' h h' n n' (WriteFailed number) says =
    lacks_told on replay room sink l l' h h' n n' number says

plays_told : (mode : Mode) (script : List ℕ → Script) (room : ℕ) (sink : SinkState) (l l' : Option (List ℕ))
    (h h' : List Reading) (n n' : ℕ) (rig : RigState) (ending : Ending)
    → EndsPlay mode script (streams l (room_and_bytes (empty_sink room)) h n)
    (at_end (streams l' (room_and_bytes sink) h' n') rig) ending
    → EndsPlay mode script (streams l (Some []) h n) (at_end (streams l' (Some sink.held) h' n') rig) ending
    × (sink.room ≡ room)
plays_told mode script room sink l l' h h' n n' rig ending e =
    let says = says_told (play_input mode script e.taken)
    (replay_pair e.replay e.last) room sink l l' h h' n n' ending e.says in (
      record {
        taken = e.taken;
        bytes = e.bytes;
        needed = e.needed;
        replay = e.replay;
        last = e.last;
        says = says.0;
        is_last = e.is_last;
        stands = e.stands;
        heard = e.heard;
        cost = e.cost;
        box_cost = e.box_cost;
      },
      says.1,
    )

pub ends_told : (mode : Mode) (first : Replay) (room : ℕ) (sink : SinkState) (l l' : Option (List ℕ))
    (h h' : List Reading) (n n' : ℕ) (end : AnyEnding)
    → EndsAny mode first (streams l (room_and_bytes (empty_sink room)) h n) (streams l' (room_and_bytes sink) h' n') end
    → EndsAny mode first (streams l (Some []) h n) (streams l' (Some sink.held) h' n') end × (sink.room ≡ room)
unfolding plays_told
ends_told mode first room sink l l' h h' n n' (any.Played ending) e =
    let plays = plays_told mode (script_file first) room sink l l' h h' (n + e.opening) n' e.rig ending e.plays in
    (record { rig = e.rig; opening = e.opening; plays = plays.0; good = e.good; cost = e.cost }, plays.1)
ends_told mode first room sink l l' h h' n n' (any.BadSnapshot byte word) e =
    let is = told room sink [] e.held in (
      record {
        taken = e.taken;
        bytes = e.bytes;
        needed = e.needed;
        says = e.says;
        held = is.0;
        heard = e.heard;
        cost = e.cost;
      },
      is.1,
    )
