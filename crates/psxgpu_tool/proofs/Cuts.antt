-- The result of cutting a capture.
use Rattle.std.proofs.Common.{◌≡◌, ◌≤◌, ◌<◌, inl, inr, ℕ, zero, suc, ◌++◌, List, [], ◌∷◌, Some, Err, length, take}
use Rattle.std.proofs.Common.{drop, refl, ap, sym, subst, ◌∙◌, append-nil, append_assoc, arith}
use Rattle.std.proofs.lemmas.List.{length-append, take_at, drop_at}
use Rattle.dev_io.specs.Device.{appended}
use Rattle.gpu_capture.specs.Capture.{Captured, capture, limit}
use Rattle.gpu_capture.specs.declared.event.Event.{Event}
use Rattle.gpu_capture.specs.declared.event.Stop.TheVariants.{End, ReadFault}
use Rattle.gpu_taps.specs.Tally.{Reading}
use Rattle.event_play.specs.Ends.{IsNotEnd}
use Rattle.event_play.specs.Playing.{whole}
use Rattle.event_play.specs.Replay.{Played, played_events, after_event, told_on, go_on, next_number, raised}
use Rattle.event_play.specs.RigState.{RigState}
use Rattle.event_play.specs.Step.{event_step, event_cost, event_box_cost}
use Rattle.event_play.specs.declared.ending.Ending.TheVariants as play
use Rattle.event_play.specs.declared.fault.EventFault.{EventFault}
use Rattle.capture_cut.specs.Cut.{Way, Plays, events_of, said_of, EndsCut, cut_at, IsEnding, MayReadFault}
use Rattle.capture_cut.specs.Cut.{MayWriteFault}
use Rattle.capture_cut.specs.File.{snapshot, cut_file}
use Rattle.capture_cut.specs.declared.ending.CutEnding.{CutEnding}
use Rattle.capture_cut.specs.declared.ending.CutEnding.TheVariants.{Done, PastEnd, Stopped, Faulted, TooLong}
use Rattle.capture_cut.specs.declared.ending.CutEnding.TheVariants.{WriteFailed}
use Rattle.gpu_snapshot.proofs.CutFiles.{cut_files}
use Rattle.psxgpu_tool.specs.CutRun.{play_first, play_whole, cut_of, GoesOnAs, IsCuttable, CutWhole, EndsAsCut}
use Rattle.psxgpu_tool.specs.First.{first, play_file, seen}
use Rattle.psxgpu_tool.specs.Line.{cut_status, cut_text}
use Rattle.psxgpu_tool.specs.Outside.{Outside, Says, HasFailed, HasFailedToRead}
use Rattle.psxgpu_tool.specs.Run.{CommandRun}
use Rattle.command_line.specs.declared.command.Command.TheVariants.{Cut}
use Rattle.psxgpu_tool.proofs.Causes.{HasCause, is_done, is_refused, is_read, is_write, answers, IsCut, cut, if_told}
use Rattle.psxgpu_tool.proofs.Causes.{stop_read, first_read, longer}

cut_cause : (ending : CutEnding) → HasCause (cut_status ending) (ending ≡ Done) (MayReadFault ending)
    (MayWriteFault ending)
cut_cause Done = is_done refl
cut_cause (Stopped n (ReadFault byte)) = is_read tt
cut_cause (WriteFailed n) = is_write tt
cut_cause other = is_refused

-- ---- the first events

-- a captured list of events that begins with those that were played
module _ (n : ℕ) (way : Way) (plays : Plays (raised first way.version) way.played way.replay) where
  -- n of them were played
  module _ (all : length way.played ≡ n) (captured : Captured) (more : List Event)
      (same : captured.version ≡ way.version) (events : captured.events ≡ way.played ++ more) where
    first_played : play_first n captured ≡ whole way.replay []
    first_played =
        ap (λ (events : List Event). played_events (raised first captured.version) events End [])
        (ap (take n) events ∙ take_at way.played more n all ∙ sym (append-nil way.played))
        ∙ ap (λ (v : ℕ). played_events (raised first v) (way.played ++ []) End []) same ∙ plays.replays [] End []

    file_is : cut_of n captured ≡ cut_file way.replay more
    file_is =
        ap (λ (r : Played). cut_file r.replay (drop n captured.events)) first_played
        ∙ ap (cut_file way.replay) (ap (drop n) events ∙ drop_at way.played more n all)

  -- fewer were played, and the next has a fault
  module _ (event : Event) (fault : EventFault) (is : event_step way.replay.state (next_number way.replay.played) event
      ≡ Err fault) where
    faults_first : (more : List Event)
        → (played_events (raised first way.version) (way.played ++ event ∷ more) End []).ending
        ≡ play.Faulted (next_number way.replay.played) fault
    faults_first more =
        let after : after_event way.replay event ≡ Err fault =
        ap (told_on way.replay event (event_cost way.replay.state event) (event_box_cost way.replay.state event)) is
        in
        ap (λ (r : Played). r.ending) (plays.replays (event ∷ more) End []
        ∙ ap (λ r. go_on r (λ next. played_events next more End [])
        (λ fault. record {
          replay = way.replay;
          ending = play.Faulted (next_number way.replay.played) fault;
          rest = [];
        }))
        after)

-- the first of a longer list, beyond a part of it
first_beyond : (xs : List Event) (y : Event) (ys : List Event) (n : ℕ) → length xs < n
    → (more : List Event) × (take n ((xs ++ y ∷ []) ++ ys) ≡ xs ++ y ∷ more)
first_beyond [] y ys zero lt = absurd (omega (arith, lt))
first_beyond [] y ys (suc n) lt = (take n ys, refl)
first_beyond (x ∷ xs) y ys zero lt = absurd (omega (arith, lt))
first_beyond (x ∷ xs) y ys (suc n) lt =
    let is = first_beyond xs y ys n (omega (arith, lt)) in (is.0, ap (λ (zs : List Event). x ∷ zs) is.1)

module _ (n : ℕ) (small : n ≤ 4294967295) (heard heard_now : List Reading) (before now : Outside) (rig : RigState) where
  abbrev Ends : CutEnding → Type 0
  Ends ending = EndsCut (cut_at n first) (seen heard before) (seen heard_now now) rig ending

  -- the file of a cut capture continues it
  continues : (ends : Ends Done) → GoesOnAs ends.way.replay
      (λ rest. played_events (raised first ends.way.version) (events_of ends.way) End rest)
      (λ rest. play_file (cut_file ends.way.replay ends.way.later ++ rest))
  continues ends =
      let way = ends.way in
      let start = raised first way.version in
      let leads = cut_files.leads start way.replay way.played ends.plays in
      let whole = cut_files.whole n way (seen heard before) (seen heard_now now) ends.says in
      record {
        writes = λ mode heard rest.
            cut_files.writes_on mode heard first start way.replay way.played way.later rest leads whole;
        ends = λ rest. cut_files.ends_on first start way.replay way.played way.later rest leads whole;
      }

  module _ (bytes : List ℕ) (told : before.source.left ≡ Some bytes) where
    part_of : (ending : CutEnding) (ends : Ends ending) → IsCut bytes ends.way.taken now.source.left
    part_of ending ends = cut bytes ends.way.taken now.source.left (sym told ∙ ends.bytes)

    whole_by : Ends Done → CutWhole n bytes before now
    whole_by ends =
        let way = ends.way in
        let part = part_of Done ends in
        let captured : capture bytes
        ≡ record { version = way.version; events = events_of way; ending = End; rest = part.rest } =
        ap capture part.all ∙ ends.says.stops.says part.rest
        in
        let same = ap (λ (c : Captured). c.version) captured in
        let events = ap (λ (c : Captured). c.events) captured in
        let played = first_played n way ends.plays ends.says.all (capture bytes) way.later same events in
        let file = file_is n way ends.plays ends.says.all (capture bytes) way.later same events in
        let size = length-append way.played way.later in
        let many = ap length events in
        let all = ends.says.all in
        let Whole : Captured → Type 0 = λ c. GoesOnAs way.replay (play_whole c)
        (λ rest. play_file (cut_file way.replay way.later ++ rest)) in
        let Was : Played → Type 0 = λ r. GoesOnAs r.replay (play_whole (capture bytes))
        (λ rest. play_file (cut_file way.replay way.later ++ rest)) in
        let File : List ℕ → Type 0 = λ xs. GoesOnAs (play_first n (capture bytes)).replay (play_whole (capture bytes))
        (λ rest. play_file (xs ++ rest)) in
        record {
          cuttable = record {
            ending = ap (λ (c : Captured). c.ending) captured;
            many = omega (arith, size, many, all);
            fine = ap (λ (r : Played). r.ending) played;
            fits = subst (λ (xs : List ℕ). length xs ≤ limit) (sym file) ends.says.fits;
          };
          left = part.left_is ∙ ap (λ (c : Captured). Some c.rest) (sym captured);
          held = ends.says.held ∙ ap (appended before.out.held) (sym file);
          goes_on = subst File (sym file) (subst Was (sym played) (subst Whole (sym captured) (continues ends)));
          cost = rw played ends.cost;
          box_cost = rw played ends.box_cost;
        }

    -- it is refused, because it cannot be cut
    refused : (IsCuttable n (capture bytes) → ⊥) → EndsAsCut n (capture bytes) 2
    refused cannot = inr (refl, cannot)

    -- it is complete, and has too few events
    past_end : (number : ℕ) → Ends (PastEnd number) → EndsAsCut n (capture bytes) 2
    past_end number ends =
        let way = ends.way in
        let part = part_of (PastEnd number) ends in
        let captured = ap capture part.all ∙ ends.says.1.says part.rest in
        let count = ap length (ap (λ (c : Captured). c.events) captured) in
        let none = ap length (ends.order.first ends.says.0.few) in
        let size = length-append way.played way.later in
        let few = ends.says.0.few in
        refused (λ cuttable. let many = cuttable.many in omega (arith, many, count, none, size, few))

    -- one of the first events has a fault
    fault_by : (number : ℕ) (fault : EventFault) → Ends (Faulted number fault) → EndsAsCut n (capture bytes) 2
    fault_by number fault ends =
        let way = ends.way in
        let fault_at = ends.says.1 in
        let event = fault_at.event in
        let (more, captured) = first_read bytes way.taken now.source.left (part_of (Faulted number fault) ends)
        way.version (way.played ++ event ∷ []) fault_at.reads.says in
        let less = ends.says.0.few in
        let beyond = first_beyond way.played event more.events n less in
        let numbered = ends.says.0.number_is in
        let counts = ends.plays.counts in
        let number_is : number ≡ next_number way.replay.played = omega (arith, numbered, counts, less, small) in
        let step : event_step way.replay.state (next_number way.replay.played) event ≡ Err fault =
        ap (λ n. event_step way.replay.state n event) (sym number_is) ∙ fault_at.fault_is
        in
        let ending : (play_first n (capture bytes)).ending ≡ play.Faulted (next_number way.replay.played) fault =
        ap (λ (c : Captured). (play_first n c).ending) captured
        ∙ ap (λ (xs : List Event). (played_events (raised first way.version) xs End []).ending) beyond.1
        ∙ faults_first n way ends.plays event fault step beyond.0
        in
        refused (λ cuttable. absurd (cc (ending, cuttable.fine)))

    -- the file with the records of the events that were read is too long, and so is that with all records
    long_by : (number : ℕ) → Ends (TooLong number) → EndsAsCut n (capture bytes) 2
    long_by number ends =
        let way = ends.way in
        let (more, captured) = first_read bytes way.taken now.source.left (part_of (TooLong number) ends)
        way.version (events_of way) ends.says.last.reads.says in
        let events = ap (λ (c : Captured). c.events) captured ∙ append_assoc way.played way.later more.events in
        let file = ap length (file_is n way ends.plays ends.says.last.all (capture bytes)
        (way.later ++ more.events) (ap (λ (c : Captured). c.version) captured) events) in
        let least = longer (snapshot way.replay) way.later more.events in
        let long = ends.says.long in
        refused (λ cuttable. let fits = cuttable.fits in omega (arith, file, least, long, fits))

    complete_by : (ending : CutEnding) → Ends ending → (cut_status ending ≡ 3 → ⊥) → (cut_status ending ≡ 4 → ⊥)
        → EndsAsCut n (capture bytes) (cut_status ending)
    complete_by Done ends read write = inl (refl, (whole_by ends).cuttable)
    complete_by (PastEnd number) ends read write = past_end number ends
    complete_by (Faulted number fault) ends read write = fault_by number fault ends
    complete_by (TooLong number) ends read write = long_by number ends
    complete_by (WriteFailed number) ends read write = absurd (write refl)
    complete_by (Stopped number (ReadFault byte)) ends read write = absurd (read refl)
    complete_by (Stopped number stop) ends read write =
        let found = stop_read bytes ends.way.taken now.source.left (part_of (Stopped number stop) ends)
        (said_of ends.way) stop (λ is. is) ends.says.1.says in
        refused (λ cuttable. subst IsNotEnd (sym (ap (λ (c : Captured). c.ending) found.1) ∙ cuttable.ending)
        ends.says.2)

  pub cut_runs : (ending : CutEnding) → Says before.err now.err (cut_text ending heard_now)
      → (cut_status ending ≡ 0 → now.err ≡ before.err) → Ends ending → IsEnding ending
      → (MayReadFault ending → HasFailedToRead before.source now.source)
      → (MayWriteFault ending → HasFailed before.out now.out)
      → CommandRun (Cut n) heard before now (cut_status ending)
  cut_runs ending says silent ends known read_cause write_cause =
      let cause = cut_cause ending in
      answers (Cut n) heard before now (cut_status ending) cause silent (record {
        ends = inr (record {
          ending = ending;
          rig = rig;
          told = heard_now;
          ends = ends;
          known = known;
          status_is = refl;
          says = says;
        });
        whole = λ zero. if_told before.source.left _
            (λ bytes told. whole_by bytes told (subst Ends (cause.done zero) ends));
        starved = λ three. read_cause (cause.read three);
        cut = λ four. write_cause (cause.write four);
        complete = λ fine full. inr (if_told before.source.left _ (λ bytes told. complete_by bytes told ending ends
            (λ three. fine (read_cause (cause.read three))) (λ four. full (write_cause (cause.write four)))));
      })
