-- What a loop over events says of its ending, in the words of a flat capture.
use Rattle.std.proofs.Common.{◌≡◌, ◌++◌, ℕ, List, [], ◌∷◌, Option}
use Rattle.std.proofs.Common.{refl, ap, sym, subst, ◌∙◌, append_assoc, append-nil, inl, inr}
use Rattle.dev_io.specs.Device.{appended, prepended}
use Rattle.gathered_out.specs.Pieces.{Piece, bytes_of, piece}
use Rattle.gathered_out.proofs.Pieces.{bytes_append}
use Rattle.gpu_capture.specs.Capture.{capture}
use Rattle.gpu_capture.specs.Reader.{IsStart, capture_from}
use Rattle.gpu_capture.specs.Reading.{Reading as HowRead, SaysFirst, SaysStop}
use Rattle.gpu_capture.specs.declared.event.Event.{Event}
use Rattle.gpu_capture.specs.declared.event.Stop.{Stop}
use Rattle.gpu_capture.specs.declared.event.Stop.TheVariants.{End, NotCapture, Truncated, BadRecord, TooLong, ReadFault}
use Rattle.gpu_capture.specs.declared.progress.Progress.{Progress}
use Rattle.event_loop.proofs.Commands.{no_piece, only, reads_all}
use Rattle.event_loop.specs.Due.{pieces}
use Rattle.event_loop.specs.Ending.{Ends, IsNotEnd as LoopIsNotEnd, LacksPiece, Matter, Taker}
use Rattle.event_loop.specs.Ending.{held_at, matter, taker}
use Rattle.event_loop.specs.Pausing.{most_after}
use Rattle.event_loop.specs.declared.ended.Ended.{Ended}
use Rattle.event_loop.specs.declared.ended.Ended.TheVariants as ended
use Rattle.event_play.specs.Ends.{IsNotEnd}
use Rattle.event_play.specs.Replay.{Replay, from_state, next_number, played_from}
use Rattle.event_play.specs.Streams.{Streams, streams}
use Rattle.capture_flat.specs.Ended.{flat_ending}
use Rattle.capture_flat.specs.OneEvent.{end_due}
use Rattle.capture_flat.specs.Out.{begun, due_at, flat_version}
use Rattle.gpu_capture.specs.Written.{written}
use Rattle.capture_flat.specs.Passing.{EndsFlat, Fits, SaysEnding, Way}
use Rattle.capture_flat.specs.Taking.{FlatAt, FlatBreaks, FlatKnows, FlatPlays, FlatRefuses, FlatStands, FlatStart}
use Rattle.capture_flat.specs.Taking.{first_of, flat_closing, flat_due, flat_number, replay_after}
use Rattle.capture_flat.specs.declared.ending.FlatEnding.{FlatEnding}
use Rattle.capture_flat.specs.declared.ending.FlatEnding.TheVariants as flat
use Rattle.capture_flat.specs.declared.refusal.FlatRefusal.{FlatRefusal}
use Rattle.capture_flat.specs.declared.refusal.FlatRefusal.TheVariants.{Fault, TooMuch}
use Rattle.capture_flat.proofs.Following.{all_flat, spent_within}
use Rattle.capture_flat.proofs.Output.{begun_end}
use Rattle.capture_flat.proofs.Stopping.{is_flat, replayed_to}
use Rattle.capture_flat.proofs.Taking.{after_is, fits_before}

not_end : (stop : Stop) → LoopIsNotEnd stop → IsNotEnd stop
not_end End not = absurd not
not_end (NotCapture byte) not = tt
not_end (Truncated byte) not = tt
not_end (BadRecord byte word) not = tt
not_end (TooLong byte) not = tt
not_end (ReadFault byte) not = tt

module _ (start : FlatStart) (version : ℕ) where
  none_closes : (events : List Event) (stop : Stop) → LoopIsNotEnd stop → flat_closing start version events stop ≡ []
  none_closes events End not = absurd not
  none_closes events (NotCapture byte) not = refl
  none_closes events (Truncated byte) not = refl
  none_closes events (BadRecord byte word) not = refl
  none_closes events (TooLong byte) not = refl
  none_closes events (ReadFault byte) not = refl

  closing_piece : (events : List Event) (stop : Stop) (q : Piece) (front back : List Piece)
      → flat_closing start version events stop ≡ front ++ q ∷ back
      → (stop ≡ End) × (front ≡ [])
      × (q ≡ piece (flat_number start version events) (end_due version (replay_after start version events).played))
  closing_piece events End q front back is =
      let o = only _ q front back is in (refl, o.0, o.1)
  closing_piece events (NotCapture byte) q front back is = absurd (no_piece q front back is)
  closing_piece events (Truncated byte) q front back is = absurd (no_piece q front back is)
  closing_piece events (BadRecord byte word) q front back is = absurd (no_piece q front back is)
  closing_piece events (TooLong byte) q front back is = absurd (no_piece q front back is)
  closing_piece events (ReadFault byte) q front back is = absurd (no_piece q front back is)

module _ (start : FlatStart) (version : ℕ) (before left base now : Option (List ℕ)) (at : FlatAt) where
  abbrev begins : Replay
  begins = from_state start.machine 0

  abbrev first : Replay
  first = first_of start version

  abbrev was : Streams
  was = streams before base start.heard start.steps

  abbrev is : Streams
  is = streams left now at.heard at.steps

  abbrev m : Matter
  m = matter capture version (flat_due start version) (FlatKnows start version) (λ events event. most_after)
      (flat_closing start version)

  abbrev by : Taker FlatRefusal
  by = taker (λ events. FlatStands start version events at) (λ events stop. FlatStands start version events at)
      (λ events event why. FlatRefuses start version events event at why) (λ events stop why. ⊥)
      (λ events. FlatBreaks start version events at) (flat_number start version)

  abbrev way_with : (taken : List ℕ) (events : List Event) → FlatPlays start version events at → Way
  way_with taken events plays =
      record { version = version; taken = taken; events = events; flat = plays.flat; replay = plays.replay }

  ends_with : (taken : List ℕ) (events : List Event) (plays : FlatPlays start version events at)
      (ending : FlatEnding) → before ≡ prepended taken left
      → SaysEnding begins (way_with taken events plays) was is ending
      → Fits begins (way_with taken events plays) ending → EndsFlat begins was is at.rig ending
  ends_with taken events plays ending bytes says fits = record {
    way = way_with taken events plays;
    bytes = bytes;
    follows = plays.follows;
    says = says;
    fits = fits;
    stands = plays.rig;
    heard = plays.heard;
    cost = plays.cost;
    box_cost = spent_within start.steps at.steps plays.replay.cost plays.replay.box_cost plays.cost plays.small;
  }

  number_of : (events : List Event) (replay : Replay) → replay_after start version events ≡ replay → (number : ℕ)
      → number ≡ flat_number start version events → number ≡ next_number replay.played
  number_of events replay same number is = is ∙ ap (λ (t : Replay). next_number t.played) same

  all_written : (events : List Event) (all : List ℕ) → bytes_of (pieces (flat_due start version) events) ≡ all
      → now ≡ appended base (bytes_of (pieces (flat_due start version) events)) → now ≡ appended base all
  all_written events all is stands = stands ∙ ap (appended base) is

  done : (ends : Ends m by before left (held_at base now) ended.Done) → EndsFlat begins was is at.rig flat.Done
  done ends =
      let st = ends.says.1 in
      let events = ends.way.events in
      let plays = st.plays in
      let fits = fits_before start version events at st in
      let closes = ends.says.0 in
      let due = end_due version (replay_after start version events).played in
      ends_with ends.way.taken events plays flat.Done ends.bytes
      (record {
        says = closes.stops.says;
        needed = closes.stops.needed;
        plays = λ rest. ap (played_from begins) (closes.stops.says rest)
            ∙ replayed_to begins plays.replay version events plays.flat plays.follows rest;
        held = closes.stands
            ∙ ap (appended base)
            (bytes_append (pieces (flat_due start version) events) (flat_closing start version events End)
            ∙ ap (λ bs. bs ++ bytes_of (flat_closing start version events End)) st.written
            ∙ ap (λ bs. begun version plays.replay.played plays.flat ++ bs)
            (append-nil due
            ∙ ap (λ (t : Replay). end_due version t.played)
            (after_is start version events plays.replay plays.flat plays.follows))
            ∙ begun_end version plays.replay.played plays.flat plays.follows.fresh
            ∙ ap (written (flat_version version))
            (sym (all_flat first plays.replay events plays.flat plays.follows)));
        is_flat = is_flat begins plays.replay version events plays.flat plays.follows fits.fits st.low;
      })
      fits.fits

  stopped : (number : ℕ) (stop : Stop) (ends : Ends m by before left (held_at base now) (ended.Stopped number stop))
      → EndsFlat begins was is at.rig (flat.Stopped number stop)
  stopped number stop ends =
      let closes = ends.says.2 in
      let st = ends.says.3 in
      let events = ends.way.events in
      let plays = st.plays in
      ends_with ends.way.taken events plays (flat.Stopped number stop) ends.bytes (
        record {
          number_is = number_of events plays.replay
              (after_is start version events plays.replay plays.flat plays.follows) number ends.says.0;
          says = closes.stops.says;
          needed = closes.stops.needed;
          held = all_written events (begun version plays.replay.played plays.flat) st.written
              (closes.stands
              ∙ ap (λ ps. appended base (bytes_of (pieces (flat_due start version) events ++ ps)))
              (none_closes start version events stop ends.says.1)
              ∙ ap (λ ps. appended base (bytes_of ps)) (append-nil (pieces (flat_due start version) events)));
        },
        not_end stop ends.says.1,
      )
      (fits_before start version events at st).fits

  refused : (why : FlatRefusal) (ends : Ends m by before left (held_at base now) (ended.Refused why))
      → EndsFlat begins was is at.rig (flat_ending (ended.Refused why))
  refused (Fault number fault) ends = elim ends.says [
    | inl event ↦
        let st = event.refuses.2 in
        let events = ends.way.events in
        let plays = st.plays in
        let same = after_is start version events plays.replay plays.flat plays.follows in
        ends_with ends.way.taken events plays (flat.Faulted number fault) ends.bytes
        (record {
          event = event.event;
          number_is = number_of events plays.replay same number event.refuses.0;
          needed = event.reads.needed;
          says = event.reads.says;
          fault_is = rw same at event.refuses.1;
          held = all_written events (begun version plays.replay.played plays.flat) st.written event.stands;
        })
        (fits_before start version events at st).fits
    | inr stop ↦ absurd stop.refuses
  ]
  refused (TooMuch number) ends = elim ends.says [
    | inl event ↦
        let events = ends.way.events in
        let plays = event.refuses.1 in
        let fits = event.refuses.3 in
        ends_with ends.way.taken (events ++ event.event ∷ []) plays (flat.TooLong number) ends.bytes
        (record {
          last = record {
            before = events;
            event = event.event;
            replay = fits.replay;
            flat = fits.flat;
            are = refl;
            follows = fits.follows;
            number_is = number_of events fits.replay
                (after_is start version events fits.replay fits.flat fits.follows) number event.refuses.0;
            needed = event.reads.needed;
            says = event.reads.says;
          };
          held = all_written events (begun version fits.replay.played fits.flat) fits.written event.stands;
          fits = fits.fits;
          long = event.refuses.2;
        })
        tt
    | inr stop ↦ absurd stop.refuses
  ]

  -- a record is incomplete, after these events were played
  lacks : (taken : List ℕ) (events all more : List Event) (number : ℕ) → before ≡ prepended taken left
      → LacksPiece m (record { taken = taken; events = events }) number (held_at base now) → all ≡ events ++ more
      → SaysFirst capture version taken all → FlatPlays start version all at
      → EndsFlat begins was is at.rig (flat.WriteFailed number)
  lacks taken events all more number bytes l all_are says plays =
      let k = l.known in
      let same = after_is start version l.earlier k.replay k.flat k.follows in
      let o = only (piece (flat_number start version l.earlier)
      (due_at version (replay_after start version l.earlier) l.event)) l.lacking l.front l.back l.pieces_are in
      let number_is : number ≡ flat_number start version l.earlier = l.number_is ∙ ap (λ (p : Piece). p.number) o.1 in
      ends_with taken all plays (flat.WriteFailed number) bytes
      (inl (record {
        earlier = l.earlier;
        event = l.event;
        later = l.later ++ more;
        replay = k.replay;
        flat = k.flat;
        are = all_are ∙ ap (λ (es : List Event). es ++ more) l.are
            ∙ append_assoc l.earlier (l.event ∷ l.later) more;
        follows = k.follows;
        number_is = number_of l.earlier k.replay same number number_is;
        says = says;
        few = l.few;
        held = rw (o.0, o.1, append-nil (pieces (flat_due start version) l.earlier), k.written, same) at l.stands;
        fits = k.fits;
      }))
      tt

  failed : (number : ℕ) (ends : Ends m by before left (held_at base now) (ended.WriteFailed number))
      → EndsFlat begins was is at.rig (flat.WriteFailed number)
  failed number ends =
      let taken = ends.way.taken in
      let events = ends.way.events in
      let none = sym (append-nil events) in
      elim ends.says [
        | inl fails ↦
            let here : FlatPlays start version events at → EndsFlat begins was is at.rig (flat.WriteFailed number) =
            lacks taken events events [] number ends.bytes fails.0 none fails.0.says in
            elim fails.1 [
              | inl st ↦ here st.plays
              | inr other ↦ elim other [
                | inl breaks ↦ here breaks.plays
                | inr refused ↦ after taken events number ends.bytes fails.0 refused.0 refused.1 refused.2
                    refused.3.says
              ]
            ]
        | inr fails ↦
            let l = fails.0 in
            let st = fails.1 in
            let plays = st.plays in
            let same = after_is start version events plays.replay plays.flat plays.follows in
            let o = closing_piece start version events l.stop l.lacking l.front l.back l.pieces_are in
            ends_with taken events plays (flat.WriteFailed number) ends.bytes
            (inr (record {
              number_is = number_of events plays.replay same number
                  (l.number_is ∙ ap (λ (p : Piece). p.number) o.2);
              needed = l.stops.needed;
              says = let P : Stop → Type 0 = λ s. SaysStop capture taken (record {
                version = version;
                events =
                    events;
              }) s left in
                  subst P o.0 l.stops.says;
              held = rw (o.1, o.2, append-nil (pieces (flat_due start version) events), st.written, same) at l.stands;
              fits = (fits_before start version events at st).fits;
            }))
            tt
      ]
    where
      after : (taken : List ℕ) (events : List Event) (number : ℕ) → before ≡ prepended taken left
          → LacksPiece m (record { taken = taken; events = events }) number (held_at base now)
          → (event : Event) (why : FlatRefusal) → FlatRefuses start version events event at why
          → SaysFirst capture version taken (events ++ event ∷ [])
          → EndsFlat begins was is at.rig (flat.WriteFailed number)
      after taken events number bytes l event (Fault at_number fault) refuses says =
          lacks taken events events [] number bytes l (sym (append-nil events)) l.says refuses.2.plays
      after taken events number bytes l event (TooMuch at_number) refuses says =
          lacks taken events (events ++ event ∷ []) (event ∷ []) number bytes l refl says refuses.1

  all_endings : (e : Ended FlatRefusal) → Ends m by before left (held_at base now) e
      → EndsFlat begins was is at.rig (flat_ending e)
  all_endings ended.Done ends = done ends
  all_endings (ended.Stopped number stop) ends = stopped number stop ends
  all_endings (ended.Refused why) ends = refused why ends
  all_endings (ended.WriteFailed number) ends = failed number ends

  -- from a new reader
  pub translated : (p : Progress) (e : Ended FlatRefusal) → IsStart p
      → Ends (matter (capture_from p) version (flat_due start version) (FlatKnows start version)
      (λ events event. most_after) (flat_closing start version)) by before left (held_at base now) e
      → EndsFlat begins was is at.rig (flat_ending e)
  translated p e starts ends =
      let P : HowRead → Type 0 = λ read. Ends (matter read version (flat_due start version) (FlatKnows start version)
      (λ events event. most_after) (flat_closing start version)) by before left (held_at base now) e in
      all_endings e (subst P (reads_all p starts) ends)
