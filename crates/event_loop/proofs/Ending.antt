-- How a loop over events ends.
use Rattle.std.proofs.Common.{◌≡◌, ◌≤◌, inl, inr, ℕ, ◌+◌, ◌++◌, List, [], ◌∷◌, Option, Ok, Err, refl, ap, sym}
use Rattle.std.proofs.Common.{subst, ◌∙◌, length, length-append, arith}
use Rattle.dev_io.specs.Device.{appended, prepended}
use Rattle.gathered_out.specs.Pieces.{Piece, bytes_of}
use Rattle.gathered_out.specs.Puts.{BreaksWriting, Holding, holding}
use Rattle.gathered_out.proofs.Buffers.{BreaksDue, Buffers, buffers_more, buffers_none, buffers_off, buffers_written}
use Rattle.gathered_out.proofs.Pieces.{bytes_append}
use Rattle.gpu_capture.proofs.Versions.{version_from}
use Rattle.gpu_capture.specs.Capture.{then_events}
use Rattle.gpu_capture.specs.Reader.{capture_from}
use Rattle.gpu_capture.specs.Reading.{AreNeededToEnd, SaysFirst}
use Rattle.gpu_capture.specs.declared.event.Event.{Event}
use Rattle.gpu_capture.specs.declared.event.Stop.{Stop}
use Rattle.gpu_capture.specs.declared.event.Stop.TheVariants.{End, NotCapture, Truncated, BadRecord, TooLong, ReadFault}
use Rattle.gpu_capture.specs.declared.progress.Progress.{Progress}
use Rattle.event_loop.specs.Closing.{ClosesFrom, EndsAfter, EndsReading, WritesBefore, closed_as, closing_of}
use Rattle.event_loop.specs.Due.{pieces}
use Rattle.event_loop.specs.Ending.{ClosesAt, Ends, Held, IsLeft, Matter, SaysEnded, Taker, Way, held_at, way_of}
use Rattle.event_loop.specs.Halting.{Halts}
use Rattle.event_loop.specs.Pausing.{most_after}
use Rattle.event_loop.specs.Puts.{BreakPut}
use Rattle.event_loop.specs.declared.ended.Ended.{Ended}
use Rattle.event_loop.specs.declared.ended.Ended.TheVariants.{Refused, WriteFailed}
use Rattle.event_loop.specs.declared.ended.Halt.{Halt}
use Rattle.event_loop.specs.declared.ended.Halt.TheVariants.{Lacks, Refuses}
use Rattle.event_loop.proofs.Awaiting.{Awaits, GoesOn, Ports, Reaches, buffers_on_with}
use Rattle.event_loop.proofs.Due.{breaks_all, buffers_all}
use Rattle.event_loop.proofs.Lacking.{ClosesWith, MayLie, MayWait, WasDue, closes_here, due_here, due_lies}
use Rattle.event_loop.proofs.Lacking.{lacks_closing}
use Rattle.event_loop.proofs.Lacking.{lacks_piece}
use Rattle.gpu_capture.proofs.Needed.{needed_before, needed_to_end, then_both}

-- the number of bytes taken since the last flush
few_taken : (taken flushed after : List ℕ) → taken ≡ flushed ++ after → length after ≤ most_after
    → length taken ≤ length flushed + most_after
few_taken taken flushed after is few =
    let a = ap length is in
    let b = length-append flushed after in
    omega (arith, a, b, few)

no_event : (earlier later : List Event) (event : Event) → [] ≡ earlier ++ event ∷ later → ⊥
no_event [] later event are = cc
no_event (e ∷ earlier) later event are = cc

module _ {R : Type 0} (m : Matter) (taker : Taker R) where
  -- ---- a piece is incomplete

  pub lacks_at : (before left : Option (List ℕ)) (taken flushed after : List ℕ) (all : List Event)
      (base held : Option (List ℕ)) (number : ℕ) → before ≡ prepended taken left → taken ≡ flushed ++ after
      → length after ≤ most_after → BreaksDue (WasDue m MayLie all flushed taken) base held number
      → AreNeededToEnd m.read all taken → SaysFirst m.read m.version taken all → IsLeft m taker (way_of taken all)
      → Ends m taker before left (held_at base held) (WriteFailed number)
  lacks_at before left taken flushed after all base held number bytes is few breaks needed says stays = record {
    way = way_of taken all;
    bytes = bytes;
    needed = needed;
    says = inl (
      lacks_piece m (way_of taken all) flushed number (held_at base held) breaks says
          (few_taken taken flushed after is few),
      stays,
    );
  }

  lacks : (before now : Ports) (buffered : List Piece) (events all : List Event)
      (Says : (taken after : List ℕ) → Type 0) (at : Reaches m before now buffered events Says)
      (held : Option (List ℕ)) (number : ℕ)
      → BreaksDue (WasDue m MayLie all at.flushed at.taken) before.held held number
      → AreNeededToEnd m.read all at.taken → SaysFirst m.read m.version at.taken all
      → IsLeft m taker (way_of at.taken all)
      → Ends m taker before.left now.left (held_at before.held held) (WriteFailed number)
  lacks before now buffered events all Says at held number breaks needed says stays =
      lacks_at before.left now.left at.taken at.flushed at.after all before.held held number at.bytes at.taken_is
      at.few breaks needed says stays

  -- a write failed in the buffered output
  off_lies : (before now : Ports) (buffered : List Piece) (events : List Event)
      (Says : (taken after : List ℕ) → Type 0) (at : Reaches m before now buffered events Says)
      (held : Option (List ℕ)) (number : ℕ) → BreaksWriting now.held held buffered number
      → BreaksDue (WasDue m MayLie events at.flushed at.taken) before.held held number
  off_lies before now buffered events Says at held number breaks =
      let all = bytes_of (pieces m.due events) in
      buffers_off (WasDue m MayLie events at.flushed at.taken) before.held all now.held held buffered number
      (buffers_more (WasDue m MayWait events at.flushed at.taken) (WasDue m MayLie events at.flushed at.taken)
      before.held all now.held buffered (due_lies m events at.flushed at.taken) at.buffers) breaks

  pub pause_ends : (before now : Ports) (buffered : List Piece) (since : ℕ) (p : Progress) (events : List Event)
      (at : GoesOn m before now buffered since p events) (held : Option (List ℕ)) (number : ℕ)
      → BreaksWriting now.held held buffered number → taker.stands events
      → Ends m taker before.left now.left (held_at before.held held) (WriteFailed number)
  pause_ends before now buffered since p events at held number breaks stands =
      lacks before now buffered events events _ at held number
      (off_lies before now buffered events _ at held number breaks)
      (needed_to_end m.read events at.taken at.says.needed)
      (λ rest. (capture_from p rest, at.says.says rest, version_from p rest at.says.known ∙ at.says.same))
      (inl stands)

  -- ---- an event that is not passed

  module _ (before now : Ports) (buffered : List Piece) (since : ℕ) (p : Progress) (events : List Event)
      (event : Event) (at : Awaits m before now buffered since p (Ok event) events) where
    says_next : SaysFirst m.read m.version at.taken (events ++ event ∷ [])
    says_next rest = (capture_from p rest, at.says.says rest, version_from p rest at.says.known ∙ at.says.same)

    says_before : SaysFirst m.read m.version at.taken events
    says_before rest = (
      then_events (event ∷ []) (capture_from p rest),
      at.says.says rest ∙ sym (then_both events (event ∷ []) (capture_from p rest)),
      version_from p rest at.says.known ∙ at.says.same,
    )

    put_lacks : (held : Option (List ℕ)) (number : ℕ)
        → BreakPut (m.due events event) (holding now.held buffered) held number
        → taker.breaks (events ++ event ∷ []) → m.knows events event
        → Ends m taker before.left now.left (held_at before.held held) (WriteFailed number)
    put_lacks held number breaks left known =
        let due = WasDue m MayLie (events ++ event ∷ []) at.flushed at.taken in
        lacks before now buffered events (events ++ event ∷ []) _ at held number
        (breaks_all due before.held (m.due events event) (bytes_of (pieces m.due events)) (holding now.held buffered)
        held number
        (due_here m MayLie events event at.flushed at.after at.taken at.taken_is at.says.needed (inl refl) known)
        (buffers_on_with m before now buffered since p events event at MayLie
        (due_lies m (events ++ event ∷ []) at.flushed at.taken)) breaks)
        (needed_to_end m.read (events ++ event ∷ []) at.taken at.says.needed) says_next (inr (inl left))

    refused_ends : (why : R) (held : Option (List ℕ)) (ended : Ended R) → taker.refuses events event why
        → WritesBefore (Refused why) buffered now.held held ended
        → Ends m taker before.left now.left (held_at before.held held) ended
    refused_ends why held ended refuses (inl written) =
        let all = bytes_of (pieces m.due events) in
        rw written.0
        (record {
          way = way_of at.taken events;
          bytes = at.bytes;
          needed = needed_before m.read events event at.taken at.says.needed;
          says = inl (record {
            event = event;
            reads = record { says = says_next; needed = at.says.needed };
            refuses = refuses;
            stands = buffers_written (WasDue m MayWait events at.flushed at.taken) before.held all now.held held
                buffered at.buffers written.1;
          });
        })
    refused_ends why held ended refuses (inr (number, is, breaks)) =
        rw is
        (lacks before now buffered events events _ at held number
        (off_lies before now buffered events _ at held number breaks)
        (needed_before m.read events event at.taken at.says.needed) says_before
        (inr (inr (event, why, refuses, record { says = says_next; needed = at.says.needed }))))

    -- the ending at an event that was not passed
    pub event_ends : (halt : Halt R) (mid held : Option (List ℕ)) (left : List Piece) (ended : Ended R)
        → Halts (λ number. BreakPut (m.due events event) (holding now.held buffered) mid number
        × taker.breaks (events ++ event ∷ []) × m.knows events event)
        (λ why. taker.refuses events event why × (left ≡ buffered) × (mid ≡ now.held)) halt
        → EndsAfter halt left mid held ended
        → Ends m taker before.left now.left (held_at before.held held) ended
    event_ends (Lacks number) mid held left ended (breaks, broken, known) (is, same) =
        let P : Option (List ℕ) → Type 0 = λ h. Ends m taker before.left now.left (held_at before.held h) (WriteFailed
        number) in
        rw is (subst P (sym same) (put_lacks mid number breaks broken known))
    event_ends (Refuses why) mid held left ended (refuses, unput, same) ends =
        refused_ends why held ended refuses (rw (unput, same) at ends)

  -- ---- the reader stops

  closes_says : (stop : Stop) (number : ℕ) (way : Way) (held : Held) (left : Option (List ℕ))
      → number ≡ taker.number way.events → ClosesAt m way stop held left → taker.closes way.events stop
      → SaysEnded m taker way held left (closed_as number stop)
  closes_says End number way held left is closes shut = (closes, shut)
  closes_says (NotCapture byte) number way held left is closes shut = (is, tt, closes, shut)
  closes_says (Truncated byte) number way held left is closes shut = (is, tt, closes, shut)
  closes_says (BadRecord byte word) number way held left is closes shut = (is, tt, closes, shut)
  closes_says (TooLong byte) number way held left is closes shut = (is, tt, closes, shut)
  closes_says (ReadFault byte) number way held left is closes shut = (is, tt, closes, shut)

  module _ (before now : Ports) (buffered : List Piece) (since : ℕ) (p : Progress) (events : List Event)
      (stop : Stop) (at : Awaits m before now buffered since p (Err stop) events) (number : ℕ)
      (number_is : number ≡ taker.number events) where
    abbrev all : List ℕ
    all = bytes_of (pieces m.due events)

    abbrev way : Way
    way = way_of at.taken events

    -- a piece of the output of the stop
    abbrev Due : ℕ → List ℕ → List ℕ → Type 0
    Due = ClosesWith all (m.closing events stop)

    begun : (mid : Option (List ℕ)) → mid ≡ appended before.held all → Buffers Due before.held all mid []
    begun mid stood = buffers_none Due before.held all mid stood

    closing_lacks : taker.closes events stop → (held : Option (List ℕ)) (number : ℕ)
        → BreaksDue Due before.held held number
        → Ends m taker before.left now.left (held_at before.held held) (WriteFailed number)
    unfolding lacks_closing
    closing_lacks shut held number breaks = record {
      way = way;
      bytes = at.bytes;
      needed = at.says.stops.needed;
      says = inr (lacks_closing m way stop number (held_at before.held held) now.left breaks at.says.stops, shut);
    }

    closed : taker.closes events stop → (held : Option (List ℕ))
        → held ≡ appended before.held (bytes_of (pieces m.due events ++ m.closing events stop))
        → Ends m taker before.left now.left (held_at before.held held) (closed_as number stop)
    closed shut held stood = record {
      way = way;
      bytes = at.bytes;
      needed = at.says.stops.needed;
      says = closes_says stop number way (held_at before.held held) now.left number_is
          (record { stops = at.says.stops; stands = stood }) shut;
    }

    -- the output of the stop was written, or a write failed
    written_ends : taker.closes events stop → (put : Holding) (held : Option (List ℕ)) (ended : Ended R)
        → Buffers Due before.held (all ++ bytes_of (m.closing events stop)) put.held put.buffered
        → WritesBefore (closed_as number stop) put.buffered put.held held ended
        → Ends m taker before.left now.left (held_at before.held held) ended
    written_ends shut put held ended buffers (inl written) =
        rw written.0
        (closed shut held
        (buffers_written Due before.held (all ++ bytes_of (m.closing events stop)) put.held held put.buffered buffers
        written.1
        ∙ ap (appended before.held) (sym (bytes_append (pieces m.due events) (m.closing events stop)))))
    written_ends shut put held ended buffers (inr (lacking, is, breaks)) =
        rw is
        (closing_lacks shut held lacking
        (buffers_off Due before.held (all ++ bytes_of (m.closing events stop)) put.held held put.buffered lacking
        buffers breaks))

    from_ends : (mid held : Option (List ℕ)) (ended : Ended R) → mid ≡ appended before.held all
        → ClosesFrom (closing_of (m.closing events stop) (taker.refuses_stop events stop) (taker.stands events)
        (taker.closes events stop) number stop) mid held ended
        → Ends m taker before.left now.left (held_at before.held held) ended
    from_ends mid held ended stood (inl (lacking, is, breaks, shut)) =
        rw is
        (closing_lacks shut held lacking
        (breaks_all Due before.held (m.closing events stop) all (holding mid []) held lacking
        (closes_here all (m.closing events stop)) (begun mid stood) breaks))
    from_ends mid held ended stood (inr (inl (why, is, refuses, same))) =
        rw is
        (record {
          way = way;
          bytes = at.bytes;
          needed = at.says.stops.needed;
          says = inr (record {
            stop = stop;
            stops = at.says.stops;
            refuses = refuses;
            stands = same ∙ stood;
          });
        })
    from_ends mid held ended stood (inr (inr (put, puts, ends, shut))) =
        written_ends shut put held ended
        (buffers_all Due before.held (m.closing events stop) all (holding mid []) put
        (closes_here all (m.closing events stop)) (begun mid stood) puts) ends

    pub reading_ends : (held : Option (List ℕ)) (ended : Ended R)
        → EndsReading (closing_of (m.closing events stop) (taker.refuses_stop events stop) (taker.stands events)
        (taker.closes events stop) number stop) buffered
        now.held held ended
        → Ends m taker before.left now.left (held_at before.held held) ended
    reading_ends held ended (inl (lacking, is, breaks, stands)) =
        let off = off_lies before now buffered events _ at held lacking breaks in
        rw is (elim at.says.says [
          | inl none ↦
              let P : List Event → Type 0 = λ es. es ≡ off.is.earlier ++ off.is.event ∷ off.is.later in
              absurd (no_event off.is.earlier off.is.later off.is.event (subst P none off.is.are))
          | inr says ↦
              lacks before now buffered events events _ at held lacking off at.says.stops.needed says (inl stands)
        ])
    reading_ends held ended (inr (mid, written, ends)) =
        from_ends mid held ended
        (buffers_written (WasDue m MayWait events at.flushed at.taken) before.held all now.held mid buffered
        at.buffers written) ends
