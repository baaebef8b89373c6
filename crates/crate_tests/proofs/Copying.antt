-- Copies of records.
use Rattle.std.proofs.Common.{◌≡◌, ◌<◌, ◌+◌, ◌++◌, ◌∷◌, [], ℕ, List, Option, inl, inr, arith}
use Rattle.std.proofs.Common.{refl, ap, sym, subst, ◌∙◌, append-nil, length-append}
use Rattle.dev_io.specs.Device.{appended}
use Rattle.gathered_out.specs.Pieces.{Piece, bytes_of, piece}
use Rattle.gathered_out.proofs.Pieces.{bytes_append}
use Rattle.gpu_capture.specs.Capture.{capture}
use Rattle.gpu_capture.specs.Reader.{IsStart, capture_from}
use Rattle.gpu_capture.specs.Reading.{Reading}
use Rattle.gpu_capture.specs.Written.{spell, spelled, spelled_end}
use Rattle.gpu_capture.specs.declared.event.Event.{Event}
use Rattle.gpu_capture.specs.declared.event.Stop.{Stop}
use Rattle.gpu_capture.specs.declared.event.Stop.TheVariants.{End}
use Rattle.gpu_capture.specs.declared.progress.Progress.{Progress}
use Rattle.event_loop.specs.Due.{pieces, pieces_after}
use Rattle.event_loop.specs.Ending.{Ends, Way as LoopWay, held_at, matter, taker}
use Rattle.event_loop.specs.Pausing.{most_after}
use Rattle.event_loop.specs.declared.ended.Ended.{Ended}
use Rattle.event_loop.specs.declared.ended.Ended.TheVariants.{Done, Stopped, Refused, WriteFailed}
use Rattle.event_loop.proofs.Commands.{only, reads_all}
use Rattle.crate_tests.specs.Copies.{EndsCopy, IsCounted, SaysEnding, Way, copy_closing, copy_due, next_number}

-- one more event
pub counts_on : (limit : ℕ) (events : List Event) (event : Event) (count : ℕ) → IsCounted limit events count
    → count < limit → IsCounted limit (events ++ event ∷ []) (count + 1)
counts_on limit events event count counted below = record {
  count_is = omega (arith, length-append events (event ∷ []), counted.count_is);
  fits = omega (arith, below);
}

-- ---- the bytes of the output

bytes_after : (before events : List Event) → bytes_of (pieces_after copy_due before events) ≡ spell events
bytes_after before [] = refl
bytes_after before (e ∷ events) = ap (λ bs. spelled e ++ bs) (bytes_after (before ++ e ∷ []) events)

bytes_are : (events : List Event) → bytes_of (pieces copy_due events) ≡ spell events
bytes_are events = bytes_after [] events

closed : (events : List Event) (stop : Stop)
    → bytes_of (pieces copy_due events ++ copy_closing events stop) ≡ spell events ++ spelled_end
closed events stop = bytes_append (pieces copy_due events) (copy_closing events stop)
    ∙ ap (λ bs. bs ++ (spelled_end ++ [])) (bytes_are events) ∙ ap (λ bs. spell events ++ bs) (append-nil spelled_end)

-- ---- the ending

module _ (version limit own count : ℕ) (before left base now : Option (List ℕ)) where
  -- how the loop over this passage ends
  abbrev pub EndsLoop : Reading → Ended ℕ → Type 0
  EndsLoop read ended = Ends
      (matter read version copy_due (λ events event. Unit {0}) (λ events event. most_after) copy_closing)
      (taker (λ events. (own ≡ limit) × IsCounted limit events count) (λ events stop. IsCounted limit events count)
      (λ events event why. IsCounted limit events count × (count ≡ limit) × (why ≡ next_number events))
      (λ events stop why. ⊥) (λ events. IsCounted limit events count) next_number)
      before left (held_at base now) ended

  abbrev way_of : LoopWay → Way
  way_of way = record { version = version; taken = way.taken; events = way.events }

  counted : (ended : Ended ℕ) → (ends : EndsLoop capture ended) → IsCounted limit ends.way.events count
  counted Done ends = ends.says.1
  counted (Stopped number stop) ends = ends.says.3
  counted (Refused why) ends = elim ends.says [
    | inl event ↦ event.refuses.0
    | inr stop ↦ absurd stop.refuses
  ]
  counted (WriteFailed number) ends = elim ends.says [
    | inl lacks ↦ elim lacks.1 [
      | inl stands ↦ stands.1
      | inr left ↦ elim left [
        | inl breaks ↦ breaks
        | inr over ↦ over.2.0
      ]
    ]
    | inr lacks ↦ lacks.1
  ]

  says : (ended : Ended ℕ) → (ends : EndsLoop capture ended)
      → SaysEnding (way_of ends.way) left limit (held_at base now) ended
  says Done ends =
      let closes = ends.says.0 in
      (closes.stops.says, closes.stands ∙ ap (appended base) (closed ends.way.events End))
  says (Stopped number stop) ends =
      let closes = ends.says.2 in (
        ends.says.0,
        ends.says.1,
        closes.stops.says,
        closes.stands ∙ ap (appended base) (closed ends.way.events stop),
      )
  says (Refused why) ends = elim ends.says [
    | inl over ↦ record {
      event = over.event;
      says = over.reads.says;
      full = sym over.refuses.0.count_is ∙ over.refuses.1;
      number_is = over.refuses.2;
      written = over.stands ∙ ap (appended base) (bytes_are ends.way.events);
    }
    | inr stop ↦ absurd stop.refuses
  ]
  says (WriteFailed number) ends = elim ends.says [
    | inl lacks ↦
        let l = lacks.0 in
        let o = only (piece (next_number l.earlier) (spelled l.event)) l.lacking l.front l.back l.pieces_are in
        inl (record {
          earlier = l.earlier;
          event = l.event;
          later = l.later;
          are = l.are;
          number_is = l.number_is ∙ ap (λ (p : Piece). p.number) o.1;
          says = l.says;
          few = l.few;
          part = rw (o.0, o.1, append-nil (pieces copy_due l.earlier), bytes_are l.earlier) at l.stands;
        })
    | inr lacks ↦
        let l = lacks.0 in
        let o = only (piece (next_number ends.way.events) spelled_end) l.lacking l.front l.back l.pieces_are in
        inr (record {
          stop = l.stop;
          stops = l.stops.says;
          number_is = l.number_is ∙ ap (λ (p : Piece). p.number) o.1;
          part = rw (o.0, o.1, append-nil (pieces copy_due ends.way.events), bytes_are ends.way.events) at l.stands;
        })
  ]

  -- what the loop says of its ending, in the words of the copy
  pub copies : (p : Progress) (ended : Ended ℕ) → IsStart p → EndsLoop (capture_from p) ended
      → EndsCopy before left limit count (held_at base now) ended
  copies p ended start ends =
      let P : Reading → Type 0 = λ read. EndsLoop read ended in
      let all = subst P (reads_all p start) ends in
      record {
        way = way_of all.way;
        bytes = all.bytes;
        needed = all.needed;
        counted = counted ended all;
        says = says ended all;
      }
