-- Which events the buffered records belong to: late ones, so that few bytes are read before they are written.
use Rattle.std.proofs.Common.{◌≡◌, ◌≤◌, ◌<◌, ◌⊎◌, inl, inr, ◌+◌, ◌++◌, ℕ, List, [], ◌∷◌, Option, Bool, true, false}
use Rattle.std.proofs.Common.{cond, ltb, length, length-append, take, min, refl, ap, sym, ◌∙◌, subst, append_assoc}
use Rattle.std.proofs.Common.{append-nil, arith}
use Rattle.std.proofs.lemmas.Bool.{cases_lt, ltb-false}
use Rattle.std.proofs.lemmas.List.{take-append-le}
use Rattle.std.proofs.Math.Seq.{take-length}
use Rattle.gpu_capture.specs.Capture.{capture, limit, then_events}
use Rattle.gpu_capture.specs.Reader.{AreNeeded as ReaderNeeds, capture_from}
use Rattle.gpu_capture.specs.Reading.{AreFewAfter, AreNeeded}
use Rattle.gpu_capture.specs.declared.event.Event.{Event}
use Rattle.gpu_capture.specs.declared.event.Stop.{Stop}
use Rattle.gpu_capture.specs.declared.progress.Progress.{Progress}
use Rattle.gathered_out.specs.Pieces.{AreOut, BreaksOff, Piece}
use Rattle.event_loop.specs.Pausing.{most_after}
use Rattle.event_play.specs.Ports.{AreAtPorts}
use Rattle.event_play.proofs.After.{IsReading, few_after}
use Rattle.capture_slim.specs.Came.{StopsAs}
use Rattle.capture_slim.specs.File.{AreFrom, LacksFrom}
use Rattle.capture_slim.specs.Stream.{leaving_from, outs, staying, staying_from, window_after}
use Rattle.capture_slim.specs.Telling.{KeepsWindow}
use Rattle.capture_slim.specs.Window.{Window, first_window, left_of, pushed, waiting}
use Rattle.capture_slim.specs.declared.ending.SlimEnding.{SlimEnding}
use Rattle.capture_slim.specs.declared.ending.SlimEnding.TheVariants.{Done, Stopped, NotFlat, TooLong, WriteFailed}
use Rattle.capture_slim.specs.declared.slot.Slot.{Slot}
use Rattle.capture_slim.proofs.Firsts.{pushed_size, size, waiting_size}
use Rattle.capture_slim.proofs.PushLemmas.{pushed_keeps}

-- ---- output chunks of late events

pub from_append : (least : ℕ) (ps qs : List Piece) → AreFrom least ps → AreFrom least qs → AreFrom least (ps ++ qs)
from_append least [] qs first last = last
from_append least (p ∷ ps) qs first last = (first.0, from_append least ps qs first.1 last)

pub from_last : (least : ℕ) (ps qs : List Piece) → AreFrom least (ps ++ qs) → AreFrom least qs
from_last least [] qs all = all
from_last least (p ∷ ps) qs all = from_last least ps qs all.1

-- one more is added, and some are written
pub from_put : (least : ℕ) (held now : Option (List ℕ)) (pieces new : List Piece) (p : Piece) → AreFrom least pieces
    → least ≤ p.number → AreOut held (pieces ++ p ∷ []) now new → AreFrom least new
from_put least held now pieces new p first last out =
    let P : List Piece → Type 0 = λ ps. AreFrom least ps in
    from_last least out.written new (subst P out.are (from_append least pieces (p ∷ []) first (last, tt)))

-- the write failed in one of them
pub from_off : (least : ℕ) (pieces : List Piece) (held now : Option (List ℕ)) (number : ℕ) → AreFrom least pieces
    → BreaksOff pieces held now number → least ≤ number
from_off least pieces held now number all off =
    let P : List Piece → Type 0 = λ ps. AreFrom least ps in
    let last = from_last least off.whole (off.broken ∷ off.later) (subst P off.are all) in
    omega (arith, last.0, off.number_is)

-- the End record comes after all of them
pub stops_from : (least number : ℕ) (stop : Stop) (ending : SlimEnding) → StopsAs stop number ending → least ≤ number
    → LacksFrom least ending
stops_from least number stop (WriteFailed at) stops le = let same = stops.0 in omega (arith, same, le)
stops_from least number stop Done stops le = tt
stops_from least number stop (Stopped at told) stops le = tt
stops_from least number stop (TooLong at) stops le = tt
stops_from least number stop (NotFlat at) stops le = tt

-- ---- how many events wait

window_keeps : (events : List Event) (w : Window) → AreAtPorts events → KeepsWindow w
    → KeepsWindow (window_after events w)
window_keeps [] w ports keeps = keeps
window_keeps (e ∷ events) w ports keeps =
    window_keeps events (staying (pushed w e)) ports.1 (pushed_keeps w e keeps ports.0)

first_keeps : (height : ℕ) → KeepsWindow (first_window height)
first_keeps height = record { ports = tt; few = omega arith; begun = tt }

pub few_wait : (height : ℕ) (events : List Event) → AreAtPorts events
    → length (waiting (window_after events (first_window height))) ≤ 4096
few_wait height events ports =
    let w = window_after events (first_window height) in
    omega (arith, waiting_size w, (window_keeps events (first_window height) ports (first_keeps height)).few)

-- if one leaves, 4,096 wait
leaves_or_full : (slots : List Slot) (words : List ℕ) → (leaving_from slots words ≡ [])
    ⊎ (4096 ≤ length (staying_from slots words) + length words)
leaves_or_full [] words = inl refl
leaves_or_full (s ∷ slots) words = by_test (ltb (length slots + length words) 4096) refl
  where
    by_test : (b : Bool) → ltb (length slots + length words) 4096 ≡ b
        → (cond b [] (left_of s.event s.mark ∷ []) ≡ [])
        ⊎ (4096 ≤ length (cond b (s ∷ slots) slots) + length words)
    by_test true is = inl refl
    by_test false is = inr (ltb-false _ _ is)

full_stays : (slots : List Slot) (words : List ℕ) → 4097 ≤ length slots + length words
    → 4096 ≤ length (staying_from slots words) + length words
full_stays [] words full = omega (arith, full)
full_stays (s ∷ slots) words full = by_test (ltb (length slots + length words) 4096)
  where
    by_test : (b : Bool) → 4096 ≤ length (cond b (s ∷ slots) slots) + length words
    by_test true = omega (arith, full)
    by_test false = omega (arith, full)

full_on : (events : List Event) (w : Window) → 4096 ≤ size w → 4096 ≤ size (window_after events w)
full_on [] w full = full
full_on (e ∷ events) w full =
    let p = pushed w e in
    full_on events (staying p) (full_stays p.slots p.words (omega (arith, full, pushed_size w e)))

pub none_or_full : (events : List Event) (w : Window) → (outs events w ≡ []) ⊎ (4096 ≤ size (window_after events w))
none_or_full [] w = inl refl
none_or_full (e ∷ events) w =
    let p = pushed w e in
    elim (leaves_or_full p.slots p.words) [
      | inl none ↦ elim (none_or_full events (staying p)) [
        | inl later ↦ inl (ap (λ (os : List (Option Event)). os ++ outs events (staying p)) none ∙ later)
        | inr full ↦ inr full
      ]
      | inr full ↦ inr (full_on events (staying p) full)
    ]

-- ---- the bytes read since the last flush

-- the bytes that these events need: those read at the last flush, and some more
pub record Needs (events : List Event) (flushed taken : List ℕ) : Type 0 where
  pub between : List ℕ
  pub rest : List ℕ
  pub taken_is : taken ≡ (flushed ++ between) ++ rest
  pub needed : AreNeeded capture events (flushed ++ between)

-- The last flush was at this offset. Since then records of event `number` and later ones were added, each belonging to
-- an event that was read later.
pub record Since (events : List Event) (taken : List ℕ) (least since : ℕ) : Type 0 where
  pub flushed : List ℕ
  pub after : List ℕ
  pub taken_is : taken ≡ flushed ++ after
  pub since_is : length flushed ≡ min since limit
  pub came : ℕ
  pub late : came < least + 4096
  pub due : (m : ℕ) → came < m → m ≤ length events → Needs (take m events) flushed taken

pub since_first : (least : ℕ) → Since [] [] least 0
since_first least = record {
  flushed = [];
  after = [];
  taken_is = refl;
  since_is = omega arith;
  came = 0;
  late = omega arith;
  due = λ m some most. absurd (omega (arith, some, most));
}

-- the buffer is flushed here
pub since_here : (events : List Event) (taken : List ℕ) (least offset : ℕ) → length taken ≡ min offset limit
    → length events < least + 4096 → Since events taken least offset
since_here events taken least offset offset_is late = record {
  flushed = taken;
  after = [];
  taken_is = sym (append-nil taken);
  since_is = offset_is;
  came = length events;
  late = late;
  due = λ m some most. absurd (omega (arith, some, most));
}

-- one more event is read
module _ (events : List Event) (e : Event) (taken more : List ℕ) (least since : ℕ)
    (at : Since events taken least since) (needed : AreNeeded capture (events ++ e ∷ []) (taken ++ more)) where
  abbrev all : List Event
  all = events ++ e ∷ []

  all_taken : taken ++ more ≡ at.flushed ++ (at.after ++ more)
  all_taken = ap (λ bs. bs ++ more) at.taken_is ∙ append_assoc at.flushed at.after more

  due_before : (m : ℕ) → Needs (take m events) at.flushed taken → m ≤ length events
      → Needs (take m all) at.flushed (taken ++ more)
  due_before m needs most =
      let P : List Event → Type 0 = λ es. Needs es at.flushed (taken ++ more) in
      subst P (sym (take-append-le m events (e ∷ []) most)) (record {
        between = needs.between;
        rest = needs.rest ++ more;
        taken_is = ap (λ bs. bs ++ more) needs.taken_is
            ∙ append_assoc (at.flushed ++ needs.between) needs.rest more;
        needed = needs.needed;
      })

  due_now : (m : ℕ) → m ≡ length all → Needs (take m all) at.flushed (taken ++ more)
  due_now m is =
      let P : List Event → Type 0 = λ es. Needs es at.flushed (taken ++ more) in
      let Q : List ℕ → Type 0 = λ bs. AreNeeded capture all bs in
      subst P (sym (ap (λ (n : ℕ). take n all) is ∙ take-length all)) (record {
        between = at.after ++ more;
        rest = [];
        taken_is = all_taken ∙ sym (append-nil (at.flushed ++ (at.after ++ more)));
        needed = subst Q all_taken needed;
      })

  pub since_more : Since all (taken ++ more) least since
  since_more = record {
    flushed = at.flushed;
    after = at.after ++ more;
    taken_is = all_taken;
    since_is = at.since_is;
    came = at.came;
    late = at.late;
    due = λ m some most.
        elim (cases_lt (length events) m) [
          | inl last ↦ due_now m (omega (arith, last, most, length-append events (e ∷ [])))
          | inr before ↦ due_before m (at.due m some before) before
        ];
  }

-- few bytes are read after those that an event needs, including those of one more result
pub few_later : (p : Progress) (events : List Event) (taken more : List ℕ) (least since m : ℕ)
    → Since events taken least since → IsReading p taken events
    → ((rest : List ℕ) → capture (taken ++ rest) ≡ then_events events (capture_from p rest))
    → p.offset < since + 4096 → ReaderNeeds p more → least + 4096 ≤ m → m ≤ length events
    → AreFewAfter capture (take m events) (taken ++ more) most_after
few_later p events taken more least since m at reading says near needed from most =
    let needs = at.due m (omega (arith, at.late, from)) most in
    let few = few_after p events taken more at.flushed since reading says at.since_is near needed in
    record {
      needed = at.flushed ++ needs.between;
      later = needs.rest ++ more;
      are = ap (λ bs. bs ++ more) needs.taken_is ∙ append_assoc (at.flushed ++ needs.between) needs.rest more;
      are_needed = needs.needed;
      few = omega (
        arith,
        few,
        ap length needs.taken_is,
        length-append taken more,
        length-append (at.flushed ++ needs.between) needs.rest,
        length-append at.flushed needs.between,
        length-append needs.rest more,
      );
    }

-- the last event needs all
pub few_last : (events : List Event) (taken : List ℕ) (m : ℕ) → AreNeeded capture events taken → m ≡ length events
    → AreFewAfter capture (take m events) taken most_after
few_last events taken m needed is =
    let P : List Event → Type 0 = λ es. AreFewAfter capture es taken most_after in
    subst P (sym (ap (λ (n : ℕ). take n events) is ∙ take-length events)) (record {
      needed = taken;
      later = [];
      are = sym (append-nil taken);
      are_needed = needed;
      few = omega arith;
    })
