-- A file that is too long stays too long, whatever events follow.
use Rattle.std.proofs.Common.{◌≡◌, ◌≤◌, ◌++◌, ℕ, List, [], ◌∷◌, Option, take, drop, length, length-append, ap, sym, ◌∙◌}
use Rattle.std.proofs.Common.{append-nil, arith}
use Rattle.std.proofs.lemmas.List.{take-append-drop, take-append-le}
use Rattle.gpu_capture.specs.Capture.{head_of}
use Rattle.gpu_capture.specs.Written.{spelled_end, written}
use Rattle.gpu_capture.specs.declared.event.Event.{Event}
use Rattle.dead_drawing.specs.Laws.{height_for}
use Rattle.dead_drawing.specs.Slim.{slim_events}
use Rattle.gpu_capture.specs.Written.{spell}
use Rattle.gpu_capture.proofs.Spelled.{spell-append}
use Rattle.capture_slim.specs.Passing.{FailsAt, IsTooLong, Streams, Way, passed_on}
use Rattle.capture_slim.specs.Places.{kept_of, places, slim_first}
use Rattle.capture_slim.specs.Stream.{DueLaw, window_after, outs, staying}
use Rattle.capture_slim.specs.Window.{IsBegun, Window, first_window, pushed}
use Rattle.capture_slim.specs.declared.ending.SlimEnding.TheVariants.{TooLong}
use Rattle.capture_slim.proofs.Firsts.{counts, pushed_size, size}
use Rattle.capture_slim.proofs.PushLemmas.{few_stay, few_words}
use Rattle.capture_slim.proofs.Rests.{kept_append}
use Rattle.capture_slim.proofs.StreamLaw.{leaves_law, places_law}
use Rattle.capture_slim.proofs.WindowLaw.{pushed_begun}

-- ---- at most 4,096 events wait

few_after : (events : List Event) (w : Window) → IsBegun w.words w.control → size w ≤ 4096
    → size (window_after events w) ≤ 4096
few_after [] w begun few = few
few_after (e ∷ events) w begun few =
    let p = pushed w e in
    let next = pushed_begun w e begun in
    let most = few_words p.words p.control next in
    few_after events (staying p) next
    (few_stay p.slots p.words (omega (arith, few, pushed_size w e)) (omega (arith, most)))

-- ---- events that are 4,096 events old are final

pub due_law : DueLaw
due_law height number events more le =
    let w = first_window height in
    let gone = outs events w in
    let long : number ≤ length gone = omega (arith, le, counts events w, few_after events w tt (omega arith)) in
    let first : (later : List Event) → take number (places height (events ++ later)) ≡ take number gone =
    λ later.
    let all = leaves_law height events later in
    ap (take number) all.1 ∙ take-append-le number gone all.0 long in
    ap kept_of (first more ∙ sym (first []) ∙ ap (λ es. take number (places height es)) (append-nil events))

-- ---- the first of the events that stay

pub first_of_slim : (height number : ℕ) (events : List Event)
    → slim_events height events ≡ slim_first height number events ++ kept_of (drop number (places height events))
first_of_slim height number events =
    let all = places height events in
    sym (places_law height events) ∙ ap kept_of (sym (take-append-drop number all))
    ∙ kept_append (take number all) (drop number all)

-- more events make no shorter file
longer : (version : ℕ) (xs ys : List Event) → length (written version xs) ≤ length (written version (xs ++ ys))
longer version xs ys =
    let a = length-append (head_of version ++ spell xs) spelled_end in
    let b = length-append (head_of version ++ spell (xs ++ ys)) spelled_end in
    let c = length-append (head_of version) (spell xs) in
    let d = length-append (head_of version) (spell (xs ++ ys)) in
    let e = length-append (spell xs) (spell ys) in
    let f = ap length (spell-append xs ys) in
    omega (arith, a, b, c, d, e, f)

no_shorter : (version height number : ℕ) (events : List Event)
    → length (written version (slim_first height number events)) ≤ length (written version (slim_events height events))
no_shorter version height number events =
    let first = slim_first height number events in
    let rest = kept_of (drop number (places height events)) in
    let all = ap (λ es. length (written version es)) (first_of_slim height number events) in
    omega (arith, all, longer version first rest)

-- ---- a record that would make the file too long

pub is_too_long : (way : Way) (before : Streams) (held : Option (List ℕ)) (number at : ℕ)
    → FailsAt (passed_on way before) held number (TooLong at) → IsTooLong way number
is_too_long way before held number at fails =
    let version = way.version in
    let height = height_for version in
    let due = ap (λ es. length (written version es)) fails.stays in
    let long = fails.fails.1.long in
    record {
      long = omega (arith, due, long, no_shorter version height number way.events);
      stays = λ le more.
          let same = ap (λ es. length (written version es)) (due_law height number way.events more le) in
          omega (arith, due, long, same, no_shorter version height number (way.events ++ more));
    }
