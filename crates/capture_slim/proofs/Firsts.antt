-- Which of the first events stay, given what has left the window.
use Rattle.std.proofs.Common.{◌≡◌, ◌≤◌, ◌+◌, ◌-◌, ◌++◌, ◌&&◌, ltb, ℕ, suc, List, [], ◌∷◌, Option, None, Some, Bool}
use Rattle.std.proofs.Common.{true, false, cond, take, length, length-append, refl, ap, sym, ◌∙◌, append_assoc}
use Rattle.std.proofs.Common.{append-nil, subst, arith, inl, inr}
use Rattle.std.proofs.Math.Seq.{take-append-add}
use Rattle.std.proofs.lemmas.Bool.{ltb-false}
use Rattle.dev_io.specs.Device.{appended, AppendsPart}
use Rattle.px_num.specs.declared.shape.Box2.{Box2}
use Rattle.gpu_capture.specs.Capture.{limit}
use Rattle.gpu_capture.specs.Written.{spelled_end, HoldsWords}
use Rattle.gpu_capture.specs.declared.event.Event.{Event}
use Rattle.gpu_capture.specs.declared.event.Stop.{Stop}
use Rattle.gpu_capture.proofs.Spelled.{wrote_on}
use Rattle.gpu_capture.specs.declared.event.Event.TheVariants as event
use Rattle.event_play.specs.Ports.{IsAtPorts}
use Rattle.dead_drawing.specs.Dead.{is_droppable}
use Rattle.dead_drawing.specs.Laws.{height_for}
use Rattle.dead_drawing.proofs.PacketLaw.{ports_append}
use Rattle.capture_slim.specs.Came.{Came, ClosesFile, EndsPushed, EndsRefused, EndsStop, FailsAny, FailsLast, HoldWords}
use Rattle.capture_slim.specs.Came.{StopsAs, and_event, window_for}
use Rattle.gpu_capture.specs.Draft.{head_at}
use Rattle.capture_slim.specs.File.{begun, head_due, IsDraft, IsFile, IsTooMuch, Fails, FailsIn, FailsNext}
use Rattle.capture_slim.specs.File.{FailsRest, Output, output_of}
use Rattle.capture_slim.specs.Passing.{FailsAt, Passed, WritesAll, output_to, slim_file, slim_of}
use Rattle.capture_slim.specs.Places.{kept_of, places}
use Rattle.capture_slim.specs.Stream.{outs, window_after, leaving, leaving_from, staying, staying_from}
use Rattle.capture_slim.specs.Window.{Window, kept, kept_words, taken_up, with_event, with_word, added, effect_applied}
use Rattle.capture_slim.specs.Window.{pushed}
use Rattle.capture_slim.specs.Window.{all_left, left_of, waiting}
use Rattle.capture_slim.specs.declared.ending.SlimEnding.{SlimEnding}
use Rattle.capture_slim.specs.declared.ending.SlimEnding.TheVariants.{Done, Stopped, NotFlat, TooLong, WriteFailed}
use Rattle.gpu_capture.specs.declared.draft.Draft.{Draft}
use Rattle.gpu_capture.specs.declared.draft.CaptureFile.{CaptureFile}
use Rattle.capture_slim.specs.declared.queue.Queue.{Queue}
use Rattle.capture_slim.specs.declared.slot.Slot.{Slot}
use Rattle.capture_slim.proofs.Files.{head_same, begun_end, written_most}
use Rattle.capture_slim.proofs.Rests.{fails_wider, kept_append, left_long}
use Rattle.capture_slim.proofs.StreamLaw.{stream_law, leaves_law, places_law}
use Rattle.capture_slim.proofs.WindowLemmas.{kept_long, packet_slots_long, settled_long}

abbrev Outs : Type 0
Outs = List (Option Event)

-- ---- one more event

pub outs_more : (events : List Event) (e : Event) (w : Window) → outs (events ++ e ∷ []) w
    ≡ outs events w ++ leaving (pushed (window_after events w) e)
outs_more [] e w = append-nil (leaving (pushed w e))
outs_more (x ∷ events) e w =
    ap (λ (os : Outs). leaving (pushed w x) ++ os) (outs_more events e (staying (pushed w x)))
    ∙ sym (append_assoc (leaving (pushed w x)) (outs events (staying (pushed w x)))
    (leaving (pushed (window_after events (staying (pushed w x))) e)))

pub after_more : (events : List Event) (e : Event) (w : Window) → window_after (events ++ e ∷ []) w
    ≡ staying (pushed (window_after events w) e)
after_more [] e w = refl
after_more (x ∷ events) e w = after_more events e (staying (pushed w x))

-- ---- how many events wait, and how many have left

abbrev pub size : Window → ℕ
size w = length w.slots + length w.words

abbrev queue_size : Queue → ℕ
queue_size q = length q.slots + length q.words

words_size : (slots more : List Slot) (words : List ℕ) (part : Bool) → length more ≡ length words
    → queue_size (cond part (record { slots = slots; words = words })
    (record { slots = slots ++ more; words = [] })) ≡ length slots + length words
words_size slots more words true same = refl
words_size slots more words false same = omega (arith, same, length-append slots more)

event_size : (slots : List Slot) (words : List ℕ) (e : Event) → queue_size (with_event slots words e)
    ≡ suc (length slots + length words)
event_size slots words e = omega (
  arith,
  length-append slots (kept_words words ++ kept e ∷ []),
  length-append (kept_words words)
      (kept e ∷ []),
  kept_long words,
)

word_size : (words : List ℕ) (slots : List Slot) (word : ℕ) (idle : Bool) (area : Option Box2)
    → queue_size (with_word slots words word idle area) ≡ suc (length slots + length words)
word_size (v ∷ vs) slots word idle area =
    words_size slots _ ((v ∷ vs) ++ word ∷ []) _ (packet_slots_long ((v ∷ vs) ++ word ∷ []) area)
    ∙ (omega (arith, length-append (v ∷ vs) (word ∷ [])))
word_size [] slots word idle area = by_test (idle && is_droppable word)
  where
    by_test : (b : Bool)
        → queue_size (cond b (taken_up slots (word ∷ []) area) (with_event slots [] (event.Gp0 word)))
        ≡ suc (length slots + length {A = ℕ} [])
    by_test true = words_size slots _ (word ∷ []) _ (packet_slots_long (word ∷ []) area) ∙ omega arith
    by_test false = event_size slots [] (event.Gp0 word)

added_size : (q : Queue) (e : Event) (idle : Bool) (area : Option Box2) → queue_size (added q e idle area)
    ≡ suc (queue_size q)
added_size q (event.Gp0 word) idle area = word_size q.words q.slots word idle area
added_size q other idle area = event_size q.slots q.words other

pub pushed_size : (w : Window) (e : Event) → size (pushed w e) ≡ suc (size w)
unfolding pushed
pushed_size w e = added_size (effect_applied w e) e _ _ ∙ ap (λ n. suc (n + length w.words))
    (settled_long w.slots (length w.words) w.control e)

pub leaves_size : (slots : List Slot) (words : List ℕ)
    → length (leaving_from slots words) + (length (staying_from slots words) + length words)
    ≡ length slots + length words
leaves_size [] words = omega arith
leaves_size (s ∷ slots) words = by_test (ltb (length slots + length words) 4096)
  where
    by_test : (b : Bool) → length (cond b [] (left_of s.event s.mark ∷ [])) +
        (length (cond b (s ∷ slots) slots) + length words) ≡ length (s ∷ slots) + length words
    by_test true = omega arith
    by_test false = omega arith

pub counts : (events : List Event) (w : Window) → length (outs events w) + size (window_after events w)
    ≡ size w + length events
counts [] w = omega arith
counts (e ∷ events) w =
    let p = pushed w e in
    omega (
      arith,
      counts events (staying p),
      length-append (leaving p)
          (outs events (staying p)),
      leaves_size p.slots p.words,
      pushed_size w e,
    )

pub waiting_size : (w : Window) → length (waiting w) ≡ size w
waiting_size w = omega (arith, length-append w.slots (kept_words w.words), kept_long w.words)

-- ---- an event of the list at its position

record Placed (all xs : Outs) (e : Event) : Type 0 where
  before : kept_of (take (length xs) all) ≡ kept_of xs
  after : kept_of (take (length xs + 1) all) ≡ kept_of xs ++ e ∷ []

placed : (all xs more : Outs) (e : Event) → all ≡ xs ++ Some e ∷ more → Placed all xs e
placed all xs more e are =
    let none : length xs + 0 ≡ length xs = omega arith in
    let first = take-append-add xs (Some e ∷ more) 0 in
    record {
      before = ap (λ os. kept_of (take (length xs) os)) are ∙ ap (λ n. kept_of (take n (xs ++ Some e ∷ more)))
          (sym none) ∙ ap kept_of first
          ∙ ap kept_of (append-nil xs);
      after = ap (λ os. kept_of (take (length xs + 1) os)) are ∙ ap kept_of (take-append-add xs (Some e ∷ more) 1)
          ∙ kept_append xs (Some e ∷ []);
    }

-- the record of an event at its position would make the file too long, or was not written
pub fails_at : (passed : Passed) (held : Option (List ℕ)) (outs : Outs) (number : ℕ) (ending : SlimEnding)
    → places (height_for passed.version) passed.events ≡ outs → FailsIn (output_to passed held) outs number ending
    → FailsAt passed held number ending
fails_at passed held outs number ending is fails =
    let all = places (height_for passed.version) passed.events in
    let xs = fails.earlier in
    let e = fails.event in
    let position = placed all xs fails.later e (is ∙ fails.are) in
    let Q : List Event → Type 0 = λ es. Fails (output_to passed held) es e number ending in
    record {
      earlier = length xs;
      number_is = fails.number_is;
      event = e;
      stays = ap (λ n. kept_of (take n all)) fails.number_is ∙ position.after
          ∙ ap (λ es. es ++ e ∷ []) (sym position.before);
      fails = subst Q (sym position.before) fails.fails;
    }

pub fails_among : (output : Output) (outs : Outs) (number : ℕ) (ending : SlimEnding)
    → FailsIn output outs number ending → number ≤ length outs
fails_among output outs number ending fails =
    omega (arith, fails.number_is, ap length fails.are, length-append fails.earlier (Some fails.event ∷ fails.later))

-- ---- the end

-- a file as one of this version
abbrev pub of_version : ℕ → CaptureFile → CaptureFile
of_version version file = record { version = version; size = file.size }

module _ (passed : Passed) (window : Window) (draft : Draft) (count : ℕ) (held : Option (List ℕ))
    (came : Came passed window draft count held) where
  abbrev pub gone : Outs
  gone = outs passed.events (window_for passed)

  abbrev slim : List Event
  slim = slim_of passed.version passed.events

  abbrev pub rest : Outs
  rest = all_left (waiting window)

  pub all_places : places (height_for passed.version) passed.events ≡ gone ++ rest
  all_places = stream_law (height_for passed.version) passed.events
      ∙ ap (λ (w : Window). gone ++ all_left (waiting w)) (sym came.window_is)

  slim_is : kept_of (gone ++ rest) ≡ slim
  slim_is = ap kept_of (sym all_places) ∙ places_law (height_for passed.version) passed.events

  pub counted : length gone + length (waiting window) ≡ count
  counted = omega
      (arith, waiting_size window, counts passed.events (window_for passed), ap size came.window_is, came.count_is)

  all_long : length (gone ++ rest) ≡ length passed.events
  all_long = omega (arith, length-append gone rest, left_long (waiting window), counted, came.count_is)

  pub events_count : count ≡ length gone + length (waiting window)
  events_count = omega (arith, counted)

  output_is : (now : Option (List ℕ)) → output_of draft passed.base now ≡ output_to passed now
  output_is now = ap (λ v. output_to (record passed { version = v }) now) came.version_is

  rest_long : (now : Option (List ℕ)) (at : ℕ) → length (waiting window) ≤ 4096
      → FailsRest (output_of draft passed.base now) gone rest (TooLong at) → FailsLast passed now at (TooLong at)
  rest_long now at most fails =
      let known = subst (λ (o : Output). FailsIn o (gone ++ rest) at (TooLong at)) (output_is now) fails.1 in
      let among = fails_among (output_to passed now) (gone ++ rest) at (TooLong at) known in
      record {
        last = record {
          some = omega (arith, among, all_long);
          late = omega (arith, fails.0, counted, came.count_is, most);
        };
        fails = fails_at passed now (gone ++ rest) at (TooLong at) all_places known;
      }

  rest_lacks : (now : Option (List ℕ)) (at : ℕ)
      → FailsRest (output_of draft passed.base now) gone rest (WriteFailed at)
      → FailsAny passed now at (WriteFailed at)
  rest_lacks now at fails =
      let known = subst (λ (o : Output). FailsIn o (gone ++ rest) at (WriteFailed at)) (output_is now) fails in
      let among = fails_among (output_to passed now) (gone ++ rest) at (WriteFailed at) known in
      record {
        some = omega (arith, among, all_long);
        fails = fails_at passed now (gone ++ rest) at (WriteFailed at) all_places known;
      }

  pub rest_refused : (now : Option (List ℕ)) (ending : SlimEnding) → length (waiting window) ≤ 4096
      → FailsRest (output_of draft passed.base now) gone rest ending → EndsRefused passed now ending
  rest_refused now (TooLong at) most fails = rest_long now at most fails
  rest_refused now (WriteFailed at) most fails = rest_lacks now at fails
  rest_refused now Done most fails = absurd fails
  rest_refused now (Stopped at stop) most fails = absurd fails
  rest_refused now (NotFlat at) most fails = absurd fails

  pub rest_stopped : (stop : Stop) (now : Option (List ℕ)) (ending : SlimEnding) → length (waiting window) ≤ 4096
      → FailsRest (output_of draft passed.base now) gone rest ending → EndsStop passed stop now ending
  rest_stopped stop now (TooLong at) most fails = rest_long now at most fails
  rest_stopped stop now (WriteFailed at) most fails = inl (rest_lacks now at fails)
  rest_stopped stop now Done most fails = absurd fails
  rest_stopped stop now (Stopped at told) most fails = absurd fails
  rest_stopped stop now (NotFlat at) most fails = absurd fails

  -- all was written, to a file of the same version
  module _ (file : CaptureFile) (mid : Option (List ℕ)) (same : file.version ≡ draft.file.version)
      (is : IsFile file passed.base mid (kept_of (gone ++ rest))) where
    version_is : file.version ≡ passed.version
    version_is = same ∙ came.version_is

    file_is : IsFile (of_version passed.version file) passed.base mid slim
    file_is =
        let P : List Event → Type 0 = λ es. IsFile file passed.base mid es in
        let Q : ℕ → Type 0 = λ v. IsFile (of_version v file) passed.base mid slim in
        subst Q version_is (subst P slim_is is)

    fits : length (slim_file passed.version passed.events) ≤ limit
    fits = written_most passed.version slim (omega (arith, file_is.fits, file_is.size_is))

    pub rest_all : WritesAll passed mid (count + 1)
    rest_all = record { number_is = ap (λ n. n + 1) came.count_is; stands = file_is.stands; fits = fits }

    head_is : head_at (of_version passed.version file) ≡ head_due passed.version slim
    head_is = head_same (of_version passed.version file) passed.base mid slim file_is

    closed_as : (stop : Stop) (now : Option (List ℕ)) (ending : SlimEnding) → StopsAs stop (count + 1) ending
        → ClosesFile (of_version passed.version file) mid now ending → EndsStop passed stop now ending
    closed_as stop now Done stops ends = (
      stops,
      wrote_on passed.base mid now (begun passed.version slim) _ file_is.stands ends
          ∙ ap (λ bytes. appended passed.base (begun passed.version slim ++ (bytes ++ spelled_end))) head_is
          ∙ ap (appended passed.base) (begun_end passed.version slim),
      fits,
    )
    closed_as stop now (Stopped at told) stops ends = (
      stops.1,
      stops.2,
      record { number_is = stops.0 ∙ rest_all.number_is; stands = ends ∙ file_is.stands; fits = fits },
    )
    closed_as stop now (WriteFailed at) stops ends =
        let P : Option (List ℕ) → Type 0 = λ m. AppendsPart m now (head_due passed.version slim ++ spelled_end) in
        let Q : List ℕ → Type 0 = λ bytes. AppendsPart mid now (bytes ++ spelled_end) in
        inr (
          stops.1,
          record {
            number_is = stops.0 ∙ rest_all.number_is;
            stands = subst P file_is.stands (subst Q head_is ends);
            fits = fits;
          },
        )
    closed_as stop now (TooLong at) stops ends = absurd stops
    closed_as stop now (NotFlat at) stops ends = absurd stops

    -- and it is closed
    pub closes : (stop : Stop) (now : Option (List ℕ)) (ending : SlimEnding) → StopsAs stop (count + 1) ending
        → ClosesFile file mid now ending → EndsStop passed stop now ending
    closes stop now ending stops ends =
        let P : ℕ → Type 0 = λ v. ClosesFile (of_version v file) mid now ending in
        closed_as stop now ending stops (subst P version_is ends)

  -- ---- a port event is read

  module _ (e : Event) (next : Window) (next_is : next ≡ staying (pushed window e)) (port : IsAtPorts e)
      (holds : HoldsWords e) where
    words_more : (es : List Event) → HoldWords es → HoldWords (es ++ e ∷ [])
    words_more [] hold = (holds, tt)
    words_more (x ∷ es) hold = (hold.0, words_more es hold.1)

    now_is : next ≡ window_after (passed.events ++ e ∷ []) (window_for passed)
    now_is = next_is ∙ ap (λ w. staying (pushed w e)) came.window_is
        ∙ sym (after_more passed.events e (window_for passed))

    outs_now : outs (passed.events ++ e ∷ []) (window_for passed) ≡ gone ++ leaving (pushed window e)
    outs_now = outs_more passed.events e (window_for passed)
        ∙ ap (λ w. gone ++ leaving (pushed w e)) (sym came.window_is)

    pub comes : (new : Draft) (now : Option (List ℕ)) → new.file.version ≡ draft.file.version
        → IsDraft new passed.base now (gone ++ leaving (pushed window e))
        → Came (and_event passed e) next new (count + 1) now
    comes new now same is =
        let P : Outs → Type 0 = λ os. IsDraft new passed.base now os in
        record {
          ports = ports_append passed.events (e ∷ []) came.ports (port, tt);
          words = words_more passed.events came.words;
          version_is = same ∙ came.version_is;
          window_is = now_is;
          count_is = omega (arith, came.count_is, length-append passed.events (e ∷ []));
          draft_is = subst P (sym outs_now) is;
        }

    one_leaves : (slots : List Slot) (words : List ℕ) (left : Event) → left ∷ [] ≡ kept_of (leaving_from slots words)
        → (leaving_from slots words ≡ Some left ∷ []) × (4096 ≤ length (staying_from slots words) + length words)
    one_leaves [] words left is = absurd cc
    one_leaves (s ∷ slots) words left is = by_test (ltb (length slots + length words) 4096) refl is
      where
        one_out : (out : Option Event) → left ∷ [] ≡ kept_of (out ∷ []) → out ∷ [] ≡ Some left ∷ []
        one_out None is = absurd cc
        one_out (Some x) is = let same : x ≡ left = cc in ap (λ y. Some y ∷ []) same

        by_test : (b : Bool) → ltb (length slots + length words) 4096 ≡ b
            → left ∷ [] ≡ kept_of (cond b [] (left_of s.event s.mark ∷ []))
            → (cond b [] (left_of s.event s.mark ∷ []) ≡ Some left ∷ [])
            × (4096 ≤ length (cond b (s ∷ slots) slots) + length words)
        by_test true e is = absurd cc
        by_test false e is = (one_out (left_of s.event s.mark) is, ltb-false _ _ e)

    -- one leaves the window and stays
    module _ (left : Event) (len : ℕ) (is : left ∷ [] ≡ kept_of (leaving (pushed window e))) (len_is : len ≡ size next)
        (most : len ≤ 4096) where
      leaves : (leaving (pushed window e) ≡ Some left ∷ []) × (4096 ≤ len)
      leaves =
          let p = pushed window e in
          let one = one_leaves p.slots p.words left is in
          (one.0, omega (arith, one.1, ap size next_is, len_is))

      pub leaves_one : leaving (pushed window e) ≡ Some left ∷ []
      leaves_one = leaves.0

      pub number_is : count + 1 - len ≡ length gone + 1
      number_is =
          let p = pushed window e in
          omega (
            arith,
            most,
            leaves.1,
            len_is,
            ap size next_is,
            counted,
            waiting_size window,
            pushed_size window e,
            ap length leaves.0,
            leaves_size p.slots p.words,
          )

      next_places : (later : Outs)
          × (places (height_for passed.version) (passed.events ++ e ∷ []) ≡ gone ++ Some left ∷ later)
      next_places =
          let height = height_for passed.version in
          let all = leaves_law height (passed.events ++ e ∷ []) [] in (
            all.0,
            ap (places height) (sym (append-nil (passed.events ++ e ∷ []))) ∙ all.1
                ∙ ap (λ os. os ++ all.0) (outs_now ∙ ap (λ os. gone ++ os) leaves.0)
                ∙ append_assoc gone (Some left ∷ []) all.0,
          )

      -- all events so far except those that wait: 4,096
      count_now : length gone + 1 + 4096 ≡ length (passed.events ++ e ∷ [])
      count_now = omega (arith, number_is, most, leaves.1, came.count_is, length-append passed.events (e ∷ []))

      -- its record would make the file too long, or an earlier one was not written
      pub now_fails : (now : Option (List ℕ)) (ending : SlimEnding)
          → FailsNext (output_of draft passed.base now) gone left ending
          → EndsPushed (and_event passed e) now ending
      now_fails now (TooLong n) fails =
          let known = subst (λ (o : Output). IsTooMuch o (kept_of gone) left) (output_is now) fails.1 in
          record {
            due = omega (arith, fails.0, count_now);
            fails = fails_at (and_event passed e) now (gone ++ Some left ∷ next_places.0) n (TooLong n) next_places.1
                (record {
                  earlier = gone;
                  event = left;
                  later = next_places.0;
                  are = refl;
                  number_is = fails.0;
                  fails = (refl, known);
                });
          }
      now_fails now (WriteFailed n) fails =
          let known = subst (λ (o : Output). FailsIn o gone n (WriteFailed n)) (output_is now) fails in
          record {
            due = omega (arith, fails_among (output_to passed now) gone n (WriteFailed n) known, count_now);
            fails = fails_at (and_event passed e) now (gone ++ Some left ∷ next_places.0) n (WriteFailed n)
                next_places.1
                (fails_wider (output_to passed now) gone (Some left ∷ next_places.0) n (WriteFailed n) known);
          }
      now_fails now Done fails = absurd fails
      now_fails now (Stopped n stop) fails = absurd fails
      now_fails now (NotFlat n) fails = absurd fails
