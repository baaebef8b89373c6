-- The result of playing, if the source states its bytes.
use Rattle.std.proofs.Common.{◌≡◌, ◌≤◌, ◌+◌, ◌⊎◌, inl, inr, ℕ, ◌++◌, Bool, true, List, [], Some, refl, ap, sym, subst}
use Rattle.std.proofs.Common.{◌∙◌, append-nil, arith}
use Rattle.dev_io.specs.Device.{appended}
use Rattle.gpu_capture.specs.declared.event.Stop.TheVariants.{Truncated, BadRecord, ReadFault}
use Rattle.gpu_taps.specs.Tally.{Reading}
use Rattle.event_play.specs.Causes.{MayReadFault, MayWriteFault}
use Rattle.event_play.specs.Out.{lines_of, unless_lacking, ending_under, finals_at, out_bytes, out_cost, out_box_cost}
use Rattle.event_play.specs.Playing.{stops, whole}
use Rattle.event_play.specs.Replay.{Replay, Played, played_script, next_number}
use Rattle.event_play.specs.Told.{told_notes}
use Rattle.event_play.specs.declared.ending.Ending.{Ending}
use Rattle.event_play.specs.declared.ending.Ending.TheVariants.{Done, Stopped, Faulted, NoPicture, WriteFailed}
use Rattle.event_play.specs.declared.ending.Mode.{Mode}
use Rattle.gpu_snapshot.specs.Opened.{Opened, BadWord, opened}
use Rattle.gpu_snapshot.specs.Opening.{opening_cost}
use Rattle.gpu_snapshot.specs.PlayAny.{script_file, FindsBadWord, HasNoBadWord, PlaysAny, any_ending, script_opened}
use Rattle.gpu_snapshot.specs.PlayAny.{AnyMayReadFault, AnyMayWriteFault, EndsAny}
use Rattle.gpu_snapshot.specs.declared.ending.AnyEnding.{AnyEnding}
use Rattle.gpu_snapshot.proofs.Played.{finds_needed}
use Rattle.gpu_snapshot.specs.declared.ending.AnyEnding.TheVariants as any
use Rattle.dev_io.proofs.Appended.{appended-nil}
use Rattle.event_play.proofs.Grows.{lines-none}
use Rattle.psxgpu_tool.specs.First.{file_ending, first, play_file, seen}
use Rattle.psxgpu_tool.specs.Line.{status_of, ending_line, ending_text, any_status, any_text}
use Rattle.psxgpu_tool.specs.Outside.{Outside, Says, HasFailed, HasFailedToRead}
use Rattle.psxgpu_tool.specs.PlayRun.{WholeRun, RefusedRun, StarvedRun, BlockedRun, PlayRun}
use Rattle.psxgpu_tool.specs.Run.{CommandRun}
use Rattle.command_line.specs.declared.command.Command.TheVariants.{Plays}
use Rattle.psxgpu_tool.proofs.Causes.{HasCause, is_done, is_refused, is_read, is_write, answers, IsCut, cut}
use Rattle.psxgpu_tool.proofs.Causes.{none_left, all_read, if_told}

-- ---- endings

pub ending_cause : (ending : Ending) → HasCause (status_of ending) (ending ≡ Done)
    ((n : ℕ) × (byte : ℕ) × (ending ≡ Stopped n (ReadFault byte))) ((n : ℕ) × (ending ≡ WriteFailed n))
ending_cause Done = is_done refl
ending_cause (Stopped n (ReadFault byte)) = is_read (n, byte, refl)
ending_cause (WriteFailed n) = is_write (n, refl)
ending_cause other = is_refused

abbrev IsNotDone : Ending → Type 0
IsNotDone Done = ⊥
IsNotDone ending = Unit {0}

stays : (lacks : Bool) (number : ℕ) (ending : Ending) → IsNotDone ending → unless_lacking lacks number ending ≡ ending
stays true number Done other = absurd other
stays lacks number ending other = refl

-- a replay that is not complete has the same ending in every mode
stays_under : (mode : Mode) (r : Played) (ending : Ending) → r.ending ≡ ending → IsNotDone ending
    → ending_under mode r ≡ ending
stays_under mode r ending is other = ap (unless_lacking _ _) is ∙ stays _ _ ending other

-- these bytes are played to this state and this ending, and no word in them is invalid
record PlaysTo (mode : Mode) (t : Replay) (ending : Ending) (xs : List ℕ) : Type 0 where
  ends : ending_under mode (play_file xs) ≡ ending
  replay : (play_file xs).replay ≡ t
  good : HasNoBadWord (opened xs)

plays_to : (mode : Mode) (ending : Ending) (xs : List ℕ) (r : Played) → play_file xs ≡ r → ending_under mode r ≡ ending
    → HasNoBadWord (opened xs) → PlaysTo mode r.replay ending xs
plays_to mode ending xs r is under good =
    record { ends = ap (ending_under mode) is ∙ under; replay = ap (λ (r : Played). r.replay) is; good = good }

-- a file without an invalid word ends as it is played
good_any : (found : Opened) (ending : Ending) → HasNoBadWord found → any_ending found ending ≡ any.Played ending
good_any (BadWord offset word) ending good = absurd good
good_any found ending good = refl

as_file : (mode : Mode) (t : Replay) (ending : Ending) (xs : List ℕ) → PlaysTo mode t ending xs
    → file_ending mode xs ≡ any.Played ending
as_file mode t ending xs plays =
    good_any (opened xs) (ending_under mode (play_file xs)) plays.good ∙ ap any.Played plays.ends

-- the output of a replay, given its state and its ending
abbrev out_at : Mode → List Reading → Replay → Ending → List ℕ
out_at mode heard t ending =
    lines_of mode t ++ finals_at ending mode (told_notes t.notes heard) (next_number t.played) t.state.gpu

out_is : (mode : Mode) (heard : List Reading) (r : Played) (t : Replay) (ending : Ending) → r.replay ≡ t
    → ending_under mode r ≡ ending → out_bytes mode heard r ≡ out_at mode heard t ending
out_is mode heard r t ending replay is =
    ap (λ (e : Ending). out_at mode heard r.replay e) is ∙ ap (λ (t : Replay). out_at mode heard t ending) replay

-- ---- playing from a new machine

-- it ended as the file does, and the whole output was written
record EndsFile (mode : Mode) (heard : List Reading) (bytes taken rest : List ℕ) (before now : Outside)
    (t : Replay) (ending : Ending) : Type 0 where
  plays : PlaysTo mode t ending bytes
  decides : ((more : List ℕ) → PlaysTo mode t ending (taken ++ more)) ⊎ (rest ≡ [])
  held : now.out.held ≡ appended before.out.held (out_bytes mode heard (play_file bytes))

module _ (mode : Mode) (heard heard_now : List Reading) (before now : Outside) where
  abbrev Ends : Ending → Type 0
  Ends ending = PlaysAny mode first (seen heard before) (seen heard_now now) ending

  -- the output, if there is none after the events
  lines_only : (t : Replay) → now.out.held ≡ appended before.out.held (lines_of mode t)
      → now.out.held ≡ appended before.out.held (lines_of mode t ++ [])
  lines_only t held = held ∙ ap (appended before.out.held) (sym (append-nil (lines_of mode t)))

  module _ (bytes : List ℕ) (told : before.source.left ≡ Some bytes) where
    part_of : (ending : Ending) (ends : Ends ending) → IsCut bytes ends.plays.taken now.source.left
    part_of ending ends = cut bytes ends.plays.taken now.source.left (sym told ∙ ends.plays.bytes)

    abbrev FileEnds : (ending : Ending) → Ends ending → Type 0
    FileEnds ending ends =
        EndsFile mode heard bytes ends.plays.taken (part_of ending ends).rest before now ends.plays.replay ending

    file_by : (ending : Ending) (ends : Ends ending) → PlaysTo mode ends.plays.replay ending bytes
        → ((more : List ℕ) → PlaysTo mode ends.plays.replay ending (ends.plays.taken ++ more))
        ⊎ ((part_of ending ends).rest ≡ [])
        → now.out.held ≡ appended before.out.held (out_at mode heard ends.plays.replay ending) → FileEnds ending ends
    file_by ending ends plays decides held = record {
      plays = plays;
      decides = decides;
      held = held ∙ ap (appended before.out.held)
          (sym (out_is mode heard (play_file bytes) ends.plays.replay ending plays.replay plays.ends));
    }

    -- the bytes read decide it
    decided : (ending : Ending) (ends : Ends ending)
        → ((more : List ℕ) → PlaysTo mode ends.plays.replay ending (ends.plays.taken ++ more))
        → now.out.held ≡ appended before.out.held (out_at mode heard ends.plays.replay ending) → FileEnds ending ends
    decided ending ends all held =
        let part = part_of ending ends in
        file_by ending ends (subst (PlaysTo mode ends.plays.replay ending) (sym part.all) (all part.rest))
        (inl all) held

    file_ends : (ending : Ending) (ends : Ends ending) → (status_of ending ≡ 3 → ⊥) → (status_of ending ≡ 4 → ⊥)
        → FileEnds ending ends
    file_ends Done ends read write =
        let plays = ends.plays in
        decided Done ends (λ more. plays_to mode Done (plays.taken ++ more) (whole plays.replay more)
        (plays.says.0 more) plays.says.1 (ends.good more)) plays.says.2
    file_ends (NoPicture n) ends read write =
        let plays = ends.plays in
        decided (NoPicture n) ends (λ more. plays_to mode (NoPicture n) (plays.taken ++ more) (whole plays.replay more)
        (plays.says.0 more) plays.says.1 (ends.good more)) (lines_only plays.replay plays.says.2)
    file_ends (WriteFailed n) ends read write = absurd (write refl)
    file_ends (Faulted n fault) ends read write =
        let plays = ends.plays in
        decided (Faulted n fault) ends (λ more. record {
          ends = stays_under mode (play_file (plays.taken ++ more)) (Faulted n fault) (plays.says.0 more).1 tt;
          replay = (plays.says.0 more).0;
          good = ends.good more;
        }) (lines_only plays.replay plays.says.1)
    file_ends (Stopped n (ReadFault byte)) ends read write = absurd (read refl)
    file_ends (Stopped n (Truncated byte)) ends read write =
        let plays = ends.plays in
        let ending = Stopped n (Truncated byte) in
        let part = part_of ending ends in
        let short = stops plays.replay n (Truncated byte) [] in
        let is = plays_to mode ending plays.taken short plays.says.0
        (stays_under mode short ending refl tt) ends.good in
        file_by ending ends (subst (PlaysTo mode plays.replay ending)
        (sym (all_read bytes plays.taken now.source.left part plays.says.2)) is)
        (inr (none_left bytes plays.taken now.source.left part plays.says.2)) (lines_only plays.replay plays.says.1)
    file_ends (Stopped n stop) ends read write =
        let plays = ends.plays in
        decided (Stopped n stop) ends (λ more. plays_to mode (Stopped n stop) (plays.taken ++ more)
        (stops plays.replay n stop more) (plays.says.0 more)
        (stays_under mode (stops plays.replay n stop more) (Stopped n stop) refl tt) (ends.good more))
        (lines_only plays.replay plays.says.1)

    -- the rig and the taps are as after the replay
    last_of : (ending : Ending) (ends : Ends ending) → (status_of ending ≡ 4 → ⊥) → ends.plays.last ≡ ends.plays.replay
    last_of (WriteFailed n) ends write = absurd (write refl)
    last_of ending ends write = ends.plays.is_last

    -- ---- the statuses

    whole_by : Ends Done → WholeRun mode heard bytes before now
    whole_by ends =
        let part = part_of Done ends in
        let file = file_ends Done ends (λ three. omega (arith, three)) (λ four. omega (arith, four)) in
        let is = ap play_file part.all ∙ ends.plays.says.0 part.rest in
        record {
          ending = as_file mode ends.plays.replay Done bytes file.plays;
          left = part.left_is ∙ ap (λ (r : Played). Some r.rest) (sym is);
          held = file.held;
        }

    whole_run : (ending : Ending) → Ends ending → status_of ending ≡ 0 → WholeRun mode heard bytes before now
    whole_run ending ends zero = whole_by (subst Ends ((ending_cause ending).done zero) ends)

    refused_run : (ending : Ending) → Ends ending → status_of ending ≡ 2
        → Says before.err now.err (ending_text ending heard_now) → RefusedRun mode heard bytes before now
    refused_run ending ends two says =
        let write : status_of ending ≡ 4 → ⊥ = λ four. omega (arith, two, four) in
        let part = part_of ending ends in
        let file = file_ends ending ends (λ three. omega (arith, two, three)) write in
        let is = as_file mode ends.plays.replay ending bytes file.plays in
        let notes = ends.plays.heard
        ∙ ap (λ (t : Replay). told_notes t.notes heard) (last_of ending ends write ∙ sym file.plays.replay) in
        let text = ap (ending_text ending) notes
        ∙ ap (λ (e : AnyEnding). any_text e (told_notes (play_file bytes).replay.notes heard)) (sym is) in
        record {
          status = ap any_status is ∙ two;
          held = file.held;
          decided = record {
            taken = ends.plays.taken;
            rest = part.rest;
            all = part.all;
            left = part.left_is;
            needed = ends.plays.needed;
            decides = elim file.decides [
              | inl decides ↦ inl (λ more. as_file mode _ ending (ends.plays.taken ++ more) (decides more) ∙ sym is)
              | inr none ↦ inr none
            ];
          };
          says = subst (Says before.err now.err) text says;
        }

    starved_by : (n byte : ℕ) → Ends (Stopped n (ReadFault byte))
        → Says before.err now.err (ending_line (Stopped n (ReadFault byte))) → StarvedRun mode heard bytes before now
    starved_by n byte ends says =
        let plays = ends.plays in
        let ending = Stopped n (Truncated byte) in
        let part = part_of (Stopped n (ReadFault byte)) ends in
        let short = stops plays.replay n (Truncated byte) [] in
        let is = plays_to mode ending plays.taken short plays.says.0
        (stays_under mode short ending refl tt) ends.good in
        record {
          taken = plays.taken;
          rest = part.rest;
          all = part.all;
          left = part.left_is;
          event = n;
          byte = byte;
          ending = as_file mode plays.replay ending plays.taken is;
          held = lines_only plays.replay plays.says.1 ∙ ap (appended before.out.held)
              (sym (out_is mode heard (play_file plays.taken) plays.replay ending is.replay is.ends));
          says = says;
        }

    starved_run : (ending : Ending) → Ends ending → status_of ending ≡ 3
        → Says before.err now.err (ending_text ending heard_now) → StarvedRun mode heard bytes before now
    starved_run ending ends three says =
        let (n, byte, is) = (ending_cause ending).read three in
        let text = subst (λ (e : Ending). Says before.err now.err (ending_text e heard_now)) is says in
        starved_by n byte (subst Ends is ends) (rw append-nil at text)

    blocked_by : (n : ℕ) → Ends (WriteFailed n) → Says before.err now.err (ending_line (WriteFailed n))
        → BlockedRun mode heard bytes before now
    blocked_by n ends says =
        let part = part_of (WriteFailed n) ends in
        let lacks = ends.plays.says in
        record {
          taken = ends.plays.taken;
          rest = part.rest;
          all = part.all;
          left = part.left_is;
          event = n;
          replay = ends.plays.replay;
          last = ends.plays.last;
          lacks = record {
            number_is = lacks.number_is;
            start = lacks.start;
            origin = lacks.origin;
            due = lacks.due;
            held = lacks.held;
            prefix = lacks.prefix;
          };
          says = says;
        }

    blocked_run : (ending : Ending) → Ends ending → status_of ending ≡ 4
        → Says before.err now.err (ending_text ending heard_now) → BlockedRun mode heard bytes before now
    blocked_run ending ends four says =
        let (n, is) = (ending_cause ending).write four in
        let text = subst (λ (e : Ending). Says before.err now.err (ending_text e heard_now)) is says in
        blocked_by n (subst Ends is ends) (rw append-nil at text)

    complete_run : (ending : Ending) → Ends ending → (status_of ending ≡ 3 → ⊥) → (status_of ending ≡ 4 → ⊥)
        → status_of ending ≡ any_status (file_ending mode bytes)
    complete_run ending ends read write =
        sym (ap any_status (as_file mode _ ending bytes (file_ends ending ends read write).plays))

    -- the steps, by either count
    cost_run : (ending : Ending) (ends : Ends ending) (cost : Played → ℕ)
        → ((rest : List ℕ) → now.steps ≤ before.steps + ends.opening + cost (play_file (ends.plays.taken ++ rest)))
        → now.steps ≤ before.steps + opening_cost bytes + cost (play_file bytes)
    cost_run ending ends cost within =
        let part = part_of ending ends in
        let played : now.steps ≤ before.steps + ends.opening + cost (play_file bytes) =
        rw part.all (within part.rest)
        in
        let opening : ends.opening ≤ opening_cost bytes = rw part.all (ends.cost part.rest) in
        omega (arith, played, opening)

    -- ---- an invalid word of a state

    module _ (byte word : ℕ) (finds : FindsBadWord (seen heard before) (seen heard_now now) byte word) where
      part : IsCut bytes finds.taken now.source.left
      part = cut bytes finds.taken now.source.left (sym told ∙ finds.bytes)

      bad_found : opened bytes ≡ BadWord byte word
      bad_found = ap opened part.all ∙ finds.says part.rest

      bad_ending : (xs : List ℕ) → opened xs ≡ BadWord byte word → file_ending mode xs ≡ any.BadSnapshot byte word
      bad_ending xs found = ap (λ (found : Opened). any_ending found (ending_under mode (play_file xs))) found

      -- nothing was played
      bad_played : play_file bytes ≡ played_script (script_opened first bytes (BadWord byte word))
      unfolding script_file
      bad_played = ap (λ (found : Opened). played_script (script_opened first bytes found)) bad_found

      bad_nothing : out_bytes mode heard (play_file bytes) ≡ []
      bad_nothing =
          let ending = Stopped (next_number first.played) (BadRecord byte word) in
          let is = stays_under mode (play_file bytes) ending (ap (λ (r : Played). r.ending) bad_played) tt in
          out_is mode heard (play_file bytes) first ending (ap (λ (r : Played). r.replay) bad_played) is
          ∙ append-nil (lines_of mode first) ∙ lines-none mode

      bad_refused : Says before.err now.err (any_text (any.BadSnapshot byte word) heard_now)
          → RefusedRun mode heard bytes before now
      bad_refused says =
          let ends = bad_ending bytes bad_found in
          let notes : told_notes (play_file bytes).replay.notes heard ≡ heard =
          ap (λ (r : Played). told_notes r.replay.notes heard) bad_played
          in
          let text = ap (any_text (any.BadSnapshot byte word)) (finds.heard ∙ sym notes)
          ∙ ap (λ (e : AnyEnding). any_text e (told_notes (play_file bytes).replay.notes heard)) (sym ends) in
          record {
            status = ap any_status ends;
            held = finds.held ∙ sym (appended-nil before.out.held) ∙ ap (appended before.out.held) (sym bad_nothing);
            decided = record {
              taken = finds.taken;
              rest = part.rest;
              all = part.all;
              left = part.left_is;
              needed = finds_needed first _ _ byte word finds;
              decides = inl (λ more. bad_ending (finds.taken ++ more) (finds.says more) ∙ sym ends);
            };
            says = subst (Says before.err now.err) text says;
          }

      bad_cost : (cost : ℕ) → now.steps ≤ before.steps + opening_cost bytes + cost
      bad_cost cost =
          let spent : now.steps ≤ before.steps + opening_cost bytes = rw part.all (finds.cost part.rest) in
          omega (arith, spent)

  -- ---- the run

  play_run : (ending : Ending) → Ends ending → Says before.err now.err (ending_text ending heard_now)
      → (MayReadFault ending → HasFailedToRead before.source now.source)
      → (MayWriteFault ending → HasFailed before.out now.out) → PlayRun mode heard before now (status_of ending)
  play_run ending ends says read_cause write_cause =
      let read : status_of ending ≡ 3 → HasFailedToRead before.source now.source = λ three.
      let (n, byte, is) = (ending_cause ending).read three in read_cause (subst MayReadFault (sym is) tt)
      in
      let write : status_of ending ≡ 4 → HasFailed before.out now.out = λ four.
      let (n, is) = (ending_cause ending).write four in write_cause (subst MayWriteFault (sym is) tt)
      in
      record {
        whole = λ zero. if_told before.source.left _ (λ bytes told. whole_run bytes told ending ends zero);
        refused = λ two. if_told before.source.left _ (λ bytes told. refused_run bytes told ending ends two says);
        starved = λ three. (
          read three,
          if_told before.source.left _
              (λ bytes told. starved_run bytes told ending ends three says),
        );
        cut = λ four. (
          write four,
          if_told before.source.left _
              (λ bytes told. blocked_run bytes told ending ends four says),
        );
        complete = λ fine full. inr (if_told before.source.left _ (λ bytes told.
            complete_run bytes told ending ends (λ three. fine (read three)) (λ four. full (write four))));
        cost = if_told before.source.left _
            (λ bytes told. cost_run bytes told ending ends (out_cost mode) ends.plays.cost);
        box_cost = if_told before.source.left _
            (λ bytes told. cost_run bytes told ending ends (out_box_cost mode) ends.plays.box_cost);
      }

  bad_run : (byte word : ℕ) → FindsBadWord (seen heard before) (seen heard_now now) byte word
      → Says before.err now.err (any_text (any.BadSnapshot byte word) heard_now) → PlayRun mode heard before now 2
  bad_run byte word finds says = record {
    whole = λ zero. absurd (omega (arith, zero));
    refused = λ two. if_told before.source.left _ (λ bytes told. bad_refused bytes told byte word finds says);
    starved = λ three. absurd (omega (arith, three));
    cut = λ four. absurd (omega (arith, four));
    complete = λ read write. inr (if_told before.source.left _ (λ bytes told.
        sym (ap any_status (bad_ending bytes told byte word finds bytes (bad_found bytes told byte word finds)))));
    cost = if_told before.source.left _ (λ bytes told. bad_cost bytes told byte word finds _);
    box_cost = if_told before.source.left _ (λ bytes told. bad_cost bytes told byte word finds _);
  }

  pub plays_runs : (ending : AnyEnding) → Says before.err now.err (any_text ending heard_now)
      → (any_status ending ≡ 0 → now.err ≡ before.err)
      → EndsAny mode first (seen heard before) (seen heard_now now) ending
      → (AnyMayReadFault ending → HasFailedToRead before.source now.source)
      → (AnyMayWriteFault ending → HasFailed before.out now.out)
      → CommandRun (Plays mode) heard before now (any_status ending)
  plays_runs (any.Played ending) says silent ends read_cause write_cause =
      answers (Plays mode) heard before now (status_of ending) (ending_cause ending) silent
      (play_run ending ends says read_cause write_cause)
  plays_runs (any.BadSnapshot byte word) says silent ends read_cause write_cause =
      answers (Plays mode) heard before now 2 (is_refused {Done = ⊥} {Read = ⊥} {Write = ⊥}) silent
      (bad_run byte word ends says)
