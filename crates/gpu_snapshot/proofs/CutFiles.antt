-- Opening and playing a file that cutting a capture writes.
use Rattle.std.proofs.Common.{◌≡◌, ◌≤◌, ◌+◌, ◌-◌, ◌*◌, ◌==◌, ◌++◌, List, [], ◌∷◌, ℕ, length, refl, ap, sym, subst, ◌∙◌}
use Rattle.std.proofs.Common.{append_assoc, append-nil, length-append, arith, inl, inr}
use Rattle.std.proofs.lemmas.Bool.{cases_Bool}
use Rattle.px_num.specs.Height.{tall_height}
use Rattle.gp0_words.specs.Items.{pending_behind}
use Rattle.gp0_words.specs.declared.pending.Pending.{Pending}
use Rattle.gp0_words.proofs.Resume.{list_of-leaves}
use Rattle.gpu_capture.specs.Capture.{Captured, limit}
use Rattle.gpu_capture.specs.Reader.{tag_expected, capture_from}
use Rattle.gpu_capture.specs.Written.{spelled_end, AllowsAll}
use Rattle.gpu_capture.specs.declared.event.Event.{Event}
use Rattle.gpu_capture.specs.declared.event.Stop.TheVariants.{End}
use Rattle.gpu_capture.proofs.Steps.{at_word}
use Rattle.gpu_capture.proofs.Written.{events_read}
use Rattle.gpu_core.specs.Kept.{Kept}
use Rattle.gpu_core.specs.Machine.{tall_state}
use Rattle.px_num.specs.Zeros.{zeros}
use Rattle.vram_store.specs.Vram.{tall}
use Rattle.event_play.specs.AlikeStates.{StandAlike, PlayAlike}
use Rattle.event_play.specs.Out.{lines_of, out_bytes}
use Rattle.event_play.specs.Replay.{Replay, Played, played_events, played_script, from_state, raised, played_from}
use Rattle.event_play.specs.Splits.{alone, with_past}
use Rattle.event_play.specs.Step.{Machine, tall_machine}
use Rattle.event_play.specs.Told.{told_notes}
use Rattle.event_play.proofs.AlikeStates.{states-alike}
use Rattle.event_play.proofs.Splits.{replays_split}
use Rattle.snapshot_words.specs.Outline.{snapshot_head, snap_bytes}
use Rattle.snapshot_words.specs.Reading.{Snapshot}
use Rattle.snapshot_words.proofs.States.{state_read}
use Rattle.gpu_capture.specs.Written.{spell}
use Rattle.capture_cut.specs.File.{cut_file, rig_bytes}
use Rattle.capture_cut.specs.File.{snapshot as state_bytes}
use Rattle.gpu_snapshot.specs.CutFiles.{IsCutWhole, LeadsTo, EndAlike, played_cut, PlaysLead, CutsAreWhole, GoesOn}
use Rattle.gpu_snapshot.specs.CutFiles.{WritesOn}
use Rattle.gpu_snapshot.specs.CutFiles.{EndsOn, CutLaw}
use Rattle.gpu_snapshot.specs.Laws.{snapshot_of, spelled, IsSpelledWhole}
use Rattle.gpu_snapshot.specs.Opened.{Restored, opened, after_head, opened_state}
use Rattle.gpu_snapshot.specs.PlayAny.{played_file, script_file, script_opened, played_restored}
use Rattle.gpu_snapshot.specs.Restored.{machine_in, version_after, first_offset}
use Rattle.gpu_snapshot.proofs.Heads.{head_of_snapshot}
use Rattle.gpu_snapshot.proofs.Openings.{opened_after}
use Rattle.gpu_snapshot.proofs.Profiles.{no_zeros}

-- ---- the state

-- bytes of a state
abbrev bytes_in : Snapshot → List ℕ
bytes_in s = snap_bytes s.outline s.m s.ram

-- the offset after them
abbrev after : Snapshot → ℕ
after s = first_offset + length (bytes_in s)

pub spelled_opens : (s : Snapshot) (rest : List ℕ) → IsSpelledWhole s
    → opened (spelled s ++ rest) ≡ Restored s (after s) rest
spelled_opens s rest is =
    ap opened (append_assoc snapshot_head (bytes_in s) rest)
    ∙ opened_after snapshot_head (bytes_in s ++ rest) refl
    ∙ ap (λ h. after_head h (bytes_in s ++ rest)) head_of_snapshot
    ∙ ap opened_state (state_read s.outline s.m s.ram first_offset rest is.outline is.words is.memories)

spelled_plays : (start : Replay) (s : Snapshot) (rest : List ℕ) → IsSpelledWhole s
    → played_file start (spelled s ++ rest) ≡ played_restored s (after s) rest
unfolding script_file
spelled_plays start s rest is =
    ap played_script (ap (script_opened start (spelled s ++ rest)) (spelled_opens s rest is))

-- the words that a snapshot stores leave what those of its machine leave
pub restored_alike : (s : Machine) (played : ℕ) → IsSpelledWhole (snapshot_of s played)
    → StandAlike (machine_in (snapshot_of s played)) s
restored_alike s played is =
    let kept : Pending → Kept = λ p. record { parts = s.gpu.parts; pending = p } in
    let bounds = is.outline in
    record {
      gpu = ap kept (list_of-leaves (pending_behind s.gpu.words) bounds.pending);
      ram = refl;
      running = refl;
    }

-- ---- the records after it

version_known : (height : ℕ) → 2 ≤ version_after height
version_known height = elim (cases_Bool (height == tall_height)) [
  | inl is ↦ rw is (omega arith)
  | inr is ↦ rw is (omega arith)
]

abbrev said : (version : ℕ) → List Event → List ℕ → Captured
said version later rest = record { version = version; events = later; ending = End; rest = rest }

records_said : (version offset : ℕ) (later : List Event) (rest : List ℕ) → 2 ≤ version → AllowsAll version later
    → offset + length (spell later ++ spelled_end) ≤ limit
    → capture_from (tag_expected version offset) ((spell later ++ spelled_end) ++ rest) ≡ said version later rest
records_said version offset later rest known allowed fits =
    at_word (tag_expected version offset) ((spell later ++ spelled_end) ++ rest) (omega (arith, known)) refl
    ∙ events_read version later offset rest allowed fits

-- ---- the file

file_is : (t : Replay) (later : List Event) (rest : List ℕ)
    → cut_file t later ++ rest ≡ state_bytes t ++ ((spell later ++ spelled_end) ++ rest)
file_is t later rest =
    ap (λ bytes. bytes ++ rest) (append_assoc (state_bytes t) (spell later) spelled_end)
    ∙ append_assoc (state_bytes t) (spell later ++ spelled_end) rest

bytes_same : (t : Replay) → state_bytes t ≡ spelled (snapshot_of t.state t.played)
unfolding rig_bytes
bytes_same t = refl

file_opens : (t : Replay) (later : List Event) (rest : List ℕ)
    → cut_file t later ++ rest ≡ spelled (snapshot_of t.state t.played) ++ ((spell later ++ spelled_end) ++ rest)
file_opens t later rest =
    file_is t later rest ∙ ap (λ bytes. bytes ++ ((spell later ++ spelled_end) ++ rest)) (bytes_same t)

head_long : (bytes : List ℕ) → length (snapshot_head ++ bytes) ≡ first_offset + length bytes
head_long bytes = length-append snapshot_head bytes

-- the records end where the file does
file_long : (t : Replay) (later : List Event)
    → length (cut_file t later) ≡ after (snapshot_of t.state t.played) + length (spell later ++ spelled_end)
file_long t later =
    let front = spelled (snapshot_of t.state t.played) in
    let tail = spell later ++ spelled_end in
    ap length (append_assoc (state_bytes t) (spell later) spelled_end ∙ ap (λ bytes. bytes ++ tail) (bytes_same t))
    ∙ length-append front tail
    ∙ ap (λ n. n + length tail) (head_long (bytes_in (snapshot_of t.state t.played)))

file_plays : (start t : Replay) (later : List Event) (rest : List ℕ) → IsCutWhole t later
    → played_cut start t later rest
    ≡ played_from (from_state (machine_in (snapshot_of t.state t.played)) t.played)
    (said (version_after t.state.gpu.parts.regs.height) later rest)
file_plays start t later rest is =
    let s = snapshot_of t.state t.played in
    let version = version_after t.state.gpu.parts.regs.height in
    let long = file_long t later in
    let fits : after s + length (spell later ++ spelled_end) ≤ limit = omega (arith, long, is.fits) in
    ap (played_file start) (file_opens t later rest)
    ∙ spelled_plays start s ((spell later ++ spelled_end) ++ rest) is.state
    ∙ ap (played_from (from_state (machine_in s) t.played))
    (records_said version (after s) later rest (version_known t.state.gpu.parts.regs.height) is.allowed fits)

-- ---- the height

tall_stays : (m : List ℕ) → length m ≡ 1024 * tall_height → tall m ≡ m
unfolding tall
tall_stays m long =
    let none : 1024 * tall_height - length m ≡ 0 = omega (arith, long) in
    ap (λ n. m ++ zeros n) none ∙ no_zeros m

-- a machine with 1024 rows stays as it is
machine_stays : (s : Machine) → s.gpu.parts.regs.height ≡ tall_height → length s.gpu.parts.m ≡ 1024 * tall_height
    → tall_machine s ≡ s
unfolding tall_state
machine_stays s high long =
    let with_parts : List ℕ → ℕ → Machine = λ m height. record s {
      gpu = record s.gpu { parts = record s.gpu.parts { m = m; regs = record s.gpu.parts.regs { height = height } } };
    } in
    ap (λ m. with_parts m tall_height) (tall_stays s.gpu.parts.m long) ∙ ap (with_parts s.gpu.parts.m) (sym high)

-- the version of a machine's height asks for no other height
raised_stays : (s : Machine) (played : ℕ) → length s.gpu.parts.m ≡ 1024 * s.gpu.parts.regs.height
    → raised (from_state s played) (version_after s.gpu.parts.regs.height) ≡ from_state s played
raised_stays s played long = elim (cases_Bool (s.gpu.parts.regs.height == tall_height)) [
  | inl is ↦
      let high : s.gpu.parts.regs.height ≡ tall_height = grind (arith, is) in
      rw is (ap (λ (m : Machine). from_state m played) (machine_stays s high (long ∙ ap (λ h. 1024 * h) high)))
  | inr is ↦ rw is refl
]

-- ---- the law

plays_lead : PlaysLead
plays_lead first t events plays =
    ap (λ all. played_events first all End []) (sym (append-nil events)) ∙ plays.replays [] End []

-- what a version allows, later ones allow
allowed_later : (later : List Event) (version : ℕ) → 2 ≤ version → AllowsAll 2 later → AllowsAll version later
allowed_later [] version le allowed = tt
allowed_later (event ∷ later) version le allowed =
    let first = allowed.0 in (
      record { known = omega (arith, first.known, le); event = first.event; words = first.words },
      allowed_later later version le allowed.1,
    )

cuts_whole : CutsAreWhole
cuts_whole n way before now cut =
    let height = way.replay.state.gpu.parts.regs.height in
    let state = cut.writable in
    record {
      state = record { outline = state.outline; words = state.words; memories = state.memories };
      allowed = allowed_later way.later (version_after height) (version_known height) cut.allowed;
      fits = cut.fits;
    }

goes_on : GoesOn
goes_on start t later rest is =
    let s = snapshot_of t.state t.played in
    let version = version_after t.state.gpu.parts.regs.height in
    let c = said version later rest in
    let same : PlayAlike (played_from (from_state (machine_in s) t.played) c)
    (played_from (from_state t.state t.played) c) =
    states-alike (machine_in s) t.state t.played c (restored_alike t.state t.played is.state) in
    let FromFile : Played → Type 0 = λ r. PlayAlike r (played_from (from_state t.state t.played) c) in
    let ToReplay : Replay → Type 0 = λ u. PlayAlike (played_cut start t later rest) (played_events u later End rest) in
    let state = is.state in
    let memories = state.memories in
    subst ToReplay (raised_stays t.state t.played memories.cells)
    (subst FromFile (sym (file_plays start t later rest is)) same)

-- the whole replay continues from the state
whole_is : (first t : Replay) (events later : List Event) (rest : List ℕ) → LeadsTo first events t
    → played_events first (events ++ later) End rest
    ≡ with_past t (played_events (from_state t.state t.played) later End rest)
whole_is first t events later rest leads =
    let replay_is : (alone first events).replay ≡ t = ap (λ (r : Played). r.replay) leads in
    replays_split.goes_on first events later End rest (ap (λ (r : Played). r.ending) leads)
    ∙ ap (λ u. played_events u later End rest) replay_is
    ∙ replays_split.played_on t later End rest

writes_on : WritesOn
writes_on mode heard start first t events later rest leads is =
    let r = played_events (from_state t.state t.played) later End rest in
    let same = goes_on start t later rest is in
    ap (out_bytes mode heard) (whole_is first t events later rest leads)
    ∙ replays_split.out mode heard t r
    ∙ ap (λ bytes. lines_of mode t ++ bytes) (sym (same.out mode (told_notes t.notes heard)))

ends_on : EndsOn
ends_on start first t events later rest leads is =
    let same = goes_on start t later rest is in
    let replay = same.replay in
    let Ends : Played → Type 0 = λ q. EndAlike (played_cut start t later rest) q in
    subst Ends (sym (whole_is first t events later rest leads))
    (record { state = replay.state; played = replay.played; ending = same.ending; rest = same.rest })

pub cut_files : CutLaw
cut_files = record {
  leads = plays_lead;
  whole = cuts_whole;
  goes_on = goes_on;
  writes_on = writes_on;
  ends_on =
      ends_on;
}
