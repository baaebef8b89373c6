-- The end of a capture, and the file written for it.
use Rattle.std.proofs.Common.{◌≡◌, ◌≤◌, ◌==◌, ◌++◌, ℕ, List, [], length, refl, ap}
use Rattle.std.proofs.Common.{sym, subst, ◌∙◌, append-nil, arith}
use Rattle.gpu_capture.specs.Capture.{capture, limit}
use Rattle.gpu_capture.specs.Written.{AllowsAll}
use Rattle.gpu_capture.specs.declared.event.Event.{Event}
use Rattle.gpu_capture.specs.declared.event.Stop.TheVariants.{End}
use Rattle.gpu_capture.proofs.Written.{written_read}
use Rattle.event_play.specs.Playing.{whole}
use Rattle.event_play.specs.Replay.{Replay, Played, played_events, played_capture, played_from, raised, tall_version}
use Rattle.event_play.specs.declared.ending.Ending.TheVariants.{Done as PlayedWhole}
use Rattle.capture_flat.specs.Flat.{flat_replay}
use Rattle.event_play.specs.Alike.{AreAlike}
use Rattle.capture_flat.specs.Out.{flat_version, flat_file}
use Rattle.capture_flat.specs.Passing.{Follows}
use Rattle.event_play.specs.Alike.{IsFlatCapture}
use Rattle.capture_flat.proofs.Alike.{flat_alike}
use Rattle.event_play.proofs.Rests.{rest_same}
use Rattle.capture_flat.proofs.Allows.{later_allows}
use Rattle.capture_flat.proofs.Following.{all_flat}
use Rattle.capture_flat.proofs.Ports.{all_ports}

-- ---- what was written

-- The written capture is played in the same profile as the capture read.
same_tall : (version : ℕ) → (flat_version version == tall_version) ≡ (version == tall_version)
same_tall version = grind arith

same_raised : (start : Replay) (version : ℕ) → raised start (flat_version version) ≡ raised start version
same_raised start version = rw (same_tall version) refl

module _ (start t : Replay) (version : ℕ) (events flat : List Event)
    (follows : Follows (raised start version) events t flat) where
  abbrev first : Replay
  first = raised start version

  -- the events lead to the replay `t`
  pub replayed_to : (rest : List ℕ) → played_events first events End rest ≡ whole t rest
  replayed_to rest = ap (λ all. played_events first all End rest) (sym (append-nil events))
      ∙ follows.replays [] End rest

  -- A whole file that is not too long is a capture of the flat events, and these are replayed alike.
  pub is_flat : length (flat_file first version events) ≤ limit → version ≤ 3
      → IsFlatCapture start t (flat_version version) (flat_replay first events) (flat_file first version events)
  is_flat few known =
      let written_version = flat_version version in
      let all = flat_replay first events in
      let bytes = flat_file first version events in
      let same : all ≡ flat = all_flat first t events flat follows in
      let allows : AllowsAll written_version all =
      rw same (later_allows 2 written_version flat (omega arith) follows.allowed) in
      let read : (after : List ℕ)
      → capture (bytes ++ after) ≡ record { version = written_version; events = all; ending = End; rest = after } =
      λ after. written_read written_version all after (omega arith, omega arith) allows few in
      let play : (after : List ℕ) → played_capture start (bytes ++ after) ≡ played_events first all End after =
      λ after. ap (played_from start) (read after)
      ∙ ap (λ at. played_events at all End after) (same_raised start version) in
      let fine : (played_events first events End []).ending ≡ PlayedWhole =
      ap (λ (r : Played). r.ending) (replayed_to []) in
      let replay : (played_events first events End []).replay ≡ t = ap (λ (r : Played). r.replay) (replayed_to []) in
      let alike = flat_alike first events fine in
      record {
        ports = all_ports events first;
        reads = read;
        whole = λ after. ap (λ (r : Played). r.ending) (play after) ∙ (rest_same all first after).0 ∙ alike.0;
        alike = λ after.
            let Q : Replay → Type 0 = λ a. AreAlike a t in
            let R : Replay → Type 0 = λ b. AreAlike (played_events first all End []).replay b in
            subst Q (sym (ap (λ (r : Played). r.replay) (play after) ∙ (rest_same all first after).1))
            (subst R replay alike.1);
      }
