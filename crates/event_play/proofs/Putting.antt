-- Lines that are added for events, and the output after events.
use Rattle.std.proofs.Common.{◌≡◌, inl, inr, ℕ, List, [], ◌∷◌, ◌++◌, Option, Result, Ok, refl, ap, sym}
use Rattle.std.proofs.Common.{◌∙◌, append-nil, arith}
use Rattle.dev_io.specs.Device.{appended}
use Rattle.dev_io.proofs.Appended.{appended-appended, appended-nil}
use Rattle.gathered_out.specs.Pieces.{Piece, bytes_of, piece}
use Rattle.gathered_out.specs.Puts.{BreaksPut, Holding, IsPut, Puts, SinkState, holding, sink_state}
use Rattle.gathered_out.proofs.Pieces.{bytes_append}
use Rattle.gathered_out.proofs.Puts.{put_on}
use Rattle.event_play.specs.Frames.{Frame}
use Rattle.event_play.specs.Lines.{IsBuffered, MayBuffer, WritesAfter, lines_after}
use Rattle.event_play.specs.declared.ending.Mode.{Mode}
use Rattle.event_play.specs.declared.ending.Mode.TheVariants.{Vram, Shot, Report, Frames, Sums, Pixel}
use Rattle.event_play.specs.declared.ending.Mode.TheVariants.{List as Listing, Play as Words}

-- the same bytes
pub puts_same : {Value : Type 0} (number : ℕ) (xs ys : List ℕ) (before now : SinkState) (result : Result Value ℕ)
    → xs ≡ ys → Puts (piece number xs) before now result → Puts (piece number ys) before now result
puts_same number xs ys before now result same puts = rw (← same) puts

pub put_at : (n m : ℕ) (xs ys : List ℕ) (before now : Holding) → n ≡ m → xs ≡ ys
    → IsPut (piece n xs) before now → IsPut (piece m ys) before now
put_at n m xs ys before now number same put = rw (← number, ← same) put

pub breaks_at : (n m : ℕ) (xs ys : List ℕ) (before : Holding) (now : Option (List ℕ)) (lacking : ℕ) → n ≡ m → xs ≡ ys
    → BreaksPut (piece n xs) before now lacking → BreaksPut (piece m ys) before now lacking
breaks_at n m xs ys before now lacking number same put = rw (← number, ← same) put

-- ---- no bytes

-- nothing was added
pub puts_none : {Value : Type 0} (number : ℕ) (bytes : List ℕ) (before now : SinkState) (v : Value) → bytes ≡ []
    → now.held ≡ before.held → now.faults ≡ before.faults → now.buffered ≡ before.buffered
    → Puts {Value = Value} (piece number bytes) before now (Ok v)
puts_none number bytes before now v none held faults buffered = record {
  ok = unput number bytes before.held now.held before.buffered now.buffered none held buffered;
  failed = tt;
  cause = tt;
  faults = omega (arith, faults);
}
  where
    unput : (number : ℕ) (bytes : List ℕ) (before now : Option (List ℕ)) (old new : List Piece) → bytes ≡ []
        → now ≡ before → new ≡ old → IsPut (piece number bytes) (holding before old) (holding now new)
    unput number bytes before now old new none held buffered =
        rw (none, held, buffered) (record {
          parts = [];
          are = record { numbers = tt; bytes_are = refl };
          out = λ base pieces out. rw (append-nil pieces) out;
        })

-- ---- the output after an event

-- A mode that buffers lines has no output after an event.
after_none : (mode : Mode) (shown : List ℕ) (frames : List Frame) → IsBuffered mode
    → lines_after mode shown frames ≡ []
after_none Listing shown frames is = refl
after_none (Pixel cell) shown frames is = refl
after_none Words shown frames is = absurd is
after_none Vram shown frames is = absurd is
after_none Shot shown frames is = absurd is
after_none Report shown frames is = absurd is
after_none (Frames at) shown frames is = absurd is
after_none (Sums at) shown frames is = absurd is

-- No mode has both output after an event and buffered lines.
pub never_both : (mode : Mode) → WritesAfter mode → IsBuffered mode → ⊥
never_both Listing after is = after
never_both (Pixel cell) after is = after
never_both Words after is = is
never_both Vram after is = is
never_both Shot after is = is
never_both Report after is = is
never_both (Frames at) after is = is
never_both (Sums at) after is = is

-- bytes that are written with an empty buffer
pub put_through : (number : ℕ) (bytes : List ℕ) (before now : Option (List ℕ)) → now ≡ appended before bytes
    → IsPut (piece number bytes) (holding before []) (holding now [])
put_through number bytes before now wrote = record {
  parts = piece number bytes ∷ [];
  are = record { numbers = (refl, tt); bytes_are = append-nil bytes };
  out = λ base pieces out.
      let all : pieces ≡ out.written = out.are ∙ append-nil out.written in
      let new = piece number bytes ∷ [] in
      record {
        written = pieces ++ new;
        are = sym (append-nil (pieces ++ new));
        stands = wrote ∙ ap (λ h. appended h bytes) (out.stands ∙ ap (λ ps. appended base (bytes_of ps)) (sym all))
            ∙ appended-appended base (bytes_of pieces) bytes
            ∙ ap (λ bs. appended base (bytes_of pieces ++ bs)) (sym (append-nil bytes))
            ∙ ap (appended base) (sym (bytes_append pieces new));
      };
}

put_unchanged : (number : ℕ) (bytes : List ℕ) (before now : Option (List ℕ)) (buffered : List Piece) → bytes ≡ []
    → now ≡ appended before bytes → IsPut (piece number bytes) (holding before buffered) (holding now buffered)
put_unchanged number bytes before now buffered none wrote = record {
  parts = [];
  are = record { numbers = tt; bytes_are = sym none };
  out = λ base pieces out.
      let same : now ≡ before = wrote ∙ ap (appended before) none ∙ appended-nil before in
      rw (same, append-nil pieces) out;
}

-- the output after an event was written
pub put_after : (mode : Mode) (number : ℕ) (shown : List ℕ) (frames : List Frame) (before now : Option (List ℕ))
    (buffered : List Piece) → MayBuffer mode buffered → now ≡ appended before (lines_after mode shown frames)
    → IsPut (piece number (lines_after mode shown frames)) (holding before buffered) (holding now buffered)
put_after mode number shown frames before now buffered (inl is) wrote =
    put_unchanged number (lines_after mode shown frames) before now buffered (after_none mode shown frames is) wrote
put_after mode number shown frames before now buffered (inr none) wrote =
    rw none (put_through number (lines_after mode shown frames) before now wrote)

-- bytes were added, and then others
pub put_both : (number : ℕ) (xs ys : List ℕ) (before mid now : Option (List ℕ)) (old between new : List Piece)
    → IsPut (piece number xs) (holding before old) (holding mid between)
    → IsPut (piece number ys) (holding mid between) (holding now new)
    → IsPut (piece number (xs ++ ys)) (holding before old) (holding now new)
put_both number xs ys before mid now old between new first last =
    let state : Option (List ℕ) → List Piece → SinkState = sink_state (λ held. held) (λ held. 0) in
    let on = put_on {Value = ℕ} number (state before old) (state mid between) (state now new) xs ys 0
    (record { put = first; faults = omega arith })
    (record { ok = last; failed = tt; cause = tt; faults = omega arith }) in
    on.put

-- With an empty buffer before and after, adding no bytes leaves the sink unchanged.
pub held_same : (number : ℕ) (before now : Option (List ℕ))
    → IsPut (piece number []) (holding before []) (holding now []) → now ≡ before
held_same number before now put =
    let out = put.out before [] (record { written = []; are = refl; stands = sym (appended-nil before) }) in
    let all : put.parts ≡ out.written = out.are ∙ append-nil out.written in
    out.stands ∙ ap (λ ps. appended before (bytes_of ps)) (sym all) ∙ ap (appended before) put.are.bytes_are
    ∙ appended-nil before
