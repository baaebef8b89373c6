-- The bytes of a state, part by part.
use Rattle.std.proofs.Common.{◌≡◌, ◌+◌, ◌++◌, ℕ, List, length, length-append, ap, sym, ◌∙◌, append_assoc, arith}
use Rattle.event_play.specs.RigState.{RigState}
use Rattle.snapshot_words.specs.Outline.{bytes_of, outline_words, snap_bytes, snapshot_head}
use Rattle.snapshot_words.specs.Values.{cell_words}
use Rattle.snapshot_words.specs.declared.outline.Outline.{Outline}
use Rattle.capture_cut.specs.File.{outline_of, rig_bytes}

abbrev pub front : Outline → List ℕ
front outline = snapshot_head ++ bytes_of (outline_words outline)

abbrev pub memories : (m ram : List ℕ) → List ℕ
memories m ram = bytes_of (cell_words m) ++ bytes_of ram

pub rig_split : (rig : RigState) → rig_bytes rig ≡ front (outline_of rig) ++ memories rig.gpu.parts.m rig.ram
unfolding rig_bytes snap_bytes
rig_split rig =
    let words = bytes_of (outline_words (outline_of rig)) in
    let cells = bytes_of (cell_words rig.gpu.parts.m) in
    ap (λ bytes. snapshot_head ++ bytes) (append_assoc words cells (bytes_of rig.ram))
    ∙ sym (append_assoc snapshot_head words (cells ++ bytes_of rig.ram))

pub rig_length : (rig : RigState) (outline : Outline) (m ram : List ℕ) (a b d : ℕ) → outline ≡ outline_of rig
    → m ≡ rig.gpu.parts.m → ram ≡ rig.ram → a ≡ length (front outline) → b ≡ length (bytes_of (cell_words m))
    → d ≡ length (bytes_of ram) → a + b + d ≡ length (rig_bytes rig)
rig_length rig outline m ram a b d is cells words front_is cells_is ram_is =
    let all = ap length (rig_split rig) in
    let first = length-append (front (outline_of rig)) (memories rig.gpu.parts.m rig.ram) in
    let next = length-append (bytes_of (cell_words rig.gpu.parts.m)) (bytes_of rig.ram) in
    let e1 : a ≡ length (front (outline_of rig)) = front_is ∙ ap (λ o. length (front o)) is in
    let e2 : b ≡ length (bytes_of (cell_words rig.gpu.parts.m)) = cells_is
    ∙ ap (λ m. length (bytes_of (cell_words m))) cells in
    let e3 : d ≡ length (bytes_of rig.ram) = ram_is ∙ ap (λ ram. length (bytes_of ram)) words in
    omega (arith, all, first, next, e1, e2, e3)

-- the same for an outline equal to the rig's
pub rig_from : (rig : RigState) (outline : Outline) → outline ≡ outline_of rig
    → rig_bytes rig ≡ front outline ++ memories rig.gpu.parts.m rig.ram
rig_from rig outline is = rig_split rig ∙ ap (λ o. front o ++ memories rig.gpu.parts.m rig.ram) (sym is)
