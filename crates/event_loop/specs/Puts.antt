-- Output that is put, one piece after another (our own rule).
use Rattle.std.specs.Prelude.{◌⊎◌, ℕ, List, [], ◌∷◌, Option}
use Rattle.gathered_out.specs.Pieces.{AreOut, Piece}
use Rattle.gathered_out.specs.Puts.{BreaksPut, BreaksWriting, Holding, IsPut}

-- all that was put before is still written or buffered
abbrev pub Keeps : (before now : Holding) → Type 0
Keeps before now = (base : Option (List ℕ)) (pieces : List Piece) → AreOut base pieces before.held before.buffered
    → AreOut base pieces now.held now.buffered

-- these pieces were put
abbrev pub ArePut : List Piece → (before now : Holding) → Type 0
ArePut [] before now = Keeps before now
ArePut (p ∷ pieces) before now = (mid : Holding) × IsPut p before mid × ArePut pieces mid now

-- a write failed while they were put: in one of them, or in one that was buffered before
abbrev pub BreakPut : List Piece → (before : Holding) → (now : Option (List ℕ)) → (lacking : ℕ) → Type 0
BreakPut [] before now lacking = BreaksWriting before.held now before.buffered lacking
BreakPut (p ∷ pieces) before now lacking =
    BreaksPut p before now lacking ⊎ ((mid : Holding) × IsPut p before mid × BreakPut pieces mid now lacking)
