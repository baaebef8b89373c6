-- Texels at sixteen coordinates, lane by lane.
use Rattle.std.specs.Prelude.{ℕ, ◌≡◌, ◌+◌, ◌<◌, ◌≤◌, List, length, slice_index}
use Rattle.px_num.specs.Lanes.{EachLane, AreBytes}
use Rattle.px_num.specs.declared.shape.Cell.{Cell}
use Rattle.texture_page.specs.Page.{texel_place, windowed, column, index_in}
use Rattle.texel_lanes.specs.declared.texture.Coordinates.{Coordinates}
use Rattle.texel_lanes.specs.declared.texture.Texture.{Texture}
use Rattle.texel_lanes.specs.Texture.{HasPage, IsTexture, at_cell, texel}

-- sixteen coordinates of texels in one direction, each at most 255
pub record AreCoordinates (coordinates : List ℕ) : Type 0 where
  pub long : length coordinates ≡ 16
  pub bytes : EachLane (λ i. slice_index coordinates i ≤ 255)

-- What each read of texels takes: a texture whose page is in these rows of video memory, sixteen coordinates, and the
-- number of those that are needed.
pub record AreReadable (height : ℕ) (t : Texture) (at : Coordinates) (k : ℕ) : Type 0 where
  pub texture : IsTexture t
  pub page : HasPage height t
  pub us : AreCoordinates at.us
  pub vs : AreCoordinates at.vs
  pub some : 1 ≤ k
  pub few : k ≤ 16

-- the cell of the texel of lane j
abbrev pub lane_place : Texture → Coordinates → ℕ → Cell
lane_place t at j = texel_place t.page t.window (slice_index at.us j) (slice_index at.vs j)

-- the columns of the texels after the window
abbrev pub AreAcross : Texture → Coordinates → List ℕ → Type 0
AreAcross t at across =
    EachLane (λ i. slice_index across i ≡ windowed t.window.mask_x t.window.off_x (slice_index at.us i))

-- the first k lanes are the values of the texels' cells
abbrev pub AreHalfwords : Texture → Coordinates → (k : ℕ) → (m halfwords : List ℕ) → Type 0
AreHalfwords t at k m halfwords = (j : ℕ) → j < k → slice_index halfwords j ≡ at_cell m (lane_place t at j)

-- the first k lanes are the texels
abbrev pub AreTexels : Texture → Coordinates → (k : ℕ) → (m lanes : List ℕ) → Type 0
AreTexels t at k m lanes =
    (j : ℕ) → j < k → slice_index lanes j ≡ texel t (slice_index at.us j) (slice_index at.vs j) m

-- all cells are among the sixteen of a row from (x, y) on
abbrev pub StandNear : (xs ys : List ℕ) → (x y : ℕ) → Type 0
StandNear xs ys x y =
    (x + 16 ≤ 1024)
    × EachLane (λ i. (x ≤ slice_index xs i) × (slice_index xs i < x + 16))
    × EachLane (λ i. slice_index ys i ≡ y)

-- sixteen contiguous texels without a window; sixteen cells from the first one's cell on do not wrap
pub record AreBeside (t : Texture) (at : Coordinates) : Type 0 where
  pub window_x : t.window.mask_x ≡ 0
  pub window_y : t.window.mask_y ≡ 0
  pub in_row : t.page.x + column t.page.depth (slice_index at.us 0) + 16 ≤ 1024
  pub columns : EachLane (λ i. slice_index at.us i ≡ slice_index at.us 0 + i)
  pub rows : EachLane (λ i. slice_index at.vs i ≡ slice_index at.vs 0)

-- the first k lanes are the indexes of texels of four bits
pub record AreIndexes (t : Texture) (at : Coordinates) (k : ℕ) (m lanes : List ℕ) : Type 0 where
  pub bytes : AreBytes lanes
  pub low : EachLane (λ i. slice_index lanes i < 16)
  pub value : (j : ℕ) → j < k → slice_index lanes j
      ≡ index_in 0 (windowed t.window.mask_x t.window.off_x (slice_index at.us j)) (at_cell m (lane_place t at j))
