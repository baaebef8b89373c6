-- The ranges of a packet's fields, beyond those of their types (our own rule: drawing and transfers rely on them).
use Rattle.std.specs.Prelude.{◌≡◌, ℕ, ◌%◌, ◌^◌, ◌<◌, ◌≤◌, ℤ, pos, negsuc, ◌≤ℤ◌}
use Rattle.px_num.specs.declared.shape.Cell.{Cell}
use Rattle.px_num.specs.declared.shape.Vertex.{Vertex}
use Rattle.gp0_packets.specs.declared.packet.Packet.{Packet}
use Rattle.gp0_packets.specs.declared.packet.Packet.TheVariants as packet

-- both coordinates are -1024 to 1023
pub record IsPlace (x y : ℤ) : Type 0 where
  pub left : negsuc 1023 ≤ℤ x
  pub right : x ≤ℤ pos 1023
  pub top : negsuc 1023 ≤ℤ y
  pub bottom : y ≤ℤ pos 1023

pub record IsVertexInRange (vertex : Vertex) : Type 0 where
  pub place : IsPlace vertex.x vertex.y
  pub color_fits : vertex.color < 2 ^ 24

pub record IsFillInRange (height color : ℕ) (first : Cell) (w h : ℕ) : Type 0 where
  pub color_fits : color < 2 ^ 15
  pub x_fits : first.x < 1024
  pub x_step : first.x % 16 ≡ 0
  pub y_fits : first.y < height
  pub w_fits : w ≤ 1024
  pub w_step : w % 16 ≡ 0
  pub h_fits : h ≤ 511

pub record IsRectInRange (x y : ℤ) (w h color : ℕ) : Type 0 where
  pub place : IsPlace x y
  pub w_fits : w ≤ 1023
  pub h_fits : h ≤ 511
  pub color_fits : color < 2 ^ 24

-- a rectangle of cells that is never empty
pub record IsTransferInRange (height x y w h : ℕ) : Type 0 where
  pub x_fits : x < 1024
  pub y_fits : y < height
  pub w_some : 1 ≤ w
  pub w_fits : w ≤ 1024
  pub h_some : 1 ≤ h
  pub h_fits : h ≤ 512

pub record IsPolyInRange (a b c d : Vertex) : Type 0 where
  pub first : IsVertexInRange a
  pub second : IsVertexInRange b
  pub third : IsVertexInRange c
  pub fourth : IsVertexInRange d

pub record IsSegmentInRange (a b : Vertex) : Type 0 where
  pub first : IsVertexInRange a
  pub second : IsVertexInRange b

pub record IsCopyInRange (height : ℕ) (from to : Cell) (w h : ℕ) : Type 0 where
  pub source : IsTransferInRange height from.x from.y w h
  pub target : IsTransferInRange height to.x to.y w h

pub record IsEnvInRange (index value : ℕ) : Type 0 where
  pub index_some : 1 ≤ index
  pub index_fits : index ≤ 6
  pub value_fits : value < 2 ^ 24

-- the Y of every cell is below `height`
abbrev pub IsInRange : (height : ℕ) → Packet → Type 0
IsInRange height packet.Nop = Unit {0}
IsInRange height packet.Irq = Unit {0}
IsInRange height (packet.Fill color x y w h) = IsFillInRange height color (record { x = x; y = y }) w h
IsInRange height (packet.Poly four a b c d shaded textured semi raw clut page) = IsPolyInRange a b c d
IsInRange height (packet.Segment a b semi) = IsSegmentInRange a b
IsInRange height (packet.Rect x y w h color textured semi raw u v clut) = IsRectInRange x y w h color
IsInRange height (packet.Copy from to w h) = IsCopyInRange height from to w h
IsInRange height (packet.Load x y w h) = IsTransferInRange height x y w h
IsInRange height (packet.Store x y w h) = IsTransferInRange height x y w h
IsInRange height (packet.Pixels word) = Unit {0}
IsInRange height packet.Finish = Unit {0}
IsInRange height (packet.Env index value) = IsEnvInRange index value
