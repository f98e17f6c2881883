-- A model of the code: the colours that the pieces of the cube show, as the code keeps them.
use Rattle.std.specs.Prelude.{ℕ, List, [], ◌∷◌, slice_index_or, Bool, true, false}
use Rattle.cube.specs.declared.{moves.Colour.Colour, pieces.Pieces.Pieces}
use Rattle.cube.specs.declared.moves.Colour.TheVariants.{U, R, F, D, L, B}
use Rattle.cube.specs.declared.pieces.CornerPiece.{CornerPiece, TheVariants.Drb}
use Rattle.cube.specs.declared.pieces.CornerPiece.TheVariants.{Urf, Ufl, Ulb, Ubr, Dfr, Dlf, Dbl}
use Rattle.cube.specs.declared.pieces.{Twist.Twist, Corner.Corner, EdgePiece.EdgePiece, Edge.Edge}
use Rattle.cube.specs.declared.pieces.Twist.TheVariants.{Upright, Clockwise, Anticlockwise}
use Rattle.cube.specs.declared.pieces.EdgePiece.TheVariants.{Ur, Uf, Ul, Ub, Dr, Df, Dl, Db, Fr, Fl}
use Rattle.cube.specs.declared.pieces.EdgePiece.TheVariants.{Bl, Br}
use Rattle.cube.specs.Turns.{opposite_colour}

-- the colours of a corner, clockwise from that of the upper or lower side
abbrev pub corner_piece_colours : CornerPiece → Colour × Colour × Colour
corner_piece_colours Urf = (U, R, F)
corner_piece_colours Ufl = (U, F, L)
corner_piece_colours Ulb = (U, L, B)
corner_piece_colours Ubr = (U, B, R)
corner_piece_colours Dfr = (D, F, R)
corner_piece_colours Dlf = (D, L, F)
corner_piece_colours Dbl = (D, B, L)
corner_piece_colours Drb = (D, R, B)

abbrev pub twisted : Twist → Colour × Colour × Colour → Colour × Colour × Colour
twisted Upright c = c
twisted Clockwise c = (c.2, c.0, c.1)
twisted Anticlockwise c = (c.1, c.2, c.0)

-- the colours that a corner shows, clockwise from the upper or lower side
unfoldable pub corner_colours : Corner → Colour × Colour × Colour
corner_colours corner = twisted corner.twist (corner_piece_colours corner.piece)

-- the colours of an edge, that of the upper, lower, front or back side first
abbrev pub edge_piece_colours : EdgePiece → Colour × Colour
edge_piece_colours Ur = (U, R)
edge_piece_colours Uf = (U, F)
edge_piece_colours Ul = (U, L)
edge_piece_colours Ub = (U, B)
edge_piece_colours Dr = (D, R)
edge_piece_colours Df = (D, F)
edge_piece_colours Dl = (D, L)
edge_piece_colours Db = (D, B)
edge_piece_colours Fr = (F, R)
edge_piece_colours Fl = (F, L)
edge_piece_colours Bl = (B, L)
edge_piece_colours Br = (B, R)

abbrev pub flipped : Bool → Colour × Colour → Colour × Colour
flipped false e = e
flipped true e = (e.1, e.0)

-- the colours that an edge shows
unfoldable pub edge_colours : Edge → Colour × Colour
edge_colours edge = flipped edge.flipped (edge_piece_colours edge.piece)

-- the colours that each piece shows: of corners and edges by their places, and of the centres
pub record Shown : Type 0 where
  pub urf : Colour × Colour × Colour
  pub ufl : Colour × Colour × Colour
  pub ulb : Colour × Colour × Colour
  pub ubr : Colour × Colour × Colour
  pub dfr : Colour × Colour × Colour
  pub dlf : Colour × Colour × Colour
  pub dbl : Colour × Colour × Colour
  pub drb : Colour × Colour × Colour
  pub ur : Colour × Colour
  pub uf : Colour × Colour
  pub ul : Colour × Colour
  pub ub : Colour × Colour
  pub dr : Colour × Colour
  pub df : Colour × Colour
  pub dl : Colour × Colour
  pub db : Colour × Colour
  pub fr : Colour × Colour
  pub fl : Colour × Colour
  pub bl : Colour × Colour
  pub br : Colour × Colour
  pub up : Colour
  pub right : Colour
  pub front : Colour
  pub down : Colour
  pub left : Colour
  pub back : Colour

-- the arrangement of these colours, side after side
unfoldable pub arranged : Shown → List Colour
arranged s =
    s.ulb.0 ∷ s.ul.0 ∷ s.ufl.0 ∷ s.ub.0 ∷ s.up ∷ s.uf.0 ∷ s.ubr.0 ∷ s.ur.0 ∷ s.urf.0 ∷
    s.drb.1 ∷ s.dr.1 ∷ s.dfr.2 ∷ s.br.1 ∷ s.right ∷ s.fr.1 ∷ s.ubr.2 ∷ s.ur.1 ∷ s.urf.1 ∷
    s.dlf.2 ∷ s.fl.0 ∷ s.ufl.1 ∷ s.df.1 ∷ s.front ∷ s.uf.1 ∷ s.dfr.1 ∷ s.fr.0 ∷ s.urf.2 ∷
    s.dbl.0 ∷ s.dl.0 ∷ s.dlf.0 ∷ s.db.0 ∷ s.down ∷ s.df.0 ∷ s.drb.0 ∷ s.dr.0 ∷ s.dfr.0 ∷
    s.dbl.2 ∷ s.dl.1 ∷ s.dlf.1 ∷ s.bl.1 ∷ s.left ∷ s.fl.1 ∷ s.ulb.1 ∷ s.ul.1 ∷ s.ufl.2 ∷
    s.dbl.1 ∷ s.bl.0 ∷ s.ulb.2 ∷ s.db.1 ∷ s.back ∷ s.ub.1 ∷ s.drb.2 ∷ s.br.0 ∷ s.ubr.1 ∷ []

-- what the corner, or the edge, at a place shows
abbrev pub corner_at : Pieces → ℕ → Colour × Colour × Colour
corner_at pieces place =
    corner_colours (slice_index_or pieces.corners place (record { piece = Urf; twist = Upright }))

abbrev pub edge_at : Pieces → ℕ → Colour × Colour
edge_at pieces place =
    edge_colours (slice_index_or pieces.edges place (record { piece = Ur; flipped = false }))

-- what the pieces show
abbrev pub shown : Pieces → Shown
shown pieces = record {
  urf = corner_at pieces 0;
  ufl = corner_at pieces 1;
  ulb = corner_at pieces 2;
  ubr = corner_at pieces 3;
  dfr = corner_at pieces 4;
  dlf = corner_at pieces 5;
  dbl = corner_at pieces 6;
  drb = corner_at pieces 7;
  ur = edge_at pieces 0;
  uf = edge_at pieces 1;
  ul = edge_at pieces 2;
  ub = edge_at pieces 3;
  dr = edge_at pieces 4;
  df = edge_at pieces 5;
  dl = edge_at pieces 6;
  db = edge_at pieces 7;
  fr = edge_at pieces 8;
  fl = edge_at pieces 9;
  bl = edge_at pieces 10;
  br = edge_at pieces 11;
  up = pieces.facing.up;
  right = pieces.facing.right;
  front = pieces.facing.front;
  down = opposite_colour pieces.facing.up;
  left = opposite_colour pieces.facing.right;
  back = opposite_colour pieces.facing.front;
}

-- the arrangement that the pieces show
unfoldable pub colours_of : Pieces → List Colour
colours_of pieces = arranged (shown pieces)
