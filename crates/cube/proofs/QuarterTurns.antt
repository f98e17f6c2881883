-- What each quarter turn makes of the colours that the pieces show.
use Rattle.std.proofs.Common.{◌≡◌, refl}
use Rattle.cube.specs.declared.moves.Side.TheVariants.{U, R, F, D, L, B}
use Rattle.cube.specs.declared.moves.Axis.TheVariants.{X, Y, Z}
use Rattle.cube.specs.declared.moves.{Kind.Kind, Quarter.TheVariants.Clockwise, Colour.Colour}
use Rattle.cube.specs.declared.moves.Kind.TheVariants.{Face, Turn}
use Rattle.cube.specs.model.Pieces.{Shown, arranged}
use Rattle.cube.specs.Turns.{turned, opposite_colour}
use Rattle.cube.specs.declared.moves.Colour.TheVariants as colours

abbrev pub Turns : Kind → Shown → Shown → Type 0
Turns kind s t = arranged t ≡ turned (record { kind = kind; quarter = Clockwise }) (arranged s)

pub face_U : (s : Shown) → Turns (Face U) s (record s {
  urf = s.ubr;
  ufl = s.urf;
  ulb = s.ufl;
  ubr = s.ulb;
  ur = s.ub;
  uf = s.ur;
  ul = s.uf;
  ub = s.ul;
})
unfolding arranged turned
face_U s = refl

pub face_R : (s : Shown) → Turns (Face R) s (record s {
  urf = (s.dfr.1, s.dfr.2, s.dfr.0);
  ubr = (s.urf.2, s.urf.0, s.urf.1);
  dfr = (s.drb.2, s.drb.0, s.drb.1);
  drb = (s.ubr.1, s.ubr.2, s.ubr.0);
  ur = s.fr;
  dr = s.br;
  fr = s.dr;
  br = s.ur;
})
unfolding arranged turned
face_R s = refl

pub face_F : (s : Shown) → Turns (Face F) s (record s {
  urf = (s.ufl.2, s.ufl.0, s.ufl.1);
  ufl = (s.dlf.1, s.dlf.2, s.dlf.0);
  dfr = (s.urf.1, s.urf.2, s.urf.0);
  dlf = (s.dfr.2, s.dfr.0, s.dfr.1);
  uf = (s.fl.1, s.fl.0);
  df = (s.fr.1, s.fr.0);
  fr = (s.uf.1, s.uf.0);
  fl = (s.df.1, s.df.0);
})
unfolding arranged turned
face_F s = refl

pub face_D : (s : Shown) → Turns (Face D) s (record s {
  dfr = s.dlf;
  dlf = s.dbl;
  dbl = s.drb;
  drb = s.dfr;
  dr = s.df;
  df = s.dl;
  dl = s.db;
  db = s.dr;
})
unfolding arranged turned
face_D s = refl

pub face_L : (s : Shown) → Turns (Face L) s (record s {
  ufl = (s.ulb.2, s.ulb.0, s.ulb.1);
  ulb = (s.dbl.1, s.dbl.2, s.dbl.0);
  dlf = (s.ufl.1, s.ufl.2, s.ufl.0);
  dbl = (s.dlf.2, s.dlf.0, s.dlf.1);
  ul = s.bl;
  dl = s.fl;
  fl = s.ul;
  bl = s.dl;
})
unfolding arranged turned
face_L s = refl

pub face_B : (s : Shown) → Turns (Face B) s (record s {
  ulb = (s.ubr.2, s.ubr.0, s.ubr.1);
  ubr = (s.drb.1, s.drb.2, s.drb.0);
  dbl = (s.ulb.1, s.ulb.2, s.ulb.0);
  drb = (s.dbl.2, s.dbl.0, s.dbl.1);
  ub = (s.br.1, s.br.0);
  db = (s.bl.1, s.bl.0);
  bl = (s.ub.1, s.ub.0);
  br = (s.db.1, s.db.0);
})
unfolding arranged turned
face_B s = refl

pub turn_X : (s : Shown) → Turns (Turn X) s (record s {
  urf = (s.dfr.1, s.dfr.2, s.dfr.0);
  ufl = (s.dlf.2, s.dlf.0, s.dlf.1);
  ulb = (s.ufl.1, s.ufl.2, s.ufl.0);
  ubr = (s.urf.2, s.urf.0, s.urf.1);
  dfr = (s.drb.2, s.drb.0, s.drb.1);
  dlf = (s.dbl.1, s.dbl.2, s.dbl.0);
  dbl = (s.ulb.2, s.ulb.0, s.ulb.1);
  drb = (s.ubr.1, s.ubr.2, s.ubr.0);
  ur = s.fr;
  uf = (s.df.1, s.df.0);
  ul = s.fl;
  ub = (s.uf.1, s.uf.0);
  dr = s.br;
  df = (s.db.1, s.db.0);
  dl = s.bl;
  db = (s.ub.1, s.ub.0);
  fr = s.dr;
  fl = s.dl;
  bl = s.ul;
  br = s.ur;
  back = s.up;
  up = s.front;
  front = s.down;
  down = s.back;
})
unfolding arranged turned
turn_X s = refl

pub turn_Y : (s : Shown) → Turns (Turn Y) s (record s {
  urf = s.ubr;
  ufl = s.urf;
  ulb = s.ufl;
  ubr = s.ulb;
  dfr = s.drb;
  dlf = s.dfr;
  dbl = s.dlf;
  drb = s.dbl;
  ur = s.ub;
  uf = s.ur;
  ul = s.uf;
  ub = s.ul;
  dr = s.db;
  df = s.dr;
  dl = s.df;
  db = s.dl;
  fr = (s.br.1, s.br.0);
  fl = (s.fr.1, s.fr.0);
  bl = (s.fl.1, s.fl.0);
  br = (s.bl.1, s.bl.0);
  front = s.right;
  left = s.front;
  back = s.left;
  right = s.back;
})
unfolding arranged turned
turn_Y s = refl

pub turn_Z : (s : Shown) → Turns (Turn Z) s (record s {
  urf = (s.ufl.2, s.ufl.0, s.ufl.1);
  ufl = (s.dlf.1, s.dlf.2, s.dlf.0);
  ulb = (s.dbl.2, s.dbl.0, s.dbl.1);
  ubr = (s.ulb.1, s.ulb.2, s.ulb.0);
  dfr = (s.urf.1, s.urf.2, s.urf.0);
  dlf = (s.dfr.2, s.dfr.0, s.dfr.1);
  dbl = (s.drb.1, s.drb.2, s.drb.0);
  drb = (s.ubr.2, s.ubr.0, s.ubr.1);
  ur = (s.ul.1, s.ul.0);
  uf = (s.fl.1, s.fl.0);
  ul = (s.dl.1, s.dl.0);
  ub = (s.bl.1, s.bl.0);
  dr = (s.ur.1, s.ur.0);
  df = (s.fr.1, s.fr.0);
  dl = (s.dr.1, s.dr.0);
  db = (s.br.1, s.br.0);
  fr = (s.uf.1, s.uf.0);
  fl = (s.df.1, s.df.0);
  bl = (s.db.1, s.db.0);
  br = (s.ub.1, s.ub.0);
  right = s.up;
  down = s.right;
  left = s.down;
  up = s.left;
})
unfolding arranged turned
turn_Z s = refl

pub opposite_twice : (colour : Colour) → opposite_colour (opposite_colour colour) ≡ colour
opposite_twice colours.U = refl
opposite_twice _ = refl
