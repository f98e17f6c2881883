use Rattle.std.proofs.Common.{◌≡◌, refl}
use Rattle.cube.specs.model.Pieces.{colours_of, arranged}
use Rattle.cube.proofs.pieces.Pieces.colours.Goals as goal

-- what the calls gave is what the pieces show
parts : (c : goal.After-opposite-3) → arranged (record {
  urf = c.colours-urf.result;
  ufl = c.colours-ufl.result;
  ulb = c.colours-ulb.result;
  ubr = c.colours-ubr.result;
  dfr = c.colours-dfr.result;
  dlf = c.colours-dlf.result;
  dbl = c.colours-dbl.result;
  drb = c.colours-drb.result;
  ur = c.colours-ur.result;
  uf = c.colours-uf.result;
  ul = c.colours-ul.result;
  ub = c.colours-ub.result;
  dr = c.colours-dr.result;
  df = c.colours-df.result;
  dl = c.colours-dl.result;
  db = c.colours-db.result;
  fr = c.colours-fr.result;
  fl = c.colours-fl.result;
  bl = c.colours-bl.result;
  br = c.colours-br.result;
  up = c.args.self.now.facing.up;
  right = c.args.self.now.facing.right;
  front = c.args.self.now.facing.front;
  down = c.opposite.result;
  left = c.opposite-2.result;
  back = c.opposite-3.result;
}) ≡ colours_of c.args.self.now
unfolding colours_of
parts c =
    rw (
      c.colours-urf.ensures,
      c.colours-ufl.ensures,
      c.colours-ulb.ensures,
      c.colours-ubr.ensures,
      c.colours-dfr.ensures,
      c.colours-dlf.ensures,
      c.colours-dbl.ensures,
      c.colours-drb.ensures,
      c.colours-ur.ensures,
      c.colours-uf.ensures,
      c.colours-ul.ensures,
      c.colours-ub.ensures,
      c.colours-dr.ensures,
      c.colours-df.ensures,
      c.colours-dl.ensures,
      c.colours-db.ensures,
      c.colours-fr.ensures,
      c.colours-fl.ensures,
      c.colours-bl.ensures,
      c.colours-br.ensures,
      c.opposite.ensures,
      c.opposite-2.ensures,
      c.opposite-3.ensures,
    ) refl

pub returns : goal.returns
unfolding arranged
returns c = parts c
