use Rattle.std.proofs.Math.Logic.{∥∥₁_map}
use Rattle.pages.{specs.Kept.places_of, proofs.Tables.each_is_answered}
use Rattle.pages.proofs.laws.each_browser_is_answered.Goals as goal

pub returns : goal.returns
returns g c =
    let t = c.args.browsers.now.table in
    ∥∥₁_map c.args.browsers.now.kept (λ x. each_is_answered t.terms.config
    (g.C.Sockets.happened t.sockets) (places_of t) t.next t.turns.items x)
