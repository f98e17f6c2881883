use Rattle.std.proofs.Common.{sym, ap, ◌∙◌, List}
use Rattle.std.specs.Prelude.{position}
use Rattle.mio_sockets.specs.Wiring.{NeighbourOf, has_number}
use Rattle.mio_sockets.proofs.Pushing.{pushed_at, pushed_nowhere}
use Rattle.mio_sockets.proofs.desk_links.DeskLinksPeers.push.Goals as goal

pub returns-in-Some : goal.returns-in-Some
returns-in-Some g c =
    let found = ap (λ (ns : List (NeighbourOf _)). position (has_number c.args.to) ns)
    (sym c.deref.ensures.value) ∙ sym c.place_of.ensures ∙ c.in-Some.is in
    rw (← c.self.view_is) (record {
      frame = pushed_at c.args.to c.args.frame.now c.self.inside.desks.items c.in-Some.place
          c.index_mut.result.now c.push.new.self found c.index_mut.ensures.value
          c.push.ensures.frame c.push.ensures.wire;
    })

pub returns-in_default : goal.returns-in_default
returns-in_default g c =
    let none = ap (λ (ns : List (NeighbourOf _)). position (has_number c.args.to) ns)
    (sym c.deref.ensures.value) ∙ sym c.place_of.ensures ∙ c.in_default.is in
    rw (← c.self.view_is)
    (record { frame = pushed_nowhere c.args.to c.args.frame.now c.self.inside.desks.items none })
