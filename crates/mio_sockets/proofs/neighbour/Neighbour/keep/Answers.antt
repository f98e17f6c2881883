use Rattle.std.proofs.Common.{[], sym, ap, subst, ◌∙◌, ◌++◌, Option, Some}
use Rattle.std.specs.{Global.Vec, declared.net.SocketAddr.SocketAddr}
use Rattle.polled.{specs.Telling.Tells, proofs.Telling.Tells-as}
use Rattle.links.specs.Links.{LinkState, pending}
use Rattle.desk_sockets.specs.Wires.{Keeps, address_of}
use Rattle.desk_sockets.proofs.Driving.{both, quiet}
use Rattle.mio_sockets.specs.{Keeping.IsSettled, declared.neighbour.Neighbour.TheInside.Inside}
use Rattle.mio_sockets.specs.Linking.{SideLeads, SideOf, phase_of}
use Rattle.mio_sockets.{specs.Wiring.Goes, proofs.Linking.driven, proofs.Settling.settles}
use Rattle.mio_sockets.proofs.neighbour.Neighbour.keep.Goals as goal

pub invariant_of-self : goal.invariant_of-self
invariant_of-self g c =
    let stream = c.self.inside.stream in
    let wired = g.W.DeskConnection.wired in
    let after = c.self-inside.view_is in
    let kept = subst (λ (x : SideOf). Keeps SideLeads (λ y. phase_of y.link.stage)
    (λ y. pending y.link) stream.addresses.items x c.keep-kept.new.dialogue (wired stream.wire)
    (wired c.keep-kept.new.self.wire)) c.begin.ensures c.keep-kept.ensures.told in
    let done = driven stream.addresses.items c.self.inside.address _ _ c.self.invariant kept.2 in
    ap (λ (n : Inside _). address_of n.stream.addresses.items n.side.desk) after
    ∙ ap (λ (v : Vec (Option SocketAddr)). address_of v.items c.keep-kept.new.dialogue.desk)
    c.keep-kept.ensures.addresses ∙ ap (address_of stream.addresses.items) done.1.desk
    ∙ c.self.invariant ∙ ap (λ (n : Inside _). Some n.address) (sym after)

pub returns : goal.returns
returns g c =
    let stream = c.self.inside.stream in
    let wired = g.W.DeskConnection.wired in
    let after = c.self-inside.view_is in
    let kept = subst (λ (x : SideOf). Keeps SideLeads (λ y. phase_of y.link.stage)
    (λ y. pending y.link) stream.addresses.items x c.keep-kept.new.dialogue (wired stream.wire)
    (wired c.keep-kept.new.self.wire)) c.begin.ensures c.keep-kept.ensures.told in
    let told = subst (λ w. Tells (wired w) (wired c.take_foreign-foreign.new.self) [])
    (ap (λ (n : Inside _). n.stream.wire) after) c.take_foreign-foreign.ensures.told in
    let done = driven stream.addresses.items c.self.inside.address _ _ c.self.invariant
    (both kept.2 (quiet told)) in
    let link = ap (λ (n : Inside _). n.side.link) after in
    rw (← c.self.view_is) (record {
      same = record {
        desk = ap (λ (n : Inside _). n.side.desk) after ∙ done.1.desk;
        address = ap (λ (n : Inside _). n.address) after;
      };
      lost = ap (λ (n : Inside _). n.lost) after;
      looks = kept.0;
      seen = kept.1;
      steps = done.1.steps;
      goes = subst (λ (s : LinkState). Goes c.self.inside.side.link done.1.steps s) (sym link)
          done.1.goes;
      told = Tells-as _ _ _ _ (ap (λ z. kept.0 ++ z) (sym done.1.told)) done.2;
      settled = subst (λ (s : LinkState). IsSettled c.args.now s) (sym link)
          (settles c.args.now _ _ c.keep-kept.ensures.rests);
    })
