use Rattle.std.proofs.Common.{[], ℕ, List, take, refl, sym, subst, ap, arith}
use Rattle.std.proofs.lemmas.List.{take_all}
use Rattle.seal.specs.Sealing.{Sealing}
use Rattle.sealed.{specs.Tunnels.SealsAll, proofs.Sealings.seals_more, proofs.Sealings.seals_none}
use Rattle.sealed.proofs.tunnel.Tunnel.seal.Goals as goal

pub loop-start-init : goal.loop-start-init
loop-start-init c =
    let first = c.self.inside.sealer in
    record {
      within = omega arith;
      sealed =
          subst (λ (s : List ℕ). SealsAll [] first first s) (sym c.new-sent.ensures.items)
          (seals_none first);
      opener = refl;
      grown = omega arith;
      enough = omega arith;
      few = omega arith;
      full = λ _. omega arith;
    }

pub loop-start-preserved : goal.loop-start-preserved
loop-start-preserved c =
    let bytes = c.args.bytes.now in
    let before = c.loop-start.invariant in
    let start = c.loop-start.start in
    let end = c.min-end.result in
    let first = c.self.inside.sealer in
    let new = c.seal.new.self in
    let next = c.in_ok-next.next.items in
    let sealed =
    seals_more bytes c.loop-start.sent.items next start end first c.loop-start.self-inside.sealer
    new (omega (arith, c.min-end.ensures)) before.sealed c.in_ok-next.ensures.sealed in
    let one = ap (λ (s : Sealing). s.number) c.in_ok-next.ensures.sealed.counted in
    let full = before.full c.loop-start-test.true in
    record {
      within = omega (arith, c.min-end.ensures);
      sealed =
          subst (λ (s : List ℕ). SealsAll (take end bytes) first new s)
          (sym c.in_ok-append.ensures.items) sealed;
      opener = before.opener;
      grown = omega (arith, before.grown, one);
      enough = omega (arith, before.grown, full, one, c.min-end.ensures);
      few = omega (arith, before.grown, full, one, c.loop-start-test.true, c.min-end.ensures);
      full = λ less. omega (arith, before.grown, full, one, less, c.min-end.ensures);
    }

pub returns-clause-sealed : goal.returns-clause-sealed
returns-clause-sealed c =
    let bytes = c.args.bytes.now in
    let now = c.loop-start.self-inside.sealer in
    let sent = c.loop-start.sent.items in
    let all = take_all c.loop-start.start bytes c.loop-start-test.false in
    let sealed = subst (λ (s : List ℕ). SealsAll s c.self.inside.sealer now sent) all
    c.loop-start.invariant.sealed in
    rw (← c.self.view_is) sealed

pub returns-clause-few : goal.returns-clause-few
returns-clause-few c =
    let before = c.loop-start.invariant in
    let all = c.loop-start-test.false in
    rw (← c.self.view_is) (record {
      grown = before.grown;
      enough = omega (arith, before.enough, all);
      few = omega (arith, before.few, before.within, all);
    })
