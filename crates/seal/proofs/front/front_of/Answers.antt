use Rattle.std.proofs.Common.{◌≡◌, Bool, true, false, arith}
use Rattle.seal.proofs.Placed.{front_exact, record_here}
use Rattle.seal.proofs.front.front_of.Goals as goal

no_test : (b : Bool) → b ≡ true → b ≡ false → ⊥
no_test b t f = cc

pub returns-else-fits : goal.returns-else-fits
returns-else-fits c =
    let size = c.size_of-size.ensures.known (omega arith) in
    let exact = front_exact c.args.bytes.now c.requires (omega (arith, size)) in (
      exact.0,
      λ begun.
          no_test c.fits.result
          (c.fits.ensures.1
          (record_here c.args.channel.now c.args.number c.args.bytes.now exact.1 begun))
          c.if-fits.false,
    )
