use Rattle.std.proofs.Common.{◌≡◌, ◌-◌, Bool, true, false, length, drop, slice_range, sym, ◌∙◌}
use Rattle.std.proofs.Common.{arith}
use Rattle.std.proofs.lemmas.{Bool.lt-ltb, Bool.ltb-true, List.take_rest}
use Rattle.seal.{specs.Records.tag, proofs.Placed.record_made, proofs.Placed.tag_there}
use Rattle.seal.proofs.record.fits.Goals as goal

no_test : (b : Bool) → b ≡ true → b ≡ false → ⊥
no_test b t f = cc

pub returns-then-same : goal.returns-then-same
returns-then-same c =
    let bytes = c.args.bytes.now in
    let e = sym c.tag-fitting.ensures ∙ c.same.ensures.0 c.if-same.true
    ∙ c.copy_from_slice.ensures.after ∙ take_rest bytes (length bytes - 32) in (
      λ t.
          record_made c.args.channel.now c.args.number bytes
          (λ i. omega (arith, c.type_inv.bytes i))
          c.requires.whole c.requires.exact (ltb-true _ _ t) e,
      λ is. lt-ltb _ _ is.good.1,
    )

pub returns-else-same : goal.returns-else-same
returns-else-same c =
    let bytes = c.args.bytes.now in (
      λ (t : c.same.result ≡ true). absurd (no_test c.same.result t c.if-same.false),
      λ is.
          c.same.ensures.1
          (c.tag-fitting.ensures ∙ sym (tag_there c.args.channel.now c.args.number bytes is)
          ∙ sym (take_rest bytes (length bytes - 32)) ∙ sym c.copy_from_slice.ensures.after),
    )
