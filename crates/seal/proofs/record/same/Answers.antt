use Rattle.std.proofs.Common.{◌≡◌, ℕ, List, slice_index, refl, ap, arith}
use Rattle.std.{specs.Int.Bits.xor_self, proofs.lemmas.Bool.eqb-true, proofs.lemmas.List.ext_get_or}
use borrow.Author.Count.{below_more}
use Rattle.seal.proofs.Bits.{or_none, xor_none}
use Rattle.seal.proofs.record.same.Goals as goal

pub loop-i-preserved : goal.loop-i-preserved
loop-i-preserved c =
    let tag = c.args.tag.now in let other = c.args.other.now in let i = c.loop-i.i in
    record {
      same = λ none.
          let parts = or_none _ _ none in
          below_more (λ (k : ℕ). slice_index tag k ≡ slice_index other k) i
          (c.loop-i.invariant.same parts.0) (xor_none _ _ parts.1);
      none = λ e.
          let before = c.loop-i.invariant.none e in
          let here = ap (λ (s : List ℕ). slice_index s i) e in
          rw (before, here, xor_self);
    }

pub returns : goal.returns
returns c = (
  λ t.
      ext_get_or 0 c.args.tag.now c.args.other.now (omega arith) (λ k h.
      c.loop-i.invariant.same (eqb-true _ _ t) k (omega arith)),
  λ e. rw (c.loop-i.invariant.none e) refl,
)
