use Rattle.std.proofs.Common.{◌≡◌, ◌<◌, ℕ, List, slice_index, bit_xor, length, sym, ◌∙◌, arith}
use Rattle.std.proofs.lemmas.List.{ext_get_or, get_or-map, length-map, length-set, get_or-set_same}
use Rattle.std.proofs.lemmas.List.{get_or-set_other}
use borrow.Author.Count.{below_more}
use Rattle.seal.proofs.mac.padded.Goals as goal

pub loop-i-preserved : goal.loop-i-preserved
loop-i-preserved c =
    let bytes = c.loop-i.bytes in let i = c.loop-i.i in
    let v = bit_xor (slice_index c.args.block.now i) c.args.pad in
    record {
      long = length-set bytes i v ∙ c.loop-i.invariant.long;
      done =
          below_more _ i
          (λ (k : ℕ) (h : k < i).
          get_or-set_other bytes i k v 0 (λ e. omega arith) ∙ c.loop-i.invariant.done k h)
          (get_or-set_same bytes i v 0 (omega arith));
    }

pub returns : goal.returns
returns c =
    let f = λ (x : ℕ). bit_xor x c.args.pad in
    ext_get_or 0 _ _ (c.loop-i.invariant.long ∙ sym (length-map c.args.block.now f)) (λ k h.
    c.loop-i.invariant.done k (omega arith)
    ∙ sym (get_or-map f c.args.block.now k 0 0 (omega arith)))
