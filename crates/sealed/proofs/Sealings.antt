-- Records of bytes, one after the other.
use Rattle.std.proofs.Common.{◌≡◌, ℕ, ◌+◌, ◌-◌, ◌≤◌, List, [], ◌∷◌, ◌++◌, length, take, refl, sym}
use Rattle.std.proofs.Common.{ap, subst, ◌∙◌, arith}
use Rattle.std.{proofs.lemmas.List.append-nil, proofs.Math.Seq.take-add, specs.Prelude.slice_range}
use Rattle.seal.specs.{Records.record_of, Sealing.Sealing, Sealing.Seals}
use Rattle.sealed.{specs.Tunnels.SealsAll, proofs.Lawful.seals_on}

-- nothing is sealed by nothing
pub seals_none : (s : Sealing) → SealsAll [] s s []
seals_none s =
    let number : s.number ≡ s.number + length {A = List ℕ} [] = omega arith in
    record {
      bodies = [];
      each = tt;
      gives = refl;
      sealed = refl;
      counted = ap (λ (n : ℕ). record s { number = n }) number;
    }

-- one record
pub seals_one : (body sent : List ℕ) (old new : Sealing) → Seals body old new sent
    → SealsAll body old new sent
seals_one body sent old new h = record {
  bodies = body ∷ [];
  each = (h.good, tt);
  gives = append-nil body;
  sealed = h.sealed ∙ sym (append-nil (record_of old.channel old.number body));
  counted = h.counted;
}

-- one record more, of the bytes from a place on
pub seals_more : (bytes sent more : List ℕ) (start end : ℕ) (old mid new : Sealing) → start ≤ end
    → SealsAll (take start bytes) old mid sent → Seals (slice_range bytes start end) mid new more
    → SealsAll (take end bytes) old new (sent ++ more)
seals_more bytes sent more start end old mid new order a b =
    let all = seals_on (take start bytes) (slice_range bytes start end) sent more old mid new a
    (seals_one (slice_range bytes start end) more mid new b) in
    let sum : start + (end - start) ≡ end = omega (arith, order) in
    let whole : take start bytes ++ slice_range bytes start end ≡ take end bytes =
    sym (take-add start (end - start) bytes) ∙ ap (λ (n : ℕ). take n bytes) sum in
    subst (λ (s : List ℕ). SealsAll s old new (sent ++ more)) whole all
