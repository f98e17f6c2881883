-- The first address that is found for a text, and those that are found for several.
use Rattle.std.proofs.Common.{◌≡◌, ◌<◌, ◌+◌, ℕ, zero, suc, List, [], ◌∷◌, ◌++◌, Option, None, Some}
use Rattle.std.proofs.Common.{ap, ◌∙◌, take, map, length, arith, Bor, get_or, add-one}
use Rattle.std.proofs.{Math.Seq.take-suc, lemmas.List.map-append}
use Rattle.std.specs.Prelude.{IsSomeAnd, MatchOption}
use Rattle.std.specs.{Net.Grammar.IsSocketText, declared.net.socket_addr.SocketAddr.SocketAddr}
use Rattle.serve.specs.Addresses.{AreFoundFor, IsFoundFor}

one_comes : {A X : Type 0} (n : ℕ) (items : List A) (a : A) → take n items ≡ a ∷ []
    → (0 < n → (length items ≡ 0) × X) → ⊥
one_comes zero items a one none = absurd (cc one)
one_comes (suc n) [] a one none = absurd (cc one)
one_comes (suc n) (x ∷ xs) a one none = absurd (cc (none (omega arith)).0)

first_is : {A : Type 0} (n : ℕ) (items rest : List A) (a x : A) → take n items ≡ a ∷ []
    → items ≡ x ∷ rest → x ≡ a
first_is zero items rest a x one first = absurd (cc one)
first_is (suc n) [] rest a x one first = absurd (cc first)
first_is (suc n) (y ∷ ys) rest a x one first = cc (one, first)

pub found_first : (X : Type 0) (text : List ℕ) (n m : ℕ) (items rest : List SocketAddr)
    (r : Option SocketAddr) → (b : SocketAddr) × (take n items ≡ b ∷ []) × IsSocketText text b
    → MatchOption r (0 < n → (length items ≡ 0) × X) (λ x. (items ≡ x ∷ rest) × (m + 1 ≡ n))
    → IsSomeAnd r (IsSocketText text)
found_first X text n m items rest None h none = absurd (one_comes n items h.0 h.1 none)
found_first X text n m items rest (Some x) h some = rw (first_is n items rest h.0 x h.1 some.0) h.2

pub found_next : (texts : List (List ℕ)) (founds : List (Option SocketAddr)) (text : List ℕ)
    (found : Option SocketAddr) → AreFoundFor texts founds → IsFoundFor text found
    → AreFoundFor (texts ++ text ∷ []) (founds ++ found ∷ [])
found_next [] [] text found all one = (one, tt)
found_next [] (f ∷ fs) text found all one = elim all [ ]
found_next (t ∷ ts) [] text found all one = elim all [ ]
found_next (t ∷ ts) (f ∷ fs) text found all one = (all.0, found_next ts fs text found all.1 one)

pub found_step : (texts : List (Bor (List ℕ))) (i : ℕ) (d : Bor (List ℕ))
    (founds : List (Option SocketAddr)) (found : Option SocketAddr) → i < length texts
    → AreFoundFor (map (λ t. t.now) (take i texts)) founds → IsFoundFor (get_or texts i d).now found
    → AreFoundFor (map (λ t. t.now) (take (i + 1) texts)) (founds ++ found ∷ [])
found_step texts i d founds found within all one =
    let next : map (λ (t : Bor (List ℕ)). t.now) (take (i + 1) texts)
    ≡ map (λ (t : Bor (List ℕ)). t.now) (take i texts) ++ (get_or texts i d).now ∷ [] =
    rw add-one (ap (map (λ (t : Bor (List ℕ)). t.now)) (take-suc texts i d within)
    ∙ map-append (λ (t : Bor (List ℕ)). t.now) (take i texts) (get_or texts i d ∷ [])) in
    rw next
    (found_next (map (λ (t : Bor (List ℕ)). t.now) (take i texts)) founds (get_or texts i d).now
    found all one)
