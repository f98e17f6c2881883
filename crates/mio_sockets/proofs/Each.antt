-- Links that are kept one after the other.
use Rattle.std.proofs.Common.{◌≡◌, sym, ap, subst, ◌∙◌, ℕ, ◌+◌, ◌<◌, List, [], ◌∷◌, ◌++◌, Option}
use Rattle.std.proofs.Common.{take, drop, length, get_or, set, arith}
use Rattle.std.proofs.lemmas.List.{take_more, take_more_set, drop-drop, drop-set-lt, get_or-drop}
use Rattle.desk_sockets.specs.Wires.{Wired}
use Rattle.mio_sockets.specs.{Keeping.AreKept, Keeping.IsKept, Wiring.NeighbourOf}

module _ {W : Type 0} (wired : W → Option (List Wired)) (now : ℕ) where
  -- the first this many links were kept, and the others are as before
  pub record SoFar (old new : List (NeighbourOf W)) (i : ℕ) : Type 0 where
    pub kept : AreKept wired now (take i old) (take i new)
    pub rest : drop i new ≡ drop i old

  kept_more : (olds news : List (NeighbourOf W)) (a b : NeighbourOf W)
      → AreKept wired now olds news → IsKept wired now a b
      → AreKept wired now (olds ++ a ∷ []) (news ++ b ∷ [])
  kept_more [] [] a b h k = (k, tt)
  kept_more (o ∷ olds) (n ∷ news) a b h k = (h.0, kept_more olds news a b h.1 k)
  kept_more [] (n ∷ news) a b h k = absurd h
  kept_more (o ∷ olds) [] a b h k = absurd h

  same_there : (old new : List (NeighbourOf W)) (i : ℕ) (d : NeighbourOf W)
      → drop i new ≡ drop i old → get_or new i d ≡ get_or old i d
  same_there old new i d is =
      ap (λ n. get_or new n d) (omega arith) ∙ sym (get_or-drop i new 0 d)
      ∙ ap (λ ls. get_or ls 0 d) is ∙ get_or-drop i old 0 d
      ∙ ap (λ n. get_or old n d) (omega arith)

  after_there : (old new : List (NeighbourOf W)) (i : ℕ) → drop i new ≡ drop i old
      → drop (i + 1) new ≡ drop (i + 1) old
  after_there old new i is =
      sym (drop-drop 1 i new) ∙ ap (λ (ls : List (NeighbourOf W)). drop 1 ls) is
      ∙ drop-drop 1 i old

  pub one_more : {old new : List (NeighbourOf W)} {i : ℕ} (d b : NeighbourOf W)
      → i < length old → i < length new → SoFar old new i
      → IsKept wired now (get_or new i d) b → SoFar old (set new i b) (i + 1)
  one_more {old} {new} {i} d b low high so k =
      let moved : IsKept wired now (get_or old i d) b =
      subst (λ (n : NeighbourOf W). IsKept wired now n b) (same_there old new i d so.rest) k in
      record {
        kept =
            subst (λ (ls : List (NeighbourOf W)). AreKept wired now ls (take (i + 1) (set new i b)))
            (sym (take_more old i d low)) (subst (λ (ls : List (NeighbourOf W)). AreKept wired now
            (take i old ++ get_or old i d ∷ []) ls) (sym (take_more_set new i b high))
            (kept_more (take i old) (take i new) (get_or old i d) b so.kept moved));
        rest = drop-set-lt (i + 1) new i b (omega arith) ∙ after_there old new i so.rest;
      }
