-- Words and the spaces behind them.
use Rattle.std.proofs.Common.{◌≡◌, ◌⊎◌, inl, inr, ℕ, zero, suc, ◌+◌, ◌<◌, Bool, true, false, not}
use Rattle.std.proofs.Common.{cond, ◌&&◌, eqb, List, [], ◌∷◌, ◌++◌, length, take, drop, replicate}
use Rattle.std.proofs.Common.{refl, sym, ap, ◌∙◌, subst, arith, Option, Some, None, eq-eqb}
use Rattle.std.proofs.lemmas.{List.append-nil, Bool.eqb-true, Bool.and_parts}
use Rattle.cube.specs.declared.moves.{Side.Side, Kind.Kind, Quarter.Quarter, Move.Move}
use Rattle.cube.specs.declared.moves.Side.TheVariants.{U, R, F, D, L, B}
use Rattle.cube.specs.declared.moves.Axis.TheVariants.{X, Y, Z}
use Rattle.cube.specs.declared.moves.Kind.TheVariants.{Face, Block, Turn}
use Rattle.cube.specs.declared.moves.Quarter.TheVariants.{Clockwise, Half, Anticlockwise}
use Rattle.cube.specs.notation.Tokens.{token, stem, mark, side_letter}
use Rattle.cube.specs.notation.Notation.{BeginsWithSpace}
use Rattle.cube.specs.notation.model.Scan.{word_len, space_len, move_named, side_named, kind_named}
use Rattle.cube.specs.notation.model.Scan.{face_of, block_of, quarter_named, move_by}

-- the bytes end here, or a space comes
abbrev pub Ends : List ℕ → Type 0
Ends more = (more ≡ []) ⊎ BeginsWithSpace more

-- no byte is a space
abbrev plain : List ℕ → Bool
plain [] = true
plain (c ∷ cs) = not (eqb c 32) && plain cs

abbrev Good : Kind → Quarter → Type 0
Good kind quarter =
    (plain (stem kind ++ mark quarter) ≡ true) × (move_named (stem kind ++ mark quarter)
    ≡ Some (record { kind = kind; quarter = quarter }))

by_quarter : (kind : Kind) → Good kind Clockwise → Good kind Half → Good kind Anticlockwise
    → (quarter : Quarter) → Good kind quarter
by_quarter kind c h a Clockwise = c
by_quarter kind c h a Half = h
by_quarter kind c h a Anticlockwise = a

-- each token has no space, and names its move
good : (kind : Kind) (quarter : Quarter) → Good kind quarter
unfolding move_named
good (Face U) = by_quarter (Face U) (refl, refl) (refl, refl) (refl, refl)
good (Face R) = by_quarter (Face R) (refl, refl) (refl, refl) (refl, refl)
good (Face F) = by_quarter (Face F) (refl, refl) (refl, refl) (refl, refl)
good (Face D) = by_quarter (Face D) (refl, refl) (refl, refl) (refl, refl)
good (Face L) = by_quarter (Face L) (refl, refl) (refl, refl) (refl, refl)
good (Face B) = by_quarter (Face B) (refl, refl) (refl, refl) (refl, refl)
good (Block U) = by_quarter (Block U) (refl, refl) (refl, refl) (refl, refl)
good (Block R) = by_quarter (Block R) (refl, refl) (refl, refl) (refl, refl)
good (Block F) = by_quarter (Block F) (refl, refl) (refl, refl) (refl, refl)
good (Block D) = by_quarter (Block D) (refl, refl) (refl, refl) (refl, refl)
good (Block L) = by_quarter (Block L) (refl, refl) (refl, refl) (refl, refl)
good (Block B) = by_quarter (Block B) (refl, refl) (refl, refl) (refl, refl)
good (Turn X) = by_quarter (Turn X) (refl, refl) (refl, refl) (refl, refl)
good (Turn Y) = by_quarter (Turn Y) (refl, refl) (refl, refl) (refl, refl)
good (Turn Z) = by_quarter (Turn Z) (refl, refl) (refl, refl) (refl, refl)

pub move_named-token : (move : Move) → move_named (token move) ≡ Some move
move_named-token move = (good move.kind move.quarter).1

-- a word of bytes that are no spaces ends where the bytes end
word_len-plain : (word more : List ℕ) → plain word ≡ true → Ends more
    → word_len (word ++ more) ≡ length word
word_len-plain [] [] h e = refl
word_len-plain [] (c ∷ more) h (inl none) = cc
word_len-plain [] (c ∷ more) h (inr space) = rw (eq-eqb c 32 space) refl
word_len-plain (c ∷ word) more h e =
    let p = and_parts (not (eqb c 32)) (plain word) h in
    rw p.0 (ap (λ n. 1 + n) (word_len-plain word more p.1 e) ∙ omega arith)

pub word_len-token : (move : Move) (more : List ℕ) → Ends more → word_len (token move ++ more)
    ≡ length (token move)
word_len-token move more e = word_len-plain (token move) more (good move.kind move.quarter).0 e

-- a token is not empty, and begins with no space
token_begins : (move : Move) (more : List ℕ) → (c : ℕ) × (cs : List ℕ)
    × (token move ++ more ≡ c ∷ cs) × (eqb c 32 ≡ false)
token_begins move more = begins move.kind move.quarter
  where
    begins : (kind : Kind) (quarter : Quarter) → (c : ℕ) × (cs : List ℕ)
        × (stem kind ++ mark quarter ++ more ≡ c ∷ cs) × (eqb c 32 ≡ false)
    begins (Face U) quarter = (85, _, refl, refl)
    begins (Face R) quarter = (82, _, refl, refl)
    begins (Face F) quarter = (70, _, refl, refl)
    begins (Face D) quarter = (68, _, refl, refl)
    begins (Face L) quarter = (76, _, refl, refl)
    begins (Face B) quarter = (66, _, refl, refl)
    begins (Block U) quarter = (85, _, refl, refl)
    begins (Block R) quarter = (82, _, refl, refl)
    begins (Block F) quarter = (70, _, refl, refl)
    begins (Block D) quarter = (68, _, refl, refl)
    begins (Block L) quarter = (76, _, refl, refl)
    begins (Block B) quarter = (66, _, refl, refl)
    begins (Turn X) quarter = (120, _, refl, refl)
    begins (Turn Y) quarter = (121, _, refl, refl)
    begins (Turn Z) quarter = (122, _, refl, refl)

pub token_no_space : (move : Move) (more : List ℕ) → BeginsWithSpace (token move ++ more) → ⊥
token_no_space move more h =
    let t = token_begins move more in
    let space : t.0 ≡ 32 = subst BeginsWithSpace t.2 h in
    let no : false ≡ true = sym t.3 ∙ eq-eqb t.0 32 space in
    cc

pub token_not_empty : (move : Move) (more : List ℕ) → token move ++ more ≡ [] → ⊥
token_not_empty move more h =
    let t = token_begins move more in
    let no : [] ≡ t.0 ∷ t.1 = sym h ∙ t.2 in
    cc

-- what a letter names has that letter, by the letters tried in turn
step : {A : Type 0} (Q : A → Type 0) (c k : ℕ) (x : A) (rest : Option A) → (c ≡ k → Q x)
    → ((y : A) → rest ≡ Some y → Q y) → (y : A) → cond (eqb c k) (Some x) rest ≡ Some y → Q y
step {A} Q c k x rest here further y h = at (eqb c k) refl h
  where
    at : (b : Bool) → eqb c k ≡ b → cond b (Some x) rest ≡ Some y → Q y
    at true e same = let s : x ≡ y = cc in subst Q s (here (eqb-true c k e))
    at false e more = further y more

side_is : (c : ℕ) (side : Side) → side_named c ≡ Some side → c ∷ [] ≡ side_letter side
side_is c =
    let Q : Side → Type 0 = λ side. c ∷ [] ≡ side_letter side in
    step Q c 85 U _ (λ e. ap (λ x. x ∷ []) e)
    (step Q c 82 R _ (λ e. ap (λ x. x ∷ []) e)
    (step Q c 70 F _ (λ e. ap (λ x. x ∷ []) e)
    (step Q c 68 D _ (λ e. ap (λ x. x ∷ []) e)
    (step Q c 76 L _ (λ e. ap (λ x. x ∷ []) e)
    (step Q c 66 B None (λ e. ap (λ x. x ∷ []) e) (λ y h. cc))))))

face_is : (c : ℕ) (o : Option Side) → o ≡ side_named c → (kind : Kind) → face_of o ≡ Some kind
    → c ∷ [] ≡ stem kind
face_is c None e kind h = cc
face_is c (Some side) e kind h = let s : Face side ≡ kind =
    cc in subst (λ k. c ∷ [] ≡ stem k) s (side_is c side (sym e))

kind_is : (c : ℕ) (kind : Kind) → kind_named c ≡ Some kind → c ∷ [] ≡ stem kind
kind_is c =
    let Q : Kind → Type 0 = λ kind. c ∷ [] ≡ stem kind in
    step Q c 120 (Turn X) _ (λ e. ap (λ x. x ∷ []) e)
    (step Q c 121 (Turn Y) _ (λ e. ap (λ x. x ∷ []) e)
    (step Q c 122 (Turn Z) _ (λ e. ap (λ x. x ∷ []) e) (face_is c (side_named c) refl)))

block_is : (c : ℕ) (o : Option Side) → o ≡ side_named c → (kind : Kind) → block_of o ≡ Some kind
    → c ∷ 119 ∷ [] ≡ stem kind
block_is c None e kind h = cc
block_is c (Some side) e kind h =
    let s : Block side ≡ kind = cc in
    subst (λ k. c ∷ 119 ∷ [] ≡ stem k) s (ap (λ xs. xs ++ 119 ∷ []) (side_is c side (sym e)))

quarter_is : (c : ℕ) (quarter : Quarter) → quarter_named c ≡ Some quarter → c ∷ [] ≡ mark quarter
quarter_is c =
    let Q : Quarter → Type 0 = λ quarter. c ∷ [] ≡ mark quarter in
    step Q c 50 Half _ (λ e. ap (λ x. x ∷ []) e) (step Q c 39 Anticlockwise None
    (λ e. ap (λ x. x ∷ []) e) (λ y h. cc))

some_same : {A : Type 0} (x y : A) → Some x ≡ Some y → x ≡ y
some_same x y h = cc

one-add : (n : ℕ) → 1 + n ≡ suc n
one-add n = omega arith

-- what is named by both parts has both parts
both : (k : Option Kind) (q : Option Quarter) (move : Move) → move_by k q ≡ Some move
    → (k ≡ Some move.kind) × (q ≡ Some move.quarter)
both None q move h = cc
both (Some k) None move h = cc
both (Some k) (Some q) move h =
    let s : record { kind = k; quarter = q } ≡ move = some_same _ _ h in
    (ap (λ (m : Move). Some m.kind) s, ap (λ (m : Move). Some m.quarter) s)

if_chosen : {A : Type 0} (b : Bool) (x y : A) (z : A) → cond b x y ≡ z → ((b ≡ true) × (x ≡ z))
    ⊎ ((b ≡ false) × (y ≡ z))
if_chosen true x y z h = inl (refl, h)
if_chosen false x y z h = inr (refl, h)

-- the bytes that name a move are its token
pub named_token : (bytes : List ℕ) (move : Move) → move_named bytes ≡ Some move → bytes ≡ token move
unfolding move_named
named_token [] move h = cc
named_token (a ∷ []) move h =
    let p = both (kind_named a) (Some Clockwise) move h in
    kind_is a move.kind p.0 ∙ sym (append-nil (stem move.kind))
    ∙ ap (λ q. stem move.kind ++ mark q) (some_same _ _ p.1)
named_token (a ∷ b ∷ []) move h =
    elim (if_chosen (eqb b 119) _ _ _ h) [
      | inl w ↦
          (let p = both (block_of (side_named a)) (Some Clockwise) move w.1 in
          ap (λ x. a ∷ x ∷ []) (eqb-true b 119 w.0) ∙ block_is a (side_named a) refl move.kind p.0
          ∙ sym (append-nil (stem move.kind))
          ∙ ap (λ q. stem move.kind ++ mark q) (some_same _ _ p.1))
      | inr w ↦
          (let p = both (kind_named a) (quarter_named b) move w.1 in
          ap (λ xs. xs ++ b ∷ []) (kind_is a move.kind p.0)
          ∙ ap (λ xs. stem move.kind ++ xs) (quarter_is b move.quarter p.1))
    ]
named_token (a ∷ b ∷ c ∷ []) move h =
    elim (if_chosen (eqb b 119) _ _ _ h) [
      | inl w ↦
          (let p = both (block_of (side_named a)) (quarter_named c) move w.1 in
          ap (λ x. a ∷ x ∷ c ∷ []) (eqb-true b 119 w.0)
          ∙ ap (λ xs. xs ++ c ∷ []) (block_is a (side_named a) refl move.kind p.0)
          ∙ ap (λ xs. stem move.kind ++ xs) (quarter_is c move.quarter p.1))
      | inr w ↦ (let no : None ≡ Some move = w.1 in cc)
    ]
named_token (a ∷ b ∷ c ∷ d ∷ more) move h = cc

-- behind a word the bytes end or a space comes
pub behind_ends : (bytes : List ℕ) → Ends (drop (word_len bytes) bytes)
behind_ends [] = inl refl
behind_ends (c ∷ cs) = at (eqb c 32) refl (behind_ends cs)
  where
    at : (b : Bool) → eqb c 32 ≡ b → Ends (drop (word_len cs) cs)
        → Ends (drop (cond (not b) (1 + word_len cs) 0) (c ∷ cs))
    at true e rest = inr (eqb-true c 32 e)
    at false e rest = subst (λ n. Ends (drop n (c ∷ cs))) (sym (one-add (word_len cs))) rest

-- the spaces at the front, and what is behind them
pub spaces_first : (bytes : List ℕ)
    → (take (space_len bytes) bytes ≡ replicate (space_len bytes) 32)
    × (BeginsWithSpace (drop (space_len bytes) bytes) → ⊥)
spaces_first [] = (refl, λ h. h)
spaces_first (c ∷ cs) = at (eqb c 32) refl (spaces_first cs)
  where
    at : (b : Bool) → eqb c 32 ≡ b → (take (space_len cs) cs ≡ replicate (space_len cs) 32)
        × (BeginsWithSpace (drop (space_len cs) cs) → ⊥)
        → (take (cond b (1 + space_len cs) 0) (c ∷ cs) ≡ replicate (cond b (1 + space_len cs) 0) 32)
        × (BeginsWithSpace (drop (cond b (1 + space_len cs) 0) (c ∷ cs)) → ⊥)
    at true e rest =
        subst (λ n. (take n (c ∷ cs) ≡ replicate n 32) × (BeginsWithSpace (drop n (c ∷ cs)) → ⊥))
        (sym (one-add (space_len cs))) (
          ap (λ xs. c ∷ xs) rest.0 ∙ ap (λ x. x ∷ replicate (space_len cs) 32) (eqb-true c 32 e),
          rest.1,
        )
    at false e rest = (refl, λ space. (let no : false ≡ true = sym e ∙ eq-eqb c 32 space in cc))

pub space_some : (bytes : List ℕ) → BeginsWithSpace bytes → 0 < space_len bytes
space_some [] h = absurd h
space_some (c ∷ cs) h = rw (eq-eqb c 32 h) (omega arith)

-- spaces, and then no space, are counted
pub space_len-replicate : (n : ℕ) (rest : List ℕ) → (BeginsWithSpace rest → ⊥)
    → space_len (replicate n 32 ++ rest) ≡ n
space_len-replicate zero [] h = refl
space_len-replicate zero (c ∷ cs) h = at (eqb c 32) refl
  where
    at : (b : Bool) → eqb c 32 ≡ b → cond b (1 + space_len cs) 0 ≡ 0
    at true e = absurd (h (eqb-true c 32 e))
    at false e = refl
space_len-replicate (suc n) rest h = ap (λ m. 1 + m) (space_len-replicate n rest h) ∙ one-add n
