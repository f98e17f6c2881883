-- A solution begins with the letter of a token, and no word of no result does so and goes on so.
use Rattle.std.proofs.Common.{◌≡◌, ℕ, zero, suc, ◌<◌, ◌≤◌, Bool, true, false, ◌&&◌, ◌||◌, ◌==◌}
use Rattle.std.proofs.Common.{List, [], ◌∷◌, ◌++◌, length, map, get_or, codes, bytes_eq, replicate}
use Rattle.std.proofs.Common.{refl, sym, ap, ◌∙◌, arith}
use Rattle.std.{specs.Char.to_ascii_lowercase, proofs.lemmas.Bool.Decides.nat_tests}
use Rattle.std.proofs.lemmas.Bool.{false≢true}
use Rattle.cube.specs.declared.moves.{Side.TheVariants.U, Axis.TheVariants.X}
use Rattle.cube.specs.declared.moves.{Kind.Kind, Quarter.Quarter, Move.Move}
use Rattle.cube.specs.declared.moves.Kind.TheVariants.{Face, Block, Turn}
use Rattle.cube.specs.declared.moves.Quarter.TheVariants.{Clockwise, Half, Anticlockwise}
use Rattle.cube.specs.notation.{Notation.Spells, Tokens.token}
use Rattle.texts.{specs.Fields.move_by, proofs.Cuts.and-true, proofs.Spelled.bytes_eq-equal}
use Rattle.attempts.specs.declared.Unit.TheVariants.{Moves}
use Rattle.scorecard.specs.Spelling.{is_among, mended, is_dnf, is_dns, IsSolution}

-- what may be second in moves: nothing, a space, `w`, an apostrophe or `2`
abbrev pub is_start : List ℕ → Bool
is_start text =
    is_among (codes "URFDLBxyz") (get_or text 0 0)
    && (get_or text 1 0 == 0 || is_among (codes " w'2") (get_or text 1 0))

record IsTokenStart (more : List ℕ) (move : Move) : Type 0 where
  alone : is_start (token move) ≡ true
  led : is_start (token move ++ 32 ∷ more) ≡ true

by_quarter : (more : List ℕ) (kind : Kind) → IsTokenStart more (move_by kind Clockwise)
    → IsTokenStart more (move_by kind Half) → IsTokenStart more (move_by kind Anticlockwise)
    → (quarter : Quarter) → IsTokenStart more (move_by kind quarter)
by_quarter more kind c h a Clockwise = c
by_quarter more kind c h a Half = h
by_quarter more kind c h a Anticlockwise = a

token-start : (more : List ℕ) (kind : Kind) (quarter : Quarter)
    → IsTokenStart more (move_by kind quarter)
token-start more (Face U) =
    by_quarter more (Face U) (record { alone = refl; led = refl })
    (record { alone = refl; led = refl }) (record { alone = refl; led = refl })
token-start more (Block U) =
    by_quarter more (Block U) (record { alone = refl; led = refl })
    (record { alone = refl; led = refl }) (record { alone = refl; led = refl })
token-start more (Turn X) =
    by_quarter more (Turn X) (record { alone = refl; led = refl })
    (record { alone = refl; led = refl }) (record { alone = refl; led = refl })
token-start more kind =
    by_quarter more kind (record { alone = refl; led = refl })
    (record { alone = refl; led = refl }) (record { alone = refl; led = refl })

led_by_spaces : (n : ℕ) (gap rest : List ℕ) (move : Move) → 0 < n → gap ≡ replicate n 32
    → is_start (token move ++ (gap ++ rest)) ≡ true
led_by_spaces zero gap rest move some is = absurd (omega arith)
led_by_spaces (suc n) gap rest move some is =
    ap (λ g. is_start (token move ++ (g ++ rest))) is
    ∙ (token-start (replicate n 32 ++ rest) move.kind move.quarter).led

pub moves-start : (text : List ℕ) (moves : List Move) → Spells text moves → is_start text ≡ true
moves-start text [] h = absurd h
moves-start text (move ∷ []) h =
    ap is_start h ∙ (token-start [] move.kind move.quarter).alone
moves-start text (move ∷ next ∷ moves) (gap, rest, spaces, parts, more) =
    ap is_start parts ∙ led_by_spaces spaces.0 gap rest move spaces.1 spaces.2

-- ---- the words of no result begin otherwise

pub mended_first : (b : ℕ) (bytes : List ℕ) → (226 == b) ≡ false
    → mended (b ∷ bytes) ≡ b ∷ mended bytes
mended_first b bytes other = rw other refl

word_at : (text word : List ℕ) (k : ℕ) → bytes_eq (map to_ascii_lowercase text) word ≡ true
    → get_or (map to_ascii_lowercase text) k 0 ≡ get_or word k 0
word_at text word k is =
    ap (λ l. get_or l k 0) (bytes_eq-equal (map to_ascii_lowercase text) word is)

not_letters : (text word : List ℕ) → bytes_eq (map to_ascii_lowercase text) word ≡ true
    → get_or word 0 0 ≡ 100 → get_or word 1 0 ≡ 110 → is_start (mended text) ≡ true → ⊥
not_letters [] word is d n start =
    let first = word_at [] word 0 is in omega (arith, first, d)
not_letters (x ∷ []) word is d n start =
    let second = word_at (x ∷ []) word 1 is in omega (arith, second, n)
not_letters (x ∷ y ∷ rest) word is d n start =
    let first : to_ascii_lowercase x ≡ 100 = word_at (x ∷ y ∷ rest) word 0 is ∙ d in
    let second : to_ascii_lowercase y ≡ 110 = word_at (x ∷ y ∷ rest) word 1 is ∙ n in
    let a : (226 == x) ≡ false = grind (arith, nat_tests) in
    let b : (226 == y) ≡ false = grind (arith, nat_tests) in
    let none : (y == 0 || is_among (codes " w'2") y) ≡ false = grind (arith, nat_tests) in
    let plain : mended (x ∷ y ∷ rest) ≡ x ∷ y ∷ mended rest =
    mended_first x (y ∷ rest) a ∙ ap (λ l. x ∷ l) (mended_first y rest b) in
    let both =
    and-true (is_among (codes "URFDLBxyz") x) (y == 0 || is_among (codes " w'2") y)
    (ap is_start (sym plain) ∙ start) in
    false≢true (sym none ∙ both.1)

not_sign : (text word : List ℕ) → bytes_eq (map to_ascii_lowercase text) word ≡ true
    → 42 ≤ get_or word 0 0 → get_or word 0 0 ≤ 47 → is_start (mended text) ≡ true → ⊥
not_sign [] word is low high start =
    let first = word_at [] word 0 is in omega (arith, first)
not_sign (x ∷ rest) word is low high start =
    let first : to_ascii_lowercase x ≡ get_or word 0 0 = word_at (x ∷ rest) word 0 is in
    let above : 42 ≤ to_ascii_lowercase x = omega (arith, first) in
    let below : to_ascii_lowercase x ≤ 47 = omega (arith, first) in
    let a : (226 == x) ≡ false = grind (arith, nat_tests) in
    let none : is_among (codes "URFDLBxyz") x ≡ false = grind (arith, nat_tests) in
    let plain : mended (x ∷ rest) ≡ x ∷ mended rest = mended_first x rest a in
    let both =
    and-true (is_among (codes "URFDLBxyz") x)
    (get_or (mended rest) 0 0 == 0 || is_among (codes " w'2") (get_or (mended rest) 0 0))
    (ap is_start (sym plain) ∙ start) in
    false≢true (sym none ∙ both.0)

-- a solution is none of two words, one of which begins with these letters and one with a sign
no_word : (letters sign text : List ℕ) (moves : List Move) → get_or letters 0 0 ≡ 100
    → get_or letters 1 0 ≡ 110 → 42 ≤ get_or sign 0 0 → get_or sign 0 0 ≤ 47 → IsSolution text moves
    → (bytes_eq (map to_ascii_lowercase text) letters
    || (bytes_eq (map to_ascii_lowercase text) sign || false)) ≡ false
no_word letters sign text moves d n low high h =
    go (bytes_eq (map to_ascii_lowercase text) letters)
    (bytes_eq (map to_ascii_lowercase text) sign) refl refl
  where
    start : is_start (mended text) ≡ true
    start = moves-start (mended text) moves h.tokens

    go : (a b : Bool) → bytes_eq (map to_ascii_lowercase text) letters ≡ a
        → bytes_eq (map to_ascii_lowercase text) sign ≡ b → (a || (b || false)) ≡ false
    go true b e f = absurd (not_letters text letters e d n start)
    go false true e f = absurd (not_sign text sign f low high start)
    go false false e f = refl

pub solution_no_dnf : (text : List ℕ) (moves : List Move) → IsSolution text moves
    → is_dnf Moves text ≡ false
solution_no_dnf text moves h =
    no_word (codes "dnf") (codes "/") text moves refl refl (omega arith) (omega arith) h

pub solution_no_dns : (text : List ℕ) (moves : List Move) → IsSolution text moves
    → is_dns Moves text ≡ false
solution_no_dns text moves h =
    no_word (codes "dns") (codes "*") text moves refl refl (omega arith) (omega arith) h

-- a solution is not empty
pub solution_some : (text : List ℕ) (moves : List Move) → IsSolution text moves
    → (length text == 0) ≡ false
solution_some [] moves h = absurd (false≢true (moves-start [] moves h.tokens))
solution_some (b ∷ bs) moves h = grind (arith, nat_tests)
