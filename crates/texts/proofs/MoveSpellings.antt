-- Moves are read from their one spelling: their tokens, with one space between neighbours.
use Rattle.std.proofs.Common.{◌≡◌, ℕ, zero, suc, ◌<◌, ◌≤◌, inl, inr, true, false, nat_lt, nat_le}
use Rattle.std.proofs.Common.{List, [], ◌∷◌, ◌++◌, length, map, All, get_or, replicate, Option}
use Rattle.std.proofs.Common.{Some, None, Ok, Err, refl, sym, ap, ◌∙◌, subst, arith}
use Rattle.std.specs.{List.list_all, Option.option_and_then}
use Rattle.std.proofs.lemmas.Bool.{false≢true}
use Rattle.std.proofs.lemmas.Bool.Decides.{nat_tests}
use Rattle.cube.specs.declared.moves.Side.TheVariants.{U, R, F, D, L, B}
use Rattle.cube.specs.declared.moves.Axis.TheVariants.{X, Y, Z}
use Rattle.cube.specs.declared.moves.{Kind.Kind, Quarter.Quarter, Move.Move}
use Rattle.cube.specs.declared.moves.Kind.TheVariants.{Face, Block, Turn}
use Rattle.cube.specs.declared.moves.Quarter.TheVariants.{Clockwise, Half, Anticlockwise}
use Rattle.cube.specs.declared.notation.reading.NotationFault.{NotationFault, TheVariants.NoMemory}
use Rattle.cube.specs.notation.Tokens.{token}
use Rattle.cube.specs.notation.Notation.{Spells, IsUnlessNoMemory, spelling as moves_text}
use Rattle.texts.{specs.Names.has_single_spaces, specs.Spelling.AreMoves, proofs.Cuts.and-true}
use Rattle.texts.specs.Fields.{every_move, move_by, move_of, all_of, at_most_400, moves_of}
use Rattle.texts.proofs.{Cuts.lacks, Spelled.IsSpelled, Spelled.chosen, Spelled.find-only}
use Rattle.texts.proofs.Splits.{joined-found, joined-only, parts, parts-front, parts-spelled}

-- Tokens.

record IsToken (move : Move) : Type 0 where
  plain : lacks 32 (token move) ≡ true
  some_bytes : nat_lt 0 (length (token move)) ≡ true
  named : move_of (token move) ≡ Some move

by_quarter : (kind : Kind) → IsToken (move_by kind Clockwise) → IsToken (move_by kind Half)
    → IsToken (move_by kind Anticlockwise) → (quarter : Quarter) → IsToken (move_by kind quarter)
by_quarter kind c h a Clockwise = c
by_quarter kind c h a Half = h
by_quarter kind c h a Anticlockwise = a

token-of : (kind : Kind) (quarter : Quarter) → IsToken (move_by kind quarter)
unfolding move_of
token-of (Face U) =
    by_quarter (Face U) (record { plain = refl; some_bytes = refl; named = refl })
    (record { plain = refl; some_bytes = refl; named = refl })
    (record { plain = refl; some_bytes = refl; named = refl })
token-of (Face R) =
    by_quarter (Face R) (record { plain = refl; some_bytes = refl; named = refl })
    (record { plain = refl; some_bytes = refl; named = refl })
    (record { plain = refl; some_bytes = refl; named = refl })
token-of (Face F) =
    by_quarter (Face F) (record { plain = refl; some_bytes = refl; named = refl })
    (record { plain = refl; some_bytes = refl; named = refl })
    (record { plain = refl; some_bytes = refl; named = refl })
token-of (Face D) =
    by_quarter (Face D) (record { plain = refl; some_bytes = refl; named = refl })
    (record { plain = refl; some_bytes = refl; named = refl })
    (record { plain = refl; some_bytes = refl; named = refl })
token-of (Face L) =
    by_quarter (Face L) (record { plain = refl; some_bytes = refl; named = refl })
    (record { plain = refl; some_bytes = refl; named = refl })
    (record { plain = refl; some_bytes = refl; named = refl })
token-of (Face B) =
    by_quarter (Face B) (record { plain = refl; some_bytes = refl; named = refl })
    (record { plain = refl; some_bytes = refl; named = refl })
    (record { plain = refl; some_bytes = refl; named = refl })
token-of (Block U) =
    by_quarter (Block U) (record { plain = refl; some_bytes = refl; named = refl })
    (record { plain = refl; some_bytes = refl; named = refl })
    (record { plain = refl; some_bytes = refl; named = refl })
token-of (Block R) =
    by_quarter (Block R) (record { plain = refl; some_bytes = refl; named = refl })
    (record { plain = refl; some_bytes = refl; named = refl })
    (record { plain = refl; some_bytes = refl; named = refl })
token-of (Block F) =
    by_quarter (Block F) (record { plain = refl; some_bytes = refl; named = refl })
    (record { plain = refl; some_bytes = refl; named = refl })
    (record { plain = refl; some_bytes = refl; named = refl })
token-of (Block D) =
    by_quarter (Block D) (record { plain = refl; some_bytes = refl; named = refl })
    (record { plain = refl; some_bytes = refl; named = refl })
    (record { plain = refl; some_bytes = refl; named = refl })
token-of (Block L) =
    by_quarter (Block L) (record { plain = refl; some_bytes = refl; named = refl })
    (record { plain = refl; some_bytes = refl; named = refl })
    (record { plain = refl; some_bytes = refl; named = refl })
token-of (Block B) =
    by_quarter (Block B) (record { plain = refl; some_bytes = refl; named = refl })
    (record { plain = refl; some_bytes = refl; named = refl })
    (record { plain = refl; some_bytes = refl; named = refl })
token-of (Turn X) =
    by_quarter (Turn X) (record { plain = refl; some_bytes = refl; named = refl })
    (record { plain = refl; some_bytes = refl; named = refl })
    (record { plain = refl; some_bytes = refl; named = refl })
token-of (Turn Y) =
    by_quarter (Turn Y) (record { plain = refl; some_bytes = refl; named = refl })
    (record { plain = refl; some_bytes = refl; named = refl })
    (record { plain = refl; some_bytes = refl; named = refl })
token-of (Turn Z) =
    by_quarter (Turn Z) (record { plain = refl; some_bytes = refl; named = refl })
    (record { plain = refl; some_bytes = refl; named = refl })
    (record { plain = refl; some_bytes = refl; named = refl })

is_token : (move : Move) → IsToken move
is_token move = token-of move.kind move.quarter

named-only : (bytes : List ℕ) (move : Move) → move_of bytes ≡ Some move → bytes ≡ token move
unfolding move_of
named-only bytes move h = find-only token bytes every_move move h

named-found : (move : Move) → Unit {0} → move_of (token move) ≡ Some move
named-found move fits = (is_token move).named

token_spelled : IsSpelled move_of token (λ move. Unit {0})
token_spelled =
    record { only = λ bytes move h. (tt, named-only bytes move h); found = named-found }

each_move : (moves : List Move) → All (λ move. Unit {0}) moves
each_move moves = λ k d less. tt

each_plain : (moves : List Move) → All (λ move. lacks 32 (token move) ≡ true) moves
each_plain moves = λ k d less. (is_token (get_or moves k d)).plain

pub moves_spelled : IsSpelled moves_of moves_text AreMoves
unfolding moves_of
moves_spelled = record { only = only; found = found }
  where
    fewer : (bytes : List ℕ) (ms moves : List Move) → 1 ≤ length ms → bytes ≡ moves_text ms
        → at_most_400 ms ≡ Some moves → AreMoves moves × (bytes ≡ moves_text moves)
    fewer bytes ms moves some is e =
        let yes = chosen (nat_le (length ms) 400) (Some ms) None moves e refl in
        let same : ms ≡ moves = let found = yes.1 in cc in
        let few : length ms ≤ 400 = grind (arith, nat_tests, yes.0) in
        subst (λ (xs : List Move). AreMoves xs × (bytes ≡ moves_text xs)) same ((some, few), is)

    only : (bytes : List ℕ) (moves : List Move) → moves_of bytes ≡ Some moves
        → AreMoves moves × (bytes ≡ moves_text moves)
    only bytes moves h = step (all_of (map move_of (parts 32 bytes))) refl h
      where
        step : (o : Option (List Move)) → all_of (map move_of (parts 32 bytes)) ≡ o
            → option_and_then at_most_400 o ≡ Some moves
            → AreMoves moves × (bytes ≡ moves_text moves)
        step None are e = absurd (let bad : None ≡ Some moves = e in cc)
        step (Some ms) are e =
            let read = joined-only token_spelled 32 bytes ms are in
            fewer bytes ms moves read.1 read.2 e

    found : (moves : List Move) → AreMoves moves → moves_of (moves_text moves) ≡ Some moves
    found [] fits = absurd (let none : 1 ≤ 0 = fits.0 in omega arith)
    found (move ∷ moves) fits =
        let few : nat_le (length (move ∷ moves)) 400 ≡ true = let most = fits.1 in
        grind (arith, nat_tests) in
        let read =
        joined-found token_spelled 32 move moves (each_plain (move ∷ moves))
        (each_move (move ∷ moves)) in
        rw (read, few) refl

-- What the notation's reader gives, where no two spaces are in a row.

tokens-some : (moves : List Move)
    → list_all (λ part. nat_lt 0 (length part)) (map token moves) ≡ true
tokens-some [] = refl
tokens-some (move ∷ moves) = rw ((is_token move).some_bytes, tokens-some moves) refl

spelled_single : (moves : List Move) → AreMoves moves → has_single_spaces (moves_text moves) ≡ true
spelled_single [] fits = absurd (let none : 1 ≤ 0 = fits.0 in omega arith)
spelled_single (move ∷ moves) fits =
    rw (parts-spelled 32 token move moves (each_plain (move ∷ moves))) (tokens-some (move ∷ moves))

-- after a part, the rest has single spaces too
single-behind : (front more : List ℕ) → lacks 32 front ≡ true
    → has_single_spaces (front ++ 32 ∷ more) ≡ true → has_single_spaces more ≡ true
single-behind front more none h =
    (and-true (nat_lt 0 (length front)) (has_single_spaces more)
    (sym (ap (list_all (λ part. nat_lt 0 (length part))) (parts-front 32 front more none)) ∙ h)).1

-- a gap between tokens is one space then
single-gap : (move : Move) (text rest : List ℕ) (n : ℕ) → 0 < n
    → text ≡ token move ++ (replicate n 32 ++ rest) → has_single_spaces text ≡ true
    → (text ≡ token move ++ 32 ∷ rest) × (has_single_spaces rest ≡ true)
single-gap move text rest zero some is h = absurd (omega arith)
single-gap move text rest (suc zero) some is h =
    (is, single-behind (token move) rest (is_token move).plain (sym (ap has_single_spaces is) ∙ h))
single-gap move text rest (suc (suc n)) some is h =
    absurd
    (false≢true
    (single-behind (token move) (32 ∷ (replicate n 32 ++ rest)) (is_token move).plain
    (sym (ap has_single_spaces is) ∙ h)))

single-spells : (text : List ℕ) (moves : List Move) → Spells text moves
    → has_single_spaces text ≡ true → text ≡ moves_text moves
single-spells text [] spells h = absurd spells
single-spells text (move ∷ []) spells h = spells
single-spells text (move ∷ next ∷ moves) spells h =
    let gap = spells.2 in
    let one =
    single-gap move text spells.1 gap.0 gap.1
    (spells.3 ∙ ap (λ x. token move ++ (x ++ spells.1)) gap.2) h in
    one.0 ∙ ap (λ x. token move ++ 32 ∷ x) (single-spells spells.1 (next ∷ moves) spells.4 one.1)

some-moves : (text : List ℕ) (moves : List Move) → Spells text moves → 1 ≤ length moves
some-moves text [] spells = absurd spells
some-moves text (move ∷ moves) spells = omega arith

-- two spaces in a row, or one at an end
pub no_moves_unless_single : (bytes : List ℕ) → has_single_spaces bytes ≡ false
    → None ≡ moves_of bytes
no_moves_unless_single bytes h = step (moves_of bytes) refl
  where
    step : (o : Option (List Move)) → moves_of bytes ≡ o → None ≡ o
    step None is = refl
    step (Some moves) is =
        let read = moves_spelled.only bytes moves is in
        absurd (false≢true (sym h ∙ ap has_single_spaces read.1 ∙ spelled_single moves read.0))

pub moves_read : (bytes : List ℕ) (moves : List Move) → Spells bytes moves → length moves ≤ 400
    → has_single_spaces bytes ≡ true → Some moves ≡ moves_of bytes
moves_read bytes moves spells few h =
    sym
    (ap moves_of (single-spells bytes moves spells h)
    ∙ moves_spelled.found moves (some-moves bytes moves spells, few))

-- what the reader refuses
pub no_moves_where_refused : (fault : NotationFault) (bytes : List ℕ) → (fault ≡ NoMemory → ⊥)
    → ((moves : List Move) → Spells bytes moves → length moves ≤ 400
    → IsUnlessNoMemory (Err fault) (Ok moves))
    → ((moves : List Move) → 0 < length moves → Spells (moves_text moves) moves)
    → None ≡ moves_of bytes
no_moves_where_refused fault bytes memory reads spells = step (moves_of bytes) refl
  where
    no : (moves : List Move) → IsUnlessNoMemory (Err fault) (Ok moves) → ⊥
    no moves (inl e) = let bad : Err fault ≡ Ok moves = e in cc
    no moves (inr e) = memory (let same : fault ≡ NoMemory = cc in same)

    step : (o : Option (List Move)) → moves_of bytes ≡ o → None ≡ o
    step None is = refl
    step (Some moves) is =
        let read = moves_spelled.only bytes moves is in
        let some : 0 < length moves = let least = read.0.0 in omega arith in
        absurd
        (no moves
        (reads moves (subst (λ (x : List ℕ). Spells x moves) (sym read.1) (spells moves some))
        read.0.1))
