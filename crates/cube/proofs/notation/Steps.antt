-- One turn of the loop that reads, and of the loop that writes.
use Rattle.std.proofs.Common.{◌≡◌, ◌≢◌, ℕ, zero, suc, ◌+◌, ◌-◌, ◌<◌, ◌≤◌, true, false, eqb, List}
use Rattle.std.proofs.Common.{[], ◌∷◌, ◌++◌, length, take, get_or, refl, sym, ap, ◌∙◌, arith, Some}
use Rattle.std.proofs.Common.{None, Result, Ok, Err, eq-eqb, append_assoc}
use Rattle.std.proofs.lemmas.{Bool.eqb-true, List.take_more, List.length-take}
use Rattle.cube.specs.declared.{moves.Move.Move, notation.reading.NotationFault.NotationFault}
use Rattle.cube.specs.declared.notation.reading.NotationFault.TheVariants.{BadToken, TooMany}
use Rattle.cube.specs.notation.{Tokens.token, Notation.spelling}
use Rattle.cube.specs.notation.model.Scan.{word_len, behind_word, behind_spaces, move_named}
use Rattle.cube.specs.notation.model.Scan.{with_move, scan_on, scan}
use Rattle.cube.proofs.notation.Joined.{with_moves, with_moves_more, with_moves_last}
use Rattle.cube.proofs.notation.Joined.{with_moves_fault, spelling-more}

pub empty_from : (xs : List ℕ) → eqb (length xs) 0 ≡ true → xs ≡ []
empty_from [] h = refl
empty_from (x ∷ xs) h = absurd (omega (arith, eqb-true (length (x ∷ xs)) 0 h))

pub some_from : (xs : List ℕ) → eqb (length xs) 0 ≡ false → xs ≢ []
some_from xs h e = let no : false ≡ true = sym h ∙ eq-eqb (length xs) 0 (ap length e) in cc

scan_none : (total n : ℕ) (rest : List ℕ) → move_named (take (word_len rest) rest) ≡ None
    → scan total (suc n) rest ≡ Err (BadToken (total - length rest))
unfolding scan
scan_none total n rest named =
    ap (λ o. scan_on o (total - length rest) (behind_word rest)
    (scan total n (behind_spaces (behind_word rest)))) named

scan_one : (total n : ℕ) (rest : List ℕ) (move : Move) → move_named (take (word_len rest) rest)
    ≡ Some move → behind_word rest ≡ [] → scan total (suc n) rest ≡ Ok (move ∷ [])
unfolding scan
scan_one total n rest move named last =
    ap (λ o. scan_on o (total - length rest) (behind_word rest)
    (scan total n (behind_spaces (behind_word rest)))) named
    ∙ ap (λ x. scan_on (Some move) (total - length rest) x
    (scan total n (behind_spaces (behind_word rest)))) last

on_more : (move : Move) (at : ℕ) (more : List ℕ) (further : Result (List Move) NotationFault)
    → more ≢ [] → scan_on (Some move) at more further ≡ with_move move further
on_more move at [] further some = absurd (some refl)
on_more move at (c ∷ cs) further some = refl

scan_more : (total n : ℕ) (rest : List ℕ) (move : Move) → move_named (take (word_len rest) rest)
    ≡ Some move → behind_word rest ≢ [] → scan total (suc n) rest
    ≡ with_move move (scan total n (behind_spaces (behind_word rest)))
unfolding scan
scan_more total n rest move named some =
    ap (λ o. scan_on o (total - length rest) (behind_word rest)
    (scan total n (behind_spaces (behind_word rest)))) named
    ∙ on_more move (total - length rest) (behind_word rest) _ some

left : (taken : ℕ) → taken < 400 → 400 - taken ≡ suc (400 - (taken + 1))
left taken below = omega (arith, below)

-- the moves so far, and what is read of the rest, are what is read of the text
abbrev pub Told : ℕ → ℕ → List Move → List ℕ → List ℕ → Type 0
Told total taken moves rest text =
    with_moves moves (scan total (400 - taken) rest) ≡ scan total 400 text

pub read_none : (total taken : ℕ) (moves : List Move) (rest text : List ℕ) → taken < 400
    → Told total taken moves rest text → move_named (take (word_len rest) rest) ≡ None
    → Err (BadToken (total - length rest)) ≡ scan total 400 text
read_none total taken moves rest text below told named =
    sym (with_moves_fault moves (BadToken (total - length rest)))
    ∙ ap (with_moves moves) (sym (scan_none total (400 - (taken + 1)) rest named)
    ∙ ap (λ n. scan total n rest) (sym (left taken below)))
    ∙ told

pub read_last : (total taken : ℕ) (moves : List Move) (rest text : List ℕ) (move : Move)
    → taken < 400 → Told total taken moves rest text → move_named (take (word_len rest) rest)
    ≡ Some move → behind_word rest ≡ [] → Ok (moves ++ move ∷ []) ≡ scan total 400 text
read_last total taken moves rest text move below told named last =
    sym (with_moves_last moves move)
    ∙ ap (with_moves moves) (sym (scan_one total (400 - (taken + 1)) rest move named last)
    ∙ ap (λ n. scan total n rest) (sym (left taken below)))
    ∙ told

pub read_more : (total taken : ℕ) (moves : List Move) (rest text : List ℕ) (move : Move)
    → taken < 400 → Told total taken moves rest text → move_named (take (word_len rest) rest)
    ≡ Some move → behind_word rest ≢ [] → Told total (taken + 1) (moves ++ move ∷ [])
    (behind_spaces (behind_word rest)) text
read_more total taken moves rest text move below told named some =
    with_moves_more moves move (scan total (400 - (taken + 1)) (behind_spaces (behind_word rest)))
    ∙ ap (with_moves moves) (sym (scan_more total (400 - (taken + 1)) rest move named some)
    ∙ ap (λ n. scan total n rest) (sym (left taken below)))
    ∙ told

pub read_end : (total taken : ℕ) (moves : List Move) (rest text : List ℕ) → 400 ≤ taken
    → Told total taken moves rest text → rest ≡ [] → Err (BadToken total) ≡ scan total 400 text
unfolding scan
read_end total taken moves rest text full told empty =
    sym (with_moves_fault moves (BadToken total))
    ∙ ap (with_moves moves) (sym (ap (λ n. scan total n rest) (none_left taken full)
    ∙ ap (λ r. scan total zero r) empty))
    ∙ told
  where
    none_left : (taken : ℕ) → 400 ≤ taken → 400 - taken ≡ zero
    none_left taken full = omega (arith, full)

too_many : (total : ℕ) (rest : List ℕ) → rest ≢ [] → scan total zero rest ≡ Err TooMany
unfolding scan
too_many total [] some = absurd (some refl)
too_many total (c ∷ cs) some = refl

pub read_too_many : (total taken : ℕ) (moves : List Move) (rest text : List ℕ) → 400 ≤ taken
    → Told total taken moves rest text → rest ≢ [] → Err TooMany ≡ scan total 400 text
read_too_many total taken moves rest text full told some =
    sym (with_moves_fault moves TooMany)
    ∙ ap (with_moves moves) (sym (ap (λ n. scan total n rest) (none_left taken full)
    ∙ too_many total rest some))
    ∙ told
  where
    none_left : (taken : ℕ) → 400 ≤ taken → 400 - taken ≡ zero
    none_left taken full = omega (arith, full)

-- the text of the moves up to one more
pub written_more : (moves : List Move) (i : ℕ) (d : Move) → i < length moves → 0 < i
    → (spelling (take i moves) ++ 32 ∷ []) ++ token (get_or moves i d)
    ≡ spelling (take (i + 1) moves)
written_more moves i d below some =
    append_assoc (spelling (take i moves)) (32 ∷ []) (token (get_or moves i d))
    ∙ sym (spelling-more (take i moves) (get_or moves i d)
    (omega (arith, length-take i moves, below, some)))
    ∙ ap spelling (sym (take_more moves i d below))

pub written_first : (moves : List Move) (i : ℕ) (d : Move) → i < length moves → i ≤ 0
    → spelling (take i moves) ++ token (get_or moves i d) ≡ spelling (take (i + 1) moves)
written_first moves zero d below first = ap spelling (sym (take_more moves 0 d below))
written_first moves (suc i) d below first = absurd (omega (arith, first))
