-- Reading from the left gives exactly what the notation says.
use Rattle.std.proofs.Common.{◌≡◌, ◌≢◌, inl, inr, ℕ, zero, suc, ◌+◌, ◌-◌, ◌<◌, ◌≤◌, List, [], ◌∷◌}
use Rattle.std.proofs.Common.{◌++◌, length, take, drop, replicate, refl, sym, ap, ◌∙◌, subst, arith}
use Rattle.std.proofs.Common.{Option, Some, None, Result, Ok, Err, append_assoc, length-append}
use Rattle.std.proofs.Math.Seq.{take-append_seam, drop-append_seam, take-length}
use Rattle.std.proofs.lemmas.List.{append-nil, length_push, length-replicate, take-append-drop}
use Rattle.cube.{specs.declared.moves.Move.Move, proofs.notation.Joined.with_moves_fault}
use Rattle.cube.specs.declared.notation.reading.NotationFault.{NotationFault, TheVariants.NoMemory}
use Rattle.cube.specs.declared.notation.reading.NotationFault.TheVariants.{Empty, BadToken, TooMany}
use Rattle.cube.specs.notation.{Tokens.token, Notation.IsUnlessNoMemory}
use Rattle.cube.specs.notation.Notation.{AreSpaces, Spells, spelling, Leads, BeginsWithSpace}
use Rattle.cube.specs.notation.Notation.{IsBehind, BeginsWithMove, IsBadTokenAt, IsTooMany}
use Rattle.cube.specs.notation.model.Scan.{word_len, space_len, behind_word, behind_spaces}
use Rattle.cube.specs.notation.model.Scan.{move_named, with_move, scan_on, scan}
use Rattle.cube.proofs.notation.{Joined.with_moves, Words.space_some, Words.space_len-replicate}
use Rattle.cube.proofs.notation.Words.{Ends, move_named-token, word_len-token, token_no_space}
use Rattle.cube.proofs.notation.Words.{token_not_empty, named_token, behind_ends, spaces_first}

drop_whole : (xs : List ℕ) → drop (length xs) xs ≡ []
drop_whole [] = refl
drop_whole (x ∷ xs) = drop_whole xs

-- a token, spaces and what is behind them
step_of : (total n : ℕ) (move : Move) (m : ℕ) (rest : List ℕ) → (BeginsWithSpace rest → ⊥)
    → scan total (suc n) (token move ++ (replicate (suc m) 32 ++ rest))
    ≡ with_move move (scan total n rest)
unfolding scan
step_of total n move m rest free =
    let gap : List ℕ = replicate (suc m) 32 in
    let more : List ℕ = gap ++ rest in
    let all : List ℕ = token move ++ more in
    let word : word_len all ≡ length (token move) = word_len-token move more (inr refl) in
    let named : move_named (take (word_len all) all) ≡ Some move =
    ap (λ k. move_named (take k all)) word ∙ ap move_named (take-append_seam (token move) more)
    ∙ move_named-token move in
    let cut : behind_word all ≡ more =
    ap (λ k. drop k all) word ∙ drop-append_seam (token move) more in
    let rest_is : behind_spaces more ≡ rest =
    ap (λ k. drop k more) (space_len-replicate (suc m) rest free
    ∙ sym (length-replicate (suc m) 32))
    ∙ drop-append_seam gap rest in
    ap (λ o. scan_on o (total - length all) (behind_word all)
    (scan total n (behind_spaces (behind_word all)))) named
    ∙ ap (λ x. scan_on (Some move) (total - length all) x (scan total n (behind_spaces x))) cut
    ∙ ap (λ r. with_move move (scan total n r)) rest_is

scan_step : (total n : ℕ) (move : Move) (gap rest : List ℕ) → AreSpaces gap
    → (BeginsWithSpace rest → ⊥) → scan total (suc n) (token move ++ (gap ++ rest))
    ≡ with_move move (scan total n rest)
scan_step total n move gap rest (zero, some, is) free = absurd (omega (arith, some))
scan_step total n move gap rest (suc m, some, is) free =
    ap (λ g. scan total (suc n) (token move ++ (g ++ rest))) is ∙ step_of total n move m rest free

-- the last token
scan_last : (total n : ℕ) (move : Move) → scan total (suc n) (token move) ≡ Ok (move ∷ [])
unfolding scan
scan_last total n move =
    let all : List ℕ = token move in
    let word : word_len all ≡ length all =
    ap word_len (sym (append-nil all)) ∙ word_len-token move [] (inl refl) in
    let named : move_named (take (word_len all) all) ≡ Some move =
    ap (λ k. move_named (take k all)) word ∙ ap move_named (take-length all)
    ∙ move_named-token move in
    let cut : behind_word all ≡ [] = ap (λ k. drop k all) word ∙ drop_whole all in
    ap (λ o. scan_on o (total - length all) (behind_word all)
    (scan total n (behind_spaces (behind_word all)))) named
    ∙ ap (λ x. scan_on (Some move) (total - length all) x (scan total n (behind_spaces x))) cut

no_space : (front : List ℕ) (moves : List Move) (rest : List ℕ) → Leads front moves
    → (BeginsWithSpace rest → ⊥) → BeginsWithSpace (front ++ rest) → ⊥
no_space front [] rest lead free h = free (subst (λ f. BeginsWithSpace (f ++ rest)) lead h)
no_space front (move ∷ moves) rest (gap, further, spaces, parts, lead) free h =
    token_no_space move ((gap ++ further) ++ rest) (subst BeginsWithSpace (ap (λ f. f ++ rest) parts
    ∙ append_assoc (token move) (gap ++ further) rest) h)

-- moves that lead are read, and then the rest is
leads_scan : (total k n : ℕ) (front : List ℕ) (moves : List Move) (rest : List ℕ)
    → Leads front moves → (moves ≢ [] → BeginsWithSpace rest → ⊥) → n ≡ k + length moves
    → scan total n (front ++ rest) ≡ with_moves moves (scan total k rest)
leads_scan total k n front [] rest lead free count =
    ap (λ f. scan total n (f ++ rest)) lead ∙ ap (λ m. scan total m rest) (omega (arith, count))
leads_scan total k zero front (move ∷ moves) rest lead free count = absurd (omega (arith, count))
leads_scan total k (suc n) front (move ∷ moves) rest (
  gap,
  further,
  spaces,
  parts,
  lead,
) free count =
    ap (λ f. scan total (suc n) (f ++ rest)) parts
    ∙ ap (scan total (suc n)) (append_assoc (token move) (gap ++ further) rest
    ∙ ap (λ x. token move ++ x) (append_assoc gap further rest))
    ∙ scan_step total n move gap (further ++ rest) spaces (no_space further moves rest lead
    (free (λ e. cc)))
    ∙ ap (with_move move) (leads_scan total k n further moves rest lead (λ some. free (λ e. cc))
    (omega (arith, count)))

spelled_no_space : (text : List ℕ) (moves : List Move) → Spells text moves
    → BeginsWithSpace text → ⊥
spelled_no_space text [] spelled h = spelled
spelled_no_space text (move ∷ []) spelled h =
    token_no_space move [] (subst BeginsWithSpace (spelled ∙ sym (append-nil (token move))) h)
spelled_no_space text (move ∷ next ∷ moves) (gap, rest, spaces, parts, spelled) h =
    token_no_space move (gap ++ rest) (subst BeginsWithSpace parts h)

-- what is spelled is read
pub spells_scan : (total n : ℕ) (text : List ℕ) (moves : List Move) → Spells text moves
    → length moves ≤ n → scan total n text ≡ Ok moves
spells_scan total n text [] spelled few = absurd spelled
spells_scan total zero text (move ∷ moves) spelled few = absurd (omega (arith, few))
spells_scan total (suc n) text (move ∷ []) spelled few =
    ap (scan total (suc n)) spelled ∙ scan_last total n move
spells_scan total (suc n) text (move ∷ next ∷ moves) (gap, rest, spaces, parts, spelled) few =
    ap (scan total (suc n)) parts
    ∙ scan_step total n move gap rest spaces (spelled_no_space rest (next ∷ moves) spelled)
    ∙ ap (with_move move) (spells_scan total n rest (next ∷ moves) spelled (omega (arith, few)))

-- where no move is, none is named
no_move : (rest : List ℕ) → (BeginsWithMove rest → ⊥)
    → move_named (take (word_len rest) rest) ≡ None
no_move rest none = at (move_named (take (word_len rest) rest)) refl
  where
    at : (o : Option Move) → move_named (take (word_len rest) rest) ≡ o → o ≡ None
    at None e = refl
    at (Some move) e =
        absurd (none (
          move,
          drop (word_len rest) rest,
          sym (take-append-drop (word_len rest) rest)
              ∙ ap (λ x. x ++ drop (word_len rest) rest) (named_token _ move e),
          behind_ends rest,
        ))

end_scan : (total at n : ℕ) (rest : List ℕ) → at + length rest ≡ total → (BeginsWithMove rest → ⊥)
    → (n ≡ 0 → rest ≡ []) → scan total n rest ≡ Err (BadToken at)
unfolding scan
end_scan total at zero rest offset none last =
    let empty : rest ≡ [] = last refl in
    ap (λ r. scan total zero r) empty ∙ ap (λ n. Err (BadToken n)) (omega (
      arith,
      sym offset
          ∙ ap (λ r. at + length r) empty,
    ))
end_scan total at (suc n) rest offset none last =
    ap (λ o. scan_on o (total - length rest) (behind_word rest)
    (scan total n (behind_spaces (behind_word rest)))) (no_move rest none)
    ∙ ap (λ n. Err (BadToken n)) (omega (arith, offset))

-- a token that is nowhere is told
pub bad_scan : (text : List ℕ) (at : ℕ) → IsBadTokenAt text at → scan (length text) 400 text
    ≡ Err (BadToken at)
bad_scan text at bad =
    let k = 400 - length bad.moves in
    ap (scan (length text) 400) bad.behind.parts
    ∙ leads_scan (length text) k 400 bad.behind.front bad.moves bad.rest bad.behind.tokens
    bad.behind.spaced (omega (arith, bad.few))
    ∙ ap (with_moves bad.moves) (end_scan (length text) at k bad.rest bad.offset bad.none
    (λ full. bad.last (omega (arith, full, bad.few))))
    ∙ with_moves_fault bad.moves (BadToken at)

more_scan : (total : ℕ) (rest : List ℕ) → rest ≢ [] → scan total 0 rest ≡ Err TooMany
unfolding scan
more_scan total [] some = absurd (some refl)
more_scan total (c ∷ cs) some = refl

-- too many moves are told
pub many_scan : (text : List ℕ) → IsTooMany text → scan (length text) 400 text ≡ Err TooMany
many_scan text many =
    ap (scan (length text) 400) many.behind.parts
    ∙ leads_scan (length text) 0 400 many.behind.front many.moves many.rest many.behind.tokens
    many.behind.spaced (omega (arith, many.many))
    ∙ ap (with_moves many.moves) (more_scan (length text) many.rest many.more)
    ∙ with_moves_fault many.moves TooMany

-- one more token, and spaces behind it
leads_more : (front : List ℕ) (moves : List Move) (move : Move) (gap : List ℕ) → Leads front moves
    → AreSpaces gap → Leads (front ++ (token move ++ gap)) (moves ++ move ∷ [])
leads_more front [] move gap lead spaces = (
  gap,
  [],
  spaces,
  ap (λ f. f ++ (token move ++ gap)) lead
      ∙ ap (λ g. token move ++ g) (sym (append-nil gap)),
  refl,
)
leads_more front (first ∷ moves) move gap (between, further, apart, parts, lead) spaces =
    let z = token move ++ gap in (
      between,
      further ++ z,
      apart,
      ap (λ f. f ++ z) parts
          ∙ append_assoc (token first) (between ++ further) z
          ∙ ap (λ q. token first ++ q) (append_assoc between further z),
      leads_more further moves move gap lead spaces,
    )

-- one more token, and then the end
leads_spells : (front : List ℕ) (moves : List Move) (move : Move) → Leads front moves
    → Spells (front ++ token move) (moves ++ move ∷ [])
leads_spells front [] move lead = ap (λ f. f ++ token move) lead
leads_spells front (first ∷ []) move (between, further, apart, parts, lead) = (
  between,
  further ++ token move,
  apart,
  ap (λ f. f ++ token move) parts
      ∙ append_assoc (token first) (between ++ further) (token move)
      ∙ ap (λ q. token first ++ q) (append_assoc between further (token move)),
  leads_spells further [] move lead,
)
leads_spells front (first ∷ next ∷ moves) move (between, further, apart, parts, lead) = (
  between,
  further ++ token move,
  apart,
  ap (λ f. f ++ token move) parts
      ∙ append_assoc (token first) (between ++ further) (token move)
      ∙ ap (λ q. token first ++ q) (append_assoc between further (token move)),
  leads_spells further (next ∷ moves) move lead,
)

-- what an answer says, where these moves are read already
abbrev Sound : List ℕ → List Move → Result (List Move) NotationFault → Type 0
Sound text moves (Ok more) = Spells text (moves ++ more) × (length (moves ++ more) ≤ 400)
Sound text moves (Err Empty) = ⊥
Sound text moves (Err (BadToken at)) = IsBadTokenAt text at
Sound text moves (Err TooMany) = IsTooMany text
Sound text moves (Err NoMemory) = ⊥

sound_front : (text : List ℕ) (moves : List Move) (move : Move)
    (answer : Result (List Move) NotationFault) → Sound text (moves ++ move ∷ []) answer
    → Sound text moves (with_move move answer)
sound_front text moves move (Ok more) h =
    subst (λ all. Spells text all × (length all ≤ 400)) (append_assoc moves (move ∷ []) more) h
sound_front text moves move (Err Empty) h = h
sound_front text moves move (Err (BadToken at)) h = h
sound_front text moves move (Err TooMany) h = h
sound_front text moves move (Err NoMemory) h = h

within : (moves : List Move) (text rest : List ℕ) → IsBehind moves text rest
    → length rest ≤ length text
within moves text rest behind =
    omega (arith, ap length behind.parts, length-append behind.front rest)

sound_end : (text : List ℕ) → text ≢ [] → (moves : List Move) (rest : List ℕ)
    → IsBehind moves text rest → length moves ≡ 400 → Sound text moves (scan (length text) 0 rest)
unfolding scan
sound_end text some moves [] behind full = record {
  some_text = some;
  moves = moves;
  rest = [];
  behind = behind;
  offset = omega arith;
  none = λ begins. token_not_empty begins.0 begins.1 (sym begins.2);
  few = omega (arith, full);
  last = λ _. refl;
}
sound_end text some moves (c ∷ cs) behind full =
    record { moves = moves; rest = c ∷ cs; behind = behind; many = full; more = λ e. cc }

-- where a move is it is named
begins_named : (rest : List ℕ) → BeginsWithMove rest → (move : Move)
    × (move_named (take (word_len rest) rest) ≡ Some move)
begins_named rest (move, more, parts, ends) = (
  move,
  ap (λ r. move_named (take (word_len r) r)) parts
      ∙ ap (λ k. move_named (take k (token move ++ more))) (word_len-token move more ends)
      ∙ ap move_named (take-append_seam (token move) more) ∙ move_named-token move,
)

-- behind a token that is not the last there are spaces
behind_more : (text : List ℕ) (moves : List Move) (rest : List ℕ) (move : Move)
    → IsBehind moves text rest → take (word_len rest) rest ≡ token move
    → BeginsWithSpace (behind_word rest)
    → IsBehind (moves ++ move ∷ []) text (behind_spaces (behind_word rest))
behind_more text moves rest move behind word spaces =
    let more : List ℕ = behind_word rest in
    let g = space_len more in
    let gap : List ℕ = take g more in
    let first = spaces_first more in
    let split : rest ≡ token move ++ (gap ++ behind_spaces more) =
    sym (take-append-drop (word_len rest) rest) ∙ ap (λ x. x ++ more) word
    ∙ ap (λ x. token move ++ x) (sym (take-append-drop g more)) in
    record {
      front = behind.front ++ (token move ++ gap);
      parts = behind.parts ∙ ap (λ r. behind.front ++ r) (split
          ∙ sym (append_assoc (token move) gap (behind_spaces more)))
          ∙ sym (append_assoc behind.front (token move ++ gap) (behind_spaces more));
      tokens =
          leads_more behind.front moves move gap behind.tokens (g, space_some more spaces, first.0);
      spaced = λ _. first.1;
    }

begins_of : (bytes : List ℕ) (c : ℕ) (cs : List ℕ) → bytes ≡ c ∷ cs → Ends bytes
    → BeginsWithSpace bytes
begins_of bytes c cs e (inl none) = let no : [] ≡ c ∷ cs = sym none ∙ e in cc
begins_of bytes c cs e (inr space) = space

-- whatever is read is true
pub sound : (text : List ℕ) → text ≢ [] → (n : ℕ) (moves : List Move) (rest : List ℕ)
    → IsBehind moves text rest → n + length moves ≡ 400
    → Sound text moves (scan (length text) n rest)
unfolding scan
sound text some zero moves rest behind count =
    sound_end text some moves rest behind (omega (arith, count))
sound text some (suc n) moves rest behind count =
    at (move_named (take (word_len rest) rest)) refl (behind_word rest) refl
    (λ move next. sound text some n (moves ++ move ∷ []) (behind_spaces (behind_word rest)) next
    (omega (arith, count, length_push moves move)))
  where
    at : (o : Option Move) → move_named (take (word_len rest) rest) ≡ o → (more : List ℕ)
        → behind_word rest ≡ more
        → ((move : Move) → IsBehind (moves ++ move ∷ []) text (behind_spaces (behind_word rest))
        → Sound text (moves ++ move ∷ [])
        (scan (length text) n (behind_spaces (behind_word rest))))
        → Sound text moves (scan_on o (length text - length rest) more
        (scan (length text) n (behind_spaces (behind_word rest))))
    at None e more f next = record {
      some_text = some;
      moves = moves;
      rest = rest;
      behind = behind;
      offset = omega (arith, within moves text rest behind);
      none = λ begins. (let found = begins_named rest begins in let no : None ≡ Some found.0 = sym e
          ∙ found.1 in cc);
      few = omega (arith, count);
      last = λ full. absurd (omega (arith, count, full));
    }
    at (Some move) e [] f next =
        let last : rest ≡ token move =
        sym (take-append-drop (word_len rest) rest) ∙ ap (λ x. take (word_len rest) rest ++ x) f
        ∙ append-nil (take (word_len rest) rest) ∙ named_token _ move e in (
          subst (λ t. Spells t (moves ++ move ∷ [])) (ap (λ r. behind.front ++ r) (sym last)
              ∙ sym behind.parts) (leads_spells behind.front moves move behind.tokens),
          omega (arith, count, length_push moves move),
        )
    at (Some move) e (c ∷ cs) f next =
        sound_front text moves move (scan (length text) n (behind_spaces (behind_word rest)))
        (next move (behind_more text moves rest move behind (named_token _ move e)
        (begins_of (behind_word rest) c cs f (behind_ends rest))))

-- what is read of a text that is not empty
pub sound_text : (text : List ℕ) → text ≢ [] → Sound text [] (scan (length text) 400 text)
sound_text text some =
    sound text some 400 [] text (record {
      front = [];
      parts = refl;
      tokens = refl;
      spaced = λ no. absurd (no refl);
    }) refl

-- what a result says, where it is what is read of the text unless memory ran out
abbrev pub ReadsText : List ℕ → Result (List Move) NotationFault → Type 0
ReadsText text result = IsUnlessNoMemory result (scan (length text) 400 text)

told : (text : List ℕ) → text ≢ [] → (result answer : Result (List Move) NotationFault)
    → ReadsText text result → result ≡ answer → (answer ≡ Err NoMemory → ⊥) → Sound text [] answer
told text some result answer (inl reads) is other =
    subst (Sound text []) (sym reads ∙ is) (sound_text text some)
told text some result answer (inr spent) is other = absurd (other (sym is ∙ spent))

pub told_moves : (text : List ℕ) → text ≢ [] → (result : Result (List Move) NotationFault)
    → ReadsText text result → (moves : List Move) → result ≡ Ok moves → Spells text moves
    × (length moves ≤ 400)
told_moves text some result reads moves is = told text some result (Ok moves) reads is (λ e. cc)

pub told_bad : (text : List ℕ) → text ≢ [] → (result : Result (List Move) NotationFault)
    → ReadsText text result → (at : ℕ) → result ≡ Err (BadToken at) → IsBadTokenAt text at
told_bad text some result reads at is = told text some result (Err (BadToken at)) reads is (λ e. cc)

pub told_many : (text : List ℕ) → text ≢ [] → (result : Result (List Move) NotationFault)
    → ReadsText text result → result ≡ Err TooMany → IsTooMany text
told_many text some result reads is = told text some result (Err TooMany) reads is (λ e. cc)

pub told_empty : (text : List ℕ) → text ≢ [] → (result : Result (List Move) NotationFault)
    → ReadsText text result → result ≡ Err Empty → ⊥
told_empty text some result reads is = told text some result (Err Empty) reads is (λ e. cc)

pub reads_as : (text : List ℕ) (result answer : Result (List Move) NotationFault)
    → ReadsText text result → scan (length text) 400 text ≡ answer → IsUnlessNoMemory result answer
reads_as text result answer (inl reads) e = inl (reads ∙ e)
reads_as text result answer (inr spent) e = inr spent

-- nothing is spelled by the empty text, and nothing is too much in it
pub empty_spells : (moves : List Move) → Spells [] moves → ⊥
empty_spells [] spelled = spelled
empty_spells (move ∷ []) spelled = token_not_empty move [] (append-nil (token move) ∙ sym spelled)
empty_spells (move ∷ next ∷ moves) (gap, rest, spaces, parts, spelled) =
    token_not_empty move (gap ++ rest) (sym parts)

pub empty_many : IsTooMany [] → ⊥
empty_many many = many.more (behind_nothing many.behind.front many.rest (sym many.behind.parts))
  where
    behind_nothing : (front rest : List ℕ) → front ++ rest ≡ [] → rest ≡ []
    behind_nothing [] rest e = e
    behind_nothing (c ∷ front) rest e = cc

-- what is printed is spelled
pub spelling_spells : (moves : List Move) → 0 < length moves → Spells (spelling moves) moves
spelling_spells [] some = absurd (omega (arith, some))
spelling_spells (move ∷ []) some = refl
spelling_spells (move ∷ next ∷ moves) some = (
  32 ∷ [],
  spelling (next ∷ moves),
  (1, omega arith, refl),
  refl,
  spelling_spells (next ∷ moves) (omega arith),
)

ok_same : (a b : List Move) (x y : Result (List Move) NotationFault) → x ≡ Ok a → y ≡ Ok b
    → x ≡ y → a ≡ b
ok_same a b x y p q h = cc

-- no text spells two lists
pub spells_once : (text : List ℕ) (a b : List Move) → Spells text a → Spells text b → a ≡ b
spells_once text a b p q =
    ok_same a b _ _ (spells_scan 0 (length a + length b) text a p (omega arith))
    (spells_scan 0 (length a + length b) text b q (omega arith)) refl
