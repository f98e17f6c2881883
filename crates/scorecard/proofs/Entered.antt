-- What was entered, as a page fills a field in with it, is read back.
use Rattle.std.proofs.Common.{◌≡◌, ℕ, zero, suc, ◌*◌, ◌<◌, ◌≤◌, inl, inr, true, false, ◌==◌, not}
use Rattle.std.proofs.Common.{List, [], ◌∷◌, ◌++◌, length, get_or, codes, decimal, refl, sym, ap}
use Rattle.std.proofs.Common.{◌∙◌, subst, arith, append_assoc}
use Rattle.std.specs.{Char.is_ascii_whitespace, List.list_all}
use Rattle.std.proofs.lemmas.{Bool.Decides.nat_tests, List.append-nil, List.Folds.list_all-append}
use Rattle.attempts.specs.{declared.Unit.Unit as Measure, Texts.multi_text, Texts.time_text}
use Rattle.attempts.specs.declared.Unit.TheVariants.{Time, Moves, Multi}
use Rattle.cube.specs.declared.moves.{Side.Side, Axis.Axis, Kind.Kind, Quarter.Quarter, Move.Move}
use Rattle.cube.specs.declared.moves.Side.TheVariants.{U, R, F, D, L, B}
use Rattle.cube.specs.declared.moves.Axis.TheVariants.{X, Y, Z}
use Rattle.cube.specs.declared.moves.Kind.TheVariants.{Face, Block, Turn}
use Rattle.cube.specs.declared.moves.Quarter.TheVariants.{Clockwise, Half, Anticlockwise}
use Rattle.cube.specs.notation.Notation.{Spells as SpellsMoves, spelling}
use Rattle.cube.specs.notation.Tokens.{axis_letter, mark, side_letter, stem, token}
use Rattle.cube.proofs.notation.Scanning.{spelling_spells}
use Rattle.texts.proofs.Cuts.{and-true, lacks}
use Rattle.texts.specs.{declared.command.Entered.Entered, Spelling.IsEntered}
use Rattle.scorecard.specs.Laws.{EnteredReadsBack, IsEnteredIn}
use Rattle.scorecard.specs.Spelling.{IsPenalty, IsTimed, Spells, SpellsBare, mended, trimmed}
use Rattle.scorecard.specs.Typed.{entered_typed, penalty_text}
use Rattle.scorecard.proofs.{Begins.multi_begins, Sheets.trimmed_same, Starts.mended_first}
use Rattle.scorecard.proofs.Sheets.{HasEnds, multi_ends, multi_spelled, number_ends, time_spelled}
use Rattle.texts.specs.declared.command.Entered.TheVariants as entered

-- a text with no white space around it spells what it spells without it
bare : (unit : Measure) (text : List ℕ) (x : Entered) → HasEnds text → SpellsBare unit text x
    → Spells unit text x
bare unit text x ends h =
    subst (λ (t : List ℕ). SpellsBare unit t x) (sym (trimmed_same text ends)) h

-- ---- times

first_stays : (text more : List ℕ) → HasEnds text → get_or (text ++ more) 0 0 ≡ get_or text 0 0
first_stays [] more h = absurd (nothing h.front h.parts)
  where
    nothing : (front : List ℕ) → [] ≡ front ++ h.last ∷ [] → ⊥
    nothing [] e = cc
    nothing (b ∷ front) e = cc
first_stays (b ∷ text) more h = refl

-- one text after another
after : (text more : List ℕ) → HasEnds text → HasEnds more → HasEnds (text ++ more)
after text more h k = record {
  first = ap is_ascii_whitespace (first_stays text more h) ∙ h.first;
  front = text ++ k.front;
  last = k.last;
  parts =
      ap (λ y. text ++ y) k.parts ∙ sym (append_assoc text k.front (k.last ∷ []));
  end = k.end;
}

plus_ends : HasEnds (codes "+")
plus_ends = record { first = refl; front = []; last = 43; parts = refl; end = refl }

penalty_is : (p : ℕ) → p ≤ 9 → IsPenalty (penalty_text p) p
penalty_is zero few = inl (refl, refl)
penalty_is (suc n) few = inr (inr (inr (refl, omega arith, few)))

timed_ends : (t p : ℕ) → HasEnds (time_text t) → p ≤ 9 → HasEnds (time_text t ++ penalty_text p)
timed_ends t zero ends few = subst HasEnds (sym (append-nil (time_text t))) ends
timed_ends t (suc n) ends few =
    after (time_text t) (penalty_text (suc n)) ends
    (after (codes "+") (decimal (2 * suc n)) plus_ends (number_ends (2 * suc n) (omega arith)))

time_back : (t p : ℕ) → 1 ≤ t → t ≤ 999999 → p ≤ 9
    → Spells Time (entered_typed (entered.Time t p)) (entered.Time t p)
time_back t p some most few =
    let spelled = time_spelled t some most in
    bare Time (time_text t ++ penalty_text p) (entered.Time t p) (timed_ends t p spelled.0 few)
    (record {
      front = time_text t;
      mark = penalty_text p;
      parts = refl;
      timed = spelled.1;
      marked = penalty_is p few;
    })

-- ---- results of multi-blind

multi_back : (s a t : ℕ) → IsEntered (entered.Multi s a t)
    → Spells Multi (multi_text s a t) (entered.Multi s a t)
multi_back s a t fits =
    let spelled = multi_spelled s a t fits.1.0 fits.1.1 fits.0.1 fits.2.0 fits.2.1 in
    bare Multi (multi_text s a t) (entered.Multi s a t)
    (multi_ends s a t (multi_begins (multi_text s a t) s a t spelled)) spelled

-- ---- solutions

-- no byte of a token is the first one of a typographic apostrophe
side_lacks : (s : Side) → lacks 226 (side_letter s) ≡ true
side_lacks U = refl
side_lacks _ = refl

axis_lacks : (a : Axis) → lacks 226 (axis_letter a) ≡ true
axis_lacks X = refl
axis_lacks _ = refl

both_lack : (xs ys : List ℕ) → lacks 226 xs ≡ true → lacks 226 ys ≡ true
    → lacks 226 (xs ++ ys) ≡ true
both_lack xs ys h k = list_all-append (λ b. not (b == 226)) xs ys ∙ rw (h, k) refl

stem_lacks : (k : Kind) → lacks 226 (stem k) ≡ true
stem_lacks (Face s) = side_lacks s
stem_lacks (Block s) = both_lack (side_letter s) (codes "w") (side_lacks s) refl
stem_lacks (Turn a) = axis_lacks a

mark_lacks : (q : Quarter) → lacks 226 (mark q) ≡ true
mark_lacks Clockwise = refl
mark_lacks _ = refl

token_lacks : (m : Move) → lacks 226 (token m) ≡ true
token_lacks m =
    both_lack (stem m.kind) (mark m.quarter) (stem_lacks m.kind) (mark_lacks m.quarter)

moves_lack : (moves : List Move) → lacks 226 (spelling moves) ≡ true
moves_lack [] = refl
moves_lack (m ∷ []) = token_lacks m
moves_lack (m ∷ n ∷ moves) =
    both_lack (token m) (32 ∷ spelling (n ∷ moves)) (token_lacks m) (moves_lack (n ∷ moves))

mended_same : (text : List ℕ) → lacks 226 text ≡ true → mended text ≡ text
mended_same [] h = refl
mended_same (b ∷ bs) h =
    let both = and-true (not (b == 226)) (lacks 226 bs) h in
    let other = both.0 in
    let plain : (226 == b) ≡ false = grind (arith, nat_tests) in
    mended_first b bs plain ∙ ap (λ y. b ∷ y) (mended_same bs both.1)

side_ends : (s : Side) → HasEnds (side_letter s)
side_ends U = record { first = refl; front = []; last = 85; parts = refl; end = refl }
side_ends R = record { first = refl; front = []; last = 82; parts = refl; end = refl }
side_ends F = record { first = refl; front = []; last = 70; parts = refl; end = refl }
side_ends D = record { first = refl; front = []; last = 68; parts = refl; end = refl }
side_ends L = record { first = refl; front = []; last = 76; parts = refl; end = refl }
side_ends B = record { first = refl; front = []; last = 66; parts = refl; end = refl }

axis_ends : (a : Axis) → HasEnds (axis_letter a)
axis_ends X = record { first = refl; front = []; last = 120; parts = refl; end = refl }
axis_ends Y = record { first = refl; front = []; last = 121; parts = refl; end = refl }
axis_ends Z = record { first = refl; front = []; last = 122; parts = refl; end = refl }

stem_ends : (k : Kind) → HasEnds (stem k)
stem_ends (Face s) = side_ends s
stem_ends (Block s) =
    after (side_letter s) (codes "w") (side_ends s)
    (record { first = refl; front = []; last = 119; parts = refl; end = refl })
stem_ends (Turn a) = axis_ends a

by_mark : (text : List ℕ) (q : Quarter) → HasEnds text → HasEnds (text ++ mark q)
by_mark text Clockwise ends = subst HasEnds (sym (append-nil text)) ends
by_mark text Half ends =
    after text (codes "2") ends
    (record { first = refl; front = []; last = 50; parts = refl; end = refl })
by_mark text Anticlockwise ends =
    after text (codes "'") ends
    (record { first = refl; front = []; last = 39; parts = refl; end = refl })

token_ends : (m : Move) → HasEnds (token m)
token_ends m = by_mark (stem m.kind) m.quarter (stem_ends m.kind)

-- a space, and a text
spaced : (text more : List ℕ) → HasEnds text → HasEnds more → HasEnds (text ++ 32 ∷ more)
spaced text more h k = record {
  first = ap is_ascii_whitespace (first_stays text (32 ∷ more) h) ∙ h.first;
  front = text ++ 32 ∷ k.front;
  last = k.last;
  parts =
      ap (λ y. text ++ 32 ∷ y) k.parts ∙ sym (append_assoc text (32 ∷ k.front) (k.last ∷ []));
  end = k.end;
}

moves_ends : (moves : List Move) → 0 < length moves → HasEnds (spelling moves)
moves_ends [] some = absurd (omega (arith, some))
moves_ends (m ∷ []) some = token_ends m
moves_ends (m ∷ n ∷ moves) some =
    spaced (token m) (spelling (n ∷ moves)) (token_ends m) (moves_ends (n ∷ moves) (omega arith))

moves_back : (moves : List Move) → 1 ≤ length moves → length moves ≤ 400
    → Spells Moves (spelling moves) (entered.Solution moves)
moves_back moves some few =
    bare Moves (spelling moves) (entered.Solution moves) (moves_ends moves (omega arith)) (record {
      tokens =
          subst (λ (t : List ℕ). SpellsMoves t moves)
          (sym (mended_same (spelling moves) (moves_lack moves)))
          (spelling_spells moves (omega arith));
      few = few;
    })

-- ---- all of them

back : (unit : Measure) (x : Entered) → IsEntered x → IsEnteredIn unit x
    → Spells unit (entered_typed x) x
unfolding trimmed
back Time (entered.Time t p) fits is = time_back t p fits.0.0 fits.0.1 fits.1.1
back Moves (entered.Solution moves) fits is = moves_back moves fits.0 fits.1
back Multi (entered.Multi s a t) fits is = multi_back s a t fits
back Time entered.Dnf fits is = refl
back Moves entered.Dnf fits is = refl
back Multi entered.Dnf fits is = refl
back Time entered.Dns fits is = refl
back Moves entered.Dns fits is = refl
back Multi entered.Dns fits is = refl
back _ _ fits is = absurd is

pub entered_back : EnteredReadsBack
entered_back unit x fits is = back unit x fits is
