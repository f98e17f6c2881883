-- Which bytes are in the spellings of fields.
use Rattle.std.proofs.Common.{◌≡◌, ℕ, ◌<◌, Bool, true, false, ◌&&◌, ◌==◌, not, List, [], ◌∷◌, ◌++◌}
use Rattle.std.proofs.Common.{map, All, get_or, codes, decimal, bytes_eq, Option, Some, None, refl}
use Rattle.std.proofs.Common.{sym, ap, ◌∙◌, arith, eqb-true}
use Rattle.std.specs.{Char.is_ascii_digit, List.list_all, List.join_with_byte, Prelude.IfSome}
use Rattle.std.proofs.lemmas.Bool.{false≢true}
use Rattle.std.proofs.lemmas.{Bool.Decides.nat_tests, List.Folds.list_all-append}
use Rattle.std.proofs.lemmas.List.Elements.{All-head, All-map, All-tail}
use Rattle.cube.specs.declared.moves.{Side.Side, Side.TheVariants.U, Kind.Kind, Move.Move}
use Rattle.cube.specs.declared.moves.{Axis.Axis, Quarter.Quarter, Quarter.TheVariants.Clockwise}
use Rattle.cube.specs.{declared.moves.Axis.TheVariants.X, notation.Notation.spelling as moves_text}
use Rattle.cube.specs.declared.moves.Kind.TheVariants.{Face, Block, Turn}
use Rattle.cube.specs.notation.Tokens.{side_letter, axis_letter, stem, mark, token}
use Rattle.formats.specs.{declared.advance.Advance.Advance, Events.event_name, Events.format_name}
use Rattle.formats.specs.declared.advance.Advance.TheVariants.{Final, Top, Percent}
use Rattle.formats.specs.declared.events.Event.{Event, TheVariants.Cube3}
use Rattle.formats.specs.declared.events.Format.{Format, TheVariants.Ao5}
use Rattle.attempts.specs.declared.Value.{Value}
use Rattle.texts.specs.{declared.command.Entered.Entered, Names.is_name_byte}
use Rattle.texts.specs.declared.command.Entered.TheVariants.{Time, Solution, Multi, Dnf, Dns}
use Rattle.texts.specs.Spelling.{IsCounted, IsEntered, IsFitAdvance, IsFitCutoff, IsFitLimit}
use Rattle.texts.specs.Spelling.{advance_text, counted_text, cutoff_text, entered_text, limit_text}
use Rattle.texts.specs.Spelling.{now_text, stays_or_text, was_text}
use Rattle.texts.proofs.Cuts.{and-true, lacks}
use Rattle.texts.proofs.{FieldSpellings.decimal_digits, Spelled.bytes_eq-equal}
use Rattle.attempts.specs.declared.Value.TheVariants as counted

-- ---- tests of bytes

-- no control character, and no `#`
abbrev pub is_plain : ℕ → Bool
is_plain b = is_name_byte b && not (b == 35)

-- besides no `-` and no `/`
abbrev pub is_inner : ℕ → Bool
is_inner b = is_plain b && not (b == 45) && not (b == 47)

-- besides no space and no `,`
abbrev pub is_counted : ℕ → Bool
is_counted b = is_inner b && not (b == 32) && not (b == 44)

pub weaker : (p q : ℕ → Bool) → ((b : ℕ) → p b ≡ true → q b ≡ true) → (bytes : List ℕ)
    → list_all p bytes ≡ true → list_all q bytes ≡ true
weaker p q each [] h = refl
weaker p q each (b ∷ bytes) h =
    let both = and-true (p b) (list_all p bytes) h in
    rw (each b both.0, weaker p q each bytes both.1) refl

-- a byte that fails a test is none of a text that passes it
pub passes_lack : (p : ℕ → Bool) (by : ℕ) → p by ≡ false → (bytes : List ℕ)
    → list_all p bytes ≡ true → lacks by bytes ≡ true
passes_lack p by fails bytes h = weaker p (λ b. not (b == by)) each bytes h
  where
    each : (b : ℕ) → p b ≡ true → not (b == by) ≡ true
    each b passes = step (b == by) refl
      where
        step : (t : Bool) → (b == by) ≡ t → not t ≡ true
        step false is = refl
        step true is = absurd (false≢true (sym fails ∙ ap p (sym (eqb-true b by is)) ∙ passes))

pub inner_plain : (bytes : List ℕ) → list_all is_inner bytes ≡ true
    → list_all is_plain bytes ≡ true
inner_plain bytes h =
    weaker is_inner is_plain
    (λ b x. (and-true _ _ (and-true _ _ x).0).0) bytes h

pub counted_inner : (bytes : List ℕ) → list_all is_counted bytes ≡ true
    → list_all is_inner bytes ≡ true
counted_inner bytes h =
    weaker is_counted is_inner
    (λ b x. (and-true _ _ (and-true _ _ x).0).0) bytes h

pub both_pass : (p : ℕ → Bool) (xs ys : List ℕ) → list_all p xs ≡ true → list_all p ys ≡ true
    → list_all p (xs ++ ys) ≡ true
both_pass p xs ys front back = list_all-append p xs ys ∙ rw (front, back) refl

-- texts that pass, with a byte between that passes
pub joined_pass : (p : ℕ → Bool) (by : ℕ) → p by ≡ true → (texts : List (List ℕ))
    → All (λ text. list_all p text ≡ true) texts → list_all p (join_with_byte by texts) ≡ true
joined_pass p by between [] h = refl
joined_pass p by between (t ∷ []) h = All-head (λ text. list_all p text ≡ true) t [] h
joined_pass p by between (t ∷ u ∷ texts) h =
    let each : All (λ text. list_all p text ≡ true) (u ∷ texts) =
    All-tail (λ text. list_all p text ≡ true) t (u ∷ texts) h in
    let later : list_all p (by ∷ join_with_byte by (u ∷ texts)) ≡ true =
    rw (between, joined_pass p by between (u ∷ texts) each) refl in
    both_pass p t (by ∷ join_with_byte by (u ∷ texts))
    (All-head (λ text. list_all p text ≡ true) t (u ∷ texts) h) later

-- a text without `-` is not `-`
pub no_dash : (bytes : List ℕ) → lacks 45 bytes ≡ true → bytes_eq bytes (codes "-") ≡ false
no_dash bytes h = step (bytes_eq bytes (codes "-")) refl
  where
    step : (b : Bool) → bytes_eq bytes (codes "-") ≡ b → b ≡ false
    step false is = refl
    step true is =
        absurd
        (false≢true (sym (ap (lacks 45) (bytes_eq-equal bytes (codes "-") is)) ∙ h))

-- ---- numbers

digit_counted : (b : ℕ) → is_ascii_digit b ≡ true → is_counted b ≡ true
digit_counted b digit = grind (arith, nat_tests, digit)

pub number_counted : (n : ℕ) → n < 10000000000000000000 → list_all is_counted (decimal n) ≡ true
number_counted n small =
    weaker is_ascii_digit is_counted digit_counted (decimal n) (decimal_digits n small)

number_inner : (n : ℕ) → n < 10000000000000000000 → list_all is_inner (decimal n) ≡ true
number_inner n small = counted_inner (decimal n) (number_counted n small)

pub number_plain : (n : ℕ) → n < 10000000000000000000 → list_all is_plain (decimal n) ≡ true
number_plain n small = inner_plain (decimal n) (number_inner n small)

-- ---- moves

side_inner : (s : Side) → list_all is_inner (side_letter s) ≡ true
side_inner U = refl
side_inner _ = refl

axis_inner : (a : Axis) → list_all is_inner (axis_letter a) ≡ true
axis_inner X = refl
axis_inner _ = refl

stem_inner : (k : Kind) → list_all is_inner (stem k) ≡ true
stem_inner (Face s) = side_inner s
stem_inner (Block s) = both_pass is_inner (side_letter s) (codes "w") (side_inner s) refl
stem_inner (Turn a) = axis_inner a

mark_inner : (q : Quarter) → list_all is_inner (mark q) ≡ true
mark_inner Clockwise = refl
mark_inner _ = refl

token_inner : (m : Move) → list_all is_inner (token m) ≡ true
token_inner m =
    both_pass is_inner (stem m.kind) (mark m.quarter) (stem_inner m.kind) (mark_inner m.quarter)

moves_inner : (moves : List Move) → list_all is_inner (moves_text moves) ≡ true
moves_inner moves =
    joined_pass is_inner 32 refl (map token moves)
    (All-map (λ text. list_all is_inner text ≡ true) token moves
    (λ k d less. token_inner (get_or moves k d)))

pub moves_plain : (moves : List Move) → list_all is_plain (moves_text moves) ≡ true
moves_plain moves = inner_plain (moves_text moves) (moves_inner moves)

-- ---- what a judge enters

pair_inner : (a b : ℕ) → a < 10000000000000000000 → b < 10000000000000000000
    → list_all is_inner (decimal a ++ codes ":" ++ decimal b) ≡ true
pair_inner a b small small' =
    both_pass is_inner (decimal a ++ codes ":") (decimal b)
    (both_pass is_inner (decimal a) (codes ":") (number_inner a small) refl)
    (number_inner b small')

pub entered_inner : (x : Entered) → IsEntered x → list_all is_inner (entered_text x) ≡ true
entered_inner (Time t p) fits =
    both_pass is_inner ((codes "T:" ++ decimal t) ++ codes ":") (decimal p)
    (both_pass is_inner (codes "T:" ++ decimal t) (codes ":")
    (both_pass is_inner (codes "T:") (decimal t) refl (number_inner t (omega arith))) refl)
    (number_inner p (omega arith))
entered_inner (Solution moves) fits =
    both_pass is_inner (codes "S:") (moves_text moves) refl (moves_inner moves)
entered_inner (Multi s a t) fits =
    both_pass is_inner ((codes "M:" ++ decimal s) ++ codes ":")
    (decimal a ++ codes ":" ++ decimal t)
    (both_pass is_inner (codes "M:" ++ decimal s) (codes ":")
    (both_pass is_inner (codes "M:") (decimal s) refl
    (number_inner s (omega (arith, fits.0.1, fits.1.1)))) refl)
    (pair_inner a t (omega (arith, fits.1.1)) (omega (arith, fits.2.1)))
entered_inner Dnf fits = refl
entered_inner Dns fits = refl

pub entered_plain : (x : Entered) → IsEntered x → list_all is_plain (entered_text x) ≡ true
entered_plain x fits = inner_plain (entered_text x) (entered_inner x fits)

-- ---- scorecards

pub counts_counted : (v : Value) → IsCounted v → list_all is_counted (counted_text v) ≡ true
counts_counted (counted.Number n) fits = number_counted n (omega arith)
counts_counted counted.Dnf fits = refl
counts_counted counted.Dns fits = refl

pub was_pass : (p : ℕ → Bool) → p 45 ≡ true → p 44 ≡ true
    → ((b : ℕ) → is_counted b ≡ true → p b ≡ true) → (vs : List Value) → All IsCounted vs
    → list_all p (was_text vs) ≡ true
was_pass p dash comma each [] fits = rw dash refl
was_pass p dash comma each (v ∷ vs) fits =
    joined_pass p 44 comma (map counted_text (v ∷ vs))
    (All-map (λ text. list_all p text ≡ true) counted_text (v ∷ vs)
    (λ k d less. passes (get_or (v ∷ vs) k d) (fits k d less)))
  where
    passes : (w : Value) → IsCounted w → list_all p (counted_text w) ≡ true
    passes w fits = weaker is_counted p each (counted_text w) (counts_counted w fits)

pub was_plain : (vs : List Value) → All IsCounted vs → list_all is_plain (was_text vs) ≡ true
was_plain vs fits =
    was_pass is_plain refl refl
    (λ b x. (and-true _ _ (and-true _ _ (and-true _ _ (and-true _ _ x).0).0).0).0) vs fits

pub was_no_space : (vs : List Value) → All IsCounted vs → lacks 32 (was_text vs) ≡ true
was_no_space vs fits =
    was_pass (λ b. not (b == 32)) refl refl (λ b x. (and-true _ _ (and-true _ _ x).0).1) vs fits

pub stays_inner : (x : Option Entered) → IfSome x IsEntered
    → list_all is_inner (stays_or_text x) ≡ true
stays_inner None fits = refl
stays_inner (Some x) fits = entered_inner x fits

stays_plain : (x : Option Entered) → IfSome x IsEntered
    → list_all is_plain (stays_or_text x) ≡ true
stays_plain x fits = inner_plain (stays_or_text x) (stays_inner x fits)

pub now_plain : (xs : List (Option Entered)) → All (λ x. IfSome x IsEntered) xs
    → list_all is_plain (now_text xs) ≡ true
now_plain [] fits = refl
now_plain (x ∷ xs) fits =
    joined_pass is_plain 47 refl (map stays_or_text (x ∷ xs))
    (All-map (λ text. list_all is_plain text ≡ true) stays_or_text (x ∷ xs)
    (λ k d less. stays_plain (get_or (x ∷ xs) k d) (fits k d less)))

-- ---- other fields

pub event_plain : (e : Event) → list_all is_plain (event_name e) ≡ true
event_plain Cube3 = refl
event_plain _ = refl

pub format_plain : (f : Format) → list_all is_plain (format_name f) ≡ true
format_plain Ao5 = refl
format_plain _ = refl

pub cutoff_plain : (c : Option (ℕ × ℕ)) → IsFitCutoff c → list_all is_plain (cutoff_text c) ≡ true
cutoff_plain None fits = refl
cutoff_plain (Some c) fits =
    inner_plain (cutoff_text (Some c)) (pair_inner c.0 c.1 (omega arith) (omega arith))

pub limit_plain : (l : Option ℕ) → IsFitLimit l → list_all is_plain (limit_text l) ≡ true
limit_plain None fits = refl
limit_plain (Some l) fits = number_plain l (omega arith)

pub advance_plain : (a : Advance) → IsFitAdvance a → list_all is_plain (advance_text a) ≡ true
advance_plain Final fits = refl
advance_plain (Top n) fits =
    both_pass is_plain (codes "top:") (decimal n) refl (number_plain n (omega arith))
advance_plain (Percent n) fits =
    both_pass is_plain (codes "pct:") (decimal n) refl (number_plain n (omega arith))
