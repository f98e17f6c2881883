-- What people write on a paper scorecard, and which outcome that spells. A time is read to the
-- hundredth and has penalties of two seconds (WCA Regulations, articles 9f and 10e). How it is
-- written is the custom of scorecards, and which of it is read the project's own choice.
use Rattle.std.specs.Prelude.{◌≡◌, ◌⊎◌, ℕ, ◌+◌, ◌-◌, ◌*◌, ◌/◌, ◌%◌, ◌<◌, ◌≤◌, Bool, true, ◌==◌}
use Rattle.std.specs.Prelude.{List, [], ◌∷◌, ◌++◌, zero, suc, if◌then◌else◌, length, map, take}
use Rattle.std.specs.Prelude.{drop, codes, decimal, bytes_eq}
use Rattle.std.specs.Char.{is_ascii_digit, is_ascii_whitespace, to_ascii_lowercase}
use Rattle.std.specs.List.{list_all, list_any, prefix_len, suffix_len}
use Rattle.attempts.specs.declared.Unit.{Unit as Measure}
use Rattle.attempts.specs.declared.Unit.TheVariants.{Time, Moves, Multi}
use Rattle.cube.specs.{declared.moves.Move.Move, notation.Notation.Spells as SpellsMoves}
use Rattle.texts.specs.{Numerals.digits_value, declared.command.Entered.Entered}
use Rattle.texts.specs.declared.command.Entered.TheVariants as entered

-- ---- digits

-- one to this many decimal digits, zeros in front too, and the number that they stand for
pub record AreDigits (most : ℕ) (digits : List ℕ) (number : ℕ) : Type 0 where
  pub some : 1 ≤ length digits
  pub few : length digits ≤ most
  pub decimal : list_all is_ascii_digit digits ≡ true
  pub value : digits_value digits ≡ number

-- a byte is one of these
abbrev pub is_among : List ℕ → ℕ → Bool
is_among bytes b = list_any (λ x. x == b) bytes

-- a text is a front, then one of these marks, and then two digits
pub record EndsInPair (marks text front : List ℕ) (number : ℕ) : Type 0 where
  pub mark : ℕ
  pub tens : ℕ
  pub ones : ℕ
  pub parts : text ≡ front ++ mark ∷ tens ∷ ones ∷ []
  pub marked : is_among marks mark ≡ true
  pub pair : AreDigits 2 (tens ∷ ones ∷ []) number

-- ---- times, in hundredths of a second

-- what is before hundredths: a point, or a comma in its place
abbrev pub points : List ℕ
points = codes ".,"

-- what is after minutes: a colon, or a point
abbrev pub colons : List ℕ
colons = codes ":.,"

-- one to seven digits fill a clock from the right: two are hundredths, two are seconds, and the
-- others are minutes; where there are minutes, seconds are below 60
pub record IsFilled (text : List ℕ) (time : ℕ) : Type 0 where
  pub number : ℕ
  pub digits : AreDigits 7 text number
  pub seconds : 10000 ≤ number → number / 100 % 100 < 60
  pub value : time ≡ 6000 * (number / 10000) + number % 10000

-- one or two digits of seconds, a point, and two digits of hundredths
pub record IsSeconds (text : List ℕ) (time : ℕ) : Type 0 where
  pub front : List ℕ
  pub hundredths : ℕ
  pub seconds : ℕ
  pub back : EndsInPair points text front hundredths
  pub digits : AreDigits 2 front seconds
  pub value : time ≡ 100 * seconds + hundredths

-- one to three digits of minutes, a colon or a point, two digits of seconds below 60, a point, and
-- two digits of hundredths
pub record IsMinutes (text : List ℕ) (time : ℕ) : Type 0 where
  pub front : List ℕ
  pub middle : List ℕ
  pub hundredths : ℕ
  pub seconds : ℕ
  pub minutes : ℕ
  pub back : EndsInPair points text middle hundredths
  pub between : EndsInPair colons middle front seconds
  pub digits : AreDigits 3 front minutes
  pub below : seconds < 60
  pub value : time ≡ 6000 * minutes + 100 * seconds + hundredths

-- a time of a hundredth of a second to 166 minutes and 39.99 seconds, which is what may be entered
pub record IsTime (text : List ℕ) (time : ℕ) : Type 0 where
  pub form : IsFilled text time ⊎ (IsSeconds text time ⊎ IsMinutes text time)
  pub some : 1 ≤ time
  pub most : time ≤ 999999

-- what is after a time for its penalties: nothing; `+` for one and `++` for two; or a plus and
-- their seconds, two for each of one to nine
abbrev pub IsPenalty : List ℕ → ℕ → Type 0
IsPenalty mark penalties =
    ((mark ≡ []) × (penalties ≡ 0)) ⊎ ((mark ≡ codes "+") × (penalties ≡ 1))
    ⊎ ((mark ≡ codes "++") × (penalties ≡ 2))
    ⊎ ((mark ≡ codes "+" ++ decimal (2 * penalties)) × (1 ≤ penalties) × (penalties ≤ 9))

-- a time and its penalties
pub record IsTimed (text : List ℕ) (time penalties : ℕ) : Type 0 where
  pub front : List ℕ
  pub mark : List ℕ
  pub parts : text ≡ front ++ mark
  pub timed : IsTime front time
  pub marked : IsPenalty mark penalties

-- ---- no result

-- one of these, in small or capital letters
abbrev pub is_word : List (List ℕ) → List ℕ → Bool
is_word words text = list_any (λ word. bytes_eq (map to_ascii_lowercase text) word) words

-- did not finish; in fewest moves a letter alone is no mark, since `D` is a move
abbrev pub is_dnf : Measure → List ℕ → Bool
is_dnf Moves text = is_word (codes "dnf" ∷ codes "/" ∷ []) text
is_dnf _ text = is_word (codes "d" ∷ codes "dnf" ∷ codes "/" ∷ []) text

-- did not start
abbrev pub is_dns : Measure → List ℕ → Bool
is_dns Moves text = is_word (codes "dns" ∷ codes "*" ∷ []) text
is_dns _ text = is_word (codes "s" ∷ codes "dns" ∷ codes "*" ∷ []) text

-- ---- results of multi-blind

-- one to four digits fill a clock from the right: two are seconds, and the others are minutes;
-- where there are minutes, seconds are below 60
pub record IsFilledSeconds (text : List ℕ) (time : ℕ) : Type 0 where
  pub number : ℕ
  pub digits : AreDigits 4 text number
  pub seconds : 100 ≤ number → number % 100 < 60
  pub value : time ≡ 60 * (number / 100) + number % 100

-- one or two digits of minutes, a colon, and two digits of seconds below 60
pub record IsMinutesSeconds (text : List ℕ) (time : ℕ) : Type 0 where
  pub front : List ℕ
  pub seconds : ℕ
  pub minutes : ℕ
  pub back : EndsInPair (codes ":") text front seconds
  pub digits : AreDigits 2 front minutes
  pub below : seconds < 60
  pub value : time ≡ 60 * minutes + seconds

-- the cubes solved, a slash, those attempted, a space, and the time
pub record IsMulti (text : List ℕ) (solved attempted seconds : ℕ) : Type 0 where
  pub clock : List ℕ
  pub parts : text ≡ decimal solved ++ codes "/" ++ decimal attempted ++ codes " " ++ clock
  pub form : IsFilledSeconds clock seconds ⊎ IsMinutesSeconds clock seconds
  pub two : 2 ≤ attempted
  pub few : attempted ≤ 99
  pub all : solved ≤ attempted
  pub some : 1 ≤ seconds

-- ---- solutions of fewest moves

-- the bytes of a typographic apostrophe
abbrev pub apostrophe : List ℕ
apostrophe = 226 ∷ 128 ∷ 153 ∷ []

-- this many bytes are left out; after them each typographic apostrophe is a plain one, and all
-- other bytes stay
abbrev pub mended_after : ℕ → List ℕ → List ℕ
mended_after skipped [] = []
mended_after (suc skipped) (b ∷ bs) = mended_after skipped bs
mended_after zero (b ∷ bs) =
    if bytes_eq apostrophe (take 3 (b ∷ bs)) then 39 ∷ mended_after 2 bs
    else b ∷ mended_after 0 bs

abbrev pub mended : List ℕ → List ℕ
mended text = mended_after 0 text

-- the tokens of 1 to 400 moves, spaces between neighbours (WCA Regulations, article 12)
pub record IsSolution (text : List ℕ) (moves : List Move) : Type 0 where
  pub tokens : SpellsMoves (mended text) moves
  pub few : length moves ≤ 400

-- ---- what is written in a field

-- without the white space in front
abbrev pub without_front : List ℕ → List ℕ
without_front text = drop (prefix_len is_ascii_whitespace text) text

-- without the white space at the end
abbrev pub without_end : List ℕ → List ℕ
without_end text = take (length text - suffix_len is_ascii_whitespace text) text

-- without the white space around
unfoldable pub trimmed : List ℕ → List ℕ
trimmed text = without_end (without_front text)

-- a text with no white space around spells an outcome of an event whose numbers count this
abbrev pub SpellsBare : Measure → List ℕ → Entered → Type 0
SpellsBare Time text (entered.Time time penalties) = IsTimed text time penalties
SpellsBare Moves text (entered.Solution moves) = IsSolution text moves
SpellsBare Multi text (entered.Multi solved attempted seconds) =
    IsMulti text solved attempted seconds
SpellsBare unit text entered.Dnf = is_dnf unit text ≡ true
SpellsBare unit text entered.Dns = is_dns unit text ≡ true
SpellsBare _ _ _ = ⊥

-- a text spells an outcome
abbrev pub Spells : Measure → List ℕ → Entered → Type 0
Spells unit text outcome = SpellsBare unit (trimmed text) outcome
