-- The first line of some bytes.
use Rattle.std.proofs.Common.{◌≡◌, ℕ, suc, ◌+◌, ◌<◌, ◌≤◌, ◌==◌, Bool, true, false, cond, not}
use Rattle.std.proofs.Common.{nat_lt, List, [], ◌∷◌, length, Option, Some, None, Err, refl, sym, ap}
use Rattle.std.proofs.Common.{◌∙◌, subst, Bor, arith, length-drop}
use Rattle.std.specs.{List.onto_first, List.position_or_len, Option.option_map}
use Rattle.std.proofs.lemmas.Bool.{false≢true}
use Rattle.std.proofs.lemmas.{Bool.Decides.nat_tests, List.Splits.slice_split_first}
use Rattle.texts.specs.Fields.{cut, cut_at}
use Rattle.outbox.specs.{Items.ItemsOf, Lines.whole_lines}
use Rattle.outbox.specs.Journals.{FollowsIf, after_lines, go_on}
use Rattle.outbox.specs.Lines.{IsFirstLine, all_but_last, cut_line, last_of, parts, said}
use Rattle.outbox.proofs.Pieces.{first_other, first_whole, some_parts}
use Rattle.outbox.specs.declared.journal.JournalFault.TheVariants as fault

-- where no line ends, there is one part
whole : (bytes : List ℕ) → length bytes ≤ position_or_len (λ b. b == 10) bytes
    → parts bytes ≡ bytes ∷ []
whole [] h = refl
whole (b ∷ bytes) h = step (b == 10) h (λ g. whole bytes g)
  where
    step : (t : Bool)
        → suc (length bytes) ≤ cond (not t) (1 + position_or_len (λ x. x == 10) bytes) 0
        → (length bytes ≤ position_or_len (λ x. x == 10) bytes → parts bytes ≡ bytes ∷ [])
        → cond t ([] ∷ parts bytes) (onto_first b (parts bytes)) ≡ (b ∷ bytes) ∷ []
    step true long rest = absurd (omega arith)
    step false long rest = ap (onto_first b) (rest (omega arith))

abbrev line_and_rest : List ℕ × Option (List ℕ) → Option (List ℕ × List ℕ)
line_and_rest x = option_map (λ left. (x.0, left)) x.1

first : (bytes : List ℕ) → IsFirstLine bytes (line_and_rest (cut 10 bytes))
unfolding cut
first bytes = step (nat_lt at (length bytes)) refl
  where
    at : ℕ
    at = position_or_len (λ b. b == 10) bytes

    less : nat_lt (position_or_len (λ b. b == 10) bytes) (length bytes) ≡ true
        → position_or_len (λ b. b == 10) bytes < length bytes
    less h = grind (arith, nat_tests)

    more : nat_lt (position_or_len (λ b. b == 10) bytes) (length bytes) ≡ false
        → length bytes ≤ position_or_len (λ b. b == 10) bytes
    more h = grind (arith, nat_tests)

    step : (t : Bool) → nat_lt (position_or_len (λ b. b == 10) bytes) (length bytes) ≡ t
        → IsFirstLine bytes
        (line_and_rest (cut_at bytes (cond t (Some (position_or_len (λ b. b == 10) bytes)) None)))
    step true is =
        let below = less is in (
          slice_split_first (λ b. b == 10) bytes 0 below,
          let rest = length-drop (position_or_len (λ b. b == 10) bytes + 1) bytes in
              omega (arith, rest, below),
        )
    step false is = whole bytes (more is)

-- what was cut at the first end, by what is after it
pub by_cut : (bytes line : List ℕ) (o r : Option (Bor (List ℕ)))
    → (let pair : List ℕ × Option (List ℕ) =
    (line, option_map (λ (s : Bor (List ℕ)). s.now) o) in pair) ≡ cut 10 bytes → o ≡ r
    → IsFirstLine bytes (line_and_rest (line, option_map (λ (s : Bor (List ℕ)). s.now) r))
by_cut bytes line o r is same =
    subst (λ x. IsFirstLine bytes (line_and_rest x)) (sym is ∙ ap (λ (p : Option (Bor (List ℕ))).
    let pair : List ℕ × Option (List ℕ) =
    (line, option_map (λ (s : Bor (List ℕ)). s.now) p) in pair) same) (first bytes)

pub first_of : (left line next : List ℕ) → parts left ≡ line ∷ parts next
    → (whole_lines left ≡ line ∷ whole_lines next) × (cut_line left ≡ cut_line next)
first_of left line next is = (
  ap all_but_last is ∙ first_whole line (parts next) (some_parts next),
  ap last_of is ∙ first_other line (parts next) (some_parts next),
)

-- the first line is damaged
pub damaged : (q new : ItemsOf) (now number : ℕ) (left line next : List ℕ) (fits : Bool)
    → parts left ≡ line ∷ parts next → fits ≡ false → FollowsIf q now (said line) fits new
    → after_lines q now number (whole_lines left) ≡ Err (fault.Damaged number)
damaged q new now number left line next true is bad does = absurd (false≢true (sym bad))
damaged q new now number left line next false is bad does =
    ap (after_lines q now number) (first_of left line next is).0
    ∙ ap (λ o. go_on o number (λ x. after_lines x now (number + 1) (whole_lines next))) does

pub record Goes (q new : ItemsOf) (now number : ℕ) (left next : List ℕ) : Type 0 where
  pub lines : after_lines q now number (whole_lines left)
      ≡ after_lines new now (number + 1) (whole_lines next)
  pub cut : cut_line left ≡ cut_line next

-- the first line is followed
pub followed_on : (q new : ItemsOf) (now number : ℕ) (left line next : List ℕ) (fits : Bool)
    → parts left ≡ line ∷ parts next → fits ≡ true
    → FollowsIf q now (said line) fits new → Goes q new now number left next
followed_on q new now number left line next false is good does = absurd (false≢true good)
followed_on q new now number left line next true is good does =
    let both = first_of left line next is in
    record {
      lines =
          ap (after_lines q now number) both.0
          ∙ ap (λ o. go_on o number (λ x. after_lines x now (number + 1) (whole_lines next))) does;
      cut = both.1;
    }
