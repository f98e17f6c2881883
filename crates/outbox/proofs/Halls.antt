-- A first line names one hall.
use Rattle.std.proofs.Common.{◌≡◌, ℕ, ◌^◌, ◌<◌, ◌==◌, true, List, [], ◌∷◌, ◌++◌, codes, decimal}
use Rattle.std.proofs.Common.{Some, refl, sym, ap, ◌∙◌, arith}
use Rattle.std.specs.List.{AllByRecursion, flat_map, slice_split}
use Rattle.std.proofs.lemmas.List.{append-nil, Splits.slice_split_at, Splits.slice_split_none}
use Rattle.texts.proofs.{Cuts.lacks, FieldSpellings.decimal_no_space}
use Rattle.texts.{proofs.Numerals.number_between-decimal, specs.Fields.number_between}
use Rattle.outbox.specs.Laws.{IsAddress, IsName, NamesOneHall, OfThisHallAlone}
use Rattle.outbox.specs.Lines.{HallOf, hall_line, whole_lines}
use Rattle.outbox.proofs.{Additions.read_from, Spelled.all_other}

abbrev spaced : List (List ℕ) → List ℕ
spaced words = flat_map (λ word. 32 ∷ word) words

abbrev words_of : List ℕ → List (List ℕ)
words_of line = slice_split (λ b. b == 32) line

-- words with a space between each two are parted into these
parted : (word : List ℕ) (words : List (List ℕ)) → lacks 32 word ≡ true
    → AllByRecursion IsAddress words → words_of (word ++ spaced words) ≡ word ∷ words
parted word [] free all =
    ap words_of (append-nil word) ∙ slice_split_none (λ b. b == 32) word (all_other 32 word free)
parted word (next ∷ words) free all =
    slice_split_at (λ b. b == 32) word 32 (next ++ spaced words) (all_other 32 word free) refl
    ∙ ap (λ x. word ∷ x) (parted next words all.0 all.1)

line_parted : (hall : HallOf) → IsName hall
    → words_of (hall_line hall) ≡ codes "hall" ∷ decimal hall.number ∷ hall.addresses
line_parted hall is =
    let small : hall.number < 10000000000000000000 = let n = is.0 in omega arith in
    parted (codes "hall") (decimal hall.number ∷ hall.addresses) refl
    (decimal_no_space hall.number small, is.1)

number_read : (n : ℕ) → n < 2 ^ 32 → number_between 0 (2 ^ 32) (decimal n) ≡ Some n
number_read n small =
    number_between-decimal 0 (2 ^ 32) n (omega arith) (omega arith) (omega arith)

number_is : (n m : ℕ) → n < 2 ^ 32 → m < 2 ^ 32 → decimal n ≡ decimal m → n ≡ m
number_is n m small small' e =
    let same : Some n ≡ Some m =
    sym (number_read n small) ∙ ap (number_between 0 (2 ^ 32)) e ∙ number_read m small' in
    cc

seconds : (a b c : List ℕ) (xs ys : List (List ℕ)) → c ∷ a ∷ xs ≡ c ∷ b ∷ ys → a ≡ b
seconds a b c xs ys e = cc

rests : (a b c : List ℕ) (xs ys : List (List ℕ)) → c ∷ a ∷ xs ≡ c ∷ b ∷ ys → xs ≡ ys
rests a b c xs ys e = cc

same_hall : (one other : HallOf) → one.number ≡ other.number → one.addresses ≡ other.addresses
    → one ≡ other
same_hall one other n a = λ k. record { number = n k; addresses = a k }

pub names_one_hall : NamesOneHall
names_one_hall one other is is' e =
    let words = sym (line_parted one is) ∙ ap words_of e ∙ line_parted other is' in
    same_hall one other (number_is one.number other.number is.0 is'.0
    (seconds (decimal one.number) (decimal other.number) (codes "hall") one.addresses
    other.addresses words))
    (rests (decimal one.number) (decimal other.number) (codes "hall") one.addresses
    other.addresses words)

firsts : (a b : List ℕ) (xs ys : List (List ℕ)) → a ∷ xs ≡ b ∷ ys → a ≡ b
firsts a b xs ys e = cc

pub of_this_hall_alone : OfThisHallAlone
of_this_hall_alone one other now later bytes q r is is' first second =
    let a = read_from one now (whole_lines bytes) q first in
    let b = read_from other later (whole_lines bytes) r second in
    names_one_hall one other is is'
    (firsts (hall_line one) (hall_line other) a.tail b.tail (sym a.named ∙ b.named))
