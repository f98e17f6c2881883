-- What is read of a field is what it spells.
use Rattle.std.proofs.Common.{◌^◌, ◌<◌, ◌≤◌, nat_le, IfOk, ◌≡◌, ◌⊎◌, inl, inr, ℕ, Bool, true, false}
use Rattle.std.proofs.Common.{◌==◌, List, [], ◌∷◌, length, ◌||◌, map, codes, bytes_eq, Result, Ok}
use Rattle.std.proofs.Common.{Err, refl, sym, ap, ◌∙◌, subst, arith}
use Rattle.std.proofs.lemmas.{Str.Parse.digits_value_short, Bool.Decides.nat_tests}
use Rattle.cube.specs.{notation.Notation.Spells as SpellsMoves, declared.moves.Move.Move}
use Rattle.texts.proofs.{Numerals.own, Spelled.bytes_eq-equal}
use Rattle.texts.specs.{Spelling.IsEntered, declared.command.Entered.Entered}
use Rattle.scorecard.specs.Spelling.{AreDigits, IsPenalty, Spells, is_dnf, is_dns, mended, trimmed}
use Rattle.scorecard.specs.Spelling.{IsFilledSeconds, IsMinutesSeconds, SpellsBare, IsSolution}
use Rattle.std.specs.{Char.to_ascii_lowercase, List.list_any, Bool.MatchBool}
use Rattle.std.proofs.lemmas.Bool.{false≢true}
use Rattle.attempts.specs.declared.Unit.{Unit as Measure}
use Rattle.attempts.specs.declared.Unit.TheVariants.{Time, Moves, Multi}
use Rattle.cube.proofs.notation.Scanning.{spells_once}
use Rattle.scorecard.specs.{declared.fault.ScorecardFault.ScorecardFault, Laws.SpellsOnce}
use Rattle.scorecard.specs.Reading.{ReadsSolution, ReadsResult, ReadsBare, Reads, IsReadAs}
use Rattle.scorecard.proofs.TimeTexts.{timed-read, timed-found}
use Rattle.scorecard.proofs.MultiTexts.{multi-read, multi-found}
use Rattle.scorecard.proofs.Begins.{BeginsWithDigit, timed_begins, multi_begins, no_dnf, no_dns}
use Rattle.scorecard.proofs.Starts.{solution_no_dnf, solution_no_dns, solution_some}
use Rattle.texts.specs.declared.command.Entered.TheVariants as entered
use Rattle.scorecard.specs.declared.fault.ScorecardFault.TheVariants as fault

-- what is read, by the three tests
abbrev Branches : Measure → List ℕ → Result Entered ScorecardFault → Bool → Bool → Bool → Type 0
Branches unit text r empty dnf dns =
    MatchBool empty (r ≡ Err fault.Empty) (MatchBool dnf (r ≡ Ok entered.Dnf)
    (MatchBool dns (r ≡ Ok entered.Dns) (ReadsResult unit text r)))

-- ---- what is read is spelled

solution-spelled : (text : List ℕ) (x : Entered) → ReadsSolution text (Ok x)
    → SpellsBare Moves text x
solution-spelled text (entered.Solution moves) h = h
solution-spelled text _ h = absurd h

result-spelled : (unit : Measure) (text : List ℕ) (x : Entered) → ReadsResult unit text (Ok x)
    → SpellsBare unit text x
result-spelled Time text x h =
    let read = timed-read text x (sym h) in
    subst (SpellsBare Time text) (sym read.is) read.spelled
result-spelled Moves text x h = solution-spelled text x h
result-spelled Multi text x h =
    let read = multi-read text x (sym h) in
    subst (SpellsBare Multi text) (sym read.is) read.spelled

pub dnf-spelled : (unit : Measure) (text : List ℕ) → is_dnf unit text ≡ true
    → SpellsBare unit text entered.Dnf
dnf-spelled Time text h = h
dnf-spelled _ text h = h

pub dns-spelled : (unit : Measure) (text : List ℕ) → is_dns unit text ≡ true
    → SpellsBare unit text entered.Dns
dns-spelled Time text h = h
dns-spelled _ text h = h

dnf-is : (unit : Measure) (text : List ℕ) → SpellsBare unit text entered.Dnf
    → is_dnf unit text ≡ true
dnf-is Time text h = h
dnf-is _ text h = h

dns-is : (unit : Measure) (text : List ℕ) → SpellsBare unit text entered.Dns
    → is_dns unit text ≡ true
dns-is Time text h = h
dns-is _ text h = h

pub read-spelled : (unit : Measure) (text : List ℕ) (x : Entered) → ReadsBare unit text (Ok x)
    → SpellsBare unit text x
read-spelled unit text x h =
    go (length text == 0) (is_dnf unit text) (is_dns unit text) refl refl h
  where
    go : (a b c : Bool) → is_dnf unit text ≡ b → is_dns unit text ≡ c
        → Branches unit text (Ok x) a b c → SpellsBare unit text x
    go true b c e f r = absurd (let bad : Ok x ≡ Err fault.Empty = r in cc)
    go false true c e f r =
        let same : entered.Dnf ≡ x = cc in
        subst (SpellsBare unit text) same (dnf-spelled unit text e)
    go false false true e f r =
        let same : entered.Dns ≡ x = cc in
        subst (SpellsBare unit text) same (dns-spelled unit text f)
    go false false false e f r = result-spelled unit text x r

-- ---- what is spelled is read

-- what is spelled is no word of no result, and not empty
record IsResult (unit : Measure) (text : List ℕ) : Type 0 where
  some : (length text == 0) ≡ false
  dnf : is_dnf unit text ≡ false
  dns : is_dns unit text ≡ false

begins-some : (text : List ℕ) → BeginsWithDigit text → (length text == 0) ≡ false
begins-some [] h = absurd h
begins-some (b ∷ bs) h = grind (arith, nat_tests)

by_digit : (unit : Measure) (text : List ℕ) → BeginsWithDigit text → IsResult unit text
by_digit unit text h = record {
  some = begins-some text h;
  dnf = no_dnf unit text h;
  dns = no_dns unit text h;
}

kept : (unit : Measure) (text : List ℕ) (r : Result Entered ScorecardFault) → IsResult unit text
    → ReadsBare unit text r → ReadsResult unit text r
kept unit text r is h =
    subst (λ (c : Bool). Branches unit text r false false c) is.dns
    (subst (λ (b : Bool). Branches unit text r false b (is_dns unit text)) is.dnf
    (subst (λ (a : Bool). Branches unit text r a (is_dnf unit text) (is_dns unit text)) is.some h))

solution-read : (text : List ℕ) (moves : List Move) (r : Result Entered ScorecardFault)
    → IsSolution text moves → ReadsSolution text r → IsReadAs Moves (entered.Solution moves) r
solution-read text moves (Ok (entered.Solution others)) h is =
    inl (ap (λ m. Ok (entered.Solution m))
    (spells_once (mended text) others moves is.tokens h.tokens))
solution-read text moves (Err fault.NotMoves) h is = absurd (is moves h)
solution-read text moves (Err fault.NoMemory) h is = inr (refl, refl)
solution-read text moves _ h is = absurd is

-- a word of no result is not empty
dnf-some : (unit : Measure) (text : List ℕ) → is_dnf unit text ≡ true → (length text == 0) ≡ false
dnf-some Time [] h = absurd (false≢true h)
dnf-some _ [] h = absurd (false≢true h)
dnf-some unit (b ∷ bs) h = grind (arith, nat_tests)

dns-some : (unit : Measure) (text : List ℕ) → is_dns unit text ≡ true → (length text == 0) ≡ false
dns-some Time [] h = absurd (false≢true h)
dns-some _ [] h = absurd (false≢true h)
dns-some unit (b ∷ bs) h = grind (arith, nat_tests)

dnf-read : (unit : Measure) (text : List ℕ) (r : Result Entered ScorecardFault)
    → is_dnf unit text ≡ true → ReadsBare unit text r → r ≡ Ok entered.Dnf
dnf-read unit text r is h =
    subst (λ (b : Bool). Branches unit text r false b (is_dns unit text)) is
    (subst (λ (a : Bool). Branches unit text r a (is_dnf unit text) (is_dns unit text))
    (dnf-some unit text is) h)

dns-read : (unit : Measure) (text : List ℕ) (r : Result Entered ScorecardFault)
    → is_dnf unit text ≡ false → is_dns unit text ≡ true → ReadsBare unit text r
    → r ≡ Ok entered.Dns
dns-read unit text r other is h =
    subst (λ (c : Bool). Branches unit text r false false c) is
    (subst (λ (b : Bool). Branches unit text r false b (is_dns unit text)) other
    (subst (λ (a : Bool). Branches unit text r a (is_dnf unit text) (is_dns unit text))
    (dns-some unit text is) h))

-- no word says both
neither : (m : List ℕ) (word : List ℕ) (words : List (List ℕ)) → bytes_eq m word ≡ true
    → list_any (λ w. bytes_eq word w) words ≡ false → list_any (λ w. bytes_eq m w) words ≡ false
neither m word words is none =
    ap (λ l. list_any (λ w. bytes_eq l w) words) (bytes_eq-equal m word is) ∙ none

abbrev small : List ℕ → List ℕ
small text = map to_ascii_lowercase text

no-letters : (text : List ℕ) → is_dns Time text ≡ true → is_dnf Time text ≡ false
no-letters text h =
    go (bytes_eq (small text) (codes "s")) (bytes_eq (small text) (codes "dns"))
    (bytes_eq (small text) (codes "*")) refl refl refl h
  where
    go : (a b c : Bool) → bytes_eq (small text) (codes "s") ≡ a
        → bytes_eq (small text) (codes "dns") ≡ b → bytes_eq (small text) (codes "*") ≡ c
        → (a || (b || (c || false))) ≡ true → is_dnf Time text ≡ false
    go true b c e f g r =
        neither (small text) (codes "s") (codes "d" ∷ codes "dnf" ∷ codes "/" ∷ []) e refl
    go false true c e f g r =
        neither (small text) (codes "dns") (codes "d" ∷ codes "dnf" ∷ codes "/" ∷ []) f refl
    go false false true e f g r =
        neither (small text) (codes "*") (codes "d" ∷ codes "dnf" ∷ codes "/" ∷ []) g refl
    go false false false e f g r = absurd (false≢true r)

no-words : (text : List ℕ) → is_dns Moves text ≡ true → is_dnf Moves text ≡ false
no-words text h =
    go (bytes_eq (small text) (codes "dns")) (bytes_eq (small text) (codes "*")) refl refl h
  where
    go : (b c : Bool) → bytes_eq (small text) (codes "dns") ≡ b
        → bytes_eq (small text) (codes "*") ≡ c
        → (b || (c || false)) ≡ true → is_dnf Moves text ≡ false
    go true c f g r =
        neither (small text) (codes "dns") (codes "dnf" ∷ codes "/" ∷ []) f refl
    go false true f g r =
        neither (small text) (codes "*") (codes "dnf" ∷ codes "/" ∷ []) g refl
    go false false f g r = absurd (false≢true r)

dns-no-dnf : (unit : Measure) (text : List ℕ) → is_dns unit text ≡ true → is_dnf unit text ≡ false
dns-no-dnf Time text h = no-letters text h
dns-no-dnf Moves text h = no-words text h
dns-no-dnf Multi text h = no-letters text h

by_solution : (text : List ℕ) (moves : List Move) → IsSolution text moves → IsResult Moves text
by_solution text moves h = record {
  some = solution_some text moves h;
  dnf = solution_no_dnf text moves h;
  dns = solution_no_dns text moves h;
}

pub spelled-read : (unit : Measure) (text : List ℕ) (x : Entered)
    (r : Result Entered ScorecardFault)
    → SpellsBare unit text x → ReadsBare unit text r → IsReadAs unit x r
spelled-read Time text (entered.Time t p) r h is =
    inl
    (kept Time text r (by_digit Time text (timed_begins text t p h)) is ∙ timed-found text t p h)
spelled-read Moves text (entered.Solution moves) r h is =
    solution-read text moves r h (kept Moves text r (by_solution text moves h) is)
spelled-read Multi text (entered.Multi s a t) r h is =
    inl (kept Multi text r (by_digit Multi text (multi_begins text s a t h)) is
    ∙ multi-found text s a t h)
spelled-read unit text entered.Dnf r h is = inl (dnf-read unit text r (dnf-is unit text h) is)
spelled-read unit text entered.Dns r h is =
    let dns = dns-is unit text h in
    inl (dns-read unit text r (dns-no-dnf unit text dns) dns is)
spelled-read _ text _ r h is = absurd h

-- ---- at most one

keep : (unit : Measure) (text : List ℕ) (r : Result Entered ScorecardFault) → IsResult unit text
    → ReadsResult unit text r → ReadsBare unit text r
keep unit text r is h =
    subst (λ (a : Bool). Branches unit text r a (is_dnf unit text) (is_dns unit text)) (sym is.some)
    (subst (λ (b : Bool). Branches unit text r false b (is_dns unit text)) (sym is.dnf)
    (subst (λ (c : Bool). Branches unit text r false false c) (sym is.dns) h))

dnf-reads : (unit : Measure) (text : List ℕ) (r : Result Entered ScorecardFault)
    → is_dnf unit text ≡ true → r ≡ Ok entered.Dnf → ReadsBare unit text r
dnf-reads unit text r is h =
    subst (λ (a : Bool). Branches unit text r a (is_dnf unit text) (is_dns unit text))
    (sym (dnf-some unit text is))
    (subst (λ (b : Bool). Branches unit text r false b (is_dns unit text)) (sym is) h)

dns-reads : (unit : Measure) (text : List ℕ) (r : Result Entered ScorecardFault)
    → is_dns unit text ≡ true → r ≡ Ok entered.Dns → ReadsBare unit text r
dns-reads unit text r is h =
    subst (λ (a : Bool). Branches unit text r a (is_dnf unit text) (is_dns unit text))
    (sym (dns-some unit text is))
    (subst (λ (b : Bool). Branches unit text r false b (is_dns unit text))
    (sym (dns-no-dnf unit text is))
    (subst (λ (c : Bool). Branches unit text r false false c) (sym is) h))

may-read : (unit : Measure) (text : List ℕ) (x : Entered) → SpellsBare unit text x
    → ReadsBare unit text (Ok x)
may-read Time text (entered.Time t p) h =
    keep Time text (Ok (entered.Time t p)) (by_digit Time text (timed_begins text t p h))
    (sym (timed-found text t p h))
may-read Moves text (entered.Solution moves) h =
    keep Moves text (Ok (entered.Solution moves)) (by_solution text moves h) h
may-read Multi text (entered.Multi s a t) h =
    keep Multi text (Ok (entered.Multi s a t)) (by_digit Multi text (multi_begins text s a t h))
    (sym (multi-found text s a t h))
may-read unit text entered.Dnf h =
    dnf-reads unit text (Ok entered.Dnf) (dnf-is unit text h) refl
may-read unit text entered.Dns h =
    dns-reads unit text (Ok entered.Dns) (dns-is unit text h) refl
may-read _ text _ h = absurd h

pub spelled-once : (unit : Measure) (text : List ℕ) (x y : Entered) → SpellsBare unit text x
    → SpellsBare unit text y → x ≡ y
spelled-once unit text x y h k = go (spelled-read unit text x (Ok y) h (may-read unit text y k))
  where
    go : IsReadAs unit x (Ok y) → x ≡ y
    go (inl e) = let same : Ok y ≡ Ok x = e in cc
    go (inr (m, e)) = absurd (let bad : Ok y ≡ Err fault.NoMemory = e in cc)

-- ---- fields

pub field-read : (unit unit' : Measure) (bytes bytes' : List ℕ) (r : Result Entered ScorecardFault)
    → unit ≡ unit' → bytes ≡ bytes' → ReadsBare unit bytes r → ReadsBare unit' bytes' r
field-read unit unit' bytes bytes' r a b h =
    subst (λ (u : Measure). ReadsBare u bytes' r) a (subst (λ (t : List ℕ). ReadsBare unit t r) b h)

pub field-found : (unit : Measure) (text : List ℕ) (r : Result Entered ScorecardFault)
    → Reads unit text r → (x : Entered) → r ≡ Ok x → Spells unit text x
field-found unit text r h x is =
    read-spelled unit (trimmed text) x
    (subst (λ (s : Result Entered ScorecardFault). ReadsBare unit (trimmed text) s) is h)

pub field-only : (unit : Measure) (text : List ℕ) (r : Result Entered ScorecardFault)
    → Reads unit text r → (x : Entered) → Spells unit text x → IsReadAs unit x r
field-only unit text r h x is = spelled-read unit (trimmed text) x r is h

pub field-once : SpellsOnce
field-once unit text x y h k = spelled-once unit (trimmed text) x y h k

-- ---- what is spelled may be entered

short_number : (most : ℕ) (text : List ℕ) (n : ℕ) → AreDigits most text n → n < 10 ^ most
short_number most text n h =
    let short = digits_value_short own text most h.decimal h.few in
    let value = h.value in omega (arith, short)

clock_short : (text : List ℕ) (t : ℕ) → IsFilledSeconds text t ⊎ IsMinutesSeconds text t → t ≤ 5999
clock_short text t (inl f) = step (nat_le 100 f.number) refl
  where
    step : (b : Bool) → nat_le 100 f.number ≡ b → t ≤ 5999
    step true is =
        let short = short_number 4 text f.number f.digits in
        let rest = f.seconds (grind (arith, nat_tests)) in
        let value = f.value in omega (arith, short, rest)
    step false is =
        let few : f.number < 100 = grind (arith, nat_tests) in
        let value = f.value in omega arith
clock_short text t (inr f) =
    let short = short_number 2 f.front f.minutes f.digits in
    let below = f.below in
    let value = f.value in omega (arith, short)

some_moves : (text : List ℕ) (moves : List Move) → SpellsMoves text moves → 1 ≤ length moves
some_moves text [] h = absurd h
some_moves text (m ∷ ms) h = omega arith

penalty_few : (mark : List ℕ) (p : ℕ) → IsPenalty mark p → p ≤ 9
penalty_few mark p (inl h) = let e = h.1 in omega arith
penalty_few mark p (inr (inl h)) = let e = h.1 in omega arith
penalty_few mark p (inr (inr (inl h))) = let e = h.1 in omega arith
penalty_few mark p (inr (inr (inr h))) = h.2

pub spelled-fits : (unit : Measure) (text : List ℕ) (x : Entered) → SpellsBare unit text x
    → IsEntered x
spelled-fits Time text (entered.Time t p) h =
    ((h.timed.some, h.timed.most), (omega arith, penalty_few h.mark p h.marked))
spelled-fits Moves text (entered.Solution moves) h =
    (some_moves (mended text) moves h.tokens, h.few)
spelled-fits Multi text (entered.Multi s a t) h =
    ((omega arith, h.all), (h.two, h.few), (h.some, clock_short h.clock t h.form))
spelled-fits unit text entered.Dnf h = tt
spelled-fits unit text entered.Dns h = tt
spelled-fits _ text _ h = absurd h

pub field-fits : (unit : Measure) (text : List ℕ) (r : Result Entered ScorecardFault)
    → Reads unit text r → IfOk r IsEntered
field-fits unit text (Ok x) h =
    spelled-fits unit (trimmed text) x (read-spelled unit (trimmed text) x h)
field-fits unit text (Err e) h = tt
