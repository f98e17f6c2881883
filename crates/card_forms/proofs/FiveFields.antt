-- What the five fields of a card say.
use Rattle.std.proofs.Common.{◌≡◌, ℕ, List, [], ◌∷◌, length, get_or, arith, sym, subst, Result, Ok}
use Rattle.std.proofs.Common.{IfOk}
use Rattle.attempts.specs.declared.{Unit.Unit as Measure, Value.Value}
use Rattle.formats.specs.Events.{unit_of}
use Rattle.scorecard.specs.declared.fault.ScorecardFault.{ScorecardFault as FieldFault}
use Rattle.card_forms.specs.declared.{cards.CardForm.CardForm, faults.CardReading.CardReading}
use Rattle.card_forms.specs.declared.reading.FieldContent.{FieldContent}
use Rattle.card_forms.specs.Readings.{AllSay, IsNotRead, IsUnfitAs, Says}
use Rattle.card_forms.specs.declared.faults.CardReading.TheVariants as reading

-- a list of five, by its items
five_items : {A : Type 0} (xs : List A) (a b c d e : A) → length xs ≡ 5 → a ≡ get_or xs 0 a
    → b ≡ get_or xs 1 b → c ≡ get_or xs 2 c → d ≡ get_or xs 3 d → e ≡ get_or xs 4 e
    → xs ≡ a ∷ b ∷ c ∷ d ∷ e ∷ []
five_items [] a b c d e len ha hb hc hd he = grind arith
five_items (p ∷ []) a b c d e len ha hb hc hd he = grind arith
five_items (p ∷ q ∷ []) a b c d e len ha hb hc hd he = grind arith
five_items (p ∷ q ∷ r ∷ []) a b c d e len ha hb hc hd he = grind arith
five_items (p ∷ q ∷ r ∷ s ∷ []) a b c d e len ha hb hc hd he = grind arith
five_items (p ∷ q ∷ r ∷ s ∷ t ∷ []) a b c d e len ha hb hc hd he = cc
five_items (p ∷ q ∷ r ∷ s ∷ t ∷ u ∷ xs) a b c d e len ha hb hc hd he = grind arith

-- what a field says that was read
pub said : (unit : Measure) (was : List Value) (filled : List (List ℕ)) (place : ℕ)
    (text shown : List ℕ) (r : Result FieldContent FieldFault) (it : FieldContent) → shown ≡ text
    → r ≡ Ok it → IfOk r (Says unit was filled place shown) → Says unit was filled place text it
said unit was filled place text shown r it same is says =
    subst (λ (t : List ℕ). Says unit was filled place t it) same
    (subst (λ (q : Result FieldContent FieldFault). IfOk q (Says unit was filled place shown)) is
    says)

-- what is said over the same and of the same texts
pub say_same : (unit : Measure) (was seen : List Value) (filled given xs texts : List (List ℕ))
    (says : List FieldContent) → seen ≡ was → given ≡ filled → texts ≡ xs
    → AllSay unit seen given 0 texts says → AllSay unit was filled 0 xs says
say_same unit was seen filled given xs texts says same as_given are all =
    subst (λ (ys : List (List ℕ)). AllSay unit was filled 0 ys says) are
    (subst (λ (fs : List (List ℕ)). AllSay unit was fs 0 texts says) as_given
    (subst (λ (vs : List Value). AllSay unit vs given 0 texts says) same all))

-- each of five fields says what it says at its place
pub all_say : (unit : Measure) (was : List Value) (filled xs : List (List ℕ)) (a b c d e : List ℕ)
    (p q r s t : FieldContent) → length xs ≡ 5 → a ≡ get_or xs 0 a → b ≡ get_or xs 1 b
    → c ≡ get_or xs 2 c → d ≡ get_or xs 3 d → e ≡ get_or xs 4 e → Says unit was filled 0 a p
    → Says unit was filled 1 b q → Says unit was filled 2 c r → Says unit was filled 3 d s
    → Says unit was filled 4 e t → AllSay unit was filled 0 xs (p ∷ q ∷ r ∷ s ∷ t ∷ [])
all_say unit was filled xs a b c d e p q r s t len ha hb hc hd he sa sb sc sd se =
    subst (λ (ys : List (List ℕ)). AllSay unit was filled 0 ys (p ∷ q ∷ r ∷ s ∷ t ∷ []))
    (sym (five_items xs a b c d e len ha hb hc hd he)) (sa, (sb, (sc, (sd, (se, tt)))))

-- a form whose fields are no card together
pub not_fit : (form : CardForm) (says : List FieldContent) (why : CardReading)
    → AllSay (unit_of form.round.event) form.was form.filled 0 form.attempts says
    → IsUnfitAs form.was says why → IsNotRead form why
not_fit form says (reading.Unread u) all h = absurd h
not_fit form says (reading.Unfit why) all h = record { says = says; all = all; is = h }
not_fit form says reading.NoMemory all h = tt
