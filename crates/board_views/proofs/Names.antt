-- The names of rounds, cut into their parts.
use Rattle.std.proofs.Common.{◌≡◌, ◌++◌, List, Option, Some, false, codes, decimal, arith, eqb-true}
use Rattle.std.proofs.Common.{◌≢◌, ℕ, ◌≤◌, ◌∷◌, [], None, true, Bool, refl, sym, ap, ◌∙◌, not, ◌==◌}
use Rattle.std.specs.{Prelude.IfSome, Char.is_ascii_digit, List.list_all}
use Rattle.std.proofs.lemmas.Bool.{false≢true}
use Rattle.std.proofs.lemmas.List.{append_assoc}
use Rattle.formats.specs.declared.events.Event.{Event, TheVariants.Cube3}
use Rattle.formats.specs.Events.{event_name, event_of_name}
use Rattle.formats.proofs.Naming.{only_name-event}
use Rattle.texts.specs.{declared.command.RoundId.RoundId, Fields.cut}
use Rattle.texts.proofs.Cuts.{and-true, behind, cut-behind, cut_spelled, lacks}
use Rattle.texts.proofs.FieldSpellings.{decimal_digits}
use Rattle.round_words.specs.Words.{round_name}
use Rattle.board_views.specs.Paths.{IsNameOf, IsTableNameOf}

event_lacks : (e : Event) → lacks 45 (event_name e) ≡ true
event_lacks Cube3 = refl
event_lacks _ = refl

digits_lack : (bytes : List ℕ) → list_all is_ascii_digit bytes ≡ true → lacks 47 bytes ≡ true
digits_lack [] h = refl
digits_lack (b ∷ bytes) h =
    let both = and-true (is_ascii_digit b) (list_all is_ascii_digit bytes) h in
    let first : not (b == 47) ≡ true = step (b == 47) refl both.0 in
    rw (first, digits_lack bytes both.1) refl
  where
    step : (t : Bool) → (b == 47) ≡ t → is_ascii_digit b ≡ true → not t ≡ true
    step false is digit = refl
    step true is digit = absurd (false≢true (ap is_ascii_digit (sym (eqb-true b 47 is)) ∙ digit))

-- what is before and after the first of a byte, in a text that has it there
pub parts_of : (by : ℕ) (text front back : List ℕ) (x : List ℕ × Option (List ℕ))
    → x ≡ cut by text → lacks by front ≡ true → text ≡ (front ++ by ∷ []) ++ back
    → (x.0 ≡ front) × (x.1 ≡ Some back)
parts_of by text front back x e free is =
    let there : List ℕ × Option (List ℕ) = (front, Some back) in
    let whole : x ≡ there =
    e ∙ ap (cut by) (is ∙ append_assoc front (by ∷ []) back)
    ∙ cut-behind by front (Some back) free in (
      ap (λ (y : List ℕ × Option (List ℕ)). y.0) whole,
      ap (λ (y : List ℕ × Option (List ℕ)). y.1) whole,
    )

-- and what a text is whose parts these are
pub of_parts : (by : ℕ) (text back : List ℕ) (x : List ℕ × Option (List ℕ)) → x ≡ cut by text
    → x.1 ≡ Some back → text ≡ (x.0 ++ by ∷ []) ++ back
of_parts by text back x e there =
    cut_spelled by text ∙ ap (λ (y : List ℕ × Option (List ℕ)). y.0 ++ behind by y.1) (sym e)
    ∙ ap (λ (o : Option (List ℕ)). x.0 ++ behind by o) there ∙ sym (append_assoc x.0 (by ∷ []) back)

-- a text that is a round's name
pub name_parts : (id : RoundId) (text : List ℕ) (x : List ℕ × Option (List ℕ))
    → x ≡ cut 45 text → text ≡ round_name id
    → (event_of_name x.0 ≡ Some id.event) × (x.1 ≡ Some (decimal id.round))
name_parts id text x e is =
    let both =
    parts_of 45 text (event_name id.event) (decimal id.round) x e (event_lacks id.event) is in
    ((only_name-event id.event x.0).1 both.0, both.1)

pub of_name_parts : (id : RoundId) (text back : List ℕ) (x : List ℕ × Option (List ℕ))
    → x ≡ cut 45 text → x.1 ≡ Some back → event_of_name x.0 ≡ Some id.event
    → back ≡ decimal id.round → text ≡ round_name id
of_name_parts id text back x e there named number =
    of_parts 45 text back x e there
    ∙ ap (λ (y : List ℕ). (y ++ 45 ∷ []) ++ back) ((only_name-event id.event x.0).0 named)
    ∙ ap (λ (y : List ℕ). (event_name id.event ++ 45 ∷ []) ++ y) number

-- the name of a round's table
pub table_named : (r : Option RoundId) (front text : List ℕ) → text ≡ front ++ codes ".csv"
    → IfSome r (λ id. IsNameOf id front) → IfSome r (λ id. IsTableNameOf id text)
table_named None front text is h = tt
table_named (Some id) front text is h = (h.0, is ∙ ap (λ (y : List ℕ). y ++ codes ".csv") h.1)

pub decimal_lacks : (n : ℕ) → n ≤ 65536 → lacks 47 (decimal n) ≡ true
decimal_lacks n small = digits_lack (decimal n) (decimal_digits n (omega arith))
