-- The first 68 bytes of a reader, and what all its bytes spell.
use Rattle.std.proofs.Common.{◌≡◌, ◌∙◌, ℕ, ◌≤◌, ◌+◌, ◌-◌, ◌==◌, List, [], ◌∷◌, ◌++◌, take, drop}
use Rattle.std.proofs.Common.{length, ap, get_or, sym, subst, arith, Bool, true, false, Option}
use Rattle.std.proofs.Common.{None, Some, cond, Result, Ok, Err, inr}
use Rattle.std.specs.Prelude.{◌↔◌, IfErr, IfOk, IfSome, IsTrue, OnOk, option_map, replicate}
use Rattle.std.proofs.lemmas.List.{length-take, take_all, length-append, length-replicate}
use Rattle.std.proofs.lemmas.List.{take-append-drop, append_cancel_right}
use Rattle.hex.proofs.HexLemmas.{decode_of-ok}
use Rattle.keys.specs.{Keys.digits_of, declared.key_file.fault.KeyFileFault.KeyFileFault}
use Rattle.keys.specs.key_file.KeyFiles.{HasKey, HasMark, HasReturn, IsKeyText, Refuses}
use Rattle.keys.specs.key_file.KeyFiles.{RefusesBytes, RefusesHad, Spells}
use Rattle.keys.specs.declared.key_file.fault.KeyFileFault.TheVariants as key

shorter : (b : Bool) (t : List ℕ)
    → length t ≤ length (cond b (take (length t - 1) t) t) + 1
shorter true t =
    let cut = length-take (length t - 1) t in
    omega (arith, cut)
shorter false t = omega arith

-- a line feed at the end is one byte
digits_length : (t : List ℕ) → length t ≤ length (digits_of t) + 1
digits_length t = shorter (get_or t (length t - 1) 0 == 10) t

-- a key's text has 65 bytes at most, and with a carriage return and a line feed 67
text_length : (t : List ℕ) → IsKeyText t → length t ≤ 65
text_length t is = let few = digits_length t in omega (arith, few, is.0)

return_length : (t : List ℕ) → HasReturn t → length t ≤ 67
return_length t (text, is, key) =
    let few = text_length text key in
    omega (arith, few, ap length is, length-append text (13 ∷ 10 ∷ []))

-- a front part of 68 bytes that has at most 67 is all, and such bytes are their own front part
whole_front : (all : List ℕ) → length (take 68 all) ≤ 67 → take 68 all ≡ all
whole_front all few =
    let cut = length-take 68 all in
    take_all 68 all (omega (arith, cut, few))

all_short : (all : List ℕ) → length all ≤ 67 → take 68 all ≡ all
all_short all few = take_all 68 all (omega (arith, few))

-- what was read with a limit
abbrev pub IsRead : Option (List ℕ) → List ℕ → Type 0
IsRead had read = IfSome had (λ all. read ≡ take 68 all)

pub is_read : (had : Option (List ℕ)) (limit : ℕ) (start read : List ℕ) → start ≡ []
    → limit ≡ 68 → IfSome (option_map (take limit) had) (λ xs. read ≡ start ++ xs)
    → IsRead had read
is_read None limit start read none is h = tt
is_read (Some all) limit start read none is h =
    h ∙ ap (λ z. z ++ take limit all) none ∙ ap (λ z. take z all) is

-- what spells a key is a key's text
spells_text : (bytes key : List ℕ) → length key ≡ 32 → Spells bytes key → IsKeyText bytes
spells_text bytes key sized is =
    let ok = decode_of-ok (digits_of bytes) key is in
    (omega (arith, ok.2, sized), ok.1)

pub zeros_text : (bytes : List ℕ) → Spells bytes (replicate 32 0) → IsKeyText bytes
zeros_text bytes is = spells_text bytes (replicate 32 0) (length-replicate {A = ℕ} 32 0) is

-- a mark at the front of all bytes is at that of their front part, and the other way round
front_marked : (all : List ℕ) → HasMark all → HasMark (take 68 all)
front_marked all (rest, is) = (take 65 rest, ap (take 68) is)

marked_front : (all : List ℕ) → HasMark (take 68 all) → HasMark all
marked_front all (rest, is) =
    (rest ++ drop 68 all, sym (take-append-drop 68 all) ∙ ap (λ z. z ++ drop 68 all) is)

pub spelt : (had : Option (List ℕ)) (read key : List ℕ) → IsRead had read
    → IsKeyText read → HasKey (Some read) key → HasKey had key
spelt None read key front text is = tt
spelt (Some all) read key front text is =
    let few : length (take 68 all) ≤ 67 =
    let most = text_length (take 68 all) (subst IsKeyText front text) in omega (arith, most) in
    subst (λ z. HasKey (Some z) key) (front ∙ whole_front all few) is

-- why the front part gives no key, all bytes give none
all_refused : (all read : List ℕ) (e : KeyFileFault) → read ≡ take 68 all → RefusesBytes read e
    → RefusesBytes all e
all_refused all read key.Mark front why = marked_front all (subst HasMark front why)
all_refused all read key.Return front why =
    let had = subst HasReturn front why in
    subst HasReturn (whole_front all (return_length (take 68 all) had)) had
all_refused all read key.Zeros front why =
    let had = subst (λ z. Spells z (replicate 32 0)) front why in
    let most = text_length (take 68 all) (zeros_text (take 68 all) had) in
    subst (λ z. Spells z (replicate 32 0)) (whole_front all (omega (arith, most))) had
all_refused all read key.NoKey front why = (
  λ text. why.0 (
      let most = text_length all text in
      subst IsKeyText (sym (front ∙ all_short all (omega (arith, most)))) text),
  λ mark. why.1 (subst HasMark (sym front) (front_marked all mark)),
  λ had. why.2 (subst HasReturn (sym (front ∙ all_short all (return_length all had))) had),
)
all_refused all read _ front why = why

pub refused : (had : Option (List ℕ)) (read : List ℕ) (e : KeyFileFault) → IsRead had read
    → RefusesBytes read e → RefusesHad had e
refused None read e front why = (read, why)
refused (Some all) read e front why = all_refused all read e front why

-- bytes from which the two at their end were taken
pub return_is : (bytes text : List ℕ) (found : Bool) → bytes ≡ text ++ 13 ∷ 10 ∷ []
    → (IsTrue found ↔ IsKeyText text) → (IsTrue found ↔ HasReturn bytes)
return_is bytes text found is key = (
  λ yes. (text, is, key.0 yes),
  λ had.
      let same : had.0 ≡ text =
      append_cancel_right had.0 text (13 ∷ 10 ∷ []) (sym had.1 ∙ is) in
      key.1 (subst IsKeyText same had.2),
)

-- what is said of the bytes that were read, of all bytes of the reader
pub key_had : (had : Option (List ℕ)) (read : List ℕ) (r : Result (List ℕ) KeyFileFault)
    → IsRead had read → IfOk r (HasKey (Some read)) → OnOk r (IsKeyText read)
    → IfOk r (HasKey had)
key_had had read (Ok k) front is text = spelt had read k front text is
key_had had read (Err e) front is text = tt

pub fault_had : (had : Option (List ℕ)) (read : List ℕ) (r : Result (List ℕ) KeyFileFault)
    → IsRead had read → IfErr r (RefusesBytes read) → IfErr r (Refuses had)
fault_had had read (Ok k) front why = tt
fault_had had read (Err e) front why = inr (inr (refused had read e front why))
