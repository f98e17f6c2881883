-- A text is cut at the first ` # `.
use Rattle.std.proofs.Common.{◌≡◌, ℕ, suc, ◌+◌, ◌<◌, Bool, true, false, ◌&&◌, ◌==◌, not, cond, List}
use Rattle.std.proofs.Common.{[], ◌∷◌, ◌++◌, length, take, drop, get_or, codes, bytes_eq, Option}
use Rattle.std.proofs.Common.{Some, None, refl, sym, ap, ◌∙◌, append_assoc, take-append-drop}
use Rattle.std.proofs.{Common.add-one, Common.drop-cons, Math.Seq.take-suc}
use Rattle.texts.specs.{Fields.cut_remark, Spelling.with_remark_text}
use Rattle.texts.proofs.{Cuts.and-true, Cuts.lacks, Spelled.bytes_eq-equal, Splits.not-true}

pub more_text : (b : ℕ) (text : List ℕ) (remark : Option (List ℕ))
    → with_remark_text (b ∷ text) remark ≡ b ∷ with_remark_text text remark
more_text b text None = refl
more_text b text (Some remark) = refl

-- what is cut is the text
pub cut_remark_spelled : (bytes : List ℕ)
    → bytes ≡ with_remark_text (cut_remark bytes).0 (cut_remark bytes).1
cut_remark_spelled [] = refl
cut_remark_spelled (b ∷ bytes) =
    step (bytes_eq (take 3 (b ∷ bytes)) (codes " # ")) refl (cut_remark_spelled bytes)
  where
    later : List ℕ × Option (List ℕ)
    later = (b ∷ (cut_remark bytes).0, (cut_remark bytes).1)

    step : (t : Bool) → bytes_eq (take 3 (b ∷ bytes)) (codes " # ") ≡ t
        → bytes ≡ with_remark_text (cut_remark bytes).0 (cut_remark bytes).1
        → (let p : List ℕ × Option (List ℕ) = cond t ([], Some (drop 3 (b ∷ bytes))) later in
        b ∷ bytes ≡ with_remark_text p.0 p.1)
    step false is rest =
        ap (λ y. b ∷ y) rest ∙ sym (more_text b (cut_remark bytes).0 (cut_remark bytes).1)
    step true is rest =
        sym (take-append-drop 3 (b ∷ bytes))
        ∙ ap (λ y. y ++ drop 3 (b ∷ bytes)) (bytes_eq-equal (take 3 (b ∷ bytes)) (codes " # ") is)

-- no ` # ` begins at a byte of a text without `#`
begins_not : (b : ℕ) (text : List ℕ) (remark : Option (List ℕ)) → lacks 35 text ≡ true
    → bytes_eq (take 3 (b ∷ with_remark_text text remark)) (codes " # ") ≡ false
begins_not b [] None h = step (b == 32)
  where
    step : (t : Bool) → (t && false) ≡ false
    step true = refl
    step false = refl
begins_not b [] (Some remark) h = step (b == 32)
  where
    step : (t : Bool) → (t && false) ≡ false
    step true = refl
    step false = refl
begins_not b (d ∷ text) remark h =
    rw (more_text d text remark)
    (rw (not-true (d == 35) (and-true (not (d == 35)) (lacks 35 text) h).0) (step (b == 32)))
  where
    step : (t : Bool) → (t && false) ≡ false
    step true = refl
    step false = refl

-- a remark after a text without `#` is what is cut off
pub cut_remark_found : (text : List ℕ) (remark : Option (List ℕ)) → lacks 35 text ≡ true
    → cut_remark (with_remark_text text remark) ≡ (text, remark)
cut_remark_found [] None h = refl
cut_remark_found [] (Some remark) h = refl
cut_remark_found (b ∷ text) remark h =
    let both = and-true (not (b == 35)) (lacks 35 text) h in
    rw (more_text b text remark)
    (rw (begins_not b text remark both.1) (rw (cut_remark_found text remark both.1) refl))

-- what was cut, with bytes in front that are before any ` # `
abbrev pub with_front : List ℕ → List ℕ × Option (List ℕ) → List ℕ × Option (List ℕ)
with_front front p = (front ++ p.0, p.1)

-- ---- one byte after another

-- none begins there either
pub no_mark_there : (bytes : List ℕ) (i : ℕ) → i < length bytes
    → bytes_eq (take 3 (drop i bytes)) (codes " # ") ≡ false
    → with_front (take i bytes) (cut_remark (drop i bytes))
    ≡ with_front (take (i + 1) bytes) (cut_remark (drop (i + 1) bytes))
no_mark_there bytes i less none =
    rw add-one
    (rw (take-suc bytes i 0 less)
    (step (drop i bytes) (get_or bytes i 0) (drop (suc i) bytes) (drop-cons bytes i 0 less) none))
  where
    step : (ahead : List ℕ) (b : ℕ) (more : List ℕ) → ahead ≡ b ∷ more
        → bytes_eq (take 3 ahead) (codes " # ") ≡ false
        → with_front (take i bytes) (cut_remark ahead)
        ≡ with_front (take i bytes ++ b ∷ []) (cut_remark more)
    step ahead b more is none =
        let here : bytes_eq (take 3 (b ∷ more)) (codes " # ") ≡ false =
        sym (ap (λ y. bytes_eq (take 3 y) (codes " # ")) is) ∙ none in
        rw is
        (rw here
        (ap (λ y. let p : List ℕ × Option (List ℕ) = (y, (cut_remark more).1) in p)
        (sym (append_assoc (take i bytes) (b ∷ []) (cut_remark more).0))))
