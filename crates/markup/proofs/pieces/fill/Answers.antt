use Rattle.std.proofs.Common.{◌≡◌, ◌∙◌, ◌++◌, ◌+◌, ◌<◌, ◌≤◌, ◌∷◌, ◌==◌, [], ℕ, false, List, ap}
use Rattle.std.proofs.Common.{append-nil, append_assoc, arith, drop, get_or, length, map, refl, sym}
use Rattle.std.proofs.Math.ListN.{drop_of_length-le}
use Rattle.std.proofs.lemmas.{Bool.Decides.nat_tests, List.drop_more}
use Rattle.markup.specs.{Pieces.fill, Pieces.piece_text, declared.pieces.Piece.Piece}
use Rattle.markup.proofs.pieces.fill.Goals.{then-byte-eq36+then-next-pieces+in_ok-push_piece}
use Rattle.markup.proofs.pieces.fill.Goals.{else-byte-eq36+in_ok-push}
use Rattle.markup.proofs.pieces.fill.Goals.{else-byte-eq36-via-then-byte-eq36+else-next-pieces}
use Rattle.markup.proofs.pieces.fill.Goals.{else-byte-eq36-via-else-byte-eq36}
use Rattle.markup.proofs.pieces.fill.Goals as goal

as_it_is : (html : List ℕ) → fill html [] ≡ html
unfolding fill
as_it_is html = refl

nothing : (texts : List (List ℕ)) → fill [] texts ≡ []
unfolding fill
nothing [] = refl
nothing (text ∷ texts) = refl

hole : (html text : List ℕ) (texts : List (List ℕ))
    → fill (36 ∷ html) (text ∷ texts) ≡ text ++ fill html texts
unfolding fill
hole html text texts = refl

byte_left : (byte : ℕ) (html : List ℕ) (texts : List (List ℕ)) → (byte == 36) ≡ false
    → fill (byte ∷ html) texts ≡ byte ∷ fill html texts
unfolding fill
byte_left byte html [] other = refl
byte_left byte html (text ∷ texts) other = rw other refl

-- what is left to fill after a byte of the HTML
module _ (html out : List ℕ) (ps : List Piece) (i n : ℕ) (within : i < length html) where
  abbrev rest : List ℕ → ℕ → List ℕ
  rest left m = fill left (map piece_text (drop m ps))

  filled : (p : Piece) → get_or html i 0 ≡ 36 → n < length ps
      → (out ++ piece_text (get_or ps n p)) ++ rest (drop (i + 1) html) (n + 1)
      ≡ out ++ rest (drop i html) n
  filled p is some =
      append_assoc out (piece_text (get_or ps n p)) (rest (drop (i + 1) html) (n + 1))
      ∙ ap (λ l. out ++ l) (sym (rw (drop_more html i 0 within, is, drop_more ps n p some)
      (hole (drop (i + 1) html) (piece_text (get_or ps n p)) (map piece_text (drop (n + 1) ps)))))

  copied : fill (get_or html i 0 ∷ drop (i + 1) html) (map piece_text (drop n ps))
      ≡ get_or html i 0 ∷ rest (drop (i + 1) html) n
      → (out ++ get_or html i 0 ∷ []) ++ rest (drop (i + 1) html) n ≡ out ++ rest (drop i html) n
  copied made =
      append_assoc out (get_or html i 0 ∷ []) (rest (drop (i + 1) html) n)
      ∙ ap (λ l. out ++ l) (sym (rw (drop_more html i 0 within) made))

  full : length ps ≤ n → fill (get_or html i 0 ∷ drop (i + 1) html) (map piece_text (drop n ps))
      ≡ get_or html i 0 ∷ rest (drop (i + 1) html) n
  full none =
      rw (drop_of_length-le ps none) (as_it_is (get_or html i 0 ∷ drop (i + 1) html)
      ∙ ap (λ l. get_or html i 0 ∷ l) (sym (as_it_is (drop (i + 1) html))))

pub loop-byte-preserved : goal.loop-byte-preserved
loop-byte-preserved c =
    let html = c.args.html.now in
    let ps = c.args.pieces.now in
    let i = c.loop-byte.byte-index in
    let n = c.loop-byte.next in
    let out = c.loop-byte.out.items in
    let within : i < length html = omega arith in
    elim c.if-byte-eq36.branch [
      | then-byte-eq36+then-next-pieces+in_ok-push_piece w ↦ rw (
        w.out-is,
        w.next-is,
        w.in_ok-push_piece.ensures,
      )
          (filled html out ps i n within _ w.if-byte-eq36.true w.if-next-pieces.true
          ∙ c.loop-byte.invariant)
      | else-byte-eq36+in_ok-push w ↦
          let same : fill (get_or html i 0 ∷ drop (i + 1) html) (map piece_text (drop n ps))
          ≡ get_or html i 0 ∷ fill (drop (i + 1) html) (map piece_text (drop n ps)) =
          elim w.else-byte-eq36.branch [
            | else-byte-eq36-via-then-byte-eq36+else-next-pieces v ↦
                full html out ps i n within v.if-next-pieces.false
            | else-byte-eq36-via-else-byte-eq36 v ↦
                let other : (get_or html i 0 == 36) ≡ false =
                let h = v.if-byte-eq36.false in grind (arith, nat_tests) in
                byte_left _ (drop (i + 1) html) (map piece_text (drop n ps)) other
          ] in
          rw (w.out-is, w.next-is, w.in_ok-push.ensures.items)
          (copied html out ps i n within same ∙ c.loop-byte.invariant)
    ]

pub returns : goal.returns
returns c =
    let html = c.args.html.now in
    let last : length html ≤ c.loop-byte.byte-index = omega arith in
    let left = map piece_text (drop c.loop-byte.next c.args.pieces.now) in
    sym (append-nil c.loop-byte.out.items)
    ∙ ap (λ l. c.loop-byte.out.items ++ l) (sym (rw (drop_of_length-le html last) (nothing left)))
    ∙ c.loop-byte.invariant
