-- An archive as it is written, line after line.
use Rattle.std.proofs.Common.{◌≡◌, ℕ, ◌+◌, ◌<◌, ◌≤◌, suc, List, [], ◌∷◌, ◌++◌, length, get_or, take}
use Rattle.std.proofs.Common.{drop, Option, Some, refl, sym, ap, ◌∙◌, append_assoc, append-nil}
use Rattle.std.proofs.Common.{subst, drop-cons, arith, below_more, ◌-◌, leb-true, leb-false}
use Rattle.std.specs.Prelude.{Result, Err, OnErr, slice_get, nat_le, if◌then◌else◌, Bool, true}
use Rattle.std.specs.{Prelude.false, Io.KnownBytes.Appends}
use Rattle.std.proofs.{KnownBytes.Appends-nil, lemmas.List.drop_all, Math.Seq.take-suc}
use Rattle.std.proofs.lemmas.Option.{slice_get_within, get_or_from_slice_get}
use Rattle.acceptor.specs.{Entries.IsText, declared.entry.Entry.Entry}
use Rattle.lines.specs.Bytes.{Writes, AppendsPart}
use Rattle.lines.proofs.Inputs.{part_front, waits_more, all_out, part_out, still_waits}
use Rattle.archive.specs.Archive.{archive, archive_from, bytes_of, line_of, lines_behind}
use Rattle.archive.specs.model.Firsts.{piece_from}

-- the lines of the positions from one on, and those of them that are not left out
abbrev pub lines_from : ℕ → List Entry → List (List ℕ)
lines_from pos es = lines_behind (take pos es) (drop pos es)

abbrev pub rest_from : (from pos : ℕ) → List Entry → List ℕ
rest_from from pos es = bytes_of (drop (from - pos) (lines_from pos es))

lines-next : (pos : ℕ) (es : List Entry) (e : Entry) → slice_get es pos ≡ Some e
    → lines_from pos es ≡ line_of (take pos es) e ∷ lines_from (pos + 1) es
lines-next pos es e is =
    let next : suc pos ≡ pos + 1 = omega arith in
    let within = slice_get_within es pos e is in
    let at = get_or_from_slice_get es pos e e is in
    ap (λ (xs : List Entry). lines_behind (take pos es) xs)
    (drop-cons es pos e within ∙ ap (λ (x : Entry). x ∷ drop (suc pos) es) at)
    ∙ ap (λ (b : List Entry). line_of (take pos es) e ∷ lines_behind b (drop (suc pos) es))
    (sym (take-suc es pos e within ∙ ap (λ (x : Entry). take pos es ++ x ∷ []) at))
    ∙ ap (λ (n : ℕ). line_of (take pos es) e ∷ lines_from n es) next

-- a line that is left out, or not
left_out : (n k : ℕ) (line : List ℕ) (more : List (List ℕ)) → n ≡ suc k
    → bytes_of (drop n (line ∷ more)) ≡ bytes_of (drop k more)
left_out n k line more is = ap (λ m. bytes_of (drop m (line ∷ more))) is

kept_line : (n k : ℕ) (line : List ℕ) (more : List (List ℕ)) → n ≡ 0 → k ≡ 0
    → bytes_of (drop n (line ∷ more)) ≡ (line ++ 10 ∷ []) ++ bytes_of (drop k more)
kept_line n k line more none last =
    ap (λ m. bytes_of (drop m (line ∷ more))) none
    ∙ ap (λ m. (line ++ 10 ∷ []) ++ bytes_of (drop m more)) (sym last)

piece-next : (from pos : ℕ) (line : List ℕ) (more : List (List ℕ)) (there : Bool)
    → nat_le from pos ≡ there → bytes_of (drop (from - pos) (line ∷ more))
    ≡ (if there then line ++ 10 ∷ [] else []) ++ bytes_of (drop (from - (pos + 1)) more)
piece-next from pos line more true h =
    let le : from ≤ pos = leb-true from pos h in
    kept_line (from - pos) (from - (pos + 1)) line more (omega (arith, le)) (omega (arith, le))
piece-next from pos line more false h =
    let lt : pos < from = leb-false from pos h in
    left_out (from - pos) (from - (pos + 1)) line more (omega (arith, lt))

rest-next : (from pos : ℕ) (es : List Entry) (e : Entry) → slice_get es pos ≡ Some e
    → rest_from from pos es ≡ piece_from from es pos e ++ rest_from from (pos + 1) es
rest-next from pos es e is =
    ap (λ ls. bytes_of (drop (from - pos) ls)) (lines-next pos es e is)
    ∙ piece-next from pos (line_of (take pos es) e) (lines_from (pos + 1) es) (nat_le from pos) refl

rest-end : (from pos : ℕ) (es : List Entry) → length es ≤ pos → rest_from from pos es ≡ []
rest-end from pos es past =
    ap (λ l. bytes_of (drop (from - pos) (lines_behind (take pos es) l))) (drop_all pos es past)
    ∙ ap bytes_of (drop_all (from - pos) [] (omega arith))

-- the lines in front of a position were written or wait, and their entries' texts are in range
pub record Archived (from : ℕ) (es : List Entry) (pos : ℕ) (old new : Option (List ℕ))
    (out : List ℕ) : Type 0 where
  pub text : List ℕ
  pub front : List ℕ
  pub written : Writes old new text front out
  pub whole : text ++ rest_from from pos es ≡ archive_from from es
  pub short : (k : ℕ) → k < pos → (d : Entry) → IsText (get_or es k d).text

pub begins : (from : ℕ) (es : List Entry) (old : Option (List ℕ)) (out : List ℕ) → out ≡ []
    → Archived from es 0 old old out
begins from es old out none = record {
  text = [];
  front = [];
  written = record { parts = sym none; written = Appends-nil old };
  whole = ap (λ n. bytes_of (drop n (archive es))) (let k : from - 0 ≡ from = omega arith in k);
  short = λ k less. absurd (omega arith);
}

pub one_more : (from : ℕ) (es : List Entry) (pos : ℕ) (e : Entry) (old mid new : Option (List ℕ))
    (out out' out'' : List ℕ)
    → Archived from es pos old mid out → slice_get es pos ≡ Some e → IsText e.text
    → out' ≡ out ++ piece_from from es pos e → (front : List ℕ) × Writes mid new out' front out''
    → Archived from es (pos + 1) old new out''
one_more from es pos e old mid new out out' out'' a is fits said w =
    let line : List ℕ = piece_from from es pos e in
    let text : a.text ++ line ≡ a.front ++ out' =
    ap (λ t. t ++ line) a.written.parts
    ∙ append_assoc a.front out line
    ∙ ap (λ t. a.front ++ t) (sym said) in
    record {
      text = a.text ++ line;
      front = a.front ++ w.0;
      written =
          waits_more old mid new (a.text ++ line) a.front out' w.0 out'' text a.written.written w.1;
      whole =
          append_assoc a.text line (rest_from from (pos + 1) es)
          ∙ ap (λ t. a.text ++ t) (sym (rest-next from pos es e is))
          ∙ a.whole;
      short =
          below_more (λ k. (d : Entry) → IsText (get_or es k d).text) pos a.short
          (λ d. subst (λ (x : Entry). IsText x.text)
          (sym (get_or_from_slice_get es pos e d is)) fits);
    }

part : (from : ℕ) (es : List Entry) (pos : ℕ) (old mid new : Option (List ℕ)) (out : List ℕ)
    (a : Archived from es pos old mid out) → AppendsPart old new a.text
    → AppendsPart old new (archive_from from es)
part from es pos old mid new out a front =
    subst (AppendsPart old new) a.whole (part_front old new a.text (rest_from from pos es) front)

-- what waits was not written whole
pub unwritten : (from : ℕ) (es : List Entry) (pos : ℕ) (old mid new : Option (List ℕ))
    (out : List ℕ) → Archived from es pos old mid out → AppendsPart mid new out
    → AppendsPart old new (archive_from from es)
unwritten from es pos old mid new out a front =
    part from es pos old mid new out a (part_out old mid new a.text a.front out a.written front)

-- what waits was not written
pub forgotten : (from : ℕ) (es : List Entry) (pos : ℕ) (old new : Option (List ℕ)) (out : List ℕ)
    → Archived from es pos old new out → AppendsPart old new (archive_from from es)
forgotten from es pos old new out a =
    part from es pos old new new out a (still_waits old new a.text a.front out a.written)

-- all lines were written
pub ends : (from : ℕ) (es : List Entry) (pos : ℕ) (old mid new : Option (List ℕ)) (out : List ℕ)
    → Archived from es pos old mid out → length es ≤ pos → Appends mid new out
    → Appends old new (archive_from from es)
ends from es pos old mid new out a past last =
    let text : a.text ≡ archive_from from es =
    sym (append-nil a.text) ∙ ap (λ t. a.text ++ t) (sym (rest-end from pos es past)) ∙ a.whole in
    subst (Appends old new) text (all_out old mid new a.text a.front out a.written last)

pub stopped_by : {A E P : Type 0} (r : Result A E) (e : E) → r ≡ Err e → P → OnErr r P
stopped_by {A} {E} {P} r e is h = subst (λ x. OnErr x P) (sym is) h
