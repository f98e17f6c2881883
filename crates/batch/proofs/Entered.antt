-- Lines that were entered one after the other.
use Rattle.std.proofs.Common.{◌≡◌, ℕ, ◌+◌, ◌<◌, false, List, [], ◌∷◌, ◌++◌, length, Option, refl}
use Rattle.std.proofs.Common.{sym, ap, ◌∙◌, append_assoc, append-nil, subst, arith, take, drop, suc}
use Rattle.std.{proofs.Common.get_or, proofs.Math.Seq.split_at, specs.Io.KnownBytes.Appends}
use Rattle.std.proofs.lemmas.List.{length-map, length-take-le, map-append, take_more}
use Rattle.std.proofs.{Math.Seq.take-length, KnownBytes.Appends-trans, KnownBytes.Appends-nil}
use Rattle.client.specs.Printing.{reply_text}
use Rattle.lines.{specs.command_file.Commands.Numbered, proofs.Inputs.part_after}
use Rattle.wire.specs.declared.frame.FrameBody.{FrameBody}
use Rattle.batch.specs.{Asking.Asked, Asking.Goes, Watching.Notice, Watching.line_notices}
use Rattle.batch.specs.Dialing.{Grows, Place, Standing}
use Rattle.batch.specs.Entering.{AsksFront, AsksLines, EnteredBy, EntersLine, FailsLine, IsEntered}
use Rattle.batch.specs.Entering.{IsWhole, SaidBy, StopsBehind, ends_run, texts_of, told_answer}
use Rattle.batch.specs.declared.{fault.BatchFault.BatchFault, lines_entered.Batch.Batch}
use Rattle.batch.proofs.{Asked.way, Trying.between}
use Rattle.batch.proofs.Going.{goes_more, goes_none, grows_more, grows_none}
use Rattle.batch.specs.declared.fault.BatchFault.TheVariants as fault

-- these lines were entered by these requests, what is said of them is written, and this is told
pub record Entered (here : Place) (b : Batch) (lines : List (List ℕ)) (said : List ℕ)
    (asked : List Asked) (notices : List Notice) (old new : Option (List ℕ))
    (x y : Option (List Notice)) (from to : Standing) : Type 0 where
  pub written : Appends old new said
  pub told : Goes here from to asked
  pub heard : Grows x y notices
  pub each : SaidBy b b.first_id lines said asked notices

pub none_entered : (here : Place) (b : Batch) (old : Option (List ℕ)) (x : Option (List Notice))
    (a : Standing) → Entered here b [] [] [] [] old old x x a a
none_entered here b old x a = record {
  written = Appends-nil old;
  told = goes_none here a;
  heard = grows_none x;
  each = (refl, refl, refl);
}

said_more : (b : Batch) (id : ℕ) (lines : List (List ℕ)) (line said : List ℕ) (last : FrameBody)
    (asked one : List Asked) (notices heard : List Notice) → SaidBy b id lines said asked notices
    → IsEntered b.waits b.receiver (id + length lines) line last
    → EnteredBy b.waits b.receiver (id + length lines) line last one heard → ends_run b last ≡ false
    → SaidBy b id (lines ++ line ∷ []) (said ++ reply_text last) (asked ++ one)
    (notices ++ line_notices (id + length lines) line heard (told_answer last))
said_more b id [] line said last asked one notices heard h entered next on =
    let none : id + 0 ≡ id = omega arith in
    let told = line_notices (id + 0) line heard (told_answer last) in (
      last,
      [],
      one,
      [],
      heard,
      [],
      subst (λ n. IsEntered b.waits b.receiver n line last) none entered,
      subst (λ n. EnteredBy b.waits b.receiver n line last one heard) none next,
      on,
      (refl, refl, refl),
      ap (λ x. x ++ reply_text last) h.0 ∙ sym (append-nil (reply_text last)),
      ap (λ x. x ++ one) h.1 ∙ sym (append-nil one),
      ap (λ x. x ++ told) h.2
          ∙ ap (λ n. line_notices n line heard (told_answer last)) none
          ∙ sym (append-nil (line_notices id line heard (told_answer last))),
    )
said_more b id (l ∷ lines) line said last asked one notices heard h entered next on =
    let same : id + length (l ∷ lines) ≡ id + 1 + length lines = omega arith in
    let told = line_notices (id + length (l ∷ lines)) line heard (told_answer last) in
    let first = line_notices id l h.4 (told_answer h.0) in (
      h.0,
      h.1 ++ reply_text last,
      h.2,
      h.3 ++ one,
      h.4,
      h.5 ++ told,
      h.6,
      h.7,
      h.8,
      subst (λ n. SaidBy b (id + 1) (lines ++ line ∷ []) (h.1 ++ reply_text last) (h.3 ++ one)
          (h.5 ++ line_notices n line heard (told_answer last))) (sym same)
          (said_more b (id + 1) lines line h.1 last h.3 one h.5 heard h.9
          (subst (λ n. IsEntered b.waits b.receiver n line last) same entered)
          (subst (λ n. EnteredBy b.waits b.receiver n line last one heard) same next) on),
      ap (λ x. x ++ reply_text last) h.10 ∙ append_assoc (reply_text h.0) h.1 (reply_text last),
      ap (λ x. x ++ one) h.11 ∙ append_assoc h.2 h.3 one,
      ap (λ x. x ++ told) h.12 ∙ append_assoc first h.5 told,
    )

-- one more line was entered
one_more : {here : Place} (b : Batch) (lines : List (List ℕ)) (n : ℕ) (line said : List ℕ)
    (asked : List Asked) (notices : List Notice) (old new new' : Option (List ℕ))
    (x y z : Option (List Notice)) (from mid to : Standing)
    → Entered here b lines said asked notices old new x y from mid → n ≡ length lines
    → (e : EntersLine b n line (way here mid to) (between y z) new new')
    → Entered here b (lines ++ line ∷ []) (said ++ reply_text e.last) (asked ++ e.asked.0)
    (notices ++ line_notices (b.first_id + n) line e.asked.2.1.0 (told_answer e.last)) old new' x z
    from to
one_more {here} b lines n line said asked notices old new new' x y z from mid to h count e =
    let heard = e.asked.2.1.0 in
    let told = line_notices (b.first_id + n) line heard (told_answer e.last) in
    record {
      written = Appends-trans old new new' said (reply_text e.last) h.written e.written;
      told = goes_more here from mid to asked e.asked.0 h.told e.asked.1;
      heard = grows_more x y z notices told h.heard (subst (Grows y z) e.asked.2.1.2 e.asked.2.2);
      each =
          subst (λ k. SaidBy b b.first_id (lines ++ line ∷ []) (said ++ reply_text e.last)
          (asked ++ e.asked.0)
          (notices ++ line_notices (b.first_id + k) line heard (told_answer e.last))) (sym count)
          (said_more b b.first_id lines line said e.last asked e.asked.0 notices heard h.each
          (subst (λ k. IsEntered b.waits b.receiver (b.first_id + k) line e.last) count e.entered)
          (subst (λ k. EnteredBy b.waits b.receiver (b.first_id + k) line e.last e.asked.0 heard)
          count e.asked.2.1.1) e.goes_on);
    }

-- ---- the texts of commands

texts_more : (commands : List Numbered) (i : ℕ) (d : Numbered) → i < length commands
    → texts_of (take (i + 1) commands)
    ≡ texts_of (take i commands) ++ (get_or commands i d).text ∷ []
texts_more commands i d within =
    ap texts_of (take_more commands i d within)
    ∙ map-append (λ (c : Numbered). c.text) (take i commands) (get_or commands i d ∷ [])

texts_count : (commands : List Numbered) (i : ℕ) → i < length commands
    → i ≡ length (texts_of (take i commands))
texts_count commands i within =
    sym (length-map (take i commands) (λ (c : Numbered). c.text)
    ∙ length-take-le i commands (omega (arith, within)))

texts_parted : (commands : List Numbered) (i : ℕ) (d : Numbered) → i < length commands
    → texts_of commands
    ≡ texts_of (take i commands) ++ (get_or commands i d).text ∷ texts_of (drop (suc i) commands)
texts_parted commands i d within =
    ap texts_of (split_at commands i d within)
    ∙ map-append (λ (c : Numbered). c.text) (take i commands)
    (get_or commands i d ∷ drop (suc i) commands)

-- the first commands were entered by some requests
abbrev pub AreEntered : Place → Batch → List Numbered → ℕ → (old new : Option (List ℕ))
    → (x y : Option (List Notice)) → (from to : Standing) → Type 0
AreEntered here b commands i old new x y from to =
    (said : List ℕ) × (asked : List Asked) × (notices : List Notice)
    × Entered here b (texts_of (take i commands)) said asked notices old new x y from to

-- one more of them was entered
pub next_entered : {here : Place} (b : Batch) (commands : List Numbered) (i : ℕ) (c : Numbered)
    (old new new' : Option (List ℕ)) (x y z : Option (List Notice)) (from mid to : Standing)
    → i < length commands → c ≡ get_or commands i c
    → AreEntered here b commands i old new x y from mid
    → EntersLine b i c.text (way here mid to) (between y z) new new'
    → AreEntered here b commands (i + 1) old new' x z from to
next_entered {here} b commands i c old new new' x y z from mid to within at h e =
    let line : c.text ≡ (get_or commands i c).text = ap (λ (k : Numbered). k.text) at in
    let told = line_notices (b.first_id + i) c.text e.asked.2.1.0 (told_answer e.last) in (
      h.0 ++ reply_text e.last,
      h.1 ++ e.asked.0,
      h.2 ++ told,
      subst (λ lines. Entered here b lines (h.0 ++ reply_text e.last) (h.1 ++ e.asked.0)
          (h.2 ++ told) old new' x z from to)
          (ap (λ t. texts_of (take i commands) ++ t ∷ []) line
          ∙ sym (texts_more commands i c within))
          (one_more b (texts_of (take i commands)) i c.text h.0 h.1 h.2 old new new' x y z from mid
          to h.3 (texts_count commands i within) e),
    )

-- all lines were entered
all_entered : {here : Place} (b : Batch) (lines : List (List ℕ)) (said : List ℕ)
    (asked : List Asked) (notices : List Notice) (old new : Option (List ℕ))
    (x y : Option (List Notice)) (from to : Standing)
    → Entered here b lines said asked notices old new x y from to
    → AsksLines (Goes here from to) (between x y) b lines old new
all_entered b lines said asked notices old new x y from to h = record {
  said = said;
  written = h.written;
  asked = asked;
  told = h.told;
  notices = notices;
  heard = h.heard;
  each = h.each;
}

whole_after : (f : BatchFault) (old new new' : Option (List ℕ)) (said next : List ℕ)
    → Appends old new said → IsWhole f new new' next → IsWhole f old new' (said ++ next)
whole_after fault.AtRefusal old new new' said next h k = Appends-trans old new new' said next h k
whole_after _ old new new' said next h k = tt

-- the next one was not entered, or not printed, or refused
stops_in : {here : Place} (f : BatchFault) (b : Batch) (all lines others : List (List ℕ)) (n : ℕ)
    (line said : List ℕ) (asked : List Asked) (notices : List Notice)
    (old new new' : Option (List ℕ)) (x y z : Option (List Notice))
    (from mid to : Standing) → all ≡ lines ++ line ∷ others
    → Entered here b lines said asked notices old new x y from mid → n ≡ length lines
    → FailsLine f b n line (way here mid to) (between y z) new new'
    → AsksFront (Goes here from to) (between x z) f b all old new'
stops_in {here} f b all lines others n line said asked notices old new new' x y z from mid to parts
    h count e =
    let k = e.asked in
    record {
      front = lines;
      line = line;
      others = others;
      parts = parts;
      said = said;
      next = e.said;
      written = part_after old new new' said e.said h.written e.written;
      whole = whole_after f old new new' said e.said h.written e.whole;
      asked = asked;
      behind = k.0;
      told = goes_more here from mid to asked k.0 h.told k.1;
      notices = notices;
      last = k.2.0;
      heard = grows_more x y z notices k.2.0 h.heard k.2.2;
      each = h.each;
      ends = subst (λ i. StopsBehind f b (b.first_id + i) line e.said k.0 k.2.0) count k.2.1;
    }

pub stops_at : {here : Place} (f : BatchFault) (b : Batch) (commands : List Numbered) (i : ℕ)
    (c : Numbered) (old new new' : Option (List ℕ)) (x y z : Option (List Notice))
    (from mid to : Standing) → i < length commands → c ≡ get_or commands i c
    → AreEntered here b commands i old new x y from mid
    → FailsLine f b i c.text (way here mid to) (between y z) new new'
    → AsksFront (Goes here from to) (between x z) f b (texts_of commands) old new'
stops_at f b commands i c old new new' x y z from mid to within at h e =
    let line : c.text ≡ (get_or commands i c).text = ap (λ (k : Numbered). k.text) at in
    stops_in f b (texts_of commands) (texts_of (take i commands))
    (texts_of (drop (suc i) commands)) i c.text h.0 h.1 h.2 old new new' x y z from mid to
    (texts_parted commands i c within
    ∙ ap (λ t. texts_of (take i commands) ++ t ∷ texts_of (drop (suc i) commands)) (sym line))
    h.3 (texts_count commands i within) e

-- all of the commands were entered
pub whole_list : {here : Place} (b : Batch) (commands : List Numbered) (i : ℕ)
    (old new : Option (List ℕ)) (x y : Option (List Notice)) (from to : Standing)
    → i ≡ length commands → AreEntered here b commands i old new x y from to
    → AsksLines (Goes here from to) (between x y) b (texts_of commands) old new
whole_list {here} b commands i old new x y from to all h =
    let lines : take i commands ≡ commands =
    ap (λ n. take n commands) all ∙ take-length commands in
    all_entered b (texts_of commands) h.0 h.1 h.2 old new x y from to
    (subst (λ cs. Entered here b (texts_of cs) h.0 h.1 h.2 old new x y from to) lines h.3)
