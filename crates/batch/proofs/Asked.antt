-- Lines that were entered, or not, and what was asked for that.
use Rattle.std.proofs.Common.{◌≡◌, ◌⊎◌, inl, inr, ℕ, ◌+◌, ◌^◌, ◌≤◌, Bool, true, false, List, []}
use Rattle.std.proofs.Common.{◌∷◌, ◌++◌, Option, Result, Ok, Err, OnOk, IfErr, refl, sym, subst}
use Rattle.client.specs.Printing.{reply_text}
use Rattle.std.{proofs.KnownBytes.Appends-nil, specs.Io.KnownBytes.Appends}
use Rattle.lines.{specs.Bytes.AppendsPart, proofs.Inputs.whole_written}
use Rattle.texts.specs.declared.answer.Answer.{Answer}
use Rattle.wire.specs.declared.frame.FrameBody.{FrameBody}
use Rattle.batch.specs.Asking.{Asked, Asks, IsAnswer, IsOfAsking, submit_of}
use Rattle.batch.specs.Dialing.{GoesBy, Grows, Place, Standing, Way}
use Rattle.batch.specs.Watching.{Begins, Entered, Notice, Telling, Watched, line_notices}
use Rattle.batch.specs.declared.{asking.Receiver.Receiver, fault.BatchFault.BatchFault}
use Rattle.batch.specs.{model.Trying.IsUndecided, declared.lines_entered.Batch.Batch}
use Rattle.batch.specs.Entering.{AsksFront, AsksLines, AsksTo, EnteredBy, EntersLine, FailsLine}
use Rattle.batch.specs.Entering.{Hinders, IsEntered, IsOfPrinting, IsWhole, StopsAsking}
use Rattle.batch.specs.Entering.{StopsBehind, TellsLine, ends_run, told_answer}
use Rattle.batch.proofs.{Going.goes_none, Going.grows_more, Going.grows_none, Trying.between}
use Rattle.batch.specs.declared.fault.BatchFault.TheVariants as fault

-- it begins, and so the observer was told
begun_more : (x y z : Option (List Notice)) (id : ℕ) (line : List ℕ) (told : List Notice)
    → Grows x y (Begins id line ∷ []) → Grows y z told → Grows x z (Begins id line ∷ told)
begun_more x y z id line told h k = grows_more x y z (Begins id line ∷ []) told h k

line_heard : (x y z u : Option (List Notice)) (id : ℕ) (line : List ℕ) (told : List Notice)
    (said answer : Option Answer) → said ≡ answer → Grows x y (Begins id line ∷ [])
    → Grows y z told → Grows z u (Entered said ∷ []) → Grows x u (line_notices id line told answer)
line_heard x y z u id line told said answer is begins heard ends =
    begun_more x y u id line (told ++ Entered answer ∷ []) begins
    (grows_more y z u told (Entered answer ∷ []) heard
    (subst (λ a. Grows z u (Entered a ∷ [])) is ends))

-- an equal text was entered
entered_text : {here : Place} (b : Batch) (id : ℕ) (text line : List ℕ) (last : FrameBody)
    (old new : Standing) (v : Watched) → text ≡ line
    → Asks here old new (Telling v (EnteredBy b.waits b.receiver id text last))
    → Asks here old new (Telling v (EnteredBy b.waits b.receiver id line last))
entered_text {here} b id text line last old new v same h =
    subst (λ t. Asks here old new (Telling v (EnteredBy b.waits b.receiver id t last))) same h

-- how connections go to this place
abbrev pub way : Place → (old new : Standing) → Way
way here old new = record { place = here; old = old; new = new }

whole_printing : (f : BatchFault) (old new : Option (List ℕ)) (said : List ℕ) → IsOfPrinting f
    → IsWhole f old new said
whole_printing f old new said (inl write) =
    subst (λ x. IsWhole x old new said) (sym write) tt
whole_printing f old new said (inr memory) =
    subst (λ x. IsWhole x old new said) (sym memory) tt

whole_none : (f : BatchFault) (old : Option (List ℕ)) → IsWhole f old old []
whole_none fault.AtRefusal old = Appends-nil old
whole_none _ old = tt

none_written : (old : Option (List ℕ)) → AppendsPart old old []
none_written old = ([], [], record { parts = refl; written = Appends-nil old })

-- it was entered, and its answer could not be printed, or a front part of it was
pub unprinted : {here : Place} (b : Batch) (id n : ℕ) (text line : List ℕ) (last : FrameBody)
    (from to : Standing) (x y z : Option (List Notice)) (old new : Option (List ℕ))
    (f : BatchFault) → id ≡ b.first_id + n → text ≡ line → IsOfPrinting f
    → IsEntered b.waits b.receiver id line last → Grows x y (Begins id line ∷ [])
    → Asks here from to (Telling (between y z) (EnteredBy b.waits b.receiver id text last))
    → AppendsPart old new (reply_text last)
    → FailsLine f b n line (way here from to) (between x z) old new
unprinted {here} b id n text line last from to x y z old new f is same printing entered begins h
    part =
    let k = entered_text b id text line last from to (between y z) same h in
    let said = reply_text last in
    record {
      said = said;
      written = part;
      whole = whole_printing f old new said printing;
      asked =
          subst (λ m. Asks here from to (Telling (between x z) (StopsBehind f b m line said))) is (
            k.0,
            k.1,
            (
              Begins id line ∷ k.2.0,
              inr (inr (last, k.2.0, entered, k.2.1, refl, inl (printing, refl))),
              begun_more x y z id line k.2.0 begins k.2.2,
            ),
          );
    }

-- it was printed, and the run ends since it was refused
pub refused : {here : Place} (b : Batch) (id n : ℕ) (text line : List ℕ) (last : FrameBody)
    (from to : Standing) (x y z u : Option (List Notice)) (said : Option Answer)
    (old new : Option (List ℕ)) → id ≡ b.first_id + n → text ≡ line → said ≡ told_answer last
    → ends_run b last ≡ true → IsEntered b.waits b.receiver id line last
    → Grows x y (Begins id line ∷ [])
    → Asks here from to (Telling (between y z) (EnteredBy b.waits b.receiver id text last))
    → Grows z u (Entered said ∷ []) → Appends old new (reply_text last)
    → FailsLine fault.AtRefusal b n line (way here from to) (between x u) old new
refused {here} b id n text line last from to x y z u said old new is same answer ends entered begins
    h told written =
    let k = entered_text b id text line last from to (between y z) same h in
    let text_said = reply_text last in
    record {
      said = text_said;
      written = whole_written old new text_said written;
      whole = written;
      asked =
          subst (λ m. Asks here from to
          (Telling (between x u) (StopsBehind fault.AtRefusal b m line text_said))) is (
            k.0,
            k.1,
            (
              line_notices id line k.2.0 (told_answer last),
              inr (inr (last, k.2.0, entered, k.2.1, refl, inr (refl, ends, refl))),
              line_heard x y z u id line k.2.0 said (told_answer last) answer begins k.2.2 told,
            ),
          );
    }

-- it was not entered
pub unentered : {here : Place} (b : Batch) (id n : ℕ) (text line : List ℕ) (from to : Standing)
    (x y z : Option (List Notice)) (old : Option (List ℕ)) (f : BatchFault)
    → id ≡ b.first_id + n → text ≡ line
    → IsOfAsking f ⊎ Hinders f b.waits b.receiver id text → Grows x y (Begins id line ∷ [])
    → Asks here from to (Telling (between y z) (StopsAsking f b.receiver id text))
    → FailsLine f b n line (way here from to) (between x z) old old
unentered {here} b id n text line from to x y z old f is same why begins h =
    let k = subst (λ t. Asks here from to (Telling (between y z) (StopsAsking f b.receiver id t)))
    same h in
    let cause = subst (λ t. IsOfAsking f ⊎ Hinders f b.waits b.receiver id t) same why in
    record {
      said = [];
      written = none_written old;
      whole = whole_none f old;
      asked =
          subst (λ m. Asks here from to (Telling (between x z) (StopsBehind f b m line []))) is (
            k.0,
            k.1,
            (
              Begins id line ∷ k.2.0,
              inr (inl (k.2.0, cause, k.2.1, refl, refl)),
              begun_more x y z id line k.2.0 begins k.2.2,
            ),
          );
    }

-- there is no such id
pub beyond : (here : Place) (b : Batch) (n : ℕ) (line : List ℕ) (from : Standing)
    (x : Option (List Notice)) (old : Option (List ℕ)) → 2 ^ 64 ≤ b.first_id + n
    → FailsLine fault.NoMoreIds b n line (way here from from) (between x x) old old
beyond here b n line from x old far = record {
  said = [];
  written = none_written old;
  whole = tt;
  asked = ([], goes_none here from, ([], inl (far, refl, refl, refl, refl), grows_none x));
}

-- a line that was entered, its answer printed
pub enters_line : {here : Place} (b : Batch) (id n : ℕ) (text line : List ℕ) (last : FrameBody)
    (from to : Standing) (x y z u : Option (List Notice)) (said : Option Answer)
    (old new : Option (List ℕ)) → id ≡ b.first_id + n → text ≡ line → said ≡ told_answer last
    → IsEntered b.waits b.receiver id line last → Grows x y (Begins id line ∷ [])
    → Asks here from to (Telling (between y z) (EnteredBy b.waits b.receiver id text last))
    → Grows z u (Entered said ∷ []) → ends_run b last ≡ false → Appends old new (reply_text last)
    → EntersLine b n line (way here from to) (between x u) old new
enters_line {here} b id n text line last from to x y z u said old new is same answer entered begins
    h told on written =
    let k = entered_text b id text line last from to (between y z) same h in
    record {
      last = last;
      entered = subst (λ m. IsEntered b.waits b.receiver m line last) is entered;
      asked =
          subst (λ m. Asks here from to (Telling (between x u) (TellsLine b m line last))) is (
            k.0,
            k.1,
            (
              line_notices id line k.2.0 (told_answer last),
              (k.2.0, k.2.1, refl),
              line_heard x y z u id line k.2.0 said (told_answer last) answer begins k.2.2 told,
            ),
          );
      goes_on = on;
      written = written;
    }

-- a command that was taken was not decided, where that was waited for
pub undecided : (Fails : BatchFault → Type 0) (f : BatchFault) (waits : Bool) (r : Receiver)
    (id : ℕ) (text : List ℕ) (taken : FrameBody)
    → waits ≡ true → IsAnswer (submit_of r id text) taken → Fails f ⊎ IsUndecided f r id
    → Fails f ⊎ Hinders f waits r id text
undecided Fails f waits r id text taken is t (inl h) = inl h
undecided Fails fault.Lost waits r id text taken is t (inr h) =
    inr (is, taken, t, h.0, h.1, h.2)
undecided Fails fault.StillPending waits r id text taken is t (inr h) =
    inr (is, taken, t, h.0, h.1, h.2)
undecided Fails _ waits r id text taken is t (inr h) = absurd h

-- so it was where the result is this fault
pub stops_to : (r : Result (Unit {0}) BatchFault) (f : BatchFault) (b : Batch)
    (lines : List (List ℕ)) (w : Way) (v : Watched) (old new : Option (List ℕ)) → r ≡ Err f
    → AsksFront (GoesBy w) v f b lines old new → AsksTo r b lines w v old new
stops_to r f b lines w v old new is h = subst (λ x. AsksTo x b lines w v old new) (sym is) h

-- more is said of the requests
pub asks_so : (Were : List Asked → Type 0) (r : Result (Unit {0}) BatchFault) (b : Batch)
    (lines : List (List ℕ)) (w : Way) (v : Watched) (old new : Option (List ℕ))
    → ((asked : List Asked) → GoesBy w asked → Were asked) → AsksTo r b lines w v old new
    → OnOk r (AsksLines Were v b lines old new)
asks_so Were (Ok _) b lines w v old new more h = record {
  said = h.said;
  written = h.written;
  asked = h.asked;
  told = more h.asked h.told;
  notices = h.notices;
  heard = h.heard;
  each = h.each;
}
asks_so Were (Err f) b lines w v old new more h = tt

pub asks_some_so : (Were : List Asked → Type 0) (r : Result (Unit {0}) BatchFault) (b : Batch)
    (lines : List (List ℕ)) (w : Way) (v : Watched) (old new : Option (List ℕ))
    → ((asked : List Asked) → GoesBy w asked → Were asked) → AsksTo r b lines w v old new
    → IfErr r (λ f. AsksFront Were v f b lines old new)
asks_some_so Were (Ok _) b lines w v old new more h = tt
asks_some_so Were (Err f) b lines w v old new more h = record {
  front = h.front;
  line = h.line;
  others = h.others;
  parts = h.parts;
  said = h.said;
  next = h.next;
  written = h.written;
  whole = h.whole;
  asked = h.asked;
  behind = h.behind;
  told = more (h.asked ++ h.behind) h.told;
  notices = h.notices;
  last = h.last;
  heard = h.heard;
  each = h.each;
  ends = h.ends;
}
