-- What is seen of the frame that is begun next, and whether it is put off.
use Rattle.std.proofs.Common.{◌≡◌, refl, sym, ap, subst, ◌∙◌, ℕ, Bool, true, false, List, []}
use Rattle.std.proofs.Common.{◌∷◌, Option, None, Some}
use Rattle.std.specs.Prelude.{not}
use Rattle.answers.specs.Seen.{Seen}
use Rattle.guarded.specs.LockedConnections.{LockedConnectionOf, IsFree}
use Rattle.serving.specs.{Differing.first_difference, declared.differing.AwaitRequest.AwaitRequest}
use Rattle.serving.specs.{Differing.first_frame, declared.ends.ConnectionEnd.ConnectionEnd}
use Rattle.store.specs.declared.home.Home.{Home}
use Rattle.wire.specs.Ranges.{IsDifference}
use Rattle.wire.specs.declared.{frame.Frame.Frame, standing.Difference.Difference}
use Rattle.multiplex.specs.Noting.{PutsOff, awaited_next, is_due, next_if, next_of, off_by}
use Rattle.multiplex.specs.{Noting.until_of, declared.notes.Notes.Notes}

-- the frame that is begun next is the first one that waits, where one may be begun
pub next_free : (c : LockedConnectionOf) → IsFree c → next_of c ≡ first_frame c.talk.waiting
next_free c free =
    ap (λ z. next_if z c.talk.end c.output c.talk.waiting) free.fed
    ∙ ap (λ z. next_if false z c.output c.talk.waiting) free.unended
    ∙ ap (λ z. next_if false None z c.talk.waiting) free.taken

pub next_some : (c : LockedConnectionOf) (f : Frame)
    → IsFree c × (first_frame c.talk.waiting ≡ Some f) → next_of c ≡ Some f
next_some c f h = next_free c h.0 ∙ h.1

pub next_none : (c : LockedConnectionOf) → (IsFree c → first_frame c.talk.waiting ≡ None)
    → next_of c ≡ None
next_none c none = pick c.starved c.talk.end c.output refl refl refl
  where
    pick : (s : Bool) (e : Option ConnectionEnd) (o : List ℕ) → c.starved ≡ s → c.talk.end ≡ e
        → c.output ≡ o → next_if s e o c.talk.waiting ≡ None
    pick true e o fed unended taken = refl
    pick false (Some e) o fed unended taken = refl
    pick false None (x ∷ o) fed unended taken = refl
    pick false None [] fed unended taken =
        none (record { fed = fed; unended = unended; taken = taken })

-- ---- whether it is put off

pub off_none : (home : Home) (x : Seen) (time : ℕ) (c : LockedConnectionOf) (old new : Notes)
    → awaited_next home c ≡ None → new.until ≡ None → new.known ≡ old.known
    → PutsOff false home x time c old new
off_none home x time c old new next until known =
    (ap (λ z. off_by x z time old.until) next, until, known)

pub off_due : (home : Home) (x : Seen) (time : ℕ) (c : LockedConnectionOf) (old new : Notes)
    (a : AwaitRequest) (until : ℕ) → awaited_next home c ≡ Some a
    → until ≡ until_of a time old.until → true ≡ is_due x a until time → new.until ≡ None
    → new.known ≡ old.known → PutsOff false home x time c old new
off_due home x time c old new a until next at due none known = (
  ap (λ z. off_by x z time old.until) next
      ∙ ap (λ u. not (is_due x a u time)) (sym at) ∙ sym (ap not due),
  none,
  known,
)

pub off_waits : (home : Home) (x : Seen) (time : ℕ) (c : LockedConnectionOf) (old new : Notes)
    (a : AwaitRequest) (until : ℕ) → home ≡ c.talk.home → awaited_next home c ≡ Some a
    → until ≡ until_of a time old.until → false ≡ is_due x a until time → new.until ≡ Some until
    → new.known ≡ old.known → PutsOff true home x time c old new
off_waits home x time c old new a until same next at due put known = (
  ap (λ z. off_by x z time old.until) next
      ∙ ap (λ u. not (is_due x a u time)) (sym at) ∙ sym (ap not due),
  record {
    awaited = a;
    moment = until;
    next = subst (λ h. awaited_next h c ≡ Some a) same next;
    put = put;
    early = sym due;
  },
  known,
)

-- ---- what is heard

pub first_in_range : (old new : Option Difference) → IsDifference old → IsDifference new
    → IsDifference (first_difference old new)
first_in_range None new was is = is
first_in_range (Some d) new was is = was
