-- What a connection may ask; and that a desk is given a Submit only by a frame that asks for it.
use Rattle.std.proofs.Common.{◌≡◌, ℕ, None, Some, ◌⊎◌, inl, inr, sym, ◌∙◌, ◌+◌, List, [], ◌∷◌, ◌++◌}
use Rattle.std.proofs.Common.{refl, ap, Bool, true, false, cond, ◌||◌, Option, subst, if◌then◌else◌}
use Rattle.acceptor.specs.declared.{entry.Entry.Entry, message.Message.Message}
use Rattle.formats.specs.declared.{events.Event.Event, styles.SheetStyle.SheetStyle}
use Rattle.wire.specs.declared.{standing.Difference.Difference, frame.FrameBody.FrameBody}
use Rattle.serving.specs.{Differing.withheld, Differing.withheld_by, Making.Call, Making.calls_of}
use Rattle.serving.specs.Asking.{ours, strange, request, is_ours}
use Rattle.serving.specs.Permissions.{admits, enters, permitted, reads, turned_away}
use Rattle.serving.specs.{declared.permission.Permission.Permission, Nodes.Fate}
use Rattle.serving.specs.declared.request.Request.{Request, TheVariants.Strange}
use Rattle.serving.specs.declared.request.Request.TheVariants.{Heard, Lagging, Learned, Entered}
use Rattle.serving.specs.declared.request.Request.TheVariants.{Printed, Inspected, Copied, Ticked}
use Rattle.answers.specs.Seen.{Seen}
use Rattle.learner.specs.declared.event.DeskEvent.{DeskEvent}
use Rattle.learner.specs.declared.event.DeskEvent.TheVariants.{Submit, Start, Tick, Deliver}
use Rattle.serving.specs.Connection.{asked, Begun, serve_frame}
use Rattle.serving.specs.Serving.{Act, Called, Service, reply_to, call, decided, served}
use Rattle.store.specs.declared.home.Home.{Home}
use Rattle.hall_laws.specs.{HallRuns.IsTakenIn, Arriving.decided_each, Pushing.asks_for}
use Rattle.hall_laws.proofs.OwnMessages.{calls_both, no_calls}
use Rattle.hall_laws.proofs.Keeping.{AllMay, served_keeps}
use Rattle.serving.specs.declared.permission.Permission.TheVariants as permission
use Rattle.wire.specs.declared.frame.FrameBody.TheVariants as what

-- what only reads is asked as it came on every connection
pub reads_as_asked : (may : Permission) (r : Request) → reads r ≡ true → permitted may r ≡ r
reads_as_asked permission.All r is = refl
reads_as_asked permission.Entries r is = ap (λ z. cond (z || enters r) r (turned_away r)) is
reads_as_asked permission.Sheets r is = ap (λ z. cond z r (turned_away r)) is

-- what is turned away enters nothing
never_enters : (r : Request) (e : Entry) → turned_away r ≡ Entered e → ⊥
never_enters (Heard m) e is = absurd cc
never_enters _ e is = absurd cc

-- what a connection enters, its frame asked to enter
pub entered_as_asked : (may : Permission) (r : Request) (e : Entry)
    → permitted may r ≡ Entered e → r ≡ Entered e
entered_as_asked may r e is = by (admits may r) is
  where
    by : (b : Bool) → cond b r (turned_away r) ≡ Entered e → r ≡ Entered e
    by true is = is
    by false is = absurd (never_enters r e is)

-- where a desk differs too, and what is asked there for a sheet or entries is asked as it came
withheld_enters : (d : Difference) (r : Request) (e : Entry) → withheld_by d r ≡ Entered e
    → r ≡ Entered e
withheld_enters d (Entered f) e is = absurd cc
withheld_enters d (Inspected differs) e is = absurd cc
withheld_enters d _ e is = is

pub entered_where : (differs : Option Difference) (r : Request) (e : Entry)
    → withheld differs r ≡ Entered e → r ≡ Entered e
entered_where None r e is = is
entered_where (Some d) r e is = withheld_enters d r e is

pub printed_where : (differs : Option Difference) (event : Event) (round position : ℕ)
    (style : SheetStyle) → withheld differs (Printed event round position style)
    ≡ Printed event round position style
printed_where None event round position style = refl
printed_where (Some d) event round position style = refl

pub copied_where : (differs : Option Difference) (position : ℕ)
    → withheld differs (Copied position) ≡ Copied position
copied_where None position = refl
copied_where (Some d) position = refl

-- ---- A desk is given a Submit only by a frame that asks for it.

-- what is taken in these calls is asked for
abbrev TakesOnly : (Entry → Type 0) → List Act → Type 0
TakesOnly asks acts = (e : Entry) → IsTakenIn e (calls_of acts) → asks e

-- what the event submits is asked for
abbrev Asks : (Entry → Type 0) → DeskEvent → Type 0
Asks asks event = (e : Entry) → event ≡ Submit e → asks e

taken_in : (e : Entry) (cs ds : List Call) → IsTakenIn e (cs ++ ds)
    → IsTakenIn e cs ⊎ IsTakenIn e ds
taken_in e [] ds h = inr h
taken_in e (c ∷ cs) ds (inl is) = inl (inl is)
taken_in e (c ∷ cs) ds (inr h) = go (taken_in e cs ds h)
  where
    go : IsTakenIn e cs ⊎ IsTakenIn e ds → IsTakenIn e (c ∷ cs) ⊎ IsTakenIn e ds
    go (inl more) = inl (inr more)
    go (inr more) = inr more

pub taken_front : (e : Entry) (cs ds : List Call) → IsTakenIn e cs → IsTakenIn e (cs ++ ds)
taken_front e [] ds h = absurd h
taken_front e (c ∷ cs) ds (inl is) = inl is
taken_front e (c ∷ cs) ds (inr h) = inr (taken_front e cs ds h)

only_quiet : (asks : Entry → Type 0) (acts more : List Act) → calls_of more ≡ []
    → TakesOnly asks acts → TakesOnly asks (acts ++ more)
only_quiet asks acts more none h e has = h e (rw (no_calls acts more none) at has)

only_call : (asks : Entry → Type 0) (home : Home) (event : DeskEvent) (s : Service)
    → TakesOnly asks s.done → ((e : Entry) → event ≡ Submit e → asks e)
    → TakesOnly asks (call home event s).done
unfolding call
only_call asks home event s h is e has =
    let r = (reply_to home event s).result in
    go (taken_in e (calls_of s.done) (calls_of (Called event r ∷ []))
    (subst (λ z. IsTakenIn e z) (calls_both s.done (Called event r ∷ [])) has))
  where
    go : IsTakenIn e (calls_of s.done)
        ⊎ IsTakenIn e (calls_of (Called event (reply_to home event s).result ∷ [])) → asks e
    go (inl before) = h e before
    go (inr (inl now)) = is e now.0
    go (inr (inr none)) = absurd none

not_start : (asks : Entry → Type 0) (e : Entry) → Start ≡ Submit e → asks e
not_start asks e is = absurd (let two : Start ≡ Submit e = is in cc)

not_tick : (asks : Entry → Type 0) (e : Entry) → Tick ≡ Submit e → asks e
not_tick asks e is = absurd (let two : Tick ≡ Submit e = is in cc)

not_message : (asks : Entry → Type 0) (m : Message) (e : Entry) → Deliver m ≡ Submit e → asks e
not_message asks m e is = absurd (let two : Deliver m ≡ Submit e = is in cc)

none_submits : (asks : Entry → Type 0) (from to pos : ℕ) (es : List Entry)
    → AllMay (Asks asks) (decided_each from to pos es)
none_submits asks from to pos [] = tt
none_submits asks from to pos (e ∷ es) = (
  λ f is. absurd (let two : decided from to pos e ≡ Submit f = is in cc),
  none_submits asks from to (pos + 1) es,
)

-- what the calls of a request take is what it enters
pub entered_only : (home : Home) (x : Seen) (fates : List Fate) (r : Request)
    → TakesOnly (λ e. r ≡ Entered e) (served home x fates r).done
entered_only home x fates r =
    served_keeps home (Asks (λ e. r ≡ Entered e)) (λ s. TakesOnly (λ e. r ≡ Entered e) s.done)
    (record {
      calls = λ event s may h. only_call (λ e. r ≡ Entered e) home event s h may;
      adds = λ acts s none h. only_quiet (λ e. r ≡ Entered e) s.done acts none h;
      drops = λ s h. h;
      starts = not_start (λ e. r ≡ Entered e);
    }) x fates r (by r) (λ e none. absurd none)
  where
    by : (q : Request) → AllMay (Asks (λ e. q ≡ Entered e)) (asks_for q)
    by (Heard m) = (not_message (λ e. Heard m ≡ Entered e) m, tt)
    by (Lagging m) = (not_message (λ e. Lagging m ≡ Entered e) m, tt)
    by (Learned run) =
        none_submits (λ e. Learned run ≡ Entered e) run.from run.to run.pos run.entries
    by (Entered f) = (λ e is. let same : f ≡ e = cc in ap (λ z. Entered z) same, tt)
    by Ticked = (not_tick (λ e. Ticked ≡ Entered e), tt)
    by _ = tt

-- a frame that enters an entry is a Submit of it
ours_enter : (from to : ℕ) (w : FrameBody) (e : Entry) → ours from to w ≡ Entered e
    → w ≡ what.Submit e
ours_enter from to (what.Submit f) e is =
    let same : Entered f ≡ Entered e = is in
    let entry : f ≡ e = cc in ap (λ z. what.Submit z) entry
ours_enter from to _ e is = absurd cc

strange_enter : (w : FrameBody) (e : Entry) → strange w ≡ Entered e → w ≡ what.Submit e
strange_enter (what.Submit f) e is = absurd (let two : Strange ≡ Entered e = is in cc)
strange_enter _ e is = absurd cc

enters_by : (b : Bool) (from to : ℕ) (w : FrameBody) (e : Entry)
    → (if b then ours from to w else strange w) ≡ Entered e → w ≡ what.Submit e
enters_by true from to w e is = ours_enter from to w e is
enters_by false from to w e is = strange_enter w e is

-- what is taken while a frame is served, or a front part of it, is submitted by the frame
pub frame_enters : (home : Home) (x : Seen) (one : Begun) (acts rest : List Act) (e : Entry)
    → (serve_frame home x one).acts ≡ acts ++ rest → IsTakenIn e (calls_of acts)
    → one.frame.what ≡ what.Submit e
unfolding serve_frame
frame_enters home x one acts rest e parts has =
    enters_by (is_ours home one.frame) one.frame.from one.frame.to one.frame.what e
    (entered_as_asked one.may (request home one.frame) e
    (entered_where one.differs (permitted one.may (request home one.frame)) e
    (entered_only home x one.fates (asked home one) e
    (subst (λ z. IsTakenIn e (calls_of z)) (sym parts)
    (subst (λ z. IsTakenIn e z) (sym (calls_both acts rest))
    (taken_front e (calls_of acts) (calls_of rest) has))))))

-- nothing is taken in a Tick, or in a front part of one
pub tick_takes_none : (home : Home) (x : Seen) (one : Begun) (acts rest : List Act) (e : Entry)
    → asked home one ≡ Ticked → (serve_frame home x one).acts ≡ acts ++ rest
    → IsTakenIn e (calls_of acts) → ⊥
unfolding serve_frame
tick_takes_none home x one acts rest e is parts has =
    let enters : asked home one ≡ Entered e =
    entered_only home x one.fates (asked home one) e
    (subst (λ z. IsTakenIn e (calls_of z)) (sym parts)
    (subst (λ z. IsTakenIn e z) (sym (calls_both acts rest))
    (taken_front e (calls_of acts) (calls_of rest) has))) in
    let two : Ticked ≡ Entered e = sym is ∙ enters in
    absurd (let z = two in cc)
