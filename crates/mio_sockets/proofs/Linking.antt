-- What is told of a connection by the calls of the dialogue that a link is.
use Rattle.std.proofs.Common.{◌≡◌, ◌≢◌, sym, ◌∙◌, ℕ, suc, [], ◌∷◌, min, drop, Bool, true, Some}
use Rattle.std.proofs.Common.{refl, ap, subst, zero, List, ◌++◌, take, length, false, Option, arith}
use Rattle.std.specs.Prelude.{◌&&◌, if◌then◌else◌, nat_le}
use Rattle.std.proofs.lemmas.List.{length-take, take-append-drop}
use Rattle.std.specs.declared.net.SocketAddr.{SocketAddr}
use Rattle.polled.specs.Telling.{Tells}
use Rattle.desk_talks.specs.Dialogues.{Act, Call, Hear, Lost, Opened, Sent}
use Rattle.desk_talks.specs.declared.dialogue.DialogueAction.{DialogueAction}
use Rattle.desk_sockets.specs.Wires.{CallsTell, Drives, Wired, address_of, begun, closed_in}
use Rattle.desk_sockets.specs.Wires.{told_of, told_of_heard, told_of_wish, took}
use Rattle.links.specs.Links.{LinkState, after_closed, after_sent, closed_at, has_some, pending}
use Rattle.links.specs.Links.{is_over, wish_at, wish_of}
use Rattle.links.specs.declared.stages.{LinkAction.LinkAction, LinkStage.LinkStage}
use Rattle.mio_sockets.specs.Linking.{SideLeads, SideOf, action_at, is_stuck, phase_of, sent_steps}
use Rattle.mio_sockets.specs.{Linking.steps_at, Linking.steps_of, Wiring.Goes, Wiring.told_all}
use Rattle.mio_sockets.proofs.Driving.{Driven, both}
use Rattle.desk_talks.specs.declared.dialogue.ConnectionPhase.TheVariants as phase
use Rattle.links.specs.declared.stages.LinkAction.TheVariants as wish
use Rattle.links.specs.declared.stages.LinkStage.TheVariants as stage

-- ---- what is to be done

-- at which stages a wish comes
abbrev ComesAt : LinkAction → LinkStage → Type 0
ComesAt wish.Rest st = Unit {0}
ComesAt wish.Open st = phase_of st ≡ phase.Closed
ComesAt wish.GiveUp st = phase_of st ≡ phase.Opening
ComesAt _ st = phase_of st ≡ phase.Open

by_if : (b : Bool) (x y : LinkAction) (st : LinkStage) → ComesAt x st → ComesAt y st
    → ComesAt (if b then x else y) st
by_if true x y st one other = one
by_if false x y st one other = other

comes_at : (st : LinkStage) (waits : Bool) (now : ℕ) → ComesAt (wish_at st waits now) st
comes_at stage.Closed waits now = by_if waits _ _ stage.Closed refl tt
comes_at (stage.Paused since millis) waits now =
    by_if (waits && is_over now since millis) _ _ (stage.Paused since millis) refl tt
comes_at (stage.Opening since) waits now =
    by_if (is_over now since 1000) _ _ (stage.Opening since) refl tt
comes_at (stage.Open frames quiet) waits now =
    by_if (nat_le 63 frames) _ _ (stage.Open frames quiet) refl
    (by_if waits _ _ (stage.Open frames quiet) refl
    (by_if (is_over now quiet 500) _ _ (stage.Open frames quiet) refl tt))

pub wished : (s : LinkState) (now : ℕ) (u : LinkAction) → u ≡ wish_of s now → ComesAt u s.stage
wished s now u is =
    subst (λ (x : LinkAction). ComesAt x s.stage) (sym is)
    (comes_at s.stage (has_some s.waiting) now)

acts : (addresses : List (Option SocketAddr)) (address : SocketAddr) (s : LinkState) (now desk : ℕ)
    (u : LinkAction) (stuck waits : Bool) → u ≡ wish_of s now
    → address_of addresses desk ≡ Some address → told_all address (steps_at u stuck waits now)
    ≡ told_of_wish (action_at u stuck waits desk) addresses (phase_of s.stage)
acts addresses address s now desk wish.Open stuck waits is at =
    sym (ap (λ p. closed_in p ++ begun (address_of addresses desk))
    (wished s now wish.Open is) ∙ ap begun at)
acts addresses address s now desk wish.Close stuck true is at =
    sym (ap (λ p. closed_in p ++ begun (address_of addresses desk)) (wished s now wish.Close is)
    ∙ ap (λ a. closed_in phase.Open ++ begun a) at)
acts addresses address s now desk wish.Rest stuck waits is at = refl
acts addresses address s now desk wish.Write true waits is at = refl
acts addresses address s now desk wish.Write false waits is at = refl
acts addresses address s now desk wish.Close stuck false is at = refl
acts addresses address s now desk wish.GiveUp stuck waits is at = refl

-- what a link wishes is what is to be done, and how it goes on
pub acts_as : (a b : SideOf) (now : ℕ) (u : LinkAction) (stuck waits : Bool) (w : DialogueAction)
    → u ≡ wish_of a.link now → stuck ≡ is_stuck a.link now → waits ≡ has_some a.link.waiting
    → w ≡ action_at u stuck waits a.desk → b.desk ≡ a.desk → b.now ≡ now
    → Goes a.link (steps_at u stuck waits now) b.link → SideLeads (Act w now) a b
acts_as a b now u stuck waits w is so some action desk time goes = record {
  desk = desk;
  time = time;
  answers = action ∙ ap (λ (x : LinkAction). action_at x stuck waits a.desk) is
      ∙ ap (λ (x : Bool). action_at (wish_of a.link now) x waits a.desk) so
      ∙ ap (λ (x : Bool). action_at (wish_of a.link now) (is_stuck a.link now) x a.desk) some;
  goes =
      subst (λ (x : LinkAction). Goes a.link (steps_at x (is_stuck a.link now)
      (has_some a.link.waiting) now) b.link) is
      (subst (λ (x : Bool). Goes a.link (steps_at u x (has_some a.link.waiting) now) b.link) so
      (subst (λ (x : Bool). Goes a.link (steps_at u stuck x now) b.link) some goes));
}

-- a connection that was closed is begun again where something waits
renewed : (s : LinkState) (now : ℕ) (st : LinkStage) → phase_of st ≡ phase.Open
    → wish_of (closed_at st s) now ≡ (if has_some s.waiting then wish.Open else wish.Rest)
renewed s now stage.Closed is = absurd cc
renewed s now (stage.Paused since millis) is = absurd cc
renewed s now (stage.Opening since) is = absurd cc
renewed s now (stage.Open frames quiet) is = refl

waits_where : (b : Bool) → wish.Open ≡ (if b then wish.Open else wish.Rest) → true ≡ b
waits_where true is = refl
waits_where false is = absurd cc

none_where : (b : Bool) (u : LinkAction) → u ≡ (if b then wish.Open else wish.Rest)
    → (u ≡ wish.Open → ⊥) → false ≡ b
none_where true u is other = absurd (other is)
none_where false u is other = refl

wish_again : (s t : LinkState) (now : ℕ) (u : LinkAction) → wish.Close ≡ wish_of s now
    → t ≡ after_closed s → u ≡ wish_of t now
    → u ≡ (if has_some s.waiting then wish.Open else wish.Rest)
wish_again s t now u is closed again =
    again ∙ ap (λ (x : LinkState). wish_of x now) closed
    ∙ renewed s now s.stage (wished s now wish.Close is)

pub begins_again : (s t : LinkState) (now : ℕ) → wish.Close ≡ wish_of s now → t ≡ after_closed s
    → wish.Open ≡ wish_of t now → true ≡ has_some s.waiting
begins_again s t now is closed again =
    waits_where (has_some s.waiting) (wish_again s t now wish.Open is closed again)

pub ends_there : (s t : LinkState) (now : ℕ) (u : LinkAction) → wish.Close ≡ wish_of s now
    → t ≡ after_closed s → u ≡ wish_of t now → (u ≡ wish.Open → ⊥) → false ≡ has_some s.waiting
ends_there s t now u is closed again other =
    none_where (has_some s.waiting) u (wish_again s t now u is closed again) other

-- ---- bytes

wrote : (address : SocketAddr) (now : ℕ) (bytes : List ℕ)
    → told_all address (sent_steps now bytes) ≡ took bytes
wrote address now [] = refl
wrote address now (b ∷ bytes) = refl

pub sends_none : (s : LinkState) (now count : ℕ) → min count (length (pending s)) ≡ 0
    → Goes s (sent_steps now (take count (pending s))) s
sends_none s now count is = go count (pending s) is
  where
    go : (n : ℕ) (xs : List ℕ) → min n (length xs) ≡ 0 → Goes s (sent_steps now (take n xs)) s
    go zero xs is = refl
    go (suc n) [] is = refl
    go (suc n) (x ∷ xs) is = absurd (omega (arith, is))

pub sends_some : (s t : LinkState) (now count taken : ℕ)
    → taken ≡ min count (length (pending s)) → taken ≢ 0 → t ≡ after_sent s now taken
    → Goes s (sent_steps now (take count (pending s))) t
sends_some s t now count taken least some is = go count (pending s) refl least
  where
    go : (n : ℕ) (xs : List ℕ) → xs ≡ pending s → taken ≡ min n (length xs)
        → Goes s (sent_steps now (take n xs)) t
    go zero xs at least = absurd (some (omega (arith, least)))
    go (suc n) [] at least = absurd (some (omega (arith, least)))
    go (suc n) (x ∷ xs) at least =
        let bytes = take (suc n) (x ∷ xs) in (
          t,
          (
            (drop n xs, sym at ∙ sym (take-append-drop (suc n) (x ∷ xs))),
            is ∙ ap (after_sent s now) (least ∙ sym (length-take (suc n) (x ∷ xs))),
          ),
          refl,
        )

-- ---- each call

called : (addresses : List (Option SocketAddr)) (address : SocketAddr) (call : Call) (a b : SideOf)
    → address_of addresses a.desk ≡ Some address → SideLeads call a b
    → told_all address (steps_of call a)
    ≡ told_of call addresses (phase_of a.link.stage) (pending a.link)
called addresses address (Act w now) a b known leads =
    acts addresses address a.link now a.desk (wish_of a.link now) (is_stuck a.link now)
    (has_some a.link.waiting) refl known
    ∙ ap (λ (x : DialogueAction). told_of_wish x addresses (phase_of a.link.stage))
    (sym leads.answers)
called addresses address (Opened true) a b known leads = refl
called addresses address (Opened false) a b known leads = absurd (let k = leads.answers in cc)
called addresses address (Lost true) a b known leads = refl
called addresses address (Lost false) a b known leads = refl
called addresses address (Sent count) a b known leads =
    wrote address a.now (take count (pending a.link))
called addresses address (Hear c now piece) a b known leads =
    ap told_of_heard (sym leads.answers)

all : (addresses : List (Option SocketAddr)) (address : SocketAddr) (calls : List Call)
    (a b : SideOf) (events : List Wired) → address_of addresses a.desk ≡ Some address
    → CallsTell SideLeads (λ x. phase_of x.link.stage) (λ x. pending x.link) addresses a calls b
    events → Driven address a b events
all addresses address [] a b events known (is, none) = record {
  steps = [];
  desk = ap (λ (x : SideOf). x.desk) is;
  goes = ap (λ (x : SideOf). x.link) (sym is);
  told = sym none;
}
all addresses address (call ∷ more) a b events known (next, rest, leads, later, is) =
    let first : Driven address a next (told_of call addresses (phase_of a.link.stage)
    (pending a.link)) =
    record {
      steps = steps_of call a;
      desk = leads.desk;
      goes = leads.goes;
      told = called addresses address call a next known leads;
    } in
    subst (λ (z : List Wired). Driven address a b z) (sym is) (both first
    (all addresses address more next b rest (ap (address_of addresses) leads.desk ∙ known) later))

-- what is told of the connection is what the calls of the link say
pub driven : (addresses : List (Option SocketAddr)) (address : SocketAddr) (a b : SideOf)
    {looks : List Wired} {before after : Option (List Wired)}
    → address_of addresses a.desk ≡ Some address
    → Drives SideLeads (λ x. phase_of x.link.stage) (λ x. pending x.link) addresses a b looks before
    after → (events : List Wired) × Driven address a b events × Tells before after (looks ++ events)
driven addresses address a b known h =
    (h.events, all addresses address h.calls a b h.events known h.lead, h.told)
