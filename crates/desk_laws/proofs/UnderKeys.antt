-- What needs a key came under one.
use Rattle.std.proofs.Common.{◌≡◌, sym, ap, ◌∙◌, ℕ, [], ◌∷◌, ◌++◌, None, Some, inl, inr, Bool, true}
use Rattle.std.proofs.Common.{refl, subst, List, Option, append_assoc, length, false, if◌then◌else◌}
use Rattle.std.specs.{Prelude.IsTrue, Prelude.option_map, List.flat_map}
use Rattle.connections.{specs.Connections.begun_of, proofs.Interleaving.begun_both}
use Rattle.guarded.specs.LockedLaw.{AreAllowed, IsAllowed, IsHallKey}
use Rattle.guarded.{specs.Permitting.permission_of, proofs.Holding.BeginsAt}
use Rattle.multiplex.proofs.Placed.{all_back}
use Rattle.seal.specs.{Records.preface_of, Records.records, declared.channel.Channel.Channel}
use Rattle.sealed.specs.Admitting.{Admits, IsSealed, comes_under}
use Rattle.sealed.specs.{Sent.key_for, Trials.Hands, declared.callers.DeskKeys.DeskKeys}
use Rattle.sealed.specs.declared.callers.Caller.{Caller, TheVariants.Anyone, TheVariants.Visitor}
use Rattle.sealed.specs.declared.callers.Access.TheVariants.{Open, Locked}
use Rattle.sealed.specs.declared.callers.Holder.{Holder, TheVariants.Hall, TheVariants.Entry}
use Rattle.serving.specs.{Asking.request, Differing.withheld, Permissions.permitted}
use Rattle.serving.specs.Connection.{Begun, asked, frames_of}
use Rattle.serving.specs.declared.{permission.Permission.Permission, request.Request.Request}
use Rattle.serving.specs.declared.request.Request.TheVariants.{Heard, Entered, Inspected}
use Rattle.wire.specs.{Spelling.spelling, declared.standing.Difference.Difference}
use Rattle.desk_laws.specs.UnderKeys.{CameUnderKey, EachAsksUnderAKey, IsUnderKey, needs_halls}
use Rattle.desk_laws.specs.UnderKeys.{needs_key}
use Rattle.sealed.specs.declared.callers.Caller.TheVariants as caller
use Rattle.serving.specs.declared.permission.Permission.TheVariants as permission

-- ---- what may be asked without a key, or under the entry key

without_key : (r : Request) → IsTrue (needs_key (permitted permission.Sheets r)) → ⊥
without_key (Heard m) h = absurd cc
without_key _ h = absurd cc

under_entry : (r : Request) → IsTrue (needs_halls (permitted permission.Entries r)) → ⊥
under_entry (Heard m) h = absurd cc
under_entry _ h = absurd cc

-- what is done although another desk differs needs what it needs
abbrev Needs : Request → Request → Type 0
Needs s r =
    (IsTrue (needs_key s) → IsTrue (needs_key r))
    × (IsTrue (needs_halls s) → IsTrue (needs_halls r))

needs_still : (differs : Option Difference) (r : Request) → Needs (withheld differs r) r
needs_still None r = (λ h. h, λ h. h)
needs_still (Some d) (Entered e) = (λ h. absurd cc, λ h. absurd cc)
needs_still (Some d) (Inspected other) = (λ h. absurd cc, λ h. absurd cc)
needs_still (Some d) _ = (λ h. h, λ h. h)

-- ---- what is let in under a key

under_it : (locks : DeskKeys) (who : Holder) (server front handed key client stream : List ℕ)
    (earlier : List Begun) (one : Begun) (c : Channel) → key_for locks who ≡ Some key
    → length client ≡ 16 → front ≡ preface_of client ++ stream
    → c ≡ comes_under client server key → Hands c stream handed → BeginsAt handed earlier one
    → IsUnderKey locks who server front earlier one
under_it locks who server front handed key client stream earlier one c held sixteen whole is hands
    at =
    let h = subst (λ (x : Channel). Hands x stream handed) is hands in
    record {
      key = key;
      held = held;
      client = client;
      bodies = h.1.0;
      rest = h.1.1.rest;
      more = at.more;
      sixteen = sixteen;
      whole = whole ∙ ap (λ (s : List ℕ). preface_of client ++ s) h.1.1.whole;
      each = h.1.1.each;
      inside = sym h.1.2 ∙ at.whole;
    }

-- a channel under the entry key, where there is one
entry_key : (entry : Option (List ℕ)) (client server : List ℕ) (c : Channel)
    → option_map (comes_under client server) entry ≡ Some c
    → (key : List ℕ) × (entry ≡ Some key) × (c ≡ comes_under client server key)
entry_key None client server c is = absurd cc
entry_key (Some key) client server c is = (key, refl, cc)

-- under the second key: it was the hall's, or nothing is done that needs one of the hall
second_halls : (locks : DeskKeys) (key : List ℕ) (r : Request) (old : Bool) → locks.old ≡ old
    → locks.entry ≡ Some key
    → (let may : Permission = if old then permission.All else permission.Entries in
    IsTrue (needs_halls (permitted may r))) → IsHallKey locks key
second_halls locks key r true is held needs = inr (is, held)
second_halls locks key r false is held needs = absurd (under_entry r needs)

came_under : (who : Option Caller) (locks : DeskKeys) (server front handed : List ℕ)
    (earlier : List Begun) (one : Begun) (r : Request)
    → IsTrue (needs_key (permitted (permission_of (Locked locks) who) r))
    → Admits (Locked locks) server front handed who → BeginsAt handed earlier one
    → CameUnderKey locks server front earlier one (permitted (permission_of (Locked locks) who) r)
unfolding under_it
came_under None locks server front handed earlier one r may h at = absurd (without_key r may)
came_under (Some Anyone) locks server front handed earlier one r may h at =
    let bad : Locked locks ≡ Open = h.0 in absurd cc
came_under (Some Visitor) locks server front handed earlier one r may h at =
    absurd (without_key r may)
came_under (Some (caller.Holder Hall)) locks server front handed earlier one r may h at =
    let two : Locked locks ≡ Locked h.0 = h.1 in
    let same : h.0 ≡ locks = cc in
    let s = subst (λ (l : DeskKeys). IsSealed l server front handed (Some Hall)) same h.2 in
    record {
      who = Hall;
      under =
          under_it locks Hall server front handed locks.hall s.client s.stream earlier one
          (comes_under s.client server locks.hall) refl s.prefaced.sixteen s.prefaced.whole refl
          s.hands.1 at;
      halls = λ needs. inl refl;
    }
came_under (Some (caller.Holder Entry)) locks server front handed earlier one r may h at =
    let two : Locked locks ≡ Locked h.0 = h.1 in
    let same : h.0 ≡ locks = cc in
    let s = subst (λ (l : DeskKeys). IsSealed l server front handed (Some Entry)) same h.2 in
    let it = entry_key locks.entry s.client server s.hands.0 s.hands.1 in
    record {
      who = Entry;
      under =
          under_it locks Entry server front handed it.0 s.client s.stream earlier one
          s.hands.0 it.1 s.prefaced.sixteen s.prefaced.whole it.2 s.hands.3 at;
      halls = λ needs. second_halls locks it.0 r locks.old refl it.1 needs;
    }

-- more came after it, and it needed no more than this
under_more : (locks : DeskKeys) (server front later : List ℕ) (earlier : List Begun) (one : Begun)
    (r s : Request) → (IsTrue (needs_halls r) → IsTrue (needs_halls s))
    → CameUnderKey locks server front earlier one s
    → CameUnderKey locks server (front ++ later) earlier one r
under_more locks server front later earlier one r s less c =
    let h = c.under in
    let sealed = records (comes_under h.client server h.key) 0 h.bodies in
    record {
      who = c.who;
      under =
          record {
            key = h.key;
            held = h.held;
            client = h.client;
            bodies = h.bodies;
            rest = h.rest ++ later;
            more = h.more;
            sixteen = h.sixteen;
            whole =
                ap (λ z. z ++ later) h.whole
                ∙ append_assoc (preface_of h.client) (sealed ++ h.rest) later
                ∙ ap (λ z. preface_of h.client ++ z) (append_assoc sealed h.rest later);
            each = h.each;
            inside = h.inside;
          };
      halls = λ needs. c.halls (less needs);
    }

-- a frame begins after those before it
frame_at : (earlier : List Begun) (one : Begun) (later : List Begun) (rest : List ℕ)
    → flat_map spelling (frames_of (earlier ++ one ∷ later)) ++ rest
    ≡ flat_map spelling (frames_of earlier)
    ++ (spelling one.frame ++ (flat_map spelling (frames_of later) ++ rest))
frame_at [] one later rest =
    append_assoc (spelling one.frame) (flat_map spelling (frames_of later)) rest
frame_at (e ∷ earlier) one later rest =
    append_assoc (spelling e.frame) (flat_map spelling (frames_of (earlier ++ one ∷ later))) rest
    ∙ ap (λ z. spelling e.frame ++ z) (frame_at earlier one later rest)
    ∙ sym (append_assoc (spelling e.frame) (flat_map spelling (frames_of earlier))
    (spelling one.frame ++ (flat_map spelling (frames_of later) ++ rest)))

pub each_asks_under_a_key : EachAsksUnderAKey
each_asks_under_a_key home locks server came sent earlier later one h may =
    let s = h.stream in
    let before = begun_of earlier in
    let behind = begun_of later in
    let waits = flat_map spelling h.guard.talk.waiting ++ h.rest in
    let parts = begun_both earlier (one ∷ later) in
    let allowed =
    (all_back (λ (b : Begun). IsAllowed (Locked locks) s.who b) before (one.one ∷ behind)
    (subst (λ z. AreAllowed (Locked locks) s.who z) parts s.allowed)).0 in
    let at : BeginsAt h.handed before one.one =
    record {
      more = flat_map spelling (frames_of behind) ++ waits;
      whole =
          h.served.begins.whole
          ∙ ap (λ z. flat_map spelling (frames_of z) ++ waits) parts
          ∙ frame_at before one.one behind waits;
    } in
    let asks = request home one.one.frame in
    let same = ap (λ (p : Permission). permitted p asks) allowed.may in
    let needs =
    subst (λ (r : Request). IsTrue (needs_key r)) same
    ((needs_still one.one.differs (permitted one.one.may asks)).0 may) in
    let under =
    came_under s.who locks server s.front h.handed before one.one asks needs s.admits at in
    subst (λ z. CameUnderKey locks server z before one.one (asked home one.one))
    (sym s.read.parts)
    (under_more locks server s.front s.read.later before one.one (asked home one.one)
    (permitted (permission_of (Locked locks) s.who) asks)
    (λ n. subst (λ (r : Request). IsTrue (needs_halls r)) same
    ((needs_still one.one.differs (permitted one.one.may asks)).1 n)) under)
