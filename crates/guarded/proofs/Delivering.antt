-- What is delivered is in records that fit under one of the hall's keys.
use Rattle.std.proofs.Common.{◌≡◌, refl, sym, ap, subst, ◌∙◌, ℕ, List, [], ◌∷◌, ◌++◌, Option, None}
use Rattle.std.proofs.Common.{Some, Bool, true, false, append_assoc, inl, inr}
use Rattle.std.specs.Prelude.{IsTrue, if◌then◌else◌, option_map}
use Rattle.std.proofs.lemmas.List.{append-nil}
use Rattle.answers.specs.declared.desk.Desk.{Ghosts as DeskOf}
use Rattle.seal.specs.{declared.channel.Channel.Channel, Records.preface_of, Records.records}
use Rattle.sealed.specs.declared.callers.{Caller.Caller, Access.Access, DeskKeys.DeskKeys}
use Rattle.sealed.specs.declared.callers.Caller.TheVariants.{Anyone, Visitor}
use Rattle.sealed.specs.declared.callers.Access.TheVariants.{Open, Locked}
use Rattle.sealed.specs.declared.callers.Holder.TheVariants.{Hall, Entry}
use Rattle.sealed.specs.Admitting.{Admits, IsSealed, comes_under}
use Rattle.sealed.specs.ServerSeals.{ServerSealOf, caller_of}
use Rattle.sealed.{specs.Fronts.IsPrefaced, specs.Trials.Hands, proofs.Admitted.admits}
use Rattle.serving.specs.{Connection.Begun, Asking.request, Making.speaking, Permissions.permitted}
use Rattle.serving.specs.declared.permission.Permission.{Permission}
use Rattle.serving.specs.declared.request.Request.{Request, TheVariants.Heard}
use Rattle.serving.specs.Differing.{withheld, withheld_by}
use Rattle.serving.specs.TurnLaw.{Began, Turn, begun_in, received}
use Rattle.wire.specs.declared.{standing.Difference.Difference, values.Version.Version}
use Rattle.guarded.specs.{LockedConnections.LockedConnectionOf, Permitting.permission_of}
use Rattle.guarded.specs.LockedTurns.{Follow, Place, with_talk, within}
use Rattle.guarded.specs.LockedLaw.{DeliversUnderHall, IsHallKey, IsUnderHall, delivers}
use Rattle.guarded.proofs.Holding.{BeginsAt, begins_at, holds_first, turns_hold}
use Rattle.sealed.specs.declared.callers.Caller.TheVariants as caller
use Rattle.serving.specs.declared.permission.Permission.TheVariants as permission
use Rattle.guarded.specs.LockedTurns as GuardTurns

-- ---- what may be asked without the hall's key delivers nothing

no_sheets : (r : Request) → IsTrue (delivers (permitted permission.Sheets r)) → ⊥
no_sheets (Heard m) h = absurd cc
no_sheets _ h = absurd cc

no_entries : (r : Request) → IsTrue (delivers (permitted permission.Entries r)) → ⊥
no_entries (Heard m) h = absurd cc
no_entries _ h = absurd cc

-- whatever differs, what is delivered is delivered
still_by : (d : Difference) (r : Request) → delivers (withheld_by d r) ≡ delivers r
still_by d (Heard m) = refl
still_by d _ = refl

delivers_still : (differs : Option Difference) (r : Request)
    → delivers (withheld differs r) ≡ delivers r
delivers_still None r = refl
delivers_still (Some d) r = still_by d r

pub delivers_alike : (differs : Option Difference) (r : Request)
    → IsTrue (delivers (withheld differs r)) → IsTrue (delivers r)
delivers_alike differs r h = subst (λ (b : Bool). IsTrue b) (delivers_still differs r) h

-- ---- what is let in under the hall's keys

-- what is let in under one of the hall's keys
under_key : (locks : DeskKeys) (server front handed : List ℕ) (earlier : List Begun) (one : Begun)
    (key client stream : List ℕ) → IsHallKey locks key → IsPrefaced front client stream
    → Hands (comes_under client server key) stream handed → BeginsAt handed earlier one
    → IsUnderHall locks server front earlier one
under_key locks server front handed earlier one key client stream halls prefaced h at =
    let hands = h.1 in
    record {
      key = key;
      halls = halls;
      client = client;
      bodies = hands.0;
      rest = hands.1.rest;
      more = at.more;
      sixteen = prefaced.sixteen;
      whole =
          prefaced.whole ∙ ap (λ (s : List ℕ). preface_of client ++ s) hands.1.whole;
      each = hands.1.each;
      inside = sym hands.2 ∙ at.whole;
    }

-- the second key, where it is there
second_key : (entry : Option (List ℕ)) (client server : List ℕ) (e : Channel)
    → option_map (comes_under client server) entry ≡ Some e
    → (key : List ℕ) × (entry ≡ Some key) × (e ≡ comes_under client server key)
second_key None client server e is = absurd cc
second_key (Some key) client server e is = (key, refl, cc)

-- and where it was the hall's
under_second : (old : Bool) (locks : DeskKeys) (server front handed : List ℕ) (earlier : List Begun)
    (one : Begun) (r : Request) → locks.old ≡ old
    → IsTrue (delivers (permitted (if old then permission.All else permission.Entries) r))
    → IsSealed locks server front handed (Some Entry) → BeginsAt handed earlier one
    → IsUnderHall locks server front earlier one
under_second false locks server front handed earlier one r is may sealed at =
    absurd (no_entries r may)
under_second true locks server front handed earlier one r is may sealed at =
    let found = second_key locks.entry sealed.client server sealed.hands.0 sealed.hands.1 in
    let hands = subst (λ (c : Channel). Hands c sealed.stream handed) found.2 sealed.hands.3 in
    under_key locks server front handed earlier one found.0 sealed.client sealed.stream
    (inr (is, found.1)) sealed.prefaced hands at

pub under_hall : (who : Option Caller) (locks : DeskKeys) (server front handed : List ℕ)
    (earlier : List Begun) (one : Begun) (r : Request)
    → IsTrue (delivers (permitted (permission_of (Locked locks) who) r))
    → Admits (Locked locks) server front handed who → BeginsAt handed earlier one
    → IsUnderHall locks server front earlier one
under_hall None locks server front handed earlier one r may h at = absurd (no_sheets r may)
under_hall (Some Anyone) locks server front handed earlier one r may h at =
    let bad : Locked locks ≡ Open = h.0 in absurd cc
under_hall (Some Visitor) locks server front handed earlier one r may h at =
    absurd (no_sheets r may)
under_hall (Some (caller.Holder Entry)) locks server front handed earlier one r may h at =
    let two : Locked locks ≡ Locked h.0 = h.1 in
    let same : h.0 ≡ locks = cc in
    let sealed = subst (λ (l : DeskKeys). IsSealed l server front handed (Some Entry)) same h.2 in
    under_second locks.old locks server front handed earlier one r refl may sealed at
under_hall (Some (caller.Holder Hall)) locks server front handed earlier one r may h at =
    let two : Locked locks ≡ Locked h.0 = h.1 in
    let same : h.0 ≡ locks = cc in
    let sealed = subst (λ (l : DeskKeys). IsSealed l server front handed (Some Hall)) same h.2 in
    under_key locks server front handed earlier one locks.hall sealed.client sealed.stream
    (inl refl) sealed.prefaced sealed.hands.1 at

-- more came behind
pub under_more : (locks : DeskKeys) (server front later : List ℕ) (earlier : List Begun)
    (one : Begun) → IsUnderHall locks server front earlier one
    → IsUnderHall locks server (front ++ later) earlier one
under_more locks server front later earlier one h =
    let sealed = records (comes_under h.client server h.key) 0 h.bodies in
    record {
      key = h.key;
      halls = h.halls;
      client = h.client;
      bodies = h.bodies;
      rest = h.rest ++ later;
      more = h.more;
      sixteen = h.sixteen;
      whole =
          ap (λ z. z ++ later) h.whole ∙ append_assoc (preface_of h.client) (sealed ++ h.rest) later
          ∙ ap (λ z. preface_of h.client ++ z) (append_assoc sealed h.rest later);
      each = h.each;
      inside = h.inside;
    }

-- ---- the turns up to a frame

follow_parts : {V : Type 0} (d : DeskOf V) (wire : Version)
    (a b : Place (speaking d.handles d.settles wire)) (earlier later : List Turn) (t : Turn)
    → Follow a (earlier ++ t ∷ later) b → (m : Place (speaking d.handles d.settles wire))
    × (n : Place (speaking d.handles d.settles wire)) × Follow a earlier m × GuardTurns.Turns t m n
follow_parts d wire a b [] later t h = (a, h.0, refl, h.1)
follow_parts d wire a b (e ∷ earlier) later t h =
    let p = follow_parts d wire h.0 b earlier later t h.2 in
    (p.0, p.1, (h.0, h.1, p.2), p.3)

pub delivers_under_hall : {V : Type 0} (d : DeskOf V) → DeliversUnderHall d
delivers_under_hall d home wire locks server earlier later one a b is follow may =
    let doors : Access = Locked locks in
    let p = follow_parts d wire a b earlier later (Began one) follow in
    let m = p.0 in
    let turn = p.3 in
    let h =
    turns_hold doors server a a m earlier [] [] [] (holds_first home wire doors server a is) p.2 in
    let k = h.keeps in
    let now = k.whole turn.0.fed in
    let c = k.side in
    let who = caller_of c in
    let handed = received h.inner in
    let front : k.front ≡ received earlier =
    sym (k.parts ∙ ap (λ (s : List ℕ). k.front ++ s) now.1 ∙ append-nil k.front) in
    let at = begins_at d home wire (within a) (within m) (with_talk p.1 turn.1) h.inner one
    (ap (λ (g : LockedConnectionOf). g.talk) is) h.follow turn.2 in
    let who_may : one.may ≡ permission_of doors who =
    turn.3 ∙ ap (λ (e : ServerSealOf). permission_of e.doors (caller_of e)) now.0
    ∙ ap (λ (o : Access). permission_of o who) k.doors_are in
    let allowed =
    subst (λ (q : Permission). IsTrue (delivers (permitted q (request home one.frame)))) who_may
    (delivers_alike one.differs (permitted one.may (request home one.frame)) may) in
    let admitted = subst (λ (o : Access). Admits o server k.front handed who) k.doors_are
    (subst (λ (s : List ℕ). Admits c.doors s k.front handed who) k.server_is
    (admits c k.front handed k.stands)) in
    let under = under_hall who locks server k.front handed (begun_in h.inner) one
    (request home one.frame) allowed admitted at in
    subst (λ (s : List ℕ). IsUnderHall locks server s (begun_in earlier) one) front
    (subst (λ (bs : List Begun). IsUnderHall locks server k.front bs one) h.begins under)
