-- What is delivered of a client is in records that fit under one of the hall's keys.
use Rattle.std.proofs.Common.{◌≡◌, sym, ap, subst, ◌∙◌, ℕ, List, [], ◌∷◌, ◌++◌, append_assoc}
use Rattle.std.specs.{Prelude.IsTrue, List.flat_map}
use Rattle.connections.{specs.Connections.begun_of, proofs.Interleaving.begun_both}
use Rattle.sealed.specs.declared.callers.Access.TheVariants.{Locked}
use Rattle.guarded.specs.LockedLaw.{AreAllowed, IsAllowed, IsUnderHall, delivers}
use Rattle.guarded.proofs.Delivering.{delivers_alike, under_hall, under_more}
use Rattle.guarded.proofs.Holding.{BeginsAt}
use Rattle.serving.specs.{Asking.request, Connection.Begun, Permissions.permitted}
use Rattle.serving.specs.{Connection.frames_of, declared.permission.Permission.Permission}
use Rattle.wire.specs.Spelling.{spelling}
use Rattle.multiplex.{specs.EachClient.EachDeliversUnderHall, proofs.Placed.all_back}

-- a frame begins after those before it
frame_at : (earlier : List Begun) (one : Begun) (later : List Begun) (rest : List ℕ)
    → flat_map spelling (frames_of (earlier ++ one ∷ later)) ++ rest ≡ flat_map spelling
    (frames_of earlier) ++ (spelling one.frame ++ (flat_map spelling (frames_of later) ++ rest))
frame_at [] one later rest =
    append_assoc (spelling one.frame) (flat_map spelling (frames_of later)) rest
frame_at (e ∷ earlier) one later rest =
    append_assoc (spelling e.frame) (flat_map spelling (frames_of (earlier ++ one ∷ later))) rest
    ∙ ap (λ z. spelling e.frame ++ z) (frame_at earlier one later rest)
    ∙ sym (append_assoc (spelling e.frame) (flat_map spelling (frames_of earlier))
    (spelling one.frame ++ (flat_map spelling (frames_of later) ++ rest)))

pub each_delivers : EachDeliversUnderHall
each_delivers home locks server came sent earlier later one h may =
    let s = h.stream in
    let before = begun_of earlier in
    let behind = begun_of later in
    let waits = flat_map spelling h.guard.talk.waiting ++ h.rest in
    let parts : begun_of (earlier ++ one ∷ later) ≡ before ++ one.one ∷ behind =
    begun_both earlier (one ∷ later) in
    let allowed = (all_back (λ (b : Begun). IsAllowed (Locked locks) s.who b) before
    (one.one ∷ behind) (subst (λ z. AreAllowed (Locked locks) s.who z) parts s.allowed)).0 in
    let at : BeginsAt h.handed before one.one =
    record {
      more = flat_map spelling (frames_of behind) ++ waits;
      whole =
          h.served.begins.whole ∙ ap (λ z. flat_map spelling (frames_of z) ++ waits) parts
          ∙ frame_at before one.one behind waits;
    } in
    let asks = subst
    (λ (p : Permission). IsTrue (delivers (permitted p (request home one.one.frame)))) allowed.may
    (delivers_alike one.one.differs (permitted one.one.may (request home one.one.frame)) may) in
    subst (λ z. IsUnderHall locks server z before one.one) (sym s.read.parts)
    (under_more locks server s.front s.read.later before one.one (under_hall s.who locks server
    s.front h.handed before one.one (request home one.one.frame) asks s.admits at))
