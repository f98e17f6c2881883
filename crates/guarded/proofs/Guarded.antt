-- The turns of a guarded connection serve what the doors admit.
use Rattle.std.proofs.Common.{◌≡◌, sym, ap, subst, ◌∙◌, ℕ, List, []}
use Rattle.answers.specs.declared.desk.Desk.{Ghosts as DeskOf}
use Rattle.sealed.specs.{declared.callers.Access.Access, Admitting.Admits, Sent.IsSent}
use Rattle.sealed.specs.ServerSeals.{ServerSealOf, caller_of}
use Rattle.sealed.proofs.{Admitted.admits, Sending.sends_what_is_given}
use Rattle.serving.{specs.Connection.Begun, specs.Making.speaking, proofs.TurnLaws.turns_serve}
use Rattle.serving.specs.TurnLaw.{AreServed, begun_in, handed_out, received}
use Rattle.store.specs.declared.home.Home.{Home}
use Rattle.wire.specs.declared.values.Version.{Version}
use Rattle.guarded.specs.LockedConnections.{LockedConnectionOf, fresh_locked_connection}
use Rattle.guarded.specs.LockedTurns.{Place, within}
use Rattle.guarded.specs.LockedLaw.{GuardsServe, IsGreeting, IsGuarded, IsGuardedStream}
use Rattle.guarded.proofs.{Greeting.greeting_is, Greeting.opening_of, Keeping.Keeps}
use Rattle.guarded.proofs.Holding.{Holds, holds_first, turns_hold}

-- what came over a stream, and what was sent
pub stream_of : (doors : Access) (server : List ℕ) (g : LockedConnectionOf)
    (came handed answers sent : List ℕ) (begun : List Begun)
    → Keeps doors server g came handed answers sent begun
    → IsGuardedStream doors server g came sent handed answers begun
stream_of doors server g came handed answers sent begun k =
    let c = k.side in
    let who = caller_of c in
    record {
      who = who;
      front = k.front;
      first = opening_of c;
      body = k.body;
      read = record {
        later = k.later;
        parts = k.parts;
        whole = λ fed.
            let w = k.whole fed in (w.1, ap (λ (e : ServerSealOf). caller_of e) (sym w.0));
      };
      admits =
          subst (λ (o : Access). Admits o server k.front handed who) k.doors_are
          (subst (λ (s : List ℕ). Admits c.doors s k.front handed who) k.server_is
          (admits c k.front handed k.stands));
      parts = k.sends;
      greets =
          subst (λ (s : List ℕ). IsGreeting s k.front who (opening_of c)) k.server_is
          (greeting_is c k.front handed k.stands);
      sends =
          subst (λ (o : Access). IsSent o server k.front who answers k.body) k.doors_are
          (subst (λ (s : List ℕ). IsSent c.doors s k.front who answers k.body) k.server_is
          (sends_what_is_given c k.front handed answers k.body k.stands k.given));
      allowed = k.allowed;
    }

guarded_of : {V : Type 0} (d : DeskOf V) (home : Home) (wire : Version) (doors : Access)
    (server : List ℕ) (a b : Place (speaking d.handles d.settles wire)) (came sent : List ℕ)
    (begun : List Begun) → a.guard ≡ fresh_locked_connection doors server home wire
    → Holds doors server a b came sent begun → IsGuarded home doors server a b came sent begun
guarded_of d home wire doors server a b came sent begun is h =
    let handed = received h.inner in
    let answers = handed_out h.inner in
    let all = turns_serve d home wire h.inner (within a) (within b)
    (ap (λ (g : LockedConnectionOf). g.talk) is) h.follow in
    record {
      handed = handed;
      answers = answers;
      rest = all.1;
      stream = stream_of doors server b.guard came handed answers sent begun h.keeps;
      served =
          subst (λ (bs : List Begun). AreServed home (within a) (within b) handed answers bs all.1)
          (all.3 ∙ h.begins) all.2;
    }

pub guards_serve : {V : Type 0} (d : DeskOf V) → GuardsServe d
guards_serve d home wire doors server turns a b is follow =
    guarded_of d home wire doors server a b (received turns) (handed_out turns) (begun_in turns) is
    (turns_hold doors server a a b turns [] [] [] (holds_first home wire doors server a is) follow)
