-- What holds of a guarded connection after each of its turns, whatever is served meanwhile.
use Rattle.std.proofs.Common.{◌≡◌, refl, sym, ap, subst, ◌∙◌, ℕ, List, [], ◌∷◌, ◌++◌, length, drop}
use Rattle.std.proofs.Common.{Option, None, Some, Bool, true, false, arith, inl, inr, append_assoc}
use Rattle.std.proofs.{lemmas.List.append-nil, Math.Seq.drop-length}
use Rattle.std.specs.Prelude.{IsSome, option_map}
use Rattle.sealed.specs.{declared.callers.Caller.Caller, Sent.HasSent, Tunnels.TunnelOf}
use Rattle.sealed.specs.declared.callers.Access.{Access, TheVariants.Open, TheVariants.Locked}
use Rattle.sealed.specs.declared.callers.Holder.{Holder, TheVariants.Hall, TheVariants.Entry}
use Rattle.sealed.specs.{declared.callers.StreamRefusal.StreamRefusal, Admitting.Admits}
use Rattle.sealed.specs.declared.callers.StreamRefusal.TheVariants.{Unsealed, NoMemory}
use Rattle.sealed.specs.ServerSeals.{ServerSealOf, IsSameDesk, SendsBy, SendsPlain, Stands}
use Rattle.sealed.specs.ServerSeals.{caller_by, caller_of, fresh_server_seal, held_by, is_sealed}
use Rattle.sealed.specs.Trials.{SealsAs, SealsEntry, TrialOf}
use Rattle.sealed.proofs.{Admitted.admits, Sending.sealing_goes_on, Sending.sealing_reads}
use Rattle.serving.specs.{Connection.Begun, Making.Way, Making.Outside, Turns.Talk}
use Rattle.serving.specs.TurnLaw.{Began, Came, Rested, Took, Turn, begun_at, begun_in, came_in}
use Rattle.serving.specs.TurnLaw.{handed_out, received, taken_in}
use Rattle.store.specs.declared.home.Home.{Home}
use Rattle.wire.specs.declared.{frame.Frame.Frame, values.Version.Version}
use Rattle.guarded.specs.LockedConnections.{LockedConnectionOf, IsFree, LetsIn, Loses, RunsOut}
use Rattle.guarded.specs.LockedConnections.{Seals, Starves, WantsRead, fresh_locked_connection}
use Rattle.guarded.specs.LockedConnections.{greeting_if, greets}
use Rattle.guarded.specs.LockedTurns.{IsQuiet, Place, with_talk, within}
use Rattle.guarded.specs.{LockedLaw.AreAllowed, LockedLaw.IsAllowed, Permitting.permission_of}
use Rattle.guarded.proofs.Greeting.{greeted, opening_by, opening_of}
use Rattle.guarded.proofs.Idling.{IsIdle, first_none, idle_came, second_none}
use Rattle.serving.specs.Turns as Turns
use Rattle.serving.specs.TurnLaw as TurnLaw
use Rattle.guarded.specs.LockedTurns as GuardTurns

-- What holds after some turns, in which these bytes came over the stream, these were let in, these
-- answers were taken of the connection within, and these bytes were taken of what is sent: the
-- desk's side as it was before memory was refused, and what it read and sent.
pub record Keeps (doors : Access) (server : List ℕ) (g : LockedConnectionOf)
    (came handed answers sent : List ℕ) (begun : List Begun) : Type 0 where
  pub side : ServerSealOf
  pub doors_are : side.doors ≡ doors
  pub server_is : side.random ≡ server
  pub front : List ℕ
  pub later : List ℕ
  pub parts : came ≡ front ++ later
  pub stands : Stands side front handed
  pub body : List ℕ
  pub given : HasSent side answers body
  pub sends : sent ++ g.output ≡ opening_of side ++ body
  pub allowed : AreAllowed doors (caller_of side) begun
  pub whole : g.starved ≡ false → (g.called ≡ side) × (later ≡ [])
  pub idle : g.starved ≡ false → handed ≡ [] → IsIdle g.talk

-- ---- before the first turn

first_stands : (doors : Access) (server : List ℕ) → Stands (fresh_server_seal doors server) [] []
first_stands Open server = (refl, refl)
first_stands (Locked locks) server = (locks, refl, inl (omega arith), refl, refl)

first_sent : (doors : Access) (server : List ℕ) → HasSent (fresh_server_seal doors server) [] []
first_sent Open server = refl
first_sent (Locked locks) server = (refl, refl)

pub keeps_first : (home : Home) (wire : Version) (doors : Access) (server : List ℕ)
    (g : LockedConnectionOf)
    → g ≡ fresh_locked_connection doors server home wire → Keeps doors server g [] [] [] [] []
keeps_first home wire doors server g is =
    subst (λ (z : LockedConnectionOf). Keeps doors server z [] [] [] [] []) (sym is) (record {
      side = fresh_server_seal doors server;
      doors_are = refl;
      server_is = refl;
      front = [];
      later = [];
      parts = refl;
      stands = first_stands doors server;
      body = [];
      given = first_sent doors server;
      sends = refl;
      allowed = tt;
      whole = λ _. (refl, refl);
      idle = λ _. λ _. record { stream = refl; waiting = refl };
    })

-- ---- turns of the connection within

-- the connection within took these turns, and what holds goes on
pub record Goes {V : Type 0} {way : Way V} (doors : Access) (server : List ℕ) (t : Turn)
    (a b : Place way) (inner : List Turn) : Type 0 where
  pub follow : TurnLaw.Follow (within a) inner (within b)
  pub begins : begun_in inner ≡ begun_at t
  pub keeps : (came handed answers sent : List ℕ) (begun : List Begun)
      → Keeps doors server a.guard came handed answers sent begun
      → Keeps doors server b.guard (came ++ came_in t) (handed ++ received inner)
      (answers ++ handed_out inner) (sent ++ taken_in t) (begun ++ begun_at t)

abbrev pub GoesSome : {V : Type 0} → {way : Way V} → Access → List ℕ → Turn → Place way → Place way
    → Type 0
GoesSome doors server t a b = (inner : List Turn) × Goes doors server t a b inner

same_within : {V : Type 0} {way : Way V} (a b : Place way) → b.guard.talk ≡ a.guard.talk
    → IsQuiet a b → within b ≡ within a
same_within {V} {way} a b talk quiet =
    ap (λ (t : Talk). with_talk b t) talk
    ∙ ap (λ s. with_talk (record b { seen = s }) a.guard.talk) quiet.seen
    ∙ ap (λ (o : Outside way). with_talk (record b { seen = a.seen; outside = o }) a.guard.talk)
    quiet.outside

no_truth : (b : Bool) → b ≡ true → b ≡ false → ⊥
no_truth b is other = let bad : true ≡ false = sym is ∙ other in absurd cc

-- what holds, of lists that are the same
pub keeps_as : (doors : Access) (server : List ℕ) (g : LockedConnectionOf)
    (came handed answers sent came1 handed1 answers1 sent1 : List ℕ) (begun begun1 : List Begun)
    → came ≡ came1 → handed ≡ handed1 → answers ≡ answers1 → sent ≡ sent1 → begun ≡ begun1
    → Keeps doors server g came handed answers sent begun
    → Keeps doors server g came1 handed1 answers1 sent1 begun1
keeps_as doors server g came handed answers sent came1 handed1 answers1 sent1 begun begun1 c h a s b
    k = subst (λ (z : List Begun). Keeps doors server g came1 handed1 answers1 sent1 z) b
    (subst (λ (z : List ℕ). Keeps doors server g came1 handed1 answers1 z begun) s
    (subst (λ (z : List ℕ). Keeps doors server g came1 handed1 z sent begun) a
    (subst (λ (z : List ℕ). Keeps doors server g came1 z answers sent begun) h
    (subst (λ (z : List ℕ). Keeps doors server g z handed answers sent begun) c k))))

-- ---- nothing was let in, served or answered

-- this came, and this was taken of what is sent
still : (doors : Access) (server : List ℕ) (g new : LockedConnectionOf)
    (came handed answers sent more taken : List ℕ) (begun : List Begun)
    → Keeps doors server g came handed answers sent begun → new.talk ≡ g.talk
    → (sent ++ taken) ++ new.output ≡ sent ++ g.output
    → (new.starved ≡ false → (g.starved ≡ false) × (new.called ≡ g.called) × (more ≡ []))
    → Keeps doors server new (came ++ more) handed answers (sent ++ taken) begun
still doors server g new came handed answers sent more taken begun h talk out fed = record {
  side = h.side;
  doors_are = h.doors_are;
  server_is = h.server_is;
  front = h.front;
  later = h.later ++ more;
  parts = ap (λ (s : List ℕ). s ++ more) h.parts ∙ append_assoc h.front h.later more;
  stands = h.stands;
  body = h.body;
  given = h.given;
  sends = out ∙ h.sends;
  allowed = h.allowed;
  whole = λ is.
      let f = fed is in
      let w = h.whole f.0 in
      (f.1 ∙ w.0, ap (λ (s : List ℕ). s ++ more) w.1 ∙ f.2);
  idle = λ is none. subst IsIdle (sym talk) (h.idle (fed is).0 none);
}

-- no turn was taken of the connection within
goes_still : {V : Type 0} {way : Way V} (doors : Access) (server : List ℕ) (t : Turn)
    (a b : Place way) → b.guard.talk ≡ a.guard.talk → IsQuiet a b → begun_at t ≡ []
    → ((sent : List ℕ) → (sent ++ taken_in t) ++ b.guard.output ≡ sent ++ a.guard.output)
    → (b.guard.starved ≡ false
    → (a.guard.starved ≡ false) × (b.guard.called ≡ a.guard.called) × (came_in t ≡ []))
    → GoesSome doors server t a b
goes_still doors server t a b talk quiet none out fed = (
  [],
  record {
    follow = sym (same_within a b talk quiet);
    begins = sym none;
    keeps = λ came handed answers sent begun h.
        keeps_as doors server b.guard (came ++ came_in t) handed answers (sent ++ taken_in t)
        (came ++ came_in t) (handed ++ []) (answers ++ []) (sent ++ taken_in t) begun
        (begun ++ begun_at t) refl (sym (append-nil handed)) (sym (append-nil answers)) refl
        (sym (append-nil begun) ∙ ap (λ (s : List Begun). begun ++ s) (sym none))
        (still doors server a.guard b.guard came handed answers sent (came_in t) (taken_in t) begun
        h talk (out sent) fed);
  },
)

goes_starved : {V : Type 0} {way : Way V} (doors : Access) (server piece : List ℕ) (a b : Place way)
    → Starves a.guard b.guard → IsQuiet a b → GoesSome doors server (Came piece) a b
goes_starved doors server piece a b starves quiet =
    goes_still doors server (Came piece) a b starves.talk quiet refl (λ sent. ap
    (λ (s : List ℕ). s ++ b.guard.output) (append-nil sent)
    ∙ ap (λ (s : List ℕ). sent ++ s) starves.output)
    (λ no. absurd (no_truth b.guard.starved starves.starved no))

-- nothing changes but what is still to be sent
goes_taken : {V : Type 0} {way : Way V} (doors : Access) (server : List ℕ) (t : Turn)
    (a b : Place way) → b.guard ≡ record a.guard { output = b.guard.output } → IsQuiet a b
    → begun_at t ≡ [] → came_in t ≡ [] → a.guard.output ≡ taken_in t ++ b.guard.output
    → GoesSome doors server t a b
goes_taken doors server t a b is quiet none nothing parts =
    goes_still doors server t a b (ap (λ (g : LockedConnectionOf). g.talk) is) quiet none (λ sent.
    append_assoc sent (taken_in t) b.guard.output ∙ ap (λ (s : List ℕ). sent ++ s) (sym parts))
    (λ fed. (
      sym (ap (λ (g : LockedConnectionOf). g.starved) is) ∙ fed,
      ap (λ (g : LockedConnectionOf). g.called) is,
      nothing,
    ))

-- ---- a piece came

-- whoever was known to call does so still
allowed_still : (doors : Access) (who now : Option Caller) (begun : List Begun)
    → (IsSome who → now ≡ who) → AreAllowed doors who begun → AreAllowed doors now begun
allowed_still doors who now [] same h = tt
allowed_still doors who now (one ∷ begun) same h =
    subst (λ (w : Option Caller). AreAllowed doors w (one ∷ begun)) (sym (same h.0.known)) h

came_keeps : (doors : Access) (server : List ℕ) (g new : LockedConnectionOf)
    (came handed answers sent piece more : List ℕ) (begun : List Begun) → WantsRead g
    → LetsIn piece more g new → Keeps doors server g came handed answers sent begun
    → Keeps doors server new (came ++ piece) (handed ++ more) answers sent begun
came_keeps doors server g new came handed answers sent piece more begun wants lets h =
    let now = h.whole wants.fed in
    let c = g.called in
    let d = new.called in
    let was = subst (λ (e : ServerSealOf). Stands e h.front handed) (sym now.0) h.stands in
    let given = subst (λ (e : ServerSealOf). HasSent e answers h.body) (sym now.0) h.given in
    let stands = lets.receives h.front handed was in
    let first = greeting_if (greets d.refusal (is_sealed c) (is_sealed d)) d.random in
    let empty : sent ≡ opening_of c ++ h.body =
    sym (append-nil sent) ∙ ap (λ (s : List ℕ). sent ++ s) (sym wants.taken) ∙ h.sends
    ∙ ap (λ (e : ServerSealOf). opening_of e ++ h.body) (sym now.0) in
    record {
      side = d;
      doors_are = lets.same.doors ∙ ap (λ (e : ServerSealOf). e.doors) now.0 ∙ h.doors_are;
      server_is = lets.same.random ∙ ap (λ (e : ServerSealOf). e.random) now.0 ∙ h.server_is;
      front = h.front ++ piece;
      later = [];
      parts =
          ap (λ (s : List ℕ). s ++ piece)
          (h.parts ∙ ap (λ (s : List ℕ). h.front ++ s) now.1 ∙ append-nil h.front)
          ∙ sym (append-nil (h.front ++ piece));
      stands = stands;
      body = h.body;
      given = lets.sends answers h.body given;
      sends =
          ap (λ (s : List ℕ). sent ++ s) lets.output ∙ ap (λ (s : List ℕ). s ++ first) empty
          ∙ sym (greeted c d h.front handed piece (handed ++ more) answers h.body wants.hears
          lets.same was given stands);
      allowed =
          allowed_still doors (caller_of c) (caller_of d) begun lets.stays
          (subst (λ (e : ServerSealOf). AreAllowed doors (caller_of e) begun) (sym now.0)
          h.allowed);
      whole = λ _. (refl, refl);
      idle = λ _. λ none.
          idle_came new.talk.end more g.talk new.talk
          (h.idle wants.fed (first_none handed more none)) (second_none handed more none)
          lets.talk.1;
    }

goes_came : {V : Type 0} {way : Way V} (doors : Access) (server piece more : List ℕ)
    (a b : Place way) → WantsRead a.guard → LetsIn piece more a.guard b.guard → IsQuiet a b
    → GoesSome doors server (Came piece) a b
goes_came doors server piece more a b wants lets quiet =
    let still : TurnLaw.IsQuiet (within a) (within b) =
    record { seen = quiet.seen; outside = quiet.outside } in (
      Came more ∷ [],
      record {
        follow = (within b, (wants.served, lets.talk, still), refl);
        begins = refl;
        keeps = λ came handed answers sent begun h.
            keeps_as doors server b.guard (came ++ piece) (handed ++ more) answers sent
            (came ++ piece) (handed ++ (more ++ [])) (answers ++ []) (sent ++ []) begun
            (begun ++ []) refl (ap (λ (s : List ℕ). handed ++ s) (sym (append-nil more)))
            (sym (append-nil answers)) (sym (append-nil sent)) (sym (append-nil begun))
            (came_keeps doors server a.guard b.guard came handed answers sent piece more begun wants
            lets h);
      },
    )

-- ---- a frame was begun

-- what is sent first, and which desk it is, are not changed by what is sent
record StaysSo (c d : ServerSealOf) : Type 0 where
  opening : opening_of d ≡ opening_of c
  desk : IsSameDesk c d
  caller : caller_of d ≡ caller_of c

stays_same : (c d : ServerSealOf) → d ≡ c → StaysSo c d
stays_same c d is =
    subst (λ (e : ServerSealOf). StaysSo c e) (sym is)
    (record { opening = refl; desk = record { doors = refl; random = refl }; caller = refl })

stays_plain : (p : Option Caller) (bytes sent : List ℕ) (c d : ServerSealOf)
    → SendsPlain p bytes c d sent → StaysSo c d
stays_plain None bytes sent c d h = stays_same c d h.1
stays_plain (Some who) bytes sent c d h = stays_same c d h.1

opening_tried : (r : Option StreamRefusal) (t u : TrialOf) (server : List ℕ)
    → opening_by r (Some u) server ≡ opening_by r (Some t) server
opening_tried None t u server = refl
opening_tried (Some Unsealed) t u server = refl
opening_tried (Some NoMemory) t u server = refl

-- so is the holder of a key
entry_holder : (o : Option TunnelOf) (bytes sent : List ℕ) (t u : TrialOf)
    → SealsEntry o bytes t u sent → u.holder ≡ t.holder
entry_holder None bytes sent t u h = ap (λ (z : TrialOf). z.holder) h.1
entry_holder (Some e) bytes sent t u h = ap (λ (z : TrialOf). z.holder) h.2

same_holder : (k : Option Holder) (bytes sent : List ℕ) (t u : TrialOf)
    → SealsAs k bytes t u sent → u.holder ≡ t.holder
same_holder None bytes sent t u h = ap (λ (z : TrialOf). z.holder) h.1
same_holder (Some Hall) bytes sent t u h = ap (λ (z : TrialOf). z.holder) h.2
same_holder (Some Entry) bytes sent t u h = entry_holder t.entry bytes sent t u h

stays_by : (o : Option TrialOf) (c d : ServerSealOf) (bytes sent : List ℕ) → c.trial ≡ o
    → SendsBy o bytes c d sent → StaysSo c d
stays_by None c d bytes sent is h = stays_plain c.passing bytes sent c d h
stays_by (Some t) c d bytes sent is h =
    subst (λ (e : ServerSealOf). StaysSo c e) (sym h.2) (record {
      opening =
          opening_tried c.refusal t h.0 c.random
          ∙ sym (ap (λ (o : Option TrialOf). opening_by c.refusal o c.random) is);
      desk = record { doors = refl; random = refl };
      caller =
          ap (λ (k : Option Holder). option_map held_by k)
          (same_holder t.holder bytes sent t h.0 h.1)
          ∙ sym (ap (λ (o : Option TrialOf). caller_by o c.passing) is);
    })

-- something was let in, so somebody is
let_somebody : (who : Option Caller) (doors : Access) (server front handed : List ℕ)
    → Admits doors server front handed who → (handed ≡ [] → ⊥) → IsSome who
let_somebody None doors server front handed h some = absurd (some h.2)
let_somebody (Some who) doors server front handed h some = refl

not_idle : (talk served : Talk) (frame : Frame) → Turns.BeginsNext talk served frame → IsIdle talk
    → ⊥
not_idle talk served frame next idle =
    let bad : [] ≡ frame ∷ served.waiting = sym idle.waiting ∙ next.next in absurd cc

-- this frame is begun as one of whoever calls
one_allowed : (doors : Access) (g : LockedConnectionOf) (side : ServerSealOf) (served : Talk)
    (one : Begun) (front handed : List ℕ) → g.called ≡ side → side.doors ≡ doors
    → Turns.BeginsNext g.talk served one.frame → (handed ≡ [] → IsIdle g.talk)
    → one.may ≡ permission_of g.called.doors (caller_of g.called) → Stands side front handed
    → IsAllowed doors (caller_of side) one
one_allowed doors g side served one front handed is are next idle may stands = record {
  known =
      let_somebody (caller_of side) side.doors side.random front handed
      (admits side front handed stands)
      (λ (none : handed ≡ []). not_idle g.talk served one.frame next (idle none));
  may =
      may ∙ ap (λ (e : ServerSealOf). permission_of e.doors (caller_of e)) is
      ∙ ap (λ (d : Access). permission_of d (caller_of side)) are;
}

all_and_one : (doors : Access) (who : Option Caller) (begun : List Begun) (one : Begun)
    → AreAllowed doors who begun → IsAllowed doors who one
    → AreAllowed doors who (begun ++ one ∷ [])
all_and_one doors who [] one h last = (last, tt)
all_and_one doors who (b ∷ begun) one h last = (h.0, all_and_one doors who begun one h.1 last)

allowed_more : (doors : Access) (g : LockedConnectionOf) (side : ServerSealOf) (served : Talk)
    (one : Begun) (front handed : List ℕ) (begun : List Begun) → g.called ≡ side
    → side.doors ≡ doors → Turns.BeginsNext g.talk served one.frame → (handed ≡ [] → IsIdle g.talk)
    → one.may ≡ permission_of g.called.doors (caller_of g.called) → Stands side front handed
    → AreAllowed doors (caller_of side) begun
    → AreAllowed doors (caller_of side) (begun ++ one ∷ [])
allowed_more doors g side served one front handed begun is are next idle may stands h =
    all_and_one doors (caller_of side) begun one h
    (one_allowed doors g side served one front handed is are next idle may stands)

-- its answer was lost
lost_keeps : (doors : Access) (server : List ℕ) (g new : LockedConnectionOf) (served : Talk)
    (one : Begun) (came handed answers sent : List ℕ) (begun : List Begun) → IsFree g
    → Turns.BeginsNext g.talk served one.frame
    → one.may ≡ permission_of g.called.doors (caller_of g.called) → Loses served g new
    → Keeps doors server g came handed answers sent begun
    → Keeps doors server new came handed answers sent (begun ++ one ∷ [])
lost_keeps doors server g new served one came handed answers sent begun free next may loses h =
    record {
      side = h.side;
      doors_are = h.doors_are;
      server_is = h.server_is;
      front = h.front;
      later = h.later;
      parts = h.parts;
      stands = h.stands;
      body = h.body;
      given = h.given;
      sends = ap (λ (s : List ℕ). sent ++ s) loses.output ∙ h.sends;
      allowed =
          allowed_more doors g h.side served one h.front handed begun (h.whole free.fed).0
          h.doors_are next (h.idle free.fed) may h.stands h.allowed;
      whole = λ no. absurd (no_truth new.starved loses.starved no);
      idle = λ no. absurd (no_truth new.starved loses.starved no);
    }

-- or it was sealed
sealed_keeps : (doors : Access) (server : List ℕ) (g new : LockedConnectionOf) (served : Talk)
    (one : Begun) (came handed answers sent : List ℕ) (begun : List Begun) → IsFree g
    → Turns.BeginsNext g.talk served one.frame
    → one.may ≡ permission_of g.called.doors (caller_of g.called) → Seals served g new
    → Keeps doors server g came handed answers sent begun
    → Keeps doors server new came handed (answers ++ served.pending) sent (begun ++ one ∷ [])
sealed_keeps doors server g new served one came handed answers sent begun free next may seals h =
    let now = h.whole free.fed in
    let c = g.called in
    let e = new.called in
    let out = new.output in
    let was = subst (λ (z : ServerSealOf). Stands z h.front handed) (sym now.0) h.stands in
    let given = subst (λ (z : ServerSealOf). HasSent z answers h.body) (sym now.0) h.given in
    let full = λ (none : handed ≡ []). not_idle g.talk served one.frame next (h.idle free.fed none)
    in
    let some =
    let_somebody (caller_of c) c.doors c.random h.front handed (admits c h.front handed was) full in
    let same = stays_by c.trial c e served.pending out refl seals.sends in
    let empty : sent ≡ opening_of c ++ h.body =
    sym (append-nil sent) ∙ ap (λ (s : List ℕ). sent ++ s) (sym free.taken) ∙ h.sends
    ∙ ap (λ (z : ServerSealOf). opening_of z ++ h.body) (sym now.0) in
    record {
      side = e;
      doors_are = same.desk.doors ∙ ap (λ (z : ServerSealOf). z.doors) now.0 ∙ h.doors_are;
      server_is = same.desk.random ∙ ap (λ (z : ServerSealOf). z.random) now.0 ∙ h.server_is;
      front = h.front;
      later = [];
      parts = h.parts ∙ ap (λ (s : List ℕ). h.front ++ s) now.1;
      stands = sealing_reads c e served.pending out h.front handed seals.sends was;
      body = h.body ++ out;
      given =
          sealing_goes_on c e served.pending out answers h.body seals.sends some given;
      sends =
          ap (λ (s : List ℕ). s ++ out)
          (empty ∙ ap (λ (s : List ℕ). s ++ h.body) (sym same.opening))
          ∙ append_assoc (opening_of e) h.body out;
      allowed =
          subst (λ (w : Option Caller). AreAllowed doors w (begun ++ one ∷ []))
          (ap (λ (z : ServerSealOf). caller_of z) (sym now.0) ∙ sym same.caller)
          (allowed_more doors g h.side served one h.front handed begun now.0 h.doors_are next
          (h.idle free.fed) may h.stands h.allowed);
      whole = λ _. (refl, refl);
      idle = λ _. λ none. absurd (full none);
    }

goes_lost : {V : Type 0} {way : Way V} (doors : Access) (server : List ℕ) (one : Begun)
    (served : Talk) (a b : Place way) → IsFree a.guard
    → TurnLaw.Turns (Began one) (within a) (with_talk b served)
    → one.may ≡ permission_of a.guard.called.doors (caller_of a.guard.called)
    → Loses served a.guard b.guard → GoesSome doors server (Began one) a b
goes_lost doors server one served a b free turn may loses =
    let here = subst (λ (t : Talk). TurnLaw.Turns (Began one) (within a) (with_talk b t))
    (sym loses.talk) turn in (
      Began one ∷ [],
      record {
        follow = (within b, here, refl);
        begins = refl;
        keeps = λ came handed answers sent begun h.
            keeps_as doors server b.guard came handed answers sent (came ++ []) (handed ++ [])
            (answers ++ []) (sent ++ []) (begun ++ one ∷ []) (begun ++ one ∷ [])
            (sym (append-nil came)) (sym (append-nil handed)) (sym (append-nil answers))
            (sym (append-nil sent)) refl (lost_keeps doors server a.guard b.guard served one came
            handed answers sent begun free turn.0 may loses h);
      },
    )

-- its answer is taken whole of the connection within
answer_taken : {V : Type 0} {way : Way V} (b : Place way) (served : Talk)
    → b.guard.talk ≡ Turns.after_sent served (length served.pending)
    → TurnLaw.Turns (Took served.pending) (with_talk b served) (within b)
answer_taken b served is =
    let none : b.guard.talk.pending ≡ [] =
    ap (λ (t : Talk). t.pending) is ∙ drop-length served.pending in (
      sym (append-nil served.pending) ∙ ap (λ (s : List ℕ). served.pending ++ s) (sym none),
      is,
      record { seen = refl; outside = refl },
    )

goes_sealed : {V : Type 0} {way : Way V} (doors : Access) (server : List ℕ) (one : Begun)
    (served : Talk) (a b : Place way) → IsFree a.guard
    → TurnLaw.Turns (Began one) (within a) (with_talk b served)
    → one.may ≡ permission_of a.guard.called.doors (caller_of a.guard.called)
    → Seals served a.guard b.guard → GoesSome doors server (Began one) a b
goes_sealed doors server one served a b free turn may seals = (
  Began one ∷ Took served.pending ∷ [],
  record {
    follow =
        (with_talk b served, turn, (within b, answer_taken b served seals.talk, refl));
    begins = refl;
    keeps = λ came handed answers sent begun h.
        keeps_as doors server b.guard came handed (answers ++ served.pending) sent (came ++ [])
        (handed ++ []) (answers ++ (served.pending ++ [])) (sent ++ []) (begun ++ one ∷ [])
        (begun ++ one ∷ []) (sym (append-nil came)) (sym (append-nil handed))
        (ap (λ (s : List ℕ). answers ++ s) (sym (append-nil served.pending)))
        (sym (append-nil sent)) refl (sealed_keeps doors server a.guard b.guard served one came
        handed answers sent begun free turn.0 may seals h);
  },
)

-- ---- no frame was begun

ran_keeps : (doors : Access) (server : List ℕ) (g new : LockedConnectionOf)
    (came handed answers sent : List ℕ) (begun : List Begun) → RunsOut g new
    → Keeps doors server g came handed answers sent begun
    → Keeps doors server new came handed answers sent begun
ran_keeps doors server g new came handed answers sent begun runs h =
    let now = h.whole runs.free.fed in
    record {
      side = h.side;
      doors_are = h.doors_are;
      server_is = h.server_is;
      front = h.front;
      later = h.later;
      parts = h.parts;
      stands = h.stands;
      body = h.body;
      given = h.given;
      sends = ap (λ (z : LockedConnectionOf). sent ++ z.output) runs.same ∙ h.sends;
      allowed = h.allowed;
      whole = λ _. (ap (λ (z : LockedConnectionOf). z.called) runs.same ∙ now.0, now.1);
      idle = λ _. λ none.
          let was = h.idle runs.free.fed none in
          record {
            stream = ap (λ (t : Talk). t.stream) runs.talk.ends ∙ was.stream;
            waiting = ap (λ (t : Talk). t.waiting) runs.talk.ends ∙ was.waiting;
          };
    }

goes_out : {V : Type 0} {way : Way V} (doors : Access) (server : List ℕ) (a b : Place way)
    → RunsOut a.guard b.guard → IsQuiet a b → GoesSome doors server Rested a b
goes_out doors server a b runs quiet =
    let still : TurnLaw.IsQuiet (within a) (within b) =
    record { seen = quiet.seen; outside = quiet.outside } in (
      Rested ∷ [],
      record {
        follow = (within b, (inr runs.talk, still), refl);
        begins = refl;
        keeps = λ came handed answers sent begun h.
            keeps_as doors server b.guard came handed answers sent (came ++ []) (handed ++ [])
            (answers ++ []) (sent ++ []) begun (begun ++ []) (sym (append-nil came))
            (sym (append-nil handed)) (sym (append-nil answers)) (sym (append-nil sent))
            (sym (append-nil begun))
            (ran_keeps doors server a.guard b.guard came handed answers sent begun runs h);
      },
    )

-- ---- each turn

same_output : (a b : LockedConnectionOf) → b ≡ a → b ≡ record a { output = b.output }
same_output a b is =
    is ∙ ap (λ (s : List ℕ). record a { output = s })
    (ap (λ (g : LockedConnectionOf). g.output) (sym is))

-- The connection within takes some turns, and what holds goes on.
pub turn_goes : {V : Type 0} {way : Way V} (doors : Access) (server : List ℕ) (t : Turn)
    (a b : Place way) → GuardTurns.Turns t a b → GoesSome doors server t a b
turn_goes doors server (Came piece) a b (wants, inl starves, quiet) =
    goes_starved doors server piece a b starves quiet
turn_goes doors server (Came piece) a b (wants, inr lets, quiet) =
    goes_came doors server piece lets.0 a b wants lets.1 quiet
turn_goes doors server (Began one) a b (free, served, turn, may, inl loses) =
    goes_lost doors server one served a b free turn may loses
turn_goes doors server (Began one) a b (free, served, turn, may, inr seals) =
    goes_sealed doors server one served a b free turn may seals
turn_goes doors server Rested a b (inl rests, quiet) =
    goes_taken doors server Rested a b (same_output a.guard b.guard rests.1) quiet refl refl
    (ap (λ (g : LockedConnectionOf). g.output) (sym rests.1))
turn_goes doors server Rested a b (inr runs, quiet) = goes_out doors server a b runs quiet
turn_goes doors server (Took bytes) a b k =
    let out : b.guard.output ≡ drop (length bytes) a.guard.output =
    ap (λ (g : LockedConnectionOf). g.output) k.1 in
    goes_taken doors server (Took bytes) a b
    (k.1 ∙ ap (λ (s : List ℕ). record a.guard { output = s }) (sym out)) k.2 refl refl k.0
