-- Steps, one after the other.
use Rattle.std.proofs.Common.{◌≡◌, refl, sym, ap, subst, ◌∙◌, ℕ, List, [], ◌∷◌, ◌++◌, append-nil}
use Rattle.std.proofs.Common.{length, Option, None, Some, arith, Bool, true, false, eqb, inl, inr}
use Rattle.std.{specs.Prelude.IsFalse, proofs.lemmas.Bool.eqb-true}
use Rattle.answers.specs.{declared.desk.Desk.Ghosts as DeskOf, Seen.Seen}
use Rattle.serving.specs.{declared.peers.Peers.Ghosts as PeersOf, Sessions.outside}
use Rattle.serving.specs.Making.{Way, outside_of, speaking}
use Rattle.serving.specs.OwnTicks.{sides_alone, unanswered}
use Rattle.store.specs.declared.home.Home.{Home}
use Rattle.wire.specs.declared.values.Version.{Version}
use Rattle.polled.specs.{Telling.Tells, Happenings.Happened, Happenings.Named, Happenings.Round}
use Rattle.multiplex.specs.Passing.{Change, Changed, Clock, IsStop, Lobby, Pass, Room, Settles}
use Rattle.multiplex.specs.Passing.{Step, Stops, over_settled, told as told_of, Ticked, TicksBy}
use Rattle.multiplex.specs.Passing.{empty_lobby, first_ticks, lobby, shown, ticks_after, ticks_at}
use Rattle.multiplex.specs.Passing.{told_all, told_change, told_over}
use Rattle.multiplex.specs.declared.{own_ticks.OwnTicks.OwnTicks, dear.DearTurns.DearTurns}
use Rattle.multiplex.specs.declared.ends.ServingEnd.{ServingEnd}
use Rattle.multiplex.specs.declared.table.{ClientTable.ClientTable, ServingOptions.ServingOptions}
use Rattle.multiplex.specs.model.Scenes.{AltersSome, AnswersThenSettles, ChangeAll, Does, Empties}
use Rattle.multiplex.specs.model.Scenes.{lobby_of, room_of, told_changes}
use Rattle.multiplex.specs.Scenes.{Scene, Serves, in_room, scene}
use Rattle.multiplex.specs.model.Ticks.{Desks, HasTicked, MayTick, desks}
use Rattle.multiplex.specs.model.Visiting.{Rests, SettlesDesks, point_at}
use Rattle.multiplex.proofs.{Shutting.lobby_same, Telling.all_told_both}
use Rattle.polled.proofs.Telling.{Tells-as, Tells-nil, Tells-trans}
use Rattle.multiplex.specs.declared.ends.ServingEnd.TheVariants as over_is

pub Pass-trans : {V : Type 0} {way : Way V} (home : Home) (t : ServingOptions) (a m b : Room way)
    (ss rs : List Step) → Pass home t a ss m → Pass home t m rs b → Pass home t a (ss ++ rs) b
Pass-trans home t a m b [] rs h k = subst (λ z. Pass home t z rs b) (sym h) k
Pass-trans home t a m b (s ∷ ss) rs h k = (h.0, h.1, Pass-trans home t h.0 m b ss rs h.2 k)

-- ---- changes are steps

abbrev pub changed_steps : List Change → List Step
changed_steps [] = []
changed_steps (c ∷ cs) = Changed c ∷ changed_steps cs

pub changes_told : (cs : List Change) → told_all (changed_steps cs) ≡ told_changes cs
changes_told [] = refl
changes_told (c ∷ cs) = ap (λ z. told_change c ++ z) (changes_told cs)

abbrev pub at_lobby : {V : Type 0} {way : Way V} → Room way → Lobby → Room way
at_lobby a l = record { lobby = l; seen = a.seen; outside = a.outside }

pub changes_pass : {V : Type 0} {way : Way V} (home : Home) (t : ServingOptions) (a : Room way)
    (l b : Lobby) (cs : List Change) → ChangeAll home t l cs b
    → Pass home t (at_lobby a l) (changed_steps cs) (at_lobby a b)
changes_pass home t a l b [] h = ap (λ z. at_lobby a z) h
changes_pass home t a l b (c ∷ cs) h =
    (at_lobby a h.0, (h.1, refl, refl), changes_pass home t a h.0 b cs h.2)

pub does_both : {V U C : Type 0} (d : DeskOf V) (p : PeersOf U)
    (happened : C → Option (List Happened)) (home : Home) (t : ServingOptions)
    (over : Option ServingEnd) (old mid new : ClientTable) (a m b : Scene V U C)
    → Does d p happened home t None old mid a m → Does d p happened home t over mid new m b
    → Does d p happened home t over old new a b
does_both d p happened home t over old mid new a m b h k = (
  h.0 ++ k.0,
  record {
    pass =
        Pass-trans home t (room_of d p t.wire old None a) (room_of d p t.wire mid None m)
        (room_of d p t.wire new over b) h.0 k.0 h.1.pass k.1.pass;
    told =
        Tells-as (happened a.clients) (happened b.clients) _ _ (sym (all_told_both h.0 k.0))
        (Tells-trans (happened a.clients) (happened m.clients) (happened b.clients) _ _
        h.1.told k.1.told);
  },
)

-- the node and the other desks are as before, and the table was changed so
pub does_changes : {V U C : Type 0} (d : DeskOf V) (p : PeersOf U)
    (happened : C → Option (List Happened)) (home : Home) (t : ServingOptions)
    (over : Option ServingEnd) (old new : ClientTable) (node : V) (peers : U) (c later : C)
    → AltersSome happened home t over old new c later
    → Does d p happened home t over old new (scene node peers c) (scene node peers later)
does_changes d p happened home t over old new node peers c later h = (
  changed_steps h.0,
  record {
    pass =
        changes_pass home t (room_of d p t.wire old None (scene node peers c))
        (lobby_of old None) (lobby_of new over) h.0 h.1.changed;
    told =
        Tells-as (happened c) (happened later) _ _ (sym (changes_told h.0)) h.1.told;
  },
)

-- what the desk has said to itself is heard, and what was changed is settled, or that fails;
-- nothing is handed over after that
does_settles : {V U C : Type 0} (d : DeskOf V) (p : PeersOf U)
    (happened : C → Option (List Happened)) (home : Home) (t : ServingOptions) (ok : Bool)
    (over : Option ServingEnd) (old new : ClientTable) (node next : V) (peers more kept : U) (c : C)
    → lobby_of new over ≡ lobby_of old over → p.handed kept ≡ p.handed more
    → (h : SettlesDesks d p t.wire home ok (desks node peers) (desks next more))
    → Pass home t (room_of d p t.wire old over (scene node peers c)) (Settles h.hears.0 ok ∷ [])
    (room_of d p t.wire new (over_settled ok over) (scene next kept c))
does_settles d p happened home t ok over old new node next peers more kept c same handed h = (
  room_of d p t.wire new (over_settled ok over) (scene next kept c),
  record {
    messages = h.hears.1.0;
    between = point_at d p t.wire h.between;
    hears = h.hears.1.1;
    seen = h.seen;
    node = h.settles;
    handed = handed ∙ h.handed;
    left =
        ap (λ (l : Lobby).
        lobby l.guests l.next l.time l.own l.spent l.differs (over_settled ok over)) same;
  },
  refl,
)

pub settled_then : {V U C : Type 0} (d : DeskOf V) (p : PeersOf U)
    (happened : C → Option (List Happened)) (home : Home) (t : ServingOptions) (ok : Bool)
    (old new : ClientTable) (node next : V) (peers more kept : U) (c : C)
    → lobby_of new None ≡ lobby_of old None → p.handed kept ≡ p.handed more
    → SettlesDesks d p t.wire home ok (desks node peers) (desks next more)
    → Does d p happened home t (over_settled ok None) old new (scene node peers c)
    (scene next kept c)
settled_then d p happened home t ok old new node next peers more kept c same handed h = (
  Settles h.hears.0 ok ∷ [],
  record {
    pass =
        does_settles d p happened home t ok None old new node next peers more kept c same handed h;
    told = Tells-nil (happened c);
  },
)

-- a client was named, and answered, and what it changed is settled
pub does_answer : {V U C : Type 0} (d : DeskOf V) (p : PeersOf U)
    (happened : C → Option (List Happened)) (home : Home) (t : ServingOptions) (k : ℕ)
    (over : Option ServingEnd) (old new : ClientTable) (node next : V) (peers more : U)
    (c named later : C) → Tells (happened c) (happened named) (Named k ∷ [])
    → AnswersThenSettles d p happened home t k over old new (scene node peers named)
    (scene next more later)
    → Does d p happened home t over old new (scene node peers c) (scene next more later)
does_answer {V} {U} d p happened home t k over old new node next peers more c named later told h =
    by h.5
  where
    all : Tells (happened c) (happened later) (told_of h.3.0 ++ [])
    all =
        Tells-as (happened c) (happened later) _ _ (sym h.3.2 ∙ sym (append-nil _))
        (Tells-trans (happened c) (happened named) (happened later) _ _ told h.3.4)

    by : Rests d p t.wire home h.1 h.0 (desks next more)
        → Does d p happened home t over old new (scene node peers c) (scene next more later)
    by (inl settles) =
        let mid = room_of d p t.wire new h.2 (scene h.0.node h.0.peers later) in (
          h.3.0 ∷ Settles settles.hears.0 h.1 ∷ [],
          record {
            pass = (
              mid,
              h.3.3,
              subst
                  (λ o. Pass home t mid (Settles settles.hears.0 h.1 ∷ [])
                  (room_of d p t.wire new o (scene next more later))) (sym h.4)
                  (does_settles d p happened home t h.1 h.2 new new h.0.node next h.0.peers more
                  more later refl refl settles),
            );
            told = all;
          },
        )
    by (inr rests) =
        subst (λ (n : Desks V U). Does d p happened home t over old new (scene node peers c)
        (scene n.node n.peers later)) (sym rests.1) (subst (λ o. Does d p happened home t o old new
        (scene node peers c) (scene h.0.node h.0.peers later))
        (sym (h.4 ∙ ap (λ ok. over_settled ok h.2) rests.0))
        (h.3.0 ∷ [], record { pass = (_, h.3.3, refl); told = all }))

-- serving is over by itself
pub does_stop : {V U C : Type 0} (d : DeskOf V) (p : PeersOf U)
    (happened : C → Option (List Happened)) (home : Home) (t : ServingOptions) (over : ServingEnd)
    (table : ClientTable) (node : V) (peers : U) (c later : C) → IsStop t over (lobby_of table None)
    → Tells (happened c) (happened later) (told_over over)
    → Does d p happened home t (Some over) table table (scene node peers c) (scene node peers later)
does_stop d p happened home t over table node peers c later is told = (
  Changed (Stops over) ∷ [],
  record {
    pass = (_, ((refl, is, refl), refl, refl), refl);
    told =
        Tells-as (happened c) (happened later) _ _ (sym (append-nil (told_over over))) told;
  },
)

-- ---- rounds

-- the table at the end of a round
abbrev pub timed : ClientTable → ℕ → OwnTicks → DearTurns → Bool → ClientTable
timed table time own dear said =
    record {
      guests = table.guests;
      next = table.next;
      time = time;
      own = own;
      dear = dear;
      differs = table.differs;
      said = said;
    }

outside_same : {V U : Type 0} (d : DeskOf V) (p : PeersOf U) (version : Version) (node : V)
    (peers kept : U) → p.handed kept ≡ p.handed peers
    → outside d p version node kept ≡ outside d p version node peers
outside_same d p version node peers kept same =
    ap (λ z. outside_of (speaking d.handles d.settles version) node z) same

-- no Tick was due
does_clock : {V U C : Type 0} (d : DeskOf V) (p : PeersOf U)
    (happened : C → Option (List Happened)) (home : Home) (t : ServingOptions) (time : ℕ)
    (table : ClientTable) (own : OwnTicks) (dear : DearTurns) (said : Bool) (node : V)
    (peers kept : U) (c between : C) → dear.spent ≡ false → p.handed kept ≡ p.handed peers
    → Tells (happened c) (happened between) (Round time ∷ [])
    → IsFalse (ticks_at table.own.ticker (shown (d.seen node) time))
    → own ≡ ticks_after table.own (shown (d.seen node) time) false
    → Does d p happened home t None table (timed table time own dear said) (scene node peers c)
    (scene node kept between)
does_clock d p happened home t time table own dear said node peers kept c between fresh same told
    early is = (
      Clock time ∷ [],
      record {
        pass = (
          room_of d p t.wire (timed table time own dear said) None (scene node kept between),
          record {
            going = refl;
            early = early;
            seen = refl;
            outside = outside_same d p t.wire node peers kept same;
            left = lobby_same refl refl refl is fresh refl refl;
          },
          refl,
        );
        told = told;
      },
    )

-- a Tick was due, and taken
does_tick : {V U C : Type 0} (d : DeskOf V) (p : PeersOf U)
    (happened : C → Option (List Happened)) (t : ServingOptions) (time : ℕ) (starved : Bool)
    (over : Option ServingEnd) (table : ClientTable) (own : OwnTicks) (dear : DearTurns)
    (said : Bool) (node next : V) (peers more kept : U) (c between : C) → dear.spent ≡ false
    → p.handed kept ≡ p.handed more → Tells (happened c) (happened between) (Round time ∷ [])
    → HasTicked d p t.wire (shown (d.seen node) time) starved over table.own own (desks node peers)
    (desks next more)
    → Does d p happened (d.home_of node) t over table (timed table time own dear said)
    (scene node peers c) (scene next kept between)
does_tick d p happened t time starved over table own dear said node next peers more kept c between
    fresh same told h = (
      Ticked time starved ∷ [],
      record {
        pass = (
          room_of d p t.wire (timed table time own dear said) over (scene next kept between),
          record {
            going = refl;
            due = h.due;
            tick =
                subst (λ z. TicksBy starved (d.home_of node) (sides_alone d p t.wire node peers)
                (unanswered (d.seen next) z)) (sym (outside_same d p t.wire next more kept same))
                h.tick;
            left = lobby_same refl refl refl h.own fresh refl h.ends;
          },
          refl,
        );
        told = told;
      },
    )

-- a round is over, a Tick was taken where one was due, and the links were kept, by which nothing is
-- handed out
pub does_round : {V U C : Type 0} (d : DeskOf V) (p : PeersOf U)
    (happened : C → Option (List Happened)) (t : ServingOptions) (time : ℕ)
    (over : Option ServingEnd) (table : ClientTable) (own : OwnTicks) (dear : DearTurns)
    (said : Bool) (node next : V) (peers more kept : U) (c between : C) → dear.spent ≡ false
    → p.handed kept ≡ p.handed more → Tells (happened c) (happened between) (Round time ∷ [])
    → MayTick d p t.wire time over table.own own (desks node peers) (desks next more)
    → Does d p happened (d.home_of node) t over table (timed table time own dear said)
    (scene node peers c) (scene next kept between)
does_round {V} {U} d p happened t time over table own dear said node next peers more kept c between
    fresh same told (inl h) =
    let here : next ≡ node = ap (λ (z : Desks V U). z.node) h.same in
    let others : more ≡ peers = ap (λ (z : Desks V U). z.peers) h.same in
    subst (λ o. Does d p happened (d.home_of node) t o table (timed table time own dear said)
    (scene node peers c) (scene next kept between)) (sym h.goes_on) (subst
    (λ n. Does d p happened (d.home_of node) t None table (timed table time own dear said)
    (scene node peers c) (scene n kept between)) (sym here) (does_clock d p happened
    (d.home_of node) t time table own dear said node peers kept c between fresh
    (same ∙ ap p.handed others) told h.early h.own))
does_round d p happened t time over table own dear said node next peers more kept c between fresh
    same told (inr h) = does_tick d p happened t time h.0 over table own dear said node next peers
    more kept c between fresh same told h.1

-- and what was changed is settled, or that fails
pub round_settles : {V U C : Type 0} (d : DeskOf V) (p : PeersOf U)
    (happened : C → Option (List Happened)) (t : ServingOptions) (time : ℕ) (ok : Bool)
    (over : Option ServingEnd) (table : ClientTable) (own : OwnTicks) (dear : DearTurns)
    (node next last : V) (peers more kept : U) (c between : C) → over ≡ None → dear.spent ≡ false
    → Tells (happened c) (happened between) (Round time ∷ [])
    → MayTick d p t.wire time over table.own own (desks node peers) (desks next more)
    → SettlesDesks d p t.wire (d.home_of node) ok (desks next more) (desks last kept)
    → Does d p happened (d.home_of node) t (over_settled ok None) table
    (timed table time own dear table.said) (scene node peers c) (scene last kept between)
round_settles d p happened t time ok over table own dear node next last peers more kept c between
    none fresh told ticks settles =
    let mid = timed table time own dear table.said in
    does_both d p happened (d.home_of node) t (over_settled ok None) table mid mid
    (scene node peers c) (scene next more between) (scene last kept between)
    (subst (λ o. Does d p happened (d.home_of node) t o table mid (scene node peers c)
    (scene next more between)) none (does_round d p happened t time over table own dear table.said
    node next peers more more c between fresh refl told ticks)) (settled_then d p happened
    (d.home_of node) t ok mid mid next last more kept kept between refl refl settles)

-- ---- from the first client to the end

pub serves_all : {V U C : Type 0} (d : DeskOf V) (p : PeersOf U)
    (happened : C → Option (List Happened)) (t : ServingOptions) (period : Option ℕ)
    (over : ServingEnd) (table mid last : ClientTable) (node next : V) (peers more : U)
    (c between later : C)
    → lobby_of table None ≡ empty_lobby (first_ticks (d.home_of node) period (d.seen node))
    → Does d p happened (d.home_of node) t (Some over) table mid (scene node peers c)
    (scene next more between) → Empties happened (d.home_of node) t over mid last between later
    → last.guests.items ≡ [] → Serves d p happened t period
    (record { connections = last.next; over = over; starved = last.own.starved })
    (scene node peers c) (scene next more later)
serves_all d p happened t period over table mid last node next peers more c between later first h k
    none =
    let home = d.home_of node in
    let own = first_ticks home period (d.seen node) in
    let ends = changes_pass home t (room_of d p t.wire mid (Some over) (scene next more between))
    (lobby_of mid (Some over)) (lobby_of last (Some over)) k.0 k.1 in (
      lobby_of last (Some over),
      h.0 ++ changed_steps k.0,
      record {
        first = refl;
        pass =
            Pass-trans home t (in_room d p t.wire (empty_lobby own) (scene node peers c))
            (room_of d p t.wire mid (Some over) (scene next more between))
            (room_of d p t.wire last (Some over) (scene next more later)) h.0 (changed_steps k.0)
            (subst (λ l. Pass home t (in_room d p t.wire l (scene node peers c)) h.0
            (room_of d p t.wire mid (Some over) (scene next more between))) first h.1.pass) ends;
        told =
            Tells-as (happened c) (happened later) _ _ (ap (λ z. told_all h.0 ++ z)
            (sym (changes_told k.0)) ∙ sym (all_told_both h.0 (changed_steps k.0)))
            (Tells-trans (happened c) (happened between) (happened later) _ _ h.1.told k.2);
        counted = refl;
        starved = refl;
        over = refl;
        left = none;
      },
    )

first_starved : (home : Home) (period : Option ℕ) (x : Seen)
    → false ≡ (first_ticks home period x).starved
first_starved home None x = refl
first_starved home (Some period) x = refl

-- memory was refused before a client came
pub serves_none : {V U C : Type 0} (d : DeskOf V) (p : PeersOf U)
    (happened : C → Option (List Happened)) (t : ServingOptions) (period : Option ℕ) (node : V)
    (peers : U) (c : C) → Serves d p happened t period
    (record { connections = 0; over = over_is.NoMemory; starved = false })
    (scene node peers c) (scene node peers c)
serves_none d p happened t period node peers c = (
  lobby [] 0 0 (first_ticks (d.home_of node) period (d.seen node)) false None
      (Some over_is.NoMemory),
  Changed (Stops over_is.NoMemory) ∷ [],
  record {
    first = refl;
    pass = (_, ((refl, (refl, refl, refl), refl), refl, refl), refl);
    told = Tells-nil (happened c);
    counted = refl;
    starved = first_starved (d.home_of node) period (d.seen node);
    over = refl;
    left = refl;
  },
)

pub is_empty : {X : Type 0} (xs : List X) → true ≡ eqb (length xs) 0 → xs ≡ []
is_empty [] h = refl
is_empty (x ∷ xs) h = absurd (omega (arith, eqb-true (length (x ∷ xs)) 0 (sym h)))
