-- A message of desk 1 comes to desk 2.
use Rattle.std.proofs.Common.{◌≡◌, ◌≢◌, inl, inr, refl, sym, ap, subst, ◌∙◌, ℕ, true, false, Bool}
use Rattle.std.proofs.Common.{if◌then◌else◌, eqb, List, [], ◌∷◌, ◌++◌, length, take, drop, None}
use Rattle.std.proofs.Common.{Some, Ok, arith}
use Rattle.std.proofs.{Math.Seq.drop-length, lemmas.Bool.ne_eqb, lemmas.List.append-nil}
use Rattle.answers.specs.Seen.{Seen}
use Rattle.connections.specs.Connections.{Connections, FollowEach}
use Rattle.guarded.specs.{LockedLaw.IsGuardedStream, LockedConnections.fresh_locked_connection}
use Rattle.guarded.specs.LockedTurns.{Follow, Place}
use Rattle.guarded.specs.LockedConnections.{LockedConnectionOf, LetsIn, after_sent}
use Rattle.learner.specs.{Desks.first_desk, declared.event.DeskEvent.TheVariants.Deliver}
use Rattle.links.specs.Histories.{Began, History, Opened, Push, Sent, Start, Then}
use Rattle.links.specs.Links.{LinkState, new_link, with_waiting, after_began, after_opened}
use Rattle.links.specs.Links.{after_sent as link_sent}
use Rattle.links.specs.declared.stages.PushOutcome.TheVariants.{Waits}
use Rattle.multiplex.specs.{EachClient.IsServedBehind, Silence.ready_after}
use Rattle.multiplex.specs.Noting.{Ears, ears, fresh_notes, hear_all}
use Rattle.multiplex.specs.Passing.{IsServedEach, Lobby, Pass, Room, empty_lobby, guest, lobby}
use Rattle.multiplex.specs.declared.{ends.ServingEnd.TheVariants.All as NoMore, notes.Notes.Notes}
use Rattle.multiplex.specs.declared.{own_ticks.OwnTicks.OwnTicks, table.Guest.Guest}
use Rattle.replica.specs.{Handles.Handles, Settles.Settles, Stores.HoldsDesk}
use Rattle.seal.specs.Records.{IsBody, preface_of, records}
use Rattle.seal.{specs.declared.channel.Channel.Channel, proofs.Reading.reads_none}
use Rattle.seal_laws.specs.Keys.{AreRandom}
use Rattle.sealed.specs.Admitting.{comes_under, goes_under}
use Rattle.sealed.specs.ServerSeals.{ServerSealOf, IsOfLocks, Receives, Stands, fresh_server_seal}
use Rattle.sealed.specs.{Sent.KeepsSent, ClientSeals.ClientSealOf, Tunnels.TunnelOf}
use Rattle.sealed.specs.Trials.{ReadsAll, TrialOf, entry_of, fresh_trial}
use Rattle.sealed.specs.declared.callers.{Access.TheVariants.Locked, Holder.TheVariants.Hall}
use Rattle.sealed.{specs.declared.callers.DeskKeys.DeskKeys, proofs.Fresh.fresh_of_locks}
use Rattle.sealed.specs.ends.{ClientStreams.ClientStreamOf, Laws.IsCall}
use Rattle.serving.specs.{Connection.serve_frame, Turns.Talk, Turns.new_talk}
use Rattle.serving.specs.{Making.outside_of, Making.speaking, Telling.entries_told, Telling.run_of}
use Rattle.serving.specs.Serving.{answer_out, call, push_all, start_if_grown, tell}
use Rattle.store.specs.declared.{home.Home.Home, keeper.Keeper.Ghosts}
use Rattle.wire.specs.{Spelling.spelling, Stream.front, declared.values.Version.TheVariants.Two}
use Rattle.hall_laws.specs.HallExample.{said_frame, says, third_home}
use Rattle.hall_laws.specs.HallRuns.{seen_of}
use Rattle.hall_laws.proofs.HallExample.{answer_to, first_node, hears, said_is_frame, still}
use Rattle.hall_laws.proofs.{HallExample.talk_of, HallFrames.came_whole}
use Rattle.desk_laws.specs.Example.{ServingWorks, gives, one, plain_turns, result, served, steps}
use Rattle.desk_laws.specs.{Example.terms, Example.turns, Ways.IsWay}
use Rattle.guarded.specs.LockedConnections as LockedConnectionOf
use Rattle.sealed.specs.declared.callers.Caller.TheVariants as caller
use Rattle.serving.specs.Turns as Turns

-- ---- the sealed stream, of one record

unfoldable has_opened : Channel → Channel → TunnelOf
has_opened comes goes = record {
  opener = record { channel = comes; number = 1; held = []; fault = None };
  sealer = record { channel = goes; number = 0 };
}

body_is : IsBody 0 (spelling said_frame)
body_is = ((omega arith, omega arith), omega arith)

some_body : (body : List ℕ) → IsBody 0 body → body ≢ []
some_body [] good e = omega (arith, good.0.0)
some_body (x ∷ xs) good e = cc

opened : (comes goes : Channel) (body : List ℕ) → IsBody 0 body
    → ReadsAll (has_opened comes goes) (records comes 0 (body ∷ [])) body
unfolding has_opened
opened comes goes body good = record {
  bodies = body ∷ [];
  rest = [];
  whole = sym (append-nil (records comes 0 (body ∷ [])));
  each = (good, tt);
  gives = sym (append-nil body);
  channel_kept = refl;
  counted = refl;
  ends = inl (omega arith);
  held = refl;
}

abbrev trial : DeskKeys → List ℕ → List ℕ → TrialOf
trial locks client server = record {
  hall = has_opened (comes_under client server locks.hall) (goes_under client server locks.hall);
  entry = entry_of locks.entry client server;
  holder = Some Hall;
}

abbrev called : DeskKeys → List ℕ → List ℕ → ServerSealOf
called locks client server = record {
  doors = Locked locks;
  random = server;
  held = [];
  passing = None;
  trial = Some (trial locks client server);
  refusal = None;
}

-- ---- the answer of the frame: there is none

answer_none : answer_to (third_home 2) said_frame ≡ []
unfolding serve_frame call push_all start_if_grown tell answer_out run_of entries_told
answer_none = refl

abbrev home : Home
home = third_home 2

abbrev waits : Talk
waits = talk_of home (said_frame ∷ []) 0 []

abbrev past : Talk
past = talk_of home [] 1 (answer_to home said_frame)

-- ---- the guards

abbrev come : DeskKeys → List ℕ → List ℕ → LockedConnectionOf
come locks client server = record {
  called = called locks client server;
  talk = waits;
  output = preface_of server;
  starved = false;
}

abbrev greeted : DeskKeys → List ℕ → List ℕ → LockedConnectionOf
greeted locks client server =
    after_sent (come locks client server) (length (preface_of server))

abbrev done : DeskKeys → List ℕ → List ℕ → LockedConnectionOf
done locks client server = record {
  called = called locks client server;
  talk = Turns.after_sent past (length (answer_to home said_frame));
  output = [];
  starved = false;
}

abbrev place : {K : Type 0} → (k : Ghosts K) → K → LockedConnectionOf
    → Place (speaking (Handles k) (Settles k) Two)
place k keeper g = record {
  guard = g;
  seen = seen_of (first_node keeper);
  outside = outside_of (speaking (Handles k) (Settles k) Two) (first_node keeper) None;
}

receives : (locks : DeskKeys) (client server : List ℕ) → AreRandom client server
    → Receives (gives locks client server) (fresh_server_seal (Locked locks) server)
    (called locks client server) (spelling said_frame)
unfolding has_opened
receives locks client server random came handed st =
    subst (λ (c : List ℕ). Stands (called locks client server) (c ++ gives locks client server)
    (handed ++ spelling said_frame)) st.3
    (subst (λ (h : List ℕ). Stands (called locks client server) (gives locks client server)
    (h ++ spelling said_frame)) (sym st.4) (record {
      locks = locks;
      client = client;
      stream =
          records (comes_under client server locks.hall) 0 (spelling said_frame ∷ []);
      doors = refl;
      prefaced = record { sixteen = random.of_client; whole = refl };
      keys =
          record {
            hall = refl;
            entry = fresh.entry;
            hall_sends = refl;
            entry_sends = fresh.entry_sends;
          };
      tries = (
        some_body (spelling said_frame) body_is,
        opened (comes_under client server locks.hall) (goes_under client server locks.hall)
            (spelling said_frame) body_is,
      );
    }))
  where
    fresh : IsOfLocks locks client server (fresh_trial locks client server)
    fresh = fresh_of_locks locks client server

keeps_sent : (locks : DeskKeys) (client server : List ℕ)
    → KeepsSent (fresh_server_seal (Locked locks) server) (called locks client server)
unfolding has_opened
keeps_sent locks client server given sent none = record {
  bodies = [];
  each = tt;
  gives = sym none.0;
  sealed = none.1;
  counted = refl;
}

-- what came is let in
lets_in : (locks : DeskKeys) (client server : List ℕ) → AreRandom client server
    → LetsIn (gives locks client server) (spelling said_frame)
    (fresh_locked_connection (Locked locks) server home Two) (come locks client server)
unfolding front
lets_in locks client server random = record {
  receives = receives locks client server random;
  same = record { doors = refl; random = refl };
  sends = keeps_sent locks client server;
  stays = λ is. absurd cc;
  talk = (
    record { home = refl; wire = refl; frames = refl; pending = refl },
    record {
      rest = [];
      whole = sym (append-nil (spelling said_frame ++ []) ∙ append-nil (spelling said_frame));
      each = (said_is_frame, tt);
      ends = λ none. none;
      keeps = refl;
    },
  );
  output = refl;
  fed = refl;
}

-- a call of the node that serves
heard : {K : Type 0} (k : Ghosts K) (keeper : K) → k.home_of keeper ≡ home
    → HoldsDesk k keeper first_desk
    → Handles k (first_node keeper) (Deliver (says 2)) (Ok []) (first_node keeper)
heard k keeper is holds =
    still k keeper 2 (Deliver (says 2)) [] is holds refl refl tt (λ j m less. absurd (omega arith))

nothing_left : drop (length (answer_to home said_frame)) (answer_to home said_frame) ≡ []
nothing_left = drop-length (answer_to home said_frame)

follows : {K : Type 0} (k : Ghosts K) (keeper : K) (locks : DeskKeys) (client server : List ℕ)
    → k.home_of keeper ≡ home → HoldsDesk k keeper first_desk → AreRandom client server
    → Follow (place k keeper (fresh_locked_connection (Locked locks) server home Two))
    (turns locks client server) (place k keeper (done locks client server))
unfolding has_opened
follows k keeper locks client server is holds random = (
  place k keeper (come locks client server),
  (
    record {
      fed = refl;
      taken = refl;
      hears = refl;
      served =
          record { free = record { unended = refl; taken = refl }; served = refl; unbroken = refl };
    },
    inr (spelling said_frame, lets_in locks client server random),
    record { seen = refl; outside = refl },
  ),
  (
    place k keeper (greeted locks client server),
    (
      sym (ap (λ (s : List ℕ). preface_of server ++ s) (drop-length (preface_of server))
          ∙ append-nil (preface_of server)),
      refl,
      record { seen = refl; outside = refl },
    ),
    (
      place k keeper (done locks client server),
      (
        record { fed = refl; unended = refl; taken = drop-length (preface_of server) },
        past,
        hears k keeper (heard k keeper is holds),
        refl,
        inr
            (record {
              sends = (
                trial locks client server,
                (
                  has_opened (comes_under client server locks.hall)
                      (goes_under client server locks.hall),
                  record {
                    sealed =
                        record {
                          bodies = [];
                          each = tt;
                          gives = sym answer_none;
                          sealed = refl;
                          counted = refl;
                        };
                    opener = refl;
                  },
                  refl,
                ),
                refl,
              );
              talk = refl;
              fed = refl;
            }),
      ),
      refl,
    ),
  ),
)

-- ---- the loop

abbrev own : OwnTicks
own = record { ticker = None; starved = false }

abbrev notes_before : Notes
notes_before = fresh_notes []

abbrev seen : {K : Type 0} → K → Seen
seen keeper = seen_of (first_node keeper)

abbrev ears_after : {K : Type 0} → K → Ears
ears_after keeper = hear_all home (ears (seen keeper) [] None) (one ∷ [])

abbrev guest_before : DeskKeys → List ℕ → Guest
guest_before locks server =
    guest 0 (fresh_locked_connection (Locked locks) server home Two) notes_before 0

abbrev guest_after : {K : Type 0} → K → DeskKeys → List ℕ → List ℕ → Guest
guest_after keeper locks client server =
    guest 0 (done locks client server) (record { until = None; known = (ears_after keeper).known })
    (ready_after 0 (LockedConnectionOf.begun (fresh_locked_connection (Locked locks) server home
    Two)) (LockedConnectionOf.begun (done locks client server)) 0)

abbrev room : {K : Type 0} → (k : Ghosts K) → K → Lobby
    → Room (speaking (Handles k) (Settles k) Two)
room k keeper l = record {
  lobby = l;
  seen = seen keeper;
  outside = outside_of (speaking (Handles k) (Settles k) Two) (first_node keeper) None;
}

abbrev after_visit : {K : Type 0} → K → Lobby
after_visit keeper = lobby [] 1 0 own false (ears_after keeper).differs None

abbrev at_end : {K : Type 0} → K → Lobby
at_end keeper = lobby [] 1 0 own false (ears_after keeper).differs (Some NoMore)

wants_read : (locks : DeskKeys) (client server : List ℕ)
    → LockedConnectionOf.WantsRead (done locks client server)
unfolding has_opened
wants_read locks client server = record {
  fed = refl;
  taken = refl;
  hears = refl;
  served =
      record {
        free = record { unended = refl; taken = nothing_left };
        served = refl;
        unbroken = refl;
      };
}

passes : {K : Type 0} (k : Ghosts K) (keeper : K) (locks : DeskKeys) (client server : List ℕ)
    → k.home_of keeper ≡ home → HoldsDesk k keeper first_desk → AreRandom client server
    → Pass home (terms locks) (room k keeper (empty_lobby own)) (steps locks client server)
    (room k keeper (at_end keeper))
passes k keeper locks client server is holds random = (
  room k keeper (lobby (guest_before locks server ∷ []) 1 0 own false None None),
  (
    (
      [],
      record {
        going = refl;
        number = refl;
        wanted = omega arith;
        room = omega arith;
        enters = refl;
      },
    ),
    refl,
    refl,
  ),
  (
    room k keeper (after_visit keeper),
    (
      [],
      [],
      guest_before locks server,
      guest_after keeper locks client server,
      record {
        going = refl;
        found = refl;
        number = refl;
        follow = follows k keeper locks client server is holds random;
        once = omega arith;
        shares =
            record {
              messages = one ∷ [];
              last = [];
              all = refl;
              heard = (refl, tt);
              shares = refl;
            };
        served = λ none. absurd cc;
        heard = record { lengths = refl; first = refl };
        due = tt;
        same = refl;
        ready = refl;
        stands = wants_read locks client server;
        left = refl;
      },
    ),
    (
      room k keeper (at_end keeper),
      ((refl, (refl, omega arith), refl), refl, refl),
      refl,
    ),
  ),
)

serves : {K : Type 0} (k : Ghosts K) (keeper : K) (locks : DeskKeys) (client server : List ℕ)
    → k.home_of keeper ≡ home → HoldsDesk k keeper first_desk → AreRandom client server
    → IsServedEach result home (terms locks) None (room k keeper (empty_lobby own))
    (room k keeper (at_end keeper)) None None (steps locks client server)
serves k keeper locks client server is holds random = record {
  first = refl;
  pass = passes k keeper locks client server is holds random;
  told = tt;
  counted = refl;
  starved = refl;
  over = refl;
  left = refl;
}

-- ---- by the bytes alone

stream_is : (locks : DeskKeys) (client server : List ℕ) → AreRandom client server
    → IsGuardedStream (Locked locks) server (done locks client server)
    (gives locks client server) (preface_of server) (spelling said_frame) [] (one ∷ [])
unfolding has_opened
stream_is locks client server random =
    let stream = records (comes_under client server locks.hall) 0 (spelling said_frame ∷ []) in
    record {
      who = Some (caller.Holder Hall);
      front = gives locks client server;
      first = preface_of server;
      body = [];
      read =
          record {
            later = [];
            parts = sym (append-nil (gives locks client server));
            whole = λ fed. (refl, refl);
          };
      admits = (
        locks,
        refl,
        record {
          client = client;
          stream = stream;
          prefaced = record { sixteen = random.of_client; whole = refl };
          hands = (
            some_body (spelling said_frame) body_is,
            (
              None,
              (
                spelling said_frame ∷ [],
                record {
                  rest = [];
                  whole = sym (append-nil stream);
                  each = (body_is, tt);
                  ends = inl (omega arith);
                },
                sym (append-nil (spelling said_frame)),
              ),
            ),
          );
        },
      );
      parts = refl;
      greets = refl;
      sends = (
        locks,
        refl,
        record {
          client = client;
          stream = stream;
          prefaced = record { sixteen = random.of_client; whole = refl };
          secret = locks.hall;
          held = refl;
          bodies = [];
          each = tt;
          gives = refl;
          sealed = refl;
        },
      );
      allowed = (record { known = refl; may = refl }, tt);
    }

behind : (locks : DeskKeys) (client server : List ℕ) → AreRandom client server
    → IsServedBehind home (Locked locks) server (gives locks client server) (preface_of server)
    (served ∷ [])
behind locks client server random = record {
  guard = done locks client server;
  handed = spelling said_frame;
  answers = [];
  rest = [];
  stream = stream_is locks client server random;
  served =
      record {
        at = refl;
        begins =
            record {
              whole =
                  sym (append-nil (spelling said_frame ++ []) ∙ append-nil (spelling said_frame));
              each = (said_is_frame, tt);
            };
        answered = nothing_left;
        counted = (refl, tt);
        frames = refl;
        few = omega arith;
        ends = (refl, tt);
      };
}

-- ---- the link

abbrev pushed : LinkState
pushed = with_waiting new_link (spelling said_frame ∷ [])

abbrev began : LinkState
began = after_began pushed 0

abbrev open_link : LinkState
open_link = after_opened began 0

abbrev link_calls : History
link_calls =
    Then (Then (Then (Then Start (Push (spelling said_frame) Waits)) (Began 0)) (Opened 0))
    (Sent 0 (spelling said_frame))

unfoldable has_sent : Channel → Channel → TunnelOf
has_sent comes goes = record {
  opener = record { channel = goes; number = 0; held = []; fault = None };
  sealer = record { channel = comes; number = 1 };
}

abbrev side : DeskKeys → List ℕ → List ℕ → ClientSealOf
side locks client server = record {
  key = locks.hall;
  random = client;
  held = [];
  tunnel =
      Some (has_sent (comes_under client server locks.hall) (goes_under client server locks.hall));
  unsealed = false;
}

abbrev link_end : DeskKeys → List ℕ → List ℕ → ClientStreamOf
link_end locks client server = record {
  calling = Some (side locks client server);
  front = take 4 (preface_of server ++ []);
  heard = false;
  output = [];
}

calls : (locks : DeskKeys) (client server : List ℕ) → AreRandom client server
    → IsCall (Some locks.hall) client (link_end locks client server) (preface_of server ++ []) []
    (spelling said_frame) (gives locks client server)
unfolding has_sent
calls locks client server random =
    let comes = comes_under client server locks.hall in
    let goes = goes_under client server locks.hall in
    record {
      side = (refl, refl);
      stands =
          record {
            front = refl;
            heard = refl;
            reads =
                record {
                  server = server;
                  stream = [];
                  prefaced = record { sixteen = random.of_server; whole = refl };
                  key = refl;
                  reads = reads_none goes 0 [] (has_sent comes goes).opener refl refl
                      (inl (omega arith)) refl;
                };
          };
      gone =
          record {
            server = server;
            stream = [];
            prefaced = record { sixteen = random.of_server; whole = refl };
            goes = refl;
            sealed = records comes 0 (spelling said_frame ∷ []);
            over =
                record {
                  bodies = spelling said_frame ∷ [];
                  each = (body_is, tt);
                  gives = append-nil (spelling said_frame);
                  sealed = refl;
                  counted = refl;
                };
            whole = append-nil (gives locks client server);
          };
    }

way : (locks : DeskKeys) (client server : List ℕ) → AreRandom client server → locks.old ≡ false
    → IsWay locks server (gives locks client server) (said_frame ∷ [])
way locks client server random one_key = record {
  one_key = one_key;
  history = link_calls;
  link = link_sent open_link 0 (length (spelling said_frame));
  leads = (
    open_link,
    (began, (pushed, (new_link, refl, (omega arith, refl)), (tt, refl)), refl),
    (([], sym (append-nil (spelling said_frame))), refl),
  );
  pushes = refl;
  each = (said_is_frame, tt);
  number = 1;
  caller = link_end locks client server;
  client = client;
  random = random;
  heard = [];
  back = [];
  out = gives locks client server;
  call = calls locks client server random;
  lost = [];
  comes = sym (append-nil (gives locks client server));
}

-- ---- a connection as it is

abbrev plain : {K : Type 0} → (k : Ghosts K) → K → Talk
    → Connections (speaking (Handles k) (Settles k) Two)
plain k keeper talk = record {
  talks = λ j. if eqb j 0 then talk else new_talk home Two;
  seen = seen keeper;
  outside = outside_of (speaking (Handles k) (Settles k) Two) (first_node keeper) None;
}

all_new : (j : ℕ) → (if eqb j 0 then new_talk home Two else new_talk home Two) ≡ new_talk home Two
all_new j = go (eqb j 0)
  where
    go : (b : Bool) → (let t : Talk = if b then new_talk home Two else new_talk home Two in t)
        ≡ new_talk home Two
    go true = refl
    go false = refl

others : (j : ℕ) (t u : Talk) → j ≢ 0
    → (let x : Talk = if eqb j 0 then t else new_talk home Two in x)
    ≡ (let x : Talk = if eqb j 0 then u else new_talk home Two in x)
others j t u ne =
    ap (λ (b : Bool). let x : Talk = if b then t else new_talk home Two in x) (ne_eqb j 0 ne)
    ∙ sym (ap (λ (b : Bool). let x : Talk = if b then u else new_talk home Two in x)
    (ne_eqb j 0 ne))

plain_follows : {K : Type 0} (k : Ghosts K) (keeper : K) → k.home_of keeper ≡ home
    → HoldsDesk k keeper first_desk
    → FollowEach (plain k keeper (new_talk home Two)) plain_turns (plain k keeper past)
plain_follows k keeper is holds = (
  plain k keeper waits,
  record {
    turn =
        came_whole (speaking (Handles k) (Settles k) Two) (seen keeper)
        (outside_of (speaking (Handles k) (Settles k) Two) (first_node keeper) None) home Two
        said_frame said_is_frame;
    others = λ j ne. others j waits (new_talk home Two) ne;
  },
  (
    plain k keeper past,
    record {
      turn = hears k keeper (heard k keeper is holds);
      others = λ j ne. others j past waits ne;
    },
    refl,
  ),
)

pub serving_works : {K : Type 0} (k : Ghosts K) → ServingWorks k
serving_works k keeper locks client server is holds random = record {
  plain_before = plain k keeper (new_talk home Two);
  plain_after = plain k keeper past;
  plain_new = all_new;
  follows = plain_follows k keeper is holds;
  place_before = place k keeper (fresh_locked_connection (Locked locks) server home Two);
  place_after = place k keeper (done locks client server);
  fresh = refl;
  guarded = follows k keeper locks client server is holds random;
  before = room k keeper (empty_lobby own);
  after = room k keeper (at_end keeper);
  serves = serves k keeper locks client server is holds random;
  behind = behind locks client server random;
  delivered = refl;
  needed = refl;
  way = way locks client server random;
}
