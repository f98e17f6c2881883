-- A frame comes over a connection that had no turn: its bytes, and then its service. So a hall
-- continues with frames that come to its desks.
use Rattle.std.proofs.Common.{◌≡◌, ◌≢◌, sym, ap, ◌∙◌, eqb, [], ◌∷◌, None, true, ◌&&◌, ◌==◌, Some}
use Rattle.std.proofs.Common.{refl, subst, ℕ, Bool, if◌then◌else◌, List, ◌++◌, arith, false, Option}
use Rattle.std.proofs.lemmas.{Bool.eq-eqb, Bool.ne_eqb, List.append-nil, Bool.Decides.nat_tests}
use Rattle.answers.specs.Seen.{Seen}
use Rattle.learner.specs.Steps.{IsDesk}
use Rattle.replica.specs.{Handles.Handles, Settles.Settles}
use Rattle.serving.specs.Asking.{request, closes, ours}
use Rattle.serving.specs.Connection.{Begun, answer_bytes, close_of, serve_frame}
use Rattle.serving.specs.Making.{Makes, Outside, Way, outside_of, speaking}
use Rattle.serving.specs.Serving.{Act, framed, what_of}
use Rattle.serving.specs.{Turns.Talk, Turns.new_talk, Telling.entries_said, Telling.run_frame}
use Rattle.serving.specs.TurnLaw.{Came, Began, Place, Turn, Turns}
use Rattle.connections.specs.Connections.{TurnOf, Goes, place_of}
use Rattle.store.specs.declared.{home.Home.Home, keeper.Keeper.Ghosts}
use Rattle.wire.specs.{Ranges.IsFrame, Spelling.spelling, Stream.front, Stream.holding}
use Rattle.wire.specs.declared.{frame.Frame.Frame, values.Version.Version}
use Rattle.hall_laws.specs.HallGoing.{as_it_goes, acts_for, IsServedTo, comes_over, ComesOver}
use Rattle.hall_laws.specs.HallGoing.{FramesGoOn, MessagesGoOn, RunsGoOn}
use Rattle.hall_laws.specs.HallRuns.{Station, Hall, home_at, seen_of, connections, AreDone}
use Rattle.hall_laws.specs.HallRuns.{TakesTurn, TurnWasSent, OnlyAt, FrameWasSent, TurnAt, HallGoes}
use Rattle.hall_laws.specs.HallRuns.{HallStep, IsHallRun, hall_after}
use Rattle.hall_laws.proofs.HallGoing.{IsFree, goes_on, stands_at_end, takes_turn, with_station}
use Rattle.hall_laws.proofs.HallGoing.{station_here, only_here}
use Rattle.acceptor.specs.declared.message.{Body.Body, Body.TheVariants.Prepare, Message.Message}
use Rattle.learner.specs.declared.event.DeskEvent.{DeskEvent, TheVariants.Deliver}
use Rattle.serving.specs.declared.{ends.FrameEnd.FrameEnd, request.Request.Request}
use Rattle.hall_laws.specs.{Arriving.delivers, Arriving.decided_each, Stops.CallsAreHappenings}
use Rattle.hall_laws.specs.OwnMessages.{WereSentTo, sent_after}
use Rattle.hall_laws.proofs.OwnMessages.{message_given, run_given}
use Rattle.serving.specs.declared.ends.FrameEnd.TheVariants as close

-- ---- one connection

-- a connection on which this many frames were begun: these wait, and this is to be taken
abbrev pub talk_with : Home → Version → List Frame → ℕ → List ℕ → Talk
talk_with home wire waiting frames pending = record {
  home = home;
  wire = wire;
  stream = holding [];
  waiting = waiting;
  frames = frames;
  pending = pending;
  end = None;
}

abbrev pub place : {V : Type 0} → (way : Way V) → Seen → Outside way → Talk → Place way
place way seen outside talk = record { talk = talk; seen = seen; outside = outside }

-- the bytes of a frame come
pub came_whole : {V : Type 0} (way : Way V) (seen : Seen) (outside : Outside way) (home : Home)
    (wire : Version) (f : Frame) → IsFrame f
    → Turns (Came (spelling f)) (place way seen outside (new_talk home wire))
    (place way seen outside (talk_with home wire (f ∷ []) 0 []))
unfolding front
came_whole way seen outside home wire f is = (
  record {
    free = record { unended = refl; taken = refl };
    served = refl;
    unbroken = refl;
  },
  (
    record { home = refl; wire = refl; frames = refl; pending = refl },
    record {
      rest = [];
      whole = sym (append-nil (spelling f ++ []) ∙ append-nil (spelling f));
      each = (is, tt);
      ends = λ none. none;
      keeps = refl;
    },
  ),
  record { seen = refl; outside = refl },
)

-- what it is answered
abbrev pub answer_to : Home → Seen → Frame → List ℕ
answer_to home seen f = answer_bytes (serve_frame home seen (as_it_goes f)).answers

-- the frame is begun, and leaves the connection open
pub begun_whole : {V : Type 0} (way : Way V) (home : Home) (wire : Version) (f : Frame)
    (old new : Seen) (before after : Outside way) → close_of home old (as_it_goes f) ≡ None
    → Makes home.hall before after (serve_frame home old (as_it_goes f)).acts
    → new ≡ (serve_frame home old (as_it_goes f)).seen
    → Turns (Began (as_it_goes f)) (place way old before (talk_with home wire (f ∷ []) 0 []))
    (place way new after (talk_with home wire [] 1 (answer_to home old f)))
begun_whole way home wire f old new before after stays made node = (
  record {
    free = record { unended = refl; taken = refl };
    next = refl;
    counted = refl;
    few = omega arith;
    home = refl;
    wire = refl;
    stream = refl;
  },
  (record { close = sym stays; answered = refl; made = made; node = node }, omega arith),
)

-- ---- one of many

-- the connection of this number is so, and the others are as they were
abbrev pub talks_with : (ℕ → Talk) → ℕ → Talk → ℕ → Talk
talks_with talks number talk j = if eqb j number then talk else talks j

pub talk_here : (talks : ℕ → Talk) (number : ℕ) (talk : Talk)
    → talks_with talks number talk number ≡ talk
talk_here talks number talk =
    ap (λ (t : Bool). if t then talk else talks number) (eq-eqb number number refl)

pub talk_there : (talks : ℕ → Talk) (number j : ℕ) (talk : Talk) → j ≢ number
    → talks_with talks number talk j ≡ talks j
talk_there talks number j talk other =
    ap (λ (t : Bool). if t then talk else talks j) (ne_eqb j number other)

-- what a turn is of, where the connection is so before it and so after it
turn_of : {V : Type 0} (way : Way V) (turn : Turn) (old new : Seen) (before after : Outside way)
    (a b c d : Talk) → a ≡ c → b ≡ d → Turns turn (place way old before c) (place way new after d)
    → Turns turn (place way old before a) (place way new after b)
turn_of way turn old new before after a b c d is so t =
    subst (λ u. Turns turn (place way old before u) (place way new after b)) (sym is) (rw so t)

-- the desk with this node and connection, and what the others were handed
abbrev pub desk_with : {K : Type 0} → Station K → (ℕ → Talk) → ℕ → Talk → Station K
desk_with y talks number talk =
    record { node = y.node; talks = talks_with talks number talk; wire = y.wire; handed = y.handed }

-- the desk with a frame of which the bytes came over this connection, and once it was begun
abbrev pub with_frame : {K : Type 0} → Ghosts K → Station K → ℕ → Frame → Station K
with_frame k x number f = desk_with x x.talks number (talk_with (home_at k x) x.wire (f ∷ []) 0 [])

abbrev pub past_frame : {K : Type 0} → Ghosts K → Station K → Station K → ℕ → Frame → Station K
past_frame k x y number f =
    desk_with y x.talks number
    (talk_with (home_at k x) x.wire [] 1 (answer_to (home_at k x) (seen_of x.node) f))

-- the turns of the connection
abbrev pub comes_at : ℕ → Frame → TurnOf
comes_at number f = record { number = number; turn = Came (spelling f) }

abbrev pub begins_at : ℕ → Frame → TurnOf
begins_at number f = record { number = number; turn = Began (as_it_goes f) }

pub other_talks : (talks : ℕ → Talk) (number j : ℕ) (one two : Talk) → j ≢ number
    → talks_with talks number one j ≡ talks_with talks number two j
other_talks talks number j one two other =
    talk_there talks number j one other ∙ sym (talk_there talks number j two other)

served_acts : {K : Type 0} (k : Ghosts K) (x : Station K) (f : Frame)
    → acts_for k x (request (home_at k x) f)
    ≡ (serve_frame (home_at k x) (seen_of x.node) (as_it_goes f)).acts
unfolding serve_frame
served_acts k x f = refl

served_seen : {K : Type 0} (k : Ghosts K) (x y : Station K) (f : Frame)
    → IsServedTo k (request (home_at k x) f) x y
    → seen_of y.node ≡ (serve_frame (home_at k x) (seen_of x.node) (as_it_goes f)).seen
unfolding serve_frame
served_seen k x y f served = served.node

-- what is done then
done_of : {V : Type 0} (way : Way V) (one : Begun) (old new : Seen) (before after : Outside way)
    (a b c d : Talk) (acts : List Act) → a ≡ c → b ≡ d
    → AreDone (Began one) (place way old before c) (place way new after d) acts
    → AreDone (Began one) (place way old before a) (place way new after b) acts
done_of way one old new before after a b c d acts is so t =
    subst (λ u. AreDone (Began one) (place way old before u) (place way new after b) acts) (sym is)
    (rw so t)

-- ---- in the hall

-- a turn of a desk that is as this one
pub takes_turn_as : {K : Type 0} (k : Ghosts K) (n d : ℕ) (h : Hall K) (t : TurnOf)
    (x y : Station K) (acts : List Act) → h.desks d ≡ x → IsDesk n d → y.wire ≡ x.wire
    → Goes t (connections k x.wire x) (connections k x.wire y)
    → AreDone t.turn (place_of (connections k x.wire x) t.number)
    (place_of (connections k x.wire y) t.number) acts → TurnWasSent (home_at k x) h.sent t.turn
    → TakesTurn k n d t acts h (with_station h d y acts)
takes_turn_as {K} k n d h t x y acts is mine =
    subst (λ (u : Station K). y.wire ≡ u.wire
    → Goes t (connections k u.wire u) (connections k u.wire y)
    → AreDone t.turn (place_of (connections k u.wire u) t.number)
    (place_of (connections k u.wire y) t.number) acts → TurnWasSent (home_at k u) h.sent t.turn
    → TakesTurn k n d t acts h (with_station h d y acts))
    is (λ wire goes done was. takes_turn k n d h t y acts mine wire goes done was)

-- ---- A hall continues with frames that come to its desks.

-- ---- a frame

-- one change of a desk after the other
only_both : {K : Type 0} (d : ℕ) (acts : List Act) (h m g : Hall K)
    → OnlyAt d [] h m → OnlyAt d acts m g → OnlyAt d acts h g
only_both d acts h m g one two = record {
  others = λ j other. two.others j other ∙ one.others j other;
  sent = two.sent ∙ ap (λ z. sent_after z acts) (one.sent ∙ append-nil h.sent);
}

-- the bytes of a frame come over a connection that had no turn
pub came_goes : {K : Type 0} (k : Ghosts K) (n d number : ℕ) (h : Hall K) (f : Frame)
    → IsDesk n d → IsFrame f
    → (h.desks d).talks number ≡ new_talk (home_at k (h.desks d)) (h.desks d).wire
    → HallGoes k n (TurnAt d (comes_at number f) []) h
    (with_station h d (with_frame k (h.desks d) number f) [])
came_goes k n d number h f mine is new =
    let x = h.desks d in
    let waits = talk_with (home_at k x) x.wire (f ∷ []) 0 [] in
    let way = speaking (Handles k) (Settles k) x.wire in
    let outside = outside_of (speaking (Handles k) (Settles k) x.wire) x.node x.handed in
    takes_turn_as k n d h (comes_at number f) x (with_frame k x number f) [] refl mine refl
    (record {
      turn =
          turn_of way (Came (spelling f)) (seen_of x.node) (seen_of x.node) outside outside
          (x.talks number) (talks_with x.talks number waits number)
          (new_talk (home_at k x) x.wire) waits new (talk_here x.talks number waits)
          (came_whole way (seen_of x.node) outside (home_at k x) x.wire f is);
      others = λ j other. talk_there x.talks number j waits other;
    }) refl tt

-- and the frame is begun then
pub begun_goes : {K : Type 0} (k : Ghosts K) (n d number : ℕ) (m : Hall K) (f : Frame)
    (x y : Station K) → m.desks d ≡ with_frame k x number f → IsDesk n d
    → FrameWasSent (home_at k x) m.sent (as_it_goes f)
    → close_of (home_at k x) (seen_of x.node) (as_it_goes f) ≡ None
    → IsServedTo k (request (home_at k x) f) x y
    → HallGoes k n (TurnAt d (begins_at number f) (acts_for k x (request (home_at k x) f))) m
    (with_station m d (past_frame k x y number f) (acts_for k x (request (home_at k x) f)))
begun_goes k n d number m f x y is mine was stays served =
    let waits = talk_with (home_at k x) x.wire (f ∷ []) 0 [] in
    let past = talk_with (home_at k x) x.wire [] 1 (answer_to (home_at k x) (seen_of x.node) f) in
    let way = speaking (Handles k) (Settles k) x.wire in
    let before = outside_of (speaking (Handles k) (Settles k) x.wire) x.node x.handed in
    let after = outside_of (speaking (Handles k) (Settles k) x.wire) y.node y.handed in
    takes_turn_as k n d m (begins_at number f) (with_frame k x number f) (past_frame k x y number f)
    (acts_for k x (request (home_at k x) f)) is mine served.wire
    (record {
      turn =
          turn_of way (Began (as_it_goes f)) (seen_of x.node) (seen_of y.node) before after
          (talks_with x.talks number waits number) (talks_with x.talks number past number) waits
          past (talk_here x.talks number waits) (talk_here x.talks number past)
          (begun_whole way (home_at k x) x.wire f (seen_of x.node) (seen_of y.node) before after
          stays
          (subst (λ z. Makes (home_at k x).hall before after z) (served_acts k x f) served.made)
          (served_seen k x y f served));
      others = λ j other. other_talks x.talks number j past waits other;
    }) (done_of way (as_it_goes f) (seen_of x.node) (seen_of y.node) before after
    (talks_with x.talks number waits number) (talks_with x.talks number past number) waits past
    (acts_for k x (request (home_at k x) f)) (talk_here x.talks number waits)
    (talk_here x.talks number past) (served_acts k x f)) was

pub frames_go_on : {K : Type 0} (k : Ghosts K) → CallsAreHappenings k → FramesGoOn k
frames_go_on {K} k law n d h ss f y is mine frame was stays served = (
  number,
  goes_on k n d h ss
      (record { event = TurnAt d (comes_at number f) []; after = m }
      ∷ record { event = TurnAt d (begins_at number f) acts; after = g } ∷ [])
      (comes_over d number f acts) acts y g is (
        came_goes k n d number (hall_after h ss) f mine frame (free.1 free.0 (omega arith)),
        (
          begun_goes k n d number m f x y (station_here (hall_after h ss) d one []) mine sent stays
              served,
          tt,
        ),
      ) refl refl (ap (λ (u : Station K). u.node) there) (ap (λ (u : Station K). u.handed) there)
      (ap (λ (u : Station K). u.wire) there)
      (only_both d acts (hall_after h ss) m g (only_here (hall_after h ss) d one [])
      (only_here m d two acts)),
)
  where
    x : Station K
    x = (hall_after h ss).desks d

    free : IsFree k x
    free = (stands_at_end k law n h ss is).free d mine

    number : ℕ
    number = free.0

    acts : List Act
    acts = acts_for k x (request (home_at k x) f)

    one : Station K
    one = with_frame k x number f

    two : Station K
    two = past_frame k x y number f

    m : Hall K
    m = with_station (hall_after h ss) d one []

    g : Hall K
    g = with_station m d two acts

    there : g.desks d ≡ two
    there = station_here m d two acts

    sent : FrameWasSent (home_at k x) m.sent (as_it_goes f)
    sent =
        subst (λ z. FrameWasSent (home_at k x) z (as_it_goes f))
        (sym (append-nil (hall_after h ss).sent)) was

-- ---- a message

-- a desk that is up keeps the connection of a message open
abbrev StaysUp : Request → Type 0
StaysUp r = (s : Seen) → s.is_down ≡ false → closes s r ≡ None

stays : (b : Bool) → b ≡ false
    → (let end : Option FrameEnd = if b then Some close.Down else None in end) ≡ None
stays b up =
    ap (λ (t : Bool). let end : Option FrameEnd = if t then Some close.Down else None in end) up

message_stays : (from to : ℕ) (b : Body) → StaysUp (ours from to (what_of b))
message_stays from to (Prepare b pos) s up = stays s.is_down up
message_stays from to _ s up = stays s.is_down up

pick_stays : (a b : Bool) (x y : Request) → a ≡ true → b ≡ true → StaysUp x
    → StaysUp (if a && b then x else y)
pick_stays a b x y p q h =
    subst StaysUp (sym (ap (λ t. if t && b then x else y) p ∙ ap (λ t. if t then x else y) q)) h

ours_stays : (home : Home) (f : Frame) → f.hall ≡ home.hall → f.to ≡ home.desk
    → StaysUp (ours f.from f.to f.what) → StaysUp (request home f)
ours_stays home f same so h =
    let hall : (f.hall == home.hall) ≡ true = grind (arith, nat_tests, same) in
    let to : (f.to == home.desk) ≡ true = grind (arith, nat_tests, so) in
    pick_stays _ _ _ _ hall to h

-- so the frame leaves its connection open
left_open : {K : Type 0} (k : Ghosts K) (x y : Station K) (f : Frame)
    → StaysUp (request (home_at k x) f) → IsServedTo k (request (home_at k x) f) x y
    → y.node.is_down ≡ false → close_of (home_at k x) (seen_of x.node) (as_it_goes f) ≡ None
unfolding close_of serve_frame
left_open k x y f open_after served up =
    open_after (serve_frame (home_at k x) (seen_of x.node) (as_it_goes f)).seen
    (ap (λ (s : Seen). s.is_down) (sym served.node) ∙ up)

-- what was sent to the desk of this number was sent to the desk of this home
pub brought : (home : Home) (d : ℕ) (sent : List Message) (f : Frame) (events : List DeskEvent)
    → home.desk ≡ d → delivers (request home f) ≡ events → WereSentTo d sent events
    → FrameWasSent home sent (as_it_goes f)
brought home d sent f events here given was =
    subst (λ z. WereSentTo home.desk sent z) (sym given) (rw here was)

-- what was sent to the desk comes in a frame
sent_goes_on : {K : Type 0} (k : Ghosts K) → CallsAreHappenings k → (n d : ℕ) (h : Hall K)
    (ss : List (HallStep K)) (f : Frame) (events : List DeskEvent) (y : Station K)
    → IsHallRun k n h ss → IsDesk n d → IsFrame f → let x = (hall_after h ss).desks d in
    f.hall ≡ (home_at k x).hall → f.to ≡ d → StaysUp (ours f.from f.to f.what)
    → (f.to ≡ (home_at k x).desk → delivers (request (home_at k x) f) ≡ events)
    → WereSentTo d (hall_after h ss).sent events
    → IsServedTo k (request (home_at k x) f) x y → y.node.is_down ≡ false → ComesOver k n d h ss f y
sent_goes_on k law n d h ss f events y is mine frame same to stays_up given was served up =
    let x = (hall_after h ss).desks d in
    let here = ((stands_at_end k law n h ss is).matches.nodes.here d mine).stands.desk in
    let so = to ∙ sym here in
    frames_go_on k law n d h ss f y is mine frame
    (brought (home_at k x) d (hall_after h ss).sent f events here (given so) was)
    (left_open k x y f (ours_stays (home_at k x) f same so stays_up) served up) served

pub messages_go_on : {K : Type 0} (k : Ghosts K) → CallsAreHappenings k → MessagesGoOn k
messages_go_on k law n d h ss version m y is mine frame to was served up =
    let home = home_at k ((hall_after h ss).desks d) in
    sent_goes_on k law n d h ss (framed version home.hall m) (Deliver m ∷ []) y is mine frame refl
    to (message_stays m.from m.to m.body) (λ so. message_given home version m so) was served up

pub runs_go_on : {K : Type 0} (k : Ghosts K) → CallsAreHappenings k → RunsGoOn k
runs_go_on k law n d h ss version run y is mine frame to was served up =
    let home = home_at k ((hall_after h ss).desks d) in
    sent_goes_on k law n d h ss (run_frame version home.hall run)
    (decided_each run.from run.to run.pos (entries_said version run.entries)) y is mine frame refl
    to (λ s still. stays s.is_down still) (λ so. run_given home version run so) was served up
