-- What a desk is given while it serves was sent. The premise is of what the frames bring: those of
-- other desks over the network, and those that a desk has pushed to itself, over a connection of
-- its own.
use Rattle.std.specs.Prelude.{◌≡◌, ℕ, List, [], ◌∷◌, ◌++◌}
use Rattle.acceptor.specs.declared.message.Message.{Message}
use Rattle.learner.specs.{declared.event.DeskEvent.DeskEvent, Worlds.World}
use Rattle.replica.specs.{Handles.Handles, Nodes.NodeValue}
use Rattle.store.specs.declared.{home.Home.Home, keeper.Keeper.Ghosts}
use Rattle.answers.specs.Seen.{Seen}
use Rattle.serving.specs.Connection.{asked, Begun, serve_frame, serve_frames}
use Rattle.serving.specs.Making.{Lead, calls_of}
use Rattle.serving.specs.{Nodes.Fate, Serving.Act, Serving.served, declared.request.Request.Request}
use Rattle.hall_laws.specs.{Arriving.delivers, Stops.Happening, Stops.real_run, Stops.with_desk}
use Rattle.hall_laws.specs.Served.{all_handed_out, IsSentTo, AreSentTo, StandsFor}

-- each of these messages is among those sent, and is for desk d
abbrev pub WereSentTo : ℕ → List Message → List DeskEvent → Type 0
WereSentTo d sent [] = Unit {0}
WereSentTo d sent (e ∷ es) = IsSentTo d sent e × WereSentTo d sent es

-- If the messages that one request brings were sent to this desk, then so was each message that is
-- delivered in the calls of serving it: no other message is. This holds whatever is seen of the
-- desk, and whatever its calls come to.
abbrev pub OwnMessagesWereSent : Type 0
OwnMessagesWereSent =
    (home : Home) (x : Seen) (fates : List Fate) (r : Request) (sent : List Message)
    → WereSentTo home.desk sent (delivers r)
    → AreSentTo home.desk sent (calls_of (served home x fates r).done)

-- what was sent once these are done: these messages, and what the calls among the acts hand out
abbrev pub sent_after : List Message → List Act → List Message
sent_after sent acts = sent ++ all_handed_out (calls_of acts)

-- what each frame brings was sent to this desk before the frame: at first, or by this desk while it
-- served the frames before it
abbrev pub BringWhatWasSent : Home → Seen → List Message → List Begun → Type 0
BringWhatWasSent home x sent [] = Unit {0}
BringWhatWasSent home x sent (b ∷ bs) =
    WereSentTo home.desk sent (delivers (asked home b))
    × BringWhatWasSent home (serve_frame home x b).seen
    (sent_after sent (serve_frame home x b).acts) bs

-- frames, one after the other
abbrev pub FramesWereSent : Type 0
FramesWereSent =
    (home : Home) (x : Seen) (sent : List Message) (begun : List Begun)
    → BringWhatWasSent home x sent begun
    → AreSentTo home.desk sent (calls_of (serve_frames home x begun).acts)

-- Where a frame fails, a front part of what the frames come to is done: it holds of that too.
abbrev pub FrontsWereSent : Type 0
FrontsWereSent =
    (home : Home) (x : Seen) (sent : List Message) (begun : List Begun) (acts rest : List Act)
    → BringWhatWasSent home x sent begun → (serve_frames home x begun).acts ≡ acts ++ rest
    → AreSentTo home.desk sent (calls_of acts)

-- what these acts do happens in the world: there are happenings after which desk d knows what the
-- node knows, what its calls hand out was sent, and nothing else has changed
abbrev pub Happen : {K : Type 0} → ℕ → ℕ → World → List Act → NodeValue K → Type 0
Happen n d w acts y =
    (hs : List Happening)
    × (with_desk w d y.desk (all_handed_out (calls_of acts)) ≡ real_run n w hs)

-- What serving one request does happens in the world, where what the request brings was sent. In
-- this form other desks may send between one frame and the next.
abbrev pub RequestsHappen : {K : Type 0} → Ghosts K → Type 0
RequestsHappen {K} k =
    (n d : ℕ) (w : World) (seen : Seen) (fates : List Fate) (r : Request) (acts rest : List Act)
    (x y : NodeValue K) → StandsFor k n d w x → WereSentTo d w.sent (delivers r)
    → (served (k.home_of x.keeper) seen fates r).done ≡ acts ++ rest
    → Lead (Handles k) x (calls_of acts) y → Happen n d w acts y

-- And so does what is done for frames one after the other: all of it or a front part.
abbrev pub FramesHappen : {K : Type 0} → Ghosts K → Type 0
FramesHappen {K} k =
    (n d : ℕ) (w : World) (seen : Seen) (begun : List Begun) (acts rest : List Act)
    (x y : NodeValue K)
    → StandsFor k n d w x → BringWhatWasSent (k.home_of x.keeper) seen w.sent begun
    → (serve_frames (k.home_of x.keeper) seen begun).acts ≡ acts ++ rest
    → Lead (Handles k) x (calls_of acts) y → Happen n d w acts y
