-- What a desk is given while it serves is what the frames bring, and a pushed message arrives as it
-- is.
use Rattle.std.proofs.Common.{◌≡◌, refl, ℕ, Bool, true, false, ◌&&◌, ◌==◌, if◌then◌else◌, List, []}
use Rattle.std.proofs.Common.{◌∷◌, ◌++◌, arith, sym, ap, subst, ◌∙◌, zero, suc, None, Some}
use Rattle.std.proofs.lemmas.{Bool.Decides.nat_tests, List.append-nil, List.append_assoc}
use Rattle.acceptor.specs.declared.message.{Body.Body, Body.TheVariants.Prepare, Message.Message}
use Rattle.acceptor.specs.Messages.{message}
use Rattle.learner.specs.declared.event.DeskEvent.{DeskEvent, TheVariants.Deliver}
use Rattle.store.specs.declared.{home.Home.Home, keeper.Keeper.Ghosts}
use Rattle.wire.specs.{Laws.AreBytes, Laws.IsReadWhereSpelled, Ranges.IsFrame, Spelling.spelling}
use Rattle.wire.specs.declared.{frame.Frame.Frame, values.Version.Version}
use Rattle.hall_laws.specs.Arriving.{delivers, decided_each, Arrives, MessagesArrive, RunsArrive}
use Rattle.serving.specs.{Asking.ours, Asking.request, Serving.call, Making.Call, Making.calls_of}
use Rattle.serving.specs.Serving.{framed, what_of, Act, Called, Pushed, Answered, Service, reply_to}
use Rattle.serving.specs.{Serving.begun, declared.request.DecidedRun.DecidedRun, Nodes.Fate}
use Rattle.serving.specs.{Serving.served, Telling.run_frame, Telling.entries_said}
use Rattle.serving.specs.declared.request.Request.{Request, TheVariants.Ticked}
use Rattle.std.specs.Prelude.{slice_get}
use Rattle.learner.specs.Worlds.{nth_sent}
use Rattle.answers.specs.Seen.{Seen}
use Rattle.serving.specs.Connection.{asked, Begun, serve_frame, serve_frames}
use Rattle.serving.specs.declared.request.Request.TheVariants.{Heard, Lagging, Learned, Entered}
use Rattle.hall_laws.specs.OwnMessages.{WereSentTo, OwnMessagesWereSent, sent_after, FramesWereSent}
use Rattle.hall_laws.specs.OwnMessages.{FrontsWereSent, RequestsHappen, FramesHappen}
use Rattle.hall_laws.specs.Served.{handed_out, all_handed_out, IsSentTo, AreSentTo, CallsAreARun}
use Rattle.hall_laws.{specs.Pushing.asks_for, proofs.Keeping.AllMay, proofs.Keeping.served_keeps}

-- a frame is read where its spelling is
abbrev pub ReadWhereSpelled : Type 0
ReadWhereSpelled =
    (bytes : List ℕ) (f : Frame) (rest : List ℕ) → AreBytes bytes → IsReadWhereSpelled bytes f rest

by_body : (from to : ℕ) (b : Body)
    → delivers (ours from to (what_of b)) ≡ Deliver (message from to b) ∷ []
by_body from to (Prepare b pos) = refl
by_body from to _ = refl

pick : (a b : Bool) (x y : Request) (e : List DeskEvent) → a ≡ true → b ≡ true → delivers x ≡ e
    → delivers (if a && b then x else y) ≡ e
pick true true x y e p q h = h
pick true false x y e p q h = absurd cc
pick false b x y e p q h = absurd cc

pub message_given : (home : Home) (version : Version) (m : Message) → m.to ≡ home.desk
    → delivers (request home (framed version home.hall m)) ≡ Deliver m ∷ []
message_given home version m same =
    let hall : (home.hall == home.hall) ≡ true = grind (arith, nat_tests) in
    let to : (m.to == home.desk) ≡ true = grind (arith, nat_tests, same) in
    pick _ _ _ _ _ hall to (by_body m.from m.to m.body)

pub run_given : (home : Home) (version : Version) (run : DecidedRun) → run.to ≡ home.desk
    → delivers (request home (run_frame version home.hall run))
    ≡ decided_each run.from run.to run.pos (entries_said version run.entries)
run_given home version run same =
    let hall : (home.hall == home.hall) ≡ true = grind (arith, nat_tests) in
    let to : (run.to == home.desk) ≡ true = grind (arith, nat_tests, same) in
    pick _ _ _ _ _ hall to refl

arrives_so : ReadWhereSpelled → (home : Home) (f : Frame) (more : List ℕ) (events : List DeskEvent)
    → IsFrame f → AreBytes (spelling f ++ more) → delivers (request home f) ≡ events
    → Arrives home (spelling f) more events
arrives_so read home f more events is bytes given = record {
  frame = f;
  read = (read (spelling f ++ more) f more bytes).1 (is, refl);
  given = given;
}

pub messages_arrive : ReadWhereSpelled → MessagesArrive
messages_arrive read home version m more same is bytes =
    arrives_so read home (framed version home.hall m) more _ is bytes
    (message_given home version m same)

pub runs_arrive : ReadWhereSpelled → RunsArrive
runs_arrive read home version run more same is bytes =
    arrives_so read home (run_frame version home.hall run) more _ is bytes
    (run_given home version run same)

-- ---- What a desk is given while it serves is what the frames bring.

-- ---- messages that were sent

got_more : (xs ys : List Message) (k : ℕ) (m : Message) → slice_get xs k ≡ Some m
    → slice_get (xs ++ ys) k ≡ Some m
got_more [] ys k m h = absurd (let none : None ≡ Some m = h in cc)
got_more (x ∷ xs) ys zero m h = h
got_more (x ∷ xs) ys (suc k) m h = got_more xs ys k m h

-- a message keeps its number where more are sent
nth_more : (sent more : List Message) (k : ℕ) (m : Message) → nth_sent sent k ≡ Some m
    → nth_sent (sent ++ more) k ≡ Some m
nth_more sent more zero m h = absurd (let none : None ≡ Some m = h in cc)
nth_more sent more (suc k) m h = got_more sent more k m h

pub event_more : (d : ℕ) (sent more : List Message) (event : DeskEvent) → IsSentTo d sent event
    → IsSentTo d (sent ++ more) event
event_more d sent more (Deliver m) h = (h.0, nth_more sent more h.0 m h.1, h.2)
event_more d sent more _ h = tt

-- ---- calls, one after the other

pub handed_both : (cs ds : List Call)
    → all_handed_out (cs ++ ds) ≡ all_handed_out cs ++ all_handed_out ds
handed_both [] ds = refl
handed_both (c ∷ cs) ds =
    ap (λ z. handed_out c.answer ++ z) (handed_both cs ds)
    ∙ sym (append_assoc (handed_out c.answer) (all_handed_out cs) (all_handed_out ds))

sent_both : (d : ℕ) (sent : List Message) (cs ds : List Call) → AreSentTo d sent cs
    → AreSentTo d (sent ++ all_handed_out cs) ds → AreSentTo d sent (cs ++ ds)
sent_both d sent [] ds h k = subst (λ z. AreSentTo d z ds) (append-nil sent) k
sent_both d sent (c ∷ cs) ds h k = (
  h.0,
  sent_both d (sent ++ handed_out c.answer) cs ds h.1
      (subst (λ z. AreSentTo d z ds)
      (sym (append_assoc sent (handed_out c.answer) (all_handed_out cs))) k),
)

sent_front : (d : ℕ) (sent : List Message) (cs ds : List Call) → AreSentTo d sent (cs ++ ds)
    → AreSentTo d sent cs
sent_front d sent [] ds h = tt
sent_front d sent (c ∷ cs) ds h = (h.0, sent_front d (sent ++ handed_out c.answer) cs ds h.1)

pub sent_later : (d : ℕ) (sent : List Message) (cs ds : List Call) → AreSentTo d sent (cs ++ ds)
    → AreSentTo d (sent ++ all_handed_out cs) ds
sent_later d sent [] ds h = subst (λ z. AreSentTo d z ds) (sym (append-nil sent)) h
sent_later d sent (c ∷ cs) ds h =
    subst (λ z. AreSentTo d z ds) (append_assoc sent (handed_out c.answer) (all_handed_out cs))
    (sent_later d (sent ++ handed_out c.answer) cs ds h.1)

pub calls_both : (xs ys : List Act) → calls_of (xs ++ ys) ≡ calls_of xs ++ calls_of ys
calls_both [] ys = refl
calls_both (Called e r ∷ xs) ys = ap (λ z. calls_of (Called e r ∷ []) ++ z) (calls_both xs ys)
calls_both (Pushed m ∷ xs) ys = calls_both xs ys
calls_both (Answered run ∷ xs) ys = calls_both xs ys

-- acts that are no calls change nothing here
pub no_calls : (xs ys : List Act) → calls_of ys ≡ [] → calls_of (xs ++ ys) ≡ calls_of xs
no_calls xs ys none = calls_both xs ys ∙ ap (λ z. calls_of xs ++ z) none ∙ append-nil (calls_of xs)

-- ---- one request

-- each message that was delivered was sent before
abbrev Keeps : ℕ → List Message → Service → Type 0
Keeps d sent s = AreSentTo d sent (calls_of s.done)

keeps_acts : (d : ℕ) (sent : List Message) (done acts : List Act)
    → AreSentTo d sent (calls_of done) → calls_of acts ≡ []
    → AreSentTo d sent (calls_of (done ++ acts))
keeps_acts d sent done acts h none =
    subst (λ z. AreSentTo d sent z) (sym (no_calls done acts none)) h

keeps_call : (home : Home) (sent : List Message) (event : DeskEvent) (s : Service)
    → Keeps home.desk sent s → IsSentTo home.desk sent event
    → Keeps home.desk sent (call home event s)
unfolding call
keeps_call home sent event s h is =
    let r = (reply_to home event s).result in
    subst (λ z. AreSentTo home.desk sent z) (sym (calls_both s.done (Called event r ∷ [])))
    (sent_both home.desk sent (calls_of s.done) (calls_of (Called event r ∷ [])) h
    (event_more home.desk sent (all_handed_out (calls_of s.done)) event is, tt))

all_sent : (d : ℕ) (sent : List Message) (events : List DeskEvent) → WereSentTo d sent events
    → AllMay (IsSentTo d sent) events
all_sent d sent [] is = tt
all_sent d sent (e ∷ es) is = (is.0, all_sent d sent es is.1)

-- what a request brings, and what it asks for besides
asked_sent : (d : ℕ) (sent : List Message) (r : Request) → WereSentTo d sent (delivers r)
    → AllMay (IsSentTo d sent) (asks_for r)
asked_sent d sent (Entered e) is = (tt, tt)
asked_sent d sent Ticked is = (tt, tt)
asked_sent d sent (Heard m) is = is
asked_sent d sent (Lagging m) is = is
asked_sent d sent (Learned run) is =
    all_sent d sent (decided_each run.from run.to run.pos run.entries) is
asked_sent d sent _ is = tt

keeps_served : (home : Home) (x : Seen) (fates : List Fate) (r : Request) (sent : List Message)
    → WereSentTo home.desk sent (delivers r) → Keeps home.desk sent (served home x fates r)
keeps_served home x fates r sent is =
    served_keeps home (IsSentTo home.desk sent) (λ s. Keeps home.desk sent s) (record {
      calls = λ event s may h. keeps_call home sent event s h may;
      adds = λ acts s none h. keeps_acts home.desk sent s.done acts h none;
      drops = λ s h. h;
      starts = tt;
    }) x fates r (asked_sent home.desk sent r is) tt

pub own_messages : OwnMessagesWereSent
own_messages home x fates r sent is = keeps_served home x fates r sent is

-- ---- frames, one after the other

pub one_frame : (home : Home) (x : Seen) (sent : List Message) (b : Begun)
    → WereSentTo home.desk sent (delivers (asked home b))
    → AreSentTo home.desk sent (calls_of (serve_frame home x b).acts)
unfolding serve_frame
one_frame home x sent b is = own_messages home x b.fates (asked home b) sent is

pub frames_sent : FramesWereSent
frames_sent home x sent [] is = tt
frames_sent home x sent (b ∷ bs) is =
    let first = serve_frame home x b in
    let others = serve_frames home first.seen bs in
    subst (λ z. AreSentTo home.desk sent z) (sym (calls_both first.acts others.acts))
    (sent_both home.desk sent (calls_of first.acts) (calls_of others.acts)
    (one_frame home x sent b is.0)
    (frames_sent home first.seen (sent_after sent first.acts) bs is.1))

pub front_sent : (d : ℕ) (sent : List Message) (all acts rest : List Act) → all ≡ acts ++ rest
    → AreSentTo d sent (calls_of all) → AreSentTo d sent (calls_of acts)
front_sent d sent all acts rest parts h =
    sent_front d sent (calls_of acts) (calls_of rest)
    (subst (λ z. AreSentTo d sent z) (ap (λ z. calls_of z) parts ∙ calls_both acts rest) h)

pub fronts_sent : FrontsWereSent
fronts_sent home x sent begun acts rest is parts =
    front_sent home.desk sent (serve_frames home x begun).acts acts rest parts
    (frames_sent home x sent begun is)

-- ---- in the world

pub requests_happen : {K : Type 0} (k : Ghosts K) → CallsAreARun k → OwnMessagesWereSent
    → RequestsHappen k
requests_happen k law own n d w seen fates r acts rest x y h is parts lead =
    let home = k.home_of x.keeper in
    law n d w (calls_of acts) x y h (subst (λ z. AreSentTo z w.sent (calls_of acts)) h.desk
    (front_sent home.desk w.sent (served home seen fates r).done acts rest parts
    (own home seen fates r w.sent
    (subst (λ z. WereSentTo z w.sent (delivers r)) (sym h.desk) is)))) lead

pub frames_happen : {K : Type 0} (k : Ghosts K) → CallsAreARun k → FrontsWereSent → FramesHappen k
frames_happen k law fronts n d w seen begun acts rest x y h is parts lead =
    law n d w (calls_of acts) x y h (subst (λ z. AreSentTo z w.sent (calls_of acts)) h.desk
    (fronts (k.home_of x.keeper) seen w.sent begun acts rest is parts)) lead
