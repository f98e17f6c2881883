-- A desk that has more to decide is given a Start.
use Rattle.std.proofs.Common.{◌≡◌, inl, inr, refl, sym, ap, subst, ◌∙◌, ℕ, Bool, true, false}
use Rattle.std.proofs.Common.{nat_lt, if◌then◌else◌, List, [], ◌∷◌, ◌++◌, length, Result, Ok, Err}
use Rattle.acceptor.specs.declared.{entry.Entry.Entry, message.Message.Message}
use Rattle.answers.specs.Seen.{Seen}
use Rattle.learner.specs.{Steps.Done, Steps.step, declared.event.DeskEvent.DeskEvent}
use Rattle.learner.specs.declared.event.DeskEvent.TheVariants.{Submit, Start, Tick, Deliver}
use Rattle.proposer.specs.declared.fault.Refusal.{Refusal}
use Rattle.replica.specs.declared.roles.fault.NodeFault.{NodeFault, TheVariants.Down}
use Rattle.serving.specs.Making.{Call, calls_of}
use Rattle.serving.specs.Nodes.{Fate, Goes, by_fate, by_step, reply}
use Rattle.serving.specs.Serving.{Act, Called, Service, answer_out, begun, call, enter, entered_by}
use Rattle.serving.specs.Serving.{first_fate, grew, learn, learn_all, reply_to, served, push_all}
use Rattle.serving.specs.Serving.{start_if_grown, take, tell}
use Rattle.serving.specs.declared.request.Request.{Request, TheVariants.Ticked}
use Rattle.serving.specs.declared.request.Request.TheVariants.{Heard, Lagging, Learned, Entered}
use Rattle.store.specs.declared.home.Home.{Home}
use Rattle.hall_laws.specs.HallGoing.{HasCall, StartsCome}
use Rattle.hall_laws.{specs.HallRuns.IsTakenIn, proofs.OwnMessages.calls_both}
use Rattle.hall_laws.proofs.Events.{follows_push, no_growth, not_longer}

has_front : (e : DeskEvent) (cs ds : List Call) → HasCall e cs → HasCall e (cs ++ ds)
has_front e [] ds h = absurd h
has_front e (c ∷ cs) ds (inl is) = inl is
has_front e (c ∷ cs) ds (inr h) = inr (has_front e cs ds h)

has_later : (e : DeskEvent) (cs ds : List Call) → HasCall e ds → HasCall e (cs ++ ds)
has_later e [] ds h = h
has_later e (c ∷ cs) ds h = inr (has_later e cs ds h)

-- a Start, and all that comes of it
has_start : (home : Home) (s : Service)
    → HasCall Start (calls_of (push_all (call home Start s)).done)
unfolding call
has_start home s =
    let called : Service = call home Start s in
    let one : List Act = Called Start (reply_to home Start s).result ∷ [] in
    let more = follows_push called in
    subst (λ z. HasCall Start (calls_of z)) (sym more.done)
    (subst (λ z. HasCall Start z) (sym (calls_both called.done more.more))
    (has_front Start (calls_of called.done) (calls_of more.more)
    (subst (λ z. HasCall Start z) (sym (calls_both s.done one))
    (has_later Start (calls_of s.done) (calls_of one) (inl refl)))))

after_growth : (home : Home) (before : ℕ) (s : Service)
    → grew before (start_if_grown home before s).seen ≡ true
    → HasCall Start (calls_of (start_if_grown home before s).done)
unfolding start_if_grown
after_growth home before s = go (grew before s.seen) refl
  where
    next : Bool → Service
    next t = if t then push_all (call home Start s) else s

    go : (t : Bool) → grew before s.seen ≡ t → grew before (next t).seen ≡ true
        → HasCall Start (calls_of (next t).done)
    go true is grown = has_start home s
    go false is grown = absurd (let two : false ≡ true = sym is ∙ grown in cc)

-- ---- where the log has not grown

not_grown : (x s : Seen) → s.desk ≡ x.desk → grew (length x.desk.log) s ≡ true → ⊥
not_grown x s same grown =
    let least : nat_lt (length x.desk.log) (length s.desk.log) ≡ false =
    ap (λ d. nat_lt (length x.desk.log) (length d.log)) same ∙ not_longer (length x.desk.log) in
    let two : true ≡ false = sym grown ∙ no_growth (length x.desk.log) s least in cc

by_step_refused : (home : Home) (event : DeskEvent) (x : Seen) (r : Result Done Refusal)
    (why : NodeFault)
    → (by_step home event x r).result ≡ Err why → (by_step home event x r).seen.desk ≡ x.desk
by_step_refused home event x (Ok d) why is = absurd cc
by_step_refused home event x (Err fault) why is = refl

by_fate_refused : (home : Home) (x : Seen) (event : DeskEvent) (fate : Fate) (why : NodeFault)
    → (by_fate home x event fate).result ≡ Err why → (by_fate home x event fate).seen.desk ≡ x.desk
by_fate_refused home x event Goes why is =
    by_step_refused home event x (step home.desks home.desk x.desk event) why is
by_fate_refused home x event _ why is = refl

-- a call that is refused leaves the desk as it was
refused_same : (home : Home) (x : Seen) (event : DeskEvent) (fate : Fate) (why : NodeFault)
    → (reply home x event fate).result ≡ Err why → (reply home x event fate).seen.desk ≡ x.desk
refused_same home x event fate why = go x.is_down
  where
    go : (b : Bool) → (if b then record { result = Err Down; seen = x }
        else by_fate home x event fate).result ≡ Err why
        → (if b then record { result = Err Down; seen = x }
        else by_fate home x event fate).seen.desk ≡ x.desk
    go true is = refl
    go false is = by_fate_refused home x event fate why is

-- ---- an entry

entry_grown : (home : Home) (x : Seen) (e : Entry) (s : Service)
    (r : Result (List Message) NodeFault) → ((why : NodeFault) → r ≡ Err why → s.seen.desk ≡ x.desk)
    → grew (length x.desk.log) (entered_by home r s).seen ≡ true
    → HasCall Start (calls_of (entered_by home r s).done)
entry_grown home x e s (Ok ms) same grown = has_start home s
entry_grown home x e s (Err why) same grown = absurd (not_grown x s.seen (same why refl) grown)

-- a call that was refused adds nothing
none_taken : (e : Entry) (why : NodeFault)
    → IsTakenIn e (calls_of (Called (Submit e) (Err why) ∷ [])) → ⊥
none_taken e why (inl is) = let two = is.1 in cc
none_taken e why (inr none) = none

entry_taken : (home : Home) (e : Entry) (s : Service) (r : Result (List Message) NodeFault)
    → s.done ≡ Called (Submit e) r ∷ [] → IsTakenIn e (calls_of (entered_by home r s).done)
    → HasCall Start (calls_of (entered_by home r s).done)
entry_taken home e s (Ok ms) is taken = has_start home s
entry_taken home e s (Err why) is taken =
    absurd (none_taken e why (subst (λ z. IsTakenIn e (calls_of z)) is taken))

-- ---- any request

grown : (home : Home) (x : Seen) (fates : List Fate) (r : Request)
    → grew (length x.desk.log) (served home x fates r).seen ≡ true
    → HasCall Start (calls_of (served home x fates r).done)
unfolding take tell learn_all enter call
grown home x fates (Heard m) is =
    after_growth home (length x.desk.log) (push_all (call home (Deliver m) (begun x fates))) is
grown home x fates (Lagging m) is =
    after_growth home (length x.desk.log) (answer_out home (call home (Deliver m) (begun x fates)))
    is
grown home x fates (Learned run) is =
    after_growth home (length x.desk.log)
    (push_all (learn home run.from run.to run.pos run.entries (begun x fates))) is
grown home x fates (Entered e) is =
    entry_grown home x e (call home (Submit e) (begun x fates))
    (reply_to home (Submit e) (begun x fates)).result
    (λ why refused. refused_same home x (Submit e) (first_fate fates) why refused) is
grown home x fates Ticked is =
    after_growth home (length x.desk.log) (push_all (call home Tick (begun x fates))) is
grown home x fates _ is = absurd (not_grown x x refl is)

entered : (home : Home) (x : Seen) (fates : List Fate) (e : Entry)
    → IsTakenIn e (calls_of (served home x fates (Entered e)).done)
    → HasCall Start (calls_of (served home x fates (Entered e)).done)
unfolding enter call
entered home x fates e is =
    entry_taken home e (call home (Submit e) (begun x fates))
    (reply_to home (Submit e) (begun x fates)).result refl is

pub starts_come : StartsCome
starts_come = record { grown = grown; entered = entered }
