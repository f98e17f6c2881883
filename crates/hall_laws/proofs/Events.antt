-- What is done is only added to; the events that are given first, and requests for which nothing
-- is done.
use Rattle.std.proofs.Common.{◌≡◌, refl, sym, ap, ◌∙◌, ℕ, Bool, true, false, if◌then◌else◌, List}
use Rattle.std.proofs.Common.{[], ◌∷◌, ◌++◌, length, map, Result, Err, subst, ◌+◌, ◌&&◌, not}
use Rattle.std.proofs.Common.{nat_lt, take, length-append, arith}
use Rattle.std.proofs.lemmas.List.{append-nil, append_assoc, map-append, take_at, take_all}
use Rattle.acceptor.specs.declared.{entry.Entry.Entry, message.Message.Message}
use Rattle.learner.specs.declared.event.DeskEvent.{DeskEvent, TheVariants.Start}
use Rattle.replica.specs.declared.roles.fault.NodeFault.{NodeFault}
use Rattle.serving.specs.Serving.{Act, Called, Pushed, Service, first_fate, reply_to, call}
use Rattle.serving.specs.Serving.{push_all, grew, start_if_grown, learn, learn_all, waits, decided}
use Rattle.serving.specs.Serving.{begun, served}
use Rattle.serving.specs.{declared.request.DecidedRun.DecidedRun, Making.calls_of, Nodes.Fate}
use Rattle.store.specs.declared.home.Home.{Home}
use Rattle.hall_laws.proofs.{Acts.Fits, Acts.reply_fits, Keeping.given_to, Keeping.later_keeps}
use Rattle.hall_laws.proofs.{Requests.call_none_at_down, OwnMessages.calls_both}
use Rattle.std.proofs.lemmas.Bool.Decides.{nat_tests}
use Rattle.answers.specs.Seen.{Seen}
use Rattle.serving.specs.declared.request.Request.{Request, TheVariants.Learned}
use Rattle.hall_laws.specs.{Arriving.decided_each, Pushing.asks_for, Pushing.AreGiven}
use Rattle.replica.specs.declared.roles.fault.NodeFault.TheVariants as fault

-- the one comes after the other
pub record Follows (a b : Service) : Type 0 where
  pub more : List Act
  pub done : b.done ≡ a.done ++ more
  pub down : a.seen.is_down ≡ true → b.seen.is_down ≡ true

follows_itself : (a : Service) → Follows a a
follows_itself a = record { more = []; done = sym (append-nil a.done); down = λ h. h }

follows_both : (a b c : Service) → Follows a b → Follows b c → Follows a c
follows_both a b c h k = record {
  more = h.more ++ k.more;
  done = k.done ∙ ap (λ z. z ++ k.more) h.done ∙ append_assoc a.done h.more k.more;
  down = λ x. k.down (h.down x);
}

stays_down : (before after : Bool) (r : Result (List Message) NodeFault) → Fits before r after
    → before ≡ true → after ≡ true
stays_down before after (Err fault.Down) fits is = fits
stays_down before after _ fits is = let up = fits.0 in absurd cc

follows_call : (home : Home) (event : DeskEvent) (s : Service) → Follows s (call home event s)
unfolding call
follows_call home event s = record {
  more = Called event (reply_to home event s).result ∷ [];
  done = refl;
  down =
      stays_down s.seen.is_down (reply_to home event s).seen.is_down (reply_to home event s).result
      (reply_fits home s.seen event (first_fate s.fates));
}

pub follows_push : (s : Service) → Follows s (push_all s)
unfolding push_all
follows_push s = record { more = map (λ m. Pushed m) s.waiting; done = refl; down = λ h. h }

-- what is served of a request, after the events that it asks for
pub follows_given : (home : Home) (x : Seen) (fates : List Fate) (r : Request)
    → Follows (given_to home x fates r) (served home x fates r)
follows_given home x fates r =
    let first = given_to home x fates r in
    later_keeps home (λ e. Unit {0}) (λ s. Follows first s) (record {
      calls = λ event s may h.
          follows_both first s (call home event s) h (follows_call home event s);
      adds = λ acts s none h.
          record {
            more = h.more ++ acts;
            done = ap (λ z. z ++ acts) h.done ∙ append_assoc first.done h.more acts;
            down = h.down;
          };
      drops = λ s h. record { more = h.more; done = h.done; down = h.down };
      starts = tt;
    }) x fates r (follows_itself first)

-- ---- The events that are given first, and requests for which nothing is done.

-- these are all the calls, and nothing else was done
pub record Gives (events : List DeskEvent) (acts : List Act) : Type 0 where
  pub events_are : map (λ c. c.event) (calls_of acts) ≡ events
  pub each : length acts ≡ length events

all_given : (events : List DeskEvent) (a b : Service) → Follows a b → Gives events a.done
    → map (λ c. c.event) (calls_of (take (length events) b.done)) ≡ events
all_given events a b h g = cc (take_at a.done h.more (length events) g.each)

pub one_given : (home : Home) (event : DeskEvent) (x : Seen) (fates : List Fate)
    → Gives (event ∷ []) (call home event (begun x fates)).done
unfolding call
one_given home event x fates = record { events_are = refl; each = refl }

pub given : (r : Request) (a b : Service) → Follows a b → Gives (asks_for r) a.done
    → AreGiven r b.done b.seen.is_down
given r a b h g = record {
  dropped = [];
  first =
      append-nil (map (λ c. c.event) (calls_of (take (length (asks_for r)) b.done)))
      ∙ all_given (asks_for r) a b h g;
  while_up = λ up. refl;
}

-- one more
gives_one : (home : Home) (event : DeskEvent) (events : List DeskEvent) (s : Service)
    → Gives events s.done → Gives (events ++ event ∷ []) (call home event s).done
unfolding call
gives_one home event events s g =
    let act : List Act = Called event (reply_to home event s).result ∷ [] in
    record {
      events_are =
          cc (calls_both s.done act, map-append (λ c. c.event) (calls_of s.done) (calls_of act));
      each =
          let now = length-append s.done act in
          let wanted = length-append events (event ∷ []) in
          let past = g.each in omega arith;
    }

-- Only a front part of the events may have been given, where the desk has gone down; then nothing
-- waits.
pub record Begins (events : List DeskEvent) (s : Service) : Type 0 where
  pub rest : List DeskEvent
  pub events_are : map (λ c. c.event) (calls_of s.done) ++ rest ≡ events
  pub each : length s.done + length rest ≡ length events
  pub all : s.seen.is_down ≡ false → rest ≡ []
  pub none : s.seen.is_down ≡ true → s.waiting ≡ []

stops_here : (events rest : List DeskEvent) (s : Service) → Gives events s.done
    → s.seen.is_down ≡ true → s.waiting ≡ [] → Begins (events ++ rest) s
stops_here events rest s g down none = record {
  rest = rest;
  events_are = ap (λ z. z ++ rest) g.events_are;
  each =
      let all = length-append events rest in
      let past = g.each in omega arith;
  all = λ up. absurd cc;
  none = λ is. none;
}

begins_learnt : (home : Home) (from to pos : ℕ) (es : List Entry) (events : List DeskEvent)
    (s : Service) → Gives events s.done → (s.seen.is_down ≡ true → s.waiting ≡ [])
    → Begins (events ++ decided_each from to pos es) (learn home from to pos es s)
unfolding learn
begins_learnt home from to pos [] events s g none = record {
  rest = [];
  events_are = ap (λ z. z ++ []) g.events_are;
  each =
      let all = length-append events (decided_each from to pos []) in
      let past = g.each in omega arith;
  all = λ up. refl;
  none = none;
}
begins_learnt home from to pos (e ∷ es) events s g none =
    go (call home (decided from to pos e) (waits [] s)).seen.is_down refl (λ h.
    begins_learnt home from to (pos + 1) es (events ++ decided from to pos e ∷ [])
    (call home (decided from to pos e) (waits [] s))
    (gives_one home (decided from to pos e) events (waits [] s)
    (record { events_are = g.events_are; each = g.each })) h)
  where
    go : (t : Bool) → (call home (decided from to pos e) (waits [] s)).seen.is_down ≡ t
        → (((call home (decided from to pos e) (waits [] s)).seen.is_down ≡ true
        → (call home (decided from to pos e) (waits [] s)).waiting ≡ [])
        → Begins ((events ++ decided from to pos e ∷ []) ++ decided_each from to (pos + 1) es)
        (learn home from to (pos + 1) es (call home (decided from to pos e) (waits [] s))))
        → Begins (events ++ decided_each from to pos (e ∷ es))
        (if t then call home (decided from to pos e) (waits [] s)
        else learn home from to (pos + 1) es (call home (decided from to pos e) (waits [] s)))
    go true is ih =
        subst (λ z. Begins z (call home (decided from to pos e) (waits [] s)))
        (append_assoc events (decided from to pos e ∷ []) (decided_each from to (pos + 1) es))
        (stops_here (events ++ decided from to pos e ∷ []) (decided_each from to (pos + 1) es)
        (call home (decided from to pos e) (waits [] s))
        (gives_one home (decided from to pos e) events (waits [] s)
        (record { events_are = g.events_are; each = g.each })) is
        (call_none_at_down home (decided from to pos e) (waits [] s) refl is))
    go false is ih =
        subst (λ z. Begins z (learn home from to (pos + 1) es
        (call home (decided from to pos e) (waits [] s))))
        (append_assoc events (decided from to pos e ∷ []) (decided_each from to (pos + 1) es))
        (ih (λ down. absurd cc))

-- ---- nothing is done

pushes_nothing : (s : Service) → s.waiting ≡ []
    → ((push_all s).done ≡ s.done) × ((push_all s).seen ≡ s.seen)
unfolding push_all
pushes_nothing s none = (ap (λ z. s.done ++ map (λ m. Pushed m) z) none ∙ append-nil s.done, refl)

starts_not : (home : Home) (before : ℕ) (s : Service) → grew before s.seen ≡ false
    → start_if_grown home before s ≡ s
unfolding start_if_grown
starts_not home before s = go (grew before s.seen)
  where
    go : (t : Bool) → t ≡ false → (if t then push_all (call home Start s) else s) ≡ s
    go true h = absurd cc
    go false h = refl

pub not_longer : (n : ℕ) → nat_lt n n ≡ false
not_longer n = grind (arith, nat_tests)

pub no_growth : (before : ℕ) (x : Seen) → nat_lt before (length x.desk.log) ≡ false
    → grew before x ≡ false
no_growth before x h =
    go (not x.is_down) (nat_lt before (length x.desk.log)) (nat_lt 0 (length x.desk.queue)) h
  where
    go : (a b c : Bool) → b ≡ false → (a && b && c) ≡ false
    go true true c h = absurd cc
    go true false c h = refl
    go false true c h = absurd cc
    go false false c h = refl

down_not_grown : (before : ℕ) (x : Seen) → x.is_down ≡ true → grew before x ≡ false
down_not_grown before x down =
    ap (λ z. not z && nat_lt before (length x.desk.log) && nat_lt 0 (length x.desk.queue)) down

pub learns_nothing : (home : Home) (run : DecidedRun) (x : Seen) (fates : List Fate)
    → run.entries ≡ [] → (learn_all home run (begun x fates)).done ≡ []
unfolding learn_all learn
learns_nothing home run x fates none =
    let s : Service = begun x fates in
    let quiet = pushes_nothing s refl in
    cc (starts_not home (length x.desk.log) (push_all s)
    (ap (λ z. grew (length x.desk.log) z) quiet.1 ∙ no_growth (length x.desk.log) x
    (not_longer (length x.desk.log))))

-- ---- a frame of several entries

-- after a desk that is down and has nothing waiting, nothing is done
nothing_after : (home : Home) (before : ℕ) (s : Service) → s.seen.is_down ≡ true
    → s.waiting ≡ [] → (start_if_grown home before (push_all s)).done ≡ s.done
nothing_after home before s down none =
    let quiet = pushes_nothing s none in
    ap (λ z. z.done) (starts_not home before (push_all s)
    (ap (λ z. grew before z) quiet.1 ∙ down_not_grown before s.seen down)) ∙ quiet.0

learnt_given : (home : Home) (run : DecidedRun) (a b : Service) → Follows a b
    → Begins (asks_for (Learned run)) a → (a.seen.is_down ≡ true → b.done ≡ a.done)
    → AreGiven (Learned run) b.done b.seen.is_down
learnt_given home run a b h g same = go a.seen.is_down refl
  where
    go : (t : Bool) → a.seen.is_down ≡ t → AreGiven (Learned run) b.done b.seen.is_down
    go true down = record {
      dropped = g.rest;
      first =
          cc (
            same down,
            take_all (length (asks_for (Learned run))) a.done
                (let all = g.each in omega arith),
          );
      while_up = λ up. let still = h.down down in absurd cc;
    }
    go false up =
        let none : g.rest ≡ [] = g.all up in
        given (Learned run) a b h
        (record {
          events_are = cc (append-nil (map (λ c. c.event) (calls_of a.done)));
          each =
              let all = g.each in
              let short = ap (λ z. length z) none in omega arith;
        })

pub all_learnt : (home : Home) (run : DecidedRun) (x : Seen) (fates : List Fate)
    → Follows (learn home run.from run.to run.pos run.entries (begun x fates))
    (learn_all home run (begun x fates))
    → AreGiven (Learned run) (learn_all home run (begun x fates)).done
    (learn_all home run (begun x fates)).seen.is_down
unfolding learn_all
all_learnt home run x fates h =
    let last : Service = learn home run.from run.to run.pos run.entries (begun x fates) in
    let g : Begins (asks_for (Learned run)) last =
    begins_learnt home run.from run.to run.pos run.entries [] (begun x fates)
    (record { events_are = refl; each = refl }) (λ down. refl) in
    learnt_given home run last _ h g
    (λ down. nothing_after home (length x.desk.log) last down (g.none down))
