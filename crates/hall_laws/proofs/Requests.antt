-- What is pushed is what the calls hand out, all the while, for a request of each kind.
use Rattle.std.proofs.Common.{◌≡◌, refl, sym, ap, ◌∙◌, ℕ, ◌≤◌, ◌⊎◌, inl, inr, Bool, true, false}
use Rattle.std.proofs.Common.{if◌then◌else◌, List, [], ◌∷◌, ◌++◌, length, map, drop, Result, Ok}
use Rattle.std.proofs.Common.{Err, length-append, arith, subst, ◌+◌, ◌-◌, Option, None, Some}
use Rattle.std.proofs.lemmas.List.{append-nil, append_assoc, drop-append-le, drop_all}
use Rattle.acceptor.specs.declared.{message.Message.Message, entry.Entry.Entry}
use Rattle.answers.specs.Seen.{Seen}
use Rattle.learner.specs.declared.event.DeskEvent.{DeskEvent}
use Rattle.learner.specs.declared.event.DeskEvent.TheVariants.{Start, Deliver, Submit}
use Rattle.replica.specs.declared.roles.fault.NodeFault.{NodeFault}
use Rattle.serving.specs.Serving.{Act, Called, Pushed, Service, waiting_after, answered, first_fate}
use Rattle.serving.specs.Serving.{later_fates, reply_to, call, push_all, grew, start_if_grown}
use Rattle.serving.specs.Serving.{Answered, waits, take, decided, learn, learn_all, hand_out}
use Rattle.serving.specs.Serving.{answer_out, tell, entered_by, enter, begun}
use Rattle.serving.specs.{declared.request.DecidedRun.DecidedRun, Telling.run_of}
use Rattle.store.specs.declared.home.Home.{Home}
use Rattle.hall_laws.specs.Pushing.{handed, pushed_messages, runs_pushed, said_by, as_list}
use Rattle.hall_laws.proofs.Acts.{handed_both, pushed_both, runs_both, pushed_map, runs_map}
use Rattle.hall_laws.proofs.Acts.{map_hands_nothing, one_hands_nothing, handed_same, InTime}
use Rattle.hall_laws.proofs.Acts.{in_time_one, in_time_pushes, Fits, reply_fits, Quiet, quiet_call}
use Rattle.hall_laws.proofs.Acts.{quiet_pushes, in_time_none, quiet_both, quiet_dropped}
use Rattle.learner.specs.Steps.{done, idle, on_body, is_heeded}
use Rattle.serving.specs.Nodes.{Fate, Goes, Starves, Breaks, by_step, by_fate, reply}
use Rattle.hall_laws.proofs.{Plans.AllFrom, Plans.body_is, Telling.run_says}
use Rattle.replica.specs.declared.roles.fault.NodeFault.TheVariants as fault

-- ---- what holds all the while

-- What was pushed, then what waits for other desks, and then what was lost, is what was handed out
-- for them after the first n acts. While the desk is up, nothing is lost.
pub record Keeps (n : ℕ) (runs : List DecidedRun) (s : Service) : Type 0 where
  pub lost : List Message
  pub whole : (pushed_messages s.done ++ s.waiting) ++ lost ≡ (handed (drop n s.done))
  pub while_up : s.seen.is_down ≡ false → lost ≡ []
  pub enough : (n ≤ length s.done) ⊎ (s.seen.is_down ≡ true)
  pub runs_are : runs_pushed s.done ≡ runs
  pub quiet : Quiet s.done s.seen.is_down s.waiting
  pub in_time : InTime n s.done

-- and nothing waits any more
pub record Settled (n : ℕ) (runs : List DecidedRun) (s : Service) : Type 0 where
  pub keeps : Keeps n runs s
  pub none : s.waiting ≡ []

pub longer : (n : ℕ) (xs ys : List Act) (down : Bool) → (n ≤ length xs) ⊎ (down ≡ true)
    → (n ≤ length (xs ++ ys)) ⊎ (down ≡ true)
longer n xs ys down (inl h) = inl (omega (arith, length-append xs ys))
longer n xs ys down (inr h) = inr h

surely : (n k : ℕ) (down : Bool) → down ≡ false → (n ≤ k) ⊎ (down ≡ true) → n ≤ k
surely n k down up (inl h) = h
surely n k down up (inr h) = absurd cc

-- ---- a call

-- the service after a call with this answer
abbrev pub after_call : Service → DeskEvent → Result (List Message) NodeFault → Seen → Service
after_call s event r y = answered s event (record { result = r; seen = y })

call_handed : (n : ℕ) (runs : List DecidedRun) (s : Service) (event : DeskEvent) (ms : List Message)
    (y : Seen) → s.seen.is_down ≡ false → Keeps n runs s
    → Quiet (s.done ++ Called event (Ok ms) ∷ []) y.is_down (s.waiting ++ ms)
    → Keeps n runs (after_call s event (Ok ms) y)
call_handed n runs s event ms y up k quiet =
    let act : List Act = Called event (Ok ms) ∷ [] in
    let none : k.lost ≡ [] = k.while_up up in
    let long : n ≤ length s.done = surely n (length s.done) s.seen.is_down up k.enough in
    let pushes : pushed_messages (s.done ++ act) ≡ pushed_messages s.done =
    pushed_both s.done act ∙ append-nil (pushed_messages s.done) in
    let hands : handed (drop n (s.done ++ act)) ≡ handed (drop n s.done) ++ ms =
    ap (λ z. handed z) (drop-append-le n s.done act long) ∙ handed_both (drop n s.done) act
    ∙ ap (λ z. handed (drop n s.done) ++ z) (append-nil ms) in
    let before : pushed_messages s.done ++ s.waiting ≡ (handed (drop n s.done)) =
    sym (append-nil (pushed_messages s.done ++ s.waiting))
    ∙ ap (λ z. (pushed_messages s.done ++ s.waiting) ++ z) (sym none) ∙ k.whole in
    let whole : (pushed_messages (s.done ++ act) ++ (s.waiting ++ ms)) ++ []
    ≡ (handed (drop n (s.done ++ act))) =
    append-nil (pushed_messages (s.done ++ act) ++ (s.waiting ++ ms))
    ∙ ap (λ z. z ++ (s.waiting ++ ms)) pushes
    ∙ sym (append_assoc (pushed_messages s.done) (s.waiting) (ms)) ∙ ap (λ z. z ++ ms) before
    ∙ (sym hands) in
    record {
      lost = [];
      whole = whole;
      while_up = λ u. refl;
      enough = inl (omega (arith, long, length-append s.done act));
      runs_are = runs_both s.done act ∙ append-nil (runs_pushed s.done) ∙ k.runs_are;
      quiet = quiet;
      in_time =
          in_time_one n s.done (Called event (Ok ms)) ((s.waiting ++ ms)) k.in_time
          (sym (append-nil (pushed_messages (s.done ++ act) ++ (s.waiting ++ ms))) ∙ whole);
    }

-- a call is refused, and these wait; the others that waited are lost
call_refused : (n : ℕ) (runs : List DecidedRun) (s : Service) (event : DeskEvent) (why : NodeFault)
    (y : Seen) (ms more : List Message) → s.waiting ≡ ms ++ more
    → (k : Keeps n runs s) → (y.is_down ≡ false → more ++ k.lost ≡ [])
    → ((n ≤ length s.done) ⊎ (y.is_down ≡ true))
    → Quiet (s.done ++ Called event (Err why) ∷ []) y.is_down ms
    → Keeps n runs (record {
      seen = y;
      waiting = ms;
      done = s.done ++ Called event (Err why) ∷ [];
      fates = later_fates s.fates;
    })
call_refused n runs s event why y ms more parts k up enough quiet =
    let act : List Act = Called event (Err why) ∷ [] in
    let pushes : pushed_messages (s.done ++ act) ≡ pushed_messages s.done =
    pushed_both s.done act ∙ append-nil (pushed_messages s.done) in
    let p : List Message = pushed_messages s.done in
    let whole : (pushed_messages (s.done ++ act) ++ ms) ++ (more ++ k.lost)
    ≡ (handed (drop n (s.done ++ act))) =
    ap (λ z. (z ++ ms) ++ (more ++ k.lost)) pushes ∙ sym (append_assoc (p ++ ms) more k.lost)
    ∙ ap (λ z. z ++ k.lost) (append_assoc p (ms) more)
    ∙ ap (λ z. (p ++ z) ++ k.lost) (sym parts) ∙ k.whole
    ∙ (sym (handed_same n s.done act (one_hands_nothing (Called event (Err why)) refl))) in
    record {
      lost = more ++ k.lost;
      whole = whole;
      while_up = up;
      enough = longer n s.done act y.is_down enough;
      runs_are = runs_both s.done act ∙ append-nil (runs_pushed s.done) ∙ k.runs_are;
      quiet = quiet;
      in_time =
          in_time_one n s.done (Called event (Err why)) (ms ++ (more ++ k.lost)) k.in_time
          (sym (append_assoc (pushed_messages (s.done ++ act)) (ms) (more ++ k.lost)) ∙ whole);
    }

-- a refusal that leaves what waits
call_kept : (n : ℕ) (runs : List DecidedRun) (s : Service) (event : DeskEvent) (why : NodeFault)
    (y : Seen) → s.seen.is_down ≡ false → Keeps n runs s
    → Quiet (s.done ++ Called event (Err why) ∷ []) y.is_down s.waiting
    → Keeps n runs (record {
      seen = y;
      waiting = s.waiting;
      done = s.done ++ Called event (Err why) ∷ [];
      fates = later_fates s.fates;
    })
call_kept n runs s event why y up k quiet =
    call_refused n runs s event why y s.waiting [] (sym (append-nil (s.waiting))) k
    (λ u. k.while_up up) (inl (surely n (length s.done) s.seen.is_down up k.enough)) quiet

keeps_answer : (n : ℕ) (runs : List DecidedRun) (s : Service) (event : DeskEvent)
    (r : Result (List Message) NodeFault) (y : Seen) → Fits s.seen.is_down r y.is_down
    → Keeps n runs s → Quiet (s.done ++ Called event r ∷ []) y.is_down (waiting_after s.waiting r)
    → Keeps n runs (after_call s event r y)
keeps_answer n runs s event (Ok ms) y fits k q = call_handed n runs s event ms y fits.0 k q
keeps_answer n runs s event (Err fault.Down) y fits k q =
    call_refused n runs s event fault.Down y [] (s.waiting) refl k (λ u. absurd cc) (inr fits) q
keeps_answer n runs s event (Err fault.Busy) y fits k q =
    call_kept n runs s event fault.Busy y fits.0 k q
keeps_answer n runs s event (Err fault.LogFull) y fits k q =
    call_kept n runs s event fault.LogFull y fits.0 k q
keeps_answer n runs s event (Err fault.BallotsSpent) y fits k q =
    call_kept n runs s event fault.BallotsSpent y fits.0 k q
keeps_answer n runs s event (Err fault.NoMemory) y fits k q =
    call_kept n runs s event fault.NoMemory y fits.0 k q

pub keeps_call : (home : Home) (n : ℕ) (runs : List DecidedRun) (event : DeskEvent) (s : Service)
    → Keeps n runs s → Keeps n runs (call home event s)
unfolding call
keeps_call home n runs event s k =
    keeps_answer n runs s event (reply_to home event s).result
    (reply_to home event s).seen (reply_fits home s.seen event (first_fate s.fates)) k
    (quiet_call s.done s.seen.is_down (reply_to home event s).seen.is_down s.waiting event
    (reply_to home event s).result (reply_fits home s.seen event (first_fate s.fates)) k.quiet)

-- ---- pushes

pub settles : (n : ℕ) (runs : List DecidedRun) (s : Service) → Keeps n runs s
    → Settled n runs (push_all s)
unfolding push_all
settles n runs s k =
    let ms : List Message = s.waiting in
    let acts : List Act = map (λ m. Pushed m) ms in
    let p : List Message = pushed_messages s.done in
    let pushes = pushed_both s.done acts ∙ ap (λ z. p ++ z) (pushed_map ms) in
    record {
      keeps =
          record {
            lost = k.lost;
            whole =
                ap (λ z. z ++ k.lost) (append-nil (pushed_messages (s.done ++ acts)) ∙ pushes)
                ∙ k.whole ∙ sym (handed_same n s.done acts (map_hands_nothing ms));
            while_up = k.while_up;
            enough = longer n s.done acts s.seen.is_down k.enough;
            runs_are = cc (runs_both s.done acts, runs_map ms, append-nil (runs_pushed s.done));
            quiet = quiet_pushes s.done s.seen.is_down ms ms [] (λ empty. (empty, refl)) k.quiet;
            in_time = in_time_pushes n s.done ms k.lost k.in_time k.whole;
          };
      none = refl;
    }

pub starts : (home : Home) (n : ℕ) (runs : List DecidedRun) (before : ℕ) (s : Service)
    → Settled n runs s → Settled n runs (start_if_grown home before s)
unfolding start_if_grown
starts home n runs before s h = go (grew before s.seen)
  where
    go : (t : Bool) → Settled n runs (if t then push_all (call home Start s) else s)
    go true = settles n runs (call home Start s) (keeps_call home n runs Start s h.keeps)
    go false = h

-- ---- What is pushed for a request of each kind.

pub keeps_begun : (x : Seen) (fates : List Fate) → Keeps 0 [] (begun x fates)
keeps_begun x fates = record {
  lost = [];
  whole = refl;
  while_up = λ u. refl;
  enough = inl (omega arith);
  runs_are = refl;
  quiet = record { after = refl; stays = λ is. absurd cc };
  in_time = in_time_none 0 [] refl;
}

pub takes : (home : Home) (event : DeskEvent) (s : Service) → Keeps 0 [] s
    → Settled 0 [] (take home event s)
unfolding take
takes home event s h =
    starts home 0 [] (length s.seen.desk.log) (push_all (call home event s))
    (settles 0 [] (call home event s) (keeps_call home 0 [] event s h))

none_after : (why : NodeFault) → waiting_after [] (Err why) ≡ []
none_after fault.Down = refl
none_after _ = refl

pub enters : (home : Home) (e : Entry) (s : Service) → s.waiting ≡ [] → Keeps 0 [] s
    → Settled 0 [] (enter home e s)
unfolding enter call
enters home e s none h = go (reply_to home (Submit e) s).result refl
  where
    go : (r : Result (List Message) NodeFault) → (reply_to home (Submit e) s).result ≡ r
        → Settled 0 [] (entered_by home r (call home (Submit e) s))
    go (Ok ms) is =
        settles 0 [] (call home Start (call home (Submit e) s))
        (keeps_call home 0 [] Start (call home (Submit e) s) (keeps_call home 0 [] (Submit e) s h))
    go (Err why) is = record {
      keeps = keeps_call home 0 [] (Submit e) s h;
      none =
          ap (λ z. waiting_after s.waiting z) is ∙ ap (λ z. waiting_after z (Err why)) none
          ∙ none_after why;
    }

-- what one call hands out for a delivered message is from the desk itself
delivered_from : (home : Home) (x : Seen) (m : Message) (fate : Fate)
    → AllFrom home.desk (waiting_after [] (reply home x (Deliver m) fate).result)
delivered_from home x m fate = go x.is_down fate
  where
    heeded : (t : Bool) → AllFrom home.desk (waiting_after [] (by_step home (Deliver m) x
        (if t then Ok (done x.desk (on_body home.desks home.desk x.desk m.from m.body))
        else Ok (idle x.desk))).result)
    heeded true = (body_is home.desks home.desk x.desk m.from m.body).from
    heeded false = tt

    go : (t : Bool) (fate : Fate) → AllFrom home.desk (waiting_after []
        (if t then record { result = Err fault.Down; seen = x }
        else by_fate home x (Deliver m) fate).result)
    go true fate = tt
    go false Goes = heeded (is_heeded home.desks home.desk m)
    go false Starves = tt
    go false Breaks = tt

no_run_of_none : (d : ℕ) (ms : List Message) (run : DecidedRun) → ms ≡ [] → run_of d ms ≡ Some run
    → ⊥
unfolding run_of
no_run_of_none d ms run empty is =
    let two : None ≡ Some run = sym (ap (λ z. run_of d z) empty) ∙ is in cc

-- a run takes the place of what waits
answers : (d : ℕ) (s : Service) (run : DecidedRun) → AllFrom d s.waiting
    → run_of d s.waiting ≡ Some run → Keeps 0 [] s
    → Settled 0 (run ∷ []) (record {
      seen = s.seen;
      waiting = [];
      done = s.done ++ Answered run ∷ [];
      fates = s.fates;
    })
answers d s run ours is k =
    let act : List Act = Answered run ∷ [] in
    let p : List Message = pushed_messages s.done in
    let pushes : pushed_messages (s.done ++ act) ≡ p ++ s.waiting =
    pushed_both s.done act ∙ ap (λ z. p ++ z) (append-nil (said_by run))
    ∙ ap (λ z. p ++ z) (sym (run_says d s.waiting run ours is)) in
    let all : pushed_messages (s.done ++ act) ++ k.lost ≡ (handed (s.done ++ act)) =
    ap (λ z. z ++ k.lost) pushes ∙ k.whole
    ∙ (sym (handed_same 0 s.done act (one_hands_nothing (Answered run) refl))) in
    record {
      keeps =
          record {
            lost = k.lost;
            whole = ap (λ z. z ++ k.lost) (append-nil (pushed_messages (s.done ++ act))) ∙ all;
            while_up = k.while_up;
            enough = longer 0 s.done act s.seen.is_down k.enough;
            runs_are = runs_both s.done act ∙ ap (λ z. z ++ run ∷ []) k.runs_are;
            quiet =
                quiet_both s.done act s.seen.is_down s.seen.is_down s.waiting [] k.quiet refl
                (λ down empty. absurd (no_run_of_none d s.waiting run empty is))
                (λ down. absurd cc);
            in_time = in_time_one 0 s.done (Answered run) k.lost k.in_time all;
          };
      none = refl;
    }

-- the runs that are made of what waits
answers_out : (home : Home) (s : Service) → AllFrom home.desk s.waiting → Keeps 0 [] s
    → Settled 0 (as_list (run_of home.desk s.waiting)) (answer_out home s)
unfolding answer_out
answers_out home s ours k = go (run_of home.desk s.waiting) refl
  where
    go : (o : Option DecidedRun) → run_of home.desk s.waiting ≡ o
        → Settled 0 (as_list o) (hand_out o s)
    go None is = settles 0 [] s k
    go (Some run) is = answers home.desk s run ours is k

pub tells : (home : Home) (m : Message) (x : Seen) (fates : List Fate) → Settled 0
    (as_list (run_of home.desk (call home (Deliver m) (begun x fates)).waiting))
    (tell home m (begun x fates))
unfolding tell call
tells home m x fates =
    let s : Service = begun x fates in
    let first : Service = call home (Deliver m) s in
    starts home 0 (as_list (run_of home.desk first.waiting)) (length x.desk.log)
    (answer_out home first) (answers_out home first (delivered_from home x m (first_fate fates))
    (keeps_call home 0 [] (Deliver m) s (keeps_begun x fates)))

-- ---- a frame of several entries

-- so far there were only calls
pub record OnlyCalls (s : Service) : Type 0 where
  pub pushes : pushed_messages s.done ≡ []
  pub runs : runs_pushed s.done ≡ []
  pub quiet : Quiet s.done s.seen.is_down s.waiting

only_calls_more : (home : Home) (event : DeskEvent) (s : Service) → OnlyCalls s
    → OnlyCalls (call home event s)
unfolding call
only_calls_more home event s h =
    let act : List Act = Called event (reply_to home event s).result ∷ [] in
    record {
      pushes = pushed_both s.done act ∙ append-nil (pushed_messages s.done) ∙ h.pushes;
      runs = runs_both s.done act ∙ append-nil (runs_pushed s.done) ∙ h.runs;
      quiet =
          quiet_call s.done s.seen.is_down (reply_to home event s).seen.is_down s.waiting event
          (reply_to home event s).result
          (reply_fits home s.seen event (first_fate s.fates)) h.quiet;
    }

only_calls_dropped : (s : Service) → OnlyCalls s → OnlyCalls (waits [] s)
only_calls_dropped s only =
    search (only.pushes, only.runs, quiet_dropped s.done s.seen.is_down s.waiting only.quiet)

call_length : (home : Home) (event : DeskEvent) (s : Service)
    → length (call home event s).done ≡ length s.done + 1
unfolding call
call_length home event s = length-append s.done (Called event (reply_to home event s).result ∷ [])

none_at_down : (before after : Bool) (r : Result (List Message) NodeFault) → Fits before r after
    → after ≡ true → waiting_after [] r ≡ []
none_at_down before after (Ok ms) fits is = let up = fits.1 in absurd cc
none_at_down before after (Err why) fits is = none_after why

pub call_none_at_down : (home : Home) (event : DeskEvent) (s : Service) → s.waiting ≡ []
    → (call home event s).seen.is_down ≡ true → (call home event s).waiting ≡ []
unfolding call
call_none_at_down home event s none is =
    ap (λ z. waiting_after z (reply_to home event s).result) none
    ∙ none_at_down s.seen.is_down (reply_to home event s).seen.is_down
    (reply_to home event s).result (reply_fits home s.seen event (first_fate s.fates)) is

-- nothing was pushed, nothing waits, and nothing was handed out after the first n acts
keeps_nothing : (n : ℕ) (s : Service) → OnlyCalls s → s.waiting ≡ []
    → length s.done ≤ n → ((n ≤ length s.done) ⊎ (s.seen.is_down ≡ true)) → Keeps n [] s
keeps_nothing n s only none short enough =
    let out : handed (drop n s.done) ≡ [] = ap (λ z. handed z) (drop_all n s.done short) in
    record {
      lost = [];
      whole = cc (append-nil (pushed_messages s.done ++ s.waiting));
      while_up = λ u. refl;
      enough = enough;
      runs_are = only.runs;
      quiet = only.quiet;
      in_time = in_time_none n s.done only.pushes;
    }

learns_on : (home : Home) (n from to pos : ℕ) (e : Entry) (es : List Entry) (s : Service)
    → OnlyCalls s → length s.done + length es ≡ n → Keeps n [] (learn home from to pos (e ∷ es) s)
unfolding learn
learns_on home n from to pos e [] s only len =
    go (call home (decided from to pos e) (waits [] s)).seen.is_down
  where
    last : Keeps n [] (call home (decided from to pos e) (waits [] s))
    last =
        keeps_call home n [] (decided from to pos e) (waits [] s) (keeps_nothing n (waits [] s)
        (only_calls_dropped s only) refl (omega arith) (inl (omega arith)))

    go : (t : Bool) → Keeps n [] (if t then call home (decided from to pos e) (waits [] s)
        else learn home from to (pos + 1) [] (call home (decided from to pos e) (waits [] s)))
    go true = last
    go false = last
learns_on home n from to pos e (f ∷ es) s only len =
    go (call home (decided from to pos e) (waits [] s)).seen.is_down refl
    (λ t. learns_on home n from to (pos + 1) f es t)
  where
    more : OnlyCalls (call home (decided from to pos e) (waits [] s))
    more = only_calls_more home (decided from to pos e) (waits [] s) (only_calls_dropped s only)

    go : (t : Bool) → (call home (decided from to pos e) (waits [] s)).seen.is_down ≡ t
        → ((t : Service) → OnlyCalls t → length t.done + length es ≡ n
        → Keeps n [] (learn home from to (pos + 1) (f ∷ es) t))
        → Keeps n [] (if t then call home (decided from to pos e) (waits [] s)
        else learn home from to (pos + 1) (f ∷ es) (call home (decided from to pos e) (waits [] s)))
    go true is ih =
        let one = call_length home (decided from to pos e) (waits [] s) in
        keeps_nothing n (call home (decided from to pos e) (waits [] s)) more
        ((call_none_at_down home (decided from to pos e) (waits [] s) refl is))
        (omega arith) (inr is)
    go false is ih =
        let one = call_length home (decided from to pos e) (waits [] s) in
        ih (call home (decided from to pos e) (waits [] s)) more (omega arith)

learns_first : (home : Home) (n from to pos : ℕ) (es : List Entry) (x : Seen) (fates : List Fate)
    → n ≡ length es - 1 → Keeps n [] (learn home from to pos es (begun x fates))
unfolding learn
learns_first home n from to pos [] x fates is =
    subst (λ z. Keeps z [] (begun x fates)) (sym is) (keeps_begun x fates)
learns_first home n from to pos (e ∷ es) x fates is =
    learns_on home n from to pos e es (begun x fates) (record {
      pushes = refl;
      runs = refl;
      quiet = record { after = refl; stays = λ is. absurd cc };
    }) (omega arith)

pub learns : (home : Home) (run : DecidedRun) (x : Seen) (fates : List Fate)
    → Settled (length run.entries - 1) [] (learn_all home run (begun x fates))
unfolding learn_all
learns home run x fates =
    let n : ℕ = length run.entries - 1 in
    let last : Service = learn home run.from run.to run.pos run.entries (begun x fates) in
    starts home n [] (length x.desk.log) (push_all last) (settles n [] last
    (learns_first home n run.from run.to run.pos run.entries x fates refl))
