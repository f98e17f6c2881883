-- The laws of what is pushed.
use Rattle.std.proofs.Common.{◌≡◌, refl, sym, ap, ◌∙◌, ℕ, List, [], ◌∷◌, ◌++◌, take, Result, Ok}
use Rattle.std.proofs.{Common.Err, lemmas.List.append-nil}
use Rattle.acceptor.specs.declared.{message.Message.Message, entry.Entry.Entry}
use Rattle.answers.specs.Seen.{Seen}
use Rattle.learner.specs.declared.event.DeskEvent.{DeskEvent}
use Rattle.learner.specs.declared.event.DeskEvent.TheVariants.{Submit, Tick, Deliver}
use Rattle.replica.specs.declared.roles.fault.NodeFault.{NodeFault}
use Rattle.serving.specs.{Nodes.Fate, Telling.run_of, declared.request.DecidedRun.DecidedRun}
use Rattle.serving.specs.Serving.{Act, Service, waiting_after, reply_to, call, begun, tell}
use Rattle.serving.specs.declared.request.Request.{Request, TheVariants.Ticked}
use Rattle.serving.specs.declared.request.Request.TheVariants.{Heard, Lagging, Learned, Entered}
use Rattle.store.specs.declared.home.Home.{Home}
use Rattle.hall_laws.specs.{Arriving.decided_each, Served.handed_out}
use Rattle.hall_laws.specs.Pushing.{handed, pushed_messages, left_out, due, ArePushed, as_list}
use Rattle.hall_laws.specs.Pushing.{MessagesArePushed, RunsAreDue, EventsComeFirst, OthersDoNothing}
use Rattle.hall_laws.proofs.Requests.{Settled, keeps_begun, takes, enters, tells, learns}
use Rattle.hall_laws.proofs.Events.{all_learnt, follows_given, given, learns_nothing, one_given}
use Rattle.replica.specs.declared.roles.fault.NodeFault.TheVariants as fault

-- what was pushed, and then what was lost, is what was due
settled_whole : (r : Request) (s : Service) (runs : List DecidedRun)
    → (h : Settled (left_out r) runs s) → pushed_messages s.done ++ h.keeps.lost ≡ due r s.done
settled_whole r s runs h = cc (append-nil (pushed_messages s.done))

are_pushed : (r : Request) (s : Service) (runs : List DecidedRun)
    → Settled (left_out r) runs s → ArePushed r s
are_pushed r s runs h = record {
  while_up =
      λ up. cc (append-nil (pushed_messages s.done), h.keeps.while_up up, settled_whole r s runs h);
  so_far = h.keeps.in_time;
  none_after = h.keeps.quiet.after;
}

begun_settled : (x : Seen) (fates : List Fate) → Settled 0 [] (begun x fates)
begun_settled x fates = record { keeps = keeps_begun x fates; none = refl }

pub messages_pushed : MessagesArePushed
messages_pushed home x fates (Heard m) =
    are_pushed (Heard m) _ [] (takes home (Deliver m) (begun x fates) (keeps_begun x fates))
messages_pushed home x fates (Lagging m) =
    are_pushed (Lagging m) _
    (as_list (run_of home.desk (call home (Deliver m) (begun x fates)).waiting))
    (tells home m x fates)
messages_pushed home x fates (Learned run) = are_pushed (Learned run) _ [] (learns home run x fates)
messages_pushed home x fates (Entered e) =
    are_pushed (Entered e) _ [] (enters home e (begun x fates) refl (keeps_begun x fates))
messages_pushed home x fates Ticked =
    are_pushed Ticked _ [] (takes home Tick (begun x fates) (keeps_begun x fates))
messages_pushed home x fates r = are_pushed r _ [] (begun_settled x fates)

-- ---- runs

waits_as_handed : (r : Result (List Message) NodeFault) → waiting_after [] r ≡ handed_out r ++ []
waits_as_handed (Ok ms) = sym (append-nil ms)
waits_as_handed (Err fault.Down) = refl
waits_as_handed _ = refl

first_handed : (home : Home) (event : DeskEvent) (x : Seen) (fates : List Fate)
    → (call home event (begun x fates)).waiting
    ≡ handed (take 1 (call home event (begun x fates)).done)
unfolding call
first_handed home event x fates = waits_as_handed (reply_to home event (begun x fates)).result

first_stays : (home : Home) (event : DeskEvent) (x : Seen) (fates : List Fate) (s : Service)
    (more : List Act) → s.done ≡ (call home event (begun x fates)).done ++ more
    → take 1 s.done ≡ take 1 (call home event (begun x fates)).done
unfolding call
first_stays home event x fates s more is = ap (λ z. take 1 z) is

pub runs_are_due : RunsAreDue
runs_are_due home x fates (Heard m) =
    (takes home (Deliver m) (begun x fates) (keeps_begun x fates)).keeps.runs_are
runs_are_due home x fates (Lagging m) =
    let f = follows_given home x fates (Lagging m) in
    (tells home m x fates).keeps.runs_are ∙ ap (λ z. as_list (run_of home.desk z))
    (first_handed home (Deliver m) x fates ∙ ap (λ z. handed z)
    (sym (first_stays home (Deliver m) x fates (tell home m (begun x fates)) f.more f.done)))
runs_are_due home x fates (Learned run) = (learns home run x fates).keeps.runs_are
runs_are_due home x fates (Entered e) =
    (enters home e (begun x fates) refl (keeps_begun x fates)).keeps.runs_are
runs_are_due home x fates Ticked =
    (takes home Tick (begun x fates) (keeps_begun x fates)).keeps.runs_are
runs_are_due home x fates _ = refl

-- ---- events

pub events_first : EventsComeFirst
events_first home x fates (Heard m) =
    given (Heard m) _ _ (follows_given home x fates (Heard m)) (one_given home (Deliver m) x fates)
events_first home x fates (Lagging m) =
    given (Lagging m) _ _ (follows_given home x fates (Lagging m))
    (one_given home (Deliver m) x fates)
events_first home x fates (Learned run) =
    all_learnt home run x fates (follows_given home x fates (Learned run))
events_first home x fates (Entered e) =
    given (Entered e) _ _ (follows_given home x fates (Entered e))
    (one_given home (Submit e) x fates)
events_first home x fates Ticked =
    given Ticked _ _ (follows_given home x fates Ticked) (one_given home Tick x fates)
events_first home x fates _ = record { dropped = []; first = refl; while_up = λ up. refl }

none_asked : (from to pos : ℕ) (es : List Entry) → decided_each from to pos es ≡ [] → es ≡ []
none_asked from to pos [] h = refl
none_asked from to pos (e ∷ es) h = absurd cc

pub others_do_nothing : OthersDoNothing
others_do_nothing home x fates (Heard m) none = absurd cc
others_do_nothing home x fates (Lagging m) none = absurd cc
others_do_nothing home x fates (Learned run) none =
    learns_nothing home run x fates (none_asked run.from run.to run.pos run.entries none)
others_do_nothing home x fates (Entered e) none = absurd cc
others_do_nothing home x fates Ticked none = absurd cc
others_do_nothing home x fates _ none = refl
