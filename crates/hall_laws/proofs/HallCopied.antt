-- Desks decide an entry, and one of them answers it.
use Rattle.std.proofs.Common.{◌≡◌, refl, sym, ap, subst, ◌∙◌, ℕ, List, [], ◌∷◌, ◌++◌, length, None}
use Rattle.std.proofs.{Common.take, Common.arith, lemmas.List.append-nil}
use Rattle.acceptor.specs.declared.message.Body.TheVariants.{Accept, Accepted}
use Rattle.acceptor.specs.declared.message.Message.{Message}
use Rattle.answers.specs.Seen.{Seen}
use Rattle.learner.specs.Ranges.{IsInRange}
use Rattle.progress.{specs.Tangle.ballot, specs.Tangle.entry, proofs.Tangle.and}
use Rattle.serving.specs.{Asking.request, Turns.Talk}
use Rattle.serving.specs.Connection.{answer_frame, close_of, serve_frame}
use Rattle.serving.specs.Serving.{Act, call, enter, push_all, start_if_grown, take as take_event}
use Rattle.serving.specs.declared.request.Request.{Request, TheVariants.Copied}
use Rattle.store.specs.declared.home.Home.{Home}
use Rattle.wire.specs.{Ranges.IsFrame, declared.values.Version.TheVariants.Three}
use Rattle.hall_laws.specs.Copied.{CopiesOneEntry, given, log_frame}
use Rattle.hall_laws.specs.{Copying.AnswersCopy, HallExample.third_home, Stops.CallsAreHappenings}
use Rattle.hall_laws.specs.{Memory.Memory, Memory.memory, Tangle.first_hall}
use Rattle.hall_laws.specs.HallGoing.{IsServedTo, acts_for, as_it_goes}
use Rattle.hall_laws.specs.HallRuns.{FrameWasSent, Hall, HallGoes, HallStep, IsHallRun, Station}
use Rattle.hall_laws.specs.HallRuns.{TurnAt, hall_after, home_at, seen_of}
use Rattle.hall_laws.proofs.HallFrames.{answer_to, begins_at, begun_goes, came_goes, comes_at}
use Rattle.hall_laws.proofs.HallFrames.{past_frame, talk_here, talk_with, with_frame}
use Rattle.hall_laws.proofs.HallGoing.{IsFree, after_both, run_more, stands_at_end, station_here}
use Rattle.hall_laws.proofs.{HallGoing.with_station, HallMemory.hands_none, HallSound.SoundAt}
use Rattle.hall_laws.proofs.{HallMoves.Play, HallMoves.Played, HallExample.two_of_three}
use Rattle.hall_laws.proofs.HallTangle.{AllCome, Deed, Hears, come, cut_front, cut_here, entry_fits}
use Rattle.hall_laws.proofs.HallTangle.{made_it, moves_6, ours_3, play_6, play_after}
use Rattle.wire.specs.declared.frame.FrameBody.TheVariants as what

-- ---- desk 3 hears its own vote, asks desk 2 for its, and has it

abbrev own_vote : Message
own_vote = record { from = 3; to = 3; body = Accepted (ballot 1 3) 0 }

abbrev asks_vote : Message
asks_vote = record { from = 3; to = 2; body = Accept (ballot 1 3) 0 (entry 7) }

abbrev votes : Message
votes = record { from = 2; to = 3; body = Accepted (ballot 1 3) 0 }

abbrev hears : List Deed
hears = Hears own_vote 9 ∷ Hears asks_vote 7 ∷ Hears votes 10 ∷ []

abbrev play_9 : Play
play_9 = play_after play_6 hears

they_come : AllCome play_6 hears
unfolding close_of serve_frame call push_all start_if_grown enter take_event
they_come =
    let own : IsInRange 3 own_vote = record { from = ours_3; to = ours_3; body = refl } in
    let to_2 : IsInRange 3 asks_vote = record { from = ours_3; to = two_of_three; body = refl } in
    let his : IsInRange 3 votes = record { from = two_of_three; to = ours_3; body = refl } in
    let fits = entry_fits 7 (omega arith) (omega arith) in
    and (own, made_it, refl, refl) (and (to_2, (made_it, fits), refl, refl)
    (and (his, made_it, refl, refl) tt))

-- ---- desk 3 is asked for its log

-- its answer, where it is desk 3, and knows this
abbrev Answers : Home → Seen → Type 0
Answers home seen =
    (serve_frame home seen (as_it_goes log_frame)).answers
    ≡ answer_frame Three home (what.Entries 0 1 (entry 7 ∷ [])) ∷ []

answers_it : Answers (third_home 3) (play_9.seen 3)
unfolding close_of serve_frame call push_all start_if_grown enter take_event
answers_it = refl

stays_open : close_of (third_home 3) (play_9.seen 3) (as_it_goes log_frame) ≡ None
unfolding close_of serve_frame call push_all start_if_grown enter take_event
stays_open = refl

log_is_frame : IsFrame log_frame
log_is_frame = record {
  hall = omega arith;
  goes = (refl, (omega arith, omega arith));
  body = (omega arith, omega arith);
}

copied : CallsAreHappenings memory → (steps : List (HallStep Memory)) → Played steps play_9
    → CopiesOneEntry
copied law steps was =
    record {
      steps = all;
      run = run;
      at = length (steps ++ first ∷ []);
      collects = (ours_3, answers, refl, tt);
      mirrors = (
        entry 7 ∷ [],
        ours_3,
        answers,
        ((omega arith, λ place mine its below. absurd (omega (arith, below))), omega arith, refl),
        refl,
      );
    }
  where
    h : Hall Memory
    h = hall_after first_hall steps

    x : Station Memory
    x = h.desks 3

    own : SoundAt (third_home 3) x.node
    own = was.sound.desks 3 ours_3

    home : Home
    home = home_at memory x

    at : home ≡ third_home 3
    at = own.at

    free : IsFree memory x
    free = (stands_at_end memory law 3 first_hall steps was.run).free 3 ours_3

    number : ℕ
    number = free.0

    asked : request home log_frame ≡ Copied 0
    asked = ap (λ (u : Home). request u log_frame) at

    -- it does nothing for it
    y : Station Memory
    y = record { node = x.node; talks = x.talks; wire = x.wire; handed = None }

    served : IsServedTo memory (request home log_frame) x y
    served =
        subst (λ (r : Request). IsServedTo memory r x y) (sym asked)
        (record {
          made = record { calls = refl; pushes = hands_none x.handed [] };
          node = refl;
          wire = refl;
        })

    stays : close_of home (seen_of x.node) (as_it_goes log_frame) ≡ None
    stays =
        subst (λ (u : Home). close_of u (seen_of x.node) (as_it_goes log_frame) ≡ None) (sym at)
        (subst (λ (u : Seen). close_of (third_home 3) u (as_it_goes log_frame) ≡ None)
        (sym (was.seen 3 ours_3)) stays_open)

    said : Answers home (seen_of x.node)
    said =
        subst (λ (u : Home). Answers u (seen_of x.node)) (sym at)
        (subst (λ (u : Seen). Answers (third_home 3) u) (sym (was.seen 3 ours_3)) answers_it)

    acts : List Act
    acts = acts_for memory x (request home log_frame)

    one : Station Memory
    one = with_frame memory x number log_frame

    two : Station Memory
    two = past_frame memory x y number log_frame

    m : Hall Memory
    m = with_station h 3 one []

    g : Hall Memory
    g = with_station m 3 two acts

    first : HallStep Memory
    first = record { event = TurnAt 3 (comes_at number log_frame) []; after = m }

    second : HallStep Memory
    second = record { event = TurnAt 3 (begins_at number log_frame) acts; after = g }

    first_goes : HallGoes memory 3 first.event h m
    first_goes =
        came_goes memory 3 3 number h log_frame ours_3 log_is_frame (free.1 free.0 (omega arith))

    second_goes : HallGoes memory 3 second.event m g
    second_goes =
        begun_goes memory 3 3 number m log_frame x y (station_here h 3 one []) ours_3
        (subst (λ (u : Home). FrameWasSent u m.sent (as_it_goes log_frame)) (sym at) tt) stays
        served

    front : List (HallStep Memory)
    front = steps ++ first ∷ []

    to_m : hall_after first_hall front ≡ m
    to_m = after_both first_hall steps (first ∷ [])

    front_run : IsHallRun memory 3 first_hall front
    front_run = run_more memory 3 first_hall steps (first ∷ []) was.run (first_goes, tt)

    all : List (HallStep Memory)
    all = (front ++ second ∷ []) ++ []

    run : IsHallRun memory 3 first_hall all
    run =
        subst (λ (s : List (HallStep Memory)). IsHallRun memory 3 first_hall s)
        (sym (append-nil (front ++ second ∷ [])))
        (run_more memory 3 first_hall front (second ∷ []) front_run (
          subst (λ (u : Hall Memory). HallGoes memory 3 second.event u g) (sym to_m)
              second_goes,
          tt,
        ))

    before : hall_after first_hall (take (length front) all) ≡ m
    before =
        ap (λ (s : List (HallStep Memory)). hall_after first_hall s) (cut_front front [] second)
        ∙ to_m

    open_still : ((g.desks 3).talks number).end ≡ None
    open_still =
        ap (λ (t : Talk). t.end) (talk_here x.talks number
        (talk_with home x.wire [] 1 (answer_to home (seen_of x.node) log_frame)))

    answers : AnswersCopy memory first_hall all (length front) 3 (given (length front)).copy
    answers = record {
      step = second;
      number = number;
      one = as_it_goes log_frame;
      serves =
          record {
            here = cut_here front [] second;
            acts = acts;
            turn = refl;
            whole = λ is. absurd (let clash = sym open_still ∙ is in cc);
          };
      asked =
          subst (λ (u : Hall Memory). request (home_at memory (u.desks 3)) log_frame ≡ Copied 0)
          (sym before) asked;
      answered =
          subst
          (λ (u : Hall Memory). Answers (home_at memory (u.desks 3)) (seen_of (u.desks 3).node))
          (sym before) said;
    }

pub copies_one_entry : CallsAreHappenings memory → CopiesOneEntry
copies_one_entry law =
    let was = come law play_6 hears (moves_6 law) they_come in copied law was.0 was.1
