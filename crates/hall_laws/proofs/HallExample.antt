-- A small run of a hall.
use Rattle.std.proofs.Common.{◌≡◌, inl, inr, refl, sym, ap, subst, ◌∙◌, ℕ, zero, suc, true, false}
use Rattle.std.proofs.Common.{if◌then◌else◌, eqb, List, [], ◌∷◌, ◌++◌, Some, None, Ok, Err, arith}
use Rattle.std.{proofs.Common.slice_get, proofs.Common.take as front, specs.List.AllByRecursion}
use Rattle.acceptor.specs.declared.message.Message.{Message}
use Rattle.answers.specs.Seen.{Seen}
use Rattle.learner.specs.{Desks.first_desk, Ranges.AreInRange, Steps.IsDesk, Steps.step}
use Rattle.learner.specs.declared.event.DeskEvent.{DeskEvent, TheVariants.Tick, TheVariants.Deliver}
use Rattle.replica.specs.{Handles.Handles, Settles.Settles, Nodes.NodeValue, Stores.HoldsDesk}
use Rattle.replica.specs.{Handles.FitInFrames, Lengths.told_by, Lengths.nothing_told}
use Rattle.serving.specs.{declared.permission.Permission.TheVariants.All, Serving.tell}
use Rattle.serving.specs.Serving.{answer_out, Act, Called, call, push_all, start_if_grown, take}
use Rattle.serving.specs.Connection.{serve_frame, close_of, answer_bytes, Begun}
use Rattle.serving.specs.Making.{calls_of, outside_of, speaking}
use Rattle.serving.specs.{Telling.run_of, Telling.entries_told, Turns.Talk, Turns.new_talk}
use Rattle.serving.specs.TurnLaw.{Place, Came, Turns}
use Rattle.store.specs.declared.{home.Home.Home, keeper.Keeper.Ghosts}
use Rattle.wire.specs.{Ranges.IsFrame, Spelling.spelling}
use Rattle.wire.specs.declared.{frame.Frame.Frame, values.Version.TheVariants.Two}
use Rattle.hall_laws.specs.Differing.{IsBrought, IsGiven, IsHeardIn, SmallRunComesInOrder}
use Rattle.hall_laws.{specs.Differing.WereSentInOrder, proofs.HallFrames.takes_turn_as}
use Rattle.hall_laws.proofs.HallFrames.{talk_there, begun_whole, came_whole, other_talks, talk_with}
use Rattle.hall_laws.specs.HallExample.{third_home, three_desks, tick_frame, says, said_frame}
use Rattle.hall_laws.specs.HallExample.{first_of, begun_as, tick_acts, KeepThree, SmallRunIsARun}
use Rattle.hall_laws.specs.HallRuns.{Station, HallEvent, HallStep, IsHallRun, TickedAt, TurnWasSent}
use Rattle.hall_laws.specs.HallRuns.{Hall, IsFirstNode, TurnAt, seen_of, IsTick, HallGoes}
use Rattle.hall_laws.specs.HallRuns.{acts_of, desk_of}
use Rattle.hall_laws.proofs.HallGoing.{with_station, ticks_itself}

abbrev pub first_node : {K : Type 0} → K → NodeValue K
first_node keeper =
    record { keeper = keeper; desk = first_desk; is_down = false; told = nothing_told }

-- what is seen of it
abbrev pub first_seen : Seen
first_seen = record { desk = first_desk; is_down = false; told = nothing_told }

-- a call that changes nothing
pub still : {K : Type 0} (k : Ghosts K) (keeper : K) (d : ℕ) (event : DeskEvent) (ms : List Message)
    → k.home_of keeper ≡ third_home d → HoldsDesk k keeper first_desk
    → step 3 d first_desk event ≡ Ok (record { desk = first_desk; messages = ms })
    → told_by (third_home d) event nothing_told ≡ nothing_told → AreInRange 3 d ms → FitInFrames ms
    → Handles k (first_node keeper) event (Ok ms) (first_node keeper)
still {K} k keeper d event ms home holds steps told range fits = record {
  ended = λ down. absurd (let two : false ≡ true = down in cc);
  takes = λ up.
      rw home (record {
        ok = steps;
        range = range;
        refused = λ why.
            (λ is. absurd (no_fault is), λ is. absurd (no_fault (sym steps ∙ is)));
        err = tt;
      });
  entries = fits;
  told = sym told ∙ ap (λ (z : Home). told_by z event nothing_told) (sym home);
  ignored = λ up is. (refl, refl);
  down = (λ is. absurd (no_fault is), λ is. absurd (let two : false ≡ true = is in cc));
  counted = λ up is. absurd (no_fault is);
  uncounted = λ no. refl;
  stored = λ up. holds;
  left = λ up down. absurd (let two : false ≡ true = down in cc);
  finds = λ honest s log found. inl found;
  honest = λ is. is;
  home = refl;
}
  where
    no_fault : {A B : Type 0} {a : A} {b : B} → Ok a ≡ Err b → ⊥
    no_fault is = cc

-- ---- three desks

pub one_of_three : IsDesk 3 1
one_of_three = (omega arith, omega arith)

pub two_of_three : IsDesk 3 2
two_of_three = (omega arith, omega arith)

-- a Tick of desk 1, and what it says as desk 2 is given it
pub tick_handled : {K : Type 0} (k : Ghosts K) (keeper : ℕ → K) → KeepThree k keeper
    → Handles k (first_node (keeper 1)) Tick (Ok (says 2 ∷ says 3 ∷ [])) (first_node (keeper 1))
tick_handled k keeper own =
    still k (keeper 1) 1 Tick (says 2 ∷ says 3 ∷ []) (own 1 one_of_three).0 (own 1 one_of_three).1
    refl refl named fits
  where
    named : AreInRange 3 1 (says 2 ∷ says 3 ∷ [])
    named = (
      (refl, record { from = one_of_three; to = two_of_three; body = refl }),
      ((refl, record { from = one_of_three; to = (omega arith, omega arith); body = refl }), tt),
    )

    fits : FitInFrames (says 2 ∷ says 3 ∷ [])
    fits zero m less = tt
    fits (suc zero) m less = tt
    fits (suc (suc j)) m less = absurd (omega arith)

pub says_handled : {K : Type 0} (k : Ghosts K) (keeper : ℕ → K) → KeepThree k keeper
    → Handles k (first_node (keeper 2)) (Deliver (says 2)) (Ok []) (first_node (keeper 2))
says_handled k keeper own =
    still k (keeper 2) 2 (Deliver (says 2)) [] (own 2 two_of_three).0 (own 2 two_of_three).1 refl
    refl tt (λ j m less. absurd (omega arith))

pub first_three : {K : Type 0} (k : Ghosts K) (keeper : ℕ → K) → KeepThree k keeper → (d : ℕ)
    → IsDesk 3 d → IsFirstNode k 3 d (first_node (keeper d))
first_three k keeper own d ours =
    let is = own d ours in
    record {
      desks = ap (λ z. z.desks) is.0;
      desk = ap (λ z. z.desk) is.0;
      first = refl;
      stored = is.1;
    }

-- ---- turns

abbrev pub talk_of : Home → List Frame → ℕ → List ℕ → Talk
talk_of home waiting frames pending = talk_with home Two waiting frames pending

abbrev pub place_in : {K : Type 0} → (k : Ghosts K) → K → Talk
    → Place (speaking (Handles k) (Settles k) Two)
place_in k keeper talk = record {
  talk = talk;
  seen = seen_of (first_node keeper);
  outside = outside_of (speaking (Handles k) (Settles k) Two) (first_node keeper) None;
}

abbrev pub as_begun : Frame → Begun
as_begun f = record { frame = f; may = All; differs = None; fates = [] }

-- what the frame is answered
abbrev pub answer_to : Home → Frame → List ℕ
answer_to home f = answer_bytes (serve_frame home first_seen (as_begun f)).answers

-- a frame is begun, in a call that changes nothing
ticks : {K : Type 0} (k : Ghosts K) (keeper : K)
    → Handles k (first_node keeper) Tick (Ok (says 2 ∷ says 3 ∷ [])) (first_node keeper)
    → Turns (begun_as tick_frame)
    (place_in k keeper (talk_of (third_home 1) (tick_frame ∷ []) 0 []))
    (place_in k keeper (talk_of (third_home 1) [] 1 (answer_to (third_home 1) tick_frame)))
unfolding serve_frame close_of call push_all start_if_grown take
ticks k keeper handles =
    begun_whole (speaking (Handles k) (Settles k) Two) (third_home 1) Two tick_frame first_seen
    first_seen (outside_of (speaking (Handles k) (Settles k) Two) (first_node keeper) None)
    (outside_of (speaking (Handles k) (Settles k) Two) (first_node keeper) None) refl
    (record { calls = (first_node keeper, handles, refl); pushes = tt }) refl

pub hears : {K : Type 0} (k : Ghosts K) (keeper : K)
    → Handles k (first_node keeper) (Deliver (says 2)) (Ok []) (first_node keeper)
    → Turns (begun_as said_frame)
    (place_in k keeper (talk_of (third_home 2) (said_frame ∷ []) 0 []))
    (place_in k keeper (talk_of (third_home 2) [] 1 (answer_to (third_home 2) said_frame)))
unfolding serve_frame close_of call push_all start_if_grown tell answer_out run_of entries_told
hears k keeper handles =
    begun_whole (speaking (Handles k) (Settles k) Two) (third_home 2) Two said_frame first_seen
    first_seen (outside_of (speaking (Handles k) (Settles k) Two) (first_node keeper) None)
    (outside_of (speaking (Handles k) (Settles k) Two) (first_node keeper) None) refl
    (record { calls = (first_node keeper, handles, refl); pushes = tt }) refl

-- ---- the run

abbrev hear_acts : List Act
hear_acts = Called (Deliver (says 2)) (Ok []) ∷ []

pub ticks_so : tick_acts ≡ (serve_frame (third_home 1) first_seen (as_begun tick_frame)).acts
unfolding serve_frame call push_all start_if_grown take
ticks_so = refl

pub hears_so : hear_acts ≡ (serve_frame (third_home 2) first_seen (as_begun said_frame)).acts
unfolding serve_frame call push_all start_if_grown tell answer_out run_of entries_told
hears_so = refl

-- a desk of which connection 0 is so, and no other had a turn
abbrev station : {K : Type 0} → K → ℕ → Talk → Station K
station keeper d talk = record {
  node = first_node keeper;
  talks = λ j. if eqb j 0 then talk else new_talk (third_home d) Two;
  wire = Two;
  handed = None;
}

-- after each of the turns
abbrev hall_1 : {K : Type 0} → (ℕ → K) → Hall K
hall_1 keeper =
    with_station (three_desks keeper) 1
    (station (keeper 1) 1 (talk_of (third_home 1) (tick_frame ∷ []) 0 [])) []

abbrev hall_2 : {K : Type 0} → (ℕ → K) → Hall K
hall_2 keeper =
    with_station (hall_1 keeper) 1 (station (keeper 1) 1
    (talk_of (third_home 1) [] 1 (answer_to (third_home 1) tick_frame))) tick_acts

abbrev hall_3 : {K : Type 0} → (ℕ → K) → Hall K
hall_3 keeper =
    with_station (hall_2 keeper) 2
    (station (keeper 2) 2 (talk_of (third_home 2) (said_frame ∷ []) 0 [])) []

abbrev hall_4 : {K : Type 0} → (ℕ → K) → Hall K
hall_4 keeper =
    with_station (hall_3 keeper) 2 (station (keeper 2) 2
    (talk_of (third_home 2) [] 1 (answer_to (third_home 2) said_frame))) hear_acts

abbrev hall_5 : {K : Type 0} → (ℕ → K) → Hall K
hall_5 keeper =
    with_station (hall_4 keeper) 1 (station (keeper 1) 1
    (talk_of (third_home 1) [] 1 (answer_to (third_home 1) tick_frame))) tick_acts

tick_is_frame : IsFrame tick_frame
tick_is_frame = record { hall = omega arith; goes = (refl, (omega arith, omega arith)); body = tt }

pub said_is_frame : IsFrame said_frame
said_is_frame = record {
  hall = omega arith;
  goes = ((omega arith, omega arith), (omega arith, omega arith));
  body = omega arith;
}

-- its steps
abbrev small_steps : {K : Type 0} → (ℕ → K) → List (HallStep K)
small_steps keeper =
    record {
      event = TurnAt 1 (first_of (Came (spelling tick_frame))) [];
      after = hall_1 keeper;
    }
    ∷ record { event = TurnAt 1 (first_of (begun_as tick_frame)) tick_acts; after = hall_2 keeper }
    ∷ record { event = TurnAt 2 (first_of (Came (spelling said_frame))) []; after = hall_3 keeper }
    ∷ record { event = TurnAt 2 (first_of (begun_as said_frame)) hear_acts; after = hall_4 keeper }
    ∷ record { event = TickedAt 1 (as_begun tick_frame) tick_acts; after = hall_5 keeper } ∷ []

small_run_taken : {K : Type 0} (k : Ghosts K) (keeper : ℕ → K) → KeepThree k keeper
    → IsHallRun k 3 (three_desks keeper) (small_steps keeper)
small_run_taken {K} k keeper own = record {
  first = λ d ours.
      record {
        node = first_three k keeper own d ours;
        talks = λ j. ap (λ z. new_talk z Two) (sym (own d ours).0);
      };
  unsent = refl;
  taken = (first_turn, (second_turn, (third_turn, (fourth_turn, (own_tick, tt)))));
}
  where
    one : HallEvent
    one = TurnAt 1 (first_of (Came (spelling tick_frame))) []

    two : HallEvent
    two = TurnAt 1 (first_of (begun_as tick_frame)) tick_acts

    three : HallEvent
    three = TurnAt 2 (first_of (Came (spelling said_frame))) []

    four : HallEvent
    four = TurnAt 2 (first_of (begun_as said_frame)) hear_acts

    five : HallEvent
    five = TickedAt 1 (as_begun tick_frame) tick_acts

    new : ℕ → ℕ → Talk
    new d j = new_talk (third_home d) Two

    -- the bytes of a frame come to a desk that had no turn
    bytes_come : (d : ℕ) (f : Frame) (w : Hall K) → IsDesk 3 d → IsFrame f
        → w.desks d ≡ (three_desks keeper).desks d
        → HallGoes k 3 (TurnAt d (first_of (Came (spelling f))) []) w
        (with_station w d (station (keeper d) d (talk_of (third_home d) (f ∷ []) 0 [])) [])
    bytes_come d f w ours is first =
        takes_turn_as k 3 d w (first_of (Came (spelling f))) ((three_desks keeper).desks d)
        (station (keeper d) d (talk_of (third_home d) (f ∷ []) 0 [])) [] first ours refl
        (record {
          turn =
              came_whole (speaking (Handles k) (Settles k) Two) (seen_of (first_node (keeper d)))
              (outside_of (speaking (Handles k) (Settles k) Two) (first_node (keeper d)) None)
              (third_home d) Two f is;
          others = λ j other. talk_there (new d) 0 j (talk_of (third_home d) (f ∷ []) 0 []) other;
        }) refl tt

    -- and the frame is begun
    begins : (d : ℕ) (f : Frame) (acts : List Act) (w : Hall K) → IsDesk 3 d
        → w.desks d ≡ station (keeper d) d (talk_of (third_home d) (f ∷ []) 0 [])
        → Turns (begun_as f) (place_in k (keeper d) (talk_of (third_home d) (f ∷ []) 0 []))
        (place_in k (keeper d) (talk_of (third_home d) [] 1 (answer_to (third_home d) f)))
        → acts ≡ (serve_frame (third_home d) first_seen (as_begun f)).acts
        → TurnWasSent (k.home_of (keeper d)) w.sent (begun_as f)
        → HallGoes k 3 (TurnAt d (first_of (begun_as f)) acts) w (with_station w d
        (station (keeper d) d (talk_of (third_home d) [] 1 (answer_to (third_home d) f))) acts)
    begins d f acts w ours waits turn done brings =
        let past = talk_of (third_home d) [] 1 (answer_to (third_home d) f) in
        takes_turn_as k 3 d w (first_of (begun_as f))
        (station (keeper d) d (talk_of (third_home d) (f ∷ []) 0 [])) (station (keeper d) d past)
        acts waits ours refl
        (record {
          turn = turn;
          others = λ j other.
              other_talks (new d) 0 j past (talk_of (third_home d) (f ∷ []) 0 []) other;
        }) done brings

    first_turn : HallGoes k 3 one (three_desks keeper) (hall_1 keeper)
    first_turn = bytes_come 1 tick_frame (three_desks keeper) one_of_three tick_is_frame refl

    second_turn : HallGoes k 3 two (hall_1 keeper) (hall_2 keeper)
    second_turn =
        begins 1 tick_frame tick_acts (hall_1 keeper) one_of_three refl
        (ticks k (keeper 1) (tick_handled k keeper own)) ticks_so
        (subst (λ z. TurnWasSent z [] (begun_as tick_frame)) (sym (own 1 one_of_three).0) tt)

    third_turn : HallGoes k 3 three (hall_2 keeper) (hall_3 keeper)
    third_turn = bytes_come 2 said_frame (hall_2 keeper) two_of_three said_is_frame refl

    fourth_turn : HallGoes k 3 four (hall_3 keeper) (hall_4 keeper)
    fourth_turn =
        begins 2 said_frame hear_acts (hall_3 keeper) two_of_three refl
        (hears k (keeper 2) (says_handled k keeper own)) hears_so
        (subst (λ z. TurnWasSent z (says 2 ∷ says 3 ∷ []) (begun_as said_frame))
        (sym (own 2 two_of_three).0) ((1, refl, refl), tt))

    own_tick : HallGoes k 3 five (hall_4 keeper) (hall_5 keeper)
    own_tick =
        ticks_itself k 3 1 (hall_4 keeper) (as_begun tick_frame) tick_acts [] (station (keeper 1) 1
        (talk_of (third_home 1) [] 1 (answer_to (third_home 1) tick_frame)))
        one_of_three refl (λ j. refl)
        (subst (λ z. IsTick z (as_begun tick_frame)) (sym (own 1 one_of_three).0) refl) (subst
        (λ z. (serve_frame z first_seen (as_begun tick_frame)).acts ≡ tick_acts ++ [])
        (sym (own 1 one_of_three).0) (sym ticks_so))
        (record { calls = (first_node (keeper 1), tick_handled k keeper own, refl); pushes = tt })

pub small_run_is_a_run : {K : Type 0} (k : Ghosts K) → SmallRunIsARun k
small_run_is_a_run k keeper own = (small_steps keeper, refl, small_run_taken k keeper own)

-- ---- a connection in order

same_message : (m x : Message) → Deliver m ≡ Deliver x → m ≡ x
same_message m x is = cc

-- what the frame brings is that one message
given_says : (m : Message) → IsGiven m (Deliver (says 2) ∷ []) → says 2 ≡ m
given_says m (inl is) = same_message (says 2) m is
given_says m (inr none) = absurd none

-- what is heard in a step at desk 2
abbrev HearsSays : {K : Type 0} → Message → HallStep K → Type 0
HearsSays m s = desk_of s.event ≡ 2 → IsHeardIn m (calls_of (acts_of s.event)) → says 2 ≡ m

each_step : {K : Type 0} (m : Message) (ss : List (HallStep K))
    → AllByRecursion (λ (s : HallStep K). HearsSays m s) ss → (at : ℕ) (step : HallStep K)
    → slice_get ss at ≡ Some step → HearsSays m step
each_step m [] h at step is = absurd cc
each_step {K} m (s ∷ ss) h zero step is =
    let same : s ≡ step = cc in subst (λ (t : HallStep K). HearsSays m t) same h.0
each_step m (s ∷ ss) h (suc at) step is = each_step m ss h.1 at step is

heard_says : {K : Type 0} (keeper : ℕ → K) (m : Message)
    → AllByRecursion (λ (s : HallStep K). HearsSays m s) (front 4 (small_steps keeper))
heard_says keeper m = (other, (other, ((λ here none. absurd none), (heard, tt))))
  where
    other : {A : Type 0} → ◌≡◌ {A = ℕ} 1 2 → A → says 2 ≡ m
    other one_is_two heard = absurd (omega arith)

    heard : {A : Type 0} → A → IsHeardIn m (calls_of hear_acts) → says 2 ≡ m
    heard here (inl is) = same_message (says 2) m is.0
    heard here (inr none) = absurd none

pub small_run_comes_in_order : {K : Type 0} (k : Ghosts K) → SmallRunComesInOrder k
small_run_comes_in_order {K} k keeper own = (
  small_steps keeper,
  refl,
  small_run_taken k keeper own,
  record {
    spelled = (said_is_frame, tt);
    sent = ((1, refl, refl), tt);
    after_frames = λ m x same one given. order m x (one_says m one) (given_says x given);
    after_heard = λ m x same was given.
        order m x
        (each_step m (front 4 (small_steps keeper)) (heard_says keeper m) was.at was.step was.here
        was.desk was.heard) (given_says x given);
  },
)
  where
    one_says : (m : Message) → IsBrought (third_home 2) m (said_frame ∷ []) → says 2 ≡ m
    one_says m (inl given) = given_says m given
    one_says m (inr none) = absurd none

    order : (m x : Message) → says 2 ≡ m → says 2 ≡ x → WereSentInOrder (hall_5 keeper).sent m x
    order m x first second = record {
      first = 1;
      second = 3;
      order = omega arith;
      one_sent = ap (λ (y : Message). Some y) first;
      other_sent = ap (λ (y : Message). Some y) second;
    }
