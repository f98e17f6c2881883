-- What holds after every history.
use Rattle.std.proofs.Common.{◌≡◌, refl, sym, ap, subst, ◌∙◌, ℕ, arith, Bool, true, false, Option}
use Rattle.std.proofs.Common.{None, Some, if◌then◌else◌}
use Rattle.std.specs.Prelude.{◌||◌, nat_lt, not, max}
use Rattle.mirror.specs.declared.mirror.MirrorGrowth.{MirrorGrowth}
use Rattle.mirror.specs.declared.mirror.MirrorGrowth.TheVariants.{Known, Differs}
use Rattle.wire.specs.declared.frame.Frame.{Frame}
use Rattle.desk_talks.specs.KeptConnections.{KeptConnectionOf, answered_stage, hurried_stage}
use Rattle.desk_talks.specs.KeptConnections.{closed, is_closed, last_of, open_at_once, opened_stage}
use Rattle.desk_talks.specs.declared.kept_connection.ConnectionStage.{ConnectionStage}
use Rattle.log_follower.specs.{declared.stages.AnswerWorth.AnswerWorth, Laws.IsAfter}
use Rattle.log_follower.specs.declared.stages.FollowAction.{FollowAction, TheVariants.Stop}
use Rattle.log_follower.specs.declared.stages.FollowAction.TheVariants.{Rest, Open, Ask, Close}
use Rattle.log_follower.specs.Following.{Following, action_of, after_answer, begun, behind_after}
use Rattle.log_follower.specs.Following.{goes_on, is_behind, is_stopped, line_answered, line_begun}
use Rattle.log_follower.specs.Following.{line_hurried_by, new_following, next_place, turned}
use Rattle.log_follower.specs.Following.{worth_after, worth_of}
use Rattle.log_follower.specs.Histories.{Acted, Answered, Asked, Call, Calls, Followed, History}
use Rattle.log_follower.specs.Histories.{Hurried, IsAnswered, Leads, Lost, Moved, Opened, Start}
use Rattle.log_follower.specs.Histories.{Then, differed, followed, is_other, is_useful, rests}
use Rattle.log_follower.{specs.Histories.new_followed, proofs.Telling.after_up_to}
use Rattle.log_follower.proofs.Choices.{ActsFrom, apart_in, ask_open, chosen, free_after}
use Rattle.log_follower.proofs.Choices.{hurried_in, is_of_use, opened_in}
use Rattle.log_follower.proofs.Turns.{IsTurn, turn_opened, turn_left}
use Rattle.log_follower.proofs.Lines.{IsAsking, answered_asking, answered_over, begun_asking}
use Rattle.log_follower.proofs.Lines.{hurried_by, moved_asking, moved_over, silent}
use Rattle.log_follower.proofs.Telling.{IsUpTo, Shown, Tells, gone, hastened, shown, up_to_after}
use Rattle.desk_talks.specs.declared.kept_connection.ConnectionStage.TheVariants as stage
use Rattle.log_follower.specs.declared.stages.AnswerWorth.TheVariants as worth

-- the follower after a history, and the stage of its connection
abbrev pub TellsOf : ℕ → History → Followed → Type 0
TellsOf desks h s = Tells desks (shown h) s.follower s.line.stage

-- and whether a question waits over it
abbrev pub Knows : ℕ → History → Followed → Type 0
Knows desks h s = TellsOf desks h s × IsAsking s.line

at_start : (desks : ℕ) → Tells desks (shown Start) (new_following desks) (stage.Closed None)
at_start desks = record {
  number = refl;
  runs = refl;
  asked = refl;
  opening = refl;
  last = refl;
  rests = refl;
  rested = λ e. refl;
  most = refl;
  behind = refl;
  alone = λ e. refl;
  turn = (refl, tt);
  paced = tt;
  fresh = λ since e. tt;
}

some_same : (a b : ℕ) → Some a ≡ Some b → a ≡ b
some_same a b e = cc

-- ---- the next desk is followed

left : (desks : ℕ) (h : Shown) (s : Following) (st : ConnectionStage) → Tells desks h s st
    → is_closed st ≡ false → Tells desks (gone h) (turned s) (stage.Closed (last_of st))
left desks h s st t there = record {
  number = t.number;
  runs = t.runs;
  asked = refl;
  opening = refl;
  last = t.last;
  rests = t.rests;
  rested = λ e. refl;
  most = t.most;
  behind = refl;
  alone = λ e. refl;
  turn =
      subst (λ z. IsTurn desks (next_place z s.desk) true h.opened) (sym t.number)
      (turn_left desks s.desk h.opened (subst (λ z. IsTurn desks s.desk z h.opened) there t.turn));
  paced = t.paced;
  fresh = λ since e. absurd (let bad : None ≡ Some since = e in cc);
}

lost_if : (apart : Bool) (desks : ℕ) (h : History) (s : Followed)
    → is_closed s.line.stage ≡ apart → Knows desks h s
    → Knows desks (Then h Lost) (if apart then s else followed (turned s.follower) (closed s.line))
lost_if false desks h s is (t, asking) =
    (left desks (shown h) s.follower s.line.stage t is, silent (closed s.line) refl)
lost_if true desks h s is (t, asking) =
    let apart = apart_in s.line.stage is in (
      record {
        number = t.number;
        runs = t.runs;
        asked = apart.unasked;
        opening = apart.unopened;
        last = t.last;
        rests = t.rests;
        rested = t.rested;
        most = t.most;
        behind = t.alone is;
        alone = t.alone;
        turn = t.turn;
        paced = t.paced;
        fresh = t.fresh;
      },
      asking,
    )

-- ---- an action is begun

acted : (done : FollowAction) (now desks : ℕ) (h : History) (s : Following) (l : KeptConnectionOf)
    → ActsFrom done s l now → Tells desks (shown h) s l.stage
    → Tells desks (shown (Then h (Acted now done))) (begun done s) (line_begun done l now).stage
acted Rest now desks h s l why t = t
acted (Open d) now desks h s l (runs, is, (last, at, due)) t =
    let question = (shown h).question in
    let free : IsAfter question now = up_to_after question (last_of l.stage) now t.paced
    (subst (λ z. IsAfter (last_of z) now) (sym at) (free_after last now due)) in
    record {
      number = t.number;
      runs = refl;
      asked = refl;
      opening = refl;
      last = refl;
      rests = refl;
      rested = λ e. absurd (let bad : false ≡ true = e in cc);
      most = t.most;
      behind = t.behind;
      alone = λ e. absurd (let bad : false ≡ true = e in cc);
      turn =
          turn_opened desks s.desk d (shown h).opened is
          (subst (λ z. IsTurn desks s.desk z (shown h).opened) (ap is_closed at) t.turn);
      paced = after_up_to question now free;
      fresh = λ since e. subst (λ z. IsAfter question z) (some_same now since e) free;
    }
acted (Ask d) now desks h s l why t = record {
  number = t.number;
  runs = refl;
  asked = t.asked;
  opening = t.opening;
  last = t.last;
  rests = refl;
  rested = λ e. absurd (let bad : false ≡ true = e in cc);
  most = t.most;
  behind = t.behind;
  alone = t.alone;
  turn = t.turn;
  paced = t.paced;
  fresh = t.fresh;
}
acted (Close d) now desks h s l (runs, is, there) t = left desks (shown h) s l.stage t there
acted Stop now desks h s l stops t =
    absurd (let bad : true ≡ false = sym stops ∙ t.runs in cc)

-- a question is asked
asked : (now d desks : ℕ) (question : Frame) (h : History) (s : Following) (l : KeptConnectionOf)
    → ActsFrom (Ask d) s l now → Tells desks (shown h) s l.stage
    → Tells desks (shown (Then h (Asked now question))) (begun (Ask d) s) (stage.Asked now)
asked now d desks question h s l (runs, is, due) t = record {
  number = t.number;
  runs = refl;
  asked = refl;
  opening = refl;
  last = refl;
  rests = refl;
  rested = λ e. absurd (let bad : false ≡ true = e in cc);
  most = t.most;
  behind = t.behind;
  alone = λ e. absurd (let bad : false ≡ true = e in cc);
  turn =
      subst (λ z. IsTurn desks s.desk z (shown h).opened) (ask_open l.stage now due) t.turn;
  paced = omega arith;
  fresh = λ since e. absurd (let bad : None ≡ Some since = e in cc);
}

-- ---- the connection is open

opened : (desks : ℕ) (h : History) (s : Following) (st : ConnectionStage)
    → Tells desks (shown h) s st → Tells desks (shown (Then h Opened)) s (opened_stage st)
opened desks h s st t =
    let o = opened_in st in
    record {
      number = t.number;
      runs = t.runs;
      asked = o.alike.asked ∙ t.asked;
      opening = o.unopened;
      last = o.last ∙ t.last;
      rests = t.rests;
      rested = λ e. o.alike.rests ∙ t.rested e;
      most = t.most;
      behind = t.behind;
      alone = λ e. t.alone (sym o.alike.closed ∙ e);
      turn = subst (λ z. IsTurn desks s.desk z (shown h).opened) (sym o.alike.closed) t.turn;
      paced = subst (λ z. IsUpTo (shown h).question z) (sym o.last) t.paced;
      fresh = λ since e. t.fresh since (sym o.alike.fresh ∙ e);
    }

-- ---- the next question may come at once

hurried : (desks : ℕ) (h : Shown) (s : Following) (st : ConnectionStage) → is_of_use s.worth ≡ true
    → Tells desks h s st → Tells desks (hastened true h) s (open_at_once (hurried_stage st))
hurried desks h s st useful t =
    let o = hurried_in st (t.rested useful) in
    record {
      number = t.number;
      runs = t.runs;
      asked = o.alike.asked ∙ t.asked;
      opening = o.opening ∙ t.opening;
      last = o.last;
      rests = t.rests;
      rested = λ e. o.alike.rests ∙ t.rested e;
      most = t.most;
      behind = t.behind;
      alone = λ e. t.alone (sym o.alike.closed ∙ e);
      turn = subst (λ z. IsTurn desks s.desk z h.opened) (sym o.alike.closed) t.turn;
      paced = tt;
      fresh = λ since e. tt;
    }

hurried_as : (w : AnswerWorth) (desks : ℕ) (h : Shown) (s : Following) (l : KeptConnectionOf)
    → s.worth ≡ w → Tells desks h s l.stage
    → Tells desks (hastened (is_of_use w) h) s (line_hurried_by w l).stage
hurried_as worth.Useful desks h s l is t = hurried desks h s l.stage (ap is_of_use is) t
hurried_as _ desks h s l is t = t

-- ---- an answer

useful_worth : (more : Bool) → is_of_use (if more then worth.Useless else worth.Useful) ≡ not more
useful_worth true = refl
useful_worth false = refl

of_use : (taken : Option MirrorGrowth) (held length : ℕ)
    → is_of_use (worth_of taken held length) ≡ is_useful taken held length
of_use (Some Known) held length = useful_worth (nat_lt held length)
of_use _ held length = refl

running_worth : (more : Bool) → is_stopped (if more then worth.Useless else worth.Useful) ≡ false
running_worth true = refl
running_worth false = refl

still_runs : (taken : Option MirrorGrowth) (held length : ℕ) → is_other taken ≡ false
    → is_stopped (worth_of taken held length) ≡ false
still_runs (Some Known) held length e = running_worth (nat_lt held length)
still_runs (Some (Differs position)) held length e = absurd (let bad : true ≡ false = e in cc)
still_runs _ held length e = refl

-- the stage once an answer came to the question of this time
told_stage : (full : Bool) (since : ℕ) (l : KeptConnectionOf)
    → l.stage ≡ stage.Answered (Some since)
    → (line_answered full l).stage ≡ stage.Answered (if full then None else Some since)
told_stage true since l is = ap hurried_stage is
told_stage false since l is = is

told_up_to : (full : Bool) (since : ℕ) (question : Option ℕ) → IsUpTo question (Some since)
    → IsUpTo (if full then None else question) (if full then None else Some since)
told_up_to true since question h = tt
told_up_to false since question h = h

answered : (desks now since : ℕ) (taken : Option MirrorGrowth) (held length : ℕ) (h : History)
    (s : Following) (st : ConnectionStage) → st ≡ stage.Asked since → is_other taken ≡ false
    → Tells desks (shown h) s st → Tells desks (shown (Then h (Answered now taken held length)))
    (after_answer s now taken held length)
    (stage.Answered (if goes_on taken held length then None else Some since))
answered desks now since taken held length h s st at same t =
    let full = goes_on taken held length in
    let new : worth_after s.worth taken held length ≡ worth_of taken held length =
    ap (λ z. if z then worth.Differs else worth_of taken held length) t.runs in
    let last : Some since ≡ (shown h).tried = sym (ap last_of at) ∙ t.last in
    record {
      number = t.number;
      runs = ap is_stopped new ∙ still_runs taken held length same;
      asked = refl;
      opening = refl;
      last = ap (λ z. if full then None else z) last;
      rests = ap is_of_use new ∙ of_use taken held length;
      rested = λ e. refl;
      most = ap (λ z. max z length) t.most;
      behind =
          ap (λ z. behind_after (is_behind z held length) s.behind now) t.most
          ∙ ap (λ z. behind_after (is_behind (shown h).longest held length) z now) t.behind;
      alone = λ e. absurd (let bad : false ≡ true = e in cc);
      turn = subst (λ z. IsTurn desks s.desk z (shown h).opened) (ap is_closed at) t.turn;
      paced =
          told_up_to full since (shown h).question
          (subst (λ z. IsUpTo (shown h).question (last_of z)) at t.paced);
      fresh = λ begun e. absurd (let bad : None ≡ Some begun = e in cc);
    }

-- ---- all calls

neither : (a b : Bool) → (a || b) ≡ false → (a ≡ false) × (b ≡ false)
neither true b e = absurd (let bad : true ≡ false = e in cc)
neither false b e = (refl, e)

pub answered_call : (desks now : ℕ) (taken : Option MirrorGrowth) (held length : ℕ) (h : History)
    (m s : Followed) → is_other taken ≡ false → Knows desks h m
    → IsAnswered now taken held length m s → (since : ℕ)
    × (s.line.stage ≡ stage.Answered (if goes_on taken held length then None else Some since))
    × Knows desks (Then h (Answered now taken held length)) s
answered_call desks now taken held length h m s same (t, asking) k =
    let a = answered_over k.answer k.piece m.line k.line k.hears in
    let at = asking a.question a.waits in
    let full = goes_on taken held length in
    let is : (line_answered full k.line).stage ≡ stage.Answered (if full then None else Some at.0) =
    told_stage full at.0 k.line (a.stage_is ∙ ap answered_stage at.1) in (
      at.0,
      ap (λ (z : Followed). z.line.stage) k.after ∙ is,
      subst (λ z. Knows desks (Then h (Answered now taken held length)) z) (sym k.after) (
        subst (λ z. Tells desks (shown (Then h (Answered now taken held length)))
            (after_answer m.follower now taken held length) z) (sym is)
            (answered desks now at.0 taken held length h m.follower m.line.stage at.1 same t),
        answered_asking full k.line (silent k.line a.unasked),
      ),
    )

called : (c : Call) (desks : ℕ) (h : History) (m s : Followed) → differed (Then h c) ≡ false
    → Knows desks h m → Calls c m s → Knows desks (Then h c) s
called (Acted now done) desks h m s same (t, asking) (is, after) =
    subst (λ z. Knows desks (Then h (Acted now done)) z) (sym after) (subst
    (λ z. Tells desks (shown (Then h (Acted now done))) (begun z m.follower)
    (line_begun z m.line now).stage × IsAsking (line_begun z m.line now)) is (
      acted done now desks h m.follower m.line (chosen done m.follower m.line now is) t,
      begun_asking done m.line now asking,
    ))
called (Asked now question) desks h m s same (t, asking) k =
    let why = chosen (Ask k.desk) m.follower m.line now k.due in
    let asks = k.asks in
    subst (λ z. Knows desks (Then h (Asked now question)) z) (sym k.after)
    (subst (λ (z : KeptConnectionOf). Tells desks (shown (Then h (Asked now question)))
    (begun (action_of m.follower m.line now) m.follower) z.stage × IsAsking z) (sym asks.2) (
      subst (λ z. Tells desks (shown (Then h (Asked now question))) (begun z m.follower)
          (stage.Asked now)) k.due (asked now k.desk desks question h m.follower m.line why t),
      λ again e. (now, refl),
    ))
called Opened desks h m s same (t, asking) (l, opens, after) =
    subst (λ z. Knows desks (Then h Opened) z) (sym after)
    (subst (λ (z : KeptConnectionOf). Tells desks (shown (Then h Opened)) m.follower z.stage
    × IsAsking z) (sym opens) (
      opened desks h m.follower m.line.stage t,
      λ again e. absurd (let bad : None ≡ Some again = e in cc),
    ))
called Moved desks h m s same (t, asking) (l, moves, after) =
    let moved = moved_over m.line l moves in
    subst (λ z. Knows desks (Then h Moved) z) (sym after) (
      subst (λ z. Tells desks (shown h) m.follower z) (sym moved.stage_is) t,
      moved_asking m.line l moved asking,
    )
called (Answered now taken held length) desks h m s same knows k =
    let both = neither (is_other taken) (differed h) same in
    (answered_call desks now taken held length h m s both.0 knows k).2
called Lost desks h m s same knows is =
    subst (λ z. Knows desks (Then h Lost) z) (sym is)
    (lost_if (is_closed m.line.stage) desks h m refl knows)
called Hurried desks h m s same (t, asking) is =
    subst (λ z. Knows desks (Then h Hurried) z) (sym is) (
      subst
          (λ z. Tells desks (hastened z (shown h)) m.follower
          (line_hurried_by m.follower.worth m.line).stage)
          t.rests (hurried_as m.follower.worth desks (shown h) m.follower m.line refl t),
      hurried_by m.follower.worth m.line asking,
    )

same_before : (h : History) (c : Call) → differed (Then h c) ≡ false → differed h ≡ false
same_before h (Answered now taken held length) e = (neither (is_other taken) (differed h) e).1
same_before h _ e = e

pub all_know : (desks : ℕ) (h : History) (s : Followed) → Leads desks h s
    → differed h ≡ false → Knows desks h s
all_know desks Start s is same =
    subst (λ z. Knows desks Start z) (sym is)
    (at_start desks, silent (new_followed desks).line refl)
all_know desks (Then h c) s (m, leads, calls) same =
    called c desks h m s same (all_know desks h m leads (same_before h c same)) calls

pub all_tell : (desks : ℕ) (h : History) (s : Followed) → Leads desks h s
    → differed h ≡ false → TellsOf desks h s
all_tell desks h s leads same = (all_know desks h s leads same).0
