-- The laws of followers.
use Rattle.std.proofs.Common.{◌≡◌, sym, ap, ◌∙◌, ◌+◌, ◌-◌, ◌≤◌, ◌<◌, suc, ◌∷◌, Some, inl, inr, ◌⊎◌}
use Rattle.std.proofs.Common.{refl, subst, ℕ, arith, Bool, true, false, Option, None, if◌then◌else◌}
use Rattle.std.specs.Prelude.{◌&&◌, ◌||◌, nat_lt, max, not}
use Rattle.std.proofs.lemmas.Bool.{le-leb, leb-true}
use Rattle.mirror.specs.declared.mirror.MirrorGrowth.{MirrorGrowth}
use Rattle.mirror.specs.declared.mirror.MirrorGrowth.TheVariants.{Grew, Known, Gap, Differs}
use Rattle.desk_talks.specs.KeptConnections.{closed, due_at, due_of, is_closed, is_over, is_used_up}
use Rattle.desk_talks.specs.KeptConnections.{last_of}
use Rattle.desk_talks.specs.declared.kept_connection.ConnectionStage.{ConnectionStage}
use Rattle.log_follower.specs.declared.stages.{AnswerWorth.AnswerWorth, FollowAction.FollowAction}
use Rattle.log_follower.specs.declared.stages.FollowAction.TheVariants.{Open, Ask, Close, Stop}
use Rattle.log_follower.specs.Following.{Following, after_answer, begun, behind_after, due_for}
use Rattle.log_follower.specs.Following.{goes_on, line_begun, is_behind, is_behind_for, is_stopped}
use Rattle.log_follower.specs.Following.{is_to_be_left, is_useless, turned, worth_of}
use Rattle.log_follower.specs.Histories.{Acted, Answered, Asked, Call, Calls, Followed, History}
use Rattle.log_follower.specs.Histories.{Hurried, Leads, Lost, Moved, Opened, Start, Then, IsTimed}
use Rattle.log_follower.specs.Histories.{action_at, differed, followed, is_other, is_useful}
use Rattle.log_follower.specs.Histories.{last_question, last_try, latest, openings, behind_since}
use Rattle.log_follower.specs.Histories.{longest, rests, tried_in_vain}
use Rattle.log_follower.specs.Laws.{AreInTurn, FullAnswersGoOn, NoneIsForgotten, QuestionsArePaced}
use Rattle.log_follower.specs.Laws.{BehindDesksAreLeft, HurriesNeedAnswers, SilentDesksAreLeft}
use Rattle.log_follower.specs.Laws.{GoesOn, IsAfter, IsLeft, IsPaced, IsReached, StopsForGood}
use Rattle.log_follower.proofs.Choices.{asked_in, chosen, done_by, free_after, fresh_in, is_of_use}
use Rattle.log_follower.proofs.{Choices.opening_in, Turns.IsTurn, Turns.each_is_among}
use Rattle.log_follower.proofs.Telling.{IsBy, after_later, times_of, up_to_after}
use Rattle.log_follower.proofs.Kept.{all_know, all_tell, answered_call}
use Rattle.desk_talks.specs.declared.kept_connection.DueAction.TheVariants as due
use Rattle.desk_talks.specs.declared.kept_connection.ConnectionStage.TheVariants as stage
use Rattle.log_follower.specs.declared.stages.AnswerWorth.TheVariants as worth

-- ---- the end

pub bool_cases : (b : Bool) → (b ≡ true) ⊎ (b ≡ false)
bool_cases true = inl refl
bool_cases false = inr refl

stopped_acts : (s : Followed) (now : ℕ) → is_stopped s.follower.worth ≡ true
    → action_at s now ≡ Stop
stopped_acts s now at =
    ap (λ z. if z then Stop else (
    if is_to_be_left s.follower s.line now then Close s.follower.desk
    else due_for (due_of s.line now) s.follower.desk
    )) at

lost_stopped : (apart : Bool) (s : Followed) → is_stopped s.follower.worth ≡ true
    → is_stopped (if apart then s else followed (turned s.follower) (closed s.line)).follower.worth
    ≡ true
lost_stopped true s at = at
lost_stopped false s at = at

after_stopped : (c : Call) (m s : Followed) → is_stopped m.follower.worth ≡ true → Calls c m s
    → is_stopped s.follower.worth ≡ true
after_stopped (Acted now done) m s at (is, after) =
    ap (λ (z : Followed). is_stopped z.follower.worth) after
    ∙ ap (λ z. is_stopped (begun z m.follower).worth) (stopped_acts m now at) ∙ at
after_stopped (Asked now question) m s at k =
    ap (λ (z : Followed). is_stopped z.follower.worth) k.after
    ∙ ap (λ z. is_stopped (begun z m.follower).worth) (stopped_acts m now at) ∙ at
after_stopped Opened m s at (l, opens, after) =
    ap (λ (z : Followed). is_stopped z.follower.worth) after ∙ at
after_stopped Moved m s at (l, moves, after) =
    ap (λ (z : Followed). is_stopped z.follower.worth) after ∙ at
after_stopped (Answered now taken held length) m s at k =
    ap (λ (z : Followed). is_stopped z.follower.worth) k.after
    ∙ ap (λ z. is_stopped (if z then worth.Differs else worth_of taken held length)) at
after_stopped Lost m s at is =
    ap (λ (z : Followed). is_stopped z.follower.worth) is
    ∙ lost_stopped (is_closed m.line.stage) m at
after_stopped Hurried m s at is = ap (λ (z : Followed). is_stopped z.follower.worth) is ∙ at

either : (a b : Bool) → (a || b) ≡ true → (a ≡ true) ⊎ (b ≡ true)
either true b e = inl refl
either false b e = inr e

if_stops : (stopped : Bool) → is_stopped (if stopped then worth.Differs else worth.Differs) ≡ true
if_stops true = refl
if_stops false = refl

other_stops : (taken : Option MirrorGrowth) (m : Following) (now held length : ℕ)
    → is_other taken ≡ true → is_stopped (after_answer m now taken held length).worth ≡ true
other_stops (Some (Differs position)) m now held length e = if_stops (is_stopped m.worth)
other_stops _ m now held length e = absurd (let bad : false ≡ true = e in cc)

stops_at : (c : Call) (h : History) (m s : Followed) → Calls c m s
    → differed (Then h c) ≡ true → (differed h ≡ true → is_stopped m.follower.worth ≡ true)
    → is_stopped s.follower.worth ≡ true
stops_at (Answered now taken held length) h m s k e before =
    elim (either (is_other taken) (differed h) e) [
      | inl other ↦
          ap (λ (z : Followed). is_stopped z.follower.worth) k.after
          ∙ other_stops taken m.follower now held length other
      | inr earlier ↦ after_stopped (Answered now taken held length) m s (before earlier) k
    ]
stops_at c h m s k e before = after_stopped c m s (before e) k

pub all_stop : (desks : ℕ) (h : History) (s : Followed) → Leads desks h s → differed h ≡ true
    → is_stopped s.follower.worth ≡ true
all_stop desks Start s leads e = absurd (let bad : false ≡ true = e in cc)
all_stop desks (Then h c) s (m, leads, calls) e =
    stops_at c h m s calls e (all_stop desks h m leads)

only_other : (desks : ℕ) (h : History) (s : Followed) (now : ℕ) → Leads desks h s
    → action_at s now ≡ Stop → differed h ≡ true
only_other desks h s now leads is =
    elim (bool_cases (differed h)) [
      | inl e ↦ e
      | inr e ↦
          let runs = (all_tell desks h s leads e).runs in
          let why = chosen Stop s.follower s.line now (sym is) in
          absurd (let bad : true ≡ false = sym why ∙ runs in cc)
    ]

pub stops_for_good : StopsForGood
stops_for_good desks h s now leads =
    (only_other desks h s now leads, λ e. stopped_acts s now (all_stop desks h s leads e))

-- what is done is no stop
runs_at : (desks : ℕ) (h : History) (s : Followed) → Leads desks h s
    → is_stopped s.follower.worth ≡ false → differed h ≡ false
runs_at desks h s leads runs =
    elim (bool_cases (differed h)) [
      | inl e ↦
          let at = all_stop desks h s leads e in
          absurd (let bad : false ≡ true = sym runs ∙ at in cc)
      | inr e ↦ e
    ]

-- ---- questions

opening_paced : (desks : ℕ) (h : History) (s : Followed) (now d : ℕ) → Leads desks h s
    → Open d ≡ action_at s now → IsAfter (last_try h) now
opening_paced desks h s now d leads is =
    let (runs, at_desk, (last, at, free)) = chosen (Open d) s.follower s.line now is in
    let t = all_tell desks h s leads (runs_at desks h s leads runs) in
    subst (λ z. IsAfter z now) (sym (ap last_of at) ∙ t.last) (free_after last now free)

asking_paced : (desks : ℕ) (h : History) (s : Followed) (now d : ℕ) → Leads desks h s
    → IsTimed h → latest h ≤ now → Ask d ≡ action_at s now → IsAfter (last_question h) now
asking_paced desks h s now d leads timed later is =
    let why = chosen (Ask d) s.follower s.line now is in
    let t = all_tell desks h s leads (runs_at desks h s leads why.0) in
    elim (why.2) [
      | inl new ↦
          let at = new.1 in
          let before : new.0 ≤ latest h =
          subst (λ z. IsBy z (latest h)) (sym t.last ∙ ap last_of at) (times_of h timed).0 in
          after_later (last_question h) new.0 now (t.fresh new.0 (ap fresh_in at))
          (omega (arith, before, later))
      | inr kept ↦
          let at = kept.1 in
          up_to_after (last_question h) (last_of s.line.stage) now t.paced
          (subst (λ z. IsAfter (last_of z) now) (sym at) (free_after kept.0 now kept.2))
    ]

paced : (done : FollowAction) (desks : ℕ) (h : History) (s : Followed) (now : ℕ)
    → IsReached desks h s now → done ≡ action_at s now → IsPaced done h now
paced (Open d) desks h s now r is = opening_paced desks h s now d r.leads is
paced (Ask d) desks h s now r is = asking_paced desks h s now d r.leads r.timed r.later is
paced _ desks h s now r is = tt

pub questions_are_paced : QuestionsArePaced
questions_are_paced desks h s now r = paced (action_at s now) desks h s now r refl

-- ---- hurries

-- where the last question or opening was in vain, a hurry does nothing
abbrev IsInVain : Bool → Option ℕ → ℕ → Type 0
IsInVain rested last since = (rested ≡ false) × (last ≡ Some since)

known_in_vain : (more : Bool) (tried last : Option ℕ) (since : ℕ)
    → (tried ≡ Some since → last ≡ Some since)
    → (if not more then None else tried) ≡ Some since → IsInVain (not more) last since
known_in_vain true tried last since k e = (refl, k e)
known_in_vain false tried last since k e = absurd (let bad : None ≡ Some since = e in cc)

answered_in_vain : (taken : Option MirrorGrowth) (held length : ℕ) (tried last : Option ℕ)
    (since : ℕ) → (tried ≡ Some since → last ≡ Some since)
    → (if is_useful taken held length then None else tried) ≡ Some since
    → IsInVain (is_useful taken held length) (if goes_on taken held length then None else last)
    since
answered_in_vain (Some Known) held length tried last since k e =
    known_in_vain (nat_lt held length) tried last since k e
answered_in_vain (Some Gap) held length tried last since k e = (refl, k e)
answered_in_vain (Some (Differs position)) held length tried last since k e = (refl, k e)
answered_in_vain _ held length tried last since k e =
    absurd (let bad : None ≡ Some since = e in cc)

in_vain : (h : History) (since : ℕ) → tried_in_vain h ≡ Some since
    → IsInVain (rests h) (last_try h) since
in_vain Start since e = absurd (let bad : None ≡ Some since = e in cc)
in_vain (Then h (Acted now (Open d))) since e = (refl, e)
in_vain (Then h (Acted now (Ask d))) since e = (refl, (in_vain h since e).1)
in_vain (Then h (Asked now question)) since e = (refl, e)
in_vain (Then h (Answered now taken held length)) since e =
    answered_in_vain taken held length (tried_in_vain h) (last_try h) since
    (λ z. (in_vain h since z).1) e
in_vain (Then h Hurried) since e =
    let k = in_vain h since e in
    (k.0, ap (λ z. if z then None else last_try h) k.0 ∙ k.1)
in_vain (Then h _) since e = in_vain h since e

pub hurries_need_answers : HurriesNeedAnswers
hurries_need_answers desks h s now since desk leads vain is =
    subst (λ z. IsAfter z now) (in_vain h since vain).1
    (opening_paced desks h s now desk leads (sym is))

-- ---- desks that are left

asked_stage : (st : ConnectionStage) (since : ℕ) → asked_in st ≡ Some since → st ≡ stage.Asked since
asked_stage (stage.Asked at) since e = cc
asked_stage _ since e = absurd (let bad : None ≡ Some since = e in cc)

opening_stage : (st : ConnectionStage) (since : ℕ) → opening_in st ≡ Some since
    → st ≡ stage.Opening since
opening_stage (stage.Opening at) since e = cc
opening_stage _ since e = absurd (let bad : None ≡ Some since = e in cc)

over_after : (now since millis : ℕ) → 0 < millis → since + millis ≤ now
    → is_over now since millis ≡ true
over_after now since millis some late = le-leb millis (now - since) (omega (arith, late))

closes : (stops leaves : Bool) (desk : ℕ) (other : FollowAction) → stops ≡ false
    → (leaves ≡ false → other ≡ Close desk)
    → (if stops then Stop else (if leaves then Close desk else other)) ≡ Close desk
closes true leaves desk other e f = absurd (let bad : true ≡ false = e in cc)
closes false true desk other e f = refl
closes false false desk other e f = f refl

leaves_now : (s : Followed) (now : ℕ) → is_stopped s.follower.worth ≡ false
    → (is_to_be_left s.follower s.line now ≡ false
    → due_for (due_of s.line now) s.follower.desk ≡ Close s.follower.desk) → IsLeft s now
leaves_now s now runs leaves =
    let is : action_at s now ≡ Close s.follower.desk =
    closes (is_stopped s.follower.worth) (is_to_be_left s.follower s.line now) s.follower.desk
    (due_for (due_of s.line now) s.follower.desk) runs leaves in
    record { closes = is; next = ap (λ z. (begun z s.follower).desk) is }

silent_left : (s : Followed) (now : ℕ) → is_stopped s.follower.worth ≡ false
    → due_of s.line now ≡ due.Close → IsLeft s now
silent_left s now runs is =
    leaves_now s now runs (λ stays. ap (λ z. due_for z s.follower.desk) is)

pub silent_desks_are_left : SilentDesksAreLeft
silent_desks_are_left desks h s now since leads same (inl opens) late =
    let t = all_tell desks h s leads same in
    let at = opening_stage s.line.stage since (t.opening ∙ opens) in
    silent_left s now t.runs (ap (λ z. due_at z (is_used_up s.line.asked) now) at
    ∙ ap (λ z. if z then due.Close else due.Rest) (over_after now since 2000 (omega arith) late))
silent_desks_are_left desks h s now since leads same (inr asked) late =
    let t = all_tell desks h s leads same in
    let at = asked_stage s.line.stage since (t.asked ∙ asked) in
    silent_left s now t.runs (ap (λ z. due_at z (is_used_up s.line.asked) now) at
    ∙ ap (λ z. if z then due.Close else due.Rest) (over_after now since 2000 (omega arith) late))

behind_leaves : (apart useless behind : Bool) → apart ≡ false → behind ≡ true
    → (not apart && (useless || behind)) ≡ true
behind_leaves true useless behind e f = absurd (let bad : true ≡ false = e in cc)
behind_leaves false true behind e f = refl
behind_leaves false false behind e f = f

pub behind_desks_are_left : BehindDesksAreLeft
behind_desks_are_left desks h s now since leads same behind late =
    let t = all_tell desks h s leads same in
    let at : s.follower.behind ≡ Some since = t.behind ∙ behind in
    elim (bool_cases (is_closed s.line.stage)) [
      | inl apart ↦ absurd (let bad : None ≡ Some since = sym (t.alone apart) ∙ at in cc)
      | inr there ↦
          let leaves : is_to_be_left s.follower s.line now ≡ true =
          behind_leaves (is_closed s.line.stage) (is_useless s.follower.worth)
          (is_behind_for s.follower.behind now) there
          (ap (λ z. is_behind_for z now) at ∙ over_after now since 5000 (omega arith) late) in
          leaves_now s now t.runs
          (λ stays. absurd (let bad : true ≡ false = sym leaves ∙ stays in cc))
    ]

-- ---- full answers

lt_true : (a b : ℕ) → a < b → nat_lt a b ≡ true
lt_true a b less = le-leb (suc a) b (omega (arith, less))

not_behind : (most held length : ℕ) → most ≤ length → held < length
    → is_behind most held length ≡ false
not_behind most held length longest more =
    elim (bool_cases (is_behind most held length)) [
      | inl e ↦
          let bad = leb-true (suc length) (max most held) e in
          absurd (omega (arith, bad, longest, more))
      | inr e ↦ e
    ]

done_is : (s : Followed) (now : ℕ) (st : ConnectionStage) (used_up : Bool) (behind : Option ℕ)
    → is_stopped s.follower.worth ≡ false → is_useless s.follower.worth ≡ false
    → s.follower.behind ≡ behind → s.line.stage ≡ st → is_used_up s.line.asked ≡ used_up
    → action_at s now ≡ done_by false false st used_up s.follower.desk behind now
done_is s now st used_up behind runs useful since at used =
    let desk = s.follower.desk in
    let useless = is_useless s.follower.worth in
    let count = is_used_up s.line.asked in
    ap (λ z. done_by z useless s.line.stage count desk s.follower.behind now) runs
    ∙ (ap (λ z. done_by false z s.line.stage count desk s.follower.behind now) useful
    ∙ (ap (λ z. done_by false false s.line.stage count desk z now) since
    ∙ (ap (λ z. done_by false false z count desk behind now) at
    ∙ ap (λ z. done_by false false st z desk behind now) used)))

-- what is to be done over a connection on which the next question may come at once
full_action : (s : Followed) (later : ℕ) (used_up : Bool) → is_stopped s.follower.worth ≡ false
    → is_useless s.follower.worth ≡ false → s.follower.behind ≡ None
    → s.line.stage ≡ stage.Answered None → is_used_up s.line.asked ≡ used_up
    → GoesOn used_up s later
full_action s later false runs useful behind at used =
    done_is s later (stage.Answered None) false None runs useful behind at used
full_action s later true runs useful behind at used =
    let closes : action_at s later ≡ Close s.follower.desk =
    done_is s later (stage.Answered None) true None runs useful behind at used in (
      closes,
      ap (λ z. action_at (followed (begun z s.follower) (line_begun z s.line later)) later) closes
          ∙ done_is (followed (turned s.follower) (closed s.line)) later (stage.Closed None) false None
          runs useful refl (ap (λ z. stage.Closed (last_of z)) at) refl,
    )

use_only : (w : AnswerWorth) → is_of_use w ≡ true → is_useless w ≡ false
use_only worth.Useless e = absurd (let bad : false ≡ true = e in cc)
use_only _ e = refl

pub full_answers_go_on : FullAnswersGoOn
full_answers_go_on desks h s now held length later (m, leads, calls) same more long =
    let (since, at, (t, asking)) = answered_call desks now (Some Grew) held length h m s refl
    (all_know desks h m leads same) calls in
    full_action s later (is_used_up s.line.asked) t.runs (use_only s.follower.worth t.rests)
    (t.behind
    ∙ ap (λ z. behind_after z (behind_since h) now) (not_behind (longest h) held length long more))
    (at ∙ ap (λ z. stage.Answered (if z then None else Some since)) (lt_true held length more)) refl

-- ---- turns

in_turn : (desks : ℕ) (h : History) (s : Followed) → Leads desks h s → AreInTurn desks (openings h)
in_turn desks Start s leads = tt
in_turn desks (Then h (Acted now (Open d))) s (m, leads, calls) =
    let (runs, is, (last, at, free)) = chosen (Open d) m.follower m.line now calls.0 in
    let t = all_tell desks h m leads (runs_at desks h m leads runs) in
    subst (λ z. AreInTurn desks (z ∷ openings h)) (sym is)
    (subst (λ z. IsTurn desks m.follower.desk z (openings h)) (ap is_closed at) t.turn)
in_turn desks (Then h _) s (m, leads, calls) = in_turn desks h m leads

pub none_is_forgotten : NoneIsForgotten
none_is_forgotten desks h s place leads =
    let turn = in_turn desks h s leads in
    let some = place.last in
    (turn, each_is_among desks (openings h) some turn)
