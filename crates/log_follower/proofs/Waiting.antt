-- How long a follower waits.
use Rattle.std.proofs.Common.{◌≡◌, refl, sym, subst, ◌∙◌, ℕ, ◌+◌, ◌-◌, ◌≤◌, arith, Bool, true}
use Rattle.std.proofs.Common.{false, Option, None, Some, if◌then◌else◌, inl, inr, ◌⊎◌}
use Rattle.std.specs.Prelude.{◌&&◌, ◌||◌, ◌↔◌, min, not}
use Rattle.std.proofs.lemmas.Bool.{le-leb, leb-true, Decides.leb_tells}
use Rattle.desk_talks.specs.KeptConnections.{due_at, is_closed, is_free, is_over, is_used_up}
use Rattle.desk_talks.specs.KeptConnections.{last_of, left_of, pace_left, wait_at}
use Rattle.desk_talks.specs.declared.kept_connection.DueAction.{DueAction}
use Rattle.desk_talks.specs.declared.kept_connection.ConnectionStage.{ConnectionStage}
use Rattle.log_follower.specs.declared.stages.FollowAction.{FollowAction, TheVariants.Stop}
use Rattle.log_follower.specs.declared.stages.FollowAction.TheVariants.{Rest, Open, Ask, Close}
use Rattle.log_follower.specs.Following.{behind_wait, due_for, is_behind_for, is_useless}
use Rattle.log_follower.specs.Histories.{behind_since, differed, last_try, latest}
use Rattle.log_follower.{specs.Laws.Wakes, proofs.Choices.done_by, proofs.Kept.all_tell}
use Rattle.log_follower.proofs.Telling.{AreBy, IsBy, are_later, times_of}
use Rattle.log_follower.proofs.Outcomes.{all_stop, bool_cases}
use Rattle.desk_talks.specs.declared.kept_connection.DueAction.TheVariants as due
use Rattle.desk_talks.specs.declared.kept_connection.ConnectionStage.TheVariants as stage

over_when : (since millis now moment : ℕ) → since ≤ now → now ≤ moment
    → (is_over moment since millis ≡ true) ↔ (now + left_of now since millis ≤ moment)
over_when since millis now moment begun later = (
  λ e. let k = leb-true millis (moment - since) e in omega (arith, k, begun, later),
  λ k. le-leb millis (moment - since) (omega (arith, k, begun, later)),
)

free_when : (last : Option ℕ) (now moment : ℕ) → IsBy last now → now ≤ moment
    → (is_free last moment ≡ true) ↔ (now + pace_left last now ≤ moment)
free_when None now moment begun later = (λ e. omega (arith, later), λ k. refl)
free_when (Some last) now moment begun later = over_when last 250 now moment begun later

least_of : (a b now moment : ℕ) → now + min a b ≤ moment → (now + a ≤ moment) ⊎ (now + b ≤ moment)
least_of a b now moment k =
    elim (leb_tells a b) [
      | inl e ↦ let less = e.1 in inl (omega (arith, k, less))
      | inr e ↦ let less = e.1 in inr (omega (arith, k, less))
    ]

or_false : (a : Bool) → (a || false) ≡ a
or_false true = refl
or_false false = refl

-- something is due over the connection, or the desk has been behind for too long
either_when : (due : Bool) (wait : ℕ) (behind : Option ℕ) (now moment : ℕ) → wait ≤ 2000
    → IsBy behind now → now ≤ moment → (due ≡ true) ↔ (now + wait ≤ moment)
    → ((due || is_behind_for behind moment) ≡ true)
    ↔ (now + min wait (behind_wait behind now) ≤ moment)
either_when due wait None now moment short begun later h = (
  λ e. let k = h.0 (sym (or_false due) ∙ e) in omega (arith, k),
  λ k. or_false due ∙ h.1 (omega (arith, k, short)),
)
either_when true wait (Some since) now moment short begun later h =
    (λ e. let k = h.0 refl in omega (arith, k), λ k. refl)
either_when false wait (Some since) now moment short begun later h =
    let w = over_when since 5000 now moment begun later in (
      λ e. let k = w.0 e in omega (arith, k),
      λ k.
          elim (least_of wait (left_of now since 5000) now moment k) [
            | inl early ↦ absurd (let bad : false ≡ true = h.1 early in cc)
            | inr late ↦ w.1 late
          ],
    )

-- an action is no rest exactly where the test passes
due_when : (is : Bool) (d : DueAction) (desk : ℕ) → (due_for d desk ≡ Rest → ⊥)
    → (¬ (due_for (if is then d else due.Rest) desk ≡ Rest)) ↔ (is ≡ true)
due_when true d desk other = (λ e. refl, λ e. other)
due_when false d desk other =
    (λ e. absurd (e refl), λ e. absurd (let bad : false ≡ true = e in cc))

either_due : (leaves is : Bool) (d : DueAction) (desk : ℕ) → (due_for d desk ≡ Rest → ⊥)
    → (¬ ((if leaves then Close desk else due_for (if is then d else due.Rest) desk) ≡ Rest))
    ↔ ((is || leaves) ≡ true)
either_due true true d desk other = (λ e. refl, λ e bad. cc)
either_due true false d desk other = (λ e. refl, λ e bad. cc)
either_due false true d desk other = (λ e. refl, λ e. other)
either_due false false d desk other =
    (λ e. absurd (e refl), λ e. absurd (let bad : false ≡ true = e in cc))

both_ways : {P Q R : Type 0} → P ↔ Q → Q ↔ R → P ↔ R
both_ways h k = (λ p. k.0 (h.0 p), λ r. h.1 (k.1 r))

always : (some : FollowAction) (now moment : ℕ) → (some ≡ Rest → ⊥) → now ≤ moment → (wait : ℕ)
    → wait ≡ 0 → (¬ (some ≡ Rest)) ↔ (now + wait ≤ moment)
always some now moment other later wait none = (λ e. omega (arith, none, later), λ k. other)

open_no_rest : (desk : ℕ) → Open desk ≡ Rest → ⊥
open_no_rest desk e = cc

ask_no_rest : (desk : ℕ) → Ask desk ≡ Rest → ⊥
ask_no_rest desk e = cc

close_no_rest : (desk : ℕ) → Close desk ≡ Rest → ⊥
close_no_rest desk e = cc

stop_no_rest : Stop ≡ Rest → ⊥
stop_no_rest e = cc

leaves_or : (leaves : Bool) (other : FollowAction) (desk : ℕ) → (other ≡ Rest → ⊥)
    → (if leaves then Close desk else other) ≡ Rest → ⊥
leaves_or true other desk rests e = cc
leaves_or false other desk rests e = rests e

short_left : (now since millis : ℕ) → left_of now since millis ≤ millis
short_left now since millis = omega arith

short_pace : (last : Option ℕ) (now : ℕ) → pace_left last now ≤ 2000
short_pace None now = omega arith
short_pace (Some last) now = omega arith

min_zero : (n : ℕ) → min 0 n ≡ 0
min_zero n = omega arith

abbrev Wakens : FollowAction → ℕ → ℕ → ℕ → Type 0
Wakens done wait now moment = (¬ (done ≡ Rest)) ↔ (now + wait ≤ moment)

-- over a connection
open_wakes : (st : ConnectionStage) (used_up : Bool) (desk : ℕ) (behind : Option ℕ)
    (now moment : ℕ) → is_closed st ≡ false → AreBy (last_of st) behind now → now ≤ moment → Wakens
    (if is_behind_for behind moment then Close desk else due_for (due_at st used_up moment) desk)
    (min (wait_at st used_up now) (behind_wait behind now)) now moment
open_wakes (stage.Closed last) used_up desk behind now moment there t later =
    absurd (let bad : true ≡ false = there in cc)
open_wakes (stage.Opening since) used_up desk behind now moment there t later =
    both_ways (either_due (is_behind_for behind moment) (is_over moment since 2000) due.Close desk
    (close_no_rest desk)) (either_when (is_over moment since 2000) (left_of now since 2000) behind
    now moment (short_left now since 2000) t.1 later (over_when since 2000 now moment t.0 later))
open_wakes (stage.Opened since) used_up desk behind now moment there t later =
    always _ now moment (leaves_or (is_behind_for behind moment) (Ask desk) desk (ask_no_rest desk))
    later (min 0 (behind_wait behind now)) (min_zero (behind_wait behind now))
open_wakes (stage.Asked since) used_up desk behind now moment there t later =
    both_ways (either_due (is_behind_for behind moment) (is_over moment since 2000) due.Close desk
    (close_no_rest desk)) (either_when (is_over moment since 2000) (left_of now since 2000) behind
    now moment (short_left now since 2000) t.1 later (over_when since 2000 now moment t.0 later))
open_wakes (stage.Answered last) true desk behind now moment there t later =
    always _ now moment
    (leaves_or (is_behind_for behind moment) (Close desk) desk (close_no_rest desk)) later
    (min 0 (behind_wait behind now)) (min_zero (behind_wait behind now))
open_wakes (stage.Answered last) false desk behind now moment there t later =
    both_ways
    (either_due (is_behind_for behind moment) (is_free last moment) due.Ask desk (ask_no_rest desk))
    (either_when (is_free last moment) (pace_left last now) behind now moment (short_pace last now)
    t.1 later (free_when last now moment t.0 later))

closed_wakes : (last : Option ℕ) (desk now moment : ℕ) → IsBy last now → now ≤ moment
    → Wakens (due_for (if is_free last moment then due.Open else due.Rest) desk)
    (pace_left last now) now moment
closed_wakes last desk now moment begun later =
    both_ways (due_when (is_free last moment) due.Open desk (open_no_rest desk))
    (free_when last now moment begun later)

-- how long it is waited, by what the follower and its connection hold
abbrev wait_by : Bool → Bool → ConnectionStage → Bool → Option ℕ → ℕ → ℕ
wait_by stopped useless st used_up behind now =
    if stopped then 0 else (
    if is_closed st then wait_at st used_up now else (
    if useless then 0 else min (wait_at st used_up now) (behind_wait behind now)
    )
    )

abbrev WakesBy : Bool → Bool → ConnectionStage → Bool → ℕ → Option ℕ → ℕ → ℕ → Type 0
WakesBy stopped useless st used_up desk behind now moment =
    Wakens (done_by stopped useless st used_up desk behind moment)
    (wait_by stopped useless st used_up behind now) now moment

running_wakes : (useless closed : Bool) (st : ConnectionStage) (used_up : Bool) (desk : ℕ)
    (behind : Option ℕ) (now moment : ℕ) → is_closed st ≡ closed → AreBy (last_of st) behind now
    → now ≤ moment → WakesBy false useless st used_up desk behind now moment
running_wakes useless true (stage.Closed last) used_up desk behind now moment is t later =
    closed_wakes last desk now moment t.0 later
running_wakes useless true _ used_up desk behind now moment is t later =
    absurd (let bad : false ≡ true = is in cc)
running_wakes true false st used_up desk behind now moment is t later =
    subst (λ z. Wakens (if not z && true then Close desk
    else due_for (due_at st used_up moment) desk)
    (if z then wait_at st used_up now else 0) now moment) (sym is)
    (always (Close desk) now moment (close_no_rest desk) later 0 refl)
running_wakes false false st used_up desk behind now moment is t later =
    subst (λ z. Wakens (if not z && is_behind_for behind moment then Close desk else due_for
    (due_at st used_up moment) desk)
    (if z then wait_at st used_up now else min (wait_at st used_up now) (behind_wait behind now))
    now moment) (sym is) (open_wakes st used_up desk behind now moment is t later)

pub wakes : Wakes
wakes desks h s now moment r later =
    let useless = is_useless s.follower.worth in
    let st = s.line.stage in
    let used_up = is_used_up s.line.asked in
    let desk = s.follower.desk in
    let behind = s.follower.behind in
    elim (bool_cases (differed h)) [
      | inl e ↦
          subst (λ z. WakesBy z useless st used_up desk behind now moment)
          (sym (all_stop desks h s r.leads e)) (always Stop now moment stop_no_rest later 0 refl)
      | inr e ↦
          let t = all_tell desks h s r.leads e in
          let times : AreBy (last_of st) behind now = subst (λ z. AreBy z behind now) (sym t.last)
          (subst (λ z. AreBy (last_try h) z now) (sym t.behind)
          (are_later (last_try h) (behind_since h) (latest h) now r.later (times_of h r.timed))) in
          subst (λ z. WakesBy z useless st used_up desk behind now moment) (sym t.runs)
          (running_wakes useless (is_closed st) st used_up desk behind now moment refl times later)
    ]
