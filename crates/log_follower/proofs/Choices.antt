-- What is known where an action is chosen, and of the stages of a connection.
use Rattle.std.proofs.Common.{◌≡◌, refl, subst, ℕ, ◌-◌, arith, ap, sym, Bool, true, false, Option}
use Rattle.std.proofs.Common.{None, Some, if◌then◌else◌, inl, inr, ◌⊎◌}
use Rattle.std.specs.Prelude.{◌&&◌, ◌||◌, not}
use Rattle.std.proofs.lemmas.Bool.{leb-true}
use Rattle.desk_talks.specs.KeptConnections.{KeptConnectionOf, due_at, due_of, hurried_stage}
use Rattle.desk_talks.specs.KeptConnections.{is_closed, is_free, is_over, is_used_up, last_of}
use Rattle.desk_talks.specs.KeptConnections.{open_at_once, opened_stage}
use Rattle.desk_talks.specs.declared.kept_connection.DueAction.{DueAction}
use Rattle.desk_talks.specs.declared.kept_connection.ConnectionStage.{ConnectionStage}
use Rattle.log_follower.specs.{declared.stages.AnswerWorth.AnswerWorth, Laws.IsAfter}
use Rattle.log_follower.specs.declared.stages.FollowAction.{FollowAction, TheVariants.Stop}
use Rattle.log_follower.specs.declared.stages.FollowAction.TheVariants.{Rest, Open, Ask, Close}
use Rattle.log_follower.specs.Following.{Following, action_of, due_for, is_behind_for, is_stopped}
use Rattle.log_follower.specs.Following.{is_to_be_left, is_useless}
use Rattle.desk_talks.specs.declared.kept_connection.DueAction.TheVariants as due
use Rattle.desk_talks.specs.declared.kept_connection.ConnectionStage.TheVariants as stage
use Rattle.log_follower.specs.declared.stages.AnswerWorth.TheVariants as worth

if_has : {A : Type 0} (P : A → Type 0) (b : Bool) (x y : A) → (b ≡ true → P x)
    → (b ≡ false → P y) → P (if b then x else y)
if_has P true x y p q = p refl
if_has P false x y p q = q refl

-- why something is due over a connection
abbrev pub DueFrom : DueAction → ConnectionStage → ℕ → Type 0
DueFrom due.Rest st now = Unit {0}
DueFrom due.Open st now =
    (last : Option ℕ) × (st ≡ stage.Closed last) × (is_free last now ≡ true)
DueFrom due.Ask st now =
    ((since : ℕ) × (st ≡ stage.Opened since))
    ⊎ ((last : Option ℕ) × (st ≡ stage.Answered last) × (is_free last now ≡ true))
DueFrom due.Close st now = is_closed st ≡ false
DueFrom due.Renew st now = is_closed st ≡ false

due_from : (st : ConnectionStage) (used_up : Bool) (now : ℕ)
    → DueFrom (due_at st used_up now) st now
due_from (stage.Closed last) used_up now =
    if_has (λ z. DueFrom z (stage.Closed last) now) (is_free last now) due.Open due.Rest
    (λ e. (last, refl, e)) (λ e. tt)
due_from (stage.Opening since) used_up now =
    if_has (λ z. DueFrom z (stage.Opening since) now) (is_over now since 2000) due.Close
    due.Rest (λ e. refl) (λ e. tt)
due_from (stage.Opened since) used_up now = inl (since, refl)
due_from (stage.Asked since) used_up now =
    if_has (λ z. DueFrom z (stage.Asked since) now) (is_over now since 2000) due.Close due.Rest
    (λ e. refl) (λ e. tt)
due_from (stage.Answered last) true now = refl
due_from (stage.Answered last) false now =
    if_has (λ z. DueFrom z (stage.Answered last) now) (is_free last now) due.Ask due.Rest
    (λ e. inr (last, refl, e)) (λ e. tt)

-- why an action is chosen
abbrev pub ActsFrom : FollowAction → Following → KeptConnectionOf → ℕ → Type 0
ActsFrom Rest s l now = Unit {0}
ActsFrom (Open d) s l now =
    (is_stopped s.worth ≡ false) × (d ≡ s.desk) × DueFrom due.Open l.stage now
ActsFrom (Ask d) s l now =
    (is_stopped s.worth ≡ false) × (d ≡ s.desk) × DueFrom due.Ask l.stage now
ActsFrom (Close d) s l now =
    (is_stopped s.worth ≡ false) × (d ≡ s.desk) × (is_closed l.stage ≡ false)
ActsFrom Stop s l now = is_stopped s.worth ≡ true

due_acts : (d : DueAction) (s : Following) (l : KeptConnectionOf) (now : ℕ)
    → is_stopped s.worth ≡ false → DueFrom d l.stage now → ActsFrom (due_for d s.desk) s l now
due_acts due.Rest s l now runs from = tt
due_acts _ s l now runs from = (runs, refl, from)

first_false : (a b : Bool) → (not a && b) ≡ true → a ≡ false
first_false true b e = absurd (let bad : false ≡ true = e in cc)
first_false false b e = refl

acts_from : (s : Following) (l : KeptConnectionOf) (now : ℕ) → ActsFrom (action_of s l now) s l now
acts_from s l now =
    if_has (λ z. ActsFrom z s l now) (is_stopped s.worth) Stop
    (if is_to_be_left s l now then Close s.desk else due_for (due_of l now) s.desk) (λ e. e) (λ
    runs. if_has (λ z. ActsFrom z s l now) (is_to_be_left s l now) (Close s.desk)
    (due_for (due_of l now) s.desk) (λ leaves. (
      runs,
      refl,
      first_false (is_closed l.stage) (is_useless s.worth || is_behind_for s.behind now) leaves,
    ))
    (λ stays. due_acts (due_of l now) s l now runs (due_from l.stage (is_used_up l.asked) now)))

pub chosen : (done : FollowAction) (s : Following) (l : KeptConnectionOf) (now : ℕ)
    → done ≡ action_of s l now → ActsFrom done s l now
chosen done s l now is = subst (λ z. ActsFrom z s l now) (sym is) (acts_from s l now)

-- what is to be done, by what the follower and its connection hold
abbrev pub done_by : Bool → Bool → ConnectionStage → Bool → ℕ → Option ℕ → ℕ → FollowAction
done_by stopped useless st used_up desk behind now =
    if stopped then Stop else (
    if not (is_closed st) && (useless || is_behind_for behind now) then Close desk
    else due_for (due_at st used_up now) desk
    )

-- a desk is asked only over a connection
pub ask_open : (st : ConnectionStage) (now : ℕ) → DueFrom due.Ask st now → is_closed st ≡ false
ask_open st now (inl (since, at)) = ap is_closed at
ask_open st now (inr (last, at, free)) = ap is_closed at

pub free_after : (last : Option ℕ) (now : ℕ) → is_free last now ≡ true → IsAfter last now
free_after None now free = tt
free_after (Some last) now free = let e = leb-true 250 (now - last) free in omega (arith, e)

-- ---- stages

-- the time of a question that waits for its answer
abbrev pub asked_in : ConnectionStage → Option ℕ
asked_in (stage.Asked since) = Some since
asked_in _ = None

-- the time since which a connection is being opened
abbrev pub opening_in : ConnectionStage → Option ℕ
opening_in (stage.Opening since) = Some since
opening_in _ = None

-- the time at which opening was begun, where nothing was asked yet
abbrev pub fresh_in : ConnectionStage → Option ℕ
fresh_in (stage.Opening since) = Some since
fresh_in (stage.Opened since) = Some since
fresh_in _ = None

-- the last question is no longer waited for, and nothing was begun since
abbrev pub rests_in : ConnectionStage → Bool
rests_in (stage.Closed last) = true
rests_in (stage.Answered last) = true
rests_in _ = false

-- the last question was answered with something of use
abbrev pub is_of_use : AnswerWorth → Bool
is_of_use worth.Useful = true
is_of_use _ = false

-- two stages that say the same of questions
pub record IsAlike (old new : ConnectionStage) : Type 0 where
  pub asked : asked_in new ≡ asked_in old
  pub closed : is_closed new ≡ is_closed old
  pub rests : rests_in new ≡ rests_in old
  pub fresh : fresh_in new ≡ fresh_in old

alike : {old new : ConnectionStage} → asked_in new ≡ asked_in old
    → is_closed new ≡ is_closed old → rests_in new ≡ rests_in old → fresh_in new ≡ fresh_in old
    → IsAlike old new
alike asked closed rests fresh =
    record { asked = asked; closed = closed; rests = rests; fresh = fresh }

-- once a connection is said to be open
pub record IsOpened (old new : ConnectionStage) : Type 0 where
  pub alike : IsAlike old new
  pub unopened : opening_in new ≡ None
  pub last : last_of new ≡ last_of old

pub opened_in : (st : ConnectionStage) → IsOpened st (opened_stage st)
opened_in (stage.Closed last) =
    record { alike = alike refl refl refl refl; unopened = refl; last = refl }
opened_in _ = record { alike = alike refl refl refl refl; unopened = refl; last = refl }

-- once the next question may come at once
pub record IsHurried (old new : ConnectionStage) : Type 0 where
  pub alike : IsAlike old new
  pub opening : opening_in new ≡ opening_in old
  pub last : last_of new ≡ None

pub hurried_in : (st : ConnectionStage) → rests_in st ≡ true
    → IsHurried st (open_at_once (hurried_stage st))
hurried_in (stage.Closed last) e =
    record { alike = alike refl refl refl refl; opening = refl; last = refl }
hurried_in (stage.Answered last) e =
    record { alike = alike refl refl refl refl; opening = refl; last = refl }
hurried_in _ e = absurd (let bad : false ≡ true = e in cc)

-- a stage in which there is no connection
pub record IsApart (st : ConnectionStage) : Type 0 where
  pub unasked : asked_in st ≡ None
  pub unopened : opening_in st ≡ None

pub apart_in : (st : ConnectionStage) → is_closed st ≡ true → IsApart st
apart_in (stage.Closed last) e = record { unasked = refl; unopened = refl }
apart_in _ e = absurd (let bad : false ≡ true = e in cc)
