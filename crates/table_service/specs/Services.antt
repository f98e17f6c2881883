-- What the score table answers, and what it accepts (the project's own).
use Rattle.std.specs.Prelude.{◌≡◌, ◌⊎◌, ◌||◌, ◌≤◌, ℕ, ◌∷◌, [], Bool, true, false, List, drop}
use Rattle.std.specs.Prelude.{length, slice_get, Option, None, Some}
use Rattle.acceptor.specs.declared.entry.Entry.{Entry}
use Rattle.http.specs.declared.request.Request.{Request}
use Rattle.http_server.specs.declared.response.Response.{Response}
use Rattle.kept_mirror.specs.Mirrorings.{MirroringOf}
use Rattle.outbox.specs.declared.item.QueueOutcome.{QueueOutcome}
use Rattle.outbox.specs.Items.{ItemsOf, Takes, all_kept, taken_back}
use Rattle.outbox.specs.Outboxes.{Answers as AnswersItem, OutboxOf, with_list}
use Rattle.wire.specs.Entries.{IsEntry}
use Rattle.table_views.specs.declared.{around.PageContext.PageContext, desks.HallStatus.HallStatus}
use Rattle.table_service.specs.declared.plan.{Effect.Effect, RequestPlan.RequestPlan}
use Rattle.table_service.specs.{Disks.JournalOf, Disks.Keeps, Taking.is_sent}
use Rattle.table_service.specs.{Gate.is_own, Pages.waits, Recents.AreRecent, Remarks.remark_of}
use Rattle.table_service.specs.Replies.{IsProblem, Writes}
use Rattle.table_service.specs.{Replying.refuses, Requests.sent_before, Sent.PlansOwn}
use Rattle.outbox.specs.declared.item.QueueOutcome.TheVariants as taken
use Rattle.table_service.specs.declared.plan.Effect.TheVariants as effect
use Rattle.table_service.specs.declared.plan.Problem.TheVariants as problem

-- the title of the hall, the name of the table, the hosts and the token of the program, the
-- commands whose comments propose how later rounds are held, the mirror with what keeps it up, the
-- competition's file, where there is one, what is known of the desks, what was entered, the ids for
-- the forms of pages, a set for each page, the time, the machine's clock, and the journal
pub record ServiceOf : Type 0 where
  pub title : List ℕ
  pub name : List ℕ
  pub hosts : List (List ℕ)
  pub token : List ℕ
  pub proposals : List ℕ
  pub mirroring : MirroringOf
  pub competition : Option (List ℕ)
  pub desks : HallStatus
  pub outbox : OutboxOf
  pub ids : List (List ℕ)
  pub time : ℕ
  pub clock : Option ℕ
  pub file : JournalOf

abbrev pub service : List ℕ → List ℕ → List (List ℕ) → List ℕ → List ℕ → MirroringOf
    → Option (List ℕ) → HallStatus → OutboxOf → List (List ℕ) → ℕ → Option ℕ → JournalOf → ServiceOf
service title name hosts token proposals mirroring competition desks outbox ids time clock file =
    record {
      title = title;
      name = name;
      hosts = hosts;
      token = token;
      proposals = proposals;
      mirroring = mirroring;
      competition = competition;
      desks = desks;
      outbox = outbox;
      ids = ids;
      time = time;
      clock = clock;
      file = file;
    }

-- between two calls all that was taken is in the journal, and no line is on the way there
abbrev pub IsKept : OutboxOf → Type 0
IsKept o = (o.list.kept ≡ length o.list.items) × (o.list.lines ≡ [])

-- ---- what a service becomes

-- the front set of ids is used
abbrev pub with_ids_used : ServiceOf → ServiceOf
with_ids_used s = record s { ids = drop 1 s.ids }

-- ---- what is to be done for a request

-- a page is made of the mirror, the items and the desks as they are, with this set of ids
pub record IsAround (s : ServiceOf) (set : List ℕ) (request : Request (List ℕ))
    (around : PageContext) : Type 0 where
  pub mirror : around.mirror.now ≡ s.mirroring.entries
  pub desks : around.desks.now ≡ s.desks
  pub token : around.token.now ≡ s.token
  pub proposals : around.proposals.now ≡ s.proposals
  pub ids : around.ids.now ≡ set
  pub remark : around.remark.now ≡ remark_of s.name s.clock
  pub recent : AreRecent s.mirroring.entries s.outbox.list around.recent.now
  pub time : around.now ≡ s.time
  pub waits : around.waits ≡ waits s.outbox.list s.mirroring.entries s.time (sent_before request)

pub record PlansAround (s : ServiceOf) (set : List ℕ) (request : Request (List ℕ))
    (plan : RequestPlan) : Type 0 where
  pub around : PageContext
  pub is : IsAround s set request around
  pub plans : PlansOwn around s.title s.competition s.outbox.list request plan

-- a page needs ids for its forms
abbrev pub PlansWith : ServiceOf → Request (List ℕ) → Option (List ℕ) → RequestPlan → Type 0
PlansWith s request None plan = plan ≡ refuses problem.Busy
PlansWith s request (Some set) plan = PlansAround s set request plan

abbrev pub PlansIf : ServiceOf → Request (List ℕ) → Bool → RequestPlan → Type 0
PlansIf s request false plan = plan ≡ refuses problem.Foreign
PlansIf s request true plan = PlansWith s request (slice_get s.ids 0) plan

-- what is to be done for a request: nothing, where it is not from a page of the program's own
abbrev pub Plans : ServiceOf → Request (List ℕ) → RequestPlan → Type 0
Plans s request plan = PlansIf s request (is_own s.hosts request) plan

-- ---- what is done

-- what is in the journal are items, and they are what they were
abbrev pub StaysKept : ItemsOf → ItemsOf → Type 0
StaysKept old new = (taken_back new ≡ taken_back old) × (new.kept ≤ length new.items)

abbrev pub is_new : QueueOutcome → Bool
is_new taken.New = true
is_new _ = false

-- what taking an entry comes to, whose id and text are in their ranges: whether it is queued, or
-- was known with its text, whatever the remarks are
pub record TakesAs (there : Bool) (old : ItemsOf) (entry : Entry) (now : ℕ) (new : ItemsOf)
    : Type 0 where
  pub fit : IsEntry entry
  pub came : QueueOutcome
  pub takes : Takes old entry now came new
  pub is : there ≡ (is_sent old entry || is_new came)

-- entries are taken, one after the other
abbrev pub TakesAll : ItemsOf → List Entry → ℕ → ItemsOf → Type 0
TakesAll old [] now new = new ≡ old
TakesAll old (entry ∷ entries) now new =
    (next : ItemsOf) × TakesAs true old entry now next × TakesAll next entries now new

-- one of the entries can't be taken after those in front of it: its id is known with another text,
-- it has no line, or there is no room
abbrev pub CannotTake : ItemsOf → List Entry → ℕ → Type 0
CannotTake old [] now = ⊥
CannotTake old (entry ∷ entries) now =
    (next : ItemsOf) × (TakesAs false old entry now next
    ⊎ (TakesAs true old entry now next × CannotTake next entries now))

abbrev pub TriesAll : Bool → ItemsOf → List Entry → ℕ → ItemsOf → Type 0
TriesAll true old entries now new = TakesAll old entries now new
TriesAll false old entries now new = CannotTake old entries now

-- what becomes of items whose lines are kept, or could not be kept
abbrev pub list_if : Bool → ItemsOf → ItemsOf
list_if true list = all_kept list
list_if false list = taken_back list

-- the lines of these items are kept, and a crash leaves them; or they could not be kept, and what
-- was taken is taken back
abbrev pub KeepsList : Bool → ItemsOf → ServiceOf → ServiceOf → Type 0
KeepsList kept list old new =
    (file : JournalOf) × Keeps kept list.lines old.file file
    × (new ≡ record old { outbox = with_list old.outbox (list_if kept list); file = file })

-- one of the entries can't be taken, and nothing changes; or the entries could not be kept, and are
-- taken back
abbrev pub LeavesAll : List Entry → ServiceOf → ServiceOf → Type 0
LeavesAll entries old new =
    (CannotTake old.outbox.list entries old.time × (new ≡ old))
    ⊎ ((list : ItemsOf) × TakesAll old.outbox.list entries old.time list
    × KeepsList false list old new)

-- none of the entries is taken, and that is answered
abbrev pub TakesNone : List Entry → ServiceOf → Response → ServiceOf → Type 0
TakesNone entries old response new = LeavesAll entries old new × IsProblem problem.Busy response

-- what `take` does: the entries are taken and kept, and the answer stays; or none is
abbrev pub TakesFor : Bool → List Entry → ServiceOf → Response → ServiceOf → Response → Type 0
TakesFor true entries old before new response =
    (list : ItemsOf) × TakesAll old.outbox.list entries old.time list
    × KeepsList true list old new × (response ≡ before)
TakesFor false entries old before new response = TakesNone entries old response new

-- the entries are taken and kept, and the browser is sent to the next page; or none is taken
abbrev pub TakesThem : List Entry → RequestPlan → ServiceOf → Response → ServiceOf → Type 0
TakesThem entries plan old response new =
    TakesNone entries old response new
    ⊎ ((list : ItemsOf) × TakesAll old.outbox.list entries old.time list
    × KeepsList true list old new × Writes plan.reply response)

-- the item of an id counts as answered, where it may, and that is kept, or could not be kept
pub record AnswersKept (of : ℕ) (old new : ServiceOf) : Type 0 where
  pub told : Bool
  pub after : OutboxOf
  pub answers : AnswersItem old.mirroring.entries of told old.outbox after
  pub kept : Bool
  pub keeps : KeepsList kept after.list old new

-- the same, unless memory was refused
abbrev pub AnswersIt : ℕ → ServiceOf → ServiceOf → Type 0
AnswersIt of old new = (new ≡ old) ⊎ AnswersKept of old new

-- an entry is taken and kept, the ids of the page are used, and the item of an id counts as
-- answered
pub record IsTakenAgain (list : ItemsOf) (of : ℕ) (plan : RequestPlan) (old : ServiceOf)
    (response : Response) (new : ServiceOf) : Type 0 where
  pub kept : ServiceOf
  pub keeps : KeepsList true list old kept
  pub answers : AnswersIt of (with_ids_used kept) new
  pub writes : Writes plan.reply response

-- what `take_again` does: the same, and the answer stays; or it could not be kept
abbrev pub TakesAgainFor : Entry → ℕ → ServiceOf → Response → ServiceOf → Response → Type 0
TakesAgainFor entry of old before new response =
    (TakesFor false (entry ∷ []) old before new response)
    ⊎ ((kept : ServiceOf) × TakesFor true (entry ∷ []) old before kept response
    × AnswersIt of (with_ids_used kept) new)

abbrev pub TakesAgain : Entry → ℕ → RequestPlan → ServiceOf → Response → ServiceOf → Type 0
TakesAgain entry of plan old response new =
    TakesNone (entry ∷ []) old response new
    ⊎ ((list : ItemsOf) × TakesAll old.outbox.list (entry ∷ []) old.time list
    × IsTakenAgain list of plan old response new)

abbrev pub DoesAs : Effect → RequestPlan → ServiceOf → Response → ServiceOf → Type 0
DoesAs effect.Nothing plan old response new = (new ≡ old) × Writes plan.reply response
DoesAs effect.Ids plan old response new = (new ≡ with_ids_used old) × Writes plan.reply response
DoesAs (effect.Take entries) plan old response new = TakesThem entries.items plan old response new
DoesAs (effect.Again entry of) plan old response new = TakesAgain entry of plan old response new
DoesAs (effect.Answer of) plan old response new =
    AnswersIt of old new × Writes plan.reply response

abbrev pub Does : RequestPlan → ServiceOf → Response → ServiceOf → Type 0
Does plan old response new = DoesAs plan.effect plan old response new

-- what is planned for the request is done, and nothing else changes
pub record Answers (old : ServiceOf) (request : Request (List ℕ)) (response : Response)
    (new : ServiceOf) : Type 0 where
  pub plan : RequestPlan
  pub planned : Plans old request plan
  pub does : Does plan old response new

-- ---- what the other calls change

-- no ids are given, and no time is known; what is in no journal is no item
pub record IsNew (title name : List ℕ) (hosts : List (List ℕ)) (token proposals : List ℕ)
    (mirroring : MirroringOf) (competition : Option (List ℕ)) (outbox : OutboxOf) (file : JournalOf)
    (s : ServiceOf) : Type 0 where
  pub desks : HallStatus
  pub is : s ≡ service title name hosts token proposals mirroring competition desks
      (with_list outbox (taken_back outbox.list)) [] 0 None file

-- nothing but the mirror
abbrev pub IsKeptBut : ServiceOf → ServiceOf → Type 0
IsKeptBut old new = new ≡ record old { mirroring = new.mirroring }

-- nothing but what is under way
abbrev pub IsSentBut : ServiceOf → ServiceOf → Type 0
IsSentBut old new = new ≡ record old { outbox = new.outbox }
