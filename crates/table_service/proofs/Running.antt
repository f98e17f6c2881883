-- What all turns come to, one after the other.
use Rattle.std.proofs.Common.{◌≡◌, ◌∙◌, ◌++◌, ◌∷◌, [], ◌≤◌, ℕ, zero, suc, List, Option, None, Some}
use Rattle.std.proofs.Common.{ap, append_assoc, arith, drop, option_map, refl, subst, sym, take}
use Rattle.std.proofs.{Common.true, lemmas.List.take-append-drop}
use Rattle.std.specs.{List.AllByRecursion, Map.lookup, Prelude.nat_eq}
use Rattle.acceptor.specs.declared.entry.Entry.{Entry}
use Rattle.card_forms.specs.Remarks.{is_same_but_remark}
use Rattle.desk_sockets.proofs.Reaching.{both, one}
use Rattle.desk_talks.specs.Dialogues.{Act, Call as DialogueCall, CallsLead, Reaches}
use Rattle.outbox.specs.{declared.item.Item.Item, Laws.Fixed, Laws.StaysInTheJournal, Lines.HallOf}
use Rattle.outbox.specs.Histories.{Aim, Call, CallLeads, History, InDialogue, IsStarted, Leads}
use Rattle.outbox.specs.Histories.{Look, Restart, Start, Then, World, world}
use Rattle.outbox.specs.Items.{ItemsOf, item_in, taken_back}
use Rattle.outbox.{specs.Outboxes.DialogueLeads, specs.Outboxes.OutboxOf, proofs.Lists.found_front}
use Rattle.table_service.specs.Disks.{DiskOf, IsSynced, IsSyncedIn, JournalOf, lines_in}
use Rattle.table_service.specs.{Laws.IsSentIn, Steps.Submits, Steps.Tells, Taking.sent_as}
use Rattle.table_service.specs.Runs.{Asked, IsReached, KeptUp, Restarted, RunsAreOfTheOutbox}
use Rattle.table_service.specs.Runs.{StartsOver, TakenStays, Told, Turn, TurnLeads, TurnsLead}
use Rattle.table_service.{specs.Services.IsKept, specs.Services.ServiceOf, proofs.Served.same_back}
use Rattle.table_service.specs.Steps.{Aims, Awaits, Hurries, Looks, Mirrors, Step, StepLeads}
use Rattle.table_service.proofs.Called.{IsCalled, all_called, nothing_called, single}

module _ (hall : HallOf) where
  -- one after the other
  then_called : (file : List ℕ) (a b c : ServiceOf) (first : IsCalled hall file a b)
      → IsCalled hall first.after b c → IsCalled hall file a c
  then_called file a b c first later = record {
    after = later.after;
    there = later.there;
    synced = later.synced;
    went = both first.went later.went;
  }

  -- ---- a turn of the loop

  dialogue_called : (file : List ℕ) (calls : List DialogueCall) (old new : OutboxOf)
      → CallsLead DialogueLeads old calls new
      → Reaches (CallLeads hall) (world old file) (world new file)
  dialogue_called file [] old new same =
      record { calls = []; lead = ap (λ (o : OutboxOf). world o file) same }
  dialogue_called file (call ∷ calls) old new (next, leads, more) =
      both (single hall (InDialogue call) (world old file) (world next file) (next, leads, refl))
      (dialogue_called file calls next new more)

  module _ (file : List ℕ) (old new : ServiceOf) (is : lines_in old.file ≡ Some file)
      (synced : IsSynced old.file) where
    -- one call, and the file stays
    call_called : (call : Call) → new.file ≡ old.file
        → CallLeads hall call (world old.outbox file) (world new.outbox file)
        → IsCalled hall file old new
    call_called call same leads = record {
      after = file;
      there = ap lines_in same ∙ is;
      synced = subst IsSynced (sym same) synced;
      went = single hall call (world old.outbox file) (world new.outbox file) leads;
    }

    nothing : (s : ServiceOf) → new ≡ s → s.outbox ≡ old.outbox → s.file ≡ old.file
        → IsCalled hall file old new
    nothing s same outbox kept =
        nothing_called hall file old new is synced (ap (λ (x : ServiceOf). x.outbox) same ∙ outbox)
        (ap (λ (x : ServiceOf). x.file) same ∙ kept)

    step_called : (step : Step) → StepLeads step old new → IsCalled hall file old new
    step_called Mirrors leads = nothing _ leads.0 refl refl
    step_called Hurries leads = nothing _ leads refl refl
    step_called (Awaits id) leads = nothing _ leads refl refl
    step_called (Tells desks) leads = nothing _ leads refl refl
    step_called (Looks count) leads =
        call_called (Look (take count old.mirroring.entries))
        (ap (λ (s : ServiceOf). s.file) leads) (ap (λ (s : ServiceOf). world s.outbox file) leads)
    step_called (Aims desk) leads =
        call_called (Aim desk) (ap (λ (s : ServiceOf). s.file) leads)
        (ap (λ (s : ServiceOf). world s.outbox file) leads)
    step_called (Submits now) (others, asks) =
        let acts =
        one DialogueLeads {call = Act asks.wish now} {old = asks.before} {new = asks.after}
        asks.acts in
        let went = both asks.first (both acts asks.later) in
        let same : new.file ≡ old.file = ap (λ (s : ServiceOf). s.file) others in
        record {
          after = file;
          there = ap lines_in same ∙ is;
          synced = subst IsSynced (sym same) synced;
          went = dialogue_called file went.calls old.outbox new.outbox went.lead;
        }

  steps_called : (file : List ℕ) (steps : List Step) (old new : ServiceOf)
      → lines_in old.file ≡ Some file → IsSynced old.file → CallsLead StepLeads old steps new
      → IsCalled hall file old new
  steps_called file [] old new is synced same = nothing file old new is synced old same refl refl
  steps_called file (step ∷ steps) old new is synced (next, leads, more) =
      let first = step_called file old next is synced step leads in
      then_called file old next new first
      (steps_called first.after steps next new first.there first.synced more)

  -- ---- a start after a crash

  take_within : (m n : ℕ) (xs : List ℕ) → m ≤ n → take m (take n xs) ≡ take m xs
  take_within zero n xs h = refl
  take_within (suc m) zero xs h = absurd (omega (arith, h))
  take_within (suc m) (suc n) [] h = refl
  take_within (suc m) (suc n) (x ∷ xs) h =
      ap (λ ys. x ∷ ys) (take_within m n xs (omega (arith, h)))

  -- what was synced has the lines in front
  module _ (file more : List ℕ) (j : JournalOf) (d : DiskOf) (disk : j.disk ≡ Some d)
      (is : lines_in j ≡ Some file) (synced : IsSynced j) where
    low : j.length ≤ d.synced
    low = subst (λ (o : Option DiskOf). IsSyncedIn j.length o) disk synced

    abbrev rest : List ℕ
    rest = drop j.length (take d.synced d.bytes) ++ more

    in_front : take d.synced d.bytes ++ more ≡ file ++ rest
    in_front =
        let there : Some (take j.length d.bytes) ≡ Some file =
        sym (ap (option_map (λ (e : DiskOf). take j.length e.bytes)) disk) ∙ is in
        let lines : take j.length d.bytes ≡ file = cc in
        let front : take j.length (take d.synced d.bytes) ≡ file =
        take_within j.length d.synced d.bytes low ∙ lines in
        ap (λ (xs : List ℕ). xs ++ more) (sym (take-append-drop j.length (take d.synced d.bytes)))
        ∙ append_assoc (take j.length (take d.synced d.bytes))
        (drop j.length (take d.synced d.bytes)) more
        ∙ ap (λ (xs : List ℕ). xs ++ rest) front

  restart_called : (file more : List ℕ) (desk now : ℕ) (old new : ServiceOf) (o : Option DiskOf)
      → old.file.disk ≡ o → lines_in old.file ≡ Some file → IsSynced old.file
      → StartsOver hall more desk now o new → IsCalled hall file old new
  restart_called file more desk now old new None disk is synced starts = absurd starts
  restart_called file more desk now old new (Some d) disk is synced starts =
      let left = rest file more old.file d disk is synced in
      record {
        after = starts.lines;
        there = starts.there;
        synced = starts.synced;
        went =
            single hall (Restart left desk now) (world old.outbox file)
            (world new.outbox starts.lines) (subst
            (λ (bytes : List ℕ). IsStarted hall desk now bytes (world new.outbox starts.lines))
            (in_front file more old.file d disk is synced) starts.started);
      }

  -- ---- all turns

  turn_called : (file : List ℕ) (turn : Turn) (old new : ServiceOf) → lines_in old.file ≡ Some file
      → IsSynced old.file → TurnLeads hall turn old new → IsCalled hall file old new
  turn_called file (Asked request response) old new is synced answers =
      all_called hall file old new request response answers is synced
  turn_called file KeptUp old new is synced up =
      steps_called file up.calls old new is synced up.lead
  turn_called file Told old new is synced same =
      nothing_called hall file old new is synced same.0 same.1
  turn_called file (Restarted more desk now) old new is synced starts =
      restart_called file more desk now old new old.file.disk refl is synced starts

  turns_called : (file : List ℕ) (turns : List Turn) (old new : ServiceOf)
      → lines_in old.file ≡ Some file → IsSynced old.file → TurnsLead hall old turns new
      → IsCalled hall file old new
  turns_called file [] old new is synced same = nothing file old new is synced old same refl refl
  turns_called file (turn ∷ turns) old new is synced (next, leads, more) =
      let first = turn_called file turn old next is synced leads in
      then_called file old next new first
      (turns_called first.after turns next new first.there first.synced more)

  -- ---- a history

  abbrev then_all : History → List Call → History
  then_all h [] = h
  then_all h (call ∷ calls) = then_all (Then h call) calls

  leads_all : (h : History) (calls : List Call) (old new : World) → Leads hall h old
      → CallsLead (CallLeads hall) old calls new → Leads hall (then_all h calls) new
  leads_all h [] old new leads same = subst (Leads hall h) (sym same) leads
  leads_all h (call ∷ calls) old new leads (next, lead, more) =
      leads_all (Then h call) calls next new (old, leads, lead) more

  record IsHistory (s : ServiceOf) : Type 0 where
    history : History
    lines : List ℕ
    there : lines_in s.file ≡ Some lines
    synced : IsSynced s.file
    leads : Leads hall history (world s.outbox lines)

  history_of : (s : ServiceOf) → IsReached hall s → IsHistory s
  history_of s r =
      let c = turns_called r.begun.lines r.turns r.first s r.begun.there r.begun.synced r.lead in
      record {
        history = then_all (Start r.desk r.now r.bytes) c.went.calls;
        lines = c.after;
        there = c.there;
        synced = c.synced;
        leads =
            leads_all (Start r.desk r.now r.bytes) c.went.calls
            (world r.first.outbox r.begun.lines) (world s.outbox c.after) r.begun.started
            c.went.lead;
      }

  -- ---- what is in the journal

  -- an item that is in the journal is in the list
  in_list : (q : ItemsOf) (id : ℕ) (item : Item) → item_in (taken_back q) id ≡ Some item
      → item_in q id ≡ Some item
  in_list q id item found =
      subst (λ (items : List (ℕ × Item)). lookup (nat_eq id) items ≡ Some item)
      (take-append-drop q.kept q.items)
      (found_front id (take q.kept q.items) (drop q.kept q.items) item found)

  module _ (stays : StaysInTheJournal) (h : History) (calls : List Call) (old new : World)
      (leads : Leads hall h old) (lead : CallsLead (CallLeads hall) old calls new)
      (kept : IsKept old.outbox) where
    entry_stays : (e : Entry) → IsSentIn old.outbox.list e → IsSentIn new.outbox.list e
    entry_stays e sent = by (item_in old.outbox.list e.id) refl sent
      where
        by : (o : Option Item) → item_in old.outbox.list e.id ≡ o → sent_as o e ≡ true
            → IsSentIn new.outbox.list e
        by None found none = absurd cc
        by (Some item) found same =
            let later =
            stays hall h calls old new e.id item.entry leads lead (record {
              item = item;
              found = ap (λ (q : ItemsOf). item_in q e.id) (same_back old.outbox kept) ∙ found;
              is = refl;
            }) in
            ap (λ (o : Option Item). sent_as o e)
            (in_list new.outbox.list e.id later.item later.found)
            ∙ ap (λ (one : Entry). is_same_but_remark one.text e.text) later.is
            ∙ same

    all_stay : (entries : List Entry) → AllByRecursion (IsSentIn old.outbox.list) entries
        → AllByRecursion (IsSentIn new.outbox.list) entries
    all_stay [] all = tt
    all_stay (e ∷ entries) all = (entry_stays e all.0, all_stay entries all.1)

-- ---- the laws

pub runs_are_of_the_outbox : Fixed → RunsAreOfTheOutbox
runs_are_of_the_outbox fixed hall s reached =
    let h = history_of hall s reached in
    record {
      history = h.history;
      lines = h.lines;
      there = h.there;
      synced = h.synced;
      leads = h.leads;
      fixed = fixed hall h.history (world s.outbox h.lines) h.leads;
    }

pub taken_stays : StaysInTheJournal → TakenStays
taken_stays stays hall old new last request response turns taken reached answers kept lead =
    let h = history_of hall old reached in
    let first =
    all_called hall h.lines old new request response answers h.there h.synced in
    let later = turns_called hall first.after turns new last first.there first.synced lead in
    all_stay hall stays (then_all hall h.history first.went.calls) later.went.calls
    (world new.outbox first.after) (world last.outbox later.after)
    (leads_all hall h.history first.went.calls (world old.outbox h.lines)
    (world new.outbox first.after) h.leads first.went.lead) later.went.lead kept taken.entries
    taken.sent
