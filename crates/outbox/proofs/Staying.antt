-- What is in the journal stays there.
use Rattle.std.proofs.Common.{◌≡◌, ◌∙◌, ℕ, List, [], ◌∷◌, Some, ap, sym, subst, take}
use Rattle.std.specs.{Prelude.Contains, Prelude.nat_eq, Map.lookup}
use Rattle.std.proofs.lemmas.List.Elements.{Contains-append_left, Contains-push}
use Rattle.acceptor.specs.declared.entry.Entry.{Entry}
use Rattle.desk_talks.specs.Dialogues.{CallsLead}
use Rattle.outbox.specs.Histories.{Call, CallLeads, Kept, PromisesOf, Take, World, after_call}
use Rattle.outbox.specs.Histories.{aimed_by, promises, promises_of, targets}
use Rattle.outbox.specs.{Laws.StandsUnder, Laws.StaysInTheJournal, Lines.HallOf, Lines.item_line}
use Rattle.outbox.proofs.{Held.after_a_call, Held.sound, Spelled.ReadsBack}
use Rattle.outbox.proofs.Lists.{all_contains, all_take, found_holds}
use Rattle.outbox.proofs.{Reading.HasLine, Reading.IsKeyed, Sound.IsPromised, Sound.IsSound}
use Rattle.outbox.specs.declared.item.QueueOutcome.TheVariants as taken

-- an entry is promised
record IsHeld (hall : HallOf) (entry : Entry) (w : World) : Type 0 where
  desks : List ℕ
  p : PromisesOf
  sound : IsSound hall desks p w
  made : Contains p.made entry

made_more : (call : Call) (p : PromisesOf) (entry : Entry) → Contains p.made entry
    → Contains (after_call call p).made entry
made_more Kept p entry c = Contains-append_left p.made p.due entry c
made_more (Take one now taken.New) p entry c = c
made_more _ p entry c = c

held_on : (hall : HallOf) (entry : Entry) (calls : List Call) (old new : World)
    → IsHeld hall entry old → CallsLead (CallLeads hall) old calls new → IsHeld hall entry new
held_on hall entry [] old new h same = subst (IsHeld hall entry) (sym same) h
held_on hall entry (call ∷ calls) old new h (next, lead, more) =
    held_on hall entry calls next new (record {
      desks = aimed_by call h.desks;
      p = after_call call h.p;
      sound = after_a_call hall h.desks h.p call old next h.sound lead;
      made = made_more call h.p entry h.made;
    }) more

-- an item that is in the journal is there under the id of its entry
keyed : (hall : HallOf) (desks : List ℕ) (p : PromisesOf) (w : World) (id : ℕ) (entry : Entry)
    → IsSound hall desks p w → (i : StandsUnder w.outbox.list id entry) → IsKeyed (id, i.item)
keyed hall desks p w id entry s i =
    let list = w.outbox.list in
    found_holds IsKeyed id (take list.kept list.items) i.item
    (all_take IsKeyed list.kept list.items s.keeps.keyed) i.found

-- it may be promised
held_by : (hall : HallOf) (desks : List ℕ) (p : PromisesOf) (w : World) (id : ℕ) (entry : Entry)
    → IsSound hall desks p w → StandsUnder w.outbox.list id entry → id ≡ entry.id
    → IsHeld hall entry w
held_by hall desks p w id entry s i under =
    let list = w.outbox.list in
    let front = take list.kept list.items in
    let line = found_holds (HasLine s.tail) id front i.item s.keeps.kept i.found in
    let one : IsPromised s.tail front entry =
    record {
      read = subst ReadsBack i.is (keyed hall desks p w id entry s i).read;
      line = subst (λ (e : Entry). Contains s.tail (item_line e)) i.is line;
      listed = record {
        item = i.item;
        found = subst (λ (n : ℕ). lookup (nat_eq n) front ≡ Some i.item) under i.found;
        is = i.is;
      };
    } in
    record {
      desks = desks;
      p = promises_of (entry ∷ []) [];
      sound = record {
        number = s.number;
        desk = s.desk;
        aim = s.aim;
        tail = s.tail;
        named = s.named;
        ends = s.ends;
        keeps = s.keeps;
        promised = record { made = (one, tt); due = tt };
        step = s.step;
        says = s.says;
      };
      made = Contains-push [] entry;
    }

stands_by : (hall : HallOf) (id : ℕ) (entry : Entry) (w : World) → IsHeld hall entry w
    → id ≡ entry.id → StandsUnder w.outbox.list id entry
stands_by hall id entry w h under =
    let list = w.outbox.list in
    let front = take list.kept list.items in
    let i =
    all_contains (IsPromised h.sound.tail front) h.p.made entry h.sound.promised.made h.made in
    record {
      item = i.listed.item;
      found =
          subst (λ (n : ℕ). lookup (nat_eq n) front ≡ Some i.listed.item) (sym under)
          i.listed.found;
      is = i.listed.is;
    }

pub stays_in_the_journal : StaysInTheJournal
stays_in_the_journal hall h calls old new id entry leads lead stands =
    let s = sound hall h old leads in
    let one = keyed hall (targets h) (promises h) old id entry s stands in
    let under : id ≡ entry.id = one.is ∙ ap (λ (e : Entry). e.id) stands.is in
    stands_by hall id entry new (held_on hall entry calls old new
    (held_by hall (targets h) (promises h) old id entry s stands under) lead) under
