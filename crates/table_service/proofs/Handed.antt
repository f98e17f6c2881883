-- What is under way keeps its items, whatever its dialogue with a desk comes to.
use Rattle.std.proofs.Common.{◌≡◌, ◌∙◌, ◌==◌, ◌∷◌, [], Bool, true, false, ℕ, List, ap}
use Rattle.wire.specs.declared.frame.FrameBody.{FrameBody}
use Rattle.desk_talks.specs.Dialogues.{Act, Call, CallsLead, Hear, Lost, Opened, Reaches, Sent}
use Rattle.desk_talks.specs.declared.dialogue.ReceiveOutcome.{ReceiveOutcome}
use Rattle.desk_talks.specs.declared.dialogue.DialogueAction.{DialogueAction}
use Rattle.desk_talks.specs.{declared.kept_connection.DueAction.DueAction, KeptConnections.due_of}
use Rattle.desk_talks.specs.declared.exchange.AnswerOutcome.{AnswerOutcome}
use Rattle.outbox.specs.{declared.item.Item.Item, Outboxes.with_line}
use Rattle.outbox.specs.Outboxes.{ActsAt, ActsBy, Asks, AsksIf, AsksNext, DialogueLeads, Follows}
use Rattle.outbox.specs.Outboxes.{FollowsAnswer, OpensIf, OutboxOf, is_left, kept_from, skipped}
use Rattle.wire.specs.declared.frame.FrameBody.TheVariants as what
use Rattle.desk_talks.specs.declared.dialogue.DialogueAction.TheVariants as wish
use Rattle.desk_talks.specs.declared.kept_connection.DueAction.TheVariants as due
use Rattle.desk_talks.specs.declared.exchange.AnswerOutcome.TheVariants as heard

abbrev Stays : OutboxOf → OutboxOf → Type 0
Stays old new = new.list ≡ old.list

is_same : (mid new : OutboxOf) → new ≡ mid → Stays mid new
is_same mid new e = ap (λ (o : OutboxOf). o.list) e

next_asked : (left : List (ℕ × Item)) (now : ℕ) (old new : OutboxOf) → AsksNext left now old new
    → Stays old new
next_asked [] now old new none = absurd none
next_asked (pair ∷ more) now old new (line, asks, e) = is_same (with_line old line) new e

asked : (w : DialogueAction) (now : ℕ) (old new : OutboxOf) → Asks w now old new → Stays old new
asked wish.Write now old new asks = next_asked (kept_from old.list old.next) now old new asks
asked wish.Close now old new e = is_same _ new e
asked _ now old new none = absurd none

asked_if : (left : Bool) (w : DialogueAction) (now : ℕ) (old new : OutboxOf)
    → AsksIf left w now old new → Stays old new
asked_if true w now old new asks = asked w now old new asks
asked_if false w now old new (is, e) = is_same old new e

opened_if : (left : Bool) (w : DialogueAction) (now : ℕ) (old new : OutboxOf)
    → OpensIf left w now old new → Stays old new
opened_if true w now old new (is, e) = is_same _ new e
opened_if false w now old new (is, e) = is_same old new e

acted_by : (is : DueAction) (w : DialogueAction) (now : ℕ) (old new : OutboxOf)
    → ActsBy is w now old new → Stays old new
acted_by due.Rest w now old new (is, e) = is_same old new e
acted_by due.Open w now old new acts =
    opened_if (is_left (skipped old)) w now (skipped old) new acts
acted_by due.Ask w now old new acts =
    asked_if (is_left (skipped old)) w now (skipped old) new acts
acted_by due.Close w now old new (is, e) = is_same _ new e
acted_by due.Renew w now old new (is, e) = is_same _ new e

acted : (stays : Bool) (w : DialogueAction) (now : ℕ) (old new : OutboxOf)
    → ActsAt stays w now old new → Stays old new
acted true w now old new acts = acted_by (due_of old.line now) w now old new acts
acted false w now old new (is, e) = is_same _ new e

answered : (answer : FrameBody) (c : ReceiveOutcome) (old new : OutboxOf)
    → FollowsAnswer answer c old new → Stays old new
answered (what.Taken id) c old new (is, e) = is_same _ new e
answered _ c old new (is, e) = is_same _ new e

heard_so : (told : AnswerOutcome) (c : ReceiveOutcome) (old new : OutboxOf) → Follows told c old new
    → Stays old new
heard_so heard.Waits c old new (is, e) = is_same old new e
heard_so (heard.Answer answer) c old new follows = answered answer c old new follows
heard_so (heard.Refused refusal) c old new (is, e) = is_same _ new e
heard_so heard.NoAnswer c old new (is, e) = is_same _ new e

called : (call : Call) (old new : OutboxOf) → DialogueLeads call old new → Stays old new
called (Act w now) old new acts = acted (old.aim == old.desk) w now old new acts
called (Opened opened) old new (line, opens, e) = is_same (with_line old line) new e
called (Lost ended) old new e = is_same _ new e
called (Sent count) old new e = is_same _ new e
called (Hear c now piece) old new hears =
    heard_so hears.heard c (with_line old hears.after) new hears.follows

all_called : (old new : OutboxOf) (calls : List Call) → CallsLead DialogueLeads old calls new
    → Stays old new
all_called old new [] lead = is_same old new lead
all_called old new (call ∷ calls) lead =
    all_called lead.0 new calls lead.2 ∙ called call old lead.0 lead.1

pub list_stays : (old new : OutboxOf) → Reaches DialogueLeads old new → new.list ≡ old.list
list_stays old new went = all_called old new went.calls went.lead
