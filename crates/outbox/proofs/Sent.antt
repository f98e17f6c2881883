-- What is on its way to a desk stays a Submit of an item whose line is in the file.
use Rattle.std.proofs.Common.{◌≡◌, ℕ, ◌==◌, Bool, true, false, List, [], ◌∷◌, refl, sym, ap, ◌∙◌}
use Rattle.std.{proofs.Common.subst, specs.Prelude.Contains, specs.List.AllByRecursion}
use Rattle.acceptor.specs.declared.entry.Entry.{Entry}
use Rattle.wire.specs.declared.frame.FrameBody.{FrameBody}
use Rattle.desk_talks.specs.Dialogues.{Act, Call, Hear, Lost, Opened, Sent}
use Rattle.desk_talks.specs.KeptConnections.{KeptConnectionOf, due_of, opening}
use Rattle.desk_talks.specs.declared.dialogue.ReceiveOutcome.{ReceiveOutcome}
use Rattle.desk_talks.specs.declared.dialogue.DialogueAction.{DialogueAction}
use Rattle.desk_talks.{specs.declared.kept_connection.DueAction.DueAction, proofs.Saying.sent_over}
use Rattle.desk_talks.specs.declared.exchange.AnswerOutcome.{AnswerOutcome}
use Rattle.desk_talks.proofs.Saying.{SaysOver, asks_over, hears_over, opens_over, says_wider}
use Rattle.outbox.specs.{declared.item.Item.Item, Lines.HallOf}
use Rattle.outbox.specs.Histories.{PromisesOf, World, world}
use Rattle.outbox.specs.Outboxes.{ActsAt, ActsBy, AsksIf, gone_on, is_left, looked, skipped, took}
use Rattle.outbox.specs.Outboxes.{Asks, DialogueLeads, FollowsAnswer, refused_with, submit_request}
use Rattle.outbox.specs.Outboxes.{AsksNext, Follows, OpensIf, OutboxOf, kept_from, lost, with_line}
use Rattle.outbox.proofs.{Crash.InStep, Lists.all_drop, Reading.HasLine}
use Rattle.outbox.proofs.Sound.{AreKept, IsQuestion, IsSound, Promises}
use Rattle.wire.specs.declared.frame.FrameBody.TheVariants as what
use Rattle.desk_talks.specs.declared.dialogue.DialogueAction.TheVariants as wish
use Rattle.desk_talks.specs.declared.kept_connection.DueAction.TheVariants as due
use Rattle.desk_talks.specs.declared.exchange.AnswerOutcome.TheVariants as heard

-- the same items, of the same hall
sound_as : (hall : HallOf) (desks : List ℕ) (p : PromisesOf) (file : List ℕ) (old new : OutboxOf)
    (s : IsSound hall desks p (world old file)) → new.hall ≡ old.hall → new.list ≡ old.list
    → Contains desks new.desk → new.aim ≡ old.aim
    → SaysOver (IsQuestion hall.number desks s.tail) new.line.talking
    → IsSound hall desks p (world new file)
sound_as hall desks p file old new s h l d a says = record {
  number = h ∙ s.number;
  desk = d;
  aim = subst (Contains desks) (sym a) s.aim;
  tail = s.tail;
  named = s.named;
  ends = s.ends;
  keeps = subst (λ list. AreKept s.tail list) (sym l) s.keeps;
  promised = subst (λ list. Promises s.tail list p) (sym l) s.promised;
  step = subst (λ list. InStep s.tail list) (sym l) s.step;
  says = says;
}

pub after_look : (hall : HallOf) (desks : List ℕ) (p : PromisesOf) (file : List ℕ)
    (log : List Entry) (old : OutboxOf) → IsSound hall desks p (world old file)
    → IsSound hall desks p (world (looked old log) file)
after_look hall desks p file log old s =
    sound_as hall desks p file old (looked old log) s refl refl s.desk refl s.says

module _ (hall : HallOf) (desks : List ℕ) (p : PromisesOf) (file : List ℕ) (seen : ℕ)
    (decided : List ℕ) where
  -- sound, and the log was looked through as far
  pub record Sound (o : OutboxOf) : Type 0 where
    pub sound : IsSound hall desks p (world o file)
    pub seen_is : o.seen ≡ seen
    pub decided_is : o.decided ≡ decided

  -- the same items, of the same hall, and the same of the log
  same : (old new : OutboxOf) (s : Sound old) → new.seen ≡ old.seen → new.decided ≡ old.decided
      → new.hall ≡ old.hall → new.list ≡ old.list → Contains desks new.desk → new.aim ≡ old.aim
      → SaysOver (IsQuestion hall.number desks s.sound.tail) new.line.talking → Sound new
  same old new s n k h l d a says = record {
    sound = sound_as hall desks p file old new s.sound h l d a says;
    seen_is = n ∙ s.seen_is;
    decided_is = k ∙ s.decided_is;
  }

  over : (old : OutboxOf) (line : KeptConnectionOf) (s : Sound old)
      → SaysOver (IsQuestion hall.number desks s.sound.tail) line.talking
      → Sound (with_line old line)
  over old line s says =
      same old (with_line old line) s refl refl refl refl s.sound.desk refl says

  after_lost : (old new : OutboxOf) → Sound old → new ≡ lost old → Sound new
  after_lost old new s e = subst Sound (sym e) (over old _ s tt)

  as_it_was : (old new : OutboxOf) → Sound old → new ≡ old → Sound new
  as_it_was old new s e = subst Sound (sym e) s

  after_skip : (old : OutboxOf) → Sound old → Sound (skipped old)
  after_skip old s = same old (skipped old) s refl refl refl refl s.sound.desk refl s.sound.says

  -- ---- what is done

  after_next : (left : List (ℕ × Item)) (now : ℕ) (old new : OutboxOf)
      → Sound old → kept_from old.list old.next ≡ left → AsksNext left now old new → Sound new
  after_next [] now old new s is none = absurd none
  after_next (pair ∷ more) now old new s is (line, asks, e) =
      let tail = s.sound.tail in
      let rest : AllByRecursion (HasLine tail) (pair ∷ more) =
      subst (AllByRecursion (HasLine tail)) is
      (all_drop (HasLine tail) old.next _ s.sound.keeps.kept) in
      subst Sound (sym e) (over old line s (asks_over (IsQuestion hall.number desks tail) now
      (submit_request old.hall old.desk pair.1.entry) old.line line (record {
        desk = old.desk;
        entry = pair.1.entry;
        aimed = s.sound.desk;
        line = rest.0;
        is = ap (λ h. submit_request h old.desk pair.1.entry) s.sound.number;
      }) asks))

  after_ask : (w : DialogueAction) (now : ℕ) (old new : OutboxOf) → Sound old → Asks w now old new
      → Sound new
  after_ask wish.Write now old new s asks =
      after_next (kept_from old.list old.next) now old new s refl asks
  after_ask wish.Close now old new s e = after_lost old new s e
  after_ask _ now old new s none = absurd none

  ask_if : (left : Bool) (w : DialogueAction) (now : ℕ) (old new : OutboxOf) → Sound old
      → AsksIf left w now old new → Sound new
  ask_if true w now old new s asks = after_ask w now old new s asks
  ask_if false w now old new s (is, e) = as_it_was old new s e

  open_if : (left : Bool) (w : DialogueAction) (now : ℕ) (old new : OutboxOf) → Sound old
      → OpensIf left w now old new → Sound new
  open_if true w now old new s (is, e) =
      subst Sound (sym e) (over old (opening old.line now) s tt)
  open_if false w now old new s (is, e) = as_it_was old new s e

  after_due : (is : DueAction) (w : DialogueAction) (now : ℕ) (old new : OutboxOf) → Sound old
      → ActsBy is w now old new → Sound new
  after_due due.Rest w now old new s (is, e) = as_it_was old new s e
  after_due due.Open w now old new s acts =
      open_if (is_left (skipped old)) w now (skipped old) new (after_skip old s) acts
  after_due due.Ask w now old new s acts =
      ask_if (is_left (skipped old)) w now (skipped old) new (after_skip old s) acts
  after_due due.Close w now old new s (is, e) = after_lost old new s e
  after_due due.Renew w now old new s (is, e) = after_lost old new s e

  after_at : (stays : Bool) (w : DialogueAction) (now : ℕ) (old new : OutboxOf) → Sound old
      → ActsAt stays w now old new → Sound new
  after_at true w now old new s acts = after_due (due_of old.line now) w now old new s acts
  after_at false w now old new s (is, e) =
      subst Sound (sym e) (same old (gone_on old) s refl refl refl refl s.sound.aim refl tt)

  -- ---- what comes

  after_answer : (answer : FrameBody) (c : ReceiveOutcome) (old new : OutboxOf) → Sound old
      → FollowsAnswer answer c old new → Sound new
  after_answer (what.Taken id) c old new s (is, e) =
      subst Sound (sym e)
      (same old (took old id) s refl refl refl refl s.sound.desk refl s.sound.says)
  after_answer _ c old new s (is, e) = after_lost old new s e

  after_heard : (told : AnswerOutcome) (c : ReceiveOutcome) (old new : OutboxOf) → Sound old
      → Follows told c old new → Sound new
  after_heard heard.Waits c old new s (is, e) = as_it_was old new s e
  after_heard (heard.Answer answer) c old new s follows = after_answer answer c old new s follows
  after_heard (heard.Refused refusal) c old new s (is, e) =
      subst Sound (sym e)
      (same old (refused_with old refusal) s refl refl refl refl s.sound.desk refl s.sound.says)
  after_heard heard.NoAnswer c old new s (is, e) = after_lost old new s e

  -- ---- all calls of the dialogue

  pub after_dialogue : (call : Call) (old new : OutboxOf) → Sound old
      → DialogueLeads call old new → Sound new
  after_dialogue (Act w now) old new s acts =
      after_at (old.aim == old.desk) w now old new s acts
  after_dialogue (Opened opened) old new s (line, opens, e) =
      subst Sound (sym e) (over old line s
      (opens_over (IsQuestion hall.number desks s.sound.tail) opened old.line line opens))
  after_dialogue (Lost ended) old new s e = after_lost old new s e
  after_dialogue (Sent count) old new s e =
      subst Sound (sym e) (over old _ s
      (sent_over (IsQuestion hall.number desks s.sound.tail) count old.line s.sound.says))
  after_dialogue (Hear c now piece) old new s hears =
      after_heard hears.heard c (with_line old hears.after) new (over old hears.after s
      (hears_over (IsQuestion hall.number desks s.sound.tail) hears.heard piece old.line
      hears.after s.sound.says hears.hears)) hears.follows

-- ---- more desks

pub more_desks : (hall : HallOf) (desks more : List ℕ) (p : PromisesOf) (w : World)
    → ((d : ℕ) → Contains desks d → Contains more d) → IsSound hall desks p w
    → IsSound hall more p w
more_desks hall desks more p w wide s = record {
  number = s.number;
  desk = wide w.outbox.desk s.desk;
  aim = wide w.outbox.aim s.aim;
  tail = s.tail;
  named = s.named;
  ends = s.ends;
  keeps = s.keeps;
  promised = s.promised;
  step = s.step;
  says =
      says_wider (IsQuestion hall.number desks s.tail) (IsQuestion hall.number more s.tail)
      (λ question q. record {
        desk = q.desk;
        entry = q.entry;
        aimed = wide q.desk q.aimed;
        line = q.line;
        is = q.is;
      }) w.outbox.line.talking s.says;
}
