-- After any calls an outbox and its journal are sound.
use Rattle.std.proofs.Common.{◌≡◌, ℕ, ◌^◌, ◌<◌, ◌≤◌, ◌⊎◌, inl, inr, Bool, true, false, not, List}
use Rattle.std.proofs.Common.{[], ◌∷◌, ◌++◌, take, drop, is_some, Option, Some, None, refl, sym, ap}
use Rattle.std.proofs.Common.{◌∙◌, subst, cond, arith}
use Rattle.std.specs.{Prelude.Contains, Prelude.bytes_eq, List.AllByRecursion, Option.option_map}
use Rattle.std.proofs.lemmas.List.{take-append-drop}
use Rattle.std.proofs.lemmas.List.Elements.{Contains-append_left, Contains-push}
use Rattle.acceptor.specs.declared.entry.Entry.{Entry}
use Rattle.texts.proofs.Cuts.{and-true}
use Rattle.wire.specs.{Spelling.spelling, Entries.IsEntry}
use Rattle.desk_talks.specs.{KeptConnections.unsent_by, Exchanges.ExchangeOf}
use Rattle.desk_talks.proofs.Saying.{SaysOver, says_wider}
use Rattle.outbox.specs.declared.item.{Item.Item, QueueOutcome.QueueOutcome}
use Rattle.outbox.specs.{declared.state.ItemState.ItemState, States.state_of}
use Rattle.outbox.specs.Histories.{Aim, Answer, Call, CallLeads, History, InDialogue, Kept, Leads}
use Rattle.outbox.specs.Histories.{Look, NotKept, PromisesOf, Restart, Start, Take, Then, World}
use Rattle.outbox.specs.Histories.{after_call, aimed_by, promises, promises_of, targets, world}
use Rattle.outbox.specs.Items.{ItemsOf, Takes, TakesBy, all_kept, is_answered, is_line, item_in}
use Rattle.outbox.specs.Items.{queued, taken_back, with_answer}
use Rattle.outbox.specs.Laws.{Fixed, IsOfSubmit, NothingTakenIsLost, ReadsAfterCrash}
use Rattle.outbox.specs.Lines.{HallOf, hall_line, item_line, whole_lines}
use Rattle.outbox.specs.Outboxes.{AnswersIf, OutboxOf, has_ended, may_answer, state_in, with_list}
use Rattle.outbox.proofs.Crash.{InStep, reads_part, step_answered, step_back, step_kept}
use Rattle.outbox.proofs.{Crash.step_queued, Ones.one_each, Pieces.cut_after, Spelled.IsFit}
use Rattle.outbox.proofs.Lists.{all_contains, all_weaker, contains_next, found_holds}
use Rattle.outbox.proofs.{Pieces.whole_after, Sent.after_dialogue, Sent.after_look, Sent.more_desks}
use Rattle.outbox.proofs.Reading.{IsIn, IsKeyed, in_front}
use Rattle.outbox.proofs.Sound.{AreKept, IsPromised, IsQuestion, IsSound, IsWritten, Promises}
use Rattle.outbox.proofs.Sound.{answered_kept, answered_promised, back_kept, back_promised}
use Rattle.outbox.proofs.Sound.{kept_kept, kept_promised, queued_kept, queued_promised, started}
use Rattle.outbox.specs.declared.item.QueueOutcome.TheVariants as taken

-- other items
relisted : (hall : HallOf) (desks : List ℕ) (p q : PromisesOf) (old : World) (list : ItemsOf)
    (s : IsSound hall desks p old) → AreKept s.tail list → Promises s.tail list q
    → InStep s.tail list → IsSound hall desks q (world (with_list old.outbox list) old.file)
relisted hall desks p q old list s keeps promised step = record {
  number = s.number;
  desk = s.desk;
  aim = s.aim;
  tail = s.tail;
  named = s.named;
  ends = s.ends;
  keeps = keeps;
  promised = promised;
  step = step;
  says = s.says;
}

-- ---- an entry is taken

fit_of : (entry : Entry) → IsEntry entry → is_line entry.text ≡ true → IsFit entry
fit_of entry is line = record {
  first = is.0.0;
  last = is.0.1;
  short = is.1;
  line = line;
}

not_new : (b : Bool) → taken.New ≡ cond b taken.Same taken.Other → ⊥
not_new true e = absurd cc
not_new false e = absurd cc

module _ (hall : HallOf) (desks : List ℕ) (p : PromisesOf) (old : World) (entry : Entry) (now : ℕ)
    (is : IsEntry entry) (s : IsSound hall desks p old) where
  after_new : (o : Option Item) → item_in old.outbox.list entry.id ≡ o → (list : ItemsOf)
      → TakesBy o old.outbox.list entry now taken.New list
      → IsSound hall desks (promises_of p.made (p.due ++ entry ∷ []))
      (world (with_list old.outbox list) old.file)
  after_new (Some item) there list (e, k) =
      absurd (not_new (bytes_eq item.entry.text entry.text) e)
  after_new None none list (line, room, e) =
      let fit = fit_of entry is line in
      subst (λ (l : ItemsOf). IsSound hall desks (promises_of p.made (p.due ++ entry ∷ []))
      (world (with_list old.outbox l) old.file)) (sym e)
      (relisted hall desks p (promises_of p.made (p.due ++ entry ∷ [])) old
      (queued old.outbox.list entry now) s
      (queued_kept s.tail old.outbox.list entry now s.keeps fit none)
      (queued_promised s.tail old.outbox.list entry now s.keeps fit none p s.promised)
      (step_queued s.tail old.outbox.list entry now fit s.keeps.within s.keeps.ends none room
      s.step))

  unchanged : (list : ItemsOf) → list ≡ old.outbox.list
      → IsSound hall desks p (world (with_list old.outbox list) old.file)
  unchanged list e =
      subst (λ (l : ItemsOf). IsSound hall desks p (world (with_list old.outbox l) old.file))
      (sym e) (relisted hall desks p p old old.outbox.list s s.keeps s.promised s.step)

  same_list : (t : QueueOutcome) → (t ≡ taken.New → ⊥) → (o : Option Item) (list : ItemsOf)
      → TakesBy o old.outbox.list entry now t list → list ≡ old.outbox.list
  same_list t new (Some item) list (k, e) = e
  same_list taken.New new None list t = absurd (new refl)
  same_list taken.Same new None list t = absurd t
  same_list taken.Other new None list t = absurd t
  same_list taken.Unfit new None list (k, e) = e
  same_list taken.Full new None list (k, l, e) = e

-- ---- an item is answered

ended : (o : Option Item) (f : Item → ItemState) → has_ended (option_map f o) ≡ true
    → (item : Item) × (o ≡ Some item)
ended None f h = absurd cc
ended (Some item) f h = (item, refl)

module _ (hall : HallOf) (desks : List ℕ) (p : PromisesOf) (old : World)
    (s : IsSound hall desks p old) where
  -- the id of an item
  record IsOfItem (id : ℕ) : Type 0 where
    first : 1 ≤ id
    last : id < 2 ^ 63
    known : is_some (item_in old.outbox.list id) ≡ true

  of_item : (log : List Entry) (id : ℕ) → may_answer log old.outbox.list id ≡ true → IsOfItem id
  of_item log id may =
      let both =
      and-true (not (is_answered old.outbox.list id)) (has_ended (state_in log old.outbox.list id))
      may in
      let found =
      ended (item_in old.outbox.list id) (λ item. state_of log item.entry) both.1 in
      let keyed =
      found_holds IsKeyed id old.outbox.list.items found.0 s.keeps.keyed found.1 in
      let k = keyed.is in
      let f = keyed.first in
      let l = keyed.last in
      record {
        first = omega (arith, k, f);
        last = omega (arith, k, l);
        known = ap is_some found.1;
      }

  after_answer : (log : List Entry) (id : ℕ) (told : Bool) (after : OutboxOf)
      → told ≡ may_answer log old.outbox.list id → AnswersIf told id old.outbox after
      → IsSound hall desks p (world after old.file)
  after_answer log id true after may e =
      let i = of_item log id (sym may) in
      subst (λ (o : OutboxOf). IsSound hall desks p (world o old.file)) (sym e)
      (relisted hall desks p p old (with_answer old.outbox.list id) s
      (answered_kept s.tail old.outbox.list s.keeps id i.last)
      (answered_promised s.tail old.outbox.list s.keeps id i.last p s.promised)
      (step_answered s.tail old.outbox.list id i.first i.last s.keeps.ends i.known s.step))
  after_answer log id false after may e =
      subst (λ (o : OutboxOf). IsSound hall desks p (world o old.file)) (sym e) s

  -- ---- the lines are kept

  after_kept : IsSound hall desks (promises_of (p.made ++ p.due) [])
      (world (with_list old.outbox (all_kept old.outbox.list)) (old.file ++ old.outbox.list.lines))
  after_kept =
      let lines = old.outbox.list.lines in
      let tail = s.tail ++ whole_lines lines in
      record {
        number = s.number;
        desk = s.desk;
        aim = s.aim;
        tail = tail;
        named =
            whole_after old.file lines s.ends ∙ ap (λ front. front ++ whole_lines lines) s.named;
        ends = cut_after old.file lines s.ends ∙ s.keeps.ends;
        keeps = kept_kept s.tail old.outbox.list s.keeps;
        promised = kept_promised s.tail old.outbox.list s.keeps p s.promised;
        step = step_kept s.tail old.outbox.list s.step;
        says =
            says_wider (IsQuestion hall.number desks s.tail) (IsQuestion hall.number desks tail)
            (λ question q. record {
              desk = q.desk;
              entry = q.entry;
              aimed = q.aimed;
              line = Contains-append_left s.tail (whole_lines lines) (item_line q.entry) q.line;
              is = q.is;
            }) old.outbox.line.talking s.says;
      }

  -- ---- the program is started again

  tails : (a b : List (List ℕ)) (x : List ℕ) → x ∷ a ≡ x ∷ b → a ≡ b
  tails a b x e = cc

  pub written : (more : List ℕ) (tail : List (List ℕ))
      → whole_lines (old.file ++ more) ≡ hall_line hall ∷ tail
      → AllByRecursion (IsWritten tail) p.made
  written more tail is =
      let parts : whole_lines (old.file ++ more) ≡ hall_line hall ∷ (s.tail ++ whole_lines more) =
      whole_after old.file more s.ends ∙ ap (λ front. front ++ whole_lines more) s.named in
      let longer : s.tail ++ whole_lines more ≡ tail =
      tails (s.tail ++ whole_lines more) tail (hall_line hall) (sym parts ∙ is) in
      all_weaker (IsPromised s.tail (take old.outbox.list.kept old.outbox.list.items))
      (IsWritten tail) (λ e i. record {
        read = i.read;
        line =
            subst (λ l. Contains l (item_line e)) longer
            (Contains-append_left s.tail (whole_lines more) (item_line e) i.line);
      }) p.made s.promised.made

-- ---- all calls

here : (desks : List ℕ) (desk : ℕ) → Contains (desks ++ desk ∷ []) desk
here desks desk = Contains-push desks desk

longer : (desks : List ℕ) (desk d : ℕ) → Contains desks d → Contains (desks ++ desk ∷ []) d
longer desks desk d c = Contains-append_left desks (desk ∷ []) d c

after_take : (hall : HallOf) (desks : List ℕ) (p : PromisesOf) (old : World) (entry : Entry)
    (now : ℕ) (came : QueueOutcome) (list : ItemsOf) → IsEntry entry → IsSound hall desks p old
    → Takes old.outbox.list entry now came list
    → IsSound hall desks (after_call (Take entry now came) p)
    (world (with_list old.outbox list) old.file)
after_take hall desks p old entry now taken.New list is s t =
    after_new hall desks p old entry now is s (item_in old.outbox.list entry.id) refl list t
after_take hall desks p old entry now came list is s t =
    unchanged hall desks p old entry now is s list
    (same_list hall desks p old entry now is s came (λ e. absurd cc)
    (item_in old.outbox.list entry.id) list t)

to : (hall : HallOf) (desks : List ℕ) (p : PromisesOf) (a b : World) → b ≡ a
    → IsSound hall desks p a → IsSound hall desks p b
to hall desks p a b e s = subst (IsSound hall desks p) (sym e) s

pub after_a_call : (hall : HallOf) (desks : List ℕ) (p : PromisesOf) (call : Call) (old new : World)
    → IsSound hall desks p old → CallLeads hall call old new
    → IsSound hall (aimed_by call desks) (after_call call p) new
after_a_call hall desks p (Take entry now came) old new s (is, list, takes, e) =
    to hall desks (after_call (Take entry now came) p) _ new e
    (after_take hall desks p old entry now came list is s takes)
after_a_call hall desks p Kept old new s e =
    to hall desks _ _ new e (after_kept hall desks p old s)
after_a_call hall desks p NotKept old new s e =
    to hall desks _ _ new e (relisted hall desks p (promises_of p.made []) old
    (taken_back old.outbox.list) s (back_kept s.tail old.outbox.list s.keeps)
    (back_promised s.tail old.outbox.list s.keeps p s.promised)
    (step_back s.tail old.outbox.list s.keeps.within s.step))
after_a_call hall desks p (Answer log id told) old new s (after, answers, e) =
    to hall desks p _ new e (after_answer hall desks p old s log id told after answers.0 answers.1)
after_a_call hall desks p (Look log) old new s e =
    to hall desks p _ new e (after_look hall desks p old.file log old.outbox s)
after_a_call hall desks p (Aim desk) old new s e =
    let more = desks ++ desk ∷ [] in
    let wide =
    more_desks hall desks more p old (longer desks desk) s in
    to hall more p _ new e (record {
      number = wide.number;
      desk = wide.desk;
      aim = here desks desk;
      tail = wide.tail;
      named = wide.named;
      ends = wide.ends;
      keeps = wide.keeps;
      promised = wide.promised;
      step = wide.step;
      says = wide.says;
    })
after_a_call hall desks p (InDialogue call) old new s (after, leads, e) =
    to hall desks p _ new e
    (after_dialogue hall desks p old.file old.outbox.seen old.outbox.decided call old.outbox after
    (record { sound = s; seen_is = refl; decided_is = refl }) leads).sound
after_a_call hall desks p (Restart more desk now) old new s start =
    started hall desk now (old.file ++ more) new (desks ++ desk ∷ []) p.made
    (here desks desk) start (written hall desks p old s more)

pub sound : (hall : HallOf) (h : History) (w : World) → Leads hall h w
    → IsSound hall (targets h) (promises h) w
sound hall (Start desk now bytes) w start =
    started hall desk now bytes w (desk ∷ []) [] (Contains-push [] desk) start (λ tail is. tt)
sound hall (Then h call) w (before, leads, call_leads) =
    after_a_call hall (targets h) (promises h) call before w (sound hall h before leads) call_leads

-- ---- the laws

of_submit : (hall : HallOf) (desks : List ℕ) (tail : List (List ℕ)) (file : List ℕ)
    (talking : Option ExchangeOf) → whole_lines file ≡ hall_line hall ∷ tail
    → SaysOver (IsQuestion hall.number desks tail) talking
    → (unsent_by talking ≡ []) ⊎ IsOfSubmit hall desks file (unsent_by talking)
of_submit hall desks tail file None named says = inl refl
of_submit hall desks tail file (Some t) named says =
    elim says.unsent [
      | inl none ↦ inl none
      | inr (question, sent, q, is) ↦
          inr (record {
            desk = q.desk;
            entry = q.entry;
            sent = sent;
            aimed = q.aimed;
            line =
                subst (λ lines. Contains lines (item_line q.entry)) (sym named)
                (contains_next (hall_line hall) tail (item_line q.entry) q.line);
            is = is ∙ ap (λ f. drop sent (spelling f)) q.is;
          })
    ]

pub fixed : Fixed
fixed hall h w leads =
    let s = sound hall h w leads in
    record {
      submits =
          of_submit hall (targets h) s.tail w.file w.outbox.line.talking s.named s.says;
      named = (s.tail, s.named);
      one = one_each hall (targets h) (promises h) w s;
    }

pub nothing_is_lost : NothingTakenIsLost
nothing_is_lost hall h w entry leads there =
    let s = sound hall h w leads in
    let list = w.outbox.list in
    let i =
    all_contains (IsPromised s.tail (take list.kept list.items)) (promises h).made entry
    s.promised.made there in
    let all =
    subst (λ items. IsIn items entry) (take-append-drop list.kept list.items)
    (in_front (take list.kept list.items) (drop list.kept list.items) entry i.listed) in
    record { item = all.item; found = all.found; is = all.is }

pub reads_after_crash : ReadsAfterCrash
reads_after_crash hall h w count now leads =
    let s = sound hall h w leads in
    reads_part hall now count w.file s.tail w.outbox.list s.named s.ends s.step
