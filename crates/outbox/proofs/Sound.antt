-- An outbox and its journal stay sound, whatever calls are made.
use Rattle.std.proofs.Common.{◌≡◌, ℕ, ◌^◌, ◌<◌, ◌≤◌, inr, List, [], ◌∷◌, ◌++◌, length, take, drop}
use Rattle.std.proofs.Common.{None, Ok, refl, sym, ap, All, ◌∙◌, arith, subst, length-append}
use Rattle.std.{specs.Prelude.Contains, specs.List.AllByRecursion, proofs.Math.Seq.take-length}
use Rattle.std.proofs.lemmas.List.{drop-append-le, length-take-le, take-append-drop, take-append-le}
use Rattle.std.proofs.lemmas.List.Elements.{Contains-append_left, Contains-append_right}
use Rattle.acceptor.specs.declared.entry.Entry.{Entry}
use Rattle.wire.specs.declared.frame.Frame.{Frame}
use Rattle.desk_talks.proofs.Saying.{SaysOver}
use Rattle.outbox.specs.{declared.item.Item.Item, Items.with_answer, Journals.after_lines}
use Rattle.outbox.specs.Histories.{IsStarted, PromisesOf, World, promises_of}
use Rattle.outbox.specs.Items.{ItemsOf, all_kept, item_in, no_items, queued, taken_at, taken_back}
use Rattle.outbox.specs.Lines.{HallOf, answered_line, cut_line, hall_line, item_line, whole_lines}
use Rattle.outbox.specs.Lines.{with_end}
use Rattle.outbox.specs.Outboxes.{OutboxOf, new_outbox, submit_request}
use Rattle.outbox.proofs.Additions.{ends_more, has_new, read_from, wide}
use Rattle.outbox.proofs.{Crash.InStep, Crash.step_read, Pieces.IsNoEnd, Reading.line_read}
use Rattle.outbox.proofs.Lists.{all_append, all_take, all_weaker, contains_next}
use Rattle.outbox.proofs.Reading.{HasLine, IsIn, IsKeyed, IsRead, in_front, in_last, is_read}
use Rattle.outbox.proofs.Spelled.{IsFit, ReadsBack, answered_no_end, item_no_end, said_item}

-- a Submit of an entry whose line is among these, for one of the desks
pub record IsQuestion (number : ℕ) (desks : List ℕ) (lines : List (List ℕ)) (question : Frame)
    : Type 0 where
  pub desk : ℕ
  pub entry : Entry
  pub aimed : Contains desks desk
  pub line : Contains lines (item_line entry)
  pub is : question ≡ submit_request number desk entry

-- the lines of the items are in the file, or are to be put there
pub record AreKept (tail : List (List ℕ)) (q : ItemsOf) : Type 0 where
  pub ends : cut_line q.lines ≡ []
  pub within : q.kept ≤ length q.items
  pub keyed : AllByRecursion IsKeyed q.items
  pub kept : AllByRecursion (HasLine tail) (take q.kept q.items)
  pub due : AllByRecursion (HasLine (whole_lines q.lines)) (drop q.kept q.items)

-- an entry whose line is among these is that of one of the items
pub record IsPromised (lines : List (List ℕ)) (items : List (ℕ × Item)) (entry : Entry)
    : Type 0 where
  pub read : ReadsBack entry
  pub line : Contains lines (item_line entry)
  pub listed : IsIn items entry

pub record Promises (tail : List (List ℕ)) (q : ItemsOf) (p : PromisesOf) : Type 0 where
  pub made : AllByRecursion (IsPromised tail (take q.kept q.items)) p.made
  pub due : AllByRecursion (IsPromised (whole_lines q.lines) q.items) p.due

pub record IsSound (hall : HallOf) (desks : List ℕ) (p : PromisesOf) (w : World) : Type 0 where
  pub number : w.outbox.hall ≡ hall.number
  pub desk : Contains desks w.outbox.desk
  pub aim : Contains desks w.outbox.aim
  pub tail : List (List ℕ)
  pub named : whole_lines w.file ≡ hall_line hall ∷ tail
  pub ends : cut_line w.file ≡ []
  pub keeps : AreKept tail w.outbox.list
  pub promised : Promises tail w.outbox.list p
  pub step : InStep tail w.outbox.list
  pub says : SaysOver (IsQuestion hall.number desks tail) w.outbox.line.talking

-- ---- the lists

promised_wider : (lines more : List (List ℕ)) (items longer : List (ℕ × Item))
    → ((x : List ℕ) → Contains lines x → Contains more x)
    → ((e : Entry) → IsIn items e → IsIn longer e) → (entries : List Entry)
    → AllByRecursion (IsPromised lines items) entries
    → AllByRecursion (IsPromised more longer) entries
promised_wider lines more items longer wide long entries all =
    all_weaker (IsPromised lines items) (IsPromised more longer)
    (λ e i. record { read = i.read; line = wide (item_line e) i.line; listed = long e i.listed })
    entries all

lines_wider : (lines more : List (List ℕ)) → ((x : List ℕ) → Contains lines x → Contains more x)
    → (items : List (ℕ × Item)) → AllByRecursion (HasLine lines) items
    → AllByRecursion (HasLine more) items
lines_wider lines more wide items all =
    all_weaker (HasLine lines) (HasLine more) (λ x c. wide (item_line x.1.entry) c) items all

none_due : {X : Type 0} → (P : X → Type 0) (xs : List X) → AllByRecursion P (drop (length xs) xs)
none_due P [] = tt
none_due P (x ∷ xs) = none_due P xs

-- ---- an item is taken

module _ (tail : List (List ℕ)) (q : ItemsOf) (entry : Entry) (now : ℕ) (k : AreKept tail q)
    (fit : IsFit entry) (new : item_in q entry.id ≡ None) where
  free : All IsNoEnd (item_line entry)
  free = item_no_end entry fit

  front_same : take q.kept (q.items ++ (entry.id, taken_at entry now) ∷ []) ≡ take q.kept q.items
  front_same = take-append-le q.kept q.items ((entry.id, taken_at entry now) ∷ []) k.within

  queued_due : AllByRecursion (HasLine (whole_lines (q.lines ++ with_end (item_line entry))))
      (drop q.kept (q.items ++ (entry.id, taken_at entry now) ∷ []))
  queued_due =
      let more = whole_lines (q.lines ++ with_end (item_line entry)) in
      let pair : ℕ × Item = (entry.id, taken_at entry now) in
      subst (AllByRecursion (HasLine more))
      (sym (drop-append-le q.kept q.items (pair ∷ []) k.within))
      (all_append (HasLine more) (drop q.kept q.items) (pair ∷ [])
      (lines_wider (whole_lines q.lines) more (wide q.lines (item_line entry) k.ends free)
      (drop q.kept q.items) k.due) (has_new q.lines (item_line entry) k.ends free, tt))

  pub queued_kept : AreKept tail (queued q entry now)
  queued_kept =
      let pair : ℕ × Item = (entry.id, taken_at entry now) in
      record {
        ends = ends_more q.lines (item_line entry) k.ends free;
        within = omega (arith, k.within, length-append q.items (pair ∷ []));
        keyed =
            all_append IsKeyed q.items (pair ∷ []) k.keyed (
              record {
                is = refl;
                first = fit.first;
                last = fit.last;
                read = said_item entry fit;
              },
              tt,
            );
        kept = subst (AllByRecursion (HasLine tail)) (sym front_same) k.kept;
        due = queued_due;
      }

  pub queued_promised : (p : PromisesOf) → Promises tail q p
      → Promises tail (queued q entry now) (promises_of p.made (p.due ++ entry ∷ []))
  queued_promised p m =
      let more = whole_lines (q.lines ++ with_end (item_line entry)) in
      let pair : ℕ × Item = (entry.id, taken_at entry now) in
      let items = q.items ++ pair ∷ [] in
      record {
        made =
            subst (λ front. AllByRecursion (IsPromised tail front) p.made) (sym front_same) m.made;
        due =
            all_append (IsPromised more items) p.due (entry ∷ [])
            (promised_wider (whole_lines q.lines) more q.items items
            (wide q.lines (item_line entry) k.ends free)
            (λ e i. in_front q.items (pair ∷ []) e i) p.due m.due) (
              record {
                read = said_item entry fit;
                line = has_new q.lines (item_line entry) k.ends free;
                listed = in_last q.items entry now new;
              },
              tt,
            );
      }

-- ---- the lines are kept, or not

module _ (tail : List (List ℕ)) (q : ItemsOf) (k : AreKept tail q) where
  all_lines : AllByRecursion (HasLine (tail ++ whole_lines q.lines)) q.items
  all_lines =
      let more = tail ++ whole_lines q.lines in
      subst (AllByRecursion (HasLine more)) (take-append-drop q.kept q.items)
      (all_append (HasLine more) (take q.kept q.items) (drop q.kept q.items)
      (lines_wider tail more (Contains-append_left tail (whole_lines q.lines))
      (take q.kept q.items) k.kept)
      (lines_wider (whole_lines q.lines) more (Contains-append_right tail (whole_lines q.lines))
      (drop q.kept q.items) k.due))

  pub kept_kept : AreKept (tail ++ whole_lines q.lines) (all_kept q)
  kept_kept = record {
    ends = refl;
    within = omega arith;
    keyed = k.keyed;
    kept =
        subst (AllByRecursion (HasLine (tail ++ whole_lines q.lines))) (sym (take-length q.items))
        all_lines;
    due = none_due (HasLine (whole_lines [])) q.items;
  }

  in_all : (e : Entry) → IsIn (take q.kept q.items) e → IsIn q.items e
  in_all e i =
      subst (λ items. IsIn items e) (take-append-drop q.kept q.items)
      (in_front (take q.kept q.items) (drop q.kept q.items) e i)

  pub kept_promised : (p : PromisesOf) → Promises tail q p
      → Promises (tail ++ whole_lines q.lines) (all_kept q) (promises_of (p.made ++ p.due) [])
  kept_promised p m =
      let more = tail ++ whole_lines q.lines in
      record {
        made =
            subst (λ front. AllByRecursion (IsPromised more front) (p.made ++ p.due))
            (sym (take-length q.items)) (all_append (IsPromised more q.items) p.made p.due
            (promised_wider tail more (take q.kept q.items) q.items
            (Contains-append_left tail (whole_lines q.lines)) in_all p.made m.made)
            (promised_wider (whole_lines q.lines) more q.items q.items
            (Contains-append_right tail (whole_lines q.lines)) (λ e i. i) p.due m.due));
        due = tt;
      }

  front_length : length (take q.kept q.items) ≡ q.kept
  front_length = length-take-le q.kept q.items k.within

  front_again : take q.kept (take q.kept q.items) ≡ take q.kept q.items
  front_again =
      ap (λ n. take n (take q.kept q.items)) (sym front_length) ∙ take-length (take q.kept q.items)

  pub back_kept : AreKept tail (taken_back q)
  back_kept = record {
    ends = refl;
    within = omega (arith, front_length);
    keyed = all_take IsKeyed q.kept q.items k.keyed;
    kept = subst (AllByRecursion (HasLine tail)) (sym front_again) k.kept;
    due =
        subst (λ n. AllByRecursion (HasLine (whole_lines [])) (drop n (take q.kept q.items)))
        front_length (none_due (HasLine (whole_lines [])) (take q.kept q.items));
  }

  pub back_promised : (p : PromisesOf) → Promises tail q p
      → Promises tail (taken_back q) (promises_of p.made [])
  back_promised p m = record {
    made =
        subst (λ front. AllByRecursion (IsPromised tail front) p.made) (sym front_again) m.made;
    due = tt;
  }

  -- ---- an item is answered

  module _ (id : ℕ) (last : id < 2 ^ 63) where
    answer_free : All IsNoEnd (answered_line id)
    answer_free = answered_no_end id last

    pub answered_kept : AreKept tail (with_answer q id)
    answered_kept = record {
      ends = ends_more q.lines (answered_line id) k.ends answer_free;
      within = k.within;
      keyed = k.keyed;
      kept = k.kept;
      due =
          lines_wider (whole_lines q.lines) (whole_lines (q.lines ++ with_end (answered_line id)))
          (wide q.lines (answered_line id) k.ends answer_free) (drop q.kept q.items) k.due;
    }

    pub answered_promised : (p : PromisesOf) → Promises tail q p
        → Promises tail (with_answer q id) p
    answered_promised p m = record {
      made = m.made;
      due =
          promised_wider (whole_lines q.lines)
          (whole_lines (q.lines ++ with_end (answered_line id))) q.items q.items
          (wide q.lines (answered_line id) k.ends answer_free) (λ e i. i) p.due m.due;
    }

-- ---- a journal is read

all_self : {X : Type 0} → (xs : List X) → AllByRecursion (Contains xs) xs
all_self [] = tt
all_self (x ∷ xs) = (
  (0, omega arith, refl),
  all_weaker (Contains xs) (Contains (x ∷ xs)) (contains_next x xs) xs (all_self xs),
)

-- the lines of entries are among those that are read
pub record IsWritten (lines : List (List ℕ)) (entry : Entry) : Type 0 where
  pub read : ReadsBack entry
  pub line : Contains lines (item_line entry)

module _ (now : ℕ) (tail : List (List ℕ)) (q : ItemsOf)
    (reads : after_lines no_items now 2 tail ≡ Ok q)
  where
    pub read : IsRead tail q
    read = is_read now tail q 2 (all_self tail) reads

    whole_front : take q.kept q.items ≡ q.items
    whole_front = ap (λ n. take n q.items) read.kept ∙ take-length q.items

    pub read_kept : AreKept tail q
    read_kept = record {
      ends = ap cut_line read.none;
      within = let e = read.kept in omega (arith, e);
      keyed = read.keyed;
      kept = all_take (HasLine tail) q.kept q.items read.lines;
      due =
          subst (λ n. AllByRecursion (HasLine (whole_lines q.lines)) (drop n q.items))
          (sym read.kept) (none_due (HasLine (whole_lines q.lines)) q.items);
    }

    pub read_promised : (made : List Entry) → AllByRecursion (IsWritten tail) made
        → Promises tail q (promises_of made [])
    read_promised made all = record {
      made =
          subst (λ front. AllByRecursion (IsPromised tail front) made) (sym whole_front)
          (all_weaker (IsWritten tail) (IsPromised tail q.items) (λ e i. record {
            read = i.read;
            line = i.line;
            listed = line_read now e i.read no_items q 2 tail reads (inr i.line);
          }) made all);
      due = tt;
    }

-- an outbox that is read from a file is sound
pub started : (hall : HallOf) (desk now : ℕ) (bytes : List ℕ) (w : World) (desks : List ℕ)
    (made : List Entry) → Contains desks desk → IsStarted hall desk now bytes w
    → ((tail : List (List ℕ)) → whole_lines bytes ≡ hall_line hall ∷ tail
    → AllByRecursion (IsWritten tail) made) → IsSound hall desks (promises_of made []) w
started hall desk now bytes w desks made here s written =
    let r = read_from hall now (whole_lines bytes) s.list s.reads in
    let o = new_outbox hall.number desk s.list in
    let fresh : o ≡ w.outbox = sym s.fresh in
    record {
      number = ap (λ (x : OutboxOf). x.hall) s.fresh;
      desk = subst (λ (x : OutboxOf). Contains desks x.desk) fresh here;
      aim = subst (λ (x : OutboxOf). Contains desks x.aim) fresh here;
      tail = r.tail;
      named = s.whole.lines ∙ r.named;
      ends = s.whole.ends;
      keeps =
          subst (λ (x : OutboxOf). AreKept r.tail x.list) fresh
          (read_kept now r.tail s.list r.reads);
      promised =
          subst (λ (x : OutboxOf). Promises r.tail x.list (promises_of made [])) fresh
          (read_promised now r.tail s.list r.reads made (written r.tail r.named));
      step =
          let i = read now r.tail s.list r.reads in
          subst (λ (x : OutboxOf). InStep r.tail x.list) fresh
          (step_read now r.tail s.list r.reads i.kept i.none);
      says =
          subst
          (λ (x : OutboxOf). SaysOver (IsQuestion hall.number desks r.tail) x.line.talking) fresh
          tt;
    }
