-- What was taken, or was known before, is in the list.
use Rattle.std.proofs.Common.{◌≡◌, ◌∙◌, ◌∷◌, ◌||◌, [], ℕ, Bool, true, false, List, Option, None}
use Rattle.std.proofs.Common.{Some, ap, cond, refl, subst, sym}
use Rattle.std.specs.{List.AllByRecursion, Map.lookup, Prelude.bytes_eq, Prelude.nat_eq}
use Rattle.std.proofs.lemmas.Slice.Eq.{bytes_eq-Decides}
use Rattle.acceptor.specs.declared.entry.Entry.{Entry}
use Rattle.card_forms.specs.Remarks.{before_remark, is_same_but_remark}
use Rattle.outbox.specs.declared.item.{Item.Item, QueueOutcome.QueueOutcome}
use Rattle.outbox.specs.Items.{ItemsOf, TakesBy, item_in, queued, taken_at}
use Rattle.outbox.proofs.Lists.{found_front, found_last}
use Rattle.table_service.specs.{Laws.IsSentIn, Taking.sent_as}
use Rattle.table_service.specs.Services.{TakesAll, TakesAs, is_new}
use Rattle.outbox.specs.declared.item.QueueOutcome.TheVariants as taken

same_text : (text : List ℕ) → is_same_but_remark text text ≡ true
same_text text = (bytes_eq-Decides (before_remark text) (before_remark text)).1 refl

-- one more item changes nothing of what is in the list
queued_stays : (q : ItemsOf) (one e : Entry) (now : ℕ) → IsSentIn q e
    → IsSentIn (queued q one now) e
queued_stays q one e now is = by (item_in q e.id) refl is
  where
    by : (o : Option Item) → item_in q e.id ≡ o → sent_as o e ≡ true → IsSentIn (queued q one now) e
    by None found none = absurd cc
    by (Some item) found same =
        ap (λ (o : Option Item). sent_as o e)
        (found_front e.id q.items ((one.id, taken_at one now) ∷ []) item found)
        ∙ same

module _ (old new : ItemsOf) (entry : Entry) (now : ℕ) where
  same_stays : (e : Entry) → new ≡ old → IsSentIn old e → IsSentIn new e
  same_stays e same is = subst (λ (q : ItemsOf). IsSentIn q e) (sym same) is

  stays_by : (e : Entry) (o : Option Item) (came : QueueOutcome) → TakesBy o old entry now came new
      → IsSentIn old e → IsSentIn new e
  stays_by e (Some item) came takes is = same_stays e takes.1 is
  stays_by e None taken.New takes is =
      subst (λ (q : ItemsOf). IsSentIn q e) (sym takes.2) (queued_stays old entry e now is)
  stays_by e None taken.Unfit takes is = same_stays e takes.1 is
  stays_by e None taken.Full takes is = same_stays e takes.2 is
  stays_by e None taken.Same takes is = absurd takes
  stays_by e None taken.Other takes is = absurd takes

  stays : (there : Bool) → TakesAs there old entry now new → (e : Entry) → IsSentIn old e
      → IsSentIn new e
  stays there one e is = stays_by e (item_in old entry.id) one.came one.takes is

  -- what is queued is in the list
  comes_by : (o : Option Item) → item_in old entry.id ≡ o → (came : QueueOutcome)
      → TakesBy o old entry now came new → (sent_as o entry || is_new came) ≡ true
      → IsSentIn new entry
  comes_by (Some item) found came takes is =
      known came (is_same_but_remark item.entry.text entry.text) refl takes.0 is
    where
      named : (b : Bool) → taken.New ≡ cond b taken.Same taken.Other → ⊥
      named true e = absurd cc
      named false e = absurd cc

      known : (t : QueueOutcome) (b : Bool) → is_same_but_remark item.entry.text entry.text ≡ b
          → t ≡ cond (bytes_eq item.entry.text entry.text) taken.Same taken.Other
          → (b || is_new t) ≡ true → IsSentIn new entry
      known t true same e so =
          same_stays entry takes.1 (ap (λ (o : Option Item). sent_as o entry) found ∙ same)
      known taken.New false same e so = absurd (named (bytes_eq item.entry.text entry.text) e)
      known taken.Same false same e so = absurd cc
      known taken.Other false same e so = absurd cc
      known taken.Unfit false same e so = absurd cc
      known taken.Full false same e so = absurd cc
  comes_by None found taken.New takes is =
      subst (λ (q : ItemsOf). IsSentIn q entry) (sym takes.2)
      (ap (λ (o : Option Item). sent_as o entry)
      (found_last entry.id old.items (taken_at entry now) found)
      ∙ same_text entry.text)
  comes_by None found taken.Unfit takes is = absurd cc
  comes_by None found taken.Full takes is = absurd cc
  comes_by None found taken.Same takes is = absurd takes
  comes_by None found taken.Other takes is = absurd takes

  comes : TakesAs true old entry now new → IsSentIn new entry
  comes one = comes_by (item_in old entry.id) refl one.came one.takes (sym one.is)

all_stay : (entries : List Entry) (old new : ItemsOf) (now : ℕ) → TakesAll old entries now new
    → (e : Entry) → IsSentIn old e → IsSentIn new e
all_stay [] old new now same e is = subst (λ (q : ItemsOf). IsSentIn q e) (sym same) is
all_stay (entry ∷ entries) old new now takes e is =
    all_stay entries takes.0 new now takes.2 e (stays old takes.0 entry now true takes.1 e is)

all_come : (entries : List Entry) (old new : ItemsOf) (now : ℕ) → TakesAll old entries now new
    → AllByRecursion (IsSentIn new) entries
all_come [] old new now takes = tt
all_come (entry ∷ entries) old new now takes = (
  all_stay entries takes.0 new now takes.2 entry (comes old takes.0 entry now takes.1),
  all_come entries takes.0 new now takes.2,
)

-- whether an entry is in the list is the items' alone
by_items : (entries : List Entry) (old new : ItemsOf) → new.items ≡ old.items
    → AllByRecursion (IsSentIn old) entries → AllByRecursion (IsSentIn new) entries
by_items [] old new same all = tt
by_items (entry ∷ entries) old new same all = (
  ap (λ (items : List (ℕ × Item)). sent_as (lookup (nat_eq entry.id) items) entry) same ∙ all.0,
  by_items entries old new same all.1,
)

pub sent_in : (entries : List Entry) (old list : ItemsOf) (now : ℕ) (new : ItemsOf)
    → TakesAll old entries now list → new.items ≡ list.items → AllByRecursion (IsSentIn new) entries
sent_in entries old list now new takes same =
    by_items entries list new same (all_come entries old list now takes)
