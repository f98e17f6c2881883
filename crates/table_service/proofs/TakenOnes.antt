-- Entries that are taken, one after the other.
use Rattle.std.proofs.Common.{◌≡◌, ◌++◌, ◌+◌, ◌∷◌, [], ◌≤◌, ℕ, List, Option, None, Some, ap, arith}
use Rattle.std.proofs.Common.{length, length-append, refl, subst, sym}
use Rattle.std.proofs.lemmas.List.{take-append-le}
use Rattle.acceptor.specs.declared.entry.Entry.{Entry}
use Rattle.outbox.specs.declared.item.{Item.Item, QueueOutcome.QueueOutcome}
use Rattle.outbox.specs.Items.{ItemsOf, Takes, TakesBy, item_in, items_of, queued, taken_at}
use Rattle.table_service.specs.Services.{StaysKept}
use Rattle.outbox.specs.declared.item.QueueOutcome.TheVariants as taken

module _ (old new : ItemsOf) (entry : Entry) (now : ℕ) (low : old.kept ≤ length old.items) where
  same_kept : new ≡ old → StaysKept old new
  same_kept is = subst (λ (q : ItemsOf). StaysKept old q) (sym is) (refl, low)

  queued_kept : StaysKept old (queued old entry now)
  queued_kept =
      let one : List (ℕ × Item) = (entry.id, taken_at entry now) ∷ [] in
      let size : length (old.items ++ one) ≡ length old.items + 1 = length-append old.items one in (
        ap (λ (xs : List (ℕ × Item)). items_of xs old.kept [] old.answered)
            (take-append-le old.kept old.items one low),
        omega (arith, size, low),
      )

  takes_by : (item : Option Item) (what : QueueOutcome) → TakesBy item old entry now what new
      → StaysKept old new
  takes_by (Some item) what takes = same_kept takes.1
  takes_by None taken.New takes =
      subst (λ (q : ItemsOf). StaysKept old q) (sym takes.2) queued_kept
  takes_by None taken.Unfit takes = same_kept takes.1
  takes_by None taken.Full takes = same_kept takes.2
  takes_by None taken.Same takes = absurd takes
  takes_by None taken.Other takes = absurd takes

  pub stays_kept : (came : QueueOutcome) → Takes old entry now came new → StaysKept old new
  stays_kept came takes = takes_by (item_in old entry.id) came takes
