-- The items that are shown, from the newest on.
use Rattle.std.proofs.Common.{◌≡◌, ◌∙◌, ◌+◌, ◌-◌, ◌++◌, ◌∷◌, ◌<◌, ◌≤◌, ℕ, Bool, List, Some, ap}
use Rattle.std.proofs.Common.{arith, drop, length, reverse, slice_get, sym}
use Rattle.std.proofs.lemmas.List.{at_drop_all, at_drop_more, get_or-reverse, length-reverse}
use Rattle.std.proofs.lemmas.Option.{get_or_from_slice_get}
use Rattle.acceptor.specs.declared.entry.Entry.{Entry}
use Rattle.outbox.specs.declared.{item.Item.Item, state.ItemState.ItemState}
use Rattle.outbox.specs.{Items.ItemsOf, Items.is_answered, States.state_of}
use Rattle.table_service.specs.Recents.{is_shown, left_after, recent_from, shown_if}
use Rattle.table_service.proofs.Walks.{added, ended}

module _ (log : List Entry) (list : ItemsOf) where
  -- what is shown of the items from the one at a place on, counted from the newest
  abbrev pub still : ℕ → ℕ → List (Item × ItemState)
  still left k = recent_from log list left (drop k (reverse list.items))

  next_of : (left k id : ℕ) (item : Item) → k < length list.items
      → Some (id, item) ≡ slice_get list.items (length list.items - 1 - k) → still left k
      ≡ shown_if (is_shown (state_of log item.entry) (is_answered list id) left) item
      (state_of log item.entry)
      ++ still (left_after (state_of log item.entry) left) (k + 1)
  next_of left k id item within is =
      let size = length-reverse list.items in
      let low : k < length (reverse list.items) = omega (arith, within, size) in
      at_drop_more (recent_from log list left) (reverse list.items) k (id, item) low
      ∙ ap (λ (pair : ℕ × Item).
      recent_from log list left (pair ∷ drop (k + 1) (reverse list.items)))
      (get_or-reverse list.items k (id, item) within
      ∙ get_or_from_slice_get list.items (length list.items - 1 - k) (id, item) (id, item) (sym is))

  pub shown_more : (left k id : ℕ) (item : Item) (became : ItemState) (answered shows : Bool)
      (next : ℕ) (old new all : List (Item × ItemState)) → k < length list.items
      → Some (id, item) ≡ slice_get list.items (length list.items - 1 - k)
      → became ≡ state_of log item.entry → answered ≡ is_answered list id
      → shows ≡ is_shown became answered left → next ≡ left_after became left
      → new ≡ old ++ shown_if shows item became → old ++ still left k ≡ all
      → new ++ still next (k + 1) ≡ all
  shown_more left k id item became answered shows next old new all within is state_is answered_is
      shows_is next_is adds before =
      let more : still left k ≡ shown_if shows item became ++ still next (k + 1) =
      next_of left k id item within is
      ∙ sym
      (ap (λ (b : Bool). shown_if b item became ++ still next (k + 1))
      (shows_is ∙ ap (λ (b : Bool). is_shown became b left) answered_is)
      ∙ ap
      (λ (n : ℕ).
      shown_if (is_shown became (is_answered list id) left) item became ++ still n (k + 1))
      next_is
      ∙ ap
      (λ (s : ItemState).
      shown_if (is_shown s (is_answered list id) left) item s
      ++ still (left_after s left) (k + 1))
      state_is) in
      added old new (shown_if shows item became) (still next (k + 1)) (still left k) all adds more
      before

  pub shown_all : (left k : ℕ) (new all : List (Item × ItemState)) → length list.items ≤ k
      → new ++ still left k ≡ all → new ≡ all
  shown_all left k new all past before =
      let size = length-reverse list.items in
      let high : length (reverse list.items) ≤ k = omega (arith, past, size) in
      ended new (still left k) all
      (at_drop_all (recent_from log list left) (reverse list.items) k high) before
