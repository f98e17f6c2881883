-- Pages that are kept by their paths, where one is put there and where none is left.
use Rattle.std.proofs.Common.{◌≡◌, ◌⊎◌, inl, inr, ℕ, List, [], Option, None, Some, Bool, true}
use Rattle.std.proofs.Common.{false, cond, refl, sym, ap, subst, ◌∙◌, unwrap_or, String, bytes_eq}
use Rattle.std.{proofs.Common.string_bytes, proofs.Common.string_eq, specs.Map.lookup}
use Rattle.std.proofs.lemmas.{Map.Text.hash_map_updates_text, Slice.Eq.bytes_eq-Decides}
use Rattle.acceptor.specs.declared.entry.Entry.{Entry}
use Rattle.indexmap.specs.IndexMap.{IndexMap, Updates, get_by_text}
use Rattle.markup.specs.declared.replies.page.Page.{Page}
use Rattle.board_views.specs.Views.{IsPageAt}
use Rattle.board_service.specs.{declared.shelf.Shelf.Shelf, Shelves.AreAllAt, Shelves.Puts}
use Rattle.desk_sockets.specs.declared.desk_stream.DialogueChange.TheVariants as kept

module _ {Y S : Type 0} (m n : IndexMap (String Y) Page S) where
  -- a map without an entry
  pub none_by_text : m.entries ≡ [] → (path : List ℕ) → get_by_text m path ≡ None
  none_by_text none path =
      subst (λ es. lookup (λ k. bytes_eq path (string_bytes k)) es ≡ None) (sym none) refl

  -- one with the entries of another
  pub same_by_text : n.entries ≡ m.entries → (path : List ℕ) (p : Page)
      → get_by_text n path ≡ Some p → get_by_text m path ≡ Some p
  same_by_text same path p at =
      subst (λ es. lookup (λ k. bytes_eq path (string_bytes k)) es ≡ Some p) same at

  which : (b : Bool) (was : Option Page) (page p : Page) → cond b (Some page) was ≡ Some p
      → (was ≡ Some p) ⊎ ((b ≡ true) × (p ≡ page))
  which true was page p is = inr (refl, sym (ap (λ o. unwrap_or o page) is))
  which false was page p is = inl is

  -- one that got a page at a key
  pub put_by_text : (key : String Y) (page : Page) → Updates string_eq m n key (Some page)
      → (path : List ℕ) (p : Page) → get_by_text n path ≡ Some p
      → (get_by_text m path ≡ Some p) ⊎ ((path ≡ string_bytes key) × (p ≡ page))
  put_by_text key page updates path p at =
      let text = string_bytes key in
      let after = hash_map_updates_text text m n (Some page) updates path in
      elim (which (bytes_eq text path) (get_by_text m path) page p (sym after ∙ at)) as
      (λ _. (get_by_text m path ≡ Some p) ⊎ ((path ≡ text) × (p ≡ page))) [
        | inl old ↦ inl old
        | inr new ↦ inr (sym ((bytes_eq-Decides text path).0 new.0), new.1)
      ]

-- the same where others were given up first
module _ {Y S : Type 0} (before room after : IndexMap (String Y) Page S)
    (fewer : (q : List ℕ) (p : Page) → get_by_text room q ≡ Some p → get_by_text before q ≡ Some p)
    (at : List ℕ) (page : Page) where
  pub put_after : (key : String Y) → string_bytes key ≡ at
      → Updates string_eq room after key (Some page) → (q : List ℕ) (p : Page)
      → get_by_text after q ≡ Some p → (get_by_text before q ≡ Some p) ⊎ ((q ≡ at) × (p ≡ page))
  put_after key is updates q p there =
      elim (put_by_text room after key page updates q p there) as
      (λ _. (get_by_text before q ≡ Some p) ⊎ ((q ≡ at) × (p ≡ page))) [
        | inl was ↦ inl (fewer q p was)
        | inr new ↦ inr (new.0 ∙ is, new.1)
      ]

  pub not_put_after : after.entries ≡ room.entries → (q : List ℕ) (p : Page)
      → get_by_text after q ≡ Some p → (get_by_text before q ≡ Some p) ⊎ ((q ≡ at) × (p ≡ page))
  not_put_after same q p there = inl (fewer q p (same_by_text room after same q p there))

-- ---- shelves

-- the page at a path is put there
pub put_is_at : (title : List ℕ) (log : List Entry) (old new : Shelf) (at : List ℕ) (page : Page)
    → AreAllAt title log old → IsPageAt title log at (Some page) → Puts at page old new
    → AreAllAt title log new
put_is_at title log old new at page all here puts path p there =
    elim (puts path p there) as (λ _. IsPageAt title log path (Some p)) [
      | inl was ↦ all path p was
      | inr is ↦
          subst (λ (q : List ℕ). IsPageAt title log q (Some p)) (sym is.0)
          (subst (λ (r : Page). IsPageAt title log at (Some r)) (sym is.1) here)
    ]
