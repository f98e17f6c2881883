-- Pages that are kept by their paths (the project's own).
use Rattle.std.specs.Prelude.{◌≡◌, ◌⊎◌, ℕ, List, Option, None, Some}
use Rattle.acceptor.specs.declared.entry.Entry.{Entry}
use Rattle.indexmap.specs.IndexMap.{get_by_text}
use Rattle.desk_sockets.specs.declared.desk_stream.DialogueChange.{DialogueChange}
use Rattle.desk_sockets.specs.declared.desk_stream.DialogueChange.TheVariants as kept
use Rattle.markup.specs.declared.replies.page.Page.{Page}
use Rattle.board_views.specs.Views.{IsPageAt}
use Rattle.board_service.specs.declared.shelf.Shelf.{Shelf}

-- the page that is kept at a path
abbrev pub page_on : Shelf → List ℕ → Option Page
page_on shelf path = get_by_text shelf.pages path

abbrev pub HasNone : Shelf → Type 0
HasNone shelf = (path : List ℕ) → page_on shelf path ≡ None

-- all pages are kept where the mirror holds what it held, else none
abbrev pub IsRefreshed : DialogueChange → Shelf → Shelf → Type 0
IsRefreshed kept.Same old new = new ≡ old
IsRefreshed kept.Changed old new = HasNone new
IsRefreshed kept.Broken old new = HasNone new

-- what is kept afterwards was kept before, at its path
abbrev pub HasNoOther : Shelf → Shelf → Type 0
HasNoOther old new =
    (path : List ℕ) (p : Page) → page_on new path ≡ Some p → page_on old path ≡ Some p

-- the same but for this page at this path
abbrev pub Puts : List ℕ → Page → Shelf → Shelf → Type 0
Puts at page old new =
    (path : List ℕ) (p : Page) → page_on new path ≡ Some p
    → (page_on old path ≡ Some p) ⊎ ((path ≡ at) × (p ≡ page))

-- each page that is kept is the page at its path
abbrev pub AreAllAt : List ℕ → List Entry → Shelf → Type 0
AreAllAt title log shelf =
    (path : List ℕ) (p : Page) → page_on shelf path ≡ Some p → IsPageAt title log path (Some p)
