-- A page of HTML: what is before, between and after its rounds.
use Rattle.std.specs.Prelude.{ℕ, List, [], ◌∷◌}
use Rattle.board_views.specs.declared.frame.TheConstants.{FRAME, NO_ROUND}
use Rattle.markup.specs.{board_page.Escaped.escaped, Pieces.fill}

-- the rounds, or that there is none
unfoldable pub inside : List ℕ → List ℕ
inside [] = NO_ROUND.now
inside (b ∷ bs) = b ∷ bs

-- a page, under a class of the style: what it shows is in its title before the competition; with
-- further links and with what it shows
abbrev pub framed : List ℕ → List ℕ → List ℕ → List ℕ → List ℕ → List ℕ
framed class shows title between shown =
    fill FRAME.now (shows ∷ escaped title ∷ class ∷ escaped title ∷ between ∷ inside shown ∷ [])
