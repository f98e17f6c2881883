-- The desks at one address more.
use Rattle.std.proofs.Common.{◌≡◌, refl, sym, ap, ◌∙◌, ℕ, suc, zero, ◌+◌, ◌-◌, ◌<◌}
use Rattle.std.proofs.Common.{List, [], ◌∷◌, ◌++◌, Option, None, Some, take, length, arith}
use Rattle.std.specs.{Prelude.slice_get, declared.net.SocketAddr.SocketAddr}
use Rattle.desk_sockets.specs.Wires.{address_of, found}
use Rattle.mio_sockets.specs.Wiring.{lines_at, lines_from, new_line}

more : (addresses : List (Option SocketAddr)) (n i m : ℕ) → m ≡ n + i → i < length addresses
    → lines_from n (take (suc i) addresses)
    ≡ lines_from n (take i addresses) ++ lines_at m (found (slice_get addresses i))
more [] n i m at within = absurd (omega (arith, within))
more (None ∷ addresses) n zero m at within = refl
more (Some address ∷ addresses) n zero m at within =
    ap (λ (x : ℕ). new_line x address ∷ []) (omega (arith, at))
more (None ∷ addresses) n (suc i) m at within =
    more addresses (n + 1) i m (omega (arith, at)) (omega (arith, within))
more (Some address ∷ addresses) n (suc i) m at within =
    ap (λ ls. new_line n address ∷ ls)
    (more addresses (n + 1) i m (omega (arith, at)) (omega (arith, within)))

pub one_more : (addresses : List (Option SocketAddr)) (place desk : ℕ) → desk ≡ place + 1
    → place < length addresses → lines_from 1 (take (place + 1) addresses)
    ≡ lines_from 1 (take place addresses) ++ lines_at desk (address_of addresses desk)
one_more addresses place desk is within =
    let at : desk - 1 ≡ place = omega (arith, is) in
    let next : place + 1 ≡ suc place = omega arith in
    ap (λ (k : ℕ). lines_from 1 (take k addresses)) next
    ∙ more addresses 1 place desk (omega (arith, is)) within
    ∙ ap (λ (k : ℕ). lines_from 1 (take place addresses)
    ++ lines_at desk (found (slice_get addresses k))) (sym at)
