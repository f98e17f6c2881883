-- The tokens of what the answers come to.
use Rattle.std.proofs.Common.{◌≡◌, ◌<◌, ◌≤◌, ap, refl, ℕ, Bool, List, ◌∷◌, codes, flat_map, Option}
use Rattle.std.proofs.Common.{length, subst, sym}
use Rattle.json.specs.{Json.boolean, Json.member, Token.Token, Token.begin_array, Value.items_of}
use Rattle.json.specs.{Json.no_members, Tree.items_tokens, Tree.json_tokens, Tree.members_tokens}
use Rattle.standings.specs.AsJson.{difference_json, lag_of, lags_json, meaning_members, natural}
use Rattle.standings.specs.{AsText.in_order as is_in_order, Standings.status_of}
use Rattle.standings.specs.Standings.{answered, difference, every_desk, is_majority, size_of}
use Rattle.wire.specs.declared.standing.Difference.{Difference}
use Rattle.standings.specs.declared.polled.PolledDesk.{PolledDesk}

pub lags_tokens : (polled : List PolledDesk) (desks : List ℕ) → desks ≡ every_desk
    → begin_array ∷ items_tokens (items_of (flat_map (lag_of polled) desks))
    ≡ json_tokens (lags_json polled)
lags_tokens polled desks is =
    ap (λ ds. begin_array ∷ items_tokens (items_of (flat_map (lag_of polled) ds))) is

-- an index of the desks' numbers, and the end of them
pub within_five : (desks : List ℕ) (i : ℕ) → desks ≡ every_desk → i < 5 → i < length desks
within_five desks i is h = subst (λ ds. i < length ds) (sym is) h

pub past_five : (desks : List ℕ) (i : ℕ) → desks ≡ every_desk → 5 ≤ i → length desks ≤ i
past_five desks i is h = subst (λ ds. length ds ≤ i) (sym is) h

-- the tokens of the members with these values
abbrev pub tokens_with : List PolledDesk → (size n : ℕ) (majority in_order : Bool)
    → Option Difference → (status : ℕ) → List Token
tokens_with polled size n majority in_order differs status =
    members_tokens (member (codes "size") (natural size) (member (codes "answered") (natural n)
    (member (codes "majority") (boolean majority) (member (codes "in_order") (boolean in_order)
    (member (codes "behind") (lags_json polled)
    (member (codes "differs") (difference_json differs) (member (codes "status") (natural status)
    no_members)))))))

pub meaning_tokens : (polled : List PolledDesk) (size n : ℕ) (majority in_order : Bool)
    (differs : Option Difference) (status : ℕ)
    → size ≡ size_of polled → n ≡ answered polled → majority ≡ is_majority polled
    → in_order ≡ is_in_order polled → differs ≡ difference polled → status ≡ status_of polled
    → tokens_with polled size n majority in_order differs status
    ≡ members_tokens (meaning_members polled)
meaning_tokens polled size n majority in_order differs status hs hn hm ho hd ht =
    rw (hs, hn, hm, ho, hd, ht) refl
