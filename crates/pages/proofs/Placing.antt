-- What is asked where a browser is given a place, or loses it.
use Rattle.std.proofs.Common.{◌≡◌, ◌≢◌, ◌↔◌, ◌<◌, inl, inr, refl, sym, ap, ◌∙◌, ℕ, List, [], ◌∷◌}
use Rattle.std.proofs.Common.{length, Bool, true, false, IsTrue, None, arith, nat_eq, cond}
use Rattle.std.{proofs.lemmas.Bool.ne_eqb, specs.Map.lookup}
use Rattle.indexmap.specs.IndexMap.{IndexMap, UpdatesBy, get}
use Rattle.http_server.specs.declared.connection.Connection.{Connection}
use Rattle.pages.specs.declared.table.{Browser.Browser, BrowserTable.BrowserTable}
use Rattle.pages.specs.{Kept.places_of, Asking.SettlesBy, Waiting.goes_on}
use Rattle.pages.specs.Musts.{Admits, Attends, EndsRound, turned_as, IsAt, IsGone, IsSame}
use Rattle.pages.specs.Musts.{IsSameBut, Settles, SettlesOn, has_some}
use Rattle.polled.specs.Requests.{Request}
use Rattle.pages.specs.declared.waiting.{TurnOutcome.TurnOutcome, Waiting.Waiting}
use Rattle.pages.specs.declared.waiting.TurnOutcome.TheVariants as turn

pub has_some_is : (bytes : List ℕ) (b : Bool) → (IsTrue b ↔ (0 < length bytes)) → b ≡ has_some bytes
has_some_is [] true h = absurd (omega (arith, h.0 refl))
has_some_is [] false h = refl
has_some_is (x ∷ xs) true h = refl
has_some_is (x ∷ xs) false h = h.1 (omega arith)

-- ---- places

module _ {S : Type 0} (m n : IndexMap ℕ Browser S) where
  pub unchanged : n.entries ≡ m.entries → (q : ℕ) → get nat_eq n q ≡ get nat_eq m q
  unchanged same q = ap (lookup (nat_eq q)) same

  -- without one
  pub without : (k : ℕ) → UpdatesBy nat_eq (nat_eq k) m n None
      → (get nat_eq n k ≡ None) × ((q : ℕ) → q ≢ k → get nat_eq n q ≡ get nat_eq m q)
  without k updates = (
    updates.1,
    λ q apart. updates.0 q
        ∙ ap (λ b. cond b None (get nat_eq m q)) (ne_eqb k q (λ e. apart (sym e))),
  )

-- ---- after a turn

abbrev pub placed : Connection → Waiting → Browser
placed c w = record { connection = c; waiting = w }

module _ {C : Type 0} (k : ℕ) (b : Browser) (old mid new : BrowserTable C)
    (none : places_of mid k ≡ None) (others : IsSameBut k old mid) where
  at_then : IsAt k b mid new → IsAt k b old new
  at_then h = (h.0, λ j apart. h.1 j apart ∙ others j apart)

  gone_then : IsSame mid new → IsGone k old new
  gone_then h = (h k ∙ none, λ j apart. h j ∙ others j apart)

  settles_on : (asked : List Request) → SettlesBy k b true mid new asked
      → SettlesOn k b old new asked
  settles_on asked (inl h) = inl (h.0, at_then h.1)
  settles_on asked (inr h) = inr (h.0, gone_then h.1)

  pub settles_as : (came : TurnOutcome) (asked : List Request)
      → SettlesBy k b (goes_on came) mid new asked → Settles k b came old new asked
  settles_as turn.Over asked h = (h.0, gone_then h.1)
  settles_as turn.Answered asked h = settles_on asked h
  settles_as turn.Waits asked h = settles_on asked h

-- ---- the same table, over other sockets

module _ {C : Type 0} (t new : BrowserTable C) (s : C) (asked : List Request) where
  abbrev over_others : BrowserTable C
  over_others = record t { sockets = s }

  pub admits_from : Admits over_others new asked → Admits t new asked
  admits_from h = record {
    mid = h.mid;
    first = h.first;
    room = h.room;
    next = h.next;
    time = h.time;
    more = h.more;
    accepts = h.accepts;
    all = h.all;
  }

  settles_from : (k : ℕ) (b : Browser) (came : TurnOutcome) (last : List Request)
      → Settles k b came over_others new last → Settles k b came t new last
  settles_from k b turn.Over last h = h
  settles_from k b _ last h = h

  pub attends_from : (k : ℕ) → Attends k over_others new asked → Attends k t new asked
  attends_from k (inl h) = inl h
  attends_from k (inr h) =
      inr (record {
        one = h.one;
        found = h.found;
        later = h.later;
        came = h.came;
        moves = h.moves;
        turns = h.turns;
        limits = h.limits;
        last = h.last;
        settles =
            settles_from k (turned_as h.one h.later h.came t.now) h.came h.last h.settles;
        all = h.all;
      })

  pub ends_from : (now : ℕ) → EndsRound now over_others new asked → EndsRound now t new asked
  ends_from now h = record {
    time = h.time;
    gone = h.gone;
    all = h.all;
    late = h.late;
    closed = h.closed;
    left = h.left;
    stay = h.stay;
  }
