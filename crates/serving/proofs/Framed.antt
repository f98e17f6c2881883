-- A message in its ranges is a frame in its ranges.
use Rattle.std.proofs.Common.{◌≡◌, refl, nat_lt, true, false, Bool, ◌&&◌, ℕ, ◌≤◌, ◌<◌, ◌^◌, None}
use Rattle.std.proofs.{Common.Some, Common.arith, lemmas.Bool.ltb-true, lemmas.Bool.leb-true}
use Rattle.acceptor.specs.declared.{ballot.Ballot.Ballot, message.Body.TheVariants.Accepted}
use Rattle.acceptor.specs.declared.message.{Body.Body, Body.TheVariants.Promise, Message.Message}
use Rattle.acceptor.specs.declared.message.Body.TheVariants.{Prepare, Accept, Nack, Behind, Decided}
use Rattle.learner.specs.{Ranges.IsInRange, Steps.is_real, Steps.is_in_range}
use Rattle.wire.specs.declared.values.Version.{Version, TheVariants.One}
use Rattle.wire.specs.Ranges.{IsCount, IsFrame, IsBody, IsBallot, IsPosition, IsDesk, Goes, way_of}
use Rattle.serving.specs.{model.Framing.IsTyped, Serving.what_of, Serving.framed}

both : (a b : Bool) → (a && b) ≡ true → (a ≡ true) × (b ≡ true)
both true b h = (refl, h)
both false b h = absurd cc

is_ballot : (n : ℕ) (b : Ballot) → n ≤ 5 → is_real n b ≡ true → b.number < 2 ^ 32 → IsBallot b
is_ballot n b few h small =
    let parts = both _ _ h in
    let desk = both _ _ parts.1 in
    (leb-true _ _ parts.0, small, (leb-true _ _ desk.0, omega (arith, leb-true _ _ desk.1, few)))

is_position : (pos : ℕ) → nat_lt pos 65536 ≡ true → IsPosition pos
is_position pos h = omega (arith, ltb-true _ _ h)

-- one entry is good in each version
one_is : (v : Version) → IsCount v 1
one_is One = refl
one_is _ = (omega arith, omega arith)

is_body : (v : Version) (n : ℕ) (b : Body) → n ≤ 5 → is_in_range n b ≡ true → IsTyped b
    → IsBody v (what_of b)
is_body v n (Prepare b pos) few h t =
    let p = both _ _ h in (is_ballot n b few p.0 t, is_position pos p.1)
is_body v n (Promise b pos None) few h t =
    let p = both _ _ h in (is_ballot n b few p.0 t.0, is_position pos p.1, tt)
is_body v n (Promise b pos (Some r)) few h t =
    let p = both _ _ h in
    let q = both _ _ p.0 in
    (is_ballot n b few q.0 t.0, is_position pos q.1, (is_ballot n r.ballot few p.1 t.1.0, t.1.1))
is_body v n (Accept b pos e) few h t =
    let p = both _ _ h in (is_ballot n b few p.0 t.0, is_position pos p.1, t.1)
is_body v n (Accepted b pos) few h t =
    let p = both _ _ h in (is_ballot n b few p.0 t, is_position pos p.1)
is_body v n (Nack b pos q) few h t =
    let p = both _ _ h in
    let r = both _ _ p.0 in
    (is_ballot n b few r.0 t.0, is_position pos r.1, is_ballot n q few p.1 t.1)
is_body v n (Behind len) few h t = leb-true _ _ h
is_body v n (Decided pos e) few h t =
    let low : pos ≤ 65535 = is_position pos h in (one_is v, omega (arith, low), (t, tt))

goes : (n : ℕ) (b : Body) (from to : ℕ) → IsDesk from → IsDesk to
    → Goes (way_of (what_of b)) from to
goes n (Prepare b pos) from to x y = (x, y)
goes n _ from to x y = (x, y)

pub is_frame : (v : Version) (hall n : ℕ) (m : Message) → hall < 2 ^ 32 → n ≤ 5 → IsInRange n m
    → IsTyped m.body → IsFrame (framed v hall m)
is_frame v hall n m small few h t =
    record {
      hall = small;
      goes =
          goes n m.body m.from m.to (h.from.0, omega (arith, h.from.1, few))
          (h.to.0, omega (arith, h.to.1, few));
      body = is_body v n m.body few h.body t;
    }
