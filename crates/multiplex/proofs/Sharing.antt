-- In each turn one frame of a client is begun at most, and in each round one at most that asks for
-- something dear.
use Rattle.std.proofs.Common.{◌≡◌, refl, ap, ◌∙◌, ℕ, ◌+◌, ◌≤◌, suc, arith, List, []}
use Rattle.std.proofs.Common.{◌∷◌, ◌++◌, append_assoc, Bool, true, false, None}
use Rattle.std.proofs.Common.{Some, if◌then◌else◌}
use Rattle.answers.specs.declared.desk.Desk.{Ghosts as DeskOf}
use Rattle.connections.specs.Connections.{begun_of}
use Rattle.serving.specs.{Connection.Begun, Making.Way, TurnLaw.begun_in}
use Rattle.serving.specs.Kinds.{is_dear, is_message}
use Rattle.store.specs.declared.home.Home.{Home}
use Rattle.wire.specs.declared.frame.FrameBody.{FrameBody}
use Rattle.multiplex.specs.Passing.{AreMessages, Change, Changed, Changes, Clock, Comes, Lobby}
use Rattle.multiplex.specs.Passing.{NoSocket, Pass, Room, Shares, SharesLast, SharesOne, Shut, Step}
use Rattle.multiplex.specs.Passing.{Stops, Stray, TakesLast, Ticked, TurnedAway, Unwatched, Settles}
use Rattle.multiplex.specs.{Passing.Visit, declared.table.ServingOptions.ServingOptions}
use Rattle.multiplex.specs.SharedTurns.{TurnsAreShared, begun_by, count_dear}
use Rattle.multiplex.specs.SharedTurns.{count_others, rounds, visits}
use Rattle.wire.specs.declared.frame.FrameBody.TheVariants as what

-- 1 where one was answered in this round
abbrev one_if : Bool → ℕ
one_if true = 1
one_if false = 0

same_spent : (home : Home) (t : ServingOptions) (c : Change) (a b : Lobby) → Changes home t c a b
    → b.spent ≡ a.spent
same_spent home t (Comes k random) a b h = ap (λ (l : Lobby). l.spent) h.1.enters
same_spent home t (TurnedAway k random) a b h = ap (λ (l : Lobby). l.spent) h.enters
same_spent home t NoSocket a b h = ap (λ (l : Lobby). l.spent) h.1
same_spent home t (Unwatched k) a b h = ap (λ (l : Lobby). l.spent) h.1
same_spent home t (Stray k) a b h = ap (λ (l : Lobby). l.spent) h.2
same_spent home t (TakesLast k None) a b h = ap (λ (l : Lobby). l.spent) h.1
same_spent home t (TakesLast k (Some bytes)) a b h = ap (λ (l : Lobby). l.spent) h.4.left
same_spent home t (Shut k w) a b h = ap (λ (l : Lobby). l.spent) h.3.left
same_spent home t (Stops e) a b h = ap (λ (l : Lobby). l.spent) h.2

-- what a turn begins, and what more is begun after it
record Adds (xs more : List Begun) (spent later : Bool) : Type 0 where
  frames : count_others (xs ++ more) ≤ suc (count_others more)
  dear : count_dear (xs ++ more) + one_if spent ≤ count_dear more + one_if later

-- the frame of a client
others_one : (message : Bool) (one : Begun) (more : List Begun)
    → is_message one.frame.what ≡ message → count_others (one ∷ more) ≤ suc (count_others more)
others_one true one more is =
    let counted : count_others (one ∷ more) ≡ count_others more =
    ap (λ b. if b then count_others more else suc (count_others more)) is in
    omega (arith, counted)
others_one false one more is =
    let counted : count_others (one ∷ more) ≡ suc (count_others more) =
    ap (λ b. if b then count_others more else suc (count_others more)) is in
    omega (arith, counted)

adds_one : (cost : Bool) (one : Begun) (more : List Begun) (spent later : Bool)
    → is_dear one.frame.what ≡ cost → SharesOne cost spent later
    → count_dear (one ∷ more) + one_if spent ≤ count_dear more + one_if later
adds_one true one more spent later is h =
    let counted : count_dear (one ∷ more) ≡ suc (count_dear more) =
    ap (λ b. if b then suc (count_dear more) else count_dear more) is in
    omega (arith, counted, ap one_if h.0, ap one_if h.1)
adds_one false one more spent later is h =
    let counted : count_dear (one ∷ more) ≡ count_dear more =
    ap (λ b. if b then suc (count_dear more) else count_dear more) is in
    omega (arith, counted, ap one_if h)

adds_last : (xs more : List Begun) (spent later : Bool) → SharesLast xs spent later
    → Adds xs more spent later
adds_last [] more spent later h =
    record { frames = omega arith; dear = omega (arith, ap one_if h) }
adds_last (one ∷ []) more spent later h = record {
  frames = others_one (is_message one.frame.what) one more refl;
  dear = adds_one (is_dear one.frame.what) one more spent later refl h;
}
adds_last (one ∷ (other ∷ xs)) more spent later h = absurd h

-- a message of a desk asks for nothing dear
small : (w : FrameBody) → is_message w ≡ true → is_dear w ≡ false
small (what.Sheet event round position style) h = absurd cc
small (what.Log position) h = absurd cc
small _ h = refl

-- before others they count for nothing
record AddsNone (xs more : List Begun) : Type 0 where
  frames : count_others (xs ++ more) ≡ count_others more
  dear : count_dear (xs ++ more) ≡ count_dear more

adds_none : (xs more : List Begun) → AreMessages xs → AddsNone xs more
adds_none [] more h = record { frames = refl; dear = refl }
adds_none (x ∷ xs) more h =
    let rest = adds_none xs more h.1 in
    record {
      frames =
          ap (λ b. if b then count_others (xs ++ more) else suc (count_others (xs ++ more))) h.0
          ∙ rest.frames;
      dear =
          ap (λ b. if b then suc (count_dear (xs ++ more)) else count_dear (xs ++ more))
          (small x.frame.what h.0) ∙ rest.dear;
    }

adds : (xs more : List Begun) (spent later : Bool) → Shares xs spent later
    → Adds xs more spent later
adds xs more spent later h =
    let none = adds_none h.messages (h.last ++ more) h.heard in
    let last = adds_last h.last more spent later h.shares in
    let parts : xs ++ more ≡ h.messages ++ (h.last ++ more) =
    ap (λ z. z ++ more) h.all ∙ append_assoc h.messages h.last more in
    record {
      frames = omega (arith, ap count_others parts, none.frames, last.frames);
      dear = omega (arith, ap count_dear parts, none.dear, last.dear);
    }

-- from there on
record Grown (steps : List Step) (spent later : Bool) : Type 0 where
  frames : count_others (begun_by steps) ≤ visits steps
  dear : count_dear (begun_by steps) + one_if spent ≤ rounds steps + one_if later

at_most_one : (spent : Bool) → one_if spent ≤ 1
at_most_one true = omega arith
at_most_one false = omega arith

grown : {V : Type 0} {way : Way V} (home : Home) (t : ServingOptions) (steps : List Step)
    (a b : Room way) → Pass home t a steps b → Grown steps a.lobby.spent b.lobby.spent
grown {V} {way} home t [] a b h = record {
  frames = omega arith;
  dear =
      omega (arith, ap (λ (z : Room way). one_if z.lobby.spent) h);
}
grown home t (Changed c ∷ ss) a b h =
    let later = grown home t ss h.0 b h.2 in
    let same = ap one_if (same_spent home t c a.lobby h.0.lobby h.1.0) in
    record { frames = later.frames; dear = omega (arith, later.dear, same) }
grown home t (Clock now ∷ ss) a b h =
    let later = grown home t ss h.0 b h.2 in
    let fresh = ap (λ (l : Lobby). one_if l.spent) h.1.left in
    record {
      frames = later.frames;
      dear = omega (arith, later.dear, fresh, at_most_one a.lobby.spent);
    }
grown home t (Ticked now starved ∷ ss) a b h =
    let later = grown home t ss h.0 b h.2 in
    let fresh = ap (λ (l : Lobby). one_if l.spent) h.1.left in
    record {
      frames = later.frames;
      dear = omega (arith, later.dear, fresh, at_most_one a.lobby.spent);
    }
grown home t (Visit k turns fate ∷ ss) a b h =
    let later = grown home t ss h.0 b h.2 in
    let one = adds (begun_in turns) (begun_by ss) a.lobby.spent h.0.lobby.spent h.1.4.shares in
    record {
      frames = omega (arith, one.frames, later.frames);
      dear = omega (arith, one.dear, later.dear);
    }
grown home t (Settles heard ok ∷ ss) a b h =
    let later = grown home t ss h.0 b h.2 in
    let none = adds_none (begun_of heard) (begun_by ss) h.1.messages in
    let same = ap (λ (l : Lobby). one_if l.spent) h.1.left in
    record {
      frames = omega (arith, none.frames, later.frames);
      dear = omega (arith, none.dear, later.dear, same);
    }

pub turns_are_shared : {V : Type 0} (d : DeskOf V) → TurnsAreShared d
turns_are_shared d home t a b steps h =
    let all = grown home t steps a b h in
    record {
      frames = all.frames;
      dear = omega (arith, all.dear, at_most_one b.lobby.spent);
    }
