-- A connection from which no byte came.
use Rattle.std.proofs.Common.{◌≡◌, ◌≢◌, inl, inr, refl, sym, ap, subst, ◌∙◌, ℕ, List, [], ◌∷◌, ◌++◌}
use Rattle.std.proofs.Common.{Option, None, Some, Bool, true, false, cond, eqb}
use Rattle.std.proofs.lemmas.{Bool.eqb-true, Bool.eqb-false, Bool.ne_eqb, List.append_assoc}
use Rattle.std.specs.List.{flat_map, AllByRecursion}
use Rattle.answers.specs.declared.desk.Desk.{Ghosts as DeskOf}
use Rattle.store.specs.declared.home.Home.{Home}
use Rattle.wire.specs.declared.{frame.Frame.Frame, values.Version.Version}
use Rattle.wire.{specs.Ranges.IsFrame, specs.Spelling.spelling, proofs.Streams.front_again}
use Rattle.wire.specs.Stream.{Begins, Breaks, IsBegun, Reader, Waits, front, holding, keeps}
use Rattle.serving.specs.{declared.ends.ConnectionEnd.ConnectionEnd, Making.Way}
use Rattle.serving.specs.Turns.{Talk, OnlyReads, ReadsTo, broken_by, new_talk}
use Rattle.serving.specs.TurnLaw.{Came, Began, IsQuiet, Place, Rested, Took, Turn, Turns, came_in}
use Rattle.serving.specs.TurnLaw.{handed_out, received, taken_in}
use Rattle.serving.proofs.{Pieces.front_none, TurnLaws.keeps_nothing, TurnLaws.not_begun}
use Rattle.connections.specs.Connections.{Connections, FollowEach, IsSameBut, SilenceChangesNothing}
use Rattle.connections.specs.Connections.{Goes, TurnOf, place_of, turns_of, without}
use Rattle.serving.specs.declared.ends.ConnectionEnd.TheVariants as end

-- nothing came, nothing is to be sent, and it is open
record IsIdle (talk : Talk) : Type 0 where
  stream : talk.stream ≡ holding []
  waiting : talk.waiting ≡ []
  pending : talk.pending ≡ []
  open_still : talk.end ≡ None

idle_first : (home : Home) (wire : Version) (talk : Talk) → talk ≡ new_talk home wire → IsIdle talk
idle_first home wire talk is =
    subst IsIdle (sym is)
    (record { stream = refl; waiting = refl; pending = refl; open_still = refl })

-- of two lists that are nothing together each is nothing
first_nothing : {T : Type 0} (xs ys : List T) → xs ++ ys ≡ [] → xs ≡ []
first_nothing [] ys is = refl
first_nothing (x ∷ xs) ys is = absurd cc

second_nothing : {T : Type 0} (xs ys : List T) → xs ++ ys ≡ [] → ys ≡ []
second_nothing [] ys is = is
second_nothing (x ∷ xs) ys is = absurd cc

-- no frame is spelled by nothing
none_waits : (waiting : List Frame) (rest : List ℕ) → AllByRecursion IsFrame waiting
    → flat_map spelling waiting ++ rest ≡ [] → waiting ≡ []
none_waits [] rest each is = refl
none_waits (f ∷ fs) rest each is =
    let more = flat_map spelling fs ++ rest in
    let none : spelling f ++ more ≡ []
    = sym (append_assoc (spelling f) (flat_map spelling fs) rest) ∙ is in
    let begins : Waits ≡ Begins f more
    = sym front_none ∙ ap front (sym none) ∙ front_again f more each.0 in
    absurd cc

-- no byte came: it is idle still
idle_came : (e : Option ConnectionEnd) (piece : List ℕ) (old new : Talk)
    → IsIdle old → OnlyReads old new → piece ≡ [] → new.end ≡ e → ReadsTo e piece old new
    → IsIdle new
idle_came None piece old new h only none is r =
    let nothing : old.stream.held ++ piece ≡ []
    = ap (λ (z : Reader). z.held ++ piece) h.stream ∙ none in
    let whole : flat_map spelling new.waiting ++ r.rest ≡ [] = sym r.whole ∙ nothing in
    let waiting = none_waits new.waiting r.rest r.each whole in
    let rest : r.rest ≡ [] = second_nothing (flat_map spelling new.waiting) r.rest whole in
    record {
      stream = r.keeps ∙ ap (λ z. keeps (front z) z) rest ∙ keeps_nothing;
      waiting = waiting;
      pending = only.pending ∙ h.pending;
      open_still = is;
    }
idle_came (Some (end.Fault e)) piece old new h only none is r =
    let nothing : old.stream.held ++ piece ≡ []
    = ap (λ (z : Reader). z.held ++ piece) h.stream ∙ none in
    let bad : Waits ≡ Breaks e = sym front_none ∙ ap front (sym nothing) ∙ r.0 in absurd cc
idle_came (Some end.NoMemory) piece old new h only none is r =
    let nothing : old.stream.held ++ piece ≡ []
    = ap (λ (z : Reader). z.held ++ piece) h.stream ∙ none in
    absurd (not_begun (subst (λ z. IsBegun (front z)) nothing r.0))
idle_came (Some end.End) piece old new h only none is r = absurd r
idle_came (Some end.Stopped) piece old new h only none is r = absurd r
idle_came (Some end.Frames) piece old new h only none is r = absurd r
idle_came (Some end.Reads) piece old new h only none is r = absurd r
idle_came (Some end.Read) piece old new h only none is r = absurd r
idle_came (Some end.Write) piece old new h only none is r = absurd r
idle_came (Some end.Down) piece old new h only none is r = absurd r

-- a turn of an idle connection with which no byte comes: it is idle still, is handed nothing, and
-- what serves it is as before
record IsIdleTurn {V : Type 0} {way : Way V} (t : Turn) (a b : Place way) : Type 0 where
  idle : IsIdle b.talk
  handed : taken_in t ≡ []
  quiet : IsQuiet a b

idle_turn : {V : Type 0} {way : Way V} (t : Turn) (a b : Place way)
    → IsIdle a.talk → came_in t ≡ [] → Turns t a b → IsIdleTurn t a b
idle_turn (Came piece) a b h none g = record {
  idle = idle_came b.talk.end piece a.talk b.talk h g.1.0 none refl g.1.1;
  handed = refl;
  quiet = g.2;
}
idle_turn (Began one) a b h none g =
    let bad : [] ≡ one.frame ∷ b.talk.waiting = sym h.waiting ∙ g.0.next in absurd cc
idle_turn Rested a b h none (inl r, quiet) =
    record { idle = subst IsIdle (sym r.1) h; handed = refl; quiet = quiet }
idle_turn Rested a b h none (inr r, quiet) =
    let unbroken : a.talk.stream.fault ≡ None = ap (λ (z : Reader). z.fault) h.stream in
    record {
      idle = subst IsIdle (sym r.ends) (record {
        stream = h.stream;
        waiting = h.waiting;
        pending = h.pending;
        open_still = ap broken_by unbroken;
      });
      handed = refl;
      quiet = quiet;
    }
idle_turn (Took bytes) a b h none g =
    let both : bytes ++ b.talk.pending ≡ [] = sym g.0 ∙ h.pending in
    record {
      idle = record {
        stream = ap (λ (z : Talk). z.stream) g.1 ∙ h.stream;
        waiting = ap (λ (z : Talk). z.waiting) g.1 ∙ h.waiting;
        pending = second_nothing bytes b.talk.pending both;
        open_still = ap (λ (z : Talk). z.end) g.1 ∙ h.open_still;
      };
      handed = first_nothing bytes b.talk.pending both;
      quiet = g.2;
    }

-- ---- the turns of the others

-- after a turn of connection k, which is idle, all else is the same as before
same_but : {V : Type 0} {way : Way V} (k : ℕ) (t : TurnOf) (a b c : Connections way)
    → t.number ≡ k → Goes t a b → IsQuiet (place_of a t.number) (place_of b t.number)
    → IsSameBut k a c → IsSameBut k b c
same_but k t a b c is g quiet h = record {
  talks = λ j other. h.talks j other ∙ sym (g.others j (λ z. other (z ∙ is)));
  seen = h.seen ∙ sym quiet.seen;
  outside = h.outside ∙ sym quiet.outside;
}

-- the others after a turn of one of them, and connection k as it was
joined : {V : Type 0} {way : Way V} → ℕ → Connections way → Connections way → Connections way
joined k b c = record {
  talks = λ j. cond (eqb j k) (c.talks j) (b.talks j);
  seen = b.seen;
  outside = b.outside;
}

joined_other : {V : Type 0} {way : Way V} (k j : ℕ) (b c : Connections way) → j ≢ k
    → (joined k b c).talks j ≡ b.talks j
unfolding joined
joined_other k j b c other = ap (λ z. cond z (c.talks j) (b.talks j)) (ne_eqb j k other)

place_as : {V : Type 0} {way : Way V} (n : ℕ) (a c : Connections way) → c.talks n ≡ a.talks n
    → c.seen ≡ a.seen → c.outside ≡ a.outside → place_of c n ≡ place_of a n
place_as {V} {way} n a c talk seen out =
    ap (λ z. let p : Place way = record { talk = z; seen = c.seen; outside = c.outside } in p) talk
    ∙ ap (λ z. let p : Place way = record { talk = a.talks n; seen = z; outside = c.outside } in p)
    seen
    ∙ ap (λ z. let p : Place way = record { talk = a.talks n; seen = a.seen; outside = z } in p) out

goes_joined : {V : Type 0} {way : Way V} (k : ℕ) (t : TurnOf) (a b c : Connections way)
    → t.number ≢ k → Goes t a b → IsSameBut k a c → Goes t c (joined k b c)
unfolding joined
goes_joined {V} {way} k t a b c other g h = record {
  turn =
      subst (λ (z : Place way). Turns t.turn z (place_of (joined k b c) t.number))
      (sym (place_as t.number a c (h.talks t.number other) h.seen h.outside))
      (subst (λ (z : Place way). Turns t.turn (place_of a t.number) z)
      (sym (place_as t.number b (joined k b c) (joined_other k t.number b c other) refl refl))
      g.turn);
  others = λ j not_it. go j not_it (eqb j k) refl;
}
  where
    go : (j : ℕ) → j ≢ t.number → (own : Bool) → eqb j k ≡ own
        → cond own (c.talks j) (b.talks j) ≡ c.talks j
    go j not_it true is = refl
    go j not_it false is = g.others j not_it ∙ sym (h.talks j (eqb-false j k is))

joined_same : {V : Type 0} {way : Way V} (k : ℕ) (b c : Connections way)
    → IsSameBut k b (joined k b c)
unfolding joined
joined_same k b c =
    record { talks = λ j other. joined_other k j b c other; seen = refl; outside = refl }

abbrev OthersFollow : {V : Type 0} → {way : Way V} → ℕ → List TurnOf → Connections way
    → Connections way → Type 0
OthersFollow {V} {way} k turns b c =
    (handed_out (turns_of k turns) ≡ [])
    × ((d : Connections way) × FollowEach c (without k turns) d × IsSameBut k b d)

others_next : {V : Type 0} {way : Way V} (k : ℕ) (t : TurnOf) (ts : List TurnOf)
    (a m b c : Connections way) (own : Bool)
    → ((x y : Connections way) → IsIdle (x.talks k) → IsSameBut k x y
    → received (turns_of k ts) ≡ [] → FollowEach x ts b → OthersFollow k ts b y)
    → eqb t.number k ≡ own → IsIdle (a.talks k) → IsSameBut k a c
    → received (cond own (t.turn ∷ turns_of k ts) (turns_of k ts)) ≡ []
    → Goes t a m → FollowEach m ts b
    → (handed_out (cond own (t.turn ∷ turns_of k ts) (turns_of k ts)) ≡ []) × ((d : Connections way)
    × FollowEach c (cond own (without k ts) (t ∷ without k ts)) d × IsSameBut k b d)
others_next {V} {way} k t ts a m b c true next is idle h silent g more =
    let it = eqb-true t.number k is in
    let turn = idle_turn t.turn (place_of a t.number) (place_of m t.number)
    (subst (λ z. IsIdle (a.talks z)) (sym it) idle)
    (first_nothing (came_in t.turn) (received (turns_of k ts)) silent) g.turn in
    let rest = next m c (subst (λ z. IsIdle (m.talks z)) it turn.idle)
    (same_but k t a m c it g turn.quiet h)
    (second_nothing (came_in t.turn) (received (turns_of k ts)) silent) more in
    (ap (λ z. z ++ handed_out (turns_of k ts)) turn.handed ∙ rest.0, rest.1)
others_next {V} {way} k t ts a m b c false next is idle h silent g more =
    let other = eqb-false t.number k is in
    let idle_next = subst IsIdle (sym (g.others k (λ z. other (sym z)))) idle in
    let rest = next m (joined k m c) idle_next (joined_same k m c) silent more in
    (rest.0, (rest.1.0, (joined k m c, goes_joined k t a m c other g h, rest.1.1), rest.1.2))

others_follow : {V : Type 0} {way : Way V} (k : ℕ) (turns : List TurnOf) (a b c : Connections way)
    → IsIdle (a.talks k) → IsSameBut k a c → received (turns_of k turns) ≡ []
    → FollowEach a turns b → OthersFollow k turns b c
others_follow {V} {way} k [] a b c idle h none is =
    (refl, (c, refl, subst (λ (z : Connections way). IsSameBut k z c) is h))
others_follow {V} {way} k (t ∷ ts) a b c idle h none g =
    others_next k t ts a g.0 b c (eqb t.number k)
    (λ x y still same silent more. others_follow k ts x b y still same silent more) refl idle h none
    g.1 g.2

pub silence_changes_nothing : {V : Type 0} (d : DeskOf V) → SilenceChangesNothing d
silence_changes_nothing d home wire turns a b k new h none =
    others_follow k turns a b a (idle_first home wire (a.talks k) (new k))
    (record { talks = λ j other. refl; seen = refl; outside = refl }) none h
