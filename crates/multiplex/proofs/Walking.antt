-- The turns of one connection, one after the other.
use Rattle.std.proofs.Common.{◌≡◌, ◌≢◌, ◌⊎◌, inl, inr, refl, sym, ap, subst, ◌∙◌, ℕ, ◌+◌, Bool}
use Rattle.std.proofs.Common.{true, arith, ◌<◌, suc, ◌↔◌, ◌||◌, if◌then◌else◌, false, List, [], ◌∷◌}
use Rattle.std.proofs.Common.{◌++◌, append-nil, append_assoc, length, Option, None, Some}
use Rattle.std.specs.Prelude.{IsTrue, not}
use Rattle.answers.specs.{declared.desk.Desk.Ghosts as DeskOf, Seen.Seen}
use Rattle.serving.specs.declared.{peers.Peers.Ghosts as PeersOf, ends.ConnectionEnd.ConnectionEnd}
use Rattle.sealed.specs.ServerSeals.{caller_of, is_over}
use Rattle.store.specs.declared.home.Home.{Home}
use Rattle.wire.specs.declared.{standing.Difference.Difference, fault.WireFault.WireFault}
use Rattle.serving.specs.{Making.Way, Sessions.outside, Turns.Talk, Differing.known_after}
use Rattle.serving.specs.{Turns.broken_by, declared.differing.AwaitRequest.AwaitRequest}
use Rattle.serving.specs.{Turns.ended, Connection.Begun, Connection.serve_frame}
use Rattle.serving.specs.Differing.{awaited_by, differs_by, first_difference, first_frame}
use Rattle.serving.specs.Kinds.{dear_next, is_dear, message_next}
use Rattle.serving.specs.TurnLaw.{Came as CameIn, Began, Rested, Took as TookOf, Turn, begun_in}
use Rattle.guarded.specs.LockedConnections.{Advances, Answers, LockedConnectionOf, HearsDesk}
use Rattle.guarded.specs.LockedConnections.{IsDear, IsDone, IsFree, Receives, Rests, WantsRead}
use Rattle.guarded.specs.LockedConnections.{after_sent, moment}
use Rattle.guarded.specs.{LockedTurns.Follow, LockedTurns.Place, Permitting.permission_of}
use Rattle.wire.specs.declared.frame.Frame.{Frame}
use Rattle.polled.specs.{Telling.Tells, Happenings.Happened, Happenings.Gave, Happenings.Took}
use Rattle.multiplex.specs.Passing.{AreMessages, IsFate, IsLeft, Settled, Shares, SharesLast}
use Rattle.multiplex.specs.Passing.{SharesOne, pieces, told_turns, told_why}
use Rattle.multiplex.specs.declared.{ends.EndReason.EndReason, dear.DearTurns.DearTurns}
use Rattle.multiplex.specs.{Dear.answered, Dear.asked, Dear.is_next, declared.notes.Notes.Notes}
use Rattle.multiplex.{specs.Dear.put_off, proofs.Noted.next_free, proofs.Telling.turns_both}
use Rattle.multiplex.specs.Noting.{AreDue, Ears, IsDueFrame, IsOff, PutsOff, awaited_of, ears, hear}
use Rattle.multiplex.specs.Noting.{hear_all, heard_by, heard_next, is_due, listened, listened_to}
use Rattle.multiplex.specs.Noting.{next_of, off_by, until_of, put_off as puts_off}
use Rattle.multiplex.specs.model.Visiting.{BeginsDue, Beholds, Beside, Goes, HearsDesks, HasBegun}
use Rattle.multiplex.specs.model.Visiting.{IsLeftOrDone, MayBegin, MayShare, Moves, Reads, beside}
use Rattle.multiplex.specs.model.Visiting.{Sends, ServesNext, ServesOne, SettledOrDone, Spot}
use Rattle.multiplex.specs.model.Visiting.{TalksOn, broken, place_at, spot}
use Rattle.polled.proofs.Telling.{Tells-as, Tells-nil, Tells-trans}
use Rattle.serving.specs.Turns as Turns
use Rattle.multiplex.specs.declared.ends.EndReason.TheVariants as why

pub Follow-trans : {V : Type 0} {way : Way V} (a m b : Place way) (ts us : List Turn)
    → Follow a ts m → Follow m us b → Follow a (ts ++ us) b
Follow-trans a m b [] us h k = subst (λ z. Follow z us b) (sym h) k
Follow-trans a m b (t ∷ ts) us h k = (h.0, h.1, Follow-trans h.0 m b ts us h.2 k)

told_both : (k : ℕ) (ts us : List Turn) (w : List Happened)
    → (told_turns k ts ++ []) ++ (told_turns k us ++ w) ≡ told_turns k (ts ++ us) ++ w
told_both k ts us w =
    ap (λ z. z ++ (told_turns k us ++ w)) (append-nil (told_turns k ts))
    ∙ sym (append_assoc (told_turns k ts) (told_turns k us) w)
    ∙ ap (λ z. z ++ w) (sym (turns_both k ts us))

pieces_both : (ts us : List Turn) → pieces (ts ++ us) ≡ pieces ts + pieces us
pieces_both [] us = omega arith
pieces_both (CameIn piece ∷ ts) us = omega (arith, pieces_both ts us)
pieces_both (Began one ∷ ts) us = pieces_both ts us
pieces_both (Rested ∷ ts) us = pieces_both ts us
pieces_both (TookOf bytes ∷ ts) us = pieces_both ts us

begun_both : (ts us : List Turn) → begun_in (ts ++ us) ≡ begun_in ts ++ begun_in us
begun_both [] us = refl
begun_both (CameIn piece ∷ ts) us = begun_both ts us
begun_both (Began one ∷ ts) us = ap (λ z. one ∷ z) (begun_both ts us)
begun_both (Rested ∷ ts) us = begun_both ts us
begun_both (TookOf bytes ∷ ts) us = begun_both ts us

pub goes_both : {V U C : Type 0} (d : DeskOf V) (p : PeersOf U)
    (happened : C → Option (List Happened)) (k : ℕ) (cause : Option EndReason) (n q : ℕ)
    (xs ys : List Begun) (a m b : Spot V U C) → Goes d p happened k None n xs a m
    → Goes d p happened k cause q ys m b → Goes d p happened k cause (n + q) (xs ++ ys) a b
goes_both d p happened k cause n q xs ys a m b h g = (
  h.0 ++ g.0,
  record {
    few = omega (arith, pieces_both h.0 g.0, h.1.few, g.1.few);
    begins =
        begun_both h.0 g.0 ∙ ap (λ z. z ++ begun_in g.0) h.1.begins ∙ ap (λ z. xs ++ z) g.1.begins;
    follow =
        Follow-trans (place_at d p a.talk.talk.wire a) (place_at d p a.talk.talk.wire m)
        (place_at d p a.talk.talk.wire b) h.0 g.0 h.1.follow
        (subst (λ w. Follow (place_at d p w m) g.0 (place_at d p w b)) h.1.wire g.1.follow);
    told =
        Tells-as (happened a.clients) (happened b.clients) _ _
        (told_both k h.0 g.0 (told_why k cause)) (Tells-trans (happened a.clients)
        (happened m.clients) (happened b.clients) _ _ h.1.told g.1.told);
    home = g.1.home ∙ h.1.home;
    wire = g.1.wire ∙ h.1.wire;
  },
)

-- a cause of which nothing is told
goes_as : {V U C : Type 0} (d : DeskOf V) (p : PeersOf U)
    (happened : C → Option (List Happened)) (k : ℕ) (w : EndReason) (most : ℕ) (begun : List Begun)
    (a b : Spot V U C) → [] ≡ told_why k (Some w)
    → Goes d p happened k None most begun a b → Goes d p happened k (Some w) most begun a b
goes_as d p happened k w most begun a b untold h = (
  h.0,
  record {
    few = h.1.few;
    begins = h.1.begins;
    follow = h.1.follow;
    told =
        subst (λ z. Tells (happened a.clients) (happened b.clients) (told_turns k h.0 ++ z)) untold
        h.1.told;
    home = h.1.home;
    wire = h.1.wire;
  },
)

-- no turn was taken, since this failed, or nothing did
pub no_turn : {V U C : Type 0} (d : DeskOf V) (p : PeersOf U)
    (happened : C → Option (List Happened)) (k : ℕ) (cause : Option EndReason) (most : ℕ) (node : V)
    (peers : U) (c later : C) (old new : LockedConnectionOf) → new ≡ old
    → Tells (happened c) (happened later) (told_why k cause)
    → Goes d p happened k cause most [] (spot node peers c old) (spot node peers later new)
no_turn d p happened k cause most node peers c later old new is told =
    subst (λ t. Goes d p happened k cause most [] (spot node peers c old) (spot node peers later t))
    (sym is) (
      [],
      record {
        few = omega arith;
        begins = refl;
        follow = refl;
        told = told;
        home = refl;
        wire = refl;
      },
    )

pub took : {V U C : Type 0} (d : DeskOf V) (p : PeersOf U)
    (happened : C → Option (List Happened)) (k : ℕ) (most : ℕ) (node : V) (peers : U) (c later : C)
    (old new : LockedConnectionOf) (bytes : List ℕ) → old.output ≡ bytes ++ new.output
    → new ≡ after_sent old (length bytes) → Tells (happened c) (happened later) (Took k bytes ∷ [])
    → Goes d p happened k None most [] (spot node peers c old) (spot node peers later new)
took d p happened k most node peers c later old new bytes parts is told = (
  TookOf bytes ∷ [],
  record {
    few = omega arith;
    begins = refl;
    follow =
        (_, (parts, is, record { seen = refl; outside = refl }), refl);
    told = told;
    home = ap (λ (t : LockedConnectionOf). t.talk.home) is;
    wire = ap (λ (t : LockedConnectionOf). t.talk.wire) is;
  },
)

-- ---- it is the same desk's connection

pub record IsSameDesks (old new : Talk) : Type 0 where
  pub home : new.home ≡ old.home
  pub wire : new.wire ≡ old.wire

same_talk : (old new : Talk) → new ≡ old → IsSameDesks old new
same_talk old new is = record {
  home = ap (λ (t : Talk). t.home) is;
  wire = ap (λ (t : Talk). t.wire) is;
}

after_piece : (piece : List ℕ) (old new : LockedConnectionOf) → Receives piece old new
    → IsSameDesks old.talk new.talk
after_piece piece old new (inl h) = same_talk old.talk new.talk h.talk
after_piece piece old new (inr h) = record { home = h.1.talk.0.home; wire = h.1.talk.0.wire }

after_waits : (served : Talk) (old new : LockedConnectionOf) → Answers served old new
    → new.talk.waiting ≡ served.waiting
after_waits served old new (inl h) = ap (λ (t : Talk). t.waiting) h.talk
after_waits served old new (inr h) = ap (λ (t : Talk). t.waiting) h.talk

after_answer : (served : Talk) (old new : LockedConnectionOf) → Answers served old new
    → IsSameDesks served new.talk
after_answer served old new (inl h) = same_talk served new.talk h.talk
after_answer served old new (inr h) = record {
  home = ap (λ (t : Talk). t.home) h.talk;
  wire = ap (λ (t : Talk). t.wire) h.talk;
}

pub came : {V U C : Type 0} (d : DeskOf V) (p : PeersOf U)
    (happened : C → Option (List Happened)) (k : ℕ) (node : V) (peers : U) (c later : C)
    (old new : LockedConnectionOf) (piece : List ℕ) → WantsRead old → Receives piece old new
    → Tells (happened c) (happened later) (Gave k piece ∷ [])
    → Goes d p happened k None 1 [] (spot node peers c old) (spot node peers later new)
came d p happened k node peers c later old new piece wants reads told = (
  CameIn piece ∷ [],
  record {
    few = omega arith;
    begins = refl;
    follow =
        (_, (wants, reads, record { seen = refl; outside = refl }), refl);
    told = told;
    home = (after_piece piece old new reads).home;
    wire = (after_piece piece old new reads).wire;
  },
)

same_home : (old new : LockedConnectionOf) → Rests old new → IsSameDesks old.talk new.talk
same_home old new (inl h) = same_talk old.talk new.talk
    (ap (λ (g : LockedConnectionOf). g.talk) h.1)
same_home old new (inr h) = record {
  home = ap (λ (t : Talk). t.home) h.talk.ends;
  wire = ap (λ (t : Talk). t.wire) h.talk.ends;
}

-- the frame that is begun, if one is
abbrev pub begun_by : {V U : Type 0} (d : DeskOf V) (p : PeersOf U)
    (differs : Option Difference) (went : Bool) (node next : V)
    (peers more : U) (old new : LockedConnectionOf)
    → Advances d p differs went (moment node peers old) (moment next more new) → List Begun
begun_by d p differs true node next peers more old new h = h.2.0 ∷ []
begun_by d p differs false node next peers more old new h = []

pub advanced : {V U C : Type 0} (d : DeskOf V) (p : PeersOf U)
    (happened : C → Option (List Happened)) (k : ℕ) (most : ℕ) (differs : Option Difference)
    (went : Bool) (node next : V) (peers more : U) (c : C) (old new : LockedConnectionOf)
    → (h : Advances d p differs went (moment node peers old) (moment next more new))
    → Goes d p happened k None most (begun_by d p differs went node next peers more old new h)
    (spot node peers c old) (spot next more c new)
advanced d p happened k most differs true node next peers more c old new h = (
  Began h.2.0 ∷ [],
  record {
    few = omega arith;
    begins = refl;
    follow = (_, (h.0, h.1, (h.2.1, h.2.2), h.2.3, h.3), refl);
    told = Tells-nil (happened c);
    home = (after_answer h.1 old new h.3).home ∙ h.2.1.home;
    wire = (after_answer h.1 old new h.3).wire ∙ h.2.1.wire;
  },
)
advanced d p happened k most differs false node next peers more c old new h = (
  Rested ∷ [],
  record {
    few = omega arith;
    begins = refl;
    follow = (
      _,
      (
        h.2,
        record {
          seen = ap d.seen h.0;
          outside =
              ap (λ z. outside d p old.talk.wire z more) h.0
              ∙ ap (λ z. outside d p old.talk.wire node z) h.1;
        },
      ),
      refl,
    );
    told = Tells-nil (happened c);
    home = (same_home old new h.2).home;
    wire = (same_home old new h.2).wire;
  },
)

-- ---- one frame at most

-- a frame that is begun is the one that was asked about
is_asked : {V U : Type 0} (d : DeskOf V) (p : PeersOf U) (differs : Option Difference)
    (node next : V) (peers more : U) (old new : LockedConnectionOf)
    (h : Advances d p differs true (moment node peers old) (moment next more new))
    → is_dear h.2.0.frame.what ≡ true → IsDear old
is_asked d p differs node next peers more old new h is =
    record { free = h.0; next = ap dear_next h.2.1.next ∙ is }

-- where one is asked about, it is begun
is_begun : (old new : LockedConnectionOf) → IsDear old → Rests old new → ⊥
is_begun old new dear (inl h) = h.0 dear.free
is_begun old new dear (inr h) =
    let n : false ≡ true = sym (ap dear_next h.talk.served) ∙ dear.next in absurd cc

-- a frame was begun, or none, that asks for nothing dear
pub shares_cheap : {V U : Type 0} (d : DeskOf V) (p : PeersOf U) (differs : Option Difference)
    (went : Bool) (node next : V) (peers more : U) (old new : LockedConnectionOf) (spent : Bool)
    (h : Advances d p differs went (moment node peers old) (moment next more new))
    → (IsDear old → ⊥)
    → SharesLast (begun_by d p differs went node next peers more old new h) spent spent
shares_cheap d p differs false node next peers more old new spent h cheap = refl
shares_cheap d p differs true node next peers more old new spent h cheap =
    pick (is_dear h.2.0.frame.what) refl
  where
    pick : (b : Bool) → is_dear h.2.0.frame.what ≡ b → SharesOne b spent spent
    pick true is = absurd (cheap (is_asked d p differs node next peers more old new h is))
    pick false is = refl

-- one that does was begun, where none was before in this round
pub shares_dear : {V U : Type 0} (d : DeskOf V) (p : PeersOf U) (differs : Option Difference)
    (went : Bool) (node next : V)
    (peers more : U) (old new : LockedConnectionOf) (spent later : Bool)
    (h : Advances d p differs went (moment node peers old) (moment next more new))
    → IsDear old → spent ≡ false → later ≡ true
    → SharesLast (begun_by d p differs went node next peers more old new h) spent later
shares_dear d p differs false node next peers more old new spent later h dear fresh used =
    absurd (is_begun old new dear h.2)
shares_dear d p differs true node next peers more old new spent later h dear fresh used =
    subst (λ b. SharesOne b spent later)
    (sym (sym (ap dear_next h.2.1.next) ∙ dear.next)) (fresh, used)

-- where no frame is begun any more, all that came is served, or it is done
unfree : (fed : Bool) (out : List ℕ) (g : LockedConnectionOf) → g.starved ≡ fed → g.output ≡ out
    → (IsFree g → ⊥) → SettledOrDone g
unfree fed (x ∷ xs) g starved is busy =
    inl (inl (λ e. let n : [] ≡ x ∷ xs = sym e ∙ is in absurd cc))
unfree true [] g starved is busy = inr (record { over = inl starved; taken = is })
unfree false [] g starved is busy =
    inr (record {
      over = inr (inl (λ e. busy (record { fed = starved; unended = e; taken = is })));
      taken = is;
    })

-- what is let in of the stream is served, and more may be let in, or not
run_dry : (shut : Bool) (g : LockedConnectionOf) → is_over g.called ≡ shut → g.starved ≡ false
    → g.output ≡ [] → Turns.WantsRead g.talk → SettledOrDone g
run_dry true g is fed taken wants =
    inr (record { over = inr (inr (is, wants)); taken = taken })
run_dry false g is fed taken wants =
    inl (inr (record { fed = fed; taken = taken; hears = is; served = wants }))

run_out : (f : Option WireFault) (old : LockedConnectionOf) (new : Talk) → old.talk.stream.fault ≡ f
    → old.starved ≡ false → old.output ≡ [] → Turns.RunsOut old.talk new
    → SettledOrDone (record old { talk = new })
run_out None old new is fed taken h =
    let t = ended old.talk (broken_by old.talk.stream.fault) in
    subst (λ (z : Talk). SettledOrDone (record old { talk = z })) (sym h.ends)
    (run_dry (is_over old.called) (record old { talk = t }) refl fed taken (record {
      free = record { unended = ap broken_by is; taken = h.free.taken };
      served = h.served;
      unbroken = is;
    }))
run_out (Some e) old new is fed taken h =
    subst (λ (z : Talk). SettledOrDone (record old { talk = z })) (sym h.ends) (inr (record {
      over = inr (inl (λ n. some_not (sym (ap broken_by is) ∙ n)));
      taken = taken;
    }))
  where
    some_not : broken_by (Some e) ≡ None → ⊥
    some_not n = absurd cc

pub at_rest : (old new : LockedConnectionOf) → Rests old new → SettledOrDone new
at_rest old new (inl h) =
    subst (λ (g : LockedConnectionOf). SettledOrDone g) (sym h.1)
    (unfree old.starved old.output old refl refl h.0)
at_rest old new (inr h) =
    subst (λ (g : LockedConnectionOf). SettledOrDone g) (sym h.same)
    (run_out old.talk.stream.fault old new.talk refl h.free.fed h.free.taken h.talk)

pub after_send : {V U C : Type 0} (d : DeskOf V) (p : PeersOf U)
    (happened : C → Option (List Happened)) (k : ℕ) (most : ℕ) (ok : Bool) (node : V) (peers : U)
    (c later : C) (old new : LockedConnectionOf) → Sends happened k ok c later old new
    → Goes d p happened k (broken ok) most [] (spot node peers c old) (spot node peers later new)
after_send d p happened k most true node peers c later old new (inl h) =
    took d p happened k most node peers c later old new h.0 h.1 h.2 h.3
after_send d p happened k most true node peers c later old new (inr h) =
    no_turn d p happened k None most node peers c later old new h.0 h.1
after_send d p happened k most false node peers c later old new h =
    no_turn d p happened k (Some why.Broke) most node peers c later old new h.0 h.1

pub after_read : {V U C : Type 0} (d : DeskOf V) (p : PeersOf U)
    (happened : C → Option (List Happened)) (k : ℕ) (cause : Option EndReason) (node : V)
    (peers : U) (c later : C) (old new : LockedConnectionOf) → WantsRead old
    → Reads happened k cause c later old new
    → Goes d p happened k cause 1 [] (spot node peers c old) (spot node peers later new)
after_read d p happened k None node peers c later old new wants (inl h) =
    came d p happened k node peers c later old new h.0 wants h.1 h.2
after_read d p happened k None node peers c later old new wants (inr h) =
    no_turn d p happened k None 1 node peers c later old new h.0 h.1
after_read d p happened k (Some w) node peers c later old new wants h =
    no_turn d p happened k (Some w) 1 node peers c later old new h.0 h.1

pub after_move : {V U C : Type 0} (d : DeskOf V) (p : PeersOf U)
    (happened : C → Option (List Happened)) (k : ℕ) (cause : Option EndReason) (node : V)
    (peers : U) (c later : C) (old new : LockedConnectionOf)
    → Moves happened k cause c later old new
    → Goes d p happened k cause 1 [] (spot node peers c old) (spot node peers later new)
after_move d p happened k cause node peers c later old new (inl h) =
    subst (λ z. Goes d p happened k z 1 [] (spot node peers c old) (spot node peers later new))
    (sym h.1) (after_send d p happened k 1 h.0 node peers c later old new h.2)
after_move d p happened k cause node peers c later old new (inr (inl h)) =
    after_read d p happened k cause node peers c later old new h.0 h.1
after_move d p happened k cause node peers c later old new (inr (inr h)) =
    subst (λ z. Goes d p happened k z 1 [] (spot node peers c old) (spot node peers later new))
    (sym h.0) (no_turn d p happened k None 1 node peers c later old new h.1 h.2)

-- why it is ended, where a write or a read ends it
pub move_ends : {C : Type 0} (happened : C → Option (List Happened)) (k : ℕ) (w : EndReason)
    (c later : C) (old new : LockedConnectionOf)
    → Moves happened k (Some w) c later old new → IsFate (Some w) new
move_ends happened k w c later old new (inl h) = by_break h.0 h.1
  where
    by_break : (ok : Bool) → Some w ≡ broken ok → IsFate (Some w) new
    by_break true is = let n : Some w ≡ None = is in absurd cc
    by_break false is = subst (λ z. IsFate z new) (sym is) tt
move_ends happened k w c later old new (inr (inl h)) = h.1.2
move_ends happened k w c later old new (inr (inr h)) =
    let n : Some w ≡ None = h.0 in absurd cc

-- ---- a frame is served, unless it is put off

fresh_of : (s b : Bool) → true ≡ not (s || b) → s ≡ false
fresh_of true b is = absurd cc
fresh_of false b is = refl

pub may_by : (number : ℕ) (has_key : Bool) (old new : DearTurns) (result : Bool)
    (c : LockedConnectionOf) → IsDear c → result ≡ is_next number has_key old
    → new ≡ asked number has_key old → MayShare result c old.spent new.spent
may_by number has_key old new true c dear is after =
    inr (
      dear,
      fresh_of old.spent _ is,
      ap (λ (d : DearTurns). d.spent) after
          ∙ ap (λ b. (if b then answered number old else put_off has_key old).spent) (sym is),
    )
may_by number has_key old new false c dear is after = (
  dear,
  ap (λ (d : DearTurns). d.spent) after
      ∙ ap (λ b. (if b then answered number old else put_off has_key old).spent) (sym is),
)

pub may_cheap : (c : LockedConnectionOf) (spent : Bool) → (IsTrue false ↔ IsDear c)
    → MayShare true c spent spent
may_cheap c spent h = inl (λ dear. let n : false ≡ true = h.1 dear in absurd cc, refl)

-- why no frame is begun
stays_off : (off : Bool) (home : Home) (x : Seen) (time : ℕ) (c : LockedConnectionOf)
    (old new : Notes) (spent later : Bool) → PutsOff off home x time c old new
    → ((off ≡ true) × (false ≡ false) × (later ≡ spent))
    ⊎ ((off ≡ false) × MayShare false c spent later)
    → (later ≡ spent) × (IsDear c ⊎ IsOff x time c new.until)
stays_off true home x time c old new spent later p (inl h) = (h.2, inr p.1)
stays_off true home x time c old new spent later p (inr h) =
    let n : true ≡ false = h.0 in absurd cc
stays_off false home x time c old new spent later p (inl h) =
    let n : false ≡ true = h.0 in absurd cc
stays_off false home x time c old new spent later p (inr h) = (h.1.1, inl h.1.0)

off_known : (off : Bool) (home : Home) (x : Seen) (time : ℕ) (c : LockedConnectionOf)
    (old new : Notes) → PutsOff off home x time c old new → new.known ≡ old.known
off_known true home x time c old new p = p.2
off_known false home x time c old new p = p.2

-- what was told is as before
pub may_known : (may : Bool) (home : Home) (x : Seen) (time : ℕ) (c : LockedConnectionOf)
    (old new : Notes) (spent later : Bool) → MayBegin may home x time c old new spent later
    → new.known ≡ old.known
may_known may home x time c old new spent later h = off_known h.0 home x time c old new h.1

-- where one may be begun
record MayGo (home : Home) (x : Seen) (time : ℕ) (c : LockedConnectionOf) (old new : Notes)
    (spent later : Bool) : Type 0 where
  due : puts_off home x c time old ≡ false
  until : new.until ≡ None
  shares : MayShare true c spent later

goes_by : (off : Bool) (home : Home) (x : Seen) (time : ℕ) (c : LockedConnectionOf)
    (old new : Notes) (spent later : Bool) → PutsOff off home x time c old new
    → ((off ≡ true) × (true ≡ false) × (later ≡ spent))
    ⊎ ((off ≡ false) × MayShare true c spent later) → MayGo home x time c old new spent later
goes_by true home x time c old new spent later p (inl h) =
    let n : true ≡ false = h.1 in absurd cc
goes_by true home x time c old new spent later p (inr h) =
    let n : true ≡ false = h.0 in absurd cc
goes_by false home x time c old new spent later p (inl h) =
    let n : true ≡ false = h.1 in absurd cc
goes_by false home x time c old new spent later p (inr h) =
    record { due = p.0; until = p.1; shares = h.1 }

may_go : (home : Home) (x : Seen) (time : ℕ) (c : LockedConnectionOf) (old new : Notes)
    (spent later : Bool) → MayBegin true home x time c old new spent later
    → MayGo home x time c old new spent later
may_go home x time c old new spent later h =
    goes_by h.0 home x time c old new spent later h.1 h.2

pub put_off_serves : {V U C : Type 0} (d : DeskOf V) (p : PeersOf U)
    (happened : C → Option (List Happened)) (k time : ℕ) (spent later : Bool) (old new : Notes)
    (node : V) (peers : U) (c : C) (talk : LockedConnectionOf)
    → MayBegin false (d.home_of node) (d.seen node) time talk old new spent later
    → ServesOne d p happened k time None false spent later old new (spot node peers c talk)
    (spot node peers c talk)
put_off_serves d p happened k time spent later old new node peers c talk h =
    let off =
    stays_off h.0 (d.home_of node) (d.seen node) time talk old new spent later h.1 h.2 in (
      [],
      no_turn d p happened k None 0 node peers c c talk talk refl (Tells-nil (happened c)),
      off.0,
      tt,
      inr off.1,
      tt,
    )

shares_next : {V U : Type 0} (d : DeskOf V) (p : PeersOf U) (differs : Option Difference)
    (went : Bool) (node next : V) (peers more : U) (old new : LockedConnectionOf)
    (spent later : Bool)
    (h : Advances d p differs went (moment node peers old) (moment next more new))
    → MayShare true old spent later
    → SharesLast (begun_by d p differs went node next peers more old new h) spent later
shares_next d p differs went node next peers more old new spent later h (inl may) =
    subst (λ s. SharesLast (begun_by d p differs went node next peers more old new h) spent s)
    (sym may.1) (shares_cheap d p differs went node next peers more old new spent h may.0)
shares_next d p differs went node next peers more old new spent later h (inr may) =
    shares_dear d p differs went node next peers more old new spent later h may.0 may.1 may.2

-- no frame is to be begun
rest_serves : {V U C : Type 0} (d : DeskOf V) (p : PeersOf U)
    (happened : C → Option (List Happened)) (k time : ℕ) (differs : Option Difference)
    (spent later : Bool) (notes after : Notes) (node next : V)
    (peers more : U) (c : C) (old new : LockedConnectionOf)
    → MayBegin true (d.home_of node) (d.seen node) time old notes after spent later
    → Advances d p differs false (moment node peers old) (moment next more new)
    → ServesOne d p happened k time None false spent later notes after (spot node peers c old)
    (spot next more c new)
rest_serves d p happened k time differs spent later notes after node next peers more c old new may
    h =
    let go = may_go (d.home_of node) (d.seen node) time old notes after spent later may in (
      [],
      advanced d p happened k 0 differs false node next peers more c old new h,
      shares_next d p differs false node next peers more old new spent later h go.shares,
      tt,
      inl (at_rest old new h.2),
      tt,
    )

-- a frame that is not put off is due, if it is an Await
due_by : (x : Seen) (time : ℕ) (until : Option ℕ) (a : Option AwaitRequest)
    → off_by x a time until ≡ false → IsDueFrame x time until a
due_by x time until None h = tt
due_by x time until (Some a) h = by_not (is_due x a (until_of a time until) time) h
  where
    by_not : (b : Bool) → not b ≡ false → b ≡ true
    by_not true n = refl
    by_not false n = absurd cc

due_next : (home : Home) (x : Seen) (time : ℕ) (notes : Notes) (c : LockedConnectionOf)
    (frame : Frame)
    → home ≡ c.talk.home → next_of c ≡ Some frame → puts_off home x c time notes ≡ false
    → IsDueFrame x time notes.until (awaited_by c.talk.home frame)
due_next home x time notes c frame same next h =
    due_by x time notes.until (awaited_by c.talk.home frame)
    (subst (λ z. off_by x (awaited_by z frame) time notes.until ≡ false) same
    (subst (λ z. off_by x (awaited_of home z) time notes.until ≡ false) next h))

-- one is begun
next_serves : {V U C : Type 0} (d : DeskOf V) (p : PeersOf U)
    (happened : C → Option (List Happened)) (k time : ℕ) (differs : Option Difference)
    (spent later : Bool) (notes after : Notes) (node next : V) (peers more : U) (c : C)
    (old new : LockedConnectionOf) → d.home_of node ≡ old.talk.home
    → MayBegin true (d.home_of node) (d.seen node) time old notes after spent later
    → Advances d p differs true (moment node peers old) (moment next more new)
    → ServesOne d p happened k time None true spent later notes after (spot node peers c old)
    (spot next more c new)
next_serves d p happened k time differs spent later notes after node next peers more c old new home
    may h =
    let go = may_go (d.home_of node) (d.seen node) time old notes after spent later may in (
      h.2.0 ∷ [],
      advanced d p happened k 0 differs true node next peers more c old new h,
      shares_next d p differs true node next peers more old new spent later h go.shares,
      (
        h.0,
        (
          due_next (d.home_of node) (d.seen node) time notes old h.2.0.frame home
              (next_free old h.0 ∙ ap first_frame h.2.1.next) go.due,
          tt,
        ),
      ),
      tt,
      tt,
    )

-- and so it is told
pub one_serves : {V U C : Type 0} (d : DeskOf V) (p : PeersOf U)
    (happened : C → Option (List Happened)) (k time : ℕ) (differs : Option Difference) (went : Bool)
    (spent later : Bool) (notes after : Notes) (node next : V) (peers more : U) (c : C)
    (old new : LockedConnectionOf) → d.home_of node ≡ old.talk.home
    → MayBegin true (d.home_of node) (d.seen node) time old notes after spent later
    → Advances d p differs went (moment node peers old) (moment next more new)
    → ServesOne d p happened k time None went spent later notes after (spot node peers c old)
    (spot next more c new)
one_serves d p happened k time differs true spent later notes after node next peers more c old new
    home may h = next_serves d p happened k time differs spent later notes after node next peers
    more c old new home may h
one_serves d p happened k time differs false spent later notes after node next peers more c old new
    home may h = rest_serves d p happened k time differs spent later notes after node next peers
    more c old new may h

-- ---- messages of desks are served before it

pub hears_none : {V U C : Type 0} (d : DeskOf V) (p : PeersOf U)
    (happened : C → Option (List Happened)) (k : ℕ) (known : List ℕ) (differs : Option Difference)
    (node : V) (peers : U) (c : C) (talk : LockedConnectionOf)
    → HearsDesks d p happened k (ears (d.seen node) known differs) known differs
    (spot node peers c talk) (spot node peers c talk)
hears_none d p happened k known differs node peers c talk = (
  [],
  no_turn d p happened k None 0 node peers c c talk talk refl (Tells-nil (happened c)),
  tt,
  record { lengths = refl; first = refl },
  λ free. refl,
)

pub all_messages : (xs ys : List Begun) → AreMessages xs → AreMessages ys → AreMessages (xs ++ ys)
all_messages [] ys h k = k
all_messages (x ∷ xs) ys h k = (h.0, all_messages xs ys h.1 k)

heard_last : (home : Home) (e : Ears) (xs : List Begun) (one : Begun)
    → hear_all home e (xs ++ one ∷ []) ≡ hear home (hear_all home e xs) one
heard_last home e [] one = refl
heard_last home e (x ∷ xs) one = heard_last home (hear home e x) xs one

never_rests : (old new : LockedConnectionOf) → HearsDesk old → Rests old new → ⊥
never_rests old new hears (inl r) = r.0 hears.free
never_rests old new hears (inr r) =
    let n : false ≡ true = sym (ap message_next r.talk.served) ∙ hears.next in absurd cc

-- where a frame may be begun after one, that one left the connection open
still_open : (served : Talk) (old new : LockedConnectionOf) → Answers served old new → IsFree new
    → served.end ≡ None
still_open served old new (inl h) free =
    let n : true ≡ false = sym h.starved ∙ free.fed in absurd cc
still_open served old new (inr h) free =
    sym (ap (λ (t : Talk). t.end) h.talk) ∙ free.unended

seen_then : {V U : Type 0} (d : DeskOf V) (p : PeersOf U) (differs : Option Difference)
    (node next : V) (peers more : U) (old new : LockedConnectionOf)
    (h : Advances d p differs true (moment node peers old) (moment next more new))
    → IsFree new → d.seen next ≡ (serve_frame old.talk.home (d.seen node) h.2.0).seen
seen_then d p differs node next peers more old new h free =
    (subst (λ (e : Option ConnectionEnd). Turns.LeavesAt e old.talk.home
    (Turns.sides_at d p old.talk.wire (Turns.moment node peers old.talk))
    (Turns.sides_at d p old.talk.wire (Turns.moment next more h.1)) h.2.0 h.1.frames)
    (still_open h.1 old new h.3 free) h.2.2).0.node

-- what is heard of one more, where it is so before it
record HeardOne (home : Home) (e : Ears) (one : Begun) (known : List ℕ)
    (differs : Option Difference) : Type 0 where
  lengths : known ≡ (hear home e one).known
  first : differs ≡ (hear home e one).differs

heard_one : (home : Home) (x : Seen) (c : LockedConnectionOf) (notes after : Notes)
    (differs later : Option Difference) (e : Ears) (one : Begun) → next_of c ≡ Some one.frame
    → one.may ≡ permission_of c.called.doors (caller_of c.called) → x ≡ e.seen
    → notes.known ≡ e.known → differs ≡ e.differs → after ≡ listened home c notes
    → later ≡ heard_next home x c notes differs → HeardOne home e one after.known later
heard_one home x c notes after differs later e one next may seen known was listens hears =
    record {
      lengths =
          ap (λ (n : Notes). n.known) listens ∙ ap (λ z. (listened_to home c notes z).known) next
          ∙ ap (λ m. known_after home m notes.known one.frame) (sym may)
          ∙ ap (λ z. known_after home one.may z one.frame) known;
      first =
          hears ∙ ap (λ z. heard_by home x c notes z differs) next
          ∙ ap (λ m. first_difference differs (differs_by home m x.desk.log notes.known one.frame))
          (sym may)
          ∙ ap (λ (z : Seen). first_difference differs
          (differs_by home one.may z.desk.log notes.known one.frame)) seen
          ∙ ap (λ z. first_difference differs (differs_by home one.may e.seen.desk.log z one.frame))
          known
          ∙ ap (λ z. first_difference z (differs_by home one.may e.seen.desk.log e.known one.frame))
          was;
    }

until_kept : (home : Home) (c : LockedConnectionOf) (notes : Notes) (next : Option Frame)
    → (listened_to home c notes next).until ≡ notes.until
until_kept home c notes None = refl
until_kept home c notes (Some f) = refl

pub until_same : (home : Home) (c : LockedConnectionOf) (notes after : Notes)
    → after ≡ listened home c notes → after.until ≡ notes.until
until_same home c notes after is =
    ap (λ (n : Notes). n.until) is ∙ until_kept home c notes (next_of c)

pub hears_more : {V U C : Type 0} (d : DeskOf V) (p : PeersOf U)
    (happened : C → Option (List Happened)) (k : ℕ) (e : Ears) (went : Bool) (a : Spot V U C)
    (notes after : Notes) (differs later : Option Difference) (node next : V) (peers more : U)
    (c : C) (old new : LockedConnectionOf) → d.home_of node ≡ a.talk.talk.home
    → HearsDesks d p happened k e notes.known differs a (spot node peers c old) → HearsDesk old
    → after ≡ listened (d.home_of node) old notes
    → later ≡ heard_next (d.home_of node) (d.seen node) old notes differs
    → Advances d p later went (moment node peers old) (moment next more new)
    → HearsDesks d p happened k e after.known later a (spot next more c new)
hears_more d p happened k e true a notes after differs later node next peers more c old new home h
    hears listens says adv =
    let one = adv.2.0 in
    let place = a.talk.talk.home in
    let heard = hear_all place e h.0 in
    let last = heard_last place e h.0 one in
    let it = heard_one place (d.seen node) old notes after differs later heard one
    (next_free old adv.0 ∙ ap first_frame adv.2.1.next) adv.2.3 (h.4 hears.free) h.3.lengths
    h.3.first (subst (λ z. after ≡ listened z old notes) home listens)
    (subst (λ z. later ≡ heard_next z (d.seen node) old notes differs) home says) in (
      h.0 ++ one ∷ [],
      goes_both d p happened k None 0 0 h.0 (one ∷ []) a (spot node peers c old)
          (spot next more c new) h.1
          (advanced d p happened k 0 later true node next peers more c old new adv),
      all_messages h.0 (one ∷ []) h.2
          (sym (ap message_next adv.2.1.next) ∙ hears.next, tt),
      record {
        lengths = it.lengths ∙ sym (ap (λ (z : Ears). z.known) last);
        first = it.first ∙ sym (ap (λ (z : Ears). z.differs) last);
      },
      λ free.
          seen_then d p later node next peers more old new adv free
          ∙ ap (λ z. (serve_frame z (d.seen node) one).seen) h.1.1.home
          ∙ ap (λ z. (serve_frame place z one).seen) (h.4 hears.free)
          ∙ sym (ap (λ (z : Ears). z.seen) last),
    )
hears_more d p happened k e false a notes after differs later node next peers more c old new home h
    hears listens says adv = absurd (never_rests old new hears adv.2)

-- a message that waits is begun, so fewer wait
pub fewer_wait : (w v : List Frame) (frame : Frame) → w ≡ frame ∷ v → length v < length w
fewer_wait w v frame is =
    let counted : length w ≡ suc (length v) = ap (λ (z : List Frame). length z) is in
    omega (arith, counted)

pub hears_fewer : {V U : Type 0} (d : DeskOf V) (p : PeersOf U) (differs : Option Difference)
    (went : Bool) (node next : V) (peers more : U) (old new : LockedConnectionOf) → HearsDesk old
    → Advances d p differs went (moment node peers old) (moment next more new)
    → length new.talk.waiting < length old.talk.waiting
hears_fewer d p differs true node next peers more old new hears h =
    subst (λ w. length w < length old.talk.waiting) (sym (after_waits h.1 old new h.3))
    (fewer_wait old.talk.waiting h.1.waiting h.2.0.frame h.2.1.next)
hears_fewer d p differs false node next peers more old new hears h =
    absurd (never_rests old new hears h.2)

due_after : (home : Home) (x y : Seen) (time : ℕ) (same : Home) (until was : Option ℕ)
    (c : LockedConnectionOf) (last : List Begun) → same ≡ home → until ≡ was → (IsFree c → x ≡ y)
    → BeginsDue same x time until c last → AreDue home y time was last
due_after home x y time same until was c [] place moment at h = tt
due_after home x y time same until was c (one ∷ more) place moment at h =
    subst (λ z. AreDue z y time was (one ∷ more)) place
    (subst (λ z. AreDue same y time z (one ∷ more)) moment
    (subst (λ z. AreDue same z time until (one ∷ more)) (at h.0) h.1))

pub hears_then : {V U C : Type 0} (d : DeskOf V) (p : PeersOf U)
    (happened : C → Option (List Happened)) (k time : ℕ) (cause : Option EndReason)
    (served spent later : Bool) (notes mid new : Notes) (differs after : Option Difference)
    (a m b : Spot V U C) → mid.until ≡ notes.until → new.known ≡ mid.known
    → HearsDesks d p happened k (ears (d.seen a.node) notes.known differs) mid.known after a m
    → ServesOne d p happened k time cause served spent later mid new m b
    → ServesNext d p happened k time cause served (beside spent notes differs)
    (beside later new after) a b
hears_then d p happened k time cause served spent later notes mid new differs after a m b until
    known h g =
    let shares : Shares (h.0 ++ g.0) spent later =
    record { messages = h.0; last = g.0; all = refl; heard = h.2; shares = g.2 } in (
      h.0 ++ g.0,
      goes_both d p happened k cause 0 0 h.0 g.0 a m b h.1 g.1,
      shares,
      record {
        heard = record { lengths = known ∙ h.3.lengths; first = h.3.first };
        due =
            due_after a.talk.talk.home (d.seen m.node)
            (hear_all a.talk.talk.home (ears (d.seen a.node) notes.known differs) h.0).seen time
            m.talk.talk.home mid.until notes.until m.talk g.0 h.1.1.home until h.4 g.3;
      },
      g.4,
      g.5,
    )

-- ---- with a client, of which nothing was told meanwhile

told_nothing : (k : ℕ) (turns : List Turn) (before : List Happened)
    → Tells (Some before) (Some before) (told_turns k turns ++ told_why k None)
    → before ≡ before ++ (told_turns k turns ++ told_why k None)
told_nothing k turns before h = h

pub serves_beside : {V U C : Type 0} (d : DeskOf V) (p : PeersOf U)
    (happened : C → Option (List Happened)) (k time : ℕ) (served : Bool) (was at : Beside)
    (node next : V) (peers more : U) (c : C) (old new : LockedConnectionOf)
    → ServesNext d p Some k time None served was at (spot node peers [] old) (spot next more [] new)
    → ServesNext d p happened k time None served was at (spot node peers c old)
    (spot next more c new)
serves_beside d p happened k time served was at node next peers more c old new h = (
  h.0,
  (
    h.1.0,
    record {
      few = h.1.1.few;
      begins = h.1.1.begins;
      follow = h.1.1.follow;
      told =
          Tells-as (happened c) (happened c) [] _ (told_nothing k h.1.0 [] h.1.1.told)
          (Tells-nil (happened c));
      home = h.1.1.home;
      wire = h.1.1.wire;
    },
  ),
  h.2,
  h.3,
  h.4,
  h.5,
)

-- ---- and then what is to be sent is offered, where a frame of the client was begun

left_sent : (served : Bool) (x : Seen) (time : ℕ) (last : List Begun) (old new : LockedConnectionOf)
    (until : Option ℕ) → HasBegun served last → (served ≡ false → new ≡ old)
    → IsLeftOrDone x time last old until → IsLeftOrDone x time last new until
left_sent true x time [] old new until begun rests h = absurd begun
left_sent true x time (one ∷ more) old new until begun rests h = tt
left_sent false x time last old new until begun rests h =
    subst (λ c. IsLeftOrDone x time last c until) (sym (rests refl)) h

pub serves_sent : {V U C : Type 0} (d : DeskOf V) (p : PeersOf U)
    (happened : C → Option (List Happened)) (k time : ℕ) (ok served : Bool) (was at : Beside)
    (a : Spot V U C) (node : V) (peers : U) (c later : C) (talk last : LockedConnectionOf)
    → ServesNext d p happened k time None served was at a (spot node peers c talk)
    → Sends happened k ok c later talk last → (served ≡ false → last ≡ talk)
    → ServesNext d p happened k time (broken ok) served was at a (spot node peers later last)
serves_sent d p happened k time ok served was at a node peers c later talk last h sends rests = (
  h.0,
  subst
      (λ z. Goes d p happened k (broken ok) 0 z a (spot node peers later last)) (append-nil h.0)
      (goes_both d p happened k (broken ok) 0 0 h.0 [] a (spot node peers c talk)
      (spot node peers later last) h.1
      (after_send d p happened k 0 ok node peers c later talk last sends)),
  h.2,
  h.3,
  left_sent served (d.seen node) time h.2.last talk last at.notes.until h.5 rests h.4,
  h.5,
)

-- ---- whether it is done

undone_is : (talk : LockedConnectionOf) → SettledOrDone talk → (IsDone talk → ⊥) → Settled talk
undone_is talk (inl h) undone = h
undone_is talk (inr h) undone = absurd (undone h)

left_is : (x : Seen) (time : ℕ) (begun : List Begun) (talk : LockedConnectionOf) (until : Option ℕ)
    → IsLeftOrDone x time begun talk until → (IsDone talk → ⊥) → IsLeft x time begun talk until
left_is x time [] talk until (inl h) undone = inl (undone_is talk h undone)
left_is x time [] talk until (inr h) undone = inr h
left_is x time (one ∷ more) talk until h undone = tt

pub not_done : (c : LockedConnectionOf) (done : Bool) → (IsTrue done ↔ IsDone c) → done ≡ false
    → IsDone c → ⊥
not_done c done h is at = let n : false ≡ true = sym is ∙ h.1 at in absurd cc

-- a write failed, or a read did, or the client has gone
pub talk_moved : {V U C : Type 0} (d : DeskOf V) (p : PeersOf U)
    (happened : C → Option (List Happened)) (k time : ℕ) (w : EndReason) (at : Beside) (node : V)
    (peers : U) (c later : C) (old new : LockedConnectionOf)
    → Moves happened k (Some w) c later old new
    → TalksOn d p happened k time (Some w) at at (spot node peers c old) (spot node peers later new)
talk_moved d p happened k time w at node peers c later old new h = (
  [],
  after_move d p happened k (Some w) node peers c later old new h,
  record { messages = []; last = []; all = refl; heard = tt; shares = refl },
  record { heard = record { lengths = refl; first = refl }; due = tt },
  λ n. some_not n,
  move_ends happened k w c later old new h,
)
  where
    some_not : Some w ≡ None → IsLeft (d.seen node) time [] new at.notes.until
    some_not n = absurd cc

-- a frame was served after that, or none
pub talk_served : {V U C : Type 0} (d : DeskOf V) (p : PeersOf U)
    (happened : C → Option (List Happened)) (k time : ℕ) (cause : Option EndReason) (served : Bool)
    (was at : Beside) (node : V) (peers : U) (c between : C) (old mid : LockedConnectionOf)
    (b : Spot V U C) → Moves happened k None c between old mid
    → ServesNext d p happened k time cause served was at (spot node peers between mid) b
    → IsFate cause b.talk → TalksOn d p happened k time cause was at (spot node peers c old) b
talk_served d p happened k time cause served was at node peers c between old mid b h g fate =
    let moved = after_move d p happened k None node peers c between old mid h in (
      g.0,
      goes_both d p happened k cause 1 0 [] g.0 (spot node peers c old)
          (spot node peers between mid) b moved g.1,
      g.2,
      subst (λ z. Beholds z time (d.seen node) g.2.messages g.2.last was at) moved.1.home g.3,
      λ is.
          left_is (d.seen b.node) time g.2.last b.talk at.notes.until g.4
          (subst (λ z. IsFate z b.talk) is fate),
      fate,
    )

-- and all is done
pub talk_done : {V U C : Type 0} (d : DeskOf V) (p : PeersOf U)
    (happened : C → Option (List Happened)) (k time : ℕ) (served : Bool) (was at : Beside)
    (node : V) (peers : U) (c between : C) (old mid : LockedConnectionOf) (b : Spot V U C)
    → Moves happened k None c between old mid
    → ServesNext d p happened k time None served was at (spot node peers between mid) b
    → IsDone b.talk → TalksOn d p happened k time (Some why.Done) was at (spot node peers c old) b
talk_done d p happened k time served was at node peers c between old mid b h g done =
    talk_served d p happened k time (Some why.Done) served was at node peers c between old mid b h
    (g.0, goes_as d p happened k why.Done 0 g.0 _ b refl g.1, g.2, g.3, g.4, g.5) done

-- what was changed can't be settled
pub talk_unsettled : {V U C : Type 0} (d : DeskOf V) (p : PeersOf U)
    (happened : C → Option (List Happened)) (k time : ℕ) (served : Bool) (was at : Beside)
    (node : V) (peers : U) (c between : C) (old mid : LockedConnectionOf) (b : Spot V U C)
    → Moves happened k None c between old mid
    → ServesNext d p happened k time None served was at (spot node peers between mid) b
    → TalksOn d p happened k time (Some why.Over) was at (spot node peers c old) b
talk_unsettled d p happened k time served was at node peers c between old mid b h g =
    talk_served d p happened k time (Some why.Over) served was at node peers c between old mid b h
    (g.0, goes_as d p happened k why.Over 0 g.0 _ b refl g.1, g.2, g.3, g.4, g.5) tt

-- ---- what stands of a settling once a client is to be ended

pub goes_on_settled : (ok : Bool) → ((ok ≡ false) ↔ (None ≡ Some why.Over)) → ok ≡ true
goes_on_settled true h = refl
goes_on_settled false h = let n : None ≡ Some why.Over = h.0 refl in absurd cc

pub settled_so : (ok : Bool) (fate : Option EndReason) → ok ≡ true → fate ≢ Some why.Over
    → ((ok ≡ false) ↔ (fate ≡ Some why.Over))
settled_so true fate is other = (λ n. absurd cc, λ n. absurd (other n))
settled_so false fate is other = absurd cc

-- ---- it is asked to be named again

goes_told : {V U C : Type 0} (d : DeskOf V) (p : PeersOf U)
    (happened : C → Option (List Happened)) (k : ℕ) (cause : Option EndReason) (begun : List Begun)
    (a : Spot V U C) (node : V) (peers : U) (c later : C) (talk : LockedConnectionOf)
    → Goes d p happened k None 1 begun a (spot node peers c talk)
    → Tells (happened c) (happened later) (told_why k cause)
    → Goes d p happened k cause 1 begun a (spot node peers later talk)
goes_told d p happened k cause begun a node peers c later talk h told =
    subst (λ z. Goes d p happened k cause 1 z a (spot node peers later talk)) (append-nil begun)
    (goes_both d p happened k cause 1 0 begun [] a (spot node peers c talk)
    (spot node peers later talk) h
    (no_turn d p happened k cause 0 node peers c later talk talk refl told))

pub hosts_on : {V U C : Type 0} (d : DeskOf V) (p : PeersOf U)
    (happened : C → Option (List Happened)) (k time : ℕ) (was at : Beside) (a : Spot V U C)
    (node : V) (peers : U) (c last : C) (talk : LockedConnectionOf)
    → TalksOn d p happened k time None was at a (spot node peers c talk)
    → Tells (happened c) (happened last) []
    → TalksOn d p happened k time None was at a (spot node peers last talk)
hosts_on d p happened k time was at a node peers c last talk h told = (
  h.0,
  goes_told d p happened k None h.0 a node peers c last talk h.1 told,
  h.2,
  h.3,
  h.4,
  h.5,
)

pub hosts_broken : {V U C : Type 0} (d : DeskOf V) (p : PeersOf U)
    (happened : C → Option (List Happened)) (k time : ℕ) (was at : Beside) (a : Spot V U C)
    (node : V) (peers : U) (c last : C) (talk : LockedConnectionOf)
    → TalksOn d p happened k time None was at a (spot node peers c talk)
    → Tells (happened c) (happened last) (told_why k (Some why.Broke))
    → TalksOn d p happened k time (Some why.Broke) was at a (spot node peers last talk)
hosts_broken d p happened k time was at a node peers c last talk h told = (
  h.0,
  goes_told d p happened k (Some why.Broke) h.0 a node peers c last talk h.1 told,
  h.2,
  h.3,
  λ n. some_not n,
  tt,
)
  where
    some_not : Some why.Broke ≡ None → IsLeft (d.seen node) time h.2.last talk at.notes.until
    some_not n = absurd cc
