-- What holds after some turns of a guarded connection that alone is served.
use Rattle.std.proofs.Common.{◌≡◌, refl, sym, ap, subst, ◌∙◌, ℕ, List, [], ◌∷◌, ◌++◌, append_assoc}
use Rattle.std.{proofs.lemmas.List.append-nil, specs.List.flat_map}
use Rattle.answers.specs.declared.desk.Desk.{Ghosts as DeskOf}
use Rattle.sealed.specs.declared.callers.Access.{Access}
use Rattle.serving.{specs.Connection.AreBegun, specs.TurnLaw.taken_in, proofs.TurnLaws.turns_serve}
use Rattle.serving.specs.{Connection.Begun, Connection.frames_of, Making.Way, Making.speaking}
use Rattle.serving.specs.TurnLaw.{Began, Turn, begun_at, begun_in, came_in, handed_out, received}
use Rattle.serving.proofs.Connecting.{bytes_then, frames_of_both}
use Rattle.store.specs.declared.home.Home.{Home}
use Rattle.wire.specs.declared.{frame.Frame.Frame, values.Version.Version}
use Rattle.wire.specs.Spelling.{spelling}
use Rattle.guarded.specs.LockedConnections.{fresh_locked_connection}
use Rattle.guarded.specs.LockedTurns.{Follow, Place, within}
use Rattle.guarded.proofs.Keeping.{Keeps, keeps_as, keeps_first, turn_goes}
use Rattle.guarded.proofs.Lists.{begun_in-both, follow_both, handed_out-both, received-both}
use Rattle.serving.specs.Turns as Turns
use Rattle.serving.specs.TurnLaw as TurnLaw

-- The connection within took these turns, in which these frames were begun, and what holds of the
-- guarded one goes on.
pub record Holds {V : Type 0} {way : Way V} (doors : Access) (server : List ℕ) (a b : Place way)
    (came sent : List ℕ) (begun : List Begun) : Type 0 where
  pub inner : List Turn
  pub follow : TurnLaw.Follow (within a) inner (within b)
  pub begins : begun_in inner ≡ begun
  pub keeps : Keeps doors server b.guard came (received inner) (handed_out inner) sent begun

pub holds_first : {V : Type 0} {way : Way V} (home : Home) (wire : Version) (doors : Access)
    (server : List ℕ) (a : Place way) → a.guard ≡ fresh_locked_connection doors server home wire
    → Holds doors server a a [] [] []
holds_first home wire doors server a is = record {
  inner = [];
  follow = refl;
  begins = refl;
  keeps = keeps_first home wire doors server a.guard is;
}

-- ---- many turns

-- the connection within took these turns, and what holds goes on
pub record GoesAll {V : Type 0} {way : Way V} (doors : Access) (server : List ℕ)
    (turns : List Turn) (a b : Place way) (inner : List Turn) : Type 0 where
  pub follow : TurnLaw.Follow (within a) inner (within b)
  pub begins : begun_in inner ≡ begun_in turns
  pub keeps : (came handed answers sent : List ℕ) (begun : List Begun)
      → Keeps doors server a.guard came handed answers sent begun
      → Keeps doors server b.guard (came ++ received turns) (handed ++ received inner)
      (answers ++ handed_out inner) (sent ++ handed_out turns) (begun ++ begun_in turns)

pub turns_go : {V : Type 0} {way : Way V} (doors : Access) (server : List ℕ) (turns : List Turn)
    (a b : Place way) → Follow a turns b
    → (inner : List Turn) × GoesAll doors server turns a b inner
turns_go {V} {way} doors server [] a b same = (
  [],
  record {
    follow = ap (λ (p : Place way). within p) same;
    begins = refl;
    keeps = λ came handed answers sent begun h.
        keeps_as doors server b.guard came handed answers sent (came ++ []) (handed ++ [])
        (answers ++ []) (sent ++ []) begun (begun ++ []) (sym (append-nil came))
        (sym (append-nil handed)) (sym (append-nil answers)) (sym (append-nil sent))
        (sym (append-nil begun)) (subst
        (λ (p : Place way). Keeps doors server p.guard came handed answers sent begun) same h);
  },
)
turns_go doors server (t ∷ ts) a b k =
    let g = turn_goes doors server t a k.0 k.1 in
    let later = turns_go doors server ts k.0 b k.2 in (
      g.0 ++ later.0,
      record {
        follow =
            follow_both (within a) (within k.0) (within b) g.0 later.0 g.1.follow later.1.follow;
        begins =
            begun_in-both g.0 later.0 ∙ ap (λ (s : List Begun). s ++ begun_in later.0) g.1.begins
            ∙ ap (λ (s : List Begun). begun_at t ++ s) later.1.begins;
        keeps = λ came handed answers sent begun h.
            keeps_as doors server b.guard ((came ++ came_in t) ++ received ts)
            ((handed ++ received g.0) ++ received later.0)
            ((answers ++ handed_out g.0) ++ handed_out later.0)
            ((sent ++ taken_in t) ++ handed_out ts) (came ++ (came_in t ++ received ts))
            (handed ++ received (g.0 ++ later.0)) (answers ++ handed_out (g.0 ++ later.0))
            (sent ++ (taken_in t ++ handed_out ts)) ((begun ++ begun_at t) ++ begun_in ts)
            (begun ++ (begun_at t ++ begun_in ts)) (append_assoc came (came_in t) (received ts))
            (append_assoc handed (received g.0) (received later.0)
            ∙ ap (λ (s : List ℕ). handed ++ s) (sym (received-both g.0 later.0)))
            (append_assoc answers (handed_out g.0) (handed_out later.0)
            ∙ ap (λ (s : List ℕ). answers ++ s) (sym (handed_out-both g.0 later.0)))
            (append_assoc sent (taken_in t) (handed_out ts))
            (append_assoc begun (begun_at t) (begun_in ts)) (later.1.keeps (came ++ came_in t)
            (handed ++ received g.0) (answers ++ handed_out g.0) (sent ++ taken_in t)
            (begun ++ begun_at t) (g.1.keeps came handed answers sent begun h));
      },
    )

pub turns_hold : {V : Type 0} {way : Way V} (doors : Access) (server : List ℕ)
    (start a b : Place way) (turns : List Turn) (came sent : List ℕ) (begun : List Begun)
    → Holds doors server start a came sent begun → Follow a turns b
    → Holds doors server start b (came ++ received turns) (sent ++ handed_out turns)
    (begun ++ begun_in turns)
turns_hold doors server start a b turns came sent begun h follow =
    let g = turns_go doors server turns a b follow in
    let handed = received h.inner in
    let answers = handed_out h.inner in
    record {
      inner = h.inner ++ g.0;
      follow = follow_both (within start) (within a) (within b) h.inner g.0 h.follow g.1.follow;
      begins =
          begun_in-both h.inner g.0 ∙ ap (λ (s : List Begun). s ++ begun_in g.0) h.begins
          ∙ ap (λ (s : List Begun). begun ++ s) g.1.begins;
      keeps =
          keeps_as doors server b.guard (came ++ received turns) (handed ++ received g.0)
          (answers ++ handed_out g.0) (sent ++ handed_out turns) (came ++ received turns)
          (received (h.inner ++ g.0)) (handed_out (h.inner ++ g.0)) (sent ++ handed_out turns)
          (begun ++ begun_in turns) (begun ++ begun_in turns) refl
          (sym (received-both h.inner g.0)) (sym (handed_out-both h.inner g.0)) refl refl
          (g.1.keeps came handed answers sent begun h.keeps);
    }

-- ---- the frame that is begun next

-- it is next in what was let in
pub record BeginsAt (handed : List ℕ) (begun : List Begun) (one : Begun) : Type 0 where
  pub more : List ℕ
  pub whole : handed ≡ flat_map spelling (frames_of begun) ++ (spelling one.frame ++ more)

last_bytes : (begun : List Begun) (one : Begun) (more : List ℕ)
    → flat_map spelling (frames_of (begun ++ one ∷ [])) ++ more
    ≡ flat_map spelling (frames_of begun) ++ (spelling one.frame ++ more)
last_bytes begun one more =
    let front = flat_map spelling (frames_of begun) in
    ap (λ (fs : List Frame). flat_map spelling fs ++ more) (frames_of_both begun (one ∷ []))
    ∙ ap (λ (s : List ℕ). s ++ more) (bytes_then (frames_of begun) (one.frame ∷ []))
    ∙ ap (λ (s : List ℕ). (front ++ s) ++ more) (append-nil (spelling one.frame))
    ∙ append_assoc front (spelling one.frame) more

pub begins_at : {V : Type 0} (d : DeskOf V) (home : Home) (wire : Version)
    (a m n : TurnLaw.Place (speaking d.handles d.settles wire)) (inner : List Turn) (one : Begun)
    → a.talk ≡ Turns.new_talk home wire → TurnLaw.Follow a inner m
    → TurnLaw.Turns (Began one) m n → BeginsAt (received inner) (begun_in inner) one
begins_at d home wire a m n inner one is follow turn =
    let began : Turn = Began one in
    let all = turns_serve d home wire (inner ++ began ∷ []) a n is
    (follow_both a m n inner (began ∷ []) follow (n, turn, refl)) in
    let more = flat_map spelling n.talk.waiting ++ all.1 in
    let begun : all.0 ≡ begun_in inner ++ one ∷ [] = all.3 ∙ begun_in-both inner (began ∷ []) in
    let came : received (inner ++ began ∷ []) ≡ received inner =
    received-both inner (began ∷ []) ∙ append-nil (received inner) in
    let begins = subst (λ (bs : List Begun). AreBegun (received (inner ++ began ∷ [])) bs more)
    begun all.2.begins in
    record {
      more = more;
      whole = sym came ∙ begins.whole ∙ last_bytes (begun_in inner) one more;
    }
