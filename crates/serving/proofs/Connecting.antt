-- One frame after the other.
use Rattle.std.proofs.Common.{◌≡◌, refl, sym, ap, subst, ◌∙◌, ℕ, ◌+◌, List, [], ◌∷◌, ◌++◌, length}
use Rattle.std.proofs.Common.{length-append, Option, None, Some, arith}
use Rattle.std.{proofs.lemmas.List.append-nil, specs.Io.KnownBytes.Appends}
use Rattle.std.proofs.{lemmas.List.append_assoc, KnownBytes.Appends-nil, KnownBytes.Appends-trans}
use Rattle.wire.specs.declared.{frame.Frame.Frame, standing.Difference.Difference}
use Rattle.wire.specs.Spelling.{spelling}
use Rattle.serving.specs.{Making.Way, Nodes.Fate, Serving.Act, model.Pieces.EndsInFrames}
use Rattle.serving.{specs.Making.Makes, proofs.Makings.Makes-nil, proofs.Makings.Makes-trans}
use Rattle.store.specs.declared.home.Home.{Home}
use Rattle.serving.specs.declared.ends.{FrameEnd.FrameEnd, ConnectionEnd.ConnectionEnd}
use Rattle.serving.specs.declared.{ends.FrameFault.FrameFault, permission.Permission.Permission}
use Rattle.answers.specs.Seen.{Seen}
use Rattle.serving.specs.Connection.{Begun, frames_of, Outcome, serve_frame, serve_frames, close_of}
use Rattle.serving.specs.Connection.{then_others, StaysOpen, AreUnder, answer_bytes, Sides, FailsIn}
use Rattle.serving.specs.Connection.{IsServed, ServesOne, Serves, Closes, Fails}
use Rattle.serving.specs.declared.ends.FrameEnd.TheVariants as close
use Rattle.serving.specs.declared.ends.ConnectionEnd.TheVariants as end
use Rattle.serving.specs.declared.ends.FrameFault.TheVariants as fault

then_assoc : (a b c : Outcome) → then_others a (then_others b c) ≡ then_others (then_others a b) c
then_assoc a b c = assoc_of a.acts b.acts c.acts a.answers b.answers c.answers c.seen
  where
    outcome : List Act → List Frame → Seen → Outcome
    outcome acts answers x = record { acts = acts; answers = answers; seen = x }

    assoc_of : (a b c : List Act) (d e f : List Frame) (x : Seen)
        → outcome (a ++ (b ++ c)) (d ++ (e ++ f)) x ≡ outcome ((a ++ b) ++ c) ((d ++ e) ++ f) x
    assoc_of a b c d e f x =
        ap (λ z. outcome z (d ++ (e ++ f)) x) (sym (append_assoc a b c))
        ∙ ap (λ z. outcome ((a ++ b) ++ c) z x) (sym (append_assoc d e f))

-- frames and then others
pub frames_then : (home : Home) (x : Seen) (bs cs : List Begun) → serve_frames home x (bs ++ cs)
    ≡ then_others (serve_frames home x bs) (serve_frames home (serve_frames home x bs).seen cs)
frames_then home x [] cs = refl
frames_then home x (b ∷ bs) cs =
    let y = (serve_frame home x b).seen in
    ap (λ z. then_others (serve_frame home x b) z) (frames_then home y bs cs)
    ∙ then_assoc (serve_frame home x b) (serve_frames home y bs)
    (serve_frames home (serve_frames home y bs).seen cs)

pub open_then : (home : Home) (x : Seen) (bs cs : List Begun) → StaysOpen home x bs
    → StaysOpen home (serve_frames home x bs).seen cs → StaysOpen home x (bs ++ cs)
open_then home x [] cs h k = k
open_then home x (b ∷ bs) cs h k = (h.0, open_then home (serve_frame home x b).seen bs cs h.1 k)

pub bytes_then : (xs ys : List Frame) → answer_bytes (xs ++ ys) ≡ answer_bytes xs ++ answer_bytes ys
bytes_then [] ys = refl
bytes_then (x ∷ xs) ys =
    ap (λ z. spelling x ++ z) (bytes_then xs ys)
    ∙ sym (append_assoc (spelling x) (answer_bytes xs) (answer_bytes ys))

pub frames_of_both : (bs cs : List Begun) → frames_of (bs ++ cs) ≡ frames_of bs ++ frames_of cs
frames_of_both [] cs = refl
frames_of_both (b ∷ bs) cs = ap (λ z. b.frame ∷ z) (frames_of_both bs cs)

-- nothing was begun yet
pub serves_none : {V : Type 0} {way : Way V} (home : Home) (a : Sides way) → Serves home a a []
serves_none home a =
    record {
      stays = tt;
      served = record {
        answered = Appends-nil a.written;
        made = Makes-nil home.hall a.outside;
        node = refl;
      };
    }

-- frames and then more of them
pub served_then : {V : Type 0} {way : Way V} (home : Home) (a m b : Sides way) (bs cs : List Begun)
    → IsServed home a m bs → IsServed home m b cs → IsServed home a b (bs ++ cs)
served_then home a m b bs cs h k =
    let first = serve_frames home a.seen bs in
    let second = serve_frames home m.seen cs in
    let is : serve_frames home a.seen (bs ++ cs) ≡ then_others first second
    = frames_then home a.seen bs cs
    ∙ ap (λ z. then_others first (serve_frames home z cs)) (sym h.node) in
    record {
      answered =
          subst (λ (z : Outcome). Appends a.written b.written (answer_bytes z.answers)) (sym is)
          (subst (λ z. Appends a.written b.written z)
          (sym (bytes_then first.answers second.answers))
          (Appends-trans a.written m.written b.written _ _ h.answered k.answered));
      made =
          subst (λ (z : Outcome). Makes home.hall a.outside b.outside z.acts) (sym is)
          (Makes-trans home.hall a.outside m.outside b.outside first.acts second.acts h.made
          k.made);
      node = k.node ∙ ap (λ (z : Outcome). z.seen) (sym is);
    }

-- one frame after those served so far
pub serves_one : {V : Type 0} {way : Way V} (home : Home) (a m b : Sides way) (bs : List Begun)
    (one : Begun) (ends : Option FrameEnd)
    → Serves home a m bs → ServesOne home m b one ends → IsServed home a b (bs ++ one ∷ [])
serves_one home a m b bs one ends h k =
    let mid = serve_frame home m.seen one in
    served_then home a m b bs (one ∷ []) h.served (record {
      answered =
          subst (λ z. Appends m.written b.written (answer_bytes z)) (sym (append-nil mid.answers))
          k.answered;
      made =
          subst (λ z. Makes home.hall m.outside b.outside z) (sym (append-nil mid.acts)) k.made;
      node = k.node;
    })

pub serves_more : {V : Type 0} {way : Way V} (home : Home) (a m b : Sides way) (bs : List Begun)
    (one : Begun) (ends : Option FrameEnd)
    → Serves home a m bs → ServesOne home m b one ends → ends ≡ None
    → Serves home a b (bs ++ one ∷ [])
serves_more home a m b bs one ends h k none = record {
  stays =
      open_then home a.seen bs (one ∷ []) h.stays
      (ap (λ z. close_of home z one) (sym h.served.node) ∙ sym k.close ∙ none, tt);
  served = serves_one home a m b bs one ends h k;
}

pub serves_last : {V : Type 0} {way : Way V} (home : Home) (a m b : Sides way) (bs : List Begun)
    (one : Begun) (ends : Option FrameEnd) (last : FrameEnd)
    → Serves home a m bs → ServesOne home m b one ends → ends ≡ Some last
    → Closes last home a b (bs ++ one ∷ [])
serves_last home a m b bs one ends last h k some = (
  bs,
  one,
  record {
    parts = refl;
    stays = h.stays;
    close = ap (λ z. close_of home z one) (sym h.served.node) ∙ sym k.close ∙ some;
    served = serves_one home a m b bs one ends h k;
  },
)

pub fails_last : {V : Type 0} {way : Way V} (why e : FrameFault) (home : Home) (a m b : Sides way)
    (bs : List Begun) (one : Begun)
    → e ≡ why → Serves home a m bs → FailsIn e home m b one → Fails why home a b (bs ++ one ∷ [])
fails_last why e home a m b bs one is h k = (
  bs,
  one,
  m,
  record { parts = refl; before = h; fails = subst (λ z. FailsIn z home m b one) is k },
)

pub serves_then : {V : Type 0} {way : Way V} (home : Home) (a m b : Sides way) (bs cs : List Begun)
    → Serves home a m bs → Serves home m b cs → Serves home a b (bs ++ cs)
serves_then home a m b bs cs h k = record {
  stays =
      open_then home a.seen bs cs h.stays (subst (λ z. StaysOpen home z cs) h.served.node k.stays);
  served = served_then home a m b bs cs h.served k.served;
}

last_of : (bs cs front : List Begun) (last : Begun) → cs ≡ front ++ last ∷ []
    → bs ++ cs ≡ (bs ++ front) ++ last ∷ []
last_of bs cs front last e = ap (λ z. bs ++ z) e ∙ sym (append_assoc bs front (last ∷ []))

closes_then : {V : Type 0} {way : Way V} (ends : FrameEnd) (home : Home) (a m b : Sides way)
    (bs cs : List Begun) → Serves home a m bs
    → Closes ends home m b cs → Closes ends home a b (bs ++ cs)
closes_then ends home a m b bs cs h k =
    let s = k.2 in
    let front = k.0 in
    let seen : (serve_frames home m.seen front).seen ≡ (serve_frames home a.seen (bs ++ front)).seen
    = ap (λ z. (serve_frames home z front).seen) h.served.node
    ∙ ap (λ (z : Outcome). z.seen) (sym (frames_then home a.seen bs front)) in (
      bs ++ front,
      k.1,
      record {
        parts = last_of bs cs front k.1 s.parts;
        stays =
            open_then home a.seen bs front h.stays
            (subst (λ z. StaysOpen home z front) h.served.node s.stays);
        close = ap (λ z. close_of home z k.1) (sym seen) ∙ s.close;
        served = served_then home a m b bs cs h.served s.served;
      },
    )

fails_then : {V : Type 0} {way : Way V} (why : FrameFault) (home : Home) (a m b : Sides way)
    (bs cs : List Begun)
    → Serves home a m bs → Fails why home m b cs → Fails why home a b (bs ++ cs)
fails_then why home a m b bs cs h k = (
  bs ++ k.0,
  k.1,
  k.2,
  record {
    parts = last_of bs cs k.0 k.1 k.3.parts;
    before = serves_then home a m k.2 bs k.0 h k.3.before;
    fails = k.3.fails;
  },
)

-- frames, and then others, of which one ends the connection
pub ends_then : {V : Type 0} {way : Way V} (e : ConnectionEnd) (home : Home) (a m b : Sides way)
    (bs cs : List Begun) (count : ℕ) → Serves home a m bs → EndsInFrames e home m b cs count
    → EndsInFrames e home a b (bs ++ cs) count
ends_then end.Stopped home a m b bs cs count h k = closes_then close.Stopped home a m b bs cs h k
ends_then end.Down home a m b bs cs count h k = closes_then close.Down home a m b bs cs h k
ends_then end.Frames home a m b bs cs count h k = (serves_then home a m b bs cs h k.0, k.1)
ends_then end.Write home a m b bs cs count h k = fails_then fault.Write home a m b bs cs h k
ends_then end.NoMemory home a m b bs cs count h k = fails_then fault.NoMemory home a m b bs cs h k
ends_then _ home a m b bs cs count h k = absurd k

-- one frame more was begun
pub begun_more : (all rest after : List Frame) (f : Frame) (may : Permission)
    (differs : Option Difference) (fates : List Fate) (begun : List Begun)
    → all ≡ frames_of begun ++ rest → rest ≡ f ∷ after → all ≡
    frames_of (begun ++ record { frame = f; may = may; differs = differs; fates = fates } ∷ [])
    ++ after
begun_more all rest after f may differs fates begun parts first =
    parts
    ∙ ap (λ z. frames_of begun ++ z) first
    ∙ sym (append_assoc (frames_of begun) (f ∷ []) after)
    ∙ ap (λ z. z ++ after) (sym (frames_of_both begun
    (record { frame = f; may = may; differs = differs; fates = fates } ∷ [])))

-- under one permission, and so is what comes after
pub under_both : (may : Permission) (xs ys : List Begun) → AreUnder may xs → AreUnder may ys
    → AreUnder may (xs ++ ys)
under_both may [] ys h k = k
under_both may (x ∷ xs) ys h k = (h.0, under_both may xs ys h.1 k)

pub counts_more : (before count : ℕ) (begun : List Begun) (one : Begun)
    → count ≡ before + length begun → count + 1 ≡ before + length (begun ++ one ∷ [])
counts_more before count begun one h = omega (arith, h, length-append begun (one ∷ []))
