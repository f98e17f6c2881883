-- Bytes are sent.
use Rattle.std.proofs.Common.{◌≡◌, inl, inr, refl, sym, ap, subst, ◌∙◌, ℕ, ◌+◌, ◌<◌, ◌≤◌, List, []}
use Rattle.std.proofs.Common.{◌∷◌, ◌++◌, length, take, drop, arith, true, false, Bool, ◌==◌}
use Rattle.std.proofs.Common.{add-zero, length-drop, length-append, nat_lt, ◌&&◌, if◌then◌else◌}
use Rattle.std.proofs.lemmas.List.{append-nil, append_assoc, take-append-drop}
use Rattle.std.proofs.lemmas.Grind.{flat_map-append}
use Rattle.std.proofs.lemmas.Bool.{ltb-true, ltb-false, eq-eqb, Decides.eqb_tells}
use Rattle.std.proofs.Math.Seq.{take-append_seam, take-add, drop-nil}
use Rattle.links.specs.declared.stages.LinkStage.{LinkStage}
use Rattle.links.specs.Links.{LinkState, first_of, has_room, has_some, frames_on, pending}
use Rattle.links.specs.Links.{is_sending, part_sent, whole_sent, after_sent}
use Rattle.links.specs.Histories.{Full, Unreachable, NoMemory, SentOn, Told, sent_on, History, Then}
use Rattle.links.specs.Histories.{Sent, written, connections}
use Rattle.links.proofs.Fates.{settle_first, frames_first, waiting_first}
use Rattle.links.proofs.{Orders.order_first, Orders.last_first, Cuts.cut_first, Cuts.count_first}
use Rattle.links.proofs.Keeping.{Holds, Past, Now, front_of, joined, SameTold, as_next, rest_as}
use Rattle.links.specs.declared.stages.LinkStage.TheVariants as stage

-- ---- what was written

with_none : (b : Bool) (xs bytes : List ℕ) → bytes ≡ [] → xs ++ (if b then bytes else []) ≡ xs
with_none true xs bytes e = ap (λ z. xs ++ z) e ∙ append-nil xs
with_none false xs bytes e = append-nil xs

unequal : (m n : ℕ) → (m ≡ n → ⊥) → (m == n) ≡ false
unequal m n other = elim (eqb_tells m n) [ inl e ↦ absurd (other e.1) | inr e ↦ e.0 ]

-- nothing is written on another connection
elsewhere : {A : Type 0} (m n : ℕ) (xs ys : List A) → (m ≡ n → ⊥)
    → xs ++ (if m == n then ys else []) ≡ xs
elsewhere m n xs ys other =
    ap (λ z. xs ++ (if z then ys else [])) (unequal m n other) ∙ append-nil xs

here : {A : Type 0} (n : ℕ) (xs ys : List A) → xs ++ (if n == n then ys else []) ≡ xs ++ ys
here n xs ys = ap (λ z. xs ++ (if z then ys else [])) (eq-eqb n n refl)

-- ---- nothing is to be sent

and_split : (a b : Bool) → (a && b) ≡ true → (a ≡ true) × (b ≡ true)
and_split true b h = (refl, h)
and_split false b h = cc

nothing_at : (room : Bool) (fs : List (List ℕ)) (begun : ℕ) → (room && has_some fs) ≡ false
    → (if room then drop begun (first_of fs) else []) ≡ []
nothing_at false fs begun shut = refl
nothing_at true [] begun shut = drop-nil begun
nothing_at true (f ∷ fs) begun shut = cc

front_none : (bytes rest : List ℕ) → bytes ++ rest ≡ [] → bytes ≡ []
front_none [] rest e = refl
front_none (x ∷ xs) rest e = cc

sent_told : (h : History) (now : ℕ) (bytes : List ℕ) → bytes ≡ []
    → SameTold h (Then h (Sent now bytes))
sent_told h now bytes none = record {
  pushed = refl;
  connections = refl;
  written = λ n. with_none (n == connections h) (written n h) bytes none;
  full = refl;
  memory = refl;
  failures = λ e. e;
}

-- ---- on an open connection

room_frames : (at : LinkStage) → has_room at ≡ true → nat_lt (frames_on at) 63 ≡ true
room_frames (stage.Open frames quiet) room = room
room_frames _ room = cc

now_open : (at : LinkStage) (n : ℕ) (bytes front : List ℕ) (ts : List Told) → has_room at ≡ true
    → Now at n bytes front ts
    → (bytes ≡ joined (sent_on n ts) ++ front) × (length (sent_on n ts) ≡ frames_on at)
now_open (stage.Open frames quiet) n bytes front ts room h = h
now_open _ n bytes front ts room h = cc

taken_more : (b : ℕ) (f bytes rest : List ℕ) → drop b f ≡ bytes ++ rest
    → take (b + length bytes) f ≡ take b f ++ bytes
taken_more b f bytes rest e =
    take-add b (length bytes) f
    ∙ ap (λ z. take b f ++ z) (ap (λ z. take (length bytes) z) e ∙ take-append_seam bytes rest)

-- ---- a part of the first frame

sends_part : (h : History) (s : LinkState) (ts : List Told) (now : ℕ) (bytes rest : List ℕ)
    → Holds h s ts → has_room s.stage ≡ true → drop s.begun (first_of s.waiting) ≡ bytes ++ rest
    → length bytes < length (drop s.begun (first_of s.waiting))
    → Holds (Then h (Sent now bytes)) (part_sent s now (length bytes)) ts
sends_part h s ts now bytes rest a room is less =
    let held =
    now_open s.stage (connections h) (written (connections h) h) (front_of s) ts room a.now in
    record {
      all = a.all;
      waits = a.waits;
      ordered = a.ordered;
      sound = record {
        few = a.sound.few;
        sends = λ some. room_frames s.stage room;
        part = λ some. omega (arith, less, length-drop s.begun (first_of s.waiting));
        frames = a.sound.frames;
        holds = omega arith;
        pause = a.sound.pause;
      };
      causes = record { full = a.causes.full; memory = a.causes.memory; failed = a.causes.failed };
      each = λ n other.
          subst (λ z. Past z n ts) (sym (elsewhere n (connections h) (written n h) bytes other))
          (a.each n other);
      fresh = λ n later.
          let f = a.fresh n later in (
            elsewhere n (connections h) (written n h) bytes (λ e. omega (arith, e, later)) ∙ f.0,
            f.1,
          );
      now = (
        here (connections h) (written (connections h) h) bytes
            ∙ ap (λ z. z ++ bytes) held.0
            ∙ append_assoc (joined (sent_on (connections h) ts)) (front_of s) bytes
            ∙ ap (λ z. joined (sent_on (connections h) ts) ++ z)
            (sym (taken_more s.begun (first_of s.waiting) bytes rest is)),
        held.1,
      );
    }

-- ---- the rest of the first frame

nothing_left : (bytes rest : List ℕ) → length (bytes ++ rest) ≤ length bytes → rest ≡ []
nothing_left bytes [] e = refl
nothing_left bytes (x ∷ xs) e = absurd (omega (arith, e, length-append bytes (x ∷ xs)))

-- what was sent before, and these bytes, are the frame
is_whole : (b : ℕ) (f bytes rest : List ℕ) → drop b f ≡ bytes ++ rest
    → length (drop b f) ≤ length bytes → take b f ++ bytes ≡ f
is_whole b f bytes rest e all =
    let none = nothing_left bytes rest (subst (λ z. length z ≤ length bytes) e all) in
    let same = e ∙ ap (λ z. bytes ++ z) none ∙ append-nil bytes in
    ap (λ z. take b f ++ z) (sym same) ∙ take-append-drop b f

joined_more : (fs : List (List ℕ)) (f : List ℕ) → joined (fs ++ f ∷ []) ≡ joined fs ++ f
joined_more fs f = flat_map-append (λ x. x) fs (f ∷ []) ∙ ap (λ z. joined fs ++ z) (append-nil f)

sends_whole : (h : History) (s : LinkState) (ts : List Told) (now : ℕ) (bytes rest f : List ℕ)
    (fs : List (List ℕ)) → Holds h s ts → has_room s.stage ≡ true → s.waiting ≡ f ∷ fs
    → drop s.begun (first_of s.waiting) ≡ bytes ++ rest
    → length (drop s.begun (first_of s.waiting)) ≤ length bytes
    → Holds (Then h (Sent now bytes)) (whole_sent s now)
    (settle_first (SentOn (connections h)) ts)
sends_whole h s ts now bytes rest f fs a room first is most =
    let c = connections h in
    let us = settle_first (SentOn c) ts in
    let held = now_open s.stage c (written c h) (front_of s) ts room a.now in
    let few = ltb-true (frames_on s.stage) 63 (room_frames s.stage room) in
    let last : (n : ℕ) → sent_on n us ≡ sent_on n ts ++ (if n == c then f ∷ [] else [])
    = λ n. last_first c n c ts f fs a.ordered (a.waits ∙ first) in
    let on_it : sent_on c us ≡ sent_on c ts ++ f ∷ []
    = last c ∙ here c (sent_on c ts) (f ∷ []) in
    let whole : front_of s ++ bytes ≡ f
    = is_whole s.begun (first_of s.waiting) bytes rest is most ∙ ap (λ z. first_of z) first in
    record {
      all = frames_first (SentOn c) ts ∙ a.all;
      waits = waiting_first (SentOn c) ts (λ x. refl) ∙ ap (λ z. drop 1 z) a.waits;
      ordered = order_first c (SentOn c) ts (λ zs e. (omega arith, λ n less. e n))
          (λ n less x. ap (λ z. if z then x ∷ [] else [])
          (unequal n c (λ e. omega (arith, e, less)))) a.ordered;
      sound = record {
        few = let e = a.sound.few in omega (arith, e, length-drop 1 s.waiting);
        sends = λ some. absurd (omega (arith, some));
        part = λ some. absurd (omega (arith, some));
        frames = omega (arith, few);
        holds = omega arith;
        pause = a.sound.pause;
      };
      causes = record {
        full = count_first Full (SentOn c) ts f fs (a.waits ∙ first) ∙ add-zero _ ∙ a.causes.full;
        memory =
            count_first NoMemory (SentOn c) ts f fs (a.waits ∙ first) ∙ add-zero _
            ∙ a.causes.memory;
        failed = λ e.
            count_first Unreachable (SentOn c) ts f fs (a.waits ∙ first) ∙ add-zero _
            ∙ a.causes.failed e;
      };
      each = λ n other.
          let p = a.each n other in
          let same = last n ∙ elsewhere n c (sent_on n ts) (f ∷ []) other in
          record {
            part = p.part;
            is =
                elsewhere n c (written n h) bytes other ∙ p.is
                ∙ ap (λ z. joined z ++ p.part) (sym same);
            rest =
                rest_as n p.part ts us (λ part e. cut_first n part (SentOn c) ts
                (λ x. ap (λ z. if z then x ∷ [] else []) (unequal n c other)) e) p.rest;
            most = subst (λ z. length z ≤ 63) (sym same) p.most;
          };
      fresh = λ n later.
          let other : n ≡ c → ⊥ = λ e. omega (arith, e, later) in
          let g = a.fresh n later in (
            elsewhere n c (written n h) bytes other ∙ g.0,
            last n ∙ elsewhere n c (sent_on n ts) (f ∷ []) other ∙ g.1,
          );
      now = (
        here c (written c h) bytes
            ∙ ap (λ z. z ++ bytes) held.0
            ∙ append_assoc (joined (sent_on c ts)) (front_of s) bytes
            ∙ ap (λ z. joined (sent_on c ts) ++ z) whole
            ∙ sym (joined_more (sent_on c ts) f)
            ∙ ap (λ z. joined z) (sym on_it)
            ∙ sym (append-nil (joined (sent_on c us))),
        ap (λ z. length z) on_it ∙ length-append (sent_on c ts) (f ∷ [])
            ∙ ap (λ z. z + 1) held.1,
      );
    }

-- ---- all cases

record OneOf (fs : List (List ℕ)) : Type 0 where
  f : List ℕ
  more : List (List ℕ)
  is : fs ≡ f ∷ more

one_of : (fs : List (List ℕ)) → has_some fs ≡ true → OneOf fs
one_of [] e = cc
one_of (f ∷ fs) e = record { f = f; more = fs; is = refl }

not_less : (m n : ℕ) → nat_lt m n ≡ false → n ≤ m
not_less m n e = ltb-false m n e

sends_open : (less : Bool) (h : History) (s : LinkState) (ts : List Told) (now : ℕ)
    (bytes rest : List ℕ) → Holds h s ts → has_room s.stage ≡ true → has_some s.waiting ≡ true
    → pending s ≡ drop s.begun (first_of s.waiting) → pending s ≡ bytes ++ rest
    → nat_lt (length bytes) (length (pending s)) ≡ less
    → (us : List Told) × Holds (Then h (Sent now bytes))
    (if less then part_sent s now (length bytes) else whole_sent s now) us
sends_open true h s ts now bytes rest a room some same is less = (
  ts,
  sends_part h s ts now bytes rest a room (sym same ∙ is)
      (subst (λ z. length bytes < length z) same
      (ltb-true (length bytes) (length (pending s)) less)),
)
sends_open false h s ts now bytes rest a room some same is less =
    let one = one_of s.waiting some in (
      settle_first (SentOn (connections h)) ts,
      sends_whole h s ts now bytes rest one.f one.more a room one.is (sym same ∙ is)
          (subst (λ z. length z ≤ length bytes) same
          (not_less (length bytes) (length (pending s)) less)),
    )

sends_at : (sending : Bool) (h : History) (s : LinkState) (ts : List Told) (now : ℕ)
    (bytes rest : List ℕ) → Holds h s ts → is_sending s ≡ sending → pending s ≡ bytes ++ rest
    → (us : List Told) × Holds (Then h (Sent now bytes)) (if sending then (
    if nat_lt (length bytes) (length (pending s)) then part_sent s now (length bytes)
    else whole_sent s now
    ) else s) us
sends_at true h s ts now bytes rest a sending is =
    let both = and_split (has_room s.stage) (has_some s.waiting) sending in
    sends_open (nat_lt (length bytes) (length (pending s))) h s ts now bytes rest a both.0 both.1
    (ap (λ z. if z then drop s.begun (first_of s.waiting) else []) both.0) is refl
sends_at false h s ts now bytes rest a shut is =
    let none =
    front_none bytes rest (sym is ∙ nothing_at (has_room s.stage) s.waiting s.begun shut) in
    (ts, as_next h (Then h (Sent now bytes)) s ts (sent_told h now bytes none) a)

pub sends : (h : History) (s : LinkState) (ts : List Told) (now : ℕ) (bytes rest : List ℕ)
    → Holds h s ts → pending s ≡ bytes ++ rest
    → (us : List Told) × Holds (Then h (Sent now bytes)) (after_sent s now (length bytes)) us
sends h s ts now bytes rest a is =
    sends_at (is_sending s) h s ts now bytes rest a refl is
