-- What holds after each call of a link.
use Rattle.std.proofs.Common.{◌≡◌, inl, inr, refl, sym, ap, subst, ◌∙◌, ◌⊎◌, ℕ, zero, suc, ◌<◌, ◌≤◌}
use Rattle.std.proofs.Common.{List, [], ◌++◌, length, take, true, false, arith}
use Rattle.std.specs.List.{flat_map}
use Rattle.links.specs.{declared.stages.LinkStage.LinkStage, Histories.AreInOrder}
use Rattle.links.specs.Links.{LinkState, IsSound, first_of, has_room}
use Rattle.links.specs.Histories.{Full, NoMemory, Told, frames_of, waiting_of, sent_on, IsCut}
use Rattle.links.specs.Histories.{History, pushed, written, connections, said, failures, AreSaid}
use Rattle.links.specs.declared.stages.LinkStage.TheVariants as stage

abbrev pub joined : List (List ℕ) → List ℕ
joined fs = flat_map (λ f. f) fs

-- of a connection that is over: these bytes are the frames sent on it, and then a front part of one
-- that was dropped with it, or nothing
pub record Past (bytes : List ℕ) (n : ℕ) (ts : List Told) : Type 0 where
  pub part : List ℕ
  pub is : bytes ≡ joined (sent_on n ts) ++ part
  pub rest : (part ≡ []) ⊎ IsCut n part ts
  pub most : length (sent_on n ts) ≤ 63

-- of the last connection: it is over, or being opened, or this is what was sent of the first frame
abbrev pub Now : LinkStage → ℕ → List ℕ → List ℕ → List Told → Type 0
Now stage.Closed n bytes front ts = Past bytes n ts
Now (stage.Paused since millis) n bytes front ts = Past bytes n ts
Now (stage.Opening since) n bytes front ts = (bytes ≡ []) × (sent_on n ts ≡ [])
Now (stage.Open frames quiet) n bytes front ts =
    (bytes ≡ joined (sent_on n ts) ++ front) × (length (sent_on n ts) ≡ frames)

-- what was sent of the first frame
abbrev pub front_of : LinkState → List ℕ
front_of s = take s.begun (first_of s.waiting)

pub record Holds (h : History) (s : LinkState) (ts : List Told) : Type 0 where
  pub all : frames_of ts ≡ pushed h
  pub waits : waiting_of ts ≡ s.waiting
  pub ordered : AreInOrder (connections h) ts
  pub sound : IsSound s
  pub causes : AreSaid h ts
  pub each : (n : ℕ) → (n ≡ connections h → ⊥) → Past (written n h) n ts
  pub fresh : (n : ℕ) → connections h < n → (written n h ≡ []) × (sent_on n ts ≡ [])
  pub now : Now s.stage (connections h) (written (connections h) h) (front_of s) ts

-- the same frames were sent, and those cut off are still
pub record Same (ts us : List Told) : Type 0 where
  pub sent : (n : ℕ) → sent_on n us ≡ sent_on n ts
  pub cut : (n : ℕ) (part : List ℕ) → IsCut n part ts → IsCut n part us

pub same_both : (ts us vs : List Told) → Same ts us → Same us vs → Same ts vs
same_both ts us vs a b = record {
  sent = λ n. b.sent n ∙ a.sent n;
  cut = λ n part h. b.cut n part (a.cut n part h);
}

pub rest_as : (n : ℕ) (part : List ℕ) (ts us : List Told)
    → ((p : List ℕ) → IsCut n p ts → IsCut n p us)
    → (part ≡ []) ⊎ IsCut n part ts → (part ≡ []) ⊎ IsCut n part us
rest_as n part ts us cut (inl e) = inl e
rest_as n part ts us cut (inr e) = inr (cut part e)

pub past_as : (bytes : List ℕ) (n : ℕ) (ts us : List Told) → Same ts us → Past bytes n ts
    → Past bytes n us
past_as bytes n ts us same p = record {
  part = p.part;
  is = p.is ∙ ap (λ z. joined z ++ p.part) (sym (same.sent n));
  rest = rest_as n p.part ts us (same.cut n) p.rest;
  most = subst (λ z. length z ≤ 63) (sym (same.sent n)) p.most;
}

pub now_as : (stage : LinkStage) (n : ℕ) (bytes front other : List ℕ) (ts us : List Told)
    → Same ts us
    → other ≡ front → Now stage n bytes front ts → Now stage n bytes other us
now_as stage.Closed n bytes front other ts us same e h = past_as bytes n ts us same h
now_as (stage.Paused since millis) n bytes front other ts us same e h =
    past_as bytes n ts us same h
now_as (stage.Opening since) n bytes front other ts us same e h = (h.0, same.sent n ∙ h.1)
now_as (stage.Open frames quiet) n bytes front other ts us same e h = (
  h.0 ∙ ap (λ z. joined z ++ front) (sym (same.sent n))
      ∙ ap (λ z. joined (sent_on n us) ++ z) (sym e),
  ap (λ z. length z) (same.sent n) ∙ h.1,
)

-- nothing of the first frame was sent where no connection is open
pub none_begun : (s : LinkState) → IsSound s → has_room s.stage ≡ false → s.begun ≡ 0
none_begun s sound shut = none s.begun sound.sends
  where
    none : (begun : ℕ) → (0 < begun → has_room s.stage ≡ true) → begun ≡ 0
    none zero h = refl
    none (suc k) h = absurd (differ (sym shut ∙ h (omega arith)))
      where
        differ : false ≡ true → ⊥
        differ e = cc

pub no_front : (begun : ℕ) (fs : List (List ℕ)) → begun ≡ 0 → take begun (first_of fs) ≡ []
no_front begun fs e = ap (λ z. take z (first_of fs)) e

-- two histories that tell the same
pub record SameTold (h k : History) : Type 0 where
  pub pushed : pushed k ≡ pushed h
  pub connections : connections k ≡ connections h
  pub written : (n : ℕ) → written n k ≡ written n h
  pub full : said Full k ≡ said Full h
  pub memory : said NoMemory k ≡ said NoMemory h
  pub failures : failures k ≡ 0 → failures h ≡ 0

pub as_next : (h k : History) (s : LinkState) (ts : List Told) → SameTold h k → Holds h s ts
    → Holds k s ts
as_next h k s ts e a = record {
  all = a.all ∙ sym e.pushed;
  waits = a.waits;
  ordered = subst (λ z. AreInOrder z ts) (sym e.connections) a.ordered;
  sound = a.sound;
  causes = record {
    full = a.causes.full ∙ sym e.full;
    memory = a.causes.memory ∙ sym e.memory;
    failed = λ z. a.causes.failed (e.failures z);
  };
  each = λ n other.
      subst (λ z. Past z n ts) (sym (e.written n)) (a.each n (λ q. other (q ∙ sym e.connections)));
  fresh = λ n later.
      let f = a.fresh n (subst (λ z. z < n) e.connections later) in (e.written n ∙ f.0, f.1);
  now =
      subst (λ z. Now s.stage z (written z k) (front_of s) ts) (sym e.connections)
      (subst (λ z. Now s.stage (connections h) z (front_of s) ts) (sym (e.written (connections h)))
      a.now);
}
