-- What holds of many browsers goes on holding, step by step.
use Rattle.std.proofs.Common.{◌≡◌, ◌≢◌, ◌<◌, ◌+◌, inl, inr, ℕ, List, [], ◌∷◌, ◌++◌, Option, Some}
use Rattle.std.proofs.Common.{None, Bool, true, if◌then◌else◌, ◌==◌, subst, refl, sym, ap, ◌∙◌}
use Rattle.std.proofs.Common.{append-nil, arith}
use Rattle.std.proofs.lemmas.Bool.{cases_eq, ne_eqb, eq-eqb}
use Rattle.http_server.specs.declared.{connection.Connection.Connection, state.Config.Config}
use Rattle.http_server.specs.Connection.{config_of, history}
use Rattle.http_server.specs.History.{History, IsServed, new_history}
use Rattle.http_server.proofs.Theorems.{always_served}
use Rattle.pages.specs.{declared.table.Browser.Browser, Happenings.gave, Happenings.took}
use Rattle.polled.specs.{Telling.Tells, Happenings.Happened}
use Rattle.pages.specs.Turns.{Moves, Moved, Turn, history_at, history_from}
use Rattle.pages.specs.Kept.{AreKept, IsHeard, IsOpen, IsTold, IsToldOf, Places}
use Rattle.pages.proofs.Moving.{gave-append, took-append}

-- ---- the history of a browser

history_from-append : (k : ℕ) (h : History) (ts : List Turn) (t : Turn)
    → history_from k h (ts ++ t ∷ []) ≡ (if t.0 == k then history t.1 else history_from k h ts)
history_from-append k h [] t = refl
history_from-append k h (u ∷ ts) t =
    history_from-append k (if u.0 == k then history u.1 else h) ts t

pub history_at-own : (k : ℕ) (ts : List Turn) (c : Connection)
    → history_at k (ts ++ (k, c) ∷ []) ≡ history c
history_at-own k ts c =
    history_from-append k new_history ts (k, c)
    ∙ ap (λ b. if b then history c else history_at k ts) (eq-eqb k k refl)

pub history_at-other : (j k : ℕ) (ts : List Turn) (c : Connection) → j ≢ k
    → history_at j (ts ++ (k, c) ∷ []) ≡ history_at j ts
history_at-other j k ts c apart =
    history_from-append j new_history ts (k, c)
    ∙ ap (λ b. if b then history c else history_at j ts) (ne_eqb k j (λ e. apart (sym e)))

-- ---- what is told

-- nothing was given and nothing taken
abbrev pub IsQuiet : List Happened → Type 0
IsQuiet hs = (k : ℕ) → (gave k hs ≡ []) × (took k hs ≡ [])

pub gave-more : (k : ℕ) (xs ys more : List Happened) → ys ≡ xs ++ more
    → gave k ys ≡ gave k xs ++ gave k more
gave-more k xs ys more told = ap (gave k) told ∙ gave-append k xs more

pub took-more : (k : ℕ) (xs ys more : List Happened) → ys ≡ xs ++ more
    → took k ys ≡ took k xs ++ took k more
took-more k xs ys more told = ap (took k) told ∙ took-append k xs more

pub gave-same : (k : ℕ) (xs ys more : List Happened) → ys ≡ xs ++ more → gave k more ≡ []
    → gave k ys ≡ gave k xs
gave-same k xs ys more told none =
    gave-more k xs ys more told ∙ ap (λ (t : List ℕ). gave k xs ++ t) none ∙ append-nil (gave k xs)

pub took-same : (k : ℕ) (xs ys more : List Happened) → ys ≡ xs ++ more → took k more ≡ []
    → took k ys ≡ took k xs
took-same k xs ys more told none =
    took-more k xs ys more told ∙ ap (λ (t : List ℕ). took k xs ++ t) none ∙ append-nil (took k xs)

pub IsHeard-same : (k : ℕ) (a b : Option (List Happened)) (more : List Happened) (h : History)
    → Tells a b more → gave k more ≡ [] → IsHeard k a h → IsHeard k b h
IsHeard-same k None None more h told none x = tt
IsHeard-same k None (Some ys) more h told none x = absurd told
IsHeard-same k (Some xs) None more h told none x = tt
IsHeard-same k (Some xs) (Some ys) more h told none x = gave-same k xs ys more told none ∙ x

pub IsTold-same : (a b : Option (List Happened)) (more : List Happened) (ts : List Turn) (next : ℕ)
    → Tells a b more → IsQuiet more → IsTold a ts next → IsTold b ts next
IsTold-same None None more ts next told none x = tt
IsTold-same None (Some ys) more ts next told none x = absurd told
IsTold-same (Some xs) None more ts next told none x = tt
IsTold-same (Some xs) (Some ys) more ts next told none x = record {
  taken = λ k. took-same k xs ys more told (none k).1 ∙ x.taken k;
  given = λ k. ((x.given k).0, gave-same k xs ys more told (none k).0 ∙ (x.given k).1);
  fresh = λ k late. gave-same k xs ys more told (none k).0 ∙ x.fresh k late;
}

-- ---- a turn

-- what a browser gave and what its connection heard grow alike
heard-more : (k : ℕ) (xs ys more : List Happened) (old new : History) (lost : List ℕ)
    → ys ≡ xs ++ more
    → gave k xs ≡ old.received → Moves k more old new lost → gave k ys ≡ new.received ++ lost
heard-more k xs ys more old new lost told heard moves =
    gave-more k xs ys more told ∙ ap (λ (t : List ℕ). t ++ gave k more) heard ∙ sym moves.heard

took-own : (k : ℕ) (xs ys more : List Happened) (old new : History) (lost : List ℕ)
    → ys ≡ xs ++ more → took k xs ≡ old.sent → Moves k more old new lost → took k ys ≡ new.sent
took-own k xs ys more old new lost told same moves =
    took-more k xs ys more told ∙ ap (λ (t : List ℕ). t ++ took k more) same ∙ sym moves.handed

module _ (k : ℕ) (ts : List Turn) (c d : Connection) (next : ℕ) where
  abbrev after_turn : List Turn
  after_turn = ts ++ (k, d) ∷ []

  IsToldOf-turn : (xs ys more : List Happened) (lost : List ℕ) → ys ≡ xs ++ more
      → Moves k more (history c) (history d) lost → history c ≡ history_at k ts → k < next
      → gave k xs ≡ (history c).received → IsToldOf xs ts next → IsToldOf ys after_turn next
  IsToldOf-turn xs ys more lost told moves at came heard x = record {
    taken = λ j. elim (cases_eq j k) [
      | inl same ↦ subst (λ n. took n ys ≡ (history_at n after_turn).sent) (sym same)
          (took-own k xs ys more (history c) (history d) lost told
          (x.taken k ∙ ap (λ (h : History). h.sent) (sym at)) moves
          ∙ ap (λ (h : History). h.sent) (sym (history_at-own k ts d)))
      | inr apart ↦ took-same j xs ys more told (moves.others j apart).1 ∙ x.taken j
          ∙ ap (λ (h : History). h.sent) (sym (history_at-other j k ts d apart))
    ];
    given = λ j. elim (cases_eq j k) [
      | inl same ↦ subst
          (λ n. (lost : List ℕ) × (gave n ys ≡ (history_at n after_turn).received ++ lost))
          (sym same) (
            lost,
            heard-more k xs ys more (history c) (history d) lost told heard moves
                ∙ ap (λ (h : History). h.received ++ lost) (sym (history_at-own k ts d)),
          )
      | inr apart ↦ (
        (x.given j).0,
        gave-same j xs ys more told (moves.others j apart).0 ∙ (x.given j).1
            ∙ ap (λ (h : History). h.received ++ (x.given j).0) (sym
            (history_at-other j k ts d apart)),
      )
    ];
    fresh = λ j late.
        gave-same j xs ys more told (moves.others j (λ same. omega arith)).0 ∙ x.fresh j late;
  }

  IsTold-turn : (a b : Option (List Happened)) (goes : Bool)
      → Moved k goes a b (history c) (history d)
      → history c ≡ history_at k ts → k < next → IsHeard k a (history c) → IsTold a ts next
      → IsTold b after_turn next
  IsTold-turn None None goes moved at came heard x = tt
  IsTold-turn None (Some ys) goes moved at came heard x = absurd moved.2
  IsTold-turn (Some xs) None goes moved at came heard x = tt
  IsTold-turn (Some xs) (Some ys) goes moved at came heard x =
      IsToldOf-turn xs ys moved.0 moved.1 moved.2 moved.3 at came heard x

  IsHeard-turn : (a b : Option (List Happened)) → Moved k true a b (history c) (history d)
      → IsHeard k a (history c) → IsHeard k b (history d)
  IsHeard-turn None None moved heard = tt
  IsHeard-turn None (Some ys) moved heard = absurd moved.2
  IsHeard-turn (Some xs) None moved heard = tt
  IsHeard-turn (Some xs) (Some ys) moved heard =
      heard-more k xs ys moved.0 (history c) (history d) moved.1 moved.2 heard moved.3
      ∙ ap (λ (t : List ℕ). (history d).received ++ t) (moved.4 refl)
      ∙ append-nil (history d).received

  -- the browser that had the turn, if it goes on
  pub IsOpen-turn : (config : Config) (a b : Option (List Happened)) → IsOpen config a next ts k c
      → Moved k true a b (history c) (history d) → config_of d ≡ config_of c
      → IsOpen config b next after_turn k d
  IsOpen-turn config a b x moved same = record {
    came = x.came;
    at = sym (history_at-own k ts d);
    limits = same ∙ x.limits;
    heard = IsHeard-turn a b moved x.heard;
  }

  IsOpen-other : (config : Config) (a b : Option (List Happened)) (more : List Happened) (j : ℕ)
      (e : Connection) → j ≢ k → Tells a b more → gave j more ≡ [] → IsOpen config a next ts j e
      → IsOpen config b next after_turn j e
  IsOpen-other config a b more j e apart told none x = record {
    came = x.came;
    at = x.at ∙ sym (history_at-other j k ts d apart);
    limits = x.limits;
    heard = IsHeard-same j a b more (history e) told none x.heard;
  }

  -- all others, and what is known of all
  pub AreKept-turn : (config : Config) (goes : Bool) (a b : Option (List Happened))
      (places : Places) → ((e : Browser) → places k ≡ Some e → ⊥) → IsOpen config a next ts k c
      → Moved k goes a b (history c) (history d) → config_of d ≡ config_of c
      → AreKept config a places next ts → AreKept config b places next after_turn
  AreKept-turn config goes a b places gone own moved same x = record {
    served = λ j. elim (cases_eq j k) [
      | inl is ↦ subst (λ n. ∥ IsServed config (history_at n after_turn) ∥₁) (sym is)
          (subst (λ h. ∥ IsServed config h ∥₁) (sym (history_at-own k ts d))
          (subst (λ f. ∥ IsServed f (history d) ∥₁) (same ∙ own.limits) (always_served d)))
      | inr apart ↦ subst (λ h. ∥ IsServed config h ∥₁) (sym (history_at-other j k ts d apart))
          (x.served j)
    ];
    fresh = λ j late.
        let came : k < next = own.came in
        history_at-other j k ts d (λ is. omega arith) ∙ x.fresh j late;
    told = IsTold-turn a b goes moved own.at own.came own.heard x.told;
    each = λ j e at. elim (cases_eq j k) [
      | inl is ↦ absurd (gone e (subst (λ n. places n ≡ Some e) is at))
      | inr apart ↦ IsOpen-other config a b moved.0 j e.connection apart moved.2
          (moved.3.others j apart).0 (x.each j e at)
    ];
  }

-- ---- steps between turns

module _ (config : Config) where
  pub AreKept-fewer : (a : Option (List Happened)) (f g : Places) (next : ℕ) (ts : List Turn)
      → ((k : ℕ) (b : Browser) → g k ≡ Some b → f k ≡ Some b) → AreKept config a f next ts
      → AreKept config a g next ts
  AreKept-fewer a f g next ts fewer x = record {
    served = x.served;
    fresh = x.fresh;
    told = x.told;
    each = λ k b at. x.each k b (fewer k b at);
  }

  pub IsOpen-same : (a b : Option (List Happened)) (more : List Happened) (next : ℕ)
      (ts : List Turn) (k : ℕ) (c : Connection) → Tells a b more → IsQuiet more
      → IsOpen config a next ts k c → IsOpen config b next ts k c
  IsOpen-same a b more next ts k c told quiet x = record {
    came = x.came;
    at = x.at;
    limits = x.limits;
    heard = IsHeard-same k a b more (history c) told (quiet k).0 x.heard;
  }

  pub AreKept-same : (a b : Option (List Happened)) (more : List Happened) (f : Places) (next : ℕ)
      (ts : List Turn) → Tells a b more → IsQuiet more → AreKept config a f next ts
      → AreKept config b f next ts
  AreKept-same a b more f next ts told quiet x = record {
    served = x.served;
    fresh = x.fresh;
    told = IsTold-same a b more ts next told quiet x.told;
    each = λ k e at. IsOpen-same a b more next ts k e.connection told quiet (x.each k e at);
  }

  pub AreKept-more : (a : Option (List Happened)) (f g : Places) (next : ℕ) (ts : List Turn) (k : ℕ)
      (b : Browser) → g k ≡ Some b → ((q : ℕ) → q ≢ k → g q ≡ f q)
      → IsOpen config a next ts k b.connection → AreKept config a f next ts
      → AreKept config a g next ts
  AreKept-more a f g next ts k b own others own_is x = record {
    served = x.served;
    fresh = x.fresh;
    told = x.told;
    each = λ q e at. elim (cases_eq q k) [
      | inl is ↦
          let same : b ≡ e = cc (own, at, ap g is) in
          subst (λ n. IsOpen config a next ts n e.connection) (sym is)
          (subst (λ (d : Browser). IsOpen config a next ts k d.connection) same own_is)
      | inr apart ↦ x.each q e (sym (others q apart) ∙ at)
    ];
  }

  IsTold-came : (a : Option (List Happened)) (ts : List Turn) (next : ℕ) → IsTold a ts next
      → IsTold a ts (next + 1)
  IsTold-came None ts next x = tt
  IsTold-came (Some hs) ts next x =
      record { taken = x.taken; given = x.given; fresh = λ k late. x.fresh k (omega arith) }

  -- one more browser came
  pub AreKept-came : (a : Option (List Happened)) (f : Places) (next : ℕ) (ts : List Turn)
      → AreKept config a f next ts → AreKept config a f (next + 1) ts
  AreKept-came a f next ts x = record {
    served = x.served;
    fresh = λ k late. x.fresh k (omega arith);
    told = IsTold-came a ts next x.told;
    each = λ k b at.
        let o = x.each k b at in
        record { came = omega (arith, o.came); at = o.at; limits = o.limits; heard = o.heard };
  }

  IsHeard-new : (a : Option (List Happened)) (ts : List Turn) (next : ℕ) (c : Connection)
      → history c ≡ new_history → IsTold a ts next → IsHeard next a (history c)
  IsHeard-new None ts next c new x = tt
  IsHeard-new (Some hs) ts next c new x =
      x.fresh next (omega arith) ∙ sym (ap (λ (h : History). h.received) new)

  pub IsOpen-new : (a : Option (List Happened)) (f : Places) (next : ℕ) (ts : List Turn)
      (c : Connection) → history c ≡ new_history → config_of c ≡ config
      → AreKept config a f next ts → IsOpen config a (next + 1) ts next c
  IsOpen-new a f next ts c new same x = record {
    came = omega arith;
    at = new ∙ sym (x.fresh next (omega arith));
    limits = same;
    heard = IsHeard-new a ts next c new x.told;
  }

  -- ---- before the first step

  pub new_is_served : IsServed config new_history
  new_is_served = record {
    answered = [];
    text = [];
    rest = [];
    serves = (refl, refl);
    interim = [];
    is_interim = inl refl;
    stands = (refl, refl);
  }
