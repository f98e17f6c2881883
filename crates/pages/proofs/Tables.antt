-- The same of a table of browsers.
use Rattle.std.proofs.Common.{◌≡◌, ◌≢◌, ℕ, List, [], ◌∷◌, ◌++◌, Option, Some, None, Bool, true}
use Rattle.std.proofs.Common.{false, IsTrue, IsFalse, cond, nat_eq, subst, refl, sym, ap, ◌∙◌}
use Rattle.std.{proofs.lemmas.Bool.ne_eqb, specs.Map.lookup}
use Rattle.indexmap.specs.IndexMap.{IndexMap, Updates, UpdatesBy, get}
use Rattle.http_server.specs.declared.{connection.Connection.Connection, state.Config.Config}
use Rattle.http_server.specs.Connection.{config_of, history}
use Rattle.http_server.specs.History.{History, IsServed, new_history}
use Rattle.polled.specs.Telling.{Tells}
use Rattle.pages.specs.declared.table.{Browser.Browser, BrowserTable.BrowserTable}
use Rattle.pages.{specs.Browsers.IsUntold, proofs.Keeping.new_is_served}
use Rattle.pages.specs.Handed.{EachIsAnswered, IsMovedAsTold}
use Rattle.pages.specs.{Happenings.gave, Happenings.took, Turns.Moved, Turns.Turn, Turns.history_at}
use Rattle.polled.specs.Happenings.{Happened, accepted, closed, ready, watched}
use Rattle.polled.specs.declared.answers.{AcceptedPeer.AcceptedPeer, Ready.Ready}
use Rattle.pages.specs.Kept.{AreKept, Holds, IsOpen, IsTold, Places, places_of}
use Rattle.pages.proofs.Keeping.{AreKept-fewer, AreKept-same, AreKept-turn, IsOpen-turn, IsQuiet}
use Rattle.polled.specs.declared.answers.AcceptedPeer.TheVariants as accepted_is
use Rattle.polled.specs.declared.answers.Ready.TheVariants as ready_is

pub quiet_ready : (r : Ready) → IsQuiet (ready r)
quiet_ready ready_is.Waits k = (refl, refl)
quiet_ready _ k = (refl, refl)

pub quiet_accepted : (number : ℕ) (a : AcceptedPeer) → IsQuiet (accepted number a)
quiet_accepted number (accepted_is.Came random) k = (refl, refl)
quiet_accepted number _ k = (refl, refl)

pub quiet_watched : (number : ℕ) (is : Bool) → IsQuiet (watched number is)
quiet_watched number true k = (refl, refl)
quiet_watched number false k = (refl, refl)

pub quiet_closed : (number : ℕ) → IsQuiet (closed number)
quiet_closed number k = (refl, refl)

some_of : {A : Type 0} (b : Bool) (o : Option A) (x : A) → cond b None o ≡ Some x → o ≡ Some x
some_of true o x is = absurd cc
some_of false o x is = is

-- ---- places

module _ {S : Type 0} (m n : IndexMap ℕ Browser S) where
  pub fewer_places : (k : ℕ) → UpdatesBy nat_eq (nat_eq k) m n None → (q : ℕ) (b : Browser)
      → get nat_eq n q ≡ Some b → get nat_eq m q ≡ Some b
  fewer_places k updates q b at = some_of (nat_eq k q) (get nat_eq m q) b (sym (updates.0 q) ∙ at)

  pub no_place : (k : ℕ) → UpdatesBy nat_eq (nat_eq k) m n None → (b : Browser)
      → get nat_eq n k ≡ Some b → ⊥
  no_place k updates b at = let none = sym updates.1 ∙ at in cc

  pub other_places : (k : ℕ) (b : Browser) → Updates nat_eq m n k (Some b) → (q : ℕ) → q ≢ k
      → get nat_eq n q ≡ get nat_eq m q
  other_places k b updates q apart = updates.2 q (ne_eqb k q (λ e. apart (sym e)))

  pub same_places : n.entries ≡ m.entries → (q : ℕ) (b : Browser) → get nat_eq n q ≡ Some b
      → get nat_eq m q ≡ Some b
  same_places same q b at = subst (λ es. lookup (nat_eq q) es ≡ Some b) same at

-- ---- a turn

module _ (config : Config) (a b : Option (List Happened)) (f g : Places) (next : ℕ) (ts : List Turn)
    (k : ℕ) (browser : Browser) (d : Connection)
    (at : f k ≡ Some browser) (fewer : (q : ℕ) (e : Browser) → g q ≡ Some e → f q ≡ Some e)
    (gone : (e : Browser) → g k ≡ Some e → ⊥)
    (same : config_of d ≡ config_of browser.connection) (x : AreKept config a f next ts) where
  pub AreKept-visit : (goes : Bool) → Moved k goes a b (history browser.connection) (history d)
      → AreKept config b g next (ts ++ (k, d) ∷ [])
  AreKept-visit goes moved =
      AreKept-turn k ts browser.connection d next config goes a b g gone (x.each k browser at) moved
      same (AreKept-fewer config a f g next ts fewer x)

  pub IsOpen-visit : Moved k true a b (history browser.connection) (history d)
      → IsOpen config b next (ts ++ (k, d) ∷ []) k d
  IsOpen-visit moved =
      IsOpen-turn k ts browser.connection d next config a b (x.each k browser at) moved same

  -- the browser goes on, or its connection is to be ended
  pub visited : (R : Type 0) (all : List Turn) → all ≡ ts ++ (k, d) ∷ [] → (goes : Bool)
      → Moved k goes a b (history browser.connection) (history d)
      → (IsTrue goes → IsOpen config b next all k d → AreKept config b g next all → R)
      → (IsFalse goes → AreKept config b g next all → R) → R
  visited R all is true moved kept closed =
      kept refl (subst (λ (z : List Turn). IsOpen config b next z k d) (sym is)
      (IsOpen-visit moved))
      (subst (λ (z : List Turn). AreKept config b g next z) (sym is) (AreKept-visit true moved))
  visited R all is false moved kept closed =
      closed refl
      (subst (λ (z : List Turn). AreKept config b g next z) (sym is) (AreKept-visit false moved))

-- ---- before the first step

pub no_entry : {S : Type 0} (m : IndexMap ℕ Browser S) → m.entries ≡ [] → (k : ℕ) (b : Browser)
    → get nat_eq m k ≡ Some b → ⊥
no_entry m none k b at =
    let wrong : None ≡ Some b = subst (λ es. lookup (nat_eq k) es ≡ Some b) none at in cc

module _ (config : Config) (f : Places) (next : ℕ) (ts : List Turn)
    (none : (k : ℕ) (b : Browser) → f k ≡ Some b → ⊥) (first : ts ≡ []) where
  first_at : (k : ℕ) → history_at k ts ≡ new_history
  first_at k = ap (history_at k) first

  IsTold-first : (a : Option (List Happened)) → IsUntold a → IsTold a ts next
  IsTold-first None untold = tt
  IsTold-first (Some hs) untold = record {
    taken = λ k. ap (took k) untold ∙ sym (ap (λ (h : History). h.sent) (first_at k));
    given = λ k. (
      [],
      ap (gave k) untold ∙ sym (ap (λ (h : History). h.received ++ [])
          (first_at k)),
    );
    fresh = λ k late. ap (gave k) untold;
  }

  pub AreKept-first : (a : Option (List Happened)) → IsUntold a → AreKept config a f next ts
  AreKept-first a untold = record {
    served = λ k. subst (λ h. ∥ IsServed config h ∥₁) (sym (first_at k)) ∣ new_is_served config ∣₁;
    fresh = λ k late. first_at k;
    told = IsTold-first a untold;
    each = λ k b at. absurd (none k b at);
  }

-- ---- what each browser was handed

moved_as_told : (a : Option (List Happened)) (ts : List Turn) (next k : ℕ) → IsTold a ts next
    → IsMovedAsTold k a (history_at k ts)
moved_as_told None ts next k x = tt
moved_as_told (Some hs) ts next k x = record { taken = x.taken k; given = x.given k }

pub each_is_answered : (config : Config) (a : Option (List Happened)) (f : Places) (next : ℕ)
    (ts : List Turn) → AreKept config a f next ts → EachIsAnswered config a ts
each_is_answered config a f next ts x =
    λ k. record { served = x.served k; moved = moved_as_told a ts next k x.told }

-- ---- where nothing was given and nothing taken

pub holds_on : {C : Type 0} (happened : C → Option (List Happened)) (t : BrowserTable C)
    (sockets : C) (more : List Happened)
    → Tells (happened t.sockets) (happened sockets) more → IsQuiet more → Holds happened t
    → AreKept t.terms.config (happened sockets) (places_of t) t.next t.turns.items
holds_on happened t sockets more told quiet held =
    AreKept-same t.terms.config (happened t.sockets) (happened sockets) more (places_of t) t.next
    t.turns.items told quiet held
