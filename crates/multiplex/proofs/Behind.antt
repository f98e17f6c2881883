-- What holds of each client behind its door, as more is told.
use Rattle.std.proofs.Common.{◌≡◌, refl, sym, ap, subst, ◌∙◌, ℕ, List, [], ◌∷◌, ◌++◌, append-nil}
use Rattle.std.proofs.Common.{Option, None, Some, Bool, true, false, cond, eqb}
use Rattle.std.proofs.lemmas.Bool.{eqb-false, eqb-true}
use Rattle.connections.specs.Connections.{Served, begun_of, served_of}
use Rattle.connections.proofs.Interleaving.{HoldsSome, at_first, begun_both}
use Rattle.guarded.specs.LockedConnections.{LockedConnectionOf, fresh_locked_connection}
use Rattle.guarded.proofs.{Guarded.stream_of, Keeping.Keeps, Keeping.keeps_as, Keeping.keeps_first}
use Rattle.sealed.specs.declared.callers.Access.{Access}
use Rattle.serving.specs.{Connection.Begun, Turns.Talk, Turns.new_talk}
use Rattle.store.specs.declared.home.Home.{Home}
use Rattle.wire.specs.declared.values.Version.{Version}
use Rattle.multiplex.specs.EachClient.{IsServedClient, came_with, gave, took}
use Rattle.polled.specs.Happenings.{Came, Happened}
use Rattle.multiplex.proofs.Giving.{Gives, came_with-both, first_there, gave-both, served-both}
use Rattle.multiplex.proofs.Giving.{took-both}
use Rattle.multiplex.proofs.Seating.{IsFresh, came_now, other_came, put}

-- what the stream of a client keeps, where it came, and nothing where it did not
abbrev pub KeptBy : Option (List ℕ) → Access → LockedConnectionOf → List ℕ → List ℕ → List ℕ
    → List ℕ → List Begun → Type 0
KeptBy None doors g came handed answers sent begun =
    (came ≡ []) × (handed ≡ []) × (answers ≡ []) × (sent ≡ []) × (begun ≡ [])
KeptBy (Some server) doors g came handed answers sent begun =
    Keeps doors server g came handed answers sent begun

pub kept_as : (doors : Access) (g : LockedConnectionOf) (o o1 : Option (List ℕ))
    (came came1 handed handed1 answers answers1 sent sent1 : List ℕ) (begun begun1 : List Begun)
    → o ≡ o1 → came ≡ came1 → handed ≡ handed1 → answers ≡ answers1 → sent ≡ sent1
    → begun ≡ begun1 → KeptBy o doors g came handed answers sent begun
    → KeptBy o1 doors g came1 handed1 answers1 sent1 begun1
kept_as doors g o o1 came came1 handed handed1 answers answers1 sent sent1 begun begun1 eo ec eh ea
    es eb k = subst (λ z. KeptBy z doors g came1 handed1 answers1 sent1 begun1) eo
    (subst (λ z. KeptBy o doors g z handed1 answers1 sent1 begun1) ec (subst
    (λ z. KeptBy o doors g came z answers1 sent1 begun1) eh (subst
    (λ z. KeptBy o doors g came handed z sent1 begun1) ea (subst
    (λ z. KeptBy o doors g came handed answers z begun1) es
    (subst (λ z. KeptBy o doors g came handed answers sent z) eb k)))))

-- a client of which all this was told, and these frames were begun, of all clients
pub record Behind (home : Home) (doors : Access) (k : ℕ) (told : List Happened)
    (frames : List Served) (g : LockedConnectionOf) : Type 0 where
  pub handed : List ℕ
  pub answers : List ℕ
  pub holds : HoldsSome home handed answers (served_of k frames) g.talk
  pub kept : KeptBy (came_with k told) doors g (gave k told) handed answers (took k told)
      (begun_of (served_of k frames))

abbrev pub EachBehind : Home → Access → List Happened → List Served → (ℕ → LockedConnectionOf)
    → Type 0
EachBehind home doors told frames guards = (k : ℕ) → Behind home doors k told frames (guards k)

-- ---- before all

pub nothing_behind : (home : Home) (wire : Version) (doors : Access) (g : LockedConnectionOf)
    (k : ℕ) → g.talk ≡ new_talk home wire → Behind home doors k [] [] g
nothing_behind home wire doors g k is = record {
  handed = [];
  answers = [];
  holds = at_first home wire g.talk is;
  kept = (refl, refl, refl, refl, refl);
}

-- ---- more is told, and more frames were begun

there_none : (o p : Option (List ℕ)) → p ≡ None → first_there o p ≡ o
there_none None p none = none
there_none (Some x) p none = refl

pub same_seed : (k : ℕ) (told js : List Happened) → came_with k js ≡ None
    → came_with k (told ++ js) ≡ came_with k told
same_seed k told js none =
    came_with-both k told js ∙ there_none (came_with k told) (came_with k js) none

-- of which these came, these were taken, and these frames were begun
pub more_behind : (home : Home) (doors : Access) (k : ℕ) (told js : List Happened)
    (frames fs : List Served) (g new : LockedConnectionOf) (came sent more out : List ℕ)
    (begun : List Begun) (h : Behind home doors k told frames g)
    → Gives k js came sent → begun_of (served_of k fs) ≡ begun
    → HoldsSome home (h.handed ++ more) (h.answers ++ out) (served_of k frames ++ served_of k fs)
    new.talk → KeptBy (came_with k told) doors new (gave k told ++ came) (h.handed ++ more)
    (h.answers ++ out) (took k told ++ sent) (begun_of (served_of k frames) ++ begun)
    → Behind home doors k (told ++ js) (frames ++ fs) new
more_behind home doors k told js frames fs g new came sent more out begun h gives begins holds
    kept =
    let handed = h.handed ++ more in
    let answers = h.answers ++ out in
    let parts = sym (served-both k frames fs) in
    record {
      handed = handed;
      answers = answers;
      holds = subst (λ z. HoldsSome home handed answers z new.talk) parts holds;
      kept =
          kept_as doors new (came_with k told) (came_with k (told ++ js)) (gave k told ++ came)
          (gave k (told ++ js)) handed handed answers answers (took k told ++ sent)
          (took k (told ++ js)) (begun_of (served_of k frames) ++ begun)
          (begun_of (served_of k (frames ++ fs))) (sym (same_seed k told js gives.earlier))
          (ap (λ z. gave k told ++ z) (sym gives.gave) ∙ sym (gave-both k told js)) refl refl
          (ap (λ z. took k told ++ z) (sym gives.took) ∙ sym (took-both k told js))
          (ap (λ z. begun_of (served_of k frames) ++ z) (sym begins)
          ∙ sym (begun_both (served_of k frames) (served_of k fs)) ∙ ap begun_of parts) kept;
    }

-- of which nothing is this client's
pub still_behind : (home : Home) (doors : Access) (k : ℕ) (told js : List Happened)
    (frames fs : List Served) (g : LockedConnectionOf) → Gives k js [] [] → served_of k fs ≡ []
    → Behind home doors k told frames g → Behind home doors k (told ++ js) (frames ++ fs) g
still_behind home doors k told js frames fs g gives none h =
    more_behind home doors k told js frames fs g g [] [] [] [] [] h gives (ap begun_of none)
    (subst (λ z. HoldsSome home z (h.answers ++ []) (served_of k frames ++ served_of k fs) g.talk)
    (sym (append-nil h.handed)) (subst
    (λ z. HoldsSome home h.handed z (served_of k frames ++ served_of k fs) g.talk)
    (sym (append-nil h.answers)) (subst (λ z. HoldsSome home h.handed h.answers z g.talk)
    (sym (ap (λ z. served_of k frames ++ z) none ∙ append-nil (served_of k frames))) h.holds)))
    (kept_as doors g (came_with k told) (came_with k told) (gave k told) (gave k told ++ [])
    h.handed (h.handed ++ []) h.answers (h.answers ++ []) (took k told) (took k told ++ [])
    (begun_of (served_of k frames)) (begun_of (served_of k frames) ++ []) refl
    (sym (append-nil (gave k told))) (sym (append-nil h.handed)) (sym (append-nil h.answers))
    (sym (append-nil (took k told))) (sym (append-nil (begun_of (served_of k frames)))) h.kept)

-- ---- a client came

-- nothing came of one that did not come
kept_first : (home : Home) (wire : Version) (doors : Access) (random : List ℕ)
    (o : Option (List ℕ)) (g : LockedConnectionOf) (came handed answers sent : List ℕ)
    (begun : List Begun) → o ≡ None → KeptBy o doors g came handed answers sent begun
    → Keeps doors random (fresh_locked_connection doors random home wire) came handed answers sent
    begun
kept_first home wire doors random o g came handed answers sent begun none kept =
    let k = subst (λ z. KeptBy z doors g came handed answers sent begun) none kept in
    let new = fresh_locked_connection doors random home wire in
    keeps_as doors random new [] [] [] [] came handed answers sent [] begun (sym k.0) (sym k.1)
    (sym k.2) (sym k.3) (sym k.4) (keeps_first home wire doors random new refl)

first_behind : (home : Home) (wire : Version) (doors : Access) (random : List ℕ) (k : ℕ)
    (told js : List Happened) (frames : List Served) (guards : ℕ → LockedConnectionOf)
    → IsFresh home wire told guards k → Gives k js [] []
    → Behind home doors k told frames (guards k)
    → Behind home doors k (told ++ Came k random ∷ js) (frames ++ [])
    (fresh_locked_connection doors random home wire)
first_behind home wire doors random k told js frames guards fresh gives h =
    let new = fresh_locked_connection doors random home wire in
    let now = told ++ Came k random ∷ js in
    let same : served_of k frames ≡ served_of k (frames ++ []) =
    ap (λ z. served_of k z) (sym (append-nil frames)) in
    let came : gave k told ≡ gave k now = sym (gave-both k told (Came k random ∷ js)
    ∙ ap (λ z. gave k told ++ z) gives.gave ∙ append-nil (gave k told)) in
    let sent : took k told ≡ took k now = sym (took-both k told (Came k random ∷ js)
    ∙ ap (λ z. took k told ++ z) gives.took ∙ append-nil (took k told)) in
    record {
      handed = h.handed;
      answers = h.answers;
      holds =
          subst (λ z. HoldsSome home h.handed h.answers z (new_talk home wire)) same
          (subst (λ (t : Talk). HoldsSome home h.handed h.answers (served_of k frames) t) fresh.talk
          h.holds);
      kept =
          kept_as doors new (Some random) (came_with k now) (gave k told) (gave k now) h.handed
          h.handed h.answers h.answers (took k told) (took k now) (begun_of (served_of k frames))
          (begun_of (served_of k (frames ++ [])))
          (sym (came_now k random told js fresh.absent)) came refl refl sent (ap begun_of same)
          (kept_first home wire doors random (came_with k told) (guards k) (gave k told) h.handed
          h.answers (took k told) (begun_of (served_of k frames)) fresh.absent h.kept);
    }

pub came_behind : (home : Home) (wire : Version) (doors : Access) (random : List ℕ) (next : ℕ)
    (told js : List Happened) (frames : List Served) (guards : ℕ → LockedConnectionOf)
    → IsFresh home wire told guards next → ((k : ℕ) → Gives k js [] [])
    → EachBehind home doors told frames guards
    → EachBehind home doors (told ++ Came next random ∷ js) (frames ++ [])
    (put next (fresh_locked_connection doors random home wire) guards)
came_behind home wire doors random next told js frames guards fresh gives each k =
    pick (eqb next k) refl
  where
    pick : (own : Bool) → eqb next k ≡ own
        → Behind home doors k (told ++ Came next random ∷ js) (frames ++ [])
        (cond own (fresh_locked_connection doors random home wire) (guards k))
    pick true is =
        let same = eqb-true next k is in
        subst (λ n. Behind home doors n (told ++ Came next random ∷ js) (frames ++ [])
        (fresh_locked_connection doors random home wire)) same (first_behind home wire doors random
        next told js frames guards fresh (gives next) (each next))
    pick false is =
        still_behind home doors k told (Came next random ∷ js) frames [] (guards k) (record {
          gave = (gives k).gave;
          took = (gives k).took;
          earlier = other_came k next random js (eqb-false next k is) (gives k).earlier;
        }) refl (each k)

-- ---- a client as the law has it

no_begun : (all : List Served) → begun_of all ≡ [] → all ≡ []
no_begun [] none = refl
no_begun (f ∷ fs) none = absurd cc

pub client_of : (home : Home) (doors : Access) (o : Option (List ℕ)) (g : LockedConnectionOf)
    (came handed answers sent : List ℕ) (all : List Served)
    → HoldsSome home handed answers all g.talk
    → KeptBy o doors g came handed answers sent (begun_of all)
    → IsServedClient home doors o came sent all
client_of home doors None g came handed answers sent all holds kept =
    (kept.0, kept.3, no_begun all kept.4)
client_of home doors (Some server) g came handed answers sent all holds kept = record {
  guard = g;
  handed = handed;
  answers = answers;
  rest = holds.0;
  stream = stream_of doors server g came handed answers sent (begun_of all) kept;
  served = holds.1.served;
}
