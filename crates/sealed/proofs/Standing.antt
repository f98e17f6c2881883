-- A desk's side of a connection, as more of the stream comes.
use Rattle.std.proofs.Common.{◌≡◌, ℕ, List, [], ◌++◌, length, drop, true, false, Bool, Option, Some}
use Rattle.std.proofs.Common.{None, refl, sym, ap, subst, ◌∙◌}
use Rattle.std.specs.Prelude.{option_map}
use Rattle.seal.specs.{Records.preface_of, Sealing.Sealing}
use Rattle.sealed.specs.declared.callers.Caller.{Caller, TheVariants.Visitor}
use Rattle.sealed.specs.declared.callers.Access.{Access, TheVariants.Locked}
use Rattle.sealed.specs.{declared.callers.DeskKeys.DeskKeys, Fronts.IsUnsealed, Tunnels.TunnelOf}
use Rattle.sealed.specs.declared.callers.StreamRefusal.{StreamRefusal, TheVariants.Unsealed}
use Rattle.sealed.specs.ServerSeals.{ServerSealOf, IsOfLocks, Stands, StandsAt, StandsPassing}
use Rattle.sealed.specs.ServerSeals.{StandsReading, caller_by}
use Rattle.sealed.specs.Trials.{IsSameTrial, TrialOf, Tries, goes_by, sends_by}
use Rattle.sealed.specs.model.Steps.{IsHeld, OpensAs, Passes, PassesAs, shows}
use Rattle.sealed.proofs.Fronting.{held_and_rest, prefaced_first, prefaced_more, unsealed_more}
use Rattle.sealed.specs.declared.callers.Caller.TheVariants as caller

-- a desk's side with this
abbrev pub side_of : Access → List ℕ → List ℕ → Option Caller → Option TrialOf
    → Option StreamRefusal → ServerSealOf
side_of doors random held passing trial refusal = record {
  doors = doors;
  random = random;
  held = held;
  passing = passing;
  trial = trial;
  refusal = refusal;
}

-- ---- what a side of this form stands for

pub is_reading : (c : ServerSealOf) (came handed : List ℕ) → c.refusal ≡ None → Stands c came handed
    → StandsReading c c.trial came handed
is_reading c came handed unbroken h =
    subst (λ (r : Option StreamRefusal). StandsAt r c came handed) unbroken h

pub reading_is : (c : ServerSealOf) (came handed : List ℕ) → c.refusal ≡ None
    → StandsReading c c.trial came handed → Stands c came handed
reading_is c came handed unbroken h =
    subst (λ (r : Option StreamRefusal). StandsAt r c came handed) (sym unbroken) h

pub is_passing : (c : ServerSealOf) (came handed : List ℕ) → c.refusal ≡ None → c.trial ≡ None
    → Stands c came handed → StandsPassing c c.passing came handed
is_passing c came handed unbroken none h =
    subst (λ (t : Option TrialOf). StandsReading c t came handed) none
    (is_reading c came handed unbroken h)

pub passing_is : (c : ServerSealOf) (came handed : List ℕ) → c.refusal ≡ None → c.trial ≡ None
    → StandsPassing c c.passing came handed → Stands c came handed
passing_is c came handed unbroken none h =
    reading_is c came handed unbroken
    (subst (λ (t : Option TrialOf). StandsReading c t came handed) (sym none) h)

-- ---- one more piece

-- a stream that is not sealed is let pass, or refused
passed_as : (sheets : Bool) (locks : DeskKeys) (mid new : ServerSealOf)
    (came handed rest more : List ℕ)
    → locks.sheets ≡ sheets → PassesAs sheets rest mid new more → mid.doors ≡ Locked locks
    → mid.refusal ≡ None → mid.trial ≡ None → mid.passing ≡ None → IsUnsealed came
    → came ≡ mid.held ++ rest → handed ≡ [] → Stands new came (handed ++ more)
passed_as true locks mid new came handed rest more is p doors unbroken none nobody unsealed whole
    empty =
    let now : ServerSealOf = record mid { passing = Some Visitor } in
    let all : handed ++ more ≡ came =
    ap (λ (s : List ℕ). s ++ more) empty ∙ p.0 ∙ sym whole in
    let stands = passing_is now came (handed ++ more) unbroken none
    (locks, doors, is, unsealed, all) in
    subst (λ (c : ServerSealOf). Stands c came (handed ++ more)) (sym p.1) stands
passed_as false locks mid new came handed rest more is p doors unbroken none nobody unsealed whole
    empty =
    let all : handed ++ more ≡ [] = ap (λ (s : List ℕ). s ++ more) empty ∙ p.0 in
    let caller : caller_by mid.trial mid.passing ≡ None =
    ap (λ (t : Option TrialOf). caller_by t mid.passing) none ∙ nobody in
    let now : ServerSealOf = record mid { refusal = Some Unsealed } in
    let stands : Stands now came (handed ++ more) = record {
      locks = locks;
      doors = doors;
      shut = is;
      unsealed = unsealed;
      nothing = all;
      nobody = caller;
    } in
    subst (λ (c : ServerSealOf). Stands c came (handed ++ more)) (sym p.1) stands

pub stands_passed : (old mid new : ServerSealOf) (came handed piece more : List ℕ) (added : ℕ)
    → old.refusal ≡ None → old.trial ≡ None → old.passing ≡ None
    → mid.refusal ≡ None → mid.trial ≡ None → mid.passing ≡ None → mid.doors ≡ old.doors
    → IsHeld piece old.held mid.held added → IsUnsealed mid.held
    → Passes (drop added piece) mid new more → Stands old came handed
    → Stands new (came ++ piece) (handed ++ more)
stands_passed old mid new came handed piece more added o1 o2 o3 m1 m2 m3 same held unsealed pass
    h =
    let q = subst (λ (p : Option Caller). StandsPassing old p came handed) o3
    (is_passing old came handed o1 o2 h) in
    let whole = held_and_rest came piece old.held mid.held added held q.3 in
    let is = unsealed_more mid.held (drop added piece) unsealed in
    let here = subst (λ (s : List ℕ). IsUnsealed s) (sym whole) is in
    let locked : mid.doors ≡ Locked q.0 = same ∙ q.1 in
    let p = subst (λ (d : Access). PassesAs (shows d) (drop added piece) mid new more) locked pass
    in
    passed_as q.0.sheets q.0 mid new (came ++ piece) handed (drop added piece) more refl p locked m1
    m2 m3 here whole q.4

-- ---- the keys are tried

goes_same : (o n : Option TunnelOf) → option_map sends_by n ≡ option_map sends_by o
    → option_map goes_by n ≡ option_map goes_by o
goes_same None None same = refl
goes_same None (Some e) same = absurd cc
goes_same (Some f) None same = absurd cc
goes_same (Some f) (Some e) same =
    let is : e.sealer ≡ f.sealer = cc in ap (λ (s : Sealing). Some s.channel) is

pub of_locks : (locks : DeskKeys) (client server : List ℕ) (old new : TrialOf)
    → IsOfLocks locks client server old → IsSameTrial old new → IsOfLocks locks client server new
of_locks locks client server old new of same = record {
  hall = same.hall ∙ of.hall;
  entry = same.entry ∙ of.entry;
  hall_sends = ap (λ (s : Sealing). s.channel) same.hall_sends ∙ of.hall_sends;
  entry_sends = goes_same old.entry new.entry same.entry_sends ∙ of.entry_sends;
}

-- one more piece of a sealed stream
pub stands_tried : (old new : ServerSealOf) (t u : TrialOf) (came handed piece more : List ℕ)
    → old.refusal ≡ None → new.refusal ≡ None → old.trial ≡ Some t → new.trial ≡ Some u
    → new.doors ≡ old.doors → new.random ≡ old.random → IsSameTrial t u
    → ((stream handed : List ℕ) → Tries stream handed t
    → Tries (stream ++ piece) (handed ++ more) u)
    → Stands old came handed → Stands new (came ++ piece) (handed ++ more)
stands_tried old new t u came handed piece more o1 n1 o2 n2 doors random same on h =
    let q = subst (λ (o : Option TrialOf). StandsReading old o came handed) o2
    (is_reading old came handed o1 h) in
    let keys = of_locks q.locks q.client old.random t u q.keys same in
    reading_is new (came ++ piece) (handed ++ more) n1
    (subst (λ (o : Option TrialOf). StandsReading new o (came ++ piece) (handed ++ more)) (sym n2)
    (record {
      locks = q.locks;
      client = q.client;
      stream = q.stream ++ piece;
      doors = doors ∙ q.doors;
      prefaced = prefaced_more came q.client q.stream piece q.prefaced;
      keys = subst (λ (r : List ℕ). IsOfLocks q.locks q.client r u) (sym random) keys;
      tries = on q.stream handed q.tries;
    }))

-- the first piece of one
pub stands_opened : (old mid new : ServerSealOf) (came handed piece client more : List ℕ)
    (added : ℕ) → old.refusal ≡ None → old.trial ≡ None → old.passing ≡ None
    → mid.refusal ≡ None → mid.doors ≡ old.doors
    → IsHeld piece old.held mid.held added → length client ≡ 16 → mid.held ≡ preface_of client
    → OpensAs mid.doors client (drop added piece) mid new more → Stands old came handed
    → Stands new (came ++ piece) (handed ++ more)
stands_opened old mid new came handed piece client more added o1 o2 o3 m1 same held sixteen is
    opens h =
    let q = subst (λ (p : Option Caller). StandsPassing old p came handed) o3
    (is_passing old came handed o1 o2 h) in
    let locked : mid.doors ≡ Locked q.0 = same ∙ q.1 in
    let o = subst (λ (d : Access). OpensAs d client (drop added piece) mid new more) locked opens in
    let prefaced = prefaced_first came piece old.held mid.held client added held q.3 sixteen is in
    let all : handed ++ more ≡ more = ap (λ (s : List ℕ). s ++ more) q.4 in
    let refusal : new.refusal ≡ None = ap (λ (c : ServerSealOf). c.refusal) o.1 ∙ m1 in
    let trial : new.trial ≡ Some o.0 = ap (λ (c : ServerSealOf). c.trial) o.1 in
    let random : new.random ≡ mid.random = ap (λ (c : ServerSealOf). c.random) o.1 in
    reading_is new (came ++ piece) (handed ++ more) refusal
    (subst (λ (t : Option TrialOf). StandsReading new t (came ++ piece) (handed ++ more))
    (sym trial)
    (record {
      locks = q.0;
      client = client;
      stream = drop added piece;
      doors = ap (λ (c : ServerSealOf). c.doors) o.1 ∙ locked;
      prefaced = prefaced;
      keys = subst (λ (r : List ℕ). IsOfLocks q.0 client r o.0) (sym random) o.2;
      tries = subst (λ (s : List ℕ). Tries (drop added piece) s o.0) (sym all) o.3;
    }))

-- ---- a stream that is let pass
