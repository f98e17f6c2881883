-- What a desk's side stands for is what the desk admits.
use Rattle.std.proofs.Common.{◌≡◌, ℕ, List, [], inl, inr, Option, Some, None, refl, sym, ap, ◌∙◌}
use Rattle.std.{proofs.Common.subst, specs.Prelude.IfSome, specs.Prelude.option_map}
use Rattle.seal.{specs.declared.channel.Channel.Channel, proofs.Reading.reads_all}
use Rattle.sealed.specs.declared.callers.Caller.{Caller, TheVariants.Anyone, TheVariants.Visitor}
use Rattle.sealed.specs.declared.callers.Holder.{Holder, TheVariants.Hall, TheVariants.Entry}
use Rattle.sealed.specs.{declared.callers.StreamRefusal.StreamRefusal, Tunnels.TunnelOf}
use Rattle.sealed.specs.declared.callers.StreamRefusal.TheVariants.{Unsealed, NoMemory}
use Rattle.sealed.specs.Admitting.{Admits, IsSealed, comes_under}
use Rattle.sealed.specs.ServerSeals.{ServerSealOf, StandsAt, StandsPassing, StandsReading}
use Rattle.sealed.specs.ServerSeals.{StandsTrying, caller_by, caller_of, held_by}
use Rattle.sealed.specs.Trials.{Hands, HandsBy, ReadsAll, TrialOf, TriesAs, comes_by, entry_by}
use Rattle.sealed.specs.declared.callers.Caller.TheVariants as caller

-- what a connection has read and handed on
pub hands_of : (c : Channel) (t : TunnelOf) (s x : List ℕ) → comes_by t ≡ c → ReadsAll t s x
    → Hands c s x
hands_of c t s x is reads =
    let all = reads_all t.opener.channel s x t.opener t.opener.fault reads refl in
    subst (λ (d : Channel). Hands d s x) is (t.opener.fault, all)

hands_entry : (o : Option TunnelOf) (s : List ℕ) → IfSome o (λ e. ReadsAll e s [])
    → IfSome (option_map comes_by o) (λ c. Hands c s [])
hands_entry None s h = h
hands_entry (Some e) s h = hands_of (comes_by e) e s [] refl h

-- what a trial of these keys has read and handed on
pub hands_by : (holder : Option Holder) (hall : Channel) (entry : Option Channel) (s x : List ℕ)
    (t : TrialOf) → comes_by t.hall ≡ hall → entry_by t ≡ entry → TriesAs holder s x t
    → HandsBy holder hall entry s x
hands_by None hall entry s x t is are q = (
  q.0,
  hands_of hall t.hall s [] is q.1,
  subst (λ (o : Option Channel). IfSome o (λ c. Hands c s [])) are (hands_entry t.entry s q.2),
)
hands_by (Some Hall) hall entry s x t is are q = (q.0, hands_of hall t.hall s x is q.1)
hands_by (Some Entry) hall entry s x t is are q = (
  comes_by q.0,
  sym are ∙ ap (λ (o : Option TunnelOf). option_map comes_by o) q.1,
  q.2,
  hands_of (comes_by q.0) q.0 s x refl q.3,
  hands_of hall t.hall s [] is q.4,
)

admits_holder : (holder : Option Holder) (c : ServerSealOf) (t : TrialOf) (came handed : List ℕ)
    → t.holder ≡ holder → StandsTrying c t came handed
    → Admits c.doors c.random came handed (option_map held_by holder)
admits_holder None c t came handed is h =
    let q = subst (λ (o : Option Holder). TriesAs o h.stream handed t) is h.tries in
    let sealed : IsSealed h.locks c.random came [] None = record {
      client = h.client;
      stream = h.stream;
      prefaced = h.prefaced;
      hands =
          hands_by None (comes_under h.client c.random h.locks.hall)
          (option_map (comes_under h.client c.random) h.locks.entry) h.stream [] t h.keys.hall
          h.keys.entry (refl, q.1, q.2);
    } in
    (h.locks, h.doors, q.0, inr (inr sealed))
admits_holder (Some key) c t came handed is h =
    let q = subst (λ (o : Option Holder). TriesAs o h.stream handed t) is h.tries in
    let sealed : IsSealed h.locks c.random came handed (Some key) = record {
      client = h.client;
      stream = h.stream;
      prefaced = h.prefaced;
      hands =
          hands_by (Some key) (comes_under h.client c.random h.locks.hall)
          (option_map (comes_under h.client c.random) h.locks.entry) h.stream handed t h.keys.hall
          h.keys.entry q;
    } in
    (h.locks, h.doors, sealed)

admits_passing : (p : Option Caller) (c : ServerSealOf) (came handed : List ℕ)
    → StandsPassing c p came handed → Admits c.doors c.random came handed p
admits_passing (Some Anyone) c came handed h = h
admits_passing (Some Visitor) c came handed h = h
admits_passing (Some (caller.Holder key)) c came handed h = absurd h
admits_passing None c came handed h = (h.0, h.1, h.4, inl h.2)

admits_trial : (o : Option TrialOf) (c : ServerSealOf) (came handed : List ℕ) → c.trial ≡ o
    → StandsReading c o came handed → Admits c.doors c.random came handed (caller_by o c.passing)
admits_trial None c came handed is h = admits_passing c.passing c came handed h
admits_trial (Some t) c came handed is h = admits_holder t.holder c t came handed refl h

admits_at : (r : Option StreamRefusal) (c : ServerSealOf) (came handed : List ℕ)
    → StandsAt r c came handed → Admits c.doors c.random came handed (caller_of c)
admits_at None c came handed h = admits_trial c.trial c came handed refl h
admits_at (Some Unsealed) c came handed h =
    subst (λ (p : Option Caller). Admits c.doors c.random came handed p) (sym h.nobody)
    (h.locks, h.doors, h.nothing, inr (inl (h.shut, h.unsealed)))
admits_at (Some NoMemory) c came handed h = absurd h

pub admits : (c : ServerSealOf) (came handed : List ℕ) → StandsAt c.refusal c came handed
    → Admits c.doors c.random came handed (caller_of c)
admits c came handed h = admits_at c.refusal c came handed h
