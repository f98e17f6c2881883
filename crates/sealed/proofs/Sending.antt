-- What a desk's side sent, from the beginning of a connection on.
use Rattle.std.proofs.Common.{◌≡◌, ℕ, List, [], ◌++◌, Option, Some, None, refl, sym, ap, subst, ◌∙◌}
use Rattle.std.specs.Prelude.{IfSome, IsSome, option_map}
use Rattle.seal.specs.{declared.channel.Channel.Channel, Records.records, Sealing.Sealing}
use Rattle.sealed.specs.declared.callers.{Caller.Caller, Holder.Holder, DeskKeys.DeskKeys}
use Rattle.sealed.specs.declared.callers.Caller.TheVariants.{Anyone, Visitor}
use Rattle.sealed.specs.declared.callers.Holder.TheVariants.{Hall, Entry}
use Rattle.sealed.specs.{declared.callers.StreamRefusal.StreamRefusal, Admitting.goes_under}
use Rattle.sealed.specs.declared.callers.StreamRefusal.TheVariants.{Unsealed, NoMemory}
use Rattle.sealed.specs.{Fronts.IsPrefaced, ServerSeals.held_by, Tunnels.SealsAll, Tunnels.TunnelOf}
use Rattle.sealed.specs.ServerSeals.{ServerSealOf, SendsPlain, Stands, StandsAt, StandsPassing}
use Rattle.sealed.specs.ServerSeals.{StandsReading, StandsTrying, IsOfLocks, SendsBy, caller_by}
use Rattle.sealed.specs.Sent.{SentPlain, from_start, key_for}
use Rattle.sealed.{specs.ServerSeals.caller_of, proofs.Lawful.seals_on, proofs.Sealings.seals_none}
use Rattle.sealed.specs.Sent.{HasSent, IsNew, IsSent, IsSentSealed, KeepsSent, SealingGoesOn}
use Rattle.sealed.specs.Sent.{SealingReads, SendsWhatIsGiven, SentAs, SentBy, SentEntry, SentOver}
use Rattle.sealed.specs.Trials.{IsSameTrial, ReadsAll, SealsAs, SealsEntry, SealsOver, TrialOf}
use Rattle.sealed.specs.Trials.{Tries, TriesAs, comes_by, goes_by, sends_by}
use Rattle.sealed.specs.declared.callers.Caller.TheVariants as caller

-- ---- what comes changes nothing of what is sent

same_new : (o n : Option TunnelOf) → option_map sends_by n ≡ option_map sends_by o
    → IfSome o (λ e. e.sealer.number ≡ 0) → IfSome n (λ e. e.sealer.number ≡ 0)
same_new o None same h = tt
same_new None (Some e) same h = absurd cc
same_new (Some f) (Some e) same h =
    let is : e.sealer ≡ f.sealer = cc in ap (λ (s : Sealing). s.number) is ∙ h

pub is_new_still : (old new : TrialOf) → IsSameTrial old new → IsNew old → IsNew new
is_new_still old new same h = record {
  hall = ap (λ (s : Sealing). s.number) same.hall_sends ∙ h.hall;
  entry = same_new old.entry new.entry same.entry_sends h.entry;
}

-- a connection that sent nothing
over_new : (t : TunnelOf) → t.sealer.number ≡ 0 → SentOver t [] []
over_new t is =
    let same : t.sealer ≡ from_start t.sealer =
    ap (λ (n : ℕ). record t.sealer { number = n }) is in
    subst (λ (s : Sealing). SealsAll [] (from_start t.sealer) s []) (sym same)
    (seals_none (from_start t.sealer))

entry_over_new : (o : Option TunnelOf) → IfSome o (λ e. e.sealer.number ≡ 0) → SentEntry o [] []
entry_over_new None h = tt
entry_over_new (Some e) h = over_new e h

-- nothing was sent yet, whoever calls
new_as : (holder : Option Holder) (t : TrialOf) → IsNew t → SentAs holder t [] []
new_as None t h = (refl, refl, h)
new_as (Some Hall) t h = over_new t.hall h.hall
new_as (Some Entry) t h = entry_over_new t.entry h.entry

-- the first piece of one
pub keeps_opened : (old new : ServerSealOf) (t : TrialOf) → old.trial ≡ None → old.passing ≡ None
    → new.trial ≡ Some t → IsNew t → KeepsSent old new
keeps_opened old new t untried nobody is fresh given sent h =
    let q = subst (λ (p : Option Caller). SentPlain p given sent) nobody
    (subst (λ (o : Option TrialOf). SentBy o old given sent) untried h) in
    subst (λ (o : Option TrialOf). SentBy o new given sent) (sym is)
    (subst (λ (s : List ℕ). SentAs t.holder t s sent) (sym q.0)
    (subst (λ (s : List ℕ). SentAs t.holder t [] s) (sym q.1) (new_as t.holder t fresh)))

plain_shown : (p : Option Caller) (given sent : List ℕ) → SentPlain p given sent → sent ≡ given
plain_shown None given sent h = h.1 ∙ sym h.0
plain_shown (Some who) given sent h = h

shown_by : (o : Option TrialOf) (old new : ServerSealOf) (given sent : List ℕ)
    → new.passing ≡ Some Visitor → SentBy o old given sent → SentBy o new given sent
shown_by None old new given sent is h =
    subst (λ (p : Option Caller). SentPlain p given sent) (sym is)
    (plain_shown old.passing given sent h)
shown_by (Some t) old new given sent is h = h

-- a stream is let pass
pub keeps_passed : (old new : ServerSealOf) → new.trial ≡ old.trial → new.passing ≡ Some Visitor
    → KeepsSent old new
keeps_passed old new same is given sent h =
    subst (λ (o : Option TrialOf). SentBy o new given sent) (sym same)
    (shown_by old.trial old new given sent is h)

same_by : (o : Option TrialOf) (old new : ServerSealOf) (given sent : List ℕ)
    → new.passing ≡ old.passing → SentBy o old given sent → SentBy o new given sent
same_by None old new given sent is h =
    subst (λ (p : Option Caller). SentPlain p given sent) (sym is) h
same_by (Some t) old new given sent is h = h

pub keeps_same : (old new : ServerSealOf) → new.trial ≡ old.trial → new.passing ≡ old.passing
    → KeepsSent old new
keeps_same old new same is given sent h =
    subst (λ (o : Option TrialOf). SentBy o new given sent) (sym same)
    (same_by old.trial old new given sent is h)

-- ---- what is sent changes nothing of what was read

-- the trial is of the same keys, and has read the same
record KeepsReads (t u : TrialOf) : Type 0 where
  holder : u.holder ≡ t.holder
  keys : (locks : DeskKeys) (client server : List ℕ) → IsOfLocks locks client server t
      → IsOfLocks locks client server u
  tries : (s x : List ℕ) → Tries s x t → Tries s x u

reads_same : (t u : TrialOf) → u ≡ t → KeepsReads t u
reads_same t u is =
    subst (λ (v : TrialOf). KeepsReads t v) (sym is)
    (record { holder = refl; keys = λ locks client server h. h; tries = λ s x h. h })

reads_on : (t u : TunnelOf) (s x : List ℕ) → u.opener ≡ t.opener → ReadsAll t s x → ReadsAll u s x
reads_on t u s x is h =
    subst (λ o. ReadsAll (record { opener = o; sealer = u.sealer }) s x) (sym is) h

goes_on : (t u : TunnelOf) (bytes sent : List ℕ) → SealsOver bytes t u sent → goes_by u ≡ goes_by t
goes_on t u bytes sent h = ap (λ (s : Sealing). s.channel) h.sealed.counted

hall_reads : (t u : TrialOf) (f : TunnelOf) (bytes sent : List ℕ) → t.holder ≡ Some Hall
    → SealsOver bytes t.hall f sent → u ≡ record t { hall = f } → KeepsReads t u
hall_reads t u f bytes sent is over same =
    let now : TrialOf = record t { hall = f } in
    subst (λ (v : TrialOf). KeepsReads t v) (sym same) (record {
      holder = refl;
      keys = λ locks client server h. record {
        hall = ap (λ o. o.channel) over.opener ∙ h.hall;
        entry = h.entry;
        hall_sends = goes_on t.hall f bytes sent over ∙ h.hall_sends;
        entry_sends = h.entry_sends;
      };
      tries = λ s x h.
          let q = subst (λ (k : Option Holder). TriesAs k s x t) is h in
          subst (λ (k : Option Holder). TriesAs k s x now) (sym is)
          (q.0, reads_on t.hall f s x over.opener q.1);
    })

entry_reads : (t u : TrialOf) (e f : TunnelOf) (bytes sent : List ℕ) → t.holder ≡ Some Entry
    → t.entry ≡ Some e → SealsOver bytes e f sent → u ≡ record t { entry = Some f } → KeepsReads t u
entry_reads t u e f bytes sent is there over same =
    let now : TrialOf = record t { entry = Some f } in
    let comes : option_map comes_by (Some f) ≡ option_map comes_by t.entry =
    ap (λ o. Some o.channel) over.opener
    ∙ sym (ap (λ (o : Option TunnelOf). option_map comes_by o) there) in
    let goes : option_map goes_by (Some f) ≡ option_map goes_by t.entry =
    ap (λ (c : Channel). Some c) (goes_on e f bytes sent over)
    ∙ sym (ap (λ (o : Option TunnelOf). option_map goes_by o) there) in
    subst (λ (v : TrialOf). KeepsReads t v) (sym same) (record {
      holder = refl;
      keys = λ locks client server h. record {
        hall = h.hall;
        entry = comes ∙ h.entry;
        hall_sends = h.hall_sends;
        entry_sends = goes ∙ h.entry_sends;
      };
      tries = λ s x h.
          let q = subst (λ (k : Option Holder). TriesAs k s x t) is h in
          let one : q.0 ≡ e = let two = sym q.1 ∙ there in cc in
          let reads = subst (λ (v : TunnelOf). ReadsAll v s x) one q.3 in
          subst (λ (k : Option Holder). TriesAs k s x now) (sym is)
          (f, refl, q.2, reads_on e f s x over.opener reads, q.4, q.5);
    })

reads_entry : (o : Option TunnelOf) (t u : TrialOf) (bytes sent : List ℕ) → t.holder ≡ Some Entry
    → t.entry ≡ o → SealsEntry o bytes t u sent → KeepsReads t u
reads_entry None t u bytes sent is there h = reads_same t u h.1
reads_entry (Some e) t u bytes sent is there h =
    entry_reads t u e h.0 bytes sent is there h.1 h.2

reads_by : (o : Option Holder) (t u : TrialOf) (bytes sent : List ℕ) → t.holder ≡ o
    → SealsAs o bytes t u sent → KeepsReads t u
reads_by None t u bytes sent is h = reads_same t u h.1
reads_by (Some Hall) t u bytes sent is h = hall_reads t u h.0 bytes sent is h.1 h.2
reads_by (Some Entry) t u bytes sent is h = reads_entry t.entry t u bytes sent is refl h

reads_at : (r : Option StreamRefusal) (c : ServerSealOf) (t u : TrialOf) (came handed : List ℕ)
    → c.trial ≡ Some t → KeepsReads t u → StandsAt r c came handed
    → StandsAt r (record c { trial = Some u }) came handed
reads_at None c t u came handed is keeps h =
    let q = subst (λ (o : Option TrialOf). StandsReading c o came handed) is h in
    record {
      locks = q.locks;
      client = q.client;
      stream = q.stream;
      doors = q.doors;
      prefaced = q.prefaced;
      keys = keeps.keys q.locks q.client c.random q.keys;
      tries = keeps.tries q.stream handed q.tries;
    }
reads_at (Some Unsealed) c t u came handed is keeps h = record {
  locks = h.locks;
  doors = h.doors;
  shut = h.shut;
  unsealed = h.unsealed;
  nothing = h.nothing;
  nobody =
      ap (λ (k : Option Holder). option_map held_by k) keeps.holder
      ∙ sym (ap (λ (o : Option TrialOf). caller_by o c.passing) is) ∙ h.nobody;
}
reads_at (Some NoMemory) c t u came handed is keeps h = absurd h

plain_new : (p : Option Caller) (bytes sent : List ℕ) (c new : ServerSealOf)
    → SendsPlain p bytes c new sent → new ≡ c
plain_new None bytes sent c new h = h.1
plain_new (Some who) bytes sent c new h = h.1

sealing_by : (o : Option TrialOf) (c new : ServerSealOf) (bytes sent came handed : List ℕ)
    → c.trial ≡ o → SendsBy o bytes c new sent → Stands c came handed → Stands new came handed
sealing_by None c new bytes sent came handed is h stands =
    subst (λ (d : ServerSealOf). Stands d came handed)
    (sym (plain_new c.passing bytes sent c new h)) stands
sealing_by (Some t) c new bytes sent came handed is h stands =
    subst (λ (d : ServerSealOf). Stands d came handed) (sym h.2)
    (reads_at c.refusal c t h.0 came handed is (reads_by t.holder t h.0 bytes sent refl h.1) stands)

pub sealing_reads : SealingReads
sealing_reads c new bytes sent came handed h stands =
    sealing_by c.trial c new bytes sent came handed refl h stands

-- ---- what is sent goes on with what was sent before

over_more : (t u : TunnelOf) (bytes more given sent : List ℕ) → SealsOver bytes t u more
    → SentOver t given sent → SentOver u (given ++ bytes) (sent ++ more)
over_more t u bytes more given sent over h =
    let all = seals_on given bytes sent more (from_start t.sealer) t.sealer u.sealer h
    over.sealed in
    let same : from_start u.sealer ≡ from_start t.sealer =
    ap (λ (c : Channel). record { channel = c; number = 0 }) (goes_on t u bytes more over) in
    subst (λ (s : Sealing). SealsAll (given ++ bytes) s u.sealer (sent ++ more)) (sym same) all

entry_more : (o : Option TunnelOf) (t u : TrialOf) (bytes more given sent : List ℕ)
    → t.holder ≡ Some Entry → t.entry ≡ o → SealsEntry o bytes t u more → SentEntry o given sent
    → SentAs u.holder u (given ++ bytes) (sent ++ more)
entry_more None t u bytes more given sent is none h s =
    subst (λ (v : TrialOf). SentAs v.holder v (given ++ bytes) (sent ++ more)) (sym h.1)
    (subst (λ (k : Option Holder). SentAs k t (given ++ bytes) (sent ++ more)) (sym is)
    (subst (λ (o : Option TunnelOf). SentEntry o (given ++ bytes) (sent ++ more)) (sym none) tt))
entry_more (Some e) t u bytes more given sent is there h s =
    let now : TrialOf = record t { entry = Some h.0 } in
    subst (λ (v : TrialOf). SentAs v.holder v (given ++ bytes) (sent ++ more)) (sym h.2)
    (subst (λ (k : Option Holder). SentAs k now (given ++ bytes) (sent ++ more)) (sym is)
    (over_more e h.0 bytes more given sent h.1 s))

more_as : (o : Option Holder) (t u : TrialOf) (bytes more given sent : List ℕ) → t.holder ≡ o
    → SealsAs o bytes t u more → IsSome (option_map held_by o) → SentAs o t given sent
    → SentAs u.holder u (given ++ bytes) (sent ++ more)
more_as None t u bytes more given sent is h some s = absurd cc
more_as (Some Hall) t u bytes more given sent is h some s =
    let now : TrialOf = record t { hall = h.0 } in
    subst (λ (v : TrialOf). SentAs v.holder v (given ++ bytes) (sent ++ more)) (sym h.2)
    (subst (λ (k : Option Holder). SentAs k now (given ++ bytes) (sent ++ more)) (sym is)
    (over_more t.hall h.0 bytes more given sent h.1 s))
more_as (Some Entry) t u bytes more given sent is h some s =
    entry_more t.entry t u bytes more given sent is refl h s

more_plain : (p : Option Caller) (c new : ServerSealOf) (bytes more given sent : List ℕ)
    → c.passing ≡ p → c.trial ≡ None → SendsPlain p bytes c new more → IsSome p
    → SentPlain p given sent → HasSent new (given ++ bytes) (sent ++ more)
more_plain None c new bytes more given sent is none h some s = absurd cc
more_plain (Some who) c new bytes more given sent is none h some s =
    let both : sent ++ more ≡ given ++ bytes =
    ap (λ (x : List ℕ). x ++ more) s ∙ ap (λ (x : List ℕ). given ++ x) h.0 in
    subst (λ (d : ServerSealOf). HasSent d (given ++ bytes) (sent ++ more)) (sym h.1)
    (subst (λ (o : Option TrialOf). SentBy o c (given ++ bytes) (sent ++ more)) (sym none)
    (subst (λ (p : Option Caller). SentPlain p (given ++ bytes) (sent ++ more)) (sym is) both))

more_by : (o : Option TrialOf) (c new : ServerSealOf) (bytes more given sent : List ℕ) → c.trial ≡ o
    → SendsBy o bytes c new more → IsSome (caller_by o c.passing) → SentBy o c given sent
    → HasSent new (given ++ bytes) (sent ++ more)
more_by None c new bytes more given sent is h some s =
    more_plain c.passing c new bytes more given sent refl is h some s
more_by (Some t) c new bytes more given sent is h some s =
    subst (λ (d : ServerSealOf). HasSent d (given ++ bytes) (sent ++ more)) (sym h.2)
    (more_as t.holder t h.0 bytes more given sent refl h.1 some s)

pub sealing_goes_on : SealingGoesOn
sealing_goes_on c new bytes more given sent h some s =
    more_by c.trial c new bytes more given sent refl h some s

-- ---- what is sent is what was given

sent_under : (locks : DeskKeys) (server came given sent client stream secret : List ℕ)
    (key : Holder) (t : TunnelOf) → IsPrefaced came client stream → key_for locks key ≡ Some secret
    → goes_by t ≡ goes_under client server secret → SentOver t given sent
    → IsSentSealed locks server came given sent key
sent_under locks server came given sent client stream secret key t prefaced held goes h = record {
  client = client;
  stream = stream;
  prefaced = prefaced;
  secret = secret;
  held = held;
  bodies = h.bodies;
  each = h.each;
  gives = h.gives;
  sealed = h.sealed ∙ ap (λ (c : Channel). records c 0 h.bodies) goes;
}

-- the entry key is there, and under it was sent
secret_of : (entry : Option (List ℕ)) (client server : List ℕ) (e : TunnelOf)
    → Some (goes_by e) ≡ option_map (goes_under client server) entry
    → (secret : List ℕ) × (entry ≡ Some secret) × (goes_by e ≡ goes_under client server secret)
secret_of None client server e is = absurd cc
secret_of (Some secret) client server e is = (secret, refl, cc)

sent_holder : (o : Option Holder) (c : ServerSealOf) (t : TrialOf) (came handed given sent : List ℕ)
    → t.holder ≡ o → StandsTrying c t came handed → SentAs o t given sent
    → IsSent c.doors c.random came (option_map held_by o) given sent
sent_holder None c t came handed given sent is h s = (s.0, s.1)
sent_holder (Some Hall) c t came handed given sent is h s = (
  h.locks,
  h.doors,
  sent_under h.locks c.random came given sent h.client h.stream h.locks.hall Hall t.hall h.prefaced
      refl h.keys.hall_sends s,
)
sent_holder (Some Entry) c t came handed given sent is h s =
    let q = subst (λ (k : Option Holder). TriesAs k h.stream handed t) is h.tries in
    let over = subst (λ (o : Option TunnelOf). SentEntry o given sent) q.1 s in
    let found = secret_of h.locks.entry h.client c.random q.0
    (sym (ap (λ (o : Option TunnelOf). option_map goes_by o) q.1) ∙ h.keys.entry_sends) in (
      h.locks,
      h.doors,
      sent_under h.locks c.random came given sent h.client h.stream found.0 Entry q.0 h.prefaced
          found.1 found.2 over,
    )

sent_passing : (p : Option Caller) (c : ServerSealOf) (came handed given sent : List ℕ)
    → StandsPassing c p came handed → SentPlain p given sent
    → IsSent c.doors c.random came p given sent
sent_passing (Some Anyone) c came handed given sent h s = s
sent_passing (Some Visitor) c came handed given sent h s = s
sent_passing (Some (caller.Holder key)) c came handed given sent h s = absurd h
sent_passing None c came handed given sent h s = s

sent_reading : (o : Option TrialOf) (c : ServerSealOf) (came handed given sent : List ℕ)
    → StandsReading c o came handed → SentBy o c given sent
    → IsSent c.doors c.random came (caller_by o c.passing) given sent
sent_reading None c came handed given sent h s =
    sent_passing c.passing c came handed given sent h s
sent_reading (Some t) c came handed given sent h s =
    sent_holder t.holder c t came handed given sent refl h s

sent_nobody_as : (o : Option Holder) (t : TrialOf) (given sent : List ℕ)
    → option_map held_by o ≡ None → SentAs o t given sent → (given ≡ []) × (sent ≡ [])
sent_nobody_as None t given sent is s = (s.0, s.1)
sent_nobody_as (Some key) t given sent is s = absurd cc

sent_nobody : (o : Option TrialOf) (c : ServerSealOf) (given sent : List ℕ)
    → caller_by o c.passing ≡ None → SentBy o c given sent → (given ≡ []) × (sent ≡ [])
sent_nobody None c given sent is s = subst (λ (p : Option Caller). SentPlain p given sent) is s
sent_nobody (Some t) c given sent is s = sent_nobody_as t.holder t given sent is s

sent_at : (r : Option StreamRefusal) (c : ServerSealOf) (came handed given sent : List ℕ)
    → StandsAt r c came handed → HasSent c given sent
    → IsSent c.doors c.random came (caller_of c) given sent
sent_at None c came handed given sent h s = sent_reading c.trial c came handed given sent h s
sent_at (Some Unsealed) c came handed given sent h s =
    subst (λ (p : Option Caller). IsSent c.doors c.random came p given sent) (sym h.nobody)
    (sent_nobody c.trial c given sent h.nobody s)
sent_at (Some NoMemory) c came handed given sent h s = absurd h

pub sends_what_is_given : SendsWhatIsGiven
sends_what_is_given c came handed given sent h s = sent_at c.refusal c came handed given sent h s
