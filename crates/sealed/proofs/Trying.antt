-- A trial of two keys, one piece after the other.
use Rattle.std.proofs.Common.{◌≡◌, ◌≢◌, ℕ, ◌+◌, List, [], ◌∷◌, ◌++◌, length, Option, Some, None}
use Rattle.std.proofs.Common.{refl, sym, ap, subst, ◌∙◌, append_assoc, arith}
use Rattle.std.{specs.Prelude.IfSome, proofs.lemmas.List.length-append}
use Rattle.seal.specs.declared.{channel.Channel.Channel, fault.StreamFault.StreamFault}
use Rattle.seal.specs.Records.{AreBodies, record_of, records}
use Rattle.seal.specs.Streams.{BeginsRecord, Ends, Fed, FedAt, Opening, Reads, Waits, joined}
use Rattle.seal.proofs.{Ending.not_begun, Feeding.reads_fed, Reading.reads_after}
use Rattle.sealed.specs.declared.callers.Holder.{Holder, TheVariants.Hall, TheVariants.Entry}
use Rattle.sealed.specs.Trials.{ReadsAll, TrialOf, Tries, TriesAs}
use Rattle.sealed.specs.Tunnels.{TunnelOf}

-- ---- one connection

fed_same_at : (f : Option StreamFault) (piece more : List ℕ) (a b : Opening)
    → FedAt f piece a b more → b.channel ≡ a.channel
fed_same_at None piece more a b fed = fed.channel_kept
fed_same_at (Some e) piece more a b fed = ap (λ (o : Opening). o.channel) fed.1

-- a piece changes no channel
pub fed_same : (piece more : List ℕ) (a b : Opening) → Fed piece a b more → b.channel ≡ a.channel
fed_same piece more a b fed = fed_same_at a.fault piece more a b fed

-- one more piece of the stream of a connection
pub fed_all : (a b : TunnelOf) (s x piece more : List ℕ) → ReadsAll a s x
    → Fed piece a.opener b.opener more → ReadsAll b (s ++ piece) (x ++ more)
fed_all a b s x piece more reads fed =
    let r = reads_fed a.opener.channel 0 s x piece more a.opener b.opener reads fed in
    subst (λ (c : Channel). Reads c 0 (s ++ piece) (x ++ more) b.opener)
    (sym (fed_same piece more a.opener b.opener fed)) r

-- ---- a record that fits under one key decides of the other

begins : (c : Channel) (s h rest : List ℕ) (bodies : List (List ℕ))
    → s ≡ records c 0 bodies ++ rest → AreBodies 0 bodies → h ≡ joined bodies → h ≢ []
    → BeginsRecord c 0 s
begins c s h rest [] whole each is some = absurd (some is)
begins c s h rest (y ∷ ys) whole each is some = (
  y,
  records c 1 ys ++ rest,
  each.0,
  whole ∙ append_assoc (record_of c 0 y) (records c 1 ys) rest,
)

nothing : (c : Channel) (s rest : List ℕ) (bodies : List (List ℕ))
    → s ≡ records c 0 bodies ++ rest → AreBodies 0 bodies → [] ≡ joined bodies
    → Ends c (0 + length bodies) None rest → Waits s
nothing c s rest [] whole each is ends = subst (λ (t : List ℕ). Waits t) (sym whole) ends
nothing c s rest (y ∷ ys) whole each is ends =
    let none = ap (λ (t : List ℕ). length t) is in
    absurd (omega (arith, none, length-append y (joined ys), each.0.0.0))

decided_at : (f : Option StreamFault) (a b : TunnelOf) (s h : List ℕ) → a.opener.fault ≡ f
    → ReadsAll a s [] → ReadsAll b s h → h ≢ [] → f ≢ None
decided_at None a b s h is none some there same =
    let c = a.opener.channel in
    let ends = subst (λ (f : Option StreamFault). Ends c (0 + length none.bodies) f none.rest) is
    none.ends in
    let waits = nothing c s none.rest none.bodies none.whole none.each none.gives ends in
    not_begun b.opener.channel 0 None s waits
    (begins b.opener.channel s h some.rest some.bodies some.whole some.each some.gives there)
decided_at (Some e) a b s h is none some there same = cc

-- where a record fits under one key, the first record does not wait under another
pub decided : (a b : TunnelOf) (s h : List ℕ) → ReadsAll a s [] → ReadsAll b s h → h ≢ []
    → a.opener.fault ≢ None
decided a b s h none some there = decided_at a.opener.fault a b s h refl none some there

-- ---- a trial

append_some : (x y : List ℕ) → x ≢ [] → x ++ y ≢ []
append_some [] y some is = some refl
append_some (a ∷ x) y some is = cc

-- under the hall's key
pub tries_hall : (old new : TrialOf) (s x piece more : List ℕ) → old.holder ≡ Some Hall
    → new.holder ≡ Some Hall → Fed piece old.hall.opener new.hall.opener more → Tries s x old
    → Tries (s ++ piece) (x ++ more) new
tries_hall old new s x piece more was is fed tries =
    let q = subst (λ (h : Option Holder). TriesAs h s x old) was tries in
    subst (λ (h : Option Holder). TriesAs h (s ++ piece) (x ++ more) new) (sym is)
    (append_some x more q.0, fed_all old.hall new.hall s x piece more q.1 fed)

-- under the entry key
pub tries_entry : (old new : TrialOf) (e f : TunnelOf) (s x piece more : List ℕ)
    → old.holder ≡ Some Entry → new.holder ≡ Some Entry → old.entry ≡ Some e → new.entry ≡ Some f
    → new.hall ≡ old.hall → Fed piece e.opener f.opener more → Tries s x old
    → Tries (s ++ piece) (x ++ more) new
tries_entry old new e f s x piece more was is there now same fed tries =
    let q = subst (λ (h : Option Holder). TriesAs h s x old) was tries in
    let one : q.0 ≡ e = let two = sym q.1 ∙ there in cc in
    let reads = subst (λ (t : TunnelOf). ReadsAll t s x) one q.3 in
    let hall = reads_after old.hall.opener.channel 0 s [] piece old.hall.opener q.4 q.5 in
    subst (λ (h : Option Holder). TriesAs h (s ++ piece) (x ++ more) new) (sym is) (
      f,
      now,
      append_some x more q.2,
      fed_all e f s x piece more reads fed,
      subst (λ (t : TunnelOf). ReadsAll t (s ++ piece) []) (sym same) hall,
      subst (λ (t : TunnelOf). t.opener.fault ≢ None) (sym same) q.5,
    )

-- the first record fits under the hall's key
pub chooses_hall : (old new : TrialOf) (s x piece more : List ℕ) → old.holder ≡ None
    → new.holder ≡ Some Hall → Fed piece old.hall.opener new.hall.opener more → more ≢ []
    → Tries s x old → Tries (s ++ piece) (x ++ more) new
chooses_hall old new s x piece more was is fed some tries =
    let q = subst (λ (h : Option Holder). TriesAs h s x old) was tries in
    let reads = fed_all old.hall new.hall s [] piece more q.1 fed in
    let P : List ℕ → Type 0 =
    λ z. TriesAs (Some Hall) (s ++ piece) (z ++ more) new in
    subst (λ (h : Option Holder). TriesAs h (s ++ piece) (x ++ more) new) (sym is)
    (subst P (sym q.0) (some, reads))

-- no record fits under the hall's key, and there is no other
pub waits_alone : (old new : TrialOf) (s x piece more : List ℕ) → old.holder ≡ None
    → new.holder ≡ None → new.entry ≡ None → Fed piece old.hall.opener new.hall.opener more
    → more ≡ [] → Tries s x old → Tries (s ++ piece) (x ++ more) new
waits_alone old new s x piece more was is alone fed none tries =
    let q = subst (λ (h : Option Holder). TriesAs h s x old) was tries in
    let fed0 = subst (λ (z : List ℕ). Fed piece old.hall.opener new.hall.opener z) none fed in
    let reads = fed_all old.hall new.hall s [] piece [] q.1 fed0 in
    let nobody = subst (λ (o : Option TunnelOf). IfSome o (λ e. ReadsAll e (s ++ piece) []))
    (sym alone) tt in
    let both : x ++ more ≡ [] = ap (λ (z : List ℕ). z ++ more) q.0 ∙ none in
    subst (λ (h : Option Holder). TriesAs h (s ++ piece) (x ++ more) new) (sym is)
    (both, reads, nobody)

-- none fits under the hall's key, and this is so under the entry key
pub waits_both : (old new : TrialOf) (e f : TunnelOf) (s x piece none more : List ℕ)
    → old.holder ≡ None → new.holder ≡ None → old.entry ≡ Some e → new.entry ≡ Some f
    → Fed piece old.hall.opener new.hall.opener none → none ≡ []
    → Fed piece e.opener f.opener more → more ≡ [] → Tries s x old
    → Tries (s ++ piece) (x ++ more) new
waits_both old new e f s x piece none more was is there now fed empty fed1 empty1 tries =
    let q = subst (λ (h : Option Holder). TriesAs h s x old) was tries in
    let fed0 = subst (λ (z : List ℕ). Fed piece old.hall.opener new.hall.opener z) empty fed in
    let fed2 = subst (λ (z : List ℕ). Fed piece e.opener f.opener z) empty1 fed1 in
    let hall = fed_all old.hall new.hall s [] piece [] q.1 fed0 in
    let was_e = subst (λ (o : Option TunnelOf). IfSome o (λ t. ReadsAll t s [])) there q.2 in
    let entry = fed_all e f s [] piece [] was_e fed2 in
    let here = subst (λ (o : Option TunnelOf). IfSome o (λ t. ReadsAll t (s ++ piece) []))
    (sym now) entry in
    let both : x ++ more ≡ [] = ap (λ (z : List ℕ). z ++ more) q.0 ∙ empty1 in
    subst (λ (h : Option Holder). TriesAs h (s ++ piece) (x ++ more) new) (sym is)
    (both, hall, here)

-- the first record fits under the entry key alone
pub chooses_entry : (old new : TrialOf) (e f : TunnelOf) (s x piece none more : List ℕ)
    → old.holder ≡ None → new.holder ≡ Some Entry → old.entry ≡ Some e → new.entry ≡ Some f
    → Fed piece old.hall.opener new.hall.opener none → none ≡ []
    → Fed piece e.opener f.opener more → more ≢ [] → Tries s x old
    → Tries (s ++ piece) (x ++ more) new
chooses_entry old new e f s x piece none more was is there now fed empty fed1 some tries =
    let q = subst (λ (h : Option Holder). TriesAs h s x old) was tries in
    let fed0 = subst (λ (z : List ℕ). Fed piece old.hall.opener new.hall.opener z) empty fed in
    let hall = fed_all old.hall new.hall s [] piece [] q.1 fed0 in
    let was_e = subst (λ (o : Option TunnelOf). IfSome o (λ t. ReadsAll t s [])) there q.2 in
    let entry = fed_all e f s [] piece more was_e fed1 in
    let P : List ℕ → Type 0 = λ z. TriesAs (Some Entry) (s ++ piece) (z ++ more) new in
    subst (λ (h : Option Holder). TriesAs h (s ++ piece) (x ++ more) new) (sym is)
    (subst P (sym q.0)
    (f, now, some, entry, hall, decided new.hall f (s ++ piece) more hall entry some))
