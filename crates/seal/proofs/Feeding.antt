-- The steps of an opener, and what was fed to it.
use Rattle.std.proofs.Common.{◌≡◌, ℕ, suc, ◌+◌, ◌-◌, ◌<◌, ◌≤◌, List, [], ◌∷◌, ◌++◌, length, take}
use Rattle.std.proofs.Common.{drop, Option, Some, None, refl, sym, ap, subst, ◌∙◌, append_assoc}
use Rattle.std.proofs.Common.{arith, slice_range, get_or, add-one}
use Rattle.std.{specs.Global.Vec, proofs.Math.Seq.take-add, proofs.Math.Seq.take-suc}
use Rattle.std.proofs.lemmas.{Grind.flat_map-append, List.length-take, List.length-drop}
use Rattle.std.proofs.lemmas.List.{take_all, take-append-drop, length-append, append-nil}
use Rattle.seal.specs.declared.{channel.Channel.Channel, fault.StreamFault.StreamFault}
use Rattle.seal.specs.Records.{IsBody, record_of}
use Rattle.seal.specs.Streams.{Waits, Ends, Opening, held_of, Reads, FedAt, Fed, stream_of}
use Rattle.seal.specs.model.Steps.{IsToppedUp, IsRecord, Takes}
use Rattle.seal.proofs.Reading.{reads_none, reads_one, reads_more, reads_after}

held_le : (f : Option StreamFault) (bytes : List ℕ) → length (held_of f bytes) ≤ length bytes
held_le None bytes = omega arith
held_le (Some e) bytes = omega arith

-- nothing is handed on
pub takes_none : (piece before bytes : List ℕ) (old new : Opening) (added : ℕ)
    → IsToppedUp piece old.held bytes added → new.channel ≡ old.channel → new.number ≡ old.number
    → Ends old.channel old.number new.fault bytes → new.held ≡ held_of new.fault bytes
    → Takes piece old new before before added
takes_none piece before bytes old new added up kept counted ends held =
    let reads = reads_none old.channel old.number bytes new kept counted ends held in
    let P : List ℕ → Type 0 = λ s. Reads old.channel old.number s [] new in
    let all = ap (λ (s : List ℕ). length s) up.held in
    let long = length-append old.held (take added piece) in
    let least = held_le new.fault bytes in let same = ap (λ (s : List ℕ). length s) held in
    record {
      some = up.some;
      within = up.within;
      handed = [];
      added = sym (append-nil before);
      reads = subst P up.held reads;
      room = omega (arith, all, long, least, same, length-take added piece);
    }

pub takes_waits : (piece before bytes : List ℕ) (old new : Opening) (added : ℕ)
    → IsToppedUp piece old.held bytes added → new.channel ≡ old.channel → new.number ≡ old.number
    → new.fault ≡ None → Waits bytes → new.held ≡ bytes → Takes piece old new before before added
takes_waits piece before bytes old new added up kept counted none waits held =
    takes_none piece before bytes old new added up kept counted
    (subst (λ (f : Option StreamFault). Ends old.channel old.number f bytes) (sym none) waits)
    (held ∙ ap (λ (f : Option StreamFault). held_of f bytes) (sym none))

-- the body of a record is handed on
pub takes_one : (piece before after bytes : List ℕ) (old new : Opening) (added : ℕ)
    → IsToppedUp piece old.held bytes added → IsRecord old.channel old.number bytes
    → after ≡ before ++ slice_range bytes 2 (length bytes - 32) → new.channel ≡ old.channel
    → new.number ≡ old.number + 1 → new.fault ≡ None → new.held ≡ []
    → Takes piece old new before after added
takes_one piece before after bytes old new added up is gives kept counted none held =
    let body = slice_range bytes 2 (length bytes - 32) in
    let reads = reads_one old.channel old.number bytes body new is.good is.sealed kept counted none
    held in
    let P : List ℕ → Type 0 = λ s. Reads old.channel old.number s body new in
    let all = ap (λ (s : List ℕ). length s) up.held in
    let long = length-append old.held (take added piece) in
    let same = ap (λ (s : List ℕ). length s) held in
    let part = length-take (length bytes - 32 - 2) (drop 2 bytes) in
    let less = length-drop 2 bytes in
    record {
      some = up.some;
      within = up.within;
      handed = body;
      added = gives;
      reads = subst P up.held reads;
      room = omega (arith, all, long, same, part, less, length-take added piece);
    }

-- ---- what was fed

still : (old mid : Opening) (e : StreamFault) → old.fault ≡ Some e → mid ≡ old → mid.fault ≡ None
    → ⊥
still old mid e some same none =
    let bad : Some e ≡ None = sym some ∙ sym (ap (λ (o : Opening). o.fault) same) ∙ none in cc

pub fed_more : (f : Option StreamFault) (piece more handed extra : List ℕ) (old mid new : Opening)
    → old.fault ≡ f → FedAt f piece old mid handed → mid.fault ≡ None
    → Reads mid.channel mid.number (mid.held ++ more) extra new
    → FedAt f (piece ++ more) old new (handed ++ extra)
fed_more None piece more handed extra old mid new is fed none reads =
    let P : List ℕ → Type 0 = λ s. Reads old.channel old.number s (handed ++ extra) new in
    subst P (append_assoc old.held piece more)
    (reads_more old.channel old.number (old.held ++ piece) handed more extra mid new fed none reads)
fed_more (Some e) piece more handed extra old mid new is fed none reads =
    absurd (still old mid e is fed.1 none)

pub fed_after : (f : Option StreamFault) (piece more handed : List ℕ) (old mid : Opening)
    → FedAt f piece old mid handed → ¬ (mid.fault ≡ None) → FedAt f (piece ++ more) old mid handed
fed_after None piece more handed old mid fed broken =
    let P : List ℕ → Type 0 = λ s. Reads old.channel old.number s handed mid in
    subst P (append_assoc old.held piece more)
    (reads_after old.channel old.number (old.held ++ piece) handed more mid fed broken)
fed_after (Some e) piece more handed old mid fed broken = fed

broken : (f : Option StreamFault) (e : StreamFault) → f ≡ Some e → f ≡ None → ⊥
broken f e some none = let bad : Some e ≡ None = sym some ∙ none in cc

-- one more piece of a stream
fed_on : (f : Option StreamFault) (c : Channel) (n : ℕ) (s x piece handed : List ℕ)
    (old new : Opening) → old.fault ≡ f → Reads c n s x old → FedAt f piece old new handed
    → Reads c n (s ++ piece) (x ++ handed) new
fed_on None c n s x piece handed old new is reads fed =
    reads_more c n s x piece handed old new reads is fed
fed_on (Some e) c n s x piece handed old new is reads fed =
    let after = reads_after c n s x piece old reads (λ none. broken old.fault e is none) in
    let same = subst (λ (o : Opening). Reads c n (s ++ piece) x o) (sym fed.1) after in
    let gives : x ≡ x ++ handed =
    sym (append-nil x) ∙ ap (λ (t : List ℕ). x ++ t) (sym fed.0) in
    subst (λ (t : List ℕ). Reads c n (s ++ piece) t new) gives same

pub reads_fed : (c : Channel) (n : ℕ) (s x piece handed : List ℕ) (old new : Opening)
    → Reads c n s x old → Fed piece old new handed → Reads c n (s ++ piece) (x ++ handed) new
reads_fed c n s x piece handed old new reads fed =
    fed_on old.fault c n s x piece handed old new refl reads fed

-- ---- the steps of one piece

pub step_fed : (piece rest before after : List ℕ) (taken added : ℕ) (old mid new : Opening)
    → rest ≡ drop taken piece → Fed (take taken piece) old mid before → mid.fault ≡ None
    → Takes rest mid new before after added → Fed (take (taken + added) piece) old new after
step_fed piece rest before after taken added old mid new is fed none step =
    let more = fed_more old.fault (take taken piece) (take added rest) before
    step.handed old mid new
    refl fed none step.reads in
    let all : take taken piece ++ take added rest ≡ take (taken + added) piece =
    ap (λ (s : List ℕ). take taken piece ++ take added s) is ∙ sym (take-add taken added piece) in
    let there = subst (λ (s : List ℕ). Fed s old new (before ++ step.handed)) all more in
    subst (λ (s : List ℕ). Fed (take (taken + added) piece) old new s) (sym step.added) there

pub step_least : (rest before after : List ℕ) (taken added most : ℕ) (mid new : Opening)
    → length before + length mid.held ≤ most + taken → Takes rest mid new before after added
    → length after + length new.held ≤ most + (taken + added)
step_least rest before after taken added most mid new least step =
    let long = ap (λ (s : List ℕ). length s) step.added in
    omega (arith, least, long, length-append before step.handed, step.room)

pub all_fed : (piece handed : List ℕ) (taken : ℕ) (old mid : Opening) → length piece ≤ taken
    → Fed (take taken piece) old mid handed → Fed piece old mid handed
all_fed piece handed taken old mid all fed =
    subst (λ (s : List ℕ). Fed s old mid handed) (take_all taken piece all) fed

pub rest_fed : (piece handed : List ℕ) (taken : ℕ) (old mid : Opening) → ¬ (mid.fault ≡ None)
    → Fed (take taken piece) old mid handed → Fed piece old mid handed
rest_fed piece handed taken old mid broken fed =
    subst (λ (s : List ℕ). Fed s old mid handed) (take-append-drop taken piece)
    (fed_after old.fault (take taken piece) (drop taken piece) handed old mid fed broken)

-- ---- the pieces of a stream

pub stream_next : (pieces : List (Vec ℕ)) (i : ℕ) (p : Vec ℕ) (bytes : List ℕ) → i < length pieces
    → p ≡ get_or pieces i p → bytes ≡ p.items
    → stream_of (take (i + 1) pieces) ≡ stream_of (take i pieces) ++ bytes
stream_next pieces i p bytes within here is =
    let next : take (i + 1) pieces ≡ take i pieces ++ p ∷ [] =
    rw add-one (take-suc pieces i p within
    ∙ ap (λ (q : Vec ℕ). take i pieces ++ q ∷ []) (sym here)) in
    ap (λ (ps : List (Vec ℕ)). stream_of ps) next
    ∙ flat_map-append (λ (q : Vec ℕ). q.items) (take i pieces) (p ∷ [])
    ∙ ap (λ (s : List ℕ). stream_of (take i pieces) ++ s) (append-nil p.items ∙ sym is)
