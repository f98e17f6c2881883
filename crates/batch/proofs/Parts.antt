-- A log that comes part after part.
use Rattle.std.proofs.Common.{◌≡◌, ◌+◌, ◌<◌, ◌≤◌, ◌++◌, ◌∷◌, [], ℕ, List, Bool, true, false, ap}
use Rattle.std.proofs.Common.{append_assoc, append-nil, arith, inl, inr, length, refl, subst, sym}
use Rattle.std.proofs.Common.{◌∙◌, ◌&&◌, Result, Ok, Err, length-append}
use Rattle.acceptor.specs.declared.entry.Entry.{Entry}
use Rattle.client.specs.{Answers.judged_what, declared.fault.ClientFault.ClientFault}
use Rattle.wire.specs.declared.frame.{FrameBody.FrameBody, Frame.Frame}
use Rattle.batch.specs.{Asking.IsAnswer, Logs.log_of, model.Parts.AddsPart, model.Parts.FailsPart}
use Rattle.batch.specs.Dialing.{Asked, Asks, GoesBy, Place, Standing, Way, asked_so}
use Rattle.batch.specs.Logs.{AreFurther, FailsLog, HaveCome, IsNoPart, IsPart, IsPartBy, TellsLog}
use Rattle.batch.specs.declared.{asking.Receiver.Receiver, fault.BatchFault.BatchFault}
use Rattle.batch.proofs.Going.{goes_more}
use Rattle.client.specs.declared.fault.ClientFault.TheVariants as client
use Rattle.wire.specs.declared.frame.FrameBody.TheVariants as what

-- entries have come, by one request at least
pub record IsGoing (r : Receiver) (log : List Entry) (told : ℕ) (asked : List Asked) : Type 0 where
  pub some : 0 < length asked
  pub come : HaveCome r asked log told

-- ---- what an answer to a Log has

pub value_or : FrameBody → Result FrameBody ClientFault → FrameBody
value_or other (Ok w) = w
value_or other (Err e) = other

pub judged_is : (w answer : FrameBody) (own : Bool) → judged_what w own ≡ Ok answer
    → (w ≡ answer) × (own ≡ true)
unfolding value_or
judged_is (what.Refused refusal) answer own h =
    let refused : Result FrameBody ClientFault = Err (client.Refused refusal) in
    absurd (let k : refused ≡ Ok answer = h in cc)
judged_is w answer true h = let k : Ok w ≡ Ok answer = h in (ap (value_or w) k, refl)
judged_is w answer false h =
    let none : Result FrameBody ClientFault = Err client.NoAnswer in
    absurd (let k : none ≡ Ok answer = h in cc)

pub last_of : (a b c : Bool) → (a && b && c) ≡ true → c ≡ true
last_of true true c h = h
last_of true false c h = absurd (let k : false ≡ true = h in cc)
last_of false b c h = absurd (let k : false ≡ true = h in cc)

-- ---- one part after the other

further_more : (r : Receiver) (position told : ℕ) (asked : List Asked) (log : List Entry)
    (last : ℕ) (a : Asked) (len : ℕ) (entries : List Entry)
    → AreFurther r position told asked log last → position + length log < last
    → IsPartBy r (position + length log) last len entries a
    → AreFurther r position told (asked ++ a ∷ []) (log ++ entries) len
further_more r position told [] log last a len entries h more part =
    let none : length log ≡ 0 = ap length h.0 in
    let here : position + length log ≡ position = omega (arith, none) in (
      len,
      entries,
      [],
      omega (arith, more, none, h.1),
      subst (λ n. IsPartBy r n told len entries a) here
          (subst (λ n. IsPartBy r (position + length log) n len entries a) h.1 part),
      (refl, refl),
      ap (λ l. l ++ entries) h.0 ∙ sym (append-nil entries),
    )
further_more r position told (b ∷ asked) log last a len entries h more part =
    let first = h.1 in
    let rest = h.2 in
    let all : length log ≡ length first + length rest =
    ap length h.6 ∙ length-append first rest in
    let here : position + length log ≡ (position + length first) + length rest =
    omega (arith, all) in (
      h.0,
      first,
      rest ++ entries,
      h.3,
      h.4,
      further_more r (position + length first) h.0 asked rest last a len entries h.5
          (subst (λ n. n < last) here more)
          (subst (λ n. IsPartBy r n last len entries a) here part),
      ap (λ l. l ++ entries) h.6 ∙ append_assoc first rest entries,
    )

pub going_first : (r : Receiver) (a : Asked) (len : ℕ) (entries : List Entry)
    → IsPartBy r 0 0 len entries a → IsGoing r entries len (a ∷ [])
going_first r a len entries part = record {
  some = omega arith;
  come = (len, entries, [], part, (refl, refl), sym (append-nil entries));
}

pub going_more : (r : Receiver) (log : List Entry) (told : ℕ) (asked : List Asked) (a : Asked)
    (len : ℕ) (entries : List Entry) → IsGoing r log told asked → length log < told
    → IsPartBy r (length log) told len entries a → IsGoing r (log ++ entries) len (asked ++ a ∷ [])
going_more r log told [] a len entries h more part =
    let some : 0 < 0 = h.some in absurd (omega (arith, some))
going_more r log told (b ∷ asked) a len entries h more part =
    let come : HaveCome r (b ∷ asked) log told = h.come in
    let first = come.1 in
    let rest = come.2 in
    let all : length log ≡ length first + length rest =
    ap length come.5 ∙ length-append first rest in
    record {
      some = omega arith;
      come = (
        come.0,
        first,
        rest ++ entries,
        come.3,
        further_more r (length first) come.0 asked rest told a len entries come.4
            (subst (λ n. n < told) all more)
            (subst (λ n. IsPartBy r n told len entries a) all part),
        ap (λ l. l ++ entries) come.5 ∙ append_assoc first rest entries,
      );
    }

-- ---- with what became of connections

part_by : (r : Receiver) (position told len : ℕ) (entries : List Entry) (answer : FrameBody)
    → IsAnswer (log_of r position) answer → IsPart position told len entries answer
    → IsPartBy r position told len entries (asked_so (log_of r position) (Ok answer))
part_by r position told len entries answer comes part =
    record { answer = answer; request = refl; answered = refl; comes = comes; part = part }

first_adds : (p : Place) (a b : Standing) (r : Receiver) (after : List Entry) (len : ℕ)
    → AddsPart (record { place = p; old = a; new = b }) r [] 0 after len
    → Asks p a b (IsGoing r after len)
first_adds p a b r after len h = (
  asked_so (log_of r 0) (Ok h.answer) ∷ [],
  h.goes,
  subst (λ l. IsGoing r l len (asked_so (log_of r 0) (Ok h.answer) ∷ [])) (sym h.behind)
      (going_first r (asked_so (log_of r 0) (Ok h.answer)) len h.entries
      (part_by r 0 0 len h.entries h.answer h.comes h.part)),
)

pub asks_first : (p : Place) (a b : Standing) (r : Receiver) (before after : List Entry) (len : ℕ)
    → before ≡ [] → AddsPart (record { place = p; old = a; new = b }) r before 0 after len
    → Asks p a b (IsGoing r after len)
asks_first p a b r before after len none h =
    first_adds p a b r after len
    (subst (λ l. AddsPart (record { place = p; old = a; new = b }) r l 0 after len) none h)

pub asks_more : (p : Place) (a b c : Standing) (r : Receiver) (log : List Entry) (told : ℕ)
    (after : List Entry) (len : ℕ) → Asks p a b (IsGoing r log told) → length log < told
    → AddsPart (record { place = p; old = b; new = c }) r log told after len
    → Asks p a c (IsGoing r after len)
asks_more p a b c r log told after len i more h =
    let one = asked_so (log_of r (length log)) (Ok h.answer) in (
      i.0 ++ one ∷ [],
      goes_more p a b c i.0 (one ∷ []) i.1 h.goes,
      subst (λ l. IsGoing r l len (i.0 ++ one ∷ [])) (sym h.behind)
          (going_more r log told i.0 one len h.entries i.2 more
          (part_by r (length log) told len h.entries h.answer h.comes h.part)),
    )

-- all has come
pub asks_all : (p : Place) (a b : Standing) (r : Receiver) (log : List Entry) (told : ℕ)
    → told ≡ length log → Asks p a b (IsGoing r log told) → Asks p a b (TellsLog r log)
asks_all p a b r log told all i = (
  i.0,
  i.1,
  record { some = i.2.some; come = subst (λ n. HaveCome r i.0 log n) all i.2.come },
)

first_fails : (p : Place) (a b : Standing) (r : Receiver) (f : BatchFault)
    → FailsPart (record { place = p; old = a; new = b }) r [] 0 f → Asks p a b (FailsLog f r)
first_fails p a b r f h = (
  asked_so (log_of r 0) h.answer ∷ [],
  h.goes,
  inr (record {
    front = [];
    log = [];
    told = 0;
    last = h.answer;
    parts = refl;
    come = (refl, refl);
    goes_on = inl refl;
    fails = h.fails;
  }),
)

pub stops_first : (p : Place) (a b : Standing) (r : Receiver) (before : List Entry)
    (f : BatchFault) → before ≡ []
    → FailsPart (record { place = p; old = a; new = b }) r before 0 f → Asks p a b (FailsLog f r)
stops_first p a b r before f none h =
    first_fails p a b r f
    (subst (λ l. FailsPart (record { place = p; old = a; new = b }) r l 0 f) none h)

pub stops_more : (p : Place) (a b c : Standing) (r : Receiver) (log : List Entry) (told : ℕ)
    (f : BatchFault) → Asks p a b (IsGoing r log told) → length log < told
    → FailsPart (record { place = p; old = b; new = c }) r log told f → Asks p a c (FailsLog f r)
stops_more p a b c r log told f i more h =
    let one = asked_so (log_of r (length log)) h.answer in (
      i.0 ++ one ∷ [],
      goes_more p a b c i.0 (one ∷ []) i.1 h.goes,
      inr (record {
        front = i.0;
        log = log;
        told = told;
        last = h.answer;
        parts = refl;
        come = i.2.come;
        goes_on = inr more;
        fails = h.fails;
      }),
    )

-- ---- one request

pub adds_part : (w : Way) (r : Receiver) (before after entries : List Entry)
    (told len position : ℕ) (answer : FrameBody) (request : Frame) → position ≡ length before
    → request ≡ log_of r position → GoesBy w (asked_so request (Ok answer) ∷ [])
    → IsAnswer request answer → (IsAnswer (log_of r position) answer
    → IsPart position told len entries answer × (len ≤ 65536))
    → after ≡ before ++ entries → AddsPart w r before told after len
adds_part w r before after entries told len position answer request here is goes comes part
    behind =
    let asked : request ≡ log_of r (length before) = is ∙ ap (log_of r) here in
    let first = part (subst (λ f. IsAnswer f answer) is comes) in
    record {
      answer = answer;
      entries = entries;
      goes = subst (λ f. GoesBy w (asked_so f (Ok answer) ∷ [])) asked goes;
      comes = subst (λ f. IsAnswer f answer) asked comes;
      part = subst (λ n. IsPart n told len entries answer) here first.0;
      behind = behind;
      most = first.1;
    }

pub fails_part : (w : Way) (r : Receiver) (before : List Entry) (told position : ℕ)
    (result : Result FrameBody BatchFault) (f : BatchFault) (request : Frame)
    → position ≡ length before → request ≡ log_of r position
    → GoesBy w (asked_so request result ∷ []) → IsNoPart f position told result
    → FailsPart w r before told f
fails_part w r before told position result f request here is goes none =
    record {
      answer = result;
      goes = subst (λ q. GoesBy w (asked_so q result ∷ [])) (is ∙ ap (log_of r) here) goes;
      fails = subst (λ n. IsNoPart f n told result) here none;
    }

-- the entries that have come are no more than the log was told to have
pub part_within : (w : Way) (r : Receiver) (before after : List Entry) (told len : ℕ)
    → AddsPart w r before told after len → length after ≤ len
part_within w r before after told len h =
    let all : length after ≡ length before + length h.entries =
    ap length h.behind ∙ length-append before h.entries in
    let within = h.part.within in
    omega (arith, all, within)

-- they are more than before
pub part_longer : (w : Way) (r : Receiver) (before after : List Entry) (told len : ℕ)
    → length before < told → AddsPart w r before told after len → length before < length after
part_longer w r before after told len more h =
    let all : length after ≡ length before + length h.entries =
    ap length h.behind ∙ length-append before h.entries in
    let grows = h.part.grows in
    let goes_on : 0 < length h.entries = h.part.goes_on (omega (arith, more, grows)) in
    omega (arith, all, goes_on)
