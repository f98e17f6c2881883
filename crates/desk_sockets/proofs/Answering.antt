-- Who answers, by what is said in pieces.
use Rattle.std.proofs.Common.{◌≡◌, ◌<◌, ◌≤◌, ◌-◌, ◌+◌, ℕ, ltb, eqb, min, Bool, true, false, not}
use Rattle.std.proofs.Common.{◌||◌, List, [], ◌++◌, length, take, get_or, Option, Some, None, refl}
use Rattle.std.proofs.Common.{sym, ap, ◌∙◌, ◌≢◌, inl, arith, append_assoc, eq-eqb, ne_eqb}
use Rattle.std.proofs.lemmas.Bool.{ltb-true, ltb-false, lt-ltb, le-ltb}
use Rattle.std.proofs.lemmas.List.{append-nil, take_all, take_min, take-append-le}
use Rattle.std.proofs.lemmas.{List.length-take, Nat.from_be_bytes-to_be_bytes_4}
use Rattle.std.proofs.Math.Seq.{take-append-add}
use Rattle.wire.specs.{Ranges.IsFrame, Spelling.spelling, declared.frame.Frame.Frame}
use Rattle.sealed.specs.ends.ClientStreams.{ClientStreamOf}
use Rattle.desk_sockets.specs.{Said.IsSaid, declared.asking.AskedPeer.AskedPeer}
use Rattle.desk_sockets.specs.Answering.{AnsweringOf, Hands, Hears, answering, fronted, hall_in}
use Rattle.desk_sockets.specs.Answering.{heard, is_foreign, judged}

-- ---- the first ten bytes

-- those of a frame name its hall and its sender
names : (f : Frame) (rest : List ℕ) → IsFrame f → (hall_in (take 10 (spelling f ++ rest)) ≡ f.hall)
    × (get_or (take 10 (spelling f ++ rest)) 9 0 ≡ f.from)
names f rest fits = (from_be_bytes-to_be_bytes_4 f.hall fits.hall, refl)

pub foreign_frame : (p : AskedPeer) (f : Frame) (rest front : List ℕ) → IsFrame f
    → front ≡ take 10 (spelling f ++ rest)
    → is_foreign p front ≡ (not (eqb f.hall p.hall) || not (eqb f.from p.desk))
foreign_frame p f rest front fits is =
    let named = names f rest fits in
    ap (is_foreign p) is
    ∙ ap (λ (h : ℕ). not (eqb h p.hall)
    || not (eqb (get_or (take 10 (spelling f ++ rest)) 9 0) p.desk)) named.0
    ∙ ap (λ (s : ℕ). not (eqb f.hall p.hall) || not (eqb s p.desk)) named.1

-- they name another hall, or this one and a sender
pub foreign_hall : (p : AskedPeer) (front : List ℕ) (hall : ℕ) → hall ≡ hall_in front
    → hall ≢ p.hall → is_foreign p front ≡ not (eqb hall p.hall)
foreign_hall p front hall is other =
    ap (λ (h : ℕ). not (eqb h p.hall) || not (eqb (get_or front 9 0) p.desk)) (sym is)
    ∙ ap (λ (b : Bool). not b || not (eqb (get_or front 9 0) p.desk)) (ne_eqb hall p.hall other)
    ∙ sym (ap (λ (b : Bool). not b) (ne_eqb hall p.hall other))

pub same_hall : (p : AskedPeer) (front : List ℕ) (hall : ℕ) → hall ≡ hall_in front → hall ≡ p.hall
    → is_foreign p front ≡ not (eqb (get_or front 9 0) p.desk)
same_hall p front hall is same =
    ap (λ (h : ℕ). not (eqb h p.hall) || not (eqb (get_or front 9 0) p.desk)) (sym is)
    ∙ ap (λ (b : Bool). not b || not (eqb (get_or front 9 0) p.desk)) (eq-eqb hall p.hall same)

-- those of bytes, of which there are these before
firsts : (xs said : List ℕ) (count : ℕ) → length xs ≤ 10
    → count ≡ min (10 - length xs) (length said) → take 10 (xs ++ said) ≡ xs ++ take count said
firsts xs said count few is =
    let whole : 10 ≡ length xs + (10 - length xs) = omega arith in
    ap (λ (n : ℕ). take n (xs ++ said)) whole ∙ take-append-add xs said (10 - length xs)
    ∙ ap (λ (ys : List ℕ). xs ++ ys)
    (sym (take_min (10 - length xs) said) ∙ ap (λ (n : ℕ). take n said) (sym is))

-- ---- what was said at once

-- ten bytes have come: nothing changes
still : (said : List ℕ) (a : AnsweringOf) → ltb (length a.front) 10 ≡ false → heard said a ≡ a
still said a is = rw is

fills : (said : List ℕ) (a : AnsweringOf) → ltb (length a.front) 10 ≡ true
    → heard said a ≡ fronted (take 10 (a.front ++ said)) a
fills said a is = rw is

few : (front : List ℕ) (a : AnsweringOf) → ltb (length front) 10 ≡ true
    → fronted front a ≡ record a { front = front }
few front a is = rw is

enough : (front : List ℕ) (a : AnsweringOf) → ltb (length front) 10 ≡ false
    → fronted front a ≡ judged a.asked (record a { front = front })
enough front a is = rw is

fronts : (said front : List ℕ) (count : ℕ) (a : AnsweringOf) → length a.front < 10
    → count ≡ min (10 - length a.front) (length said) → front ≡ a.front ++ take count said
    → heard said a ≡ fronted front a
fronts said front count a room is put =
    fills said a (lt-ltb _ _ room)
    ∙ ap (λ (x : List ℕ). fronted x a) (firsts a.front said count (omega arith) is ∙ sym put)

hears_few : (said front : List ℕ) (count : ℕ) (a : AnsweringOf) → length a.front < 10
    → count ≡ min (10 - length a.front) (length said) → front ≡ a.front ++ take count said
    → length front < 10 → heard said a ≡ record a { front = front }
hears_few said front count a room is put short =
    fronts said front count a room is put ∙ few front a (lt-ltb _ _ short)

hears_ten : (said front : List ℕ) (count : ℕ) (a : AnsweringOf) → length a.front < 10
    → count ≡ min (10 - length a.front) (length said) → front ≡ a.front ++ take count said
    → 10 ≤ length front → heard said a ≡ judged a.asked (record a { front = front })
hears_ten said front count a room is put full =
    fronts said front count a room is put ∙ enough front a (le-ltb _ _ full)

-- bytes were put after the first ones of ten, and this many have come by then
pub record IsPut (was now said : List ℕ) (held count next : ℕ) : Type 0 where
  pub size : length was ≡ 10
  pub room : held < 10
  pub taken : count ≡ min (10 - held) (length said)
  pub put : take next now ≡ take held was ++ take count said
  pub same : length now ≡ length was

module _ (asked : Option AskedPeer) (known foreign : Bool) {was now said : List ℕ}
    {held count next : ℕ} (h : IsPut was now said held count next) where
  here : length (take held was) ≡ held
  here = omega (arith, h.size, h.room, length-take held was)

  pub put_few : next < 10 → heard said (answering asked (take held was) known foreign)
      ≡ answering asked (take next now) known foreign
  put_few short =
      hears_few said (take next now) count (answering asked (take held was) known foreign)
      (omega (arith, here, h.room)) (rw here h.taken) h.put
      (omega (arith, short, length-take next now))

  put_ten : 10 ≤ next → heard said (answering asked (take held was) known foreign)
      ≡ judged asked (answering asked (take next now) known foreign)
  put_ten full =
      hears_ten said (take next now) count (answering asked (take held was) known foreign)
      (omega (arith, here, h.room)) (rw here h.taken) h.put
      (omega (arith, full, h.size, h.same, length-take next now))

  pub put_unasked : 10 ≤ next → asked ≡ None
      → heard said (answering asked (take held was) known foreign)
      ≡ answering asked (take next now) known foreign
  put_unasked full none =
      put_ten full ∙ ap (λ (o : Option AskedPeer). judged o
      (answering asked (take next now) known foreign)) none

  -- what ten bytes tell, of which the front is all
  pub put_asked : (p : AskedPeer) (told : Bool) → 10 ≤ next → asked ≡ Some p
      → told ≡ is_foreign p now → heard said (answering asked (take held was) known foreign)
      ≡ answering asked (take next now) (not told) (told || foreign)
  put_asked p told full some is =
      put_ten full
      ∙ ap (λ (o : Option AskedPeer). judged o (answering asked (take next now) known foreign)) some
      ∙ ap (λ (f : Bool). answering asked (take next now) (not f) (f || foreign))
      (ap (is_foreign p) (take_all next now (omega (arith, full, h.size, h.same))) ∙ sym is)

-- ---- nothing, and two pieces

none_by : (a : AnsweringOf) (b : Bool) → ltb (length a.front) 10 ≡ b → heard [] a ≡ a
none_by a false is = still [] a is
none_by a true is =
    let all : take 10 (a.front ++ []) ≡ a.front =
    ap (λ (x : List ℕ). take 10 x) (append-nil a.front)
    ∙ take_all 10 a.front (omega (arith, ltb-true _ _ is)) in
    fills [] a is ∙ ap (λ (x : List ℕ). fronted x a) all ∙ few a.front a is

pub heard_none : (a : AnsweringOf) → heard [] a ≡ a
heard_none a = none_by a (ltb (length a.front) 10) refl

judged_front : (o : Option AskedPeer) (a : AnsweringOf) → (judged o a).front ≡ a.front
judged_front None a = refl
judged_front (Some p) a = refl

-- the first piece makes it ten bytes, or it doesn't
both_in : (s m : List ℕ) (a : AnsweringOf) (b : Bool) → ltb (length a.front) 10 ≡ true
    → ltb (length (take 10 (a.front ++ s))) 10 ≡ b → heard m (heard s a) ≡ heard (s ++ m) a
both_in s m a true room is =
    let short : length (a.front ++ s) < 10 =
    omega (arith, ltb-true _ _ is, length-take 10 (a.front ++ s)) in
    let first : heard s a ≡ record a { front = a.front ++ s } =
    fills s a room ∙ few (take 10 (a.front ++ s)) a is
    ∙ ap (λ (x : List ℕ). record a { front = x }) (take_all 10 (a.front ++ s) (omega arith)) in
    ap (heard m) first ∙ fills m (record a { front = a.front ++ s }) (lt-ltb _ _ short)
    ∙ ap (λ (x : List ℕ). fronted (take 10 x) a) (append_assoc a.front s m)
    ∙ sym (fills (s ++ m) a room)
both_in s m a false room is =
    let long : 10 ≤ length (a.front ++ s) =
    omega (arith, ltb-false _ _ is, length-take 10 (a.front ++ s)) in
    let there : take 10 (a.front ++ (s ++ m)) ≡ take 10 (a.front ++ s) =
    ap (λ (x : List ℕ). take 10 x) (sym (append_assoc a.front s m))
    ∙ take-append-le 10 (a.front ++ s) m long in
    let full : ltb (length (heard s a).front) 10 ≡ false =
    ap (λ (x : AnsweringOf). ltb (length x.front) 10)
    (fills s a room ∙ enough (take 10 (a.front ++ s)) a is)
    ∙ ap (λ (x : List ℕ). ltb (length x) 10)
    (judged_front a.asked (record a { front = take 10 (a.front ++ s) })) ∙ is in
    still m (heard s a) full ∙ fills s a room ∙ ap (λ (x : List ℕ). fronted x a) (sym there)
    ∙ sym (fills (s ++ m) a room)

both_by : (s m : List ℕ) (a : AnsweringOf) (b : Bool) → ltb (length a.front) 10 ≡ b
    → heard m (heard s a) ≡ heard (s ++ m) a
both_by s m a true is = both_in s m a (ltb (length (take 10 (a.front ++ s))) 10) is refl
both_by s m a false is =
    ap (heard m) (still s a is) ∙ still m a is ∙ sym (still (s ++ m) a is)

pub heard_both : (s m : List ℕ) (a : AnsweringOf) → heard m (heard s a) ≡ heard (s ++ m) a
heard_both s m a = both_by s m a (ltb (length a.front) 10) refl

-- ---- what was handed on with it

said_none : {S : Type 0} (remaining : S → Option (List ℕ)) (call : Option ClientStreamOf)
    → IsSaid remaining call []
said_none remaining None = refl
said_none remaining (Some c) = inl refl

pub hands_none : {S : Type 0} {remaining : S → Option (List ℕ)} {call : Option ClientStreamOf}
    {xs : List ℕ} {a : AnsweringOf} → Hands remaining call xs xs a a
hands_none {remaining = remaining} {call} {xs} {a} = record {
  said = [];
  read = said_none remaining call;
  handed = sym (append-nil xs);
  who = sym (heard_none a);
}

pub hears_nothing : {S : Type 0} {remaining : S → Option (List ℕ)} {call : Option ClientStreamOf}
    {a : AnsweringOf} → Hears remaining call a a
hears_nothing {remaining = remaining} {call} {a} =
    record { said = []; read = said_none remaining call; who = sym (heard_none a) }

pub hears_these : {S : Type 0} {remaining : S → Option (List ℕ)} {call : Option ClientStreamOf}
    {xs ys : List ℕ} {a b : AnsweringOf} → Hands remaining call xs ys a b → Hears remaining call a b
hears_these h = record { said = h.said; read = h.read; who = h.who }
