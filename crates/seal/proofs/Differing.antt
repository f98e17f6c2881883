-- What came is not what was sent.
use Rattle.std.proofs.Common.{◌≡◌, ℕ, suc, ◌+◌, ◌^◌, ◌<◌, ◌≤◌, List, [], ◌∷◌, ◌++◌, length, take}
use Rattle.std.proofs.Common.{Option, None, refl, sym, ap, subst, ◌∙◌, append_assoc, arith, inl}
use Rattle.std.proofs.Common.{slice_index, slice_set}
use Rattle.std.specs.Int.{w16, w32, to_be_bytes, from_be_bytes}
use Rattle.std.proofs.lemmas.List.{append-nil, take_at, get_or-set_same, length-set}
use Rattle.seal.specs.declared.{channel.Channel.Channel, fault.StreamFault.StreamFault}
use Rattle.seal.specs.Records.{mark, tag, record_of, records, IsBody, AreBodies}
use Rattle.seal.specs.Streams.{BeginsRecord, joined, HandsOn}
use Rattle.seal.specs.Laws.{IsNoMark, ReadsBack, GoesOn, IsNotForged, Differs, HandsOnFront}
use Rattle.seal.specs.Laws.{IsChanged, changed, StopsAtChange, StopsAtOther}
use Rattle.seal.proofs.Whole.{same_parts, parted, short, length-tag}
use Rattle.seal.proofs.Ending.{not_begun, one_reading}
use Rattle.seal.proofs.Reading.{from_zero, reads_only, records-append, bodies-append}

pub no_mark : (first : List ℕ) → IsNoMark first
no_mark first low e =
    let P : List ℕ → Type 0 = λ s. from_be_bytes w32 s ≤ 300000 in
    let bad : from_be_bytes w32 mark ≤ 300000 = subst P e low in omega arith

pub back : (c : Channel) (bodies : List (List ℕ)) → AreBodies 0 bodies → ReadsBack c bodies
back c bodies each =
    let it : HandsOn c (records c 0 bodies) (joined bodies) None = (
      bodies,
      record {
        rest = [];
        whole = sym (append-nil (records c 0 bodies));
        each = each;
        ends = inl (omega arith);
      },
      refl,
    ) in
    record { back = it; only = reads_only c (records c 0 bodies) (joined bodies) None it }

pub one_more : (c : Channel) (bodies : List (List ℕ)) (body : List ℕ) → AreBodies 0 bodies
    → IsBody (length bodies) body → GoesOn c bodies body
one_more c bodies body each good =
    let zero : length bodies ≡ 0 + length bodies = omega arith in
    let next = subst (λ (k : ℕ). AreBodies k (body ∷ [])) zero (good, tt) in
    let sent : records c 0 (bodies ++ body ∷ [])
    ≡ records c 0 bodies ++ record_of c (length bodies) body =
    records-append c 0 bodies (body ∷ [])
    ∙ ap (λ (k : ℕ). records c 0 bodies ++ records c k (body ∷ [])) (sym zero)
    ∙ ap (λ (s : List ℕ). records c 0 bodies ++ s)
    (append-nil (record_of c (length bodies) body)) in
    record { good = bodies-append 0 bodies (body ∷ []) each next; sent = sent }

-- the records in front are all, where none is after them
front_only : (c : Channel) (front : List (List ℕ)) (rest came : List ℕ) → AreBodies 0 front
    → came ≡ records c 0 front ++ rest → ¬ BeginsRecord c (length front) rest
    → HandsOnFront c front came
front_only c front rest came good whole none handed fault hands =
    let zero : length front ≡ 0 + length front = omega arith in
    let p = subst (λ (k : ℕ). ¬ BeginsRecord c k rest) zero none in
    let q = not_begun c (0 + length hands.0) fault hands.1.rest
    (from_zero c (length hands.0) fault hands.1.rest hands.1.ends) in
    let one = one_reading c 0 front hands.0 rest hands.1.rest good hands.1.each p q
    (sym whole ∙ hands.1.whole) in
    hands.2 ∙ ap (λ (zs : List (List ℕ)). joined zs) (sym one.0)

-- a record that is not the one that was sent is forged
forged : (c : Channel) (n : ℕ) (sent rest : List ℕ)
    → ((more : List ℕ) → ¬ (rest ≡ record_of c n sent ++ more)) → IsNotForged c n sent rest
    → ¬ BeginsRecord c n rest
unfolding record_of
forged c n sent rest other not begun =
    let body = begun.0 in let more = begun.1 in
    let differs : ¬ (body ≡ sent) = λ e.
    other more (begun.3 ∙ ap (λ (b : List ℕ). record_of c n b ++ more) e) in
    let length_bytes = to_be_bytes w16 (length body) in
    let parts : rest ≡ length_bytes ++ (body ++ (tag c n body ++ more)) =
    begun.3 ∙ append_assoc length_bytes (body ++ tag c n body) more
    ∙ ap (λ (s : List ℕ). length_bytes ++ s) (append_assoc body (tag c n body) more) in
    not body (tag c n body) more begun.2 differs (length-tag c n body) parts refl

pub stops : (c : Channel) (front : List (List ℕ)) (sent came : List ℕ) → Differs c front sent came
    → HandsOnFront c front came
stops c front sent came d =
    front_only c front d.rest came d.good d.whole
    (forged c (length front) sent d.rest d.other d.not_forged)

-- a list with a changed element does not begin with the list
not_same : (r later more : List ℕ) (at byte : ℕ) → at < length r → ¬ (byte ≡ slice_index r at)
    → ¬ (slice_set r at byte ++ later ≡ r ++ more)
not_same r later more at byte within other e =
    let same = (parted (slice_set r at byte) r later more (length-set r at byte) e).0 in
    other (sym (get_or-set_same r at byte 0 within) ∙ ap (λ (s : List ℕ). slice_index s at) same)

pub at_change : (c : Channel) (front : List (List ℕ)) (body : List ℕ) (at byte : ℕ)
    (later : List ℕ) → StopsAtChange c front body at byte later
at_change c front body at byte later good change not =
    let n = length front in
    front_only c front (changed c n body at byte later)
    (records c 0 front ++ changed c n body at byte later) good refl
    (forged c n body (changed c n body at byte later)
    (λ more. not_same (record_of c n body) later more at byte change.within change.other) not)

pub at_other : (c : Channel) (front : List (List ℕ)) (d : Channel) (m : ℕ) (body later : List ℕ)
    → StopsAtOther c front d m body later
at_other c front d m body later good small other =
    let n = length front in
    front_only c front (record_of d m body ++ later)
    (records c 0 front ++ (record_of d m body ++ later)) good refl
    (λ begun.
    let parts = same_parts d c m n body begun.0 later begun.1 small
    (short n begun.0 begun.2) begun.3
    in other (parts.1 ∙ ap (λ (b : List ℕ). tag c n b) (sym parts.0)))
