-- A held beginning of a frame, with bytes of a piece put after it.
use Rattle.std.proofs.Common.{◌≡◌, ◌⊎◌, ℕ, ◌+◌, ◌<◌, ◌≤◌, Bool, true, false, ltb, List, [], ◌++◌}
use Rattle.std.proofs.Common.{length, take, drop, Some, Result, Ok, Err, refl, sym, ap, subst, ◌∙◌}
use Rattle.std.proofs.Common.{append_assoc, arith, inl, inr}
use Rattle.std.specs.{Prelude.IsOk, Int.w32, Int.from_be_bytes}
use Rattle.std.proofs.lemmas.Bool.{ltb-true, ltb-false, lt-ltb, le-ltb}
use Rattle.std.proofs.lemmas.List.{take_at, drop_at, drop_all, drop-drop, append-nil, length-drop}
use Rattle.std.proofs.lemmas.List.{take-append-le, drop-append-le, take-append-drop, length-append}
use Rattle.wire.specs.declared.{fault.WireFault.WireFault, frame.Frame.Frame}
use Rattle.wire.specs.declared.fault.WireFault.TheVariants.{BadLength, NoMemory}
use Rattle.wire.specs.{Laws.length_at, Laws.IsLength, model.Gives.GivesFrame}
use Rattle.wire.specs.Reading.{between, frame_of}
use Rattle.wire.specs.Stream.{Front, Waits, Breaks, by_frame, front, IsBegun}
use Rattle.wire.specs.model.Steps.{GivesLength, IsToppedUp, Finishes, StandsInFront}
use Rattle.wire.proofs.{Faults.Tells, Faults.tells, Pieces.breaks_more}

-- ---- the front, by the number in its first four bytes

pub front_short : (bytes : List ℕ) → length bytes < 4 → front bytes ≡ Waits
unfolding front
front_short bytes lt = rw (lt-ltb (length bytes) 4 lt) refl

pub front_bad : (bytes : List ℕ) → 4 ≤ length bytes → between 8 300000 (length_at bytes) ≡ false
    → front bytes ≡ Breaks BadLength
unfolding front
front_bad bytes four bad = rw (le-ltb (length bytes) 4 four, bad) refl

pub front_waits : (bytes : List ℕ) (n : ℕ) → 4 ≤ length bytes → n ≡ length_at bytes
    → between 8 300000 n ≡ true → length bytes < 4 + n → front bytes ≡ Waits
unfolding front
front_waits bytes n four is good lt =
    let known : between 8 300000 (length_at bytes) ≡ true =
    subst (λ (k : ℕ). between 8 300000 k ≡ true) is good in
    let short : ltb (length (drop 4 bytes)) (length_at bytes) ≡ true =
    lt-ltb _ _ (omega (arith, length-drop 4 bytes, is, lt)) in
    rw (le-ltb (length bytes) 4 four, known, short) refl

pub front_whole : (x y : List ℕ) (n : ℕ) → length x ≡ 4 + n → n ≡ length_at x
    → between 8 300000 n ≡ true → front (x ++ y) ≡ by_frame (frame_of (drop 4 x)) y
unfolding front
front_whole x y n long is good =
    let four : ltb (length (x ++ y)) 4 ≡ false =
    le-ltb _ _ (omega (arith, length-append x y, long)) in
    let head : take 4 (x ++ y) ≡ take 4 x = take-append-le 4 x y (omega (arith, long)) in
    let behind : drop 4 (x ++ y) ≡ drop 4 x ++ y = drop-append-le 4 x y (omega (arith, long)) in
    let known : between 8 300000 (length_at x) ≡ true =
    subst (λ (k : ℕ). between 8 300000 k ≡ true) is good in
    let size : length (drop 4 x) ≡ length_at x = omega (arith, length-drop 4 x, long, is) in
    let enough : ltb (length (drop 4 x ++ y)) (length_at x) ≡ false =
    le-ltb _ _ (omega (arith, length-append (drop 4 x) y, size)) in
    let inside : take (length_at x) (drop 4 x ++ y) ≡ drop 4 x = take_at (drop 4 x) y (length_at x)
    size in
    let rest : drop (length_at x) (drop 4 x ++ y) ≡ y = drop_at (drop 4 x) y (length_at x) size in
    rw (four, head, behind, known, enough, inside, rest) refl

-- what waits has less than its first four bytes, or less than they count
pub waits_below : (bytes : List ℕ) → front bytes ≡ Waits → 4 ≤ length bytes
    → IsLength (length_at bytes) × (length bytes < 4 + length_at bytes)
waits_below bytes waits four = subst (λ (at : Front). Tells at bytes) waits (tells bytes) four

pub waits_short : (bytes : List ℕ) → front bytes ≡ Waits → length bytes ≤ 300003
waits_short bytes waits = go (ltb (length bytes) 4) refl where
  go : (b : Bool) → ltb (length bytes) 4 ≡ b → length bytes ≤ 300003
  go true e = omega (arith, ltb-true _ _ e)
  go false e =
      let below = waits_below bytes waits (ltb-false _ _ e) in
      omega (arith, below.0.1, below.1)

-- ---- what a decoded frame says of the front

begun_by : (read : Result Frame WireFault) (y : List ℕ) → IsOk read → IsBegun (by_frame read y)
begun_by (Ok f) y h = tt
begun_by (Err e) y h = absurd cc

-- ---- bytes put after the held ones

pub joined : (size : ℕ) (piece old new : List ℕ) (added : ℕ) → IsToppedUp size piece old new added
    → new ++ drop added piece ≡ old ++ piece
joined size piece old new added up =
    ap (λ (x : List ℕ). x ++ drop added piece) up.held ∙ append_assoc old (take added piece)
    (drop added piece)
    ∙ ap (λ (x : List ℕ). old ++ x) (take-append-drop added piece)

-- where the piece is at its end, all of it is held
pub all_held : (new rest whole : List ℕ) → new ++ rest ≡ whole → rest ≡ [] → new ≡ whole
all_held new rest whole is none =
    sym (append-nil new) ∙ ap (λ (x : List ℕ). new ++ x) (sym none) ∙ is

at_end : (piece : List ℕ) (added : ℕ) → added ≡ length piece → drop added piece ≡ []
at_end piece added is = drop_all added piece (omega (arith, is))

pub stands_in_front : (old more : List ℕ) → StandsInFront old (old ++ more)
stands_in_front old more = take_at old more (length old) refl

-- at most four bytes are put, and the length is not there
pub no_length : (piece old new : List ℕ) (added : ℕ) → IsToppedUp 4 piece old new added
    → length new < 4 → (front (old ++ piece) ≡ Waits) × (new ≡ old ++ piece)
no_length piece old new added up lt =
    let ended : added ≡ length piece = go up.enough in
    let whole : new ≡ old ++ piece = all_held new (drop added piece) (old ++ piece)
    (joined 4 piece old new added up) (at_end piece added ended) in
    (subst (λ (x : List ℕ). front x ≡ Waits) whole (front_short new lt), whole) where
      go : (added ≡ length piece) ⊎ (4 ≤ length new) → added ≡ length piece
      go (inl e) = e
      go (inr four) = absurd (omega (arith, four, lt))

-- the length is there, and bad
bad_found : (piece old new : List ℕ) (added : ℕ) → IsToppedUp 4 piece old new added
    → front new ≡ Breaks BadLength → front (old ++ piece) ≡ Breaks BadLength
bad_found piece old new added up at =
    subst (λ (x : List ℕ). front x ≡ Breaks BadLength) (joined 4 piece old new added up)
    (breaks_more new (drop added piece) BadLength at)

pub bad_length : (piece old new : List ℕ) (added : ℕ) (e : WireFault)
    → IsToppedUp 4 piece old new added → GivesLength (Err e) new → Finishes (Err e) old piece new
bad_length piece old new added BadLength up gives = bad_found piece old new added up
    (front_bad new gives.0 gives.1)
bad_length piece old new added _ up gives = absurd gives

-- the length is there, and bytes were put to the frame's end if the piece goes so far
pub record IsFilled (old piece new : List ℕ) (n added : ℕ) : Type 0 where
  pub joined : new ++ drop added piece ≡ old ++ piece
  pub within : added ≤ length piece
  pub front : StandsInFront old new
  pub number : n ≡ length_at new
  pub good : between 8 300000 n ≡ true
  pub four : 4 ≤ length new
  pub most : length new ≤ 4 + n
  pub enough : (drop added piece ≡ []) ⊎ (4 + n ≤ length new)

same_head : (x y : List ℕ) → 4 ≤ length x → length_at (x ++ y) ≡ length_at x
same_head x y four = ap (from_be_bytes w32) (take-append-le 4 x y four)

-- what is held is not longer than its frame
not_longer : (piece old first : List ℕ) (n a : ℕ) → front old ≡ Waits
    → IsToppedUp 4 piece old first a → n ≡ length_at first → length first ≤ 4 + n
not_longer piece old first n a waits up is = go up.most where
  go : (length first ≤ 4) ⊎ (first ≡ old) → length first ≤ 4 + n
  go (inl four) = omega (arith, four)
  go (inr same) = of_old (ltb (length first) 4) refl where
    of_old : (b : Bool) → ltb (length first) 4 ≡ b → length first ≤ 4 + n
    of_old true e = omega (arith, ltb-true _ _ e)
    of_old false e =
        let waits_still : front first ≡ Waits = subst (λ (x : List ℕ). front x ≡ Waits) (sym same)
        waits in
        let below = waits_below first waits_still (ltb-false _ _ e) in
        omega (arith, below.1, is)

pub filled : (old piece first new : List ℕ) (n a b : ℕ) → front old ≡ Waits
    → IsToppedUp 4 piece old first a
    → GivesLength (Ok (Some n)) first → IsToppedUp (4 + n) (drop a piece) first new b
    → IsFilled old piece new n (a + b)
filled old piece first new n a b waits up gives more =
    let rest : drop (a + b) piece ≡ drop b (drop a piece) = sym (drop-drop b a piece) in
    let short : length first ≤ 4 + n = not_longer piece old first n a waits up gives.1 in
    record {
      joined = ap (λ (x : List ℕ). new ++ x) rest ∙ joined (4 + n) (drop a piece) first new b more
          ∙ joined 4 piece old first a up;
      within = omega (arith, up.within, more.within, length-drop a piece);
      front = in_front;
      number = gives.1 ∙ sym (ap length_at more.held ∙ same_head first (take b (drop a piece))
          gives.0);
      good = gives.2;
      four = omega (
        arith,
        gives.0,
        ap length more.held,
        length-append first
            (take b (drop a piece)),
      );
      most = most more.most short;
      enough = enough more.enough rest;
    } where
      in_front : StandsInFront old new
      in_front =
          let both : new ≡ old ++ (take a piece ++ take b (drop a piece)) =
          more.held ∙ ap (λ (x : List ℕ). x ++ take b (drop a piece)) up.held
          ∙ append_assoc old (take a piece) (take b (drop a piece)) in
          subst (λ (x : List ℕ). StandsInFront old x) (sym both)
          (stands_in_front old (take a piece ++ take b (drop a piece)))

      most : (length new ≤ 4 + n) ⊎ (new ≡ first) → length first ≤ 4 + n → length new ≤ 4 + n
      most (inl le) short = le
      most (inr same) short = omega (arith, ap length same, short)

      enough : (b ≡ length (drop a piece)) ⊎ (4 + n ≤ length new)
          → drop (a + b) piece ≡ drop b (drop a piece)
          → (drop (a + b) piece ≡ []) ⊎ (4 + n ≤ length new)
      enough (inl e) rest = inl (rest ∙ at_end (drop a piece) b e)
      enough (inr le) rest = inr le

pub still_waits : (old piece new : List ℕ) (n added : ℕ) → IsFilled old piece new n added
    → length new < 4 + n → (front (old ++ piece) ≡ Waits) × (new ≡ old ++ piece)
still_waits old piece new n added f lt =
    let whole : new ≡ old ++ piece = all_held new (drop added piece) (old ++ piece) f.joined
    (go f.enough) in (
      subst (λ (x : List ℕ). front x ≡ Waits) whole (front_waits new n f.four f.number f.good lt),
      whole,
    ) where
      go : (drop added piece ≡ []) ⊎ (4 + n ≤ length new) → drop added piece ≡ []
      go (inl e) = e
      go (inr le) = absurd (omega (arith, le, lt))

-- the frame is whole
pub whole_at : (old piece new : List ℕ) (n added : ℕ) → IsFilled old piece new n added
    → 4 + n ≤ length new
    → front (old ++ piece) ≡ by_frame (frame_of (drop 4 new)) (drop added piece)
whole_at old piece new n added f le =
    ap front (sym f.joined) ∙ front_whole new (drop added piece) n (omega (arith, f.most, le))
    f.number f.good

pub finished : (old piece new : List ℕ) (added : ℕ) (r read : Result Frame WireFault)
    → GivesFrame r read
    → front (old ++ piece) ≡ by_frame read (drop added piece) → added ≤ length piece → (f : Frame)
    → r ≡ Ok f → Finishes (Ok (Some (f, added))) old piece new
finished old piece new added r read gives at within f is =
    let read_is : read ≡ Ok f = subst (λ (x : Result Frame WireFault). GivesFrame x read) is
    gives in
    (at ∙ ap (λ (x : Result Frame WireFault). by_frame x (drop added piece)) read_is, within)

pub not_finished : (old piece new : List ℕ) (e : WireFault) (read : Result Frame WireFault)
    (y : List ℕ) → GivesFrame (Err e) read → front (old ++ piece) ≡ by_frame read y
    → Finishes (Err e) old piece new
not_finished old piece new BadLength read y gives at = absurd gives
not_finished old piece new NoMemory read y gives at = subst (λ (x : Front). IsBegun x) (sym at)
    (begun_by read y gives)
not_finished old piece new _ read y gives at = at
    ∙ ap (λ (x : Result Frame WireFault). by_frame x y) gives
