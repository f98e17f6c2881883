-- A whole frame: what is read is spelled so, and what is spelled so is read.
use Rattle.std.proofs.Common.{◌≡◌, ℕ, suc, ◌^◌, ◌<◌, ◌≤◌, Bool, true, false, cond, eqb, not, List}
use Rattle.std.proofs.Common.{[], ◌∷◌, ◌++◌, length, Option, Some, None, Result, Ok, Err, refl, sym}
use Rattle.std.proofs.Common.{ap, subst, ◌∙◌, arith}
use Rattle.std.specs.{Int.w32, Int.to_be_bytes, Int.from_be_bytes, List.list_any}
use Rattle.std.proofs.lemmas.{Bool.eqb-true, Bool.or_right, List.nil_from_length}
use Rattle.wire.specs.declared.fault.WireFault.{WireFault, TheVariants.BadKind, TheVariants.BadBody}
use Rattle.wire.specs.declared.frame.{Frame.Frame, FrameBody.FrameBody}
use Rattle.wire.specs.declared.frame.FrameBody.TheVariants.{Prepare, Promise, Accepted, SheetText}
use Rattle.wire.specs.declared.frame.FrameBody.TheVariants.{Accept, Behind, Decided, Sheet, Refused}
use Rattle.wire.specs.declared.frame.FrameBody.TheVariants.{Nack, Submit, Ask, Taken, Status, Await}
use Rattle.wire.specs.declared.frame.FrameBody.TheVariants.{Tick, Stop, Told, Fine, Log}
use Rattle.wire.specs.Ranges.{Way, Between, FromClient, ToClient, way_of, Goes, IsBody, IsFrame}
use Rattle.wire.{specs.declared.values.Version.Version, proofs.Sequences.numbered_is}
use Rattle.wire.specs.declared.values.Version.TheVariants.{One, Two, Three, Four, Five}
use Rattle.wire.specs.Numbers.{IsFromThree, IsFromFive, versions, version_number}
use Rattle.wire.specs.Reading.{empty_of, what_of, is_kind, is_desk, goes, frame_from, frame_in}
use Rattle.wire.specs.Reading.{version_of, frame_of, first_kinds, later_kinds}
use Rattle.wire.specs.Spelling.{kind_of, body, inside}
use Rattle.wire.proofs.Taking.{IsBytes, IsBytes-take, passed, wide32}
use Rattle.wire.proofs.FieldLaws.{and_true, both_true, between_is, between_holds}
use Rattle.wire.proofs.Frames.{IsWhat, taken_as, decided_takes, standing_takes, entries_takes}
use Rattle.wire.proofs.{Frames.what_again, Sequences.two_fields, FieldLaws.ballot_field}
use Rattle.wire.proofs.FieldLaws.{position_field, report_field, entry_field, limited_field}
use Rattle.wire.proofs.FieldLaws.{log_length_field, byte_field, any_field, id_field}
use Rattle.wire.proofs.Bodies.{event_field, style_field, refusal_field, standing_field}
use Rattle.wire.specs.declared.frame.FrameBody.TheVariants as variant

-- a kind without fields
empty_takes : (v : Version) (kind : ℕ) (what : FrameBody) (bytes : List ℕ) (w : FrameBody)
    → kind_of what ≡ kind → body v what ≡ [] → IsBody v what → empty_of what bytes ≡ Some w
    → IsWhat v kind bytes w
empty_takes v kind what bytes w number empty fits e =
    let a = passed (eqb (length bytes) 0) what w e in
    let nothing : bytes ≡ [] = nil_from_length bytes (eqb-true _ _ a.0) in
    subst (λ (y : FrameBody). IsWhat v kind bytes y) a.1
    (record { number = number; spelled = nothing ∙ sym empty; fits = fits })

text_takes : (v : Version) (bytes : List ℕ) (w : FrameBody) → length bytes ≤ 299992
    → Some (SheetText bytes) ≡ Some w → IsWhat v 34 bytes w
text_takes v bytes w short e =
    let same : SheetText bytes ≡ w = cc in
    subst (λ (y : FrameBody). IsWhat v 34 bytes y) same
    (record { number = refl; spelled = refl; fits = short })

-- one test of the chain: the kind is this one, or the chain goes on
pick : (v : Version) (kind k : ℕ) (bytes : List ℕ) (w : FrameBody) (x y : Option FrameBody)
    → (kind ≡ k → x ≡ Some w → IsWhat v k bytes w) → (y ≡ Some w → IsWhat v kind bytes w)
    → cond (eqb kind k) x y ≡ Some w → IsWhat v kind bytes w
pick v kind k bytes w x y here there e = go (eqb kind k) refl e where
  go : (b : Bool) → eqb kind k ≡ b → cond b x y ≡ Some w → IsWhat v kind bytes w
  go true t h =
      let is : kind ≡ k = eqb-true _ _ t in
      subst (λ (n : ℕ). IsWhat v n bytes w) (sym is) (here is h)
  go false t h = there h

-- whether a kind is one of every version
abbrev is_first : ℕ → Bool
is_first kind = list_any (λ k. eqb k kind) first_kinds

more_kinds : (kind : ℕ) → is_first kind ≡ true → list_any (λ k. eqb k kind) later_kinds ≡ true
more_kinds kind e =
    or_right (eqb 21 kind) _ (or_right (eqb 22 kind) _ (or_right (eqb 37 kind) _
    (or_right (eqb 38 kind) _ e)))

-- a kind of every version is one of this version
first_kind : (v : Version) (kind : ℕ) → is_first kind ≡ true → is_kind v kind ≡ true
first_kind One kind e = e
first_kind Two kind e = e
first_kind Three kind e = more_kinds kind e
first_kind Four kind e = more_kinds kind e
first_kind Five kind e = or_right (eqb 23 kind) _ (more_kinds kind e)

-- the version of a kind that is none of them is one from 3 on
later : (v : Version) (kind k : ℕ) → is_kind v kind ≡ true → is_first k ≡ false → kind ≡ k
    → IsFromThree v
later v kind k has none is = go v (subst (λ (n : ℕ). is_kind v n ≡ true) is has) where
  go : (v : Version) → is_kind v k ≡ true → IsFromThree v
  go One e = let bad : true ≡ false = sym e ∙ none in absurd cc
  go Two e = let bad : true ≡ false = sym e ∙ none in absurd cc
  go _ e = omega arith

-- whether a kind is one of the versions before 5
abbrev is_earlier : ℕ → Bool
is_earlier kind = list_any (λ k. eqb k kind) later_kinds

-- the version of a kind that is none of them is 5
last : (v : Version) (kind k : ℕ) → is_kind v kind ≡ true → is_earlier k ≡ false → kind ≡ k
    → IsFromFive v
last v kind k has none is = go v (subst (λ (n : ℕ). is_kind v n ≡ true) is has) where
  go : (v : Version) → is_kind v k ≡ true → IsFromFive v
  go One e = let bad : true ≡ false = sym (more_kinds k e) ∙ none in absurd cc
  go Two e = let bad : true ≡ false = sym (more_kinds k e) ∙ none in absurd cc
  go Three e = let bad : true ≡ false = sym e ∙ none in absurd cc
  go Four e = let bad : true ≡ false = sym e ∙ none in absurd cc
  go Five e = omega arith

pub what_takes : (v : Version) (kind : ℕ) (bytes : List ℕ) (w : FrameBody) → is_kind v kind ≡ true
    → IsBytes bytes → length bytes ≤ 299992 → what_of v kind bytes ≡ Some w → IsWhat v kind bytes w
unfolding what_of
what_takes v kind bytes w has fits short e =
    pick v kind 1 bytes w _ _ (λ _. taken_as (two_fields ballot_field position_field) v 1
    (λ x. Prepare x.0 x.1) (λ x h. record { number = refl; spelled = refl; fits = h }) bytes w fits)
    (pick v kind 2 bytes w _ _ (λ _. taken_as
    (two_fields ballot_field (two_fields position_field report_field)) v 2
    (λ x. Promise x.0 x.1.0 x.1.1)
    (λ x h. record { number = refl; spelled = refl; fits = (h.0, h.1.0, h.1.1) }) bytes w fits)
    (pick v kind 3 bytes w _ _ (λ _. taken_as
    (two_fields ballot_field (two_fields position_field entry_field)) v 3
    (λ x. Accept x.0 x.1.0 x.1.1)
    (λ x h. record { number = refl; spelled = refl; fits = (h.0, h.1.0, h.1.1) }) bytes w fits)
    (pick v kind 4 bytes w _ _ (λ _. taken_as (two_fields ballot_field position_field) v 4
    (λ x. Accepted x.0 x.1) (λ x h. record { number = refl; spelled = refl; fits = h }) bytes w fits)
    (pick v kind 5 bytes w _ _ (λ _. taken_as
    (two_fields ballot_field (two_fields position_field ballot_field)) v 5
    (λ x. Nack x.0 x.1.0 x.1.1)
    (λ x h. record { number = refl; spelled = refl; fits = (h.0, h.1.0, h.1.1) }) bytes w fits)
    (pick v kind 6 bytes w _ _ (λ _. taken_as (limited_field 65536 (omega arith)) v 6
    (λ x. Behind x) (λ x h. record { number = refl; spelled = refl; fits = h }) bytes w fits)
    (pick v kind 7 bytes w _ _ (λ _. decided_takes v bytes w fits)
    (pick v kind 16 bytes w _ _ (λ _. taken_as entry_field v 16
    (λ x. Submit x) (λ x h. record { number = refl; spelled = refl; fits = h }) bytes w fits)
    (pick v kind 17 bytes w _ _ (λ _. taken_as id_field v 17
    (λ x. Ask x) (λ x h. record { number = refl; spelled = refl; fits = h }) bytes w fits)
    (pick v kind 18 bytes w _ _ (λ _. taken_as (two_fields (event_field v)
    (two_fields byte_field (two_fields any_field style_field))) v 18
    (λ x. Sheet x.0 x.1.0 x.1.1.0 x.1.1.1)
    (λ x h. record { number = refl; spelled = refl; fits = (h.0, h.1.0, h.1.1.0) }) bytes w fits)
    (pick v kind 19 bytes w _ _ (λ _. empty_takes v 19 Tick bytes w refl refl tt)
    (pick v kind 20 bytes w _ _ (λ _. empty_takes v 20 Stop bytes w refl refl tt)
    (pick v kind 21 bytes w _ _
    (λ is. empty_takes v 21 Status bytes w refl refl (later v kind 21 has refl is))
    (pick v kind 22 bytes w _ _ (λ is. taken_as log_length_field v 22 (λ x. Log x)
    (λ x h. record { number = refl; spelled = refl; fits = (later v kind 22 has refl is, h) })
    bytes w fits) (pick v kind 23 bytes w _ _ (λ is. taken_as (two_fields id_field byte_field) v 23
    (λ x. Await x.0 x.1) (λ x h. record {
      number = refl;
      spelled = refl;
      fits = (last v kind 23 has refl is, h.0, h.1);
    }) bytes w fits) (pick v kind 32 bytes w _ _ (λ _. taken_as id_field v 32
    (λ x. Taken x) (λ x h. record { number = refl; spelled = refl; fits = h }) bytes w fits)
    (pick v kind 33 bytes w _ _ (λ _. taken_as (two_fields id_field (standing_field v)) v 33
    (λ x. Told x.0 x.1) (λ x h. record { number = refl; spelled = refl; fits = h }) bytes w fits)
    (pick v kind 34 bytes w _ _ (λ _. text_takes v bytes w short)
    (pick v kind 35 bytes w _ _ (λ _. taken_as (refusal_field v) v 35
    (λ x. Refused x) (λ x h. record { number = refl; spelled = refl; fits = h }) bytes w fits)
    (pick v kind 36 bytes w _ _ (λ _. empty_takes v 36 Fine bytes w refl refl tt)
    (pick v kind 37 bytes w _ _ (λ is. standing_takes v bytes w (later v kind 37 has refl is) fits)
    (pick v kind 38 bytes w _ _ (λ is. entries_takes v bytes w (later v kind 38 has refl is) fits)
    (λ h. absurd cc)))))))))))))))))))))) e

-- ---- the bytes after a length

goes_is : (way : Way) (from to : ℕ) → goes way from to ≡ true → Goes way from to
goes_is Between from to e = let h = and_true (is_desk from) (is_desk to) e in
    (between_is 1 5 from h.0, between_is 1 5 to h.1)
goes_is FromClient from to e = let h = and_true (eqb from 0) (is_desk to) e in
    (eqb-true _ _ h.0, between_is 1 5 to h.1)
goes_is ToClient from to e = let h = and_true (is_desk from) (eqb to 0) e in
    (between_is 1 5 from h.0, eqb-true _ _ h.1)

is_zero : (n : ℕ) → n ≡ 0 → eqb n 0 ≡ true
is_zero n e = rw e refl

goes_holds : (way : Way) (from to : ℕ) → Goes way from to → goes way from to ≡ true
goes_holds Between from to h = both_true (is_desk from) (is_desk to)
    (between_holds 1 5 from h.0.0 h.0.1) (between_holds 1 5 to h.1.0 h.1.1)
goes_holds FromClient from to h = both_true (eqb from 0) (is_desk to) (is_zero from h.0)
    (between_holds 1 5 to h.1.0 h.1.1)
goes_holds ToClient from to h = both_true (is_desk from) (eqb to 0)
    (between_holds 1 5 from h.0.0 h.0.1) (is_zero to h.1)

-- a kind of the versions from 3 on
is_later : (v : Version) (kind : ℕ) → IsFromThree v → is_kind Three kind ≡ true
    → is_kind v kind ≡ true
is_later One kind three e = absurd (omega (arith, three))
is_later Two kind three e = absurd (omega (arith, three))
is_later Three kind three e = e
is_later Four kind three e = e
is_later Five kind three e = or_right (eqb 23 kind) _ e

-- the kind of version 5
is_last : (v : Version) → IsFromFive v → is_kind v 23 ≡ true
is_last Five five = refl
is_last _ five = absurd (omega (arith, five))

kind_is : (v : Version) (w : FrameBody) → IsBody v w → is_kind v (kind_of w) ≡ true
kind_is v (Prepare b pos) fits = first_kind v 1 refl
kind_is v (Promise b pos vote) fits = first_kind v 2 refl
kind_is v (Accept b pos e) fits = first_kind v 3 refl
kind_is v (Accepted b pos) fits = first_kind v 4 refl
kind_is v (Nack b pos promised) fits = first_kind v 5 refl
kind_is v (Behind len) fits = first_kind v 6 refl
kind_is v (Decided pos e) fits = first_kind v 7 refl
kind_is v (Submit e) fits = first_kind v 16 refl
kind_is v (Ask id) fits = first_kind v 17 refl
kind_is v (Sheet event round position style) fits = first_kind v 18 refl
kind_is v Tick fits = first_kind v 19 refl
kind_is v Stop fits = first_kind v 20 refl
kind_is v (Taken id) fits = first_kind v 32 refl
kind_is v (Told id s) fits = first_kind v 33 refl
kind_is v (SheetText bytes) fits = first_kind v 34 refl
kind_is v (Refused refusal) fits = first_kind v 35 refl
kind_is v Fine fits = first_kind v 36 refl
kind_is v Status fits = is_later v 21 fits refl
kind_is v (Log position) fits = is_later v 22 fits.0 refl
kind_is v (Await id seconds) fits = is_last v fits.0
kind_is v (variant.Standing standing) fits = is_later v 37 fits.0 refl
kind_is v (variant.Entries position len entries) fits = is_later v 38 fits.0 refl

-- a test that refused nothing
let_by : {A : Type 0} (b : Bool) (x : WireFault) (y : Result A WireFault) (z : A)
    → cond (not b) (Err x) y ≡ Ok z → (b ≡ true) × (y ≡ Ok z)
let_by true x y z e = (refl, e)
let_by false x y z e = absurd cc

granted : {A : Type 0} (b : Bool) (x : WireFault) (y z : A) → cond b (Ok y) (Err x) ≡ Ok z
    → (b ≡ true) × (y ≡ z)
granted true x y z e = (refl, cc)
granted false x y z e = absurd cc

-- the bytes after a length are those of the frame
pub record IsInside (bytes : List ℕ) (f : Frame) : Type 0 where
  pub fits : IsFrame f
  pub spelled : bytes ≡ inside f

from_takes : (v : Version) (hall from to kind : ℕ) (bytes : List ℕ) (o : Option FrameBody)
    (f : Frame) → hall < 2 ^ 32
    → ((w : FrameBody) → o ≡ Some w → IsWhat v kind bytes w) → frame_from v hall from to o ≡ Ok f
    → IsFrame f × (version_number v ∷ to_be_bytes w32 hall ++ from ∷ to ∷ kind ∷ bytes ≡ inside f)
from_takes v hall from to kind bytes None f small taken e = absurd cc
from_takes v hall from to kind bytes (Some w) f small taken e =
    let made : Frame = record {
      version = v;
      hall = hall;
      from = from;
      to = to;
      what = w;
    } in
    let g = granted (goes (way_of w) from to) BadBody made f e in
    let t = taken w refl in
    let spelled :
    version_number v ∷ to_be_bytes w32 hall ++ from ∷ to ∷ kind ∷ bytes ≡ inside made =
    rw (← t.number, t.spelled) refl in
    subst (λ (y : Frame). IsFrame y
    × (version_number v ∷ to_be_bytes w32 hall ++ from ∷ to ∷ kind ∷ bytes ≡ inside y)) g.1
    (record { hall = small; goes = goes_is (way_of w) from to g.0; body = t.fits }, spelled)

-- the version that a number has
version_is : (n : ℕ) (v : Version) → version_of n ≡ Some v → version_number v ≡ n
version_is n v e = numbered_is version_number versions n v e

in_takes : (o : Option Version) (n hall from to kind : ℕ) (bytes : List ℕ) (f : Frame)
    → version_of n ≡ o → hall < 2 ^ 32 → IsBytes bytes → length bytes ≤ 299992
    → frame_in o hall from to kind bytes ≡ Ok f
    → IsFrame f × (n ∷ to_be_bytes w32 hall ++ from ∷ to ∷ kind ∷ bytes ≡ inside f)
in_takes None n hall from to kind bytes f is small fits short e = absurd cc
in_takes (Some v) n hall from to kind bytes f is small fits short e =
    let k = let_by (is_kind v kind) BadKind (frame_from v hall from to (what_of v kind bytes)) f
    e in
    let t = from_takes v hall from to kind bytes (what_of v kind bytes) f small
    (λ w h. what_takes v kind bytes w k.0 fits short h) k.1 in (
      t.0,
      ap (λ (m : ℕ). m ∷ (to_be_bytes w32 hall ++ from ∷ to ∷ kind ∷ bytes))
          (sym (version_is n v is)) ∙ t.1,
    )

pub frame_takes : (bytes : List ℕ) (f : Frame) → IsBytes bytes → length bytes ≤ 300000
    → frame_of bytes ≡ Ok f → IsInside bytes f
unfolding frame_of
frame_takes (version ∷ a ∷ b ∷ c ∷ d ∷ from ∷ to ∷ kind ∷ bytes) f fits short e =
    let four : List ℕ = a ∷ b ∷ c ∷ d ∷ [] in
    let four_fit : IsBytes four = IsBytes-take 4 (a ∷ b ∷ c ∷ d ∷ from ∷ to ∷ kind ∷ bytes)
    (λ i. fits (suc i)) in
    let rest_fit : IsBytes bytes = λ i. fits (suc (suc (suc (suc (suc (suc (suc (suc i)))))))) in
    let hall : ℕ = from_be_bytes w32 four in
    let same : to_be_bytes w32 hall ≡ four = wide32.back four refl four_fit in
    let t = in_takes (version_of version) version hall from to kind bytes f refl
    (wide32.below four four_fit) rest_fit (omega (arith, short)) e in
    let front : version ∷ four ++ from ∷ to ∷ kind ∷ bytes ≡ version ∷ to_be_bytes w32
    hall ++ from ∷ to ∷ kind ∷ bytes =
    ap (λ (h : List ℕ). version ∷ (h ++ from ∷ to ∷ kind ∷ bytes)) (sym same) in
    record { fits = t.0; spelled = front ∙ t.1 }
frame_takes _ f fits short e = absurd cc

pub version_again : (v : Version) → version_of (version_number v) ≡ Some v
version_again One = refl
version_again _ = refl

framed : (a b c d : ℕ) (f : Frame) → from_be_bytes w32 (a ∷ b ∷ c ∷ d ∷ []) ≡ f.hall → IsFrame f
    → frame_of (version_number f.version ∷ a ∷ b ∷ c ∷ d ∷ f.from ∷ f.to ∷ kind_of f.what ∷
    body f.version f.what) ≡ Ok f
unfolding frame_of
framed a b c d f hall fits = rw (
  version_again f.version,
  kind_is f.version f.what fits.body,
  what_again f.version f.what fits.body,
  goes_holds
      (way_of f.what) f.from f.to fits.goes,
  hall,
) refl

four_cells : (h : List ℕ) (f : Frame) → length h ≡ 4 → from_be_bytes w32 h ≡ f.hall → IsFrame f
    → frame_of (version_number f.version ∷ (h ++ f.from ∷ f.to ∷ kind_of f.what ∷
    body f.version f.what)) ≡ Ok f
four_cells (a ∷ b ∷ c ∷ d ∷ []) f len hall fits = framed a b c d f hall fits
four_cells _ f len hall fits = absurd (omega (arith, len))

pub frame_again : (f : Frame) → IsFrame f → frame_of (inside f) ≡ Ok f
frame_again f fits = four_cells (to_be_bytes w32 f.hall) f refl (wide32.again f.hall fits.hall) fits
