-- What is read as a frame is spelled so, and what is spelled so is read.
use Rattle.std.proofs.Common.{◌≡◌, ℕ, List, Some, refl, sym, subst, arith}
use Rattle.wire.specs.declared.{values.Version.Version, frame.FrameBody.FrameBody}
use Rattle.wire.specs.declared.frame.FrameBody.TheVariants.{Prepare, Promise, Accept, Accepted}
use Rattle.wire.specs.declared.frame.FrameBody.TheVariants.{Nack, Behind, Decided, Submit, Ask}
use Rattle.wire.specs.declared.frame.FrameBody.TheVariants.{Sheet, Taken, Told, Refused, Log, Await}
use Rattle.wire.specs.Fields.{Read, ◌>>=◌, all_of}
use Rattle.wire.specs.{Ranges.IsBody, Numbers.IsFromThree, Spelling.kind_of, Spelling.body}
use Rattle.wire.specs.Reading.{decided_of, what_of, standing_of, entries_of}
use Rattle.wire.proofs.Taking.{IsBytes, bind_some, some_is}
use Rattle.wire.proofs.Sequences.{IsField, two_fields, all_takes, all_again}
use Rattle.wire.proofs.{Runs.run_takes, Runs.run_again, LogRuns.log_takes, LogRuns.log_again}
use Rattle.wire.proofs.Standings.{joined_bytes, standing_from, parts_field}
use Rattle.wire.proofs.FieldLaws.{ballot_field, limited_field, position_field, any_field, byte_field}
use Rattle.wire.proofs.FieldLaws.{id_field, entry_field, report_field, log_length_field}
use Rattle.wire.proofs.Bodies.{event_field, style_field, refusal_field, standing_field}
use Rattle.wire.specs.declared.frame.FrameBody.TheVariants as variant

-- the bytes are the fields of this kind, in this version
pub record IsWhat (v : Version) (kind : ℕ) (bytes : List ℕ) (w : FrameBody) : Type 0 where
  pub number : kind_of w ≡ kind
  pub spelled : bytes ≡ body v w
  pub fits : IsBody v w

-- what is read as one field, and made a body
pub taken_as : {A : Type 0} {s : A → List ℕ} {F : A → Type 0} {r : List ℕ → Read A} → IsField s F r
    → (v : Version) (kind : ℕ) (make : A → FrameBody)
    → ((x : A) → F x → IsWhat v kind (s x) (make x)) → (bytes : List ℕ) (w : FrameBody)
    → IsBytes bytes → (all_of r bytes >>= λ x. Some (make x)) ≡ Some w → IsWhat v kind bytes w
taken_as {A} {s} {F} {r} f v kind make holds bytes w fits e =
    let a = bind_some (all_of r bytes) (λ x. Some (make x)) w e in
    let t = all_takes f bytes a.0 fits a.1 in
    subst (λ (b : List ℕ). IsWhat v kind b w) (sym t.0)
    (subst (λ (y : FrameBody). IsWhat v kind (s a.0) y) (some_is (make a.0) w a.2) (holds a.0 t.1))

pub decided_takes : (v : Version) (bytes : List ℕ) (w : FrameBody) → IsBytes bytes
    → decided_of v bytes ≡ Some w → IsWhat v 7 bytes w
decided_takes v bytes w fits e =
    let run = run_takes v bytes w fits e in
    subst (λ (y : FrameBody). IsWhat v 7 bytes y) (sym run.is)
    (record { number = refl; spelled = run.spelled; fits = run.fits })

pub standing_takes : (v : Version) (bytes : List ℕ) (w : FrameBody) → IsFromThree v → IsBytes bytes
    → standing_of v bytes ≡ Some w → IsWhat v 37 bytes w
standing_takes v bytes w three fits e =
    taken_as (parts_field v) v 37 (λ x. variant.Standing (standing_from x)) (λ x h. record {
      number = refl;
      spelled = joined_bytes v (standing_from x);
      fits = (
        three,
        record {
          log = h.0;
          queue = h.1.0;
          promised = h.1.1.1.0;
          told = h.1.1.1.1.0;
          differs = h.1.1.1.1.1;
        },
      );
    }) bytes w fits e

pub entries_takes : (v : Version) (bytes : List ℕ) (w : FrameBody) → IsFromThree v → IsBytes bytes
    → entries_of bytes ≡ Some w → IsWhat v 38 bytes w
entries_takes v bytes w three fits e =
    let log = log_takes bytes w fits e in
    subst (λ (y : FrameBody). IsWhat v 38 bytes y) (sym log.is)
    (record { number = refl; spelled = log.spelled; fits = (three, log.fits) })

-- ---- what is spelled so is read

pub what_again : (v : Version) (w : FrameBody) → IsBody v w
    → what_of v (kind_of w) (body v w) ≡ Some w
unfolding what_of
what_again v (Prepare b pos) fits = rw (all_again (two_fields ballot_field position_field) (b, pos) fits) refl
what_again v (Promise b pos vote) fits =
    rw (all_again (two_fields ballot_field (two_fields position_field report_field))
    (b, (pos, vote)) (fits.0, (fits.1, fits.2))) refl
what_again v (Accept b pos e) fits =
    rw (all_again (two_fields ballot_field (two_fields position_field entry_field))
    (b, (pos, e)) (fits.0, (fits.1, fits.2))) refl
what_again v (Accepted b pos) fits = rw (all_again (two_fields ballot_field position_field) (b, pos) fits) refl
what_again v (Nack b pos promised) fits =
    rw (all_again (two_fields ballot_field (two_fields position_field ballot_field))
    (b, (pos, promised)) (fits.0, (fits.1, fits.2))) refl
what_again v (Behind len) fits = rw (all_again (limited_field 65536 (omega arith)) len fits)
    refl
what_again v (Decided pos entries) fits = rw (run_again v pos entries fits) refl
what_again v (Submit e) fits = rw (all_again entry_field e fits) refl
what_again v (Ask id) fits = rw (all_again id_field id fits) refl
what_again v (Sheet event round position style) fits =
    rw (all_again (two_fields (event_field v)
    (two_fields byte_field (two_fields any_field style_field))) (event, (round, (position, style)))
    (fits.0, (fits.1, (fits.2, tt)))) refl
what_again v (Taken id) fits = rw (all_again id_field id fits) refl
what_again v (Told id s) fits = rw (all_again (two_fields id_field (standing_field v)) (id, s) fits) refl
what_again v (Refused refusal) fits = rw (all_again (refusal_field v) refusal fits) refl
what_again v (Log position) fits = rw (all_again log_length_field position fits.1) refl
what_again v (Await id seconds) fits =
    rw (all_again (two_fields id_field byte_field) (id, seconds) (fits.1, fits.2)) refl
what_again v (variant.Standing s) fits =
    subst (λ bytes. what_of v 37 bytes ≡ Some (variant.Standing s)) (joined_bytes v s)
    (rw (all_again (parts_field v)
    (s.length, (s.waiting, (s.role, (s.promised, (s.told, s.differs)))))
    (fits.1.log, (fits.1.queue, (tt, (fits.1.promised, (fits.1.told, fits.1.differs)))))) refl)
what_again v (variant.Entries position len entries) fits =
    rw (log_again position len entries fits.1) refl
what_again v _ fits = refl
