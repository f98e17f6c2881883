-- The fields of each kind: what is read is spelled so and in its ranges, and what is spelled so is
-- read.
use Rattle.std.proofs.Common.{◌≡◌, ℕ, zero, suc, Bool, true, false, cond, eqb, leb, List, [], ◌∷◌}
use Rattle.std.proofs.Common.{◌++◌, Some, refl}
use Rattle.std.proofs.lemmas.Bool.{leb-true, le-leb}
use Rattle.std.specs.{Prelude.find, Prelude.map, Option.option_map}
use Rattle.texts.specs.{Codes.code_number, declared.answer.Answer.Answer, declared.answer.Code.Code}
use Rattle.formats.specs.declared.events.Event.{Event, TheVariants.Cube3}
use Rattle.formats.specs.Events.{all_events, event_number}
use Rattle.wire.specs.declared.values.{ClientRefusal.ClientRefusal, CommandState.CommandState}
use Rattle.wire.specs.declared.values.CommandState.TheVariants.{Unknown, Pending, Done}
use Rattle.wire.specs.declared.values.DeskRole.{DeskRole, TheVariants.Idle}
use Rattle.formats.specs.declared.styles.SheetStyle.{SheetStyle}
use Rattle.formats.specs.declared.styles.SheetStyle.TheVariants.{Text, Table}
use Rattle.wire.specs.Fields.{two, numbered}
use Rattle.wire.specs.{declared.values.Version.Version, Spelling.state_bytes}
use Rattle.wire.specs.Numbers.{last_event, answers, answer_number, refusals, refusal_number, styles}
use Rattle.wire.specs.Numbers.{style_number, roles, role_number, last_code, last_refusal}
use Rattle.wire.specs.Ranges.{IsPosition, IsCommandState, IsAnswerOf, IsEventOf, IsRefusalOf}
use Rattle.wire.specs.Reading.{position_at, member_at, event_at, answer_at, state_at, refusal_at}
use Rattle.wire.proofs.{Taking.IsBytes, Taking.Takes, FieldLaws.u32, FieldLaws.position_field}
use Rattle.wire.proofs.Sequences.{IsField, two_fields, narrowed, alone, tagged, member_field}
use Rattle.texts.specs.declared.answer.Answer.TheVariants as answer
use Rattle.texts.specs.declared.answer.Code.TheVariants as code
use Rattle.wire.specs.declared.values.ClientRefusal.TheVariants as refusal

-- ---- members of lists

event_found : (x : Event) → numbered event_number all_events (event_number x) ≡ Some x
event_found Cube3 = refl
event_found _ = refl

-- an event of a version
pub event_field : (v : Version) → IsField (λ (x : Event). event_number x ∷ []) (IsEventOf v)
    (event_at v)
unfolding event_at
event_field v =
    narrowed (member_field event_number all_events event_found)
    (λ x. leb (event_number x) (last_event v)) (IsEventOf v) (λ x any is. leb-true _ _ is)
    (λ x fits. (tt, le-leb _ _ fits))

style_found : (x : SheetStyle) → numbered style_number styles (style_number x) ≡ Some x
style_found Text = refl
style_found Table = refl

pub style_field : IsField (λ (x : SheetStyle). style_number x ∷ []) (λ (x : SheetStyle). Unit {0})
    (member_at style_number styles)
style_field = member_field style_number styles style_found

role_found : (x : DeskRole) → numbered role_number roles (role_number x) ≡ Some x
role_found Idle = refl
role_found _ = refl

pub role_field : IsField (λ (x : DeskRole). role_number x ∷ []) (λ (x : DeskRole). Unit {0})
    (member_at role_number roles)
role_field = member_field role_number roles role_found

refusal_found : (x : ClientRefusal) → numbered refusal_number refusals (refusal_number x) ≡ Some x
refusal_found refusal.Busy = refl
refusal_found _ = refl

-- a refusal that a version tells
pub refusal_field : (v : Version) → IsField (λ (x : ClientRefusal). refusal_number x ∷ [])
    (IsRefusalOf v) (refusal_at v)
unfolding refusal_at
refusal_field v =
    narrowed (member_field refusal_number refusals refusal_found)
    (λ x. leb (refusal_number x) (last_refusal v)) (IsRefusalOf v) (λ x any is. leb-true _ _ is)
    (λ x fits. (tt, le-leb _ _ fits))

answer_found : (x : Answer) → numbered answer_number answers (answer_number x) ≡ Some x
answer_found answer.Done = refl
answer_found (answer.Refused code.Unread) = refl
answer_found _ = refl

-- a refusal has the number of its code
pub coded : (cs : List Code) (n : ℕ) → find (λ (x : Answer). eqb (answer_number x) n)
    (map (λ c. answer.Refused c) cs) ≡ option_map (λ c. answer.Refused c)
    (find (λ c. eqb (code_number c) n) cs)
coded [] n = refl
coded (c ∷ cs) n = go (eqb (code_number c) n) (coded cs n) where
  go : (b : Bool) → find (λ (x : Answer). eqb (answer_number x) n) (map (λ c. answer.Refused c) cs)
      ≡ option_map (λ c. answer.Refused c) (find (λ c. eqb (code_number c) n) cs)
      → cond b (Some (answer.Refused c))
      (find (λ (x : Answer). eqb (answer_number x) n) (map (λ c. answer.Refused c) cs)) ≡
      option_map (λ c. answer.Refused c) (cond b (Some c) (find (λ c. eqb (code_number c) n) cs))
  go true rest = refl
  go false rest = rest

-- an answer that a version tells
answer_field : (v : Version) → IsField (λ (x : Answer). answer_number x ∷ []) (IsAnswerOf v)
    (answer_at v)
unfolding answer_at
answer_field v =
    narrowed (member_field answer_number answers answer_found)
    (λ x. leb (answer_number x) (last_code v)) (IsAnswerOf v) (λ x any is. leb-true _ _ is)
    (λ x fits. (tt, le-leb _ _ fits))

-- ---- what became of a command

abbrev done_field : (v : Version) → IsField (λ (p : ℕ × Answer). u32 p.0 ++ answer_number p.1 ∷ [])
    (λ (p : ℕ × Answer). IsPosition p.0 × IsAnswerOf v p.1) (two position_at (answer_at v))
done_field v = two_fields position_field (answer_field v)

state_takes : (v : Version) (bytes : List ℕ) (x : CommandState × List ℕ) → IsBytes bytes
    → state_at v bytes ≡ Some x → Takes bytes (state_bytes x.0) x.1 × IsCommandState v x.0
unfolding state_at
state_takes v [] x fits e = absurd cc
state_takes v (zero ∷ rest) x fits e =
    alone state_bytes (IsCommandState v) Unknown 0 rest x refl tt fits e
state_takes v (suc zero ∷ rest) x fits e =
    alone state_bytes (IsCommandState v) Pending 1 rest x refl tt fits e
state_takes v (suc (suc zero) ∷ rest) x fits e =
    tagged (done_field v) (λ p. Done p.0 p.1) state_bytes (IsCommandState v) 2 (λ p h. (refl, h))
    rest x fits e
state_takes v (suc (suc (suc k)) ∷ rest) x fits e = absurd cc

state_again : (v : Version) (x : CommandState) (rest : List ℕ) → IsCommandState v x
    → state_at v (state_bytes x ++ rest) ≡ Some (x, rest)
unfolding state_at
state_again v Unknown rest fits = refl
state_again v Pending rest fits = refl
state_again v (Done pos a) rest fits = rw ((done_field v).again (pos, a) rest fits) refl

pub standing_field : (v : Version) → IsField state_bytes (IsCommandState v) (state_at v)
standing_field v = record { takes = state_takes v; again = state_again v }
