-- The frame that bytes spell, field by field from the left (as docs/FORMATS.md has it).
use Rattle.std.specs.Prelude.{ℕ, zero, drop, Option, Some, None, Result, Ok, Err, not, nat_le, ◌==◌}
use Rattle.std.specs.Prelude.{suc, ◌+◌, Bool, ◌&&◌, ◌||◌, List, [], ◌∷◌, length, if◌then◌else◌}
use Rattle.std.specs.{Prelude.take, List.list_any, Int.w16, Int.w32, Int.w64, Int.from_be_bytes}
use Rattle.acceptor.specs.declared.{ballot.Ballot.Ballot, entry.Entry.Entry, message.Report.Report}
use Rattle.formats.specs.{declared.events.Event.Event, Events.all_events, Events.event_number}
use Rattle.wire.specs.declared.{fault.WireFault.WireFault, values.Version.Version}
use Rattle.wire.specs.declared.fault.WireFault.TheVariants.{BadVersion, BadKind, BadBody}
use Rattle.wire.specs.declared.frame.{Frame.Frame, FrameBody.FrameBody}
use Rattle.wire.specs.declared.values.{CommandState.CommandState, ClientRefusal.ClientRefusal}
use Rattle.wire.specs.declared.values.CommandState.TheVariants.{Unknown, Pending, Done}
use Rattle.wire.specs.declared.frame.FrameBody.TheVariants.{Prepare, Promise, Accepted, SheetText}
use Rattle.wire.specs.declared.frame.FrameBody.TheVariants.{Accept, Behind, Decided, Sheet, Refused}
use Rattle.wire.specs.declared.frame.FrameBody.TheVariants.{Nack, Submit, Ask, Taken, Status, Await}
use Rattle.wire.specs.declared.frame.FrameBody.TheVariants.{Tick, Stop, Told, Fine, Log}
use Rattle.wire.specs.declared.standing.{Difference.Difference, Lengths.Lengths}
use Rattle.wire.specs.declared.standing.Difference.TheVariants.{OtherEntry, Shorter}
use Rattle.wire.specs.declared.standing.Lengths.TheVariants.{OfThree, OfFive}
use Rattle.wire.specs.Fields.{Read, ◌>>=◌, number_at, byte_at, two, many, all_of, numbered}
use Rattle.wire.specs.Ranges.{Way, Between, FromClient, ToClient, way_of}
use Rattle.wire.specs.declared.values.Version.TheVariants.{One, Two, Three, Four, Five}
use Rattle.texts.specs.declared.answer.Answer.{Answer}
use Rattle.wire.specs.Numbers.{versions, version_number, last_code, last_event, answers}
use Rattle.wire.specs.Numbers.{answer_number, refusals, refusal_number, styles, style_number, roles}
use Rattle.wire.specs.Numbers.{role_number, last_refusal}
use Rattle.wire.specs.declared.frame.FrameBody.TheVariants as variant

abbrev pub between : ℕ → ℕ → ℕ → Bool
between low high n = nat_le low n && nat_le n high

abbrev pub is_ballot : ℕ → ℕ → Bool
is_ballot round desk = nat_le 1 round && between 1 5 desk

unfoldable pub ballot_at : List ℕ → Read Ballot
ballot_at bytes = do
  round ← number_at w32 bytes
  desk ← byte_at round.1
  if is_ballot round.0 desk.0
      then Some (record { number = round.0; desk = desk.0 }, desk.1)
      else None

-- a number of four bytes, at most this
unfoldable pub limited_at : ℕ → List ℕ → Read ℕ
limited_at limit bytes = do
  n ← number_at w32 bytes
  if nat_le n.0 limit then Some n else None

abbrev pub position_at : List ℕ → Read ℕ
position_at bytes = limited_at 65535 bytes

unfoldable pub id_at : List ℕ → Read ℕ
id_at bytes = do
  n ← number_at w64 bytes
  if between 1 9223372036854775807 n.0 then Some n else None

-- two bytes of length, at most 600, and that many bytes
unfoldable pub text_at : List ℕ → Read (List ℕ)
text_at bytes = do
  n ← number_at w16 bytes
  if nat_le n.0 600 && nat_le n.0 (length n.1) then Some (take n.0 n.1, drop n.0 n.1) else None

unfoldable pub entry_at : List ℕ → Read Entry
entry_at bytes = do
  id ← id_at bytes
  text ← text_at id.1
  Some (record { id = id.0; text = text.0 }, text.1)

unfoldable pub report_at : List ℕ → Read (Option Report)
report_at [] = None
report_at (zero ∷ rest) = Some (None, rest)
report_at (suc zero ∷ rest) = do
  ballot ← ballot_at rest
  entry ← entry_at ballot.1
  Some (Some (record { ballot = ballot.0; entry = entry.0 }), entry.1)
report_at (suc (suc b) ∷ rest) = None

-- one byte, the number of a member of the list
unfoldable pub member_at : {A : Type 0} → (A → ℕ) → List A → List ℕ → Read A
member_at number_of members bytes = do
  n ← byte_at bytes
  member ← numbered number_of members n.0
  Some (member, n.1)

-- an answer that a version tells
unfoldable pub answer_at : Version → List ℕ → Read Answer
answer_at version bytes = do
  answer ← member_at answer_number answers bytes
  if nat_le (answer_number answer.0) (last_code version) then Some answer else None

unfoldable pub state_at : Version → List ℕ → Read CommandState
state_at version [] = None
state_at version (zero ∷ rest) = Some (Unknown, rest)
state_at version (suc zero ∷ rest) = Some (Pending, rest)
state_at version (suc (suc zero) ∷ rest) = do
  done ← two position_at (answer_at version) rest
  Some (Done done.0.0 done.0.1, done.1)
state_at version (suc (suc (suc b)) ∷ rest) = None

-- a byte that says how many entries follow
abbrev pub told_count_at : List ℕ → Read ℕ
told_count_at bytes = do
  n ← byte_at bytes
  if between 1 16 n.0 then Some n else None

-- how many entries a Decided has: one in version 1; in the later ones a byte says it
unfoldable pub count_at : Version → List ℕ → Read ℕ
count_at One bytes = Some (1, bytes)
count_at Two bytes = told_count_at bytes
count_at Three bytes = told_count_at bytes
count_at Four bytes = told_count_at bytes
count_at Five bytes = told_count_at bytes

-- this many entries, one after the other
abbrev pub entries_at : ℕ → List ℕ → Read (List Entry)
entries_at n bytes = many entry_at n bytes

-- how many entries an Entries has: two bytes, at most 400
unfoldable pub log_count_at : List ℕ → Read ℕ
log_count_at bytes = do
  n ← number_at w16 bytes
  if nat_le n.0 400 then Some n else None

-- the length of a log, or a position in it, its end included
abbrev pub log_length_at : List ℕ → Read ℕ
log_length_at bytes = limited_at 65536 bytes

-- a promised ballot, or none: five zero bytes
unfoldable pub promised_at : List ℕ → Read (Option Ballot)
promised_at bytes = do
  round ← number_at w32 bytes
  desk ← byte_at round.1
  if (round.0 == 0) && (desk.0 == 0)
      then Some (None, desk.1)
      else if is_ballot round.0 desk.0
      then Some (Some (record { number = round.0; desk = desk.0 }), desk.1)
      else None

abbrev pub three_at : List ℕ → Read Lengths
three_at bytes = many log_length_at 3 bytes >>= λ x. Some (OfThree x.0, x.1)

abbrev pub five_at : List ℕ → Read Lengths
five_at bytes = many log_length_at 5 bytes >>= λ x. Some (OfFive x.0, x.1)

-- a length for each desk of a hall, which has three or five
unfoldable pub lengths_at : List ℕ → Read Lengths
lengths_at bytes = do
  desks ← byte_at bytes
  if desks.0 == 3
      then three_at desks.1
      else if desks.0 == 5
      then five_at desks.1
      else None

-- a desk of a hall
unfoldable pub desk_at : List ℕ → Read ℕ
desk_at bytes = do
  n ← byte_at bytes
  if between 1 5 n.0 then Some n else None

-- how a desk differs: 0 where none does; 1, the desk and a position at which it has another entry;
-- or 2, the desk and the length of its log, which was longer
unfoldable pub difference_at : List ℕ → Read (Option Difference)
difference_at [] = None
difference_at (zero ∷ rest) = Some (None, rest)
difference_at (suc zero ∷ rest) = do
  place ← two desk_at position_at rest
  Some (Some (OtherEntry place.0.0 place.0.1), place.1)
difference_at (suc (suc zero) ∷ rest) = do
  place ← two desk_at position_at rest
  Some (Some (Shorter place.0.0 place.0.1), place.1)
difference_at (suc (suc (suc b)) ∷ rest) = None

-- which the versions before 5 do not say
unfoldable pub differs_at : Version → List ℕ → Read (Option Difference)
differs_at One bytes = Some (None, bytes)
differs_at Two bytes = Some (None, bytes)
differs_at Three bytes = Some (None, bytes)
differs_at Four bytes = Some (None, bytes)
differs_at Five bytes = difference_at bytes

-- a refusal that a version tells
unfoldable pub refusal_at : Version → List ℕ → Read ClientRefusal
refusal_at version bytes = do
  refusal ← member_at refusal_number refusals bytes
  if nat_le (refusal_number refusal.0) (last_refusal version) then Some refusal else None

-- an event whose sheets can be asked for in a version
unfoldable pub event_at : Version → List ℕ → Read Event
event_at version bytes = do
  event ← member_at event_number all_events bytes
  if nat_le (event_number event.0) (last_event version) then Some event else None

-- the fields of each kind
abbrev pub prepare_of : List ℕ → Option FrameBody
prepare_of bytes = all_of (two ballot_at position_at) bytes >>= λ x. Some (Prepare x.0 x.1)

abbrev pub promise_of : List ℕ → Option FrameBody
promise_of bytes =
    all_of (two ballot_at (two position_at report_at)) bytes >>= λ x. Some (Promise x.0 x.1.0 x.1.1)

abbrev pub accept_of : List ℕ → Option FrameBody
accept_of bytes =
    all_of (two ballot_at (two position_at entry_at)) bytes >>= λ x. Some (Accept x.0 x.1.0 x.1.1)

abbrev pub accepted_of : List ℕ → Option FrameBody
accepted_of bytes = all_of (two ballot_at position_at) bytes >>= λ x. Some (Accepted x.0 x.1)

abbrev pub nack_of : List ℕ → Option FrameBody
nack_of bytes =
    all_of (two ballot_at (two position_at ballot_at)) bytes >>= λ x. Some (Nack x.0 x.1.0 x.1.1)

abbrev pub behind_of : List ℕ → Option FrameBody
behind_of bytes = all_of (limited_at 65536) bytes >>= λ x. Some (Behind x)

abbrev pub decided_of : Version → List ℕ → Option FrameBody
decided_of version bytes = do
  pos ← position_at bytes
  count ← count_at version pos.1
  entries ← all_of (entries_at count.0) count.1
  if nat_le (pos.0 + count.0) 65536 then Some (Decided pos.0 entries) else None

abbrev pub submit_of : List ℕ → Option FrameBody
submit_of bytes = all_of entry_at bytes >>= λ x. Some (Submit x)

abbrev pub ask_of : List ℕ → Option FrameBody
ask_of bytes = all_of id_at bytes >>= λ x. Some (Ask x)

abbrev pub sheet_of : Version → List ℕ → Option FrameBody
sheet_of version bytes =
    all_of (two (event_at version)
    (two byte_at (two (number_at w32) (member_at style_number styles)))) bytes
    >>= λ x. Some (Sheet x.0 x.1.0 x.1.1.0 x.1.1.1)

abbrev pub taken_of : List ℕ → Option FrameBody
taken_of bytes = all_of id_at bytes >>= λ x. Some (Taken x)

abbrev pub told_of : Version → List ℕ → Option FrameBody
told_of version bytes = all_of (two id_at (state_at version)) bytes >>= λ x. Some (Told x.0 x.1)

abbrev pub refused_of : Version → List ℕ → Option FrameBody
refused_of version bytes = all_of (refusal_at version) bytes >>= λ x. Some (Refused x)

abbrev pub log_of : List ℕ → Option FrameBody
log_of bytes = all_of log_length_at bytes >>= λ x. Some (Log x)

abbrev pub await_of : List ℕ → Option FrameBody
await_of bytes = all_of (two id_at byte_at) bytes >>= λ x. Some (Await x.0 x.1)

abbrev pub standing_of : Version → List ℕ → Option FrameBody
standing_of version bytes =
    all_of (two log_length_at (two byte_at (two (member_at role_number roles)
    (two promised_at (two lengths_at (differs_at version)))))) bytes
    >>= λ x. Some (variant.Standing (record {
      length = x.0;
      waiting = x.1.0;
      role = x.1.1.0;
      promised = x.1.1.1.0;
      told = x.1.1.1.1.0;
      differs = x.1.1.1.1.1;
    }))

abbrev pub entries_of : List ℕ → Option FrameBody
entries_of bytes = do
  pos ← log_length_at bytes
  len ← log_length_at pos.1
  count ← log_count_at len.1
  entries ← all_of (entries_at count.0) count.1
  if (count.0 == 0) || nat_le (pos.0 + count.0) len.0
      then Some (variant.Entries pos.0 len.0 entries)
      else None

-- a kind without fields
abbrev pub empty_of : FrameBody → List ℕ → Option FrameBody
empty_of what bytes = if length bytes == 0 then Some what else None

-- the kinds of every version
abbrev pub first_kinds : List ℕ
first_kinds =
    1 ∷ 2 ∷ 3 ∷ 4 ∷ 5 ∷ 6 ∷ 7 ∷ 16 ∷ 17 ∷ 18 ∷ 19 ∷ 20 ∷ 32 ∷ 33 ∷ 34 ∷ 35 ∷ 36 ∷ []

-- the kinds of the versions from 3 on: four more
abbrev pub later_kinds : List ℕ
later_kinds = 21 ∷ 22 ∷ 37 ∷ 38 ∷ first_kinds

-- those of version 5: one more
abbrev pub last_kinds : List ℕ
last_kinds = 23 ∷ later_kinds

abbrev pub kinds : Version → List ℕ
kinds One = first_kinds
kinds Two = first_kinds
kinds Three = later_kinds
kinds Four = later_kinds
kinds Five = last_kinds

abbrev pub is_kind : Version → ℕ → Bool
is_kind version kind = list_any (λ k. k == kind) (kinds version)

-- the fields of the kind with this number, in a version that has the kind
unfoldable pub what_of : Version → ℕ → List ℕ → Option FrameBody
what_of version kind bytes =
    if kind == 1 then prepare_of bytes
    else if kind == 2 then promise_of bytes
    else if kind == 3 then accept_of bytes
    else if kind == 4 then accepted_of bytes
    else if kind == 5 then nack_of bytes
    else if kind == 6 then behind_of bytes
    else if kind == 7 then decided_of version bytes
    else if kind == 16 then submit_of bytes
    else if kind == 17 then ask_of bytes
    else if kind == 18 then sheet_of version bytes
    else if kind == 19 then empty_of Tick bytes
    else if kind == 20 then empty_of Stop bytes
    else if kind == 21 then empty_of Status bytes
    else if kind == 22 then log_of bytes
    else if kind == 23 then await_of bytes
    else if kind == 32 then taken_of bytes
    else if kind == 33 then told_of version bytes
    else if kind == 34 then Some (SheetText bytes)
    else if kind == 35 then refused_of version bytes
    else if kind == 36 then empty_of Fine bytes
    else if kind == 37 then standing_of version bytes
    else if kind == 38 then entries_of bytes
    else None

abbrev pub is_desk : ℕ → Bool
is_desk d = between 1 5 d

-- the sender and the receiver fit the kind
abbrev pub goes : Way → ℕ → ℕ → Bool
goes Between from to = is_desk from && is_desk to
goes FromClient from to = (from == 0) && is_desk to
goes ToClient from to = is_desk from && (to == 0)

abbrev pub frame_from : Version → ℕ → ℕ → ℕ → Option FrameBody → Result Frame WireFault
frame_from version hall from to None = Err BadBody
frame_from version hall from to (Some what) =
    if goes (way_of what) from to
    then Ok (record { version = version; hall = hall; from = from; to = to; what = what })
    else Err BadBody

-- what is after the version, where it is one
abbrev pub frame_in : Option Version → ℕ → ℕ → ℕ → ℕ → List ℕ → Result Frame WireFault
frame_in None hall from to kind bytes = Err BadVersion
frame_in (Some version) hall from to kind bytes =
    if not (is_kind version kind) then Err BadKind
    else frame_from version hall from to (what_of version kind bytes)

abbrev pub version_of : ℕ → Option Version
version_of n = numbered version_number versions n

-- what is after a length: the frame, or the first fault
unfoldable pub frame_of : List ℕ → Result Frame WireFault
frame_of (version ∷ a ∷ b ∷ c ∷ d ∷ from ∷ to ∷ kind ∷ bytes) =
    frame_in (version_of version) (from_be_bytes w32 (a ∷ b ∷ c ∷ d ∷ [])) from to kind bytes
frame_of _ = Err BadBody
