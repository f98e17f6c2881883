-- The value that a competition's file is read as.
use Rattle.std.proofs.Common.{refl, ℕ, ◌+◌, ◌<◌, ◌≤◌, ◌^◌, arith, List, [], ◌∷◌, ◌++◌, map, length}
use Rattle.std.proofs.Common.{decimal, codes, Option, Some, None}
use Rattle.std.specs.{List.AllByRecursion, Str.IsUtf8}
use Rattle.std.proofs.lemmas.{Fmt.IsAscii-decimal, Str.IsUtf8-from_ascii, Str.IsUtf8-append}
use Rattle.json.{specs.Value.items_of, proofs.Printed.Utf8.IsUtf8-are_ascii}
use Rattle.serde_json.specs.Data.{Data, null, number, string, array, object, no_members, put}
use Rattle.serde_json.specs.Data.{unsigned}
use Rattle.attempts.specs.declared.Unit.{Unit as Measure}
use Rattle.formats.specs.declared.{advance.Advance.Advance as Advances, events.Event.Event}
use Rattle.formats.specs.declared.advance.Advance.TheVariants.{Final, Top, Percent}
use Rattle.formats.specs.declared.events.Format.{Format, TheVariants.Ao5}
use Rattle.formats.specs.Events.{event_name, unit_of, attempts_of}
use Rattle.texts.specs.declared.command.Settings.{Settings}
use Rattle.import_laws.specs.Competitions.{Status, accepted, pending, deleted, Person, Held}
use Rattle.import_laws.specs.{Competitions.Competition, Held.IsCutoff, Held.IsAdvance}
use Rattle.import_laws.specs.Held.{IsPerson, IsText, IsNumber, IsRound, IsEvent, IsHeld, IsLimit}
use Rattle.import_laws.specs.Spelled.{status_name, text_or_null, whole_or_null, event_id}
use Rattle.import_laws.specs.Spelled.{registration_json, person_json, format_code, limit_json}
use Rattle.import_laws.specs.Spelled.{cutoff_json, condition_json, advance_json, round_name}
use Rattle.import_laws.specs.Spelled.{round_json, rounds_json, event_json, file_json}
use Rattle.import_laws.proofs.Values.{Spells, SpellsItems, data_items, spells_null, spells_string}
use Rattle.import_laws.proofs.Values.{spells_whole, spells_list, spells_object, each_item}
use Rattle.import_laws.proofs.Values.{one_member, no_more_members, no_more_items, one_item}
use Rattle.json.specs.Json as json
use Rattle.attempts.specs.declared.Unit.TheVariants as measure
use Rattle.formats.specs.declared.events.Event.TheVariants as event

abbrev pub data_list : List Data → Data
data_list ds = array (data_items ds)

-- A person

abbrev pub text_data : Option (List ℕ) → Data
text_data None = null
text_data (Some text) = string text

abbrev pub number_data : Option ℕ → Data
number_data None = null
number_data (Some n) = number (unsigned n)

abbrev pub id_data : Event → Data
id_data e = string (event_name e)

abbrev pub registration_data : Person → Data
registration_data p =
    object (put (codes "eventIds") (data_list (map id_data p.events))
    (put (codes "status") (string (status_name p.status)) no_members))

abbrev pub person_data : Person → Data
person_data p =
    object (put (codes "registration") (registration_data p) (put (codes "registrantId")
    (number_data p.number) (put (codes "wcaId") (text_data p.wca_id)
    (put (codes "name") (string p.name) (put (codes "email") (string p.email) no_members)))))

spells_text : {n : ℕ} (o : Option (List ℕ)) → IsText o → Spells (text_or_null o) (text_data o) n
spells_text None h = spells_null
spells_text (Some text) h = spells_string h

spells_number : {n : ℕ} (o : Option ℕ) → IsNumber o → Spells (whole_or_null o) (number_data o) n
spells_number None h = spells_null
spells_number (Some k) h = spells_whole k (omega (arith, h))

event_text : (e : Event) → IsUtf8 (event_name e)
event_text event.Cube3 = IsUtf8-are_ascii _ refl
event_text _ = IsUtf8-are_ascii _ refl

status_text : (s : Status) → IsUtf8 (status_name s)
status_text accepted = IsUtf8-are_ascii _ refl
status_text pending = IsUtf8-are_ascii _ refl
status_text deleted = IsUtf8-are_ascii _ refl

abbrev Nothing : {A : Type 0} → A → Type 0
Nothing x = Unit {0}

nothing : {A : Type 0} (xs : List A) → AllByRecursion Nothing xs
nothing [] = tt
nothing (x ∷ xs) = (tt, nothing xs)

spells_ids : (es : List Event) (n : ℕ)
    → SpellsItems (items_of (map event_id es)) (data_items (map id_data es)) n
spells_ids es n =
    each_item event_id id_data Nothing n (λ e h. spells_string (event_text e)) es (nothing es)

spells_registration : (p : Person) → Spells (registration_json p) (registration_data p) 2
spells_registration p =
    spells_object 1 (one_member refl (spells_string (status_text p.status))
    (one_member refl (spells_list 0 (spells_ids p.events 0)) no_more_members))

pub spells_person : (p : Person) → IsPerson p → Spells (person_json p) (person_data p) 3
unfolding person_json
spells_person p h =
    spells_object 2 (one_member refl (spells_string h.email) (one_member refl (spells_string h.name)
    (one_member refl (spells_text p.wca_id h.wca_id) (one_member refl
    (spells_number p.number h.number) (one_member refl (spells_registration p) no_more_members)))))

-- A round

abbrev pub limit_data : Option ℕ → Data
limit_data None = null
limit_data (Some limit) =
    object (put (codes "cumulativeRoundIds") (data_list [])
    (put (codes "centiseconds") (number (unsigned limit)) no_members))

abbrev pub cutoff_data : Option (ℕ × ℕ) → Data
cutoff_data None = null
cutoff_data (Some cutoff) =
    object (put (codes "attemptResult") (number (unsigned cutoff.1))
    (put (codes "numberOfAttempts") (number (unsigned cutoff.0)) no_members))

abbrev pub condition_data : List ℕ → ℕ → Data
condition_data type level =
    object (put (codes "level") (number (unsigned level))
    (put (codes "type") (string type) no_members))

abbrev pub advance_data : Advances → Data
advance_data Final = null
advance_data (Top n) = condition_data (codes "ranking") n
advance_data (Percent n) = condition_data (codes "percent") n

abbrev pub round_data : Event → ℕ → Settings → Data
round_data e n s =
    object (put (codes "results") (data_list []) (put (codes "advancementCondition")
    (advance_data s.advance) (put (codes "cutoff") (cutoff_data s.cutoff)
    (put (codes "timeLimit") (limit_data s.limit) (put (codes "format")
    (string (format_code s.format)) (put (codes "id") (string (round_name e n)) no_members))))))

abbrev pub rounds_data : Event → ℕ → List Settings → List Data
rounds_data e n [] = []
rounds_data e n (s ∷ ss) = round_data e n s ∷ rounds_data e (n + 1) ss

limit_small : (unit : Measure) (limit : ℕ) → IsLimit unit (Some limit) → limit ≤ 360000
limit_small measure.Time limit h = h.1
limit_small measure.Moves limit h = absurd h
limit_small measure.Multi limit h = absurd h

spells_limit : (unit : Measure) (o : Option ℕ) → IsLimit unit o
    → Spells (limit_json o) (limit_data o) 2
spells_limit unit None h = spells_null
spells_limit unit (Some limit) h =
    let small = limit_small unit limit h in
    spells_object 1 (one_member refl (spells_whole limit (omega (arith, small)))
    (one_member refl (spells_list 0 no_more_items) no_more_members))

attempts_few : (f : Format) → attempts_of f ≤ 5
attempts_few Ao5 = omega arith
attempts_few _ = omega arith

cutoff_small : (unit : Measure) (f : Format) (c : ℕ × ℕ) → IsCutoff unit f (Some c)
    → (c.0 ≤ 5) × (c.1 ≤ 360000)
cutoff_small measure.Time f c h =
    let few = attempts_few f in let most = h.0.1 in (omega (arith, few, most), h.1.1)
cutoff_small measure.Moves f c h =
    let few = attempts_few f in let most = h.0.1 in (omega (arith, few, most), h.1.1)
cutoff_small measure.Multi f c h = absurd h

spells_cutoff : (unit : Measure) (f : Format) (o : Option (ℕ × ℕ)) → IsCutoff unit f o
    → Spells (cutoff_json o) (cutoff_data o) 2
spells_cutoff unit f None h = spells_null
spells_cutoff unit f (Some c) h =
    let small = cutoff_small unit f c h in
    let first = small.0 in
    let second = small.1 in
    spells_object 1 (one_member refl (spells_whole c.0 (omega (arith, first)))
    (one_member refl (spells_whole c.1 (omega (arith, second))) no_more_members))

spells_condition : (type : List ℕ) (level : ℕ) → IsUtf8 type → level < 2 ^ 64
    → Spells (condition_json type level) (condition_data type level) 2
spells_condition type level text small =
    spells_object 1 (one_member refl (spells_string text)
    (one_member refl (spells_whole level small) no_more_members))

spells_advance : (a : Advances) → IsAdvance a → Spells (advance_json a) (advance_data a) 2
spells_advance Final h = spells_null
spells_advance (Top n) h =
    let most = h.1 in
    spells_condition (codes "ranking") n (IsUtf8-are_ascii _ refl) (omega (arith, most))
spells_advance (Percent n) h =
    let most = h.1 in
    spells_condition (codes "percent") n (IsUtf8-are_ascii _ refl) (omega (arith, most))

format_text : (f : Format) → IsUtf8 (format_code f)
format_text Ao5 = IsUtf8-are_ascii _ refl
format_text _ = IsUtf8-are_ascii _ refl

name_text : (e : Event) (n : ℕ) → n < 2 ^ 64 → IsUtf8 (round_name e n)
name_text e n small =
    IsUtf8-append (event_name e ++ codes "-r") (decimal n)
    (IsUtf8-append (event_name e) (codes "-r") (event_text e) (IsUtf8-are_ascii _ refl))
    (IsUtf8-from_ascii (decimal n) (IsAscii-decimal n small))

pub spells_round : (e : Event) (n : ℕ) (s : Settings) → n < 2 ^ 64 → IsRound e s
    → Spells (round_json e n s) (round_data e n s) 3
unfolding round_json
spells_round e n s small h =
    spells_object 2 (one_member refl (spells_string (name_text e n small))
    (one_member refl (spells_string (format_text s.format)) (one_member refl
    (spells_limit (unit_of e) s.limit h.limit) (one_member refl
    (spells_cutoff (unit_of e) s.format s.cutoff h.cutoff) (one_member refl
    (spells_advance s.advance h.advance)
    (one_member refl (spells_list 1 no_more_items) no_more_members))))))

spells_rounds : (e : Event) (n : ℕ) (ss : List Settings) → n + length ss < 2 ^ 64
    → AllByRecursion (IsRound e) ss
    → SpellsItems (items_of (rounds_json e n ss)) (data_items (rounds_data e n ss)) 3
spells_rounds e n [] small h = no_more_items
spells_rounds e n (s ∷ ss) small h =
    one_item (spells_round e n s (omega (arith, small)) h.0)
    (spells_rounds e (n + 1) ss (omega (arith, small)) h.1)

-- An event

abbrev pub event_data : Held → Data
event_data h =
    object (put (codes "rounds") (data_list (rounds_data h.event 1 h.rounds))
    (put (codes "id") (id_data h.event) no_members))

pub spells_event : (ps : List Person) (h : Held) → IsEvent ps h
    → Spells (event_json h) (event_data h) 5
unfolding event_json
spells_event ps h is =
    let most = is.rounds.1 in
    spells_object 4 (one_member refl (spells_string (event_text h.event)) (one_member refl
    (spells_list 3 (spells_rounds h.event 1 h.rounds (omega (arith, most)) is.each))
    no_more_members))

-- The competition

abbrev pub file_data : Competition → Data
file_data c =
    object (put (codes "events") (data_list (map event_data c.events)) (put (codes "persons")
    (data_list (map person_data c.persons)) (put (codes "name") (string c.name)
    (put (codes "formatVersion") (string (codes "1.0")) no_members))))

weaker : (j : json.Json) (d : Data) (n m : ℕ) → n ≤ m → Spells j d n → Spells j d m
weaker j d n m less s = record {
  reads = s.reads;
  numbers = s.numbers;
  texts = s.texts;
  shallow = let h = s.shallow in omega (arith, h, less);
  as_shallow = let h = s.as_shallow in omega (arith, h, less);
}

pub spells_file : (c : Competition) → IsHeld c → Spells (file_json c) (file_data c) 7
unfolding file_json
spells_file c h =
    spells_object 6 (one_member refl (spells_string (IsUtf8-are_ascii _ refl))
    (one_member refl (spells_string h.name) (one_member refl (spells_list 5
    (each_item person_json person_data IsPerson 5
    (λ p is. weaker _ _ 3 5 (omega arith) (spells_person p is)) c.persons h.persons))
    (one_member refl (spells_list 5 (each_item event_json event_data (IsEvent c.persons) 5
    (spells_event c.persons) c.events h.events)) no_more_members))))
