-- The table of a sheet reads back as the fields that were written.
use Rattle.std.proofs.Common.{◌≡◌, ◌∙◌, ℕ, Bool, true, false, cond, List, [], ◌∷◌, ◌++◌, map}
use Rattle.std.proofs.Common.{flat_map, find, Some, None, option_map, unwrap_or, refl, sym, ap}
use Rattle.std.{proofs.Common.subst, proofs.Common.eqb-true, specs.List.AllByRecursion}
use Rattle.std.proofs.lemmas.{Bool.eq-eqb, List.Elements.All-map, List.Sorted.All-permutation}
use Rattle.csv.{specs.Machine.next_record, proofs.RoundTrip.read-write, proofs.RoundTrip.rows_text}
use Rattle.csv.specs.Reading.{Reached, default_config, strip_bom}
use Rattle.csv.specs.Writing.{default_writer, read_back, row_text}
use Rattle.formats.specs.{declared.events.Event.Event, Events.attempts_of, Events.unit_of}
use Rattle.rounds.specs.Tables.{Entrant, Table, entrant, has_number, number_of_entrant, standings}
use Rattle.texts.specs.declared.command.{Command.Command, Settings.Settings}
use Rattle.commands.{specs.Accepted.seen_of, proofs.Places.find_passes}
use Rattle.sheets.specs.Sheet.{entrant_record, header, is_marked, name_text, table_of_round}
use Rattle.sheets.specs.{Sheet.record_of, ReadingBack.TableReadsBack, ReadingBack.fields_of_entrant}
use Rattle.std.proofs.lemmas.List.Elements.{All-from_recursion, recursion_from_All, All-weaker}
use Rattle.advancement.proofs.Listed.{all_stand}
use Rattle.csv.specs.declared.parser.State.TheVariants as st

-- Entrants

-- somebody has the number
abbrev IsFound : List Entrant → ℕ → Type 0
IsFound es n = (e : Entrant) × (find (has_number n) es ≡ Some e)

found_behind : (first : Entrant) (es : List Entrant) (n : ℕ) → IsFound es n → IsFound (first ∷ es) n
found_behind first es n is = step (has_number n first)
  where
    step : (b : Bool) → (e : Entrant) × (cond b (Some first) (find (has_number n) es) ≡ Some e)
    step true = (first, refl)
    step false = is

all_found : (es : List Entrant) → AllByRecursion (λ e. IsFound es e.number) es
all_found [] = tt
all_found (e ∷ es) = (
  (e, ap (λ b. cond b (Some e) (find (has_number e.number) es)) (eq-eqb e.number e.number refl)),
  recursion_from_All (λ x. IsFound (e ∷ es) x.number) es
      (All-weaker (λ x. IsFound es x.number) (λ x. IsFound (e ∷ es) x.number)
      (λ x is. found_behind e es x.number is) es
      (All-from_recursion (λ x. IsFound es x.number) es (all_found es))),
)

-- who is found has the number
found_number : (es : List Entrant) (n : ℕ) (e : Entrant) → find (has_number n) es ≡ Some e
    → n ≡ e.number
found_number es n e is = eqb-true n e.number (find_passes (has_number n) es e is)

all_standing : (t : Table) → AllByRecursion (IsFound t.entrants) (standings t)
all_standing t =
    recursion_from_All (IsFound t.entrants) (standings t)
    (All-permutation (IsFound t.entrants) (map number_of_entrant t.entrants) (standings t)
    (all_stand t) (All-map (IsFound t.entrants) number_of_entrant t.entrants
    (All-from_recursion (λ e. IsFound t.entrants e.number) t.entrants (all_found t.entrants))))

-- Records

-- the record of the entrant with a number
abbrev record_in : List Command → Event → ℕ → Settings × Table → ℕ → List ℕ
record_in cs event round r =
    record_of (unit_of event) cs r.0 r.1 (is_marked r.1 (seen_of cs event round))

-- these numbers are those of entrants, and their records are written so
abbrev Gathered : List Command → Event → ℕ → Settings × Table → List ℕ → Type 0
Gathered cs event round r ns =
    (es : List Entrant) × (map number_of_entrant es ≡ ns)
    × AllByRecursion (λ e. entrant r.1 e.number ≡ Some e) es
    × (flat_map (record_in cs event round r) ns
    ≡ rows_text (map (fields_of_entrant cs event round r) es))

record_found : (cs : List Command) (event : Event) (round : ℕ) (r : Settings × Table)
    (e : Entrant) → entrant r.1 e.number ≡ Some e → record_in cs event round r e.number
    ≡ row_text default_writer (fields_of_entrant cs event round r e)
unfolding entrant_record
record_found cs event round r e is =
    ap (λ o. unwrap_or
    (option_map (entrant_record (unit_of event) r.0 r.1 (is_marked r.1 (seen_of cs event round))
    e.number (name_text cs e.number)) o) []) is

gather : (cs : List Command) (event : Event) (round : ℕ) (r : Settings × Table) (ns : List ℕ)
    → AllByRecursion (IsFound r.1.entrants) ns → Gathered cs event round r ns
unfolding rows_text
gather cs event round r [] are = ([], refl, tt, refl)
gather cs event round r (n ∷ ns) are =
    let e = are.0.0 in
    let same : n ≡ e.number = found_number r.1.entrants n e are.0.1 in
    let rest = gather cs event round r ns are.1 in
    let found : entrant r.1 e.number ≡ Some e =
    subst (λ (k : ℕ). entrant r.1 k ≡ Some e) same are.0.1 in
    let here : record_in cs event round r n
    ≡ row_text default_writer (fields_of_entrant cs event round r e) =
    ap (record_in cs event round r) same ∙ record_found cs event round r e found in (
      e ∷ rest.0,
      ap (λ k. k ∷ map number_of_entrant rest.0) (sym same) ∙ ap (λ ks. n ∷ ks) rest.1,
      (found, rest.2),
      ap (λ x. x ++ flat_map (record_in cs event round r) ns) here
          ∙ ap (λ x. row_text default_writer (fields_of_entrant cs event round r e) ++ x) rest.3,
    )

-- Reading

-- records that have a field each read back one after the other
reached : (rows : List (List (List ℕ))) → AllByRecursion (λ fields. read_back fields ≡ fields) rows
    → Reached default_config st.StartRecord (rows_text rows) rows st.StartRecord []
unfolding Reached rows_text
reached [] are = (refl, refl)
reached (fields ∷ rows) are = (
  (read_back fields, st.StartRecord, rows_text rows),
  read-write fields (rows_text rows),
  sym are.0,
  reached rows are.1,
)

no_more : next_record default_config st.StartRecord [] [] [] ≡ None
unfolding next_record
no_more = refl

each_has_fields : (cs : List Command) (event : Event) (round : ℕ) (r : Settings × Table)
    (es : List Entrant) → AllByRecursion (λ fields. read_back fields ≡ fields)
    (map (fields_of_entrant cs event round r) es)
each_has_fields cs event round r [] = tt
each_has_fields cs event round r (e ∷ es) = (refl, each_has_fields cs event round r es)

-- the table begins with the name of a column, and so with no mark of an order of bytes
no_mark : (n : ℕ) (rest : List ℕ) → strip_bom (row_text default_writer (header n) ++ rest)
    ≡ row_text default_writer (header n) ++ rest
unfolding strip_bom
no_mark n rest = refl

table_rows : (cs : List Command) (event : Event) (round : ℕ) (r : Settings × Table)
    → (g : Gathered cs event round r (standings r.1)) → table_of_round cs event round r
    ≡ rows_text (header (attempts_of r.0.format) ∷ map (fields_of_entrant cs event round r) g.0)
unfolding rows_text
table_rows cs event round r g =
    ap (λ x. row_text default_writer (header (attempts_of r.0.format)) ++ x) g.3

pub reads_back : TableReadsBack
reads_back cs event round r is =
    let g = gather cs event round r (standings r.1) (all_standing r.1) in
    let rows = header (attempts_of r.0.format) ∷ map (fields_of_entrant cs event round r) g.0 in
    let text = table_rows cs event round r g in
    let plain = no_mark (attempts_of r.0.format)
    (flat_map (record_in cs event round r) (standings r.1)) in (
      table_of_round cs event round r,
      ap (option_map (table_of_round cs event round)) is,
      g.0,
      (g.1, g.2),
      (
        st.StartRecord,
        [],
        subst (λ (x : List ℕ). Reached default_config st.StartRecord x rows st.StartRecord [])
            (sym (plain ∙ text)) (reached rows (refl, each_has_fields cs event round r g.0)),
        no_more,
      ),
    )
