-- The tokens of what is written, from the values that were written.
use Rattle.std.proofs.lemmas.Grind.{flat_map-append}
use Rattle.std.proofs.Common.{◌≡◌, refl, sym, ap, ◌∙◌, ℕ, Bool, List, [], ◌∷◌, ◌++◌, codes, decimal}
use Rattle.std.proofs.Common.{flat_map, cond, true, false, Bor, Option, Some}
use Rattle.std.specs.{Option.option_map, Str.IsUtf8, Str.is_utf8}
use Rattle.std.proofs.lemmas.Str.{is_utf8-from_IsUtf8, IsUtf8-from_is_utf8}
use Rattle.json.specs.{Json.null as no_json, Json.string as string_json, Token.null, Value.items_of}
use Rattle.json.specs.Token.{Token, begin_array, begin_object, end_object, key, number, string}
use Rattle.json.specs.{Token.boolean, Tree.json_tokens, Tree.items_tokens, Tree.members_tokens}
use Rattle.attempts.specs.declared.{Value.Value, Unit.Unit as Measure}
use Rattle.commands.specs.Accepted.{name_of, seen_of}
use Rattle.formats.specs.declared.{events.Event.Event, results.Averaged.Averaged}
use Rattle.formats.specs.Events.{event_name, format_name}
use Rattle.rounds.specs.{declared.table.EntrantRow.EntrantRow, Rows.IsRow}
use Rattle.rounds.specs.Tables.{Entrant, Table, place, standings}
use Rattle.sheets.specs.Sheet.{is_marked}
use Rattle.texts.specs.declared.command.{Command.Command, Settings.Settings}
use Rattle.wcif_results.specs.{Results.ranking_json, results_json.Meets.event_list}
use Rattle.wcif_results.specs.results_json.Entrants.{entrant_json, entrant_list, entrants_json}
use Rattle.wcif_results.specs.results_json.Rounds.{later_members, round_json, round_list, unit_name}
use Rattle.wcif_results.specs.results_json.Values.{advance_json, average_json, best_json}
use Rattle.wcif_results.specs.results_json.Values.{cutoff_json, limit_json, name_json, values_json}

-- the tokens of a name that is UTF-8, and of bytes that are not
pub name_tokens : (bytes text : List ℕ) → text ≡ bytes → IsUtf8 bytes
    → string text ∷ [] ≡ json_tokens (name_json (Some bytes))
name_tokens bytes text is h = rw (is, is_utf8-from_IsUtf8 bytes h) refl

pub no_name_tokens : (bytes : List ℕ) → ¬ (IsUtf8 bytes)
    → null ∷ [] ≡ json_tokens (name_json (Some bytes))
no_name_tokens bytes not = step (is_utf8 bytes) refl
  where
    step : (b : Bool) → is_utf8 bytes ≡ b
        → null ∷ [] ≡ json_tokens (cond b (string_json bytes) no_json)
    step true is = absurd (not (IsUtf8-from_is_utf8 bytes is))
    step false is = refl

-- the tokens of an entrant with these parts
abbrev row_of : ℕ → Option (List ℕ) → List Value → ℕ → Averaged → Bool → List Token
row_of n name vs place average marked =
    begin_object ∷ key (codes "number") ∷ number (decimal n) ∷ key (codes "name")
    ∷ (json_tokens (name_json name) ++ (key (codes "place") ∷ (json_tokens (ranking_json vs place)
    ++ (key (codes "attempts") ∷ (json_tokens (values_json vs) ++ (key (codes "best")
    ∷ (json_tokens (best_json vs) ++ (key (codes "average") ∷ (json_tokens (average_json average)
    ++ (key (codes "advances") ∷ boolean marked ∷ end_object ∷ []))))))))))

pub row_tokens : (cs : List Command) (settings : Settings) (t : Table) (marks : ℕ → Bool) (n : ℕ)
    (e : Entrant) (row : EntrantRow) → IsRow t n e row → (name : Option (Bor (List ℕ)))
    → option_map (λ s. s.now) name ≡ name_of cs n → (marked : Bool) → marked ≡ marks n
    → row_of n (option_map (λ s. s.now) name) row.values.now row.place row.average marked
    ≡ json_tokens (entrant_json cs settings t marks n e)
unfolding entrant_json
row_tokens cs settings t marks n e row is name named marked mark =
    rw (named, mark, is.values, is.place, is.average) refl

pub entrants_tokens : (cs : List Command) (settings : Settings) (t : Table) (marks : ℕ → Bool)
    (ns : List ℕ) → ns ≡ standings t
    → begin_array ∷ items_tokens (items_of (flat_map (entrant_list cs settings t marks) ns))
    ≡ json_tokens (entrants_json cs settings t marks)
unfolding entrants_json
entrants_tokens cs settings t marks ns is =
    rw is refl

-- the tokens of a round's later members, with these parts
abbrev later_of : List Command → Settings → Table → (ℕ → Bool) → (format unit : List ℕ) → Bool
    → List Token
later_of cs settings t marks format unit closed =
    key (codes "format") ∷ string format ∷ key (codes "unit") ∷ string unit ∷ key (codes "closed")
    ∷ boolean closed ∷ key (codes "cutoff") ∷ (json_tokens (cutoff_json settings.cutoff)
    ++ (key (codes "limit") ∷ (json_tokens (limit_json settings.limit) ++ (key (codes "advance")
    ∷ (json_tokens (advance_json settings.advance) ++ (key (codes "results")
    ∷ (json_tokens (entrants_json cs settings t marks) ++ end_object ∷ [])))))))

pub later_tokens : (cs : List Command) (settings : Settings) (t : Table) (marks : ℕ → Bool)
    (format : List ℕ) → format ≡ format_name settings.format → (unit : List ℕ) (what : Measure)
    → unit ≡ unit_name what → what ≡ t.unit → (closed : Bool) → closed ≡ t.is_closed
    → later_of cs settings t marks format unit closed ≡ members_tokens
    (later_members cs marks (settings, t))
later_tokens cs settings t marks format formed unit what named measured closed is =
    rw (formed, named, measured, is) refl

pub round_tokens : (cs : List Command) (event : Event) (n : ℕ) (settings : Settings) (t : Table)
    (name : List ℕ) → name ≡ event_name event
    → begin_object ∷ key (codes "event") ∷ string name ∷ key (codes "round") ∷ number (decimal n)
    ∷ members_tokens (later_members cs (is_marked t (seen_of cs event n)) (settings, t))
    ≡ json_tokens (round_json cs event n (settings, t))
unfolding round_json
round_tokens cs event n settings t name is =
    rw is refl

pub event_tokens : (cs : List Command) (event : Event)
    → flat_map json_tokens (round_list cs event 1) ++ (flat_map json_tokens (round_list cs event 2)
    ++ (flat_map json_tokens (round_list cs event 3) ++ flat_map json_tokens
    (round_list cs event 4))) ≡ flat_map json_tokens (event_list cs event)
event_tokens cs event =
    let second = round_list cs event 2 in
    let third = round_list cs event 3 in
    let fourth = round_list cs event 4 in
    rw (
      flat_map-append json_tokens (round_list cs event 1) (second ++ (third ++ fourth)),
      flat_map-append json_tokens second (third ++ fourth),
      flat_map-append json_tokens third fourth,
    )
    refl
