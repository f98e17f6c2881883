-- The rounds of a competition's file: a desk holds the settings of each.
use Rattle.std.proofs.Common.{◌≡◌, refl, ap, ◌∙◌, ℕ, ◌+◌, arith, true, List, [], ◌∷◌, ◌++◌, length}
use Rattle.std.proofs.Common.{map, Option, Some, None, option_and_then, option_map, ◌-◌}
use Rattle.std.{proofs.Common.length-append, specs.Prelude.Ok, specs.List.AllByRecursion}
use Rattle.serde_json.specs.Data.{Data}
use Rattle.attempts.specs.declared.Unit.{Unit as Measure}
use Rattle.attempts.specs.declared.Unit.TheVariants.{Time, Moves, Multi}
use Rattle.formats.specs.declared.{advance.Advance.Advance as Advances, events.Event.Event}
use Rattle.formats.specs.declared.advance.Advance.TheVariants.{Final, Top, Percent}
use Rattle.formats.specs.declared.events.Format.{Format, TheVariants.Ao5}
use Rattle.formats.specs.Events.{unit_of, is_allowed, attempts_of}
use Rattle.texts.specs.{declared.command.Settings.Settings, Numerals.within}
use Rattle.texts.proofs.Numerals.{bytes_eq-same}
use Rattle.wcif.specs.{declared.options.CumulativeLimits.CumulativeLimits, Events.each_round}
use Rattle.wcif.{proofs.Numbered.in_range, specs.Rounds.round_id, specs.Rounds.round_faults}
use Rattle.wcif.specs.{Members.not_null, Told.told, Told.told_from}
use Rattle.wcif.specs.Rounds.{named_format, format_in, cutoff_of, cutoff_by, cutoff_in, limit_of}
use Rattle.wcif.specs.Rounds.{limit_by, limit_in, advance_by, advance_in, settings_in, settings}
use Rattle.import_laws.specs.Held.{IsRound, IsCutoff, IsLimit, IsAdvance}
use Rattle.import_laws.specs.Spelled.{format_code}
use Rattle.import_laws.proofs.Datas.{round_data, rounds_data, limit_data, cutoff_data, advance_data}
use Rattle.wcif.specs.declared.fault.CompetitionFault.TheVariants as of
use Rattle.wcif.specs.declared.options.CumulativeLimits.TheVariants as limits

named : (f : Format) → named_format (format_code f) ≡ Some f
unfolding named_format
named Ao5 = refl
named _ = refl

pub format_is : (e : Event) (n : ℕ) (s : Settings) → is_allowed e s.format ≡ true
    → format_in e (round_data e n s) ≡ Some s.format
unfolding format_in
format_is e n s allowed = rw (named s.format, allowed) refl

cutoff_held : (f : Format) (c : ℕ × ℕ) → IsCutoff Time f (Some c)
    → cutoff_of (Some f) (cutoff_data (Some c)) ≡ Some c
unfolding cutoff_of
cutoff_held f c h =
    ap (option_and_then (λ k. option_map (λ below. (k, below)) (within 1 360000 c.1)))
    (in_range 1 (attempts_of f - 1) c.0 h.0.0 h.0.1)
    ∙ ap (option_map (λ below. (c.0, below))) (in_range 1 360000 c.1 h.1.0 h.1.1)

cutoff_read : (unit : Measure) (f : Format) (o : Option (ℕ × ℕ)) → IsCutoff unit f o
    → cutoff_by unit (Some f) (not_null (cutoff_data o)) ≡ Ok o
cutoff_read unit f None h = refl
cutoff_read Time f (Some c) h = rw (cutoff_held f c h) refl
cutoff_read Moves f (Some c) h = rw (cutoff_held f c h) refl
cutoff_read Multi f (Some c) h = absurd h

pub cutoff_is : (e : Event) (n : ℕ) (s : Settings) → IsCutoff (unit_of e) s.format s.cutoff
    → cutoff_in e (Some s.format) (round_data e n s) ≡ Ok s.cutoff
unfolding cutoff_in
cutoff_is e n s h = cutoff_read (unit_of e) s.format s.cutoff h

limit_held : (how : CumulativeLimits) (limit : ℕ) → IsLimit Time (Some limit)
    → limit_of how (limit_data (Some limit)) ≡ Ok (Some limit)
unfolding limit_of
limit_held limits.Refuse limit h = rw (in_range 1 360000 limit h.0 h.1) refl
limit_held limits.AsSingle limit h = rw (in_range 1 360000 limit h.0 h.1) refl

limit_read : (how : CumulativeLimits) (unit : Measure) (o : Option ℕ) → IsLimit unit o
    → limit_by how unit (not_null (limit_data o)) ≡ Ok o
limit_read how Time None h = absurd h
limit_read how Time (Some limit) h = limit_held how limit h
limit_read how Moves None h = refl
limit_read how Moves (Some limit) h = absurd h
limit_read how Multi None h = refl
limit_read how Multi (Some limit) h = absurd h

pub limit_is : (how : CumulativeLimits) (e : Event) (n : ℕ) (s : Settings)
    → IsLimit (unit_of e) s.limit → limit_in how e (round_data e n s) ≡ Ok s.limit
unfolding limit_in
limit_is how e n s h = limit_read how (unit_of e) s.limit h

advance_read : (a : Advances) → IsAdvance a → advance_by (not_null (advance_data a)) ≡ Ok a
advance_read Final h = refl
advance_read (Top n) h = rw (in_range 1 999 n h.0 h.1) refl
advance_read (Percent n) h = rw (in_range 1 75 n h.0 h.1) refl

pub advance_is : (e : Event) (n : ℕ) (s : Settings) → IsAdvance s.advance
    → advance_in (round_data e n s) ≡ Ok s.advance
unfolding advance_in
advance_is e n s h = advance_read s.advance h

pub settings_are : (how : CumulativeLimits) (e : Event) (n : ℕ) (s : Settings) → IsRound e s
    → settings_in how e (round_data e n s) ≡ Some s
unfolding settings_in
settings_are how e n s h =
    let d : Data = round_data e n s in
    rw (
      format_is e n s h.format,
      cutoff_is e n s h.cutoff,
      limit_is how e n s h.limit,
      advance_is e n s h.advance,
    ) refl

pub no_round_faults : (how : CumulativeLimits) (e : Event) (n : ℕ) (s : Settings) → IsRound e s
    → round_faults how e n (round_data e n s) ≡ []
unfolding round_faults
no_round_faults how e n s h =
    let d : Data = round_data e n s in
    rw (
      bytes_eq-same (round_id e n),
      format_is e n s h.format,
      cutoff_is e n s h.cutoff,
      limit_is how e n s h.limit,
      advance_is e n s h.advance,
    ) refl

rounds_told : (how : CumulativeLimits) (e : Event) (earlier : List Data) (n : ℕ)
    (ss : List Settings) → length earlier + 1 ≡ n → AllByRecursion (IsRound e) ss
    → told_from (each_round how e) earlier (rounds_data e n ss) ≡ []
rounds_told how e earlier n [] is h = refl
rounds_told how e earlier n (s ∷ ss) is h =
    let d : Data = round_data e n s in
    ap (λ said. said ++ told_from (each_round how e) (earlier ++ d ∷ []) (rounds_data e (n + 1) ss))
    (ap (λ k. map (of.Round e k) (round_faults how e k d)) is
    ∙ ap (map (of.Round e n)) (no_round_faults how e n s h.0))
    ∙ rounds_told how e (earlier ++ d ∷ []) (n + 1) ss
    (ap (λ k. k + 1) (simp length-append (omega (arith, is)))) h.1

pub no_rounds_faults : (how : CumulativeLimits) (e : Event) (ss : List Settings)
    → AllByRecursion (IsRound e) ss → told (each_round how e) (rounds_data e 1 ss) ≡ []
unfolding told
no_rounds_faults how e ss h = rounds_told how e [] 1 ss refl h
