use Rattle.std.proofs.Common.{◌+◌, false, List, All, map, ap, subst, sym, ◌∙◌}
use Rattle.std.specs.List.{list_any}
use Rattle.indexmap.specs.IndexMap.{set_value_at}
use Rattle.attempts.specs.Attempts.{IsInRangeOf}
use Rattle.formats.specs.Results.{is_better}
use Rattle.rounds.specs.{declared.kept.EntrantResult.EntrantResult, Tables.Entrant}
use Rattle.rounds.specs.{Tables.is_started_attempt, declared.kept_entrant.KeptEntrant.KeptEntrant}
use Rattle.rounds.specs.model.{Field.Field, PackedKeys.IsBelow}
use Rattle.rounds.specs.model.KeptEntrants.{kept_of, recounted, passed_by, is_unfinished}
use Rattle.rounds.specs.model.UpToDate.{field_of, entrants_of, no_result}
use Rattle.rounds.proofs.{Passing.line_read, Changing.rows_changed}
use Rattle.rounds.proofs.Changing.{is_in_count, recounted_same, up_to_date_same, up_to_date_after}
use Rattle.rounds.proofs.PackedKeys.{packed_key_at, small_tie}
use Rattle.rounds.proofs.entrants.Entrants.replace.Goals as goal

pub recounted-self-inside-requires-clause-counted
    : goal.recounted-self-inside-requires-clause-counted
recounted-self-inside-requires-clause-counted c =
    is_in_count (λ s. list_any is_started_attempt s.row) c.self.inside.by_number.entries
    c.args.index c.index-before.result.now c.index-before.ensures
    c.has_started.result c.self.inside.started
    (c.has_started.ensures ∙ ap (list_any is_started_attempt) c.values-2.ensures.values)
    c.self.invariant.counts_started

pub recounted-self-inside-requires-2-clause-counted
    : goal.recounted-self-inside-requires-2-clause-counted
recounted-self-inside-requires-2-clause-counted c =
    is_in_count (λ s. is_unfinished c.self.inside.rules s.row) c.self.inside.by_number.entries
    c.args.index c.index-before.result.now c.index-before.ensures
    c.is_unfinished.result c.self.inside.unfinished
    (c.is_unfinished.ensures ∙ ap (is_unfinished c.self.inside.rules) c.values-4.ensures.values)
    c.self.invariant.counts_unfinished

pub recounted-self-inside-requires-3-clause-counted
    : goal.recounted-self-inside-requires-3-clause-counted
recounted-self-inside-requires-3-clause-counted c =
    is_in_count (λ s. is_better s.kept.key no_result) c.self.inside.by_number.entries c.args.index
    c.index-before.result.now c.index-before.ensures
    c.better.result c.self.inside.with_result c.better.ensures c.self.invariant.counts_results

pub recounted-requires-clause-counted : goal.recounted-requires-clause-counted
recounted-requires-clause-counted c =
    is_in_count (λ s. is_better s.kept.key c.of-kept.result.key) c.self.inside.by_number.entries
    c.args.index c.index-before.result.now c.index-before.ensures
    c.better-3.result c.move_places-ahead.result c.better-3.ensures
    c.move_places-ahead.ensures.ahead

pub of-kept-requires-clause-in_range : goal.of-kept-requires-clause-in_range
of-kept-requires-clause-in_range c =
    subst (λ vs. All (IsInRangeOf c.self.inside.rules.unit) vs) (sym c.values.ensures.values)
    (rw (← c.self.view_is) at c.requires.in_range)

pub packed_key_of-packed_key-requires : goal.packed_key_of-packed_key-requires
packed_key_of-packed_key-requires c =
    subst (λ (k : EntrantResult). IsBelow 2147483647 k.key.tie) (sym c.of-kept.ensures)
    (small_tie c.self.inside.rules.format c.self.inside.rules.unit c.values.result.now
    (subst (λ vs. All (IsInRangeOf c.self.inside.rules.unit) vs) (sym c.values.ensures.values)
    (rw (← c.self.view_is) at c.requires.in_range)))

pub move_places-ahead-requires-clause-packed : goal.move_places-ahead-requires-clause-packed
move_places-ahead-requires-clause-packed c = c.self.invariant.ordered

pub move_places-ahead-requires-clause-room : goal.move_places-ahead-requires-clause-room
move_places-ahead-requires-clause-room c =
    let own =
    packed_key_at c.self.inside.by_number.entries c.args.index c.index-before.result.now
    c.self.invariant.ordered c.index-before.ensures in
    (own.room, c.packed_key_of-packed_key.ensures.room)

pub invariant_of-self : goal.invariant_of-self
invariant_of-self c =
    let rules = c.self.inside.rules in
    let es = c.self.inside.by_number.entries in
    let i = c.args.index in
    let before : KeptEntrant = c.index-before.result.now in
    let line = line_read es i before c.index-before.ensures in
    let after : KeptEntrant =
    record {
      row = c.args.row;
      kept = record c.of-kept.result { place = 1 + c.recounted.result };
      packed_key = c.packed_key_of-packed_key.result;
    } in
    up_to_date_same rules
    (set_value_at (map (passed_by before.kept.key c.of-kept.result.key) es) i after)
    (set_value_at c.move_places-ahead.new.entrants.entries i after)
    (recounted c.self.inside.started (list_any is_started_attempt before.row)
    (list_any is_started_attempt c.args.row)) c.recounted-self-inside.result
    (recounted c.self.inside.unfinished (is_unfinished rules before.row)
    (is_unfinished rules c.args.row)) c.recounted-self-inside-2.result
    (recounted c.self.inside.with_result (is_better before.kept.key no_result)
    (is_better c.of-kept.result.key no_result)) c.recounted-self-inside-3.result
    (ap (λ l. set_value_at l i after) (sym c.move_places-ahead.ensures.moved))
    (recounted_same c.self.inside.started c.has_started.result c.has_started-2.result _ _
    (c.has_started.ensures ∙ ap (list_any is_started_attempt) c.values-2.ensures.values)
    (c.has_started-2.ensures ∙ ap (list_any is_started_attempt) c.values-3.ensures.values)
    c.recounted-self-inside.result c.recounted-self-inside.ensures)
    (recounted_same c.self.inside.unfinished c.is_unfinished.result c.is_unfinished-2.result _ _
    (c.is_unfinished.ensures ∙ ap (is_unfinished rules) c.values-4.ensures.values)
    (c.is_unfinished-2.ensures ∙ ap (is_unfinished rules) c.values-5.ensures.values)
    c.recounted-self-inside-2.result c.recounted-self-inside-2.ensures)
    (recounted_same c.self.inside.with_result c.better.result c.better-2.result _ _ c.better.ensures
    c.better-2.ensures c.recounted-self-inside-3.result c.recounted-self-inside-3.ensures)
    (up_to_date_after rules es i (line.0, before) line.1 after c.self.inside.started
    c.self.inside.unfinished c.self.inside.with_result c.move_places-ahead.result c.self.invariant
    (rw (← c.self.view_is) at c.requires.few) (rw (← c.self.view_is) at c.requires.in_range)
    (ap (λ (k : EntrantResult). record k { place = 1 + c.recounted.result })
    (c.of-kept.ensures ∙ ap (λ vs. kept_of rules vs 0) c.values.ensures.values))
    c.move_places-ahead.ensures.ahead (ap (λ m. 1 + m) (c.recounted.ensures ∙ ap
    (λ b. recounted c.move_places-ahead.result b false) c.better-3.ensures)) (λ n. record {
      packed_key = c.packed_key_of-packed_key.ensures.value;
      room =
          c.packed_key_of-packed_key.ensures.room;
    }))

pub returns : goal.returns
returns c =
    let before : KeptEntrant = c.index-before.result.now in
    let after : KeptEntrant =
    record {
      row = c.args.row;
      kept = record c.of-kept.result { place = 1 + c.recounted.result };
      packed_key = c.packed_key_of-packed_key.result;
    } in
    rw (← c.self.view_is) (ap
    (λ (xs : List Entrant). let f : Field = record (field_of c.self.inside) { entrants = xs } in f)
    (ap (λ l. entrants_of (set_value_at l c.args.index after)) c.move_places-ahead.ensures.moved
    ∙ rows_changed before.kept.key c.of-kept.result.key c.self.inside.by_number.entries c.args.index
    after))
