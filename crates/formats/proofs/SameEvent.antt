-- Events of one number are one event.
use Rattle.std.proofs.Common.{◌≡◌, ℕ, ◌-◌, true, refl, sym, ap, ◌∙◌, eqb-true}
use Rattle.std.specs.Prelude.{slice_index_or}
use Rattle.formats.specs.declared.events.Event.{Event, TheVariants.Cube3}
use Rattle.formats.specs.Events.{all_events, event_number, same_event}

event_at : ℕ → Event
event_at n = slice_index_or all_events (n - 1) Cube3

event_at-event_number : (e : Event) → event_at (event_number e) ≡ e
unfolding event_at
event_at-event_number Cube3 = refl
event_at-event_number _ = refl

pub same_event-equal : (a b : Event) → same_event a b ≡ true → a ≡ b
same_event-equal a b h =
    sym (event_at-event_number a) ∙ ap event_at (eqb-true (event_number a) (event_number b) h)
    ∙ event_at-event_number b
