-- Why something waits, in words (the project's own).
use Rattle.std.specs.Prelude.{ℕ, ◌==◌, if◌then◌else◌, List, codes, Option, None, Some}
use Rattle.wire.specs.declared.values.ClientRefusal.{ClientRefusal}
use Rattle.table_views.specs.declared.{bar.DesksHealth.DesksHealth, desks.HallStatus.HallStatus}
use Rattle.table_views.specs.Bar.{doing_of}
use Rattle.wire.specs.declared.values.ClientRefusal.TheVariants as refusal
use Rattle.table_views.specs.declared.bar.DesksHealth.TheVariants as doing

-- why a desk did not take what was submitted
abbrev pub refusal_words : ClientRefusal → List ℕ
refusal_words refusal.Busy = codes ": the desk is full, it is sent again"
refusal_words refusal.LogFull = codes ": the log is full, the desks take no more"
refusal_words refusal.Foreign = codes ": the desk is of another hall"
refusal_words refusal.HallDiffers =
    codes ": the machines have other commands than one another, and take none"
refusal_words refusal.NotAllowed =
    codes ": the desk does not take it, since this table has no key, or another one"
refusal_words _ = codes ": the desk is down, it is sent to another one"

-- why the desk did not take the item of an id, if it is the one that it did not take
abbrev pub refusal_if : Option (ℕ × ClientRefusal) → ℕ → Option ClientRefusal
refusal_if None id = None
refusal_if (Some refused) id = if refused.0 == id then Some refused.1 else None

-- why items wait that no desk refused, as the desks are doing
abbrev pub delay_words : DesksHealth → List ℕ
delay_words (doing.Locked wrong) = codes ": this table has no key, or another one than the desks"
delay_words (doing.OtherHall desk) = codes ": a machine that answers is of another hall"
delay_words (doing.Differs difference) =
    codes ": the machines have other commands than one another"
delay_words doing.Few = codes ": less than a majority of the machines answers"
delay_words (doing.Silent milliseconds) =
    codes ": the machine that this table asks does not answer"
delay_words (doing.Undecided milliseconds) = codes ": the machines have not decided it yet"
delay_words _ = codes ""

abbrev pub why_by : Option ClientRefusal → HallStatus → List ℕ
why_by (Some why) desks = refusal_words why
why_by None desks = delay_words (doing_of desks)

-- why the item of an id waits
abbrev pub why_words : HallStatus → ℕ → List ℕ
why_words desks id = why_by (refusal_if desks.refused id) desks
