use Rattle.std.proofs.Common.{◌≡◌, ◌+◌, ◌++◌, drop}
use Rattle.card_forms.specs.Entries.{command_entries}
use Rattle.card_forms.proofs.entries.text_entries.Given as goal

abbrev pub invariant-loop-text : goal.invariant-loop-text
invariant-loop-text l = record {
  next : l.next ≡ l.id + l.text-index;
  entries : l.entries.items ++ command_entries l.next (drop l.text-index l.texts)
      ≡ command_entries l.id l.texts;
}
