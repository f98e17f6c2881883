use Rattle.std.proofs.Common.{◌≡◌, ◌+◌, drop, length}
use Rattle.std.specs.Option.{option_copied}
use Rattle.texts.specs.{Reading.values_of, model.Returned.after}
use Rattle.texts.proofs.reading.values_of.Given as goal

-- what the fields so far are is in front of what the later ones are
abbrev pub invariant-loop-kind : goal.invariant-loop-kind
invariant-loop-kind l =
    record {
      so_far :
          values_of 0 l.kinds 1 (option_copied l.left)
          ≡ after l.values.items
          (values_of l.stands (drop l.kind-index l.kinds) l.index (option_copied l.ahead));
      index : l.index ≡ l.kind-index + 1;
      count : length l.values.items ≡ l.kind-index;
    }
