use Rattle.std.proofs.Common.{◌≡◌, length, map}
use Rattle.std.specs.Option.{option_copied}
use Rattle.texts.specs.Fields.{all_of, counted_of}
use Rattle.texts.proofs.Splits.{ahead_parts, in_front, parts}
use Rattle.texts.proofs.fields.was_of.Given as goal

-- the values so far are in front of those that are ahead
abbrev pub invariant-loop-attempt : goal.invariant-loop-attempt
invariant-loop-attempt l =
    record {
      so_far :
          all_of (map counted_of (parts 44 l.fn.bytes))
          ≡ in_front l.values.items
          (all_of (map counted_of (ahead_parts 44 (option_copied l.ahead))));
      count : length l.values.items ≡ l._attempt;
    }
