use Rattle.std.proofs.Common.{◌≡◌, length, map}
use Rattle.std.specs.Option.{option_copied}
use Rattle.texts.specs.Fields.{all_of, stays_or_of}
use Rattle.texts.proofs.Splits.{ahead_parts, in_front, parts}
use Rattle.texts.proofs.fields.outcomes_of.Given as goal

-- the outcomes so far are in front of those that are ahead
abbrev pub invariant-loop-attempt : goal.invariant-loop-attempt
invariant-loop-attempt l =
    record {
      so_far :
          all_of (map stays_or_of (parts 47 l.fn.bytes))
          ≡ in_front l.outcomes.items
          (all_of (map stays_or_of (ahead_parts 47 (option_copied l.ahead))));
      count : length l.outcomes.items ≡ l._attempt;
    }
