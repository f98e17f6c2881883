use Rattle.std.proofs.Common.{◌≡◌, ◌++◌, take}
use Rattle.std.specs.{Int.w32, Int.to_be_bytes, List.flat_map}
use Rattle.wire.proofs.writing.put_numbers.Given as goal

-- the lengths so far were put
abbrev pub invariant-loop-number : goal.invariant-loop-number
invariant-loop-number l =
    l.out.items
    ≡ l.initial.out.items ++ flat_map (λ n. to_be_bytes w32 n) (take l.number-index l.numbers)
