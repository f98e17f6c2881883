use Rattle.std.proofs.Common.{◌≡◌, codes, map, string_bytes}
use Rattle.table_service.specs.Gate.{are_hosts, values_in}
use Rattle.table_service.proofs.gate.hosts_are_own.Given as goal

abbrev pub invariant-loop-value : goal.invariant-loop-value
invariant-loop-value l =
    (goal.iterator-loop-value).can_next l.value-iterator
    × (goal.iterator-loop-value).is_finite l.value-iterator
    × (are_hosts (map string_bytes l.hosts) l.value-iterator
    ≡ are_hosts (map string_bytes l.hosts) (values_in (codes "host") l.request))
