use Rattle.std.proofs.Common.{◌≡◌, drop, map, string_bytes}
use Rattle.table_service.specs.Gate.{is_host}
use Rattle.table_service.proofs.gate.is_host.Given as goal

abbrev pub invariant-loop-host : goal.invariant-loop-host
invariant-loop-host l =
    is_host (map string_bytes (drop l.host-index l.hosts)) l.value
    ≡ is_host (map string_bytes l.hosts) l.value
