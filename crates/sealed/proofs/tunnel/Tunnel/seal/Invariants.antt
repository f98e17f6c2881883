use Rattle.std.proofs.Common.{◌≡◌, ◌-◌, ◌*◌, ◌+◌, ◌<◌, ◌≤◌, length, take}
use Rattle.sealed.specs.Tunnels.{SealsAll}
use Rattle.sealed.proofs.tunnel.Tunnel.seal.Given as goal

-- what is in front was sealed
abbrev pub invariant-loop-start : goal.invariant-loop-start
invariant-loop-start l = record {
  within : l.start ≤ length l.bytes;
  sealed : SealsAll (take l.start l.bytes) l.initial.self-inside.sealer l.self-inside.sealer
      l.sent.items;
  opener : l.self-inside.opener ≡ l.initial.self-inside.opener;
  grown : l.initial.self-inside.sealer.number ≤ l.self-inside.sealer.number;
  enough : l.start ≤ 16384 * (l.self-inside.sealer.number - l.initial.self-inside.sealer.number);
  few : 16384 * (l.self-inside.sealer.number - l.initial.self-inside.sealer.number)
      < l.start + 16384;
  full : l.start < length l.bytes
      → l.start ≡ 16384 * (l.self-inside.sealer.number - l.initial.self-inside.sealer.number);
}

abbrev pub decreases-loop-start : goal.decreases-loop-start
decreases-loop-start l = length l.bytes - l.start
