use Rattle.std.proofs.Common.{false, rules}
use Rattle.desk_talks.specs.Dialogues.{Lost}
use Rattle.desk_sockets.proofs.Driving.{both, one, quiet, writes}
use Rattle.desk_sockets.proofs.desk_stream.write.Goals as goal

pub returns-in-Later-clause-went : goal.returns-in-Later-clause-went
returns-in-Later-clause-went g c =
    λ addresses. both (c.loop-write.invariant.went addresses) (quiet c.in-Later.ensures.told)

pub returns-in-Broke-clause-went : goal.returns-in-Broke-clause-went
returns-in-Broke-clause-went g c = λ addresses. both
    (both (c.loop-write.invariant.went addresses) (quiet c.in-Broke.ensures.told))
    (one (Lost false) c.lose.ensures.lost c.lose.ensures.told)

pub loop-write-preserved : goal.loop-write-preserved
loop-write-preserved g c = record {
  keys = search rules;
  held = search rules;
  went = λ addresses. both (c.loop-write.invariant.went addresses)
      (writes c.in-Bytes.count c.sent.ensures.leads c.output-output.ensures
      c.in-Bytes.ensures.count.0 c.in-Bytes.ensures.count.1 c.in-Bytes.ensures.told);
}
