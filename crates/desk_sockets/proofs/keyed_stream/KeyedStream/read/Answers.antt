use Rattle.std.proofs.Common.{rules, refl, subst, sym}
use Rattle.desk_sockets.proofs.Answering.{hands_none}
use Rattle.desk_sockets.proofs.Reading.{Run, eaten, run_ends, run_hands, run_more, run_none}
use Rattle.desk_sockets.proofs.keyed_stream.KeyedStream.read.Goals as goal

pub loop-read-init : goal.loop-read-init
loop-read-init g c = record { key = refl; run = run_none _ _ _ _; hands = hands_none }

pub loop-read-preserved : goal.loop-read-preserved
loop-read-preserved g c =
    let run = subst (λ s. Run g.S.Read.remaining c.args.self.now.socket s c.args.self.now.call
    c.take.new.self.call c.args.handed.now.items c.take.new.handed.items c.args.answering.now
    c.take.new.answering) (sym c.if-not-take.ensures.socket) (run_more c.loop-read.invariant.run
    (eaten _ _ c.read.result c.in-Ok.count c.read.new.buf c.in-Ok.is c.read.ensures.bytes)
    (search rules) (c.if-not-take.ensures.says refl)) in
    record { key = search rules; run = run; hands = run_hands run }

pub returns-then-not-take-clause-hands : goal.returns-then-not-take-clause-hands
returns-then-not-take-clause-hands g c =
    run_ends c.read.new.self c.loop-read.invariant.run
    (eaten _ _ c.read.result c.in-Ok.count c.read.new.buf c.in-Ok.is c.read.ensures.bytes)
    (search rules) (c.if-not-take.ensures.ends refl)
