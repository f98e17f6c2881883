use Rattle.std.proofs.Common.{◌≡◌, ◌++◌, subst, take}
use Rattle.std.specs.Prelude.{IfSome, option_map}
use Rattle.exports.proofs.imports.Whole.{front_of}
use Rattle.exports.proofs.imports.reading.read_bytes.Goals as goal

pub returns-in-Ok : goal.returns-in-Ok
returns-in-Ok g c =
    let remaining = g.R.Read.remaining in
    front_of (remaining c.args.reader) c.take.result.limit c.new-bytes.result.items
    c.read_to_end.new.buf.items c.new-bytes.ensures.items c.take.ensures.limit
    (subst (λ r. IfSome (option_map (take c.take.result.limit) (remaining r))
    (λ xs. c.read_to_end.new.buf.items ≡ c.new-bytes.result.items ++ xs)) c.take.ensures.inner
    c.in-Ok.ensures.bytes)
