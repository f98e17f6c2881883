use Rattle.std.proofs.Common.{◌≡◌, ◌++◌, subst, take}
use Rattle.std.specs.Prelude.{IfSome, option_map}
use Rattle.keys.proofs.key_file.Fronts.{fault_had, is_read, key_had}
use Rattle.keys.proofs.key_file.reading.key_from.Goals as goal

pub returns-in-Ok-clause-key : goal.returns-in-Ok-clause-key
returns-in-Ok-clause-key g c =
    let remaining = g.R.Read.remaining in
    let items = c.read_to_end.new.buf.items in
    let front =
    is_read (remaining c.args.reader) c.take.result.limit c.new-bytes.result.items items
    c.new-bytes.ensures.items c.take.ensures.limit
    (subst
    (λ r.
    IfSome (option_map (take c.take.result.limit) (remaining r))
    (λ xs. items ≡ c.new-bytes.result.items ++ xs))
    c.take.ensures.inner c.in-Ok.ensures.bytes) in
    key_had (remaining c.args.reader) items c.key_in.result front
    (rw c.deref.ensures.value at c.key_in.ensures.key)
    (rw c.deref.ensures.value at c.key_in.ensures.text)

pub returns-in-Ok-clause-refused : goal.returns-in-Ok-clause-refused
returns-in-Ok-clause-refused g c =
    let remaining = g.R.Read.remaining in
    let items = c.read_to_end.new.buf.items in
    let front =
    is_read (remaining c.args.reader) c.take.result.limit c.new-bytes.result.items items
    c.new-bytes.ensures.items c.take.ensures.limit
    (subst
    (λ r.
    IfSome (option_map (take c.take.result.limit) (remaining r))
    (λ xs. items ≡ c.new-bytes.result.items ++ xs))
    c.take.ensures.inner c.in-Ok.ensures.bytes) in
    fault_had (remaining c.args.reader) items c.key_in.result front
    (rw c.deref.ensures.value at c.key_in.ensures.refused)
