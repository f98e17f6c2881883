use Rattle.competition_file.proofs.Reading.{of_cut}
use Rattle.competition_file.proofs.opening.bytes_in.Goals as goal

pub returns-in-Ok-clause-read : goal.returns-in-Ok-clause-read
returns-in-Ok-clause-read g c =
    of_cut _ c.read_to_end.new.buf.items (
    rw (c.new-bytes.ensures.items, c.take.ensures.limit, c.take.ensures.inner) at
    c.in-Ok.ensures.bytes)
