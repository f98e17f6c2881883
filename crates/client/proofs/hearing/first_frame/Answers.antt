use Rattle.std.proofs.Common.{◌≡◌, ◌∙◌, rules, sym, length}
use Rattle.std.specs.Vec.Iter.{into_iter_len}
use Rattle.client.proofs.Heard.{first_given, none_left}
use Rattle.client.proofs.hearing.first_frame.Goals as goal

pub returns-in-Ok-clause-ok : goal.returns-in-Ok-clause-ok
returns-in-Ok-clause-ok c =
    let counts : into_iter_len c.into_iter.result ≡ length c.in-Ok.frames.items = search rules in
    first_given c.args.piece.now c.args.stream.now c.feed.new.self c.in-Ok.frames.items
    c.next.new.self.rest.items c.next.result c.in-Ok.ensures.fed
    (sym c.into_iter.ensures.rest ∙ c.next.ensures.items)
    (none_left c.in-Ok.frames.items c.into_iter.result c.next.new.self c.next.result
    c.next.ensures.cases counts)
