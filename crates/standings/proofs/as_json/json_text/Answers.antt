use Rattle.std.proofs.Common.{◌∙◌}
use Rattle.standings.specs.AsJson.{hall_json}
use Rattle.standings.proofs.{Adding.text_of_value, Depths.reads_back_of}
use Rattle.standings.proofs.as_json.json_text.Goals as goal

pub returns-clause-text : goal.returns-clause-text
returns-clause-text c =
    text_of_value c.new-out.result c.write_hall.new.out c.into_inner.result.items
    (hall_json c.args.hall c.args.polled.now)
    (c.new-out.ensures.before ∙ c.new.ensures.items) c.new-out.ensures.tokens
    c.in_ok-write_hall.ensures c.into_inner.ensures.items

pub returns-clause-reads_back : goal.returns-clause-reads_back
returns-clause-reads_back c =
    reads_back_of c.new-out.result c.write_hall.new.out c.args.hall c.args.polled.now
    c.new-out.ensures.tokens c.in_ok-write_hall.ensures c.into_inner.ensures.reads_back
