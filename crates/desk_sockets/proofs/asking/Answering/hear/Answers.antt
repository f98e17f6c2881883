use Rattle.std.proofs.Common.{sym, ◌∙◌, true, false, arith, rules}
use Rattle.desk_sockets.proofs.Answering.{IsPut, put_asked, put_few, put_unasked}
use Rattle.desk_sockets.proofs.asking.Answering.hear.Goals as goal

pub returns-then-self-lt-FRONT : goal.returns-then-self-lt-FRONT
returns-then-self-lt-FRONT c =
    let was = c.self.inside in
    let put : IsPut was.front c.put-self-inside.new.front c.args.said.now was.held
    c.min-count.result c.put-self-inside.result =
    record {
      size = search rules;
      room = omega arith;
      taken = c.min-count.ensures;
      put = c.put-self-inside.ensures.put;
      same = c.put-self-inside.ensures.size;
    } in
    rw (← c.self.view_is) (sym (put_few was.asked was.known was.foreign put (omega arith)))

pub returns-in_default : goal.returns-in_default
returns-in_default c =
    let was = c.self.inside in
    let put : IsPut was.front c.put-self-inside.new.front c.args.said.now was.held
    c.min-count.result c.put-self-inside.result =
    record {
      size = search rules;
      room = omega arith;
      taken = c.min-count.ensures;
      put = c.put-self-inside.ensures.put;
      same = c.put-self-inside.ensures.size;
    } in
    rw (← c.self.view_is) (sym (put_unasked was.asked was.known was.foreign put (omega arith)
    c.in_default.is))

pub returns-then-is_foreign : goal.returns-then-is_foreign
returns-then-is_foreign c =
    let was = c.self.inside in
    let put : IsPut was.front c.put-self-inside.new.front c.args.said.now was.held
    c.min-count.result c.put-self-inside.result =
    record {
      size = search rules;
      room = omega arith;
      taken = c.min-count.ensures;
      put = c.put-self-inside.ensures.put;
      same = c.put-self-inside.ensures.size;
    } in
    rw (← c.self.view_is) (sym (put_asked was.asked was.known was.foreign put c.in-Some.asked true
    (omega arith) c.in-Some.is (sym c.if-is_foreign.true ∙ c.is_foreign.ensures.is)))

pub returns : goal.returns
returns c =
    let was = c.self.inside in
    let put : IsPut was.front c.put-self-inside.new.front c.args.said.now was.held
    c.min-count.result c.put-self-inside.result =
    record {
      size = search rules;
      room = omega arith;
      taken = c.min-count.ensures;
      put = c.put-self-inside.ensures.put;
      same = c.put-self-inside.ensures.size;
    } in
    rw (← c.self.view_is) (sym (put_asked was.asked was.known was.foreign put c.in-Some.asked false
    (omega arith) c.in-Some.is (sym c.if-is_foreign.false ∙ c.is_foreign.ensures.is)))
