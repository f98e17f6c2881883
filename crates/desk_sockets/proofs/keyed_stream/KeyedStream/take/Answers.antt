use Rattle.std.proofs.Common.{rules, refl, inl, inr}
use Rattle.desk_sockets.proofs.keyed_stream.KeyedStream.take.Goals as goal

pub returns-in_default-clause-ends : goal.returns-in_default-clause-ends
returns-in_default-clause-ends g c so = inr (refl, refl)

pub returns-then-is_err-clause-ends : goal.returns-then-is_err-clause-ends
returns-then-is_err-clause-ends g c so = inr (search rules, refl)

pub returns-clause-says : goal.returns-clause-says
returns-clause-says g c so = record {
  said = c.in-Ok.more.items;
  receives = c.in-Ok.ensures.receives;
  handed = search rules;
  who = search rules;
}

pub returns-clause-ends : goal.returns-clause-ends
returns-clause-ends g c so = inl (record {
  said = c.in-Ok.more.items;
  receives = c.in-Ok.ensures.receives;
  handed = search rules;
  who = search rules;
})
