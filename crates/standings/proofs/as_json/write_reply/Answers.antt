use Rattle.standings.proofs.Adding.{replied}
use Rattle.standings.proofs.as_json.write_reply.Goals as goal

pub returns-in-NoAnswer : goal.returns-in-NoAnswer
returns-in-NoAnswer c = replied _ _ _ _ _ c.in-NoAnswer.is c.write_fault-in-NoAnswer.ensures

pub returns-in-Late : goal.returns-in-Late
returns-in-Late c = replied _ _ _ _ _ c.in-Late.is c.write_fault-in-Late.ensures

pub returns-in-NoKey : goal.returns-in-NoKey
returns-in-NoKey c = replied _ _ _ _ _ c.in-NoKey.is c.write_fault-in-NoKey.ensures

pub returns-in-OtherKey : goal.returns-in-OtherKey
returns-in-OtherKey c = replied _ _ _ _ _ c.in-OtherKey.is c.write_fault-in-OtherKey.ensures

pub returns-in-HasKey : goal.returns-in-HasKey
returns-in-HasKey c = replied _ _ _ _ _ c.in-HasKey.is c.write_fault-in-HasKey.ensures
