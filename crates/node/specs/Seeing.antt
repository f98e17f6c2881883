-- What is seen of a node by the code that serves it (the project's own).
use Rattle.answers.specs.Seen.{Seen}
use Rattle.replica.specs.Nodes.{NodeValue}

abbrev pub seen_of : {K : Type 0} → NodeValue K → Seen
seen_of node = record { desk = node.desk; is_down = node.is_down; told = node.told }
