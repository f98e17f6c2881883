use Rattle.std.proofs.Common.{refl}
use Rattle.seal.specs.Records.{key_of}
use Rattle.seal_laws.proofs.Telling.{key_text, tells_sides}
use Rattle.seal_laws.proofs.laws.keys_are_of_both_sides.Goals as goal

pub returns : goal.returns
unfolding key_of key_text
returns c = record {
  text = key_text;
  tells = tells_sides;
  made = λ key client server. refl;
}
