use Rattle.std.proofs.Common.{refl}
use Rattle.seal.specs.Records.{tag}
use Rattle.seal_laws.proofs.Telling.{text_of, tells}
use Rattle.seal_laws.proofs.laws.tags_are_of_records.Goals as goal

pub returns : goal.returns
unfolding tag text_of
returns c = record { text = text_of; tells = tells; made = λ c number body. refl }
