-- A record of a sealed stream that was changed on its way, and one that was sent the other way (the
-- project's own).
use Rattle.std.specs.Prelude.{◌≡◌, ℕ, List, [], ◌∷◌, ◌++◌, replicate}
use Rattle.seal.specs.{Laws.Differs, Laws.IsChanged, Laws.IsNotForged, Laws.changed, Records.tag}
use Rattle.seal.specs.{Records.AreBodies, Records.records, declared.channel.Channel.Channel}
use Rattle.seal.specs.declared.channel.Direction.TheVariants.{ToClient, ToServer}

abbrev pub channel : Channel
channel = record { key = replicate 32 1; direction = ToServer }

abbrev pub back : Channel
back = record { key = replicate 32 1; direction = ToClient }

-- one record comes as it was sent
abbrev pub front : List (List ℕ)
front = (9 ∷ []) ∷ []

-- of the next one the body is changed
abbrev pub sent : List ℕ
sent = 7 ∷ []

abbrev pub came : List ℕ
came = changed channel 1 sent 2 8 []

pub record WorksStreams : Type 0 where
  pub good : AreBodies 0 front
  pub changes : IsChanged channel 1 sent 2 8
  pub not_forged : IsNotForged channel 1 sent came
  pub differs : Differs channel front sent (records channel 0 front ++ came)
  pub elsewhere : ¬ (tag back 1 sent ≡ tag channel 1 sent)
