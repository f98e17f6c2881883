-- Turns one after the other, on any arrangement: each side computes to the same list of reads.
use Rattle.std.proofs.Common.{◌≡◌, List, map, get_or, refl, sym, ap, ◌∙◌}
use Rattle.std.{proofs.lemmas.List.FromFn.fill_by_all, specs.List.range_with_len}
use Rattle.cube.specs.declared.moves.{Side.Side, Kind.Kind, Quarter.Quarter, Colour.Colour}
use Rattle.cube.specs.declared.moves.Side.TheVariants.{U, R, F, D, L, B}
use Rattle.cube.specs.declared.moves.Axis.TheVariants.{X, Y, Z}
use Rattle.cube.specs.declared.moves.Kind.TheVariants.{Face, Block, Turn}
use Rattle.cube.specs.declared.moves.Quarter.TheVariants.{Clockwise, Half, Anticlockwise}
use Rattle.cube.specs.Stickers.{opposite}
use Rattle.cube.specs.Turns.{turned, rotation, reverse, Undoes, IsNoneFourTimes}
use Rattle.cube.specs.declared.moves.Colour.TheVariants as colours

abbrev pub once : Kind → List Colour → List Colour
once kind a = turned (record { kind = kind; quarter = Clockwise }) a

-- a half turn is two quarter turns
pub half_turned : (kind : Kind) (a : List Colour)
    → turned (record { kind = kind; quarter = Half }) a ≡ once kind (once kind a)
unfolding turned
half_turned (Face U) a = refl
half_turned (Face R) a = refl
half_turned (Face F) a = refl
half_turned (Face D) a = refl
half_turned (Face L) a = refl
half_turned (Face B) a = refl
half_turned (Block U) a = refl
half_turned (Block R) a = refl
half_turned (Block F) a = refl
half_turned (Block D) a = refl
half_turned (Block L) a = refl
half_turned (Block B) a = refl
half_turned (Turn X) a = refl
half_turned (Turn Y) a = refl
half_turned (Turn Z) a = refl

-- a quarter turn against the clock is three with it
pub anticlockwise_turned : (kind : Kind) (a : List Colour)
    → turned (record { kind = kind; quarter = Anticlockwise }) a
    ≡ once kind (once kind (once kind a))
unfolding turned
anticlockwise_turned (Face U) a = refl
anticlockwise_turned (Face R) a = refl
anticlockwise_turned (Face F) a = refl
anticlockwise_turned (Face D) a = refl
anticlockwise_turned (Face L) a = refl
anticlockwise_turned (Face B) a = refl
anticlockwise_turned (Block U) a = refl
anticlockwise_turned (Block R) a = refl
anticlockwise_turned (Block F) a = refl
anticlockwise_turned (Block D) a = refl
anticlockwise_turned (Block L) a = refl
anticlockwise_turned (Block B) a = refl
anticlockwise_turned (Turn X) a = refl
anticlockwise_turned (Turn Y) a = refl
anticlockwise_turned (Turn Z) a = refl

-- the opposite face and the whole cube turned are the block turned
pub block_turned : (side : Side) (a : List Colour)
    → turned (rotation side) (once (Face (opposite side)) a) ≡ once (Block side) a
unfolding turned
block_turned U a = refl
block_turned _ a = refl

-- four quarter turns read every number of an arrangement at its own place
four_read : (kind : Kind) (a : List Colour) → once kind (once kind (once kind (once kind a)))
    ≡ map (λ n. get_or a n colours.U) (range_with_len 0 54)
unfolding turned
four_read (Face U) a = refl
four_read (Face R) a = refl
four_read (Face F) a = refl
four_read (Face D) a = refl
four_read (Face L) a = refl
four_read (Face B) a = refl
four_read (Block U) a = refl
four_read (Block R) a = refl
four_read (Block F) a = refl
four_read (Block D) a = refl
four_read (Block L) a = refl
four_read (Block B) a = refl
four_read (Turn X) a = refl
four_read (Turn Y) a = refl
four_read (Turn Z) a = refl

-- four quarter turns are none
pub four_none : (kind : Kind) → IsNoneFourTimes kind
four_none kind a long =
    four_read kind a
    ∙ sym (fill_by_all (λ n. get_or a n colours.U) a 54 colours.U long (λ k h. refl))

-- a move and its inverse are none
pub inverse_undoes : (kind : Kind) (quarter : Quarter)
    → Undoes (record { kind = kind; quarter = quarter }) (record {
      kind = kind;
      quarter = reverse quarter;
    })
inverse_undoes kind Clockwise a long =
    anticlockwise_turned kind (once kind a) ∙ four_none kind a long
inverse_undoes kind Half a long =
    ap (turned (record { kind = kind; quarter = Half })) (half_turned kind a) ∙ half_turned kind _
    ∙ four_none kind a long
inverse_undoes kind Anticlockwise a long =
    ap (once kind) (anticlockwise_turned kind a) ∙ four_none kind a long
