-- Lemmas, not definitions: that the two tables have one state. The law of the keeper over SQL cites
-- them.
pub mod Unique
