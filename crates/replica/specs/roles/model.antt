-- Models of the code: what a desk is as it runs (the project's own). No contract of a node cites
-- them.
pub mod RunningDesks
