pub mod HallMirrors
