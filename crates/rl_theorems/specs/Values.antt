-- A whole number beside a float becomes the nearest f64, ties to even: rounding of natural numbers (Rounding), the distance of a float
-- from a whole number (Distance), and both together (Nearest).
pub mod Rounding
pub mod Distance
pub mod Nearest
