pub mod LossText
