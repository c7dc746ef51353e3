-- One core: what is kept at its places stays sound, and its steps keep the streams.
pub mod Sound
pub mod CoreSteps
