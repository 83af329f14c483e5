pub mod TrustedOnTop
