pub mod Polled
