pub mod Common
pub mod RoundTrip
