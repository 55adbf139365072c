-- What the contracts of `area_bytes` cite, and those of `area`.
pub mod Area
