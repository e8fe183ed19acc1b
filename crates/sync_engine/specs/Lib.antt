pub mod OnWire
