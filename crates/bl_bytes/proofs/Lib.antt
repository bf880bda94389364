pub mod OverlayLemmas
