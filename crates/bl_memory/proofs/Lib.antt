pub mod PatchLemmas
