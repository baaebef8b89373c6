pub mod DumpLemmas
pub mod PictureLemmas
