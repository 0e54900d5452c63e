pub mod CutOut
pub mod RangeSetLaws
pub mod Tagged
