pub mod Common
pub mod NumbersLemmas
pub mod Reports
pub mod FieldsLemmas
pub mod LinesLemmas
pub mod WordsLemmas
