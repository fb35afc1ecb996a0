-- The names that proofs of this crate cite, passed on from one place. Declares nothing.
pub use Rattle.allocative_graph.proofs.Common.{Graph, default, total, text, Lacks, IsCut, map-append, take_more, lines}
pub use Rattle.allocative_picture_filter.specs.Differential.{HasTwoCounts, IsDifferential}
pub use Rattle.allocative_picture_filter.specs.Fault.{fault_of}
pub use Rattle.allocative_picture_filter.specs.declared.fault.Fault.{Fault}
pub use Rattle.allocative_picture_filter.specs.declared.fault.Fault.TheVariants.{Memory, Writing}
pub use Rattle.allocative_picture_filter.specs.declared.fault.Source.TheVariants.{Input}
pub use Rattle.allocative_picture_filter.specs.declared.run.Text.{Text}
pub use Rattle.std.proofs.lemmas.Iterator.{cases_from_all, cases_from_any}
pub use Rattle.std.proofs.lemmas.Option.{IfSome_then}
pub use Rattle.std.proofs.lemmas.Result.{IfOk-weaker, IfErr-weaker}
pub use Rattle.std.specs.List.{AllWithin}
pub use Rattle.std.specs.Str.Parse.{IsNumeral}
