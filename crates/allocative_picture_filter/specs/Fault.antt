-- What a fault is of.
use Rattle.std.specs.Prelude.{◌≡◌, ℕ, List}
use Rattle.allocative_graph.specs.declared.refusal.Refusal as refusal
use Rattle.allocative_graph.specs.declared.refusal.Refusal.TheVariants as refused
use Rattle.allocative_picture_filter.specs.declared.fault.Fault.{Fault}
use Rattle.allocative_picture_filter.specs.declared.fault.Fault.TheVariants.{Memory, TooLarge, Reading}
use Rattle.allocative_picture_filter.specs.declared.fault.Source.{Source}
use Rattle.allocative_picture_filter.specs.declared.fault.Source.TheVariants.{Input, File}

-- The name of a source: that of its file, or another of the input.
abbrev pub name_of : Source → List ℕ → List ℕ
name_of Input input = input
name_of (File name) input = name.now

-- The fault is that of a read of this source.
abbrev pub IsReadingOf : Source → Fault → Type 0
IsReadingOf s (Reading t k) = t ≡ s
IsReadingOf s f = ⊥

-- The fault of a graph or a picture that is refused.
abbrev pub fault_of : refusal.Refusal → Fault
fault_of refused.Memory = Memory
fault_of refused.TooLarge = TooLarge
fault_of refused.Open = Memory
