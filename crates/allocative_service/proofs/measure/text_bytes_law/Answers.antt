-- of text_bytes_law: the result
use Rattle.allocative_service.proofs.Texts.{text_bytes, vec_bytes}
use Rattle.allocative_service.proofs.measure.text_bytes_law.Goals as goal

pub returns : goal.returns
returns c = record { text = text_bytes; vec = vec_bytes }
