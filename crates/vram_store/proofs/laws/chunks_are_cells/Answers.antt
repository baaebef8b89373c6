use Rattle.vram_store.proofs.ChunkLaw.{chunk_law}
use Rattle.vram_store.proofs.laws.chunks_are_cells.Goals as goal

pub returns : goal.returns
returns c = chunk_law
