-- Longer bytes begin with those of before.
use Rattle.pk_memoryfile.proofs.LengthLemmas.{start_resized}
use Rattle.pk_memoryfile.proofs.memory.MemoryFileRawFile.set_len.Goals as goal

pub returns-in-Ok-clause-start : goal.returns-in-Ok-clause-start
returns-in-Ok-clause-start c = λ h long. start_resized c.args.len _ _ long c.in-Ok.ensures.bytes
