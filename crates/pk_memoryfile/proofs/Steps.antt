-- The record of a file in memory steps back by one call.
use Rattle.std.proofs.Common.{inr}
use Rattle.pk_disk.proofs.Joined.{StepsBack}
use Rattle.pk_memoryfile.specs.Record.{open_after, undone, ImageBack}

pub file_steps : StepsBack open_after undone ImageBack
file_steps = record { back = λ n call older bytes image since. since; forth = λ n call older bytes image was. inr was }
