-- The dictionary that was written is that of the entries.
use Rattle.pk_segment.specs.Indexed.{items_of}
use Rattle.pk_segment.proofs.PlanLemmas.{finished}
use Rattle.pk_segment.proofs.index_writer.IndexWriter.finish.Goals as goal

pub returns : goal.returns
returns c = λ docs added. finished docs c.finish.result (c.finish.ensures (items_of docs) added)
