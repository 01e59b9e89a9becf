-- No document.
use Rattle.std.proofs.Common.{◌∙◌, ap, sym, List}
use Rattle.pk_model.specs.declared.documents.Document.{Document}
use Rattle.pk_segment.specs.Spelling.{docs_of, segment_length}
use Rattle.pk_merge.proofs.GatherLemmas.{front_none}
use Rattle.pk_merge.proofs.gathered.Gathered.new.Goals as goal

pub invariant_of-result-clause-size : goal.invariant_of-result-clause-size
invariant_of-result-clause-size c =
    sym (ap (λ (ds : List Document). segment_length (docs_of ds) 1) c.new.ensures.items ∙ front_none)
