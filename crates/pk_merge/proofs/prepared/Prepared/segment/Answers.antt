-- The front is that of the documents that are left.
use Rattle.std.proofs.Common.{◌∙◌, ◌≤◌, ap, arith, Err, List, ℕ, subst, sym}
use Rattle.pk_model.specs.Limits.{max_segment_bytes}
use Rattle.pk_segment.specs.Opened.{IsOpened}
use Rattle.pk_segment.specs.Spelling.{segment_length}
use Rattle.pk_segment.specs.declared.segment.Segment.{Segment}
use Rattle.pk_state.specs.Committed.{live_in}
use Rattle.pk_merge.proofs.OpenLemmas.{opened_of, opens, opens_faultless}
use Rattle.pk_merge.proofs.prepared.Prepared.segment.Goals as goal

pub returns-in_default : goal.returns-in_default
returns-in_default c = λ bytes inputs stored is.
    let docs = live_in stored in
    let fits : segment_length docs 2 ≤ max_segment_bytes = omega (arith, is.size_is, is.fits) in
    let size = c.args.self.now.size in
    let front = c.new-source.ensures.bytes ∙ c.deref.ensures.value ∙ is.front_is in
    opens_faultless c.in_default.field-0 c.new-source.result.bytes.now size
    (λ same. c.in_default.ensures.damaged tt (ap Err same)) c.in_default.ensures.left.faults
    (subst (λ (l : List ℕ). (s : Segment) × IsOpened l size 2 s) (sym front)
    (opens docs is.are fits size is.size_is))

pub returns : goal.returns
returns c = λ bytes inputs stored is.
    let docs = live_in stored in
    let fits : segment_length docs 2 ≤ max_segment_bytes = omega (arith, is.size_is, is.fits) in
    let size = c.args.self.now.size in
    let front = c.new-source.ensures.bytes ∙ c.deref.ensures.value ∙ is.front_is in
    opened_of docs is.are fits size c.in-Ok.segment
    (subst (λ (l : List ℕ). IsOpened l size 2 c.in-Ok.segment) front (c.in-Ok.ensures.opened tt))
