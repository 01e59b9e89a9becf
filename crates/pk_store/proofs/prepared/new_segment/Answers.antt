-- What is prepared tells what it is going to write.
use Rattle.std.proofs.Common.{◌≡◌, ◌∙◌, refl, ap, subst, sym, Err, Ok, Some, Option}
use Rattle.pk_merge.specs.declared.prepared.Prepared.{Prepared}
use Rattle.pk_segment.specs.Spelling.{segment_length}
use Rattle.pk_state.specs.Committed.{live_in}
use Rattle.pk_store.specs.Prepared.{OpensRun}
use Rattle.pk_state.specs.Writing.{written_kind}
use Rattle.pk_store.proofs.prepared.new_segment.Goals as goal

-- the kind that a merge is prepared for
kind_is : 2 ≡ written_kind
unfolding written_kind
kind_is = refl

pub returns : goal.returns
returns c = subst (λ (x : Option Prepared). OpensRun x (Ok (Some (record { bytes = c.size.result; segment = c.in-Some-segment.segment })))) (sym c.in-Some.is) (
  c.size.ensures.value,
  c.size.ensures.sized,
  λ bytes inputs stored prepared. record {
    are = prepared.are;
    long = c.size.ensures.long bytes inputs stored prepared ∙ ap (segment_length (live_in stored)) kind_is;
    fits = c.size.ensures.sized.1;
    opened = c.in-Some-segment.ensures bytes inputs stored prepared;
  },
)

pub returns-in_default-segment : goal.returns-in_default-segment
returns-in_default-segment c = subst (λ (x : Option Prepared). OpensRun x (Err (record {}))) (sym c.in-Some.is) (
    λ bytes inputs stored prepared. c.in_default-segment.ensures bytes inputs stored prepared)
