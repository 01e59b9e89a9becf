-- Each step is one of the search, and takes one of the asks that are left.
use Rattle.std.proofs.Common.{arith, ap, subst, ◌∙◌, ◌≡◌, ◌+◌, ◌-◌, ◌*◌, ◌/◌, ℕ, List, length, Ok}
use Rattle.std.proofs.lemmas.Result.{err_from_is_err_and}
use Rattle.pk_posting.proofs.SourceLemmas.{answered_more, answered_none}
use Rattle.pk_dict.specs.declared.head.Step.TheVariants.{Less, Found, Past}
use Rattle.pk_dict.specs.Dictionary.{group_count}
use Rattle.pk_dict.specs.Place.{bytes_at}
use Rattle.pk_dict.specs.Reading.{Fails, IsWithin, group_at}
use Rattle.pk_dict.proofs.Halving.{first_left, step_left, all_asks, last_ask}
use Rattle.pk_dict.proofs.Narrowing.{narrowing_init, narrowing_less, narrowing_past, narrowing_found, narrowing_fails, narrowing_done}
use Rattle.pk_dict.proofs.look_up.narrow_from.Goals as goal

pub loop-low-init : goal.loop-low-init
loop-low-init g c = record {
  left = answered_none (g.met.S.ByteSource.keeps_self _);
  asks = λ k h. first_left k _ (c.args.between.high - c.args.between.low) _ (omega (arith, h));
  order = c.requires.amid.order;
  most = c.requires.amid.most;
  within = c.requires.amid.within;
  narrowing = λ h. narrowing_init _ _ _ _ _ _ _;
}

pub returns-in_err-step-clause-value : goal.returns-in_err-step-clause-value
returns-in_err-step-clause-value g c h =
    let p = err_from_is_err_and c.from_residual.result c.from_residual.ensures.1 in
    rw (p.1, p.2) (narrowing_fails _ _ _ c.loop-low.low c.loop-low.high _ _ c.in_err-step.field-0.0 _ (c.loop-low.invariant.narrowing h) (omega arith)
    (subst (λ (l : List ℕ). Fails c.in_err-step.field-0.0 (group_at (bytes_at l c.args.place) (4 * group_count c.args.place.terms) (c.loop-low.low + (c.loop-low.high - c.loop-low.low) / 2) c.args.term.now)) (c.loop-low.invariant.left.same h) (c.in_err-step.ensures.value h)))

pub returns-in_err-step-clause-asks : goal.returns-in_err-step-clause-asks
returns-in_err-step-clause-asks g c k h =
    last_ask k _ _ _ _ _ (c.loop-low.invariant.asks k h) (omega arith) c.in_err-step.ensures.left.asks

pub returns-in-Found-clause-value : goal.returns-in-Found-clause-value
returns-in-Found-clause-value g c h =
    narrowing_found _ _ _ c.loop-low.low c.loop-low.high _ _ _ _ (c.loop-low.invariant.narrowing h) (omega arith)
    (subst (λ (l : List ℕ). group_at (bytes_at l c.args.place) (4 * group_count c.args.place.terms) (c.loop-low.low + (c.loop-low.high - c.loop-low.low) / 2) c.args.term.now ≡ Ok (Found c.in-Found.entry)) (c.loop-low.invariant.left.same h)
    (c.in_ok-step.ensures.value h ∙ ap Ok c.in-Found.is))

pub returns-in-Found-clause-asks : goal.returns-in-Found-clause-asks
returns-in-Found-clause-asks g c k h =
    last_ask k _ _ _ _ _ (c.loop-low.invariant.asks k h) (omega arith) c.in_ok-step.ensures.left.asks

pub loop-low-preserved-in-Past : goal.loop-low-preserved-in-Past
loop-low-preserved-in-Past g c =
    let left = c.in_ok-step.ensures.left in
    record {
      left = answered_more g.met.S.ByteSource.keeps_then c.loop-low.invariant.left left.read left.faults.ok;
      asks = λ k h. step_left k _ _ _ _ _ _ (c.loop-low.invariant.asks k h) (omega arith) (omega arith) left.asks;
      order = omega arith;
      most = omega arith;
      within = c.loop-low.invariant.within;
      narrowing = λ h. narrowing_past _ _ _ c.loop-low.low c.loop-low.high _ _ _ (c.loop-low.invariant.narrowing h) (omega arith)
          (subst (λ (l : List ℕ). group_at (bytes_at l c.args.place) (4 * group_count c.args.place.terms) (c.loop-low.low + (c.loop-low.high - c.loop-low.low) / 2) c.args.term.now ≡ Ok Past) (c.loop-low.invariant.left.same h)
          (c.in_ok-step.ensures.value h ∙ ap Ok c.in-Past.is));
    }

pub loop-low-preserved : goal.loop-low-preserved
loop-low-preserved g c =
    let left = c.in_ok-step.ensures.left in
    record {
      left = answered_more g.met.S.ByteSource.keeps_then c.loop-low.invariant.left left.read left.faults.ok;
      asks = λ k h. step_left k _ _ _ _ _ _ (c.loop-low.invariant.asks k h) (omega arith) (omega arith) left.asks;
      order = omega arith;
      most = omega arith;
      within = subst (IsWithin (length c.args.term.now)) c.in-Less.is c.in_ok-step.ensures.matched;
      narrowing = λ h. narrowing_less _ _ _ c.loop-low.low c.loop-low.high _ _ _ _ _ (c.loop-low.invariant.narrowing h) (omega arith)
          (subst (λ (l : List ℕ). group_at (bytes_at l c.args.place) (4 * group_count c.args.place.terms) (c.loop-low.low + (c.loop-low.high - c.loop-low.low) / 2) c.args.term.now ≡ Ok (Less c.in-Less.now c.in-Less.after)) (c.loop-low.invariant.left.same h)
          (c.in_ok-step.ensures.value h ∙ ap Ok c.in-Less.is));
    }

pub returns-clause-value : goal.returns-clause-value
returns-clause-value g c h = narrowing_done _ _ _ c.loop-low.low c.loop-low.high _ _ _ (c.loop-low.invariant.narrowing h) (omega arith)

pub returns-clause-asks : goal.returns-clause-asks
returns-clause-asks g c k h = all_asks k _ _ _ _ (c.loop-low.invariant.asks k h)
