-- One place more.
use Rattle.std.proofs.Common.{◌∙◌, slice_index, List, take, map, sym, ap, arith}
use Rattle.pk_plan.specs.Plans.{Both, Operation, both_all, found, word_at}
use Rattle.pk_match.proofs.PlanLemmas.{cut_none, cut_one, one_more}
use Rattle.pk_union.proofs.PlaceLemmas.{number_at}
use Rattle.pk_match.proofs.PutsLemmas.{puts_passed, left_passed}
use Rattle.pk_match.proofs.carrying.cut_words.Goals as goal

pub loop-i-init : goal.loop-i-init
loop-i-init g c = record {
  left = g.met.L.Lists.leaves_same _;
  rising = c.requires;
  numbers = λ texts ws docs are o e. e ∙ cut_none o docs (g.met.L.Lists.are_rising _ texts ws docs are);
}

pub loop-i-preserved : goal.loop-i-preserved
loop-i-preserved g c =
    let before = c.loop-i.invariant in
    let places = c.args.places.now in
    let i = c.loop-i.i in
    let place = slice_index places i in
    record {
      left = g.met.L.Lists.leaves_then _ _ _ _ before.left c.in_ok-cut.ensures.left;
      rising = c.in_ok-cut.ensures.rising;
      numbers = λ texts ws docs are o e. (
          let here = g.met.L.Lists.are_still _ _ _ texts ws docs before.left are in
          let rise = g.met.L.Lists.are_rising _ texts ws docs are in
          let so_far = both_all (map (word_at ws) (take i places)) in
          c.in_ok-cut.ensures.numbers texts ws docs here (Both o so_far) (before.numbers texts ws docs are o e)
          ∙ cut_one o (word_at ws place) (map (word_at ws) (take i places)) docs rise
          ∙ ap (λ (ops : List Operation). found (Both o (both_all ops)) docs) (sym (one_more (word_at ws) places 0 i place (omega arith) (omega arith) (number_at places i (omega arith)))));
    }

pub returns-in_err-cut-clause-numbers : goal.returns-in_err-cut-clause-numbers
returns-in_err-cut-clause-numbers g c = λ texts ws docs are o e.
    let before = c.loop-i.invariant in
    let here = g.met.L.Lists.are_still _ _ _ texts ws docs before.left are in
    puts_passed g.L.Lists.is_no_damage _ _ c.from_residual.result _ c.from_residual.ensures.1 (c.in_err-cut.ensures.numbers texts ws docs here (Both o (both_all (map (word_at ws) (take c.loop-i.i c.args.places.now)))) (before.numbers texts ws docs are o e))

pub returns-in_err-cut-clause-left : goal.returns-in_err-cut-clause-left
returns-in_err-cut-clause-left g c =
    left_passed g.L.Lists.leaves _ _ c.from_residual.result _ c.from_residual.ensures.1 (g.met.L.Lists.leaves_then _ _ _ _ c.loop-i.invariant.left c.in_err-cut.ensures.left)
