-- One input after the other.
use Rattle.std.proofs.Common.{◌∙◌, ◌≤◌, ◌+◌, ◌++◌, [], ap, append-nil, sym, rules, arith, List, length, drop}
use Rattle.std.proofs.lemmas.List.{take_all}
use Rattle.pk_join.specs.Walking.{stored_at}
use Rattle.pk_join.proofs.InputLemmas.{inputs_long, live_append, take_stored}
use Rattle.pk_state.specs.Committed.{Stored, all_in, live_in}
use Rattle.pk_merge.specs.Gathering.{GathersAs, docs_in, left_by}
use Rattle.pk_merge.proofs.FaultLemmas.{passed_on}
use Rattle.pk_merge.proofs.GatherLemmas.{fails_on, left_next}
use Rattle.pk_merge.proofs.InputLemmas.{live_here, next_of}
use Rattle.pk_merge.proofs.merging.gather_all.Goals as goal

pub returns-in_err-gather_in-clause-gathered : goal.returns-in_err-gather_in-clause-gathered
returns-in_err-gather_in-clause-gathered g c = λ honest stored spells rise.
    let l = c.loop-input in
    let i = l.input-index in
    let x = c.input-item.result in
    let s = stored_at stored i in
    let known = l.invariant.gathered honest stored spells rise in
    let next = next_of _ _ c.args.inputs.now stored i l.gathered.last x spells
    (l.invariant.left.keeps.read honest).bytes c.loop-input-test.true c.input-item.is known.1 in
    passed_on (GathersAs (live_in stored) [] c.args.gathered.now c.gather_in.new.gathered)
    c.from_residual.result c.from_residual.ensures.1
    (fails_on live_in live_append stored i s (docs_in c.args.gathered.now) (docs_in l.gathered)
    (left_by x.dead.now s.documents) c.in_err-gather_in.field-0.0 (take_stored stored i next.within)
    (live_here x.dead.now s next.input.dead) known.0
    (c.in_err-gather_in.ensures.gathered honest s.documents (all_in (drop (i + 1) stored))
    next.input.segment next.rise))

pub loop-input-init : goal.loop-input-init
loop-input-init g c = record {
  left = search rules;
  gathered = λ honest stored spells rise. (sym (append-nil (docs_in c.args.gathered.now)), rise);
}

pub loop-input-preserved : goal.loop-input-preserved
loop-input-preserved g c = record {
  left = search rules;
  gathered = λ honest stored spells rise.
      let l = c.loop-input in
      let i = l.input-index in
      let x = c.input-item.result in
      let s = stored_at stored i in
      let known = l.invariant.gathered honest stored spells rise in
      let next = next_of _ _ c.args.inputs.now stored i l.gathered.last x spells
      (l.invariant.left.keeps.read honest).bytes c.loop-input-test.true c.input-item.is known.1 in
      let kept = c.in_ok-gather_in.ensures.gathered honest s.documents (all_in (drop (i + 1) stored))
      next.input.segment next.rise in (
        kept.0 ∙ left_next live_in live_append stored i s (docs_in c.args.gathered.now)
            (docs_in l.gathered) (left_by x.dead.now s.documents) (take_stored stored i next.within)
            (live_here x.dead.now s next.input.dead) known.0,
        kept.1,
      );
}

pub returns-clause-gathered : goal.returns-clause-gathered
returns-clause-gathered g c = λ honest stored spells rise.
    let i = c.loop-input.input-index in
    let all : length stored ≤ i =
    omega (arith, c.loop-input-test.false, inputs_long _ c.args.inputs.now stored spells) in (
      (c.loop-input.invariant.gathered honest stored spells rise).0
          ∙ ap (λ (ss : List Stored). docs_in c.args.gathered.now ++ live_in ss) (take_all i stored all),
      λ k within. absurd (omega (arith, within)),
    )
