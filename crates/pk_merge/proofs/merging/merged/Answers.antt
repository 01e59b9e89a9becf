-- What was gathered is what all inputs leave.
use Rattle.std.proofs.Common.{◌∙◌, ◌++◌, ap, sym, subst, List, ℕ}
use Rattle.pk_model.specs.Collection.{Doc}
use Rattle.pk_segment.specs.Spelling.{docs_of}
use Rattle.pk_state.specs.Committed.{all_in, live_in}
use Rattle.pk_merge.specs.Gathering.{RiseFrom}
use Rattle.pk_merge.specs.Merging.{MergeFails, MergedAs}
use Rattle.pk_merge.proofs.FaultLemmas.{passed_on}
use Rattle.pk_merge.proofs.GatherLemmas.{fails_in, merged_all}
use Rattle.pk_merge.proofs.InputLemmas.{rise_all}
use Rattle.pk_merge.proofs.merging.merged.Goals as goal

pub returns-in_err-gather_all-clause-merged : goal.returns-in_err-gather_all-clause-merged
returns-in_err-gather_all-clause-merged g c = λ honest stored spells rising.
    let rise = rise_all (g.D.Disk.content c.args.disk.now) c.args.inputs.now stored spells rising in
    let start = subst (λ (n : ℕ). RiseFrom n (all_in stored)) (sym c.new-gathered.ensures.last) rise in
    let none = ap docs_of c.new-gathered.ensures.documents in
    let fault = subst (λ (ds : List Doc). MergeFails (ds ++ live_in stored) 1 c.in_err-gather_all.field-0.0)
    none (c.in_err-gather_all.ensures.gathered honest stored spells start) in
    passed_on (MergedAs (live_in stored) c.args.kind) c.from_residual.result c.from_residual.ensures.1
    (fails_in (live_in stored) c.args.kind c.in_err-gather_all.field-0.0 fault)

pub returns-clause-merged : goal.returns-clause-merged
returns-clause-merged g c = λ honest stored spells rising.
    let rise = rise_all (g.D.Disk.content c.args.disk.now) c.args.inputs.now stored spells rising in
    let start = subst (λ (n : ℕ). RiseFrom n (all_in stored)) (sym c.new-gathered.ensures.last) rise in
    let none = ap docs_of c.new-gathered.ensures.documents in
    let all = (c.in_ok-gather_all.ensures.gathered honest stored spells start).0
    ∙ ap (λ (ds : List Doc). ds ++ live_in stored) none in
    merged_all (live_in stored) c.args.kind c.gather_all.new.gathered c.build.result all c.build.ensures
