-- The list at the place is the one that was changed.
use Rattle.std.proofs.Common.{◌∙◌, ℕ, ap, refl}
use Rattle.smallvec.specs.SmallVec.{SmallVec}
use Rattle.std.proofs.lemmas.List.{get_or_default}
use Rattle.std.proofs.lemmas.Result.{on_ok_weaker, on_err_weaker}
use Rattle.pk_index.specs.Lists.{with_last}
use Rattle.pk_index.proofs.lists.put_at.Goals as goal

pub returns-clause-ok : goal.returns-clause-ok
returns-clause-ok c =
    let list = c.put.new.list in
    let same = get_or_default c.args.lists.now c.args.place c.index-lists-place.result list c.requires in
    on_ok_weaker c.put.result (λ e. (list, refl, e ∙ ap (λ (l : SmallVec ℕ). with_last c.args.number l.items) same)) c.put.ensures.ok

pub returns-clause-err : goal.returns-clause-err
returns-clause-err c =
    let list = c.put.new.list in
    let same = get_or_default c.args.lists.now c.args.place c.index-lists-place.result list c.requires in
    on_err_weaker c.put.result (λ e. (list, refl, e ∙ ap (λ (l : SmallVec ℕ). l.items) same)) c.put.ensures.err
