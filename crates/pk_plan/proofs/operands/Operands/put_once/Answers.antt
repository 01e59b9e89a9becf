-- A word of a phrase changes nothing where the phrase stands.
use Rattle.std.proofs.Common.{◌∙◌, ◌+◌, inl, length, map, string_bytes, refl, sym, ap, arith}
use Rattle.std.specs.declared.alloc.Global.{Global}
use Rattle.std.proofs.lemmas.List.{length-map}
use Rattle.pk_plan.specs.Operands.{operands_take}
use Rattle.pk_plan.specs.Plans.{takes, word_at}
use Rattle.pk_plan.proofs.OrderLemmas.{still_in_order}
use Rattle.pk_plan.proofs.TakingLemmas.{and_held}
use Rattle.pk_plan.proofs.WordLemmas.{row_has}
use Rattle.pk_plan.proofs.RowLemmas.{once_before, word_of_row}
use Rattle.pk_plan.proofs.operands.Operands.put_once.Goals as goal

pub returns-then-contains-clause-order : goal.returns-then-contains-clause-order
returns-then-contains-clause-order c =
    still_in_order c.args.table.now (c.args.first + c.args.i + 1) (c.args.first + c.args.i) c.args.self.now (omega arith) c.requires.order

pub returns-clause-same : goal.returns-clause-same
returns-clause-same c asked words stands =
    let old = operands_take asked words c.args.self.now in
    c.in_ok-put_term.ensures.same asked words
    ∙ and_held (takes (word_at asked (c.args.first + c.args.i)) words) old old (row_has asked words c.args.first (length c.args.row.now) c.args.i stands c.requires.within) refl

pub returns-then-contains-clause-held : goal.returns-then-contains-clause-held
returns-then-contains-clause-held c asked stand =
    let found = c.if-contains.ensures.cases in
    once_before asked c.args.self.now c.args.row.now c.args.i found.0 c.index-row-i.result c.requires.within
    c.index-row-i.is found.1 (found.2 c.index-row-i.result)

pub returns-clause-held : goal.returns-clause-held
returns-clause-held c asked stand =
    let row = map string_bytes c.args.row.now in
    inl (λ words is. sym (ap (λ o. takes o words) (word_of_row asked row c.args.first c.args.i stand
    (omega (arith, c.requires.within, length-map c.args.row.now (string_bytes {Z = Global})))))
    ∙ c.in_ok-put_term.ensures.held asked words is)
