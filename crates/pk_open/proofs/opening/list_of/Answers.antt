-- Bytes that spell no list, or another one, spell none with so few numbers.
use Rattle.std.proofs.Common.{◌≡◌, ◌∙◌, ◌<◌, ◌≤◌, length, sym, subst, arith}
use Rattle.std.proofs.lemmas.Result.{err_from_is_err_and}
use Rattle.pk_posting.specs.declared.decoding.DecodeFault.{DecodeFault}
use Rattle.pk_posting.specs.declared.decoding.DecodeFault.TheVariants.{Damaged}
use Rattle.pk_posting.specs.Tails.{NoList}
use Rattle.pk_open.proofs.EntryLemmas.{few_spelled, few_spells, not_few, only_fault}
use Rattle.pk_open.proofs.opening.list_of.Goals as goal

pub returns-in_err-dead-clause-damaged : goal.returns-in_err-dead-clause-damaged
returns-in_err-dead-clause-damaged c = λ is dead few.
    let bytes = c.args.bytes.now in
    let found = err_from_is_err_and c.from_residual.result c.from_residual.ensures.1 in
    let why : found.0 ≡ Damaged = only_fault c.from_residual.result found.0 Damaged found.1 is in
    subst (λ (fault : DecodeFault). NoList bytes fault) (sym found.2 ∙ why) c.in_err-dead.ensures.damaged dead (few_spells bytes c.args.count dead few)

pub returns-then-len-count-clause-damaged : goal.returns-then-len-count-clause-damaged
returns-then-len-count-clause-damaged c = λ is dead few.
    let many : c.args.count < length c.in_ok-dead.dead = omega (arith, c.len.ensures, c.if-len-count.true) in
    not_few c.args.bytes.now c.args.count c.in_ok-dead.dead c.in_ok-dead.ensures.list many dead few

pub returns-clause-list : goal.returns-clause-list
returns-clause-list c =
    let some : length c.in_ok-dead.dead ≤ c.args.count = omega (arith, c.len.ensures, c.if-len-count.false) in
    few_spelled c.args.bytes.now c.args.count c.in_ok-dead.dead (λ i. (c.type_inv.bytes i).fits) c.in_ok-dead.ensures.list some
