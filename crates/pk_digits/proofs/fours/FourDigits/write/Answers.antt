-- The table has the digits of the number.
use Rattle.std.proofs.Common.{◌∙◌, ◌+◌, ◌++◌, length, take, [], ap, arith}
use Rattle.std.proofs.lemmas.List.{get_or_read}
use Rattle.std.proofs.lemmas.Simd.{take_more_put_chunk}
use Rattle.pk_digits.proofs.fours.FourDigits.write.Goals as goal

pub returns-clause-written : goal.returns-clause-written
returns-clause-written c =
    let table = c.args.self.now.all in
    let lies = get_or_read c.args.self.now.digits.items _ _ (omega (arith, table.size, c.requires.low)) c.index.ensures [] ∙ table.each c.args.number c.requires.low in
    take_more_put_chunk c.args.at c.args.out.now c.index.result.now (c.args.at + 4) (omega (arith, ap length lies)) (omega (arith, c.requires.room))
    ∙ ap (λ t. take c.args.at c.args.out.now ++ t) lies
