-- Where the word stands, its first and last byte are shown.
use Rattle.std.proofs.Common.{◌∙◌, ◌<◌, sym, length, arith}
use Rattle.std.proofs.lemmas.Bool.{both_ways, eqb-false}
use Rattle.pk_pieces.proofs.ScanLemmas.{single_shown, pair_shown, stands_within}
use Rattle.pk_pieces.proofs.scan.next_candidate.Goals as goal

pub returns-clause-none : goal.returns-clause-none
returns-clause-none c = λ k low high both.
    let bytes = c.args.bytes.now in
    let word = c.args.word.now in
    let other = eqb-false (length word) 0 (sym c.is_empty.ensures ∙ c.if-is_empty.false) in
    let some : 0 < length word = omega (arith, other) in
    let within = stands_within bytes word k both.stands some in
    both_ways _ (c.next_pair.ensures.none k low high (omega (arith, within, some))) (pair_shown bytes word k both.stands (λ i. (c.type_inv.bytes i).fits) some)

pub returns-then-is_ascii_alphanumeric-clause-none : goal.returns-then-is_ascii_alphanumeric-clause-none
returns-then-is_ascii_alphanumeric-clause-none c = λ k low high both.
    both_ways _ (c.next_single.ensures.none k low high)
    (single_shown c.args.bytes.now c.args.word.now k c.requires.ascii c.if-word-eq1.true (sym c.is_ascii_alphanumeric.ensures.value ∙ c.if-is_ascii_alphanumeric.true) both)
