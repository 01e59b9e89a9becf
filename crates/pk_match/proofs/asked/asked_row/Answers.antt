-- The words from a place on; none where they pass the last word.
use Rattle.std.proofs.Common.{◌≡◌, ◌∙◌, ◌+◌, ◌-◌, ℕ, take, drop, ap, arith}
use Rattle.pk_plan.proofs.PrefixLemmas.{row_there}
use Rattle.pk_plan.specs.Plans.{InRow}
use Rattle.pk_plan.specs.Words.{texts}
use Rattle.pk_match.proofs.asked.asked_row.Goals as goal

pub returns : goal.returns
returns c =
    let words = c.args.words.now in
    let first = c.args.first in
    let count = c.args.count in
    let as_many : count ≡ first + count - first = omega arith in
    row_there words first count (omega arith) ∙ ap (λ (n : ℕ). InRow (texts (take n (drop first words)))) as_many
