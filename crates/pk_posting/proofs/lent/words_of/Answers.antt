use Rattle.std.proofs.Common.{◌≡◌, ◌-◌, ◌*◌, ℕ, inl, inr, arith, sym, ap, ◌∙◌}
use Rattle.std.proofs.lemmas.Bool.{cases_lt}
use Rattle.std.proofs.lemmas.List.{get_or-set_other, length-set}
use Rattle.std.proofs.lemmas.Grind.{get_or-set_at}
use Rattle.pk_posting.specs.Posting.{word}
use Rattle.pk_posting.proofs.lent.words_of.Goals as goal

pub loop-i-preserved : goal.loop-i-preserved
loop-i-preserved c = record {
  long = length-set c.loop-i.words c.loop-i.i c.word_at.result ∙ c.loop-i.invariant.long;
  zero = λ i l. get_or-set_other c.loop-i.words c.loop-i.i i c.word_at.result 0 (omega arith) ∙ c.loop-i.invariant.zero i l;
  value = λ i l m. elim (cases_lt i c.loop-i.i) [
    | inl n ↦ get_or-set_other c.loop-i.words c.loop-i.i i c.word_at.result 0 (omega arith) ∙ c.loop-i.invariant.value i l n
    | inr n ↦ (let e : i ≡ c.loop-i.i = omega arith in
        get_or-set_at c.loop-i.words c.loop-i.i i c.word_at.result 0 e (omega arith) ∙ c.word_at.ensures ∙ ap (λ (j : ℕ). word c.args.bytes.now (4 * (j - c.args.from))) (sym e))
  ];
}
