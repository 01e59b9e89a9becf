-- Each word changes nothing where the phrase stands, and then each is asked.
use Rattle.std.proofs.Common.{◌∙◌, ◌-◌, ◌≡◌, inl, inr, ℕ, map, string_bytes, refl, subst, arith}
use Rattle.std.specs.declared.alloc.Global.{Global}
use Rattle.std.proofs.lemmas.Bool.{cases_lt}
use Rattle.std.proofs.lemmas.List.{length-map}
use Rattle.pk_plan.specs.Rows.{IsPutOnce}
use Rattle.pk_plan.proofs.RowLemmas.{each_once, narrowed_on, still_once}
use Rattle.pk_plan.proofs.operands.Operands.put_words.Goals as goal

pub words-init : goal.words-init
words-init c = record {
  within = omega arith;
  same = λ asked words stands. refl;
  order = c.requires.order;
  narrowed = record { parts = refl; excluded = refl; phrases = refl; takes = λ asked words is. is };
  once = λ asked stand i le lt. absurd (omega (arith, le, lt));
}

pub words-preserved : goal.words-preserved
words-preserved c =
    let inv = c.words.invariant in
    let put = c.in_ok-put_once.ensures in
    let new = c.put_once.new.self in
    let row = map string_bytes c.args.row.now in
    let left = c.words.left - 1 in
    record {
      within = omega (arith, inv.within);
      same = λ asked words stands. put.same asked words stands ∙ inv.same asked words stands;
      order = put.order;
      narrowed = narrowed_on c.args.self.now c.words.self new inv.narrowed put.narrowed;
      once = λ asked stand i le lt. elim (cases_lt i c.words.left) [
        | inl first ↦ (
            let here : left ≡ i = omega (arith, le, first, c.words-test.true) in
            subst (λ (k : ℕ). IsPutOnce asked new row k) here (put.held asked stand))
        | inr later ↦ still_once asked c.words.self new row i put.narrowed (inv.once asked stand i later lt)
      ];
    }

pub returns-clause-narrowed : goal.returns-clause-narrowed
returns-clause-narrowed c = c.words.invariant.narrowed

pub returns-clause-held : goal.returns-clause-held
returns-clause-held c asked stand =
    each_once asked c.words.self (map string_bytes c.args.row.now)
    (λ i lt. c.words.invariant.once asked stand i (omega (arith, c.words-test.false))
    (omega (arith, lt, length-map c.args.row.now (string_bytes {Z = Global}))))
