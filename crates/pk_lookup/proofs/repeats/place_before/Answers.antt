-- The word at the place is the one that was found, or it is none so far.
use Rattle.std.proofs.Common.{◌≡◌, ◌∙◌, ℕ, List, [], true, false, arith, get_or, refl, sym}
use Rattle.std.specs.Borrow.{Bor}
use Rattle.std.proofs.lemmas.Slice.Eq.{bytes_eq-Decides}
use Rattle.pk_plan.specs.Words.{texts}
use Rattle.pk_lookup.proofs.RepeatLemmas.{new_more, text_or}
use Rattle.pk_lookup.proofs.repeats.place_before.Goals as goal

pub returns-then-eq : goal.returns-then-eq
returns-then-eq c =
    let words = c.args.words.now in
    let none : Bor (List ℕ) = record { ref_ptr = (0, 0); now = [] } in
    record {
      within = omega arith;
      same = sym (text_or words c.loop-first.first none refl)
          ∙ (bytes_eq-Decides _ _).0 (sym c.eq.ensures ∙ c.if-eq.true)
          ∙ text_or words c.args.place none refl;
      new = c.loop-first.invariant.new;
    }

pub loop-first-preserved : goal.loop-first-preserved
loop-first-preserved c =
    let words = c.args.words.now in
    let none : Bor (List ℕ) = record { ref_ptr = (0, 0); now = [] } in
    record {
      new = new_more (texts words) c.loop-first.first (get_or (texts words) c.args.place []) c.loop-first.invariant.new
          (λ same. (let found : true ≡ false = sym ((bytes_eq-Decides _ _).1 (text_or words c.loop-first.first none refl ∙ same ∙ sym (text_or words c.args.place none refl))) ∙ sym c.eq.ensures ∙ c.if-eq.false in cc));
    }
