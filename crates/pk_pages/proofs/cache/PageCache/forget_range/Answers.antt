-- One page less is kept, and those beside it stay; at the end all of the range are gone.
use Rattle.std.proofs.Common.{◌≡◌, ◌∙◌, ◌++◌, inl, inr, List, arith, drop, length, subst, sym, take}
use Rattle.std.proofs.lemmas.Bool.{cases_lt}
use Rattle.std.proofs.lemmas.List.{take-append-le, take_all}
use Rattle.pk_pages.specs.declared.slots.Slot.{Slot}
use Rattle.pk_pages.specs.Pages.{IsGone, IsKept}
use Rattle.pk_pages.proofs.cache.PageCache.forget_range.Goals as goal

pub loop-number-preserved : goal.loop-number-preserved
loop-number-preserved g c =
    let before = c.loop-number.invariant in
    let slots = c.loop-number.self.slots in
    let now = c.forget.new.slots in
    let long : length now ≡ slots.len = omega (arith, c.deref_mut.ensures.len, c.forget.auto.slots) in
    let whole : take slots.len (now ++ drop (length now) slots.items) ≡ now = take-append-le slots.len now (drop (length now) slots.items) (omega (arith, long)) ∙ take_all slots.len now (omega (arith, long)) in
    record {
      disk = before.disk;
      missed = before.missed;
      last_succeeded = before.last_succeeded;
      gone = λ p low high. subst (λ (s : List Slot). IsGone s p) (sym whole) (elim (cases_lt p c.loop-number.number) [
        | inl lt ↦ c.forget.ensures.stay_gone p (subst (λ (s : List Slot). IsGone s p) (sym c.deref_mut.ensures.value) (before.gone p low lt))
        | inr ge ↦ subst (IsGone now) (omega (arith, ge, high)) c.forget.ensures.gone
      ]);
      others = λ p k apart kept.
          let was = subst (λ (s : List Slot). IsKept s p k) (sym c.deref_mut.ensures.value) (before.others p k (elim apart [ inl low ↦ inl low | inr high ↦ inr (omega (arith, high)) ]) kept) in
          subst (λ (s : List Slot). IsKept s p k) (sym whole) (c.forget.ensures.others p k (λ same. elim apart [ inl low ↦ omega (arith, low, same) | inr high ↦ omega (arith, high, same) ]) was);
    }

pub returns-clause-others : goal.returns-clause-others
returns-clause-others g c = λ p k beside kept.
    c.loop-number.invariant.others p k (elim beside [ inl below ↦ inl (omega (arith, below)) | inr above ↦ inr (omega (arith, above)) ]) kept
