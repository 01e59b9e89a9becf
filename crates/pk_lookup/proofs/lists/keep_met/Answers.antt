-- One number more: the cursor stands at the first that reaches it, and it is kept where that is the same.
use Rattle.std.proofs.Common.{◌≡◌, ◌∙◌, ◌+◌, ◌++◌, ◌∷◌, [], ◌<◌, List, ℕ, true, false, length, slice_index, take, drop, append-nil, refl, sym, ap, ap₂, arith}
use Rattle.std.proofs.lemmas.List.{drop-set-lt, length-set, take_more_set}
use Rattle.std.specs.Global.{Vec}
use Rattle.pk_sets.specs.Sets.{has, intersection}
use Rattle.pk_segment.proofs.OnlyReadLemmas.{source_then}
use Rattle.pk_lookup.proofs.ListLemmas.{below_all, current_is, here_at, left_by_move, passed_more, same_after}
use Rattle.pk_sets.proofs.CallerLemmas.{intersection_more}
use Rattle.pk_lookup.proofs.lists.keep_met.Goals as goal
use Rattle.pk_lookup.proofs.lists.keep_met.Goals.{then-eq, else-eq}

pub loop-i-preserved : goal.loop-i-preserved
loop-i-preserved g c =
    let before = c.loop-i.invariant in
    let read = c.in_default.ensures.moved.left before.sound in
    let i = c.loop-i.i in
    let kept = c.loop-i.kept in
    let now = c.loop-i.numbers.items in
    let old = c.args.numbers.now.items in
    let x = c.index-number.result.now in
    record {
      reference = c.seek.ensures.same_reference ∙ before.reference;
      only_read = source_then g.met.S.ByteSource.keeps_then before.only_read (left_by_move read);
      sound = c.in_default.ensures.moved.sound refl;
      damage = before.damage;
      long = elim c.if-eq.branch [
        | then-eq w ↦ ap (λ (v : Vec ℕ). length v.items) w.numbers-is ∙ length-set now kept x ∙ before.long
        | else-eq w ↦ ap (λ (v : Vec ℕ). length v.items) w.numbers-is ∙ before.long
      ];
      few = elim c.if-eq.branch [
        | then-eq w ↦ omega (arith, w.kept-is, before.few)
        | else-eq w ↦ omega (arith, w.kept-is, before.few)
      ];
      left = elim c.if-eq.branch [
        | then-eq w ↦ ap (λ (v : Vec ℕ). drop (i + 1) v.items) w.numbers-is ∙ drop-set-lt (i + 1) now kept x (omega (arith, before.few)) ∙ same_after now old i before.left
        | else-eq w ↦ ap (λ (v : Vec ℕ). drop (i + 1) v.items) w.numbers-is ∙ same_after now old i before.left
      ];
      sought = λ h xs stands. (
          let a = before.sought h xs stands in
          let to = c.in_default.ensures.at h xs a.index a.stands in
          let inside : i < length old = omega (arith, before.long) in
          let here : x ≡ slice_index old i = here_at now old i x (omega (arith, before.long, inside)) c.index-number.ensures before.left in
          let low = below_all xs old x a.index to.index i inside here a.passed to.first in
          let posting = to.stands.shape.spelled.posting in
          let cur = c.current.ensures.at _ xs to.index to.stands in
          record {
            index = to.index;
            stands = to.stands;
            passed = passed_more xs old x a.index to.index i c.requires.rising here a.passed to.first;
            found = elim c.if-eq.branch [
              | then-eq w ↦ (
                  let there : has xs x ≡ true = current_is xs x to.index c.current.result true cur w.if-eq.ensures posting low to.first.reaches in
                  ap₂ (λ (k : ℕ) (v : Vec ℕ). take k v.items) w.kept-is w.numbers-is ∙ take_more_set now kept x (omega (arith, before.few, before.long, inside))
                  ∙ ap (λ (zs : List ℕ). zs ++ x ∷ []) a.found ∙ sym (intersection_more xs old i x true inside here there))
              | else-eq w ↦ (
                  let there : has xs x ≡ false = current_is xs x to.index c.current.result false cur w.if-eq.ensures posting low to.first.reaches in
                  ap₂ (λ (k : ℕ) (v : Vec ℕ). take k v.items) w.kept-is w.numbers-is ∙ a.found
                  ∙ sym (append-nil (intersection (take i old) xs)) ∙ sym (intersection_more xs old i x false inside here there))
            ];
          });
    }
