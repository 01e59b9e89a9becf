-- One list more, where a deletion is pending: it is that of a posting list with a number.
use Rattle.std.proofs.Common.{◌∙◌, ◌++◌, ◌∷◌, [], List, ℕ, Vec, Global, ap, map, subst, sym, take}
use Rattle.std.proofs.lemmas.List.{map-append}
use Rattle.pk_layout.specs.Plan.{CanBeWritten, new_lists}
use Rattle.pk_layout.proofs.WriteLemmas.{list_more, no_list_more, sizes_more}
use Rattle.pk_layout.proofs.pieces.list_bytes.Goals as goal
use Rattle.pk_layout.proofs.pieces.list_bytes.Goals.{then-is_pending+in_ok-bytes+in_ok-push, else-is_pending}

pub loop-segment-preserved : goal.loop-segment-preserved
loop-segment-preserved c =
    let os = c.args.opened.now in
    let i = c.loop-segment.segment-index in
    let o = c.segment-item.result in
    let lt = c.loop-segment-test.true in
    let at = c.segment-item.is in
    let items : Vec ℕ Global → List ℕ = λ w. w.items in
    elim c.if-is_pending.branch [
      | then-is_pending+in_ok-bytes+in_ok-push w ↦ (
          let is = sym c.is_pending.ensures ∙ w.if-is_pending.true in
          record {
            lists = ap (λ (v : Vec (Vec ℕ Global) Global). map items v.items) w.lists-is ∙ ap (map items) w.in_ok-push.ensures.items ∙ map-append items c.loop-segment.lists.items (w.in_ok-bytes.bytes ∷ [])
                ∙ ap (λ ws. ws ++ w.in_ok-bytes.bytes.items ∷ []) c.loop-segment.invariant.lists ∙ ap (λ bs. new_lists (take i os) ++ bs ∷ []) w.in_ok-bytes.ensures.bytes
                ∙ sym (list_more os i o lt at is);
            sizes = sizes_more os i o lt at is c.requires.grown w.in_ok-bytes.ensures.spelled.posting c.loop-segment.invariant.sizes;
          }
          )
      | else-is_pending w ↦ (
          let none = no_list_more os i o lt at (sym c.is_pending.ensures ∙ w.if-is_pending.false) in
          record {
            lists = ap (λ (v : Vec (Vec ℕ Global) Global). map items v.items) w.lists-is ∙ c.loop-segment.invariant.lists ∙ sym none;
            sizes = subst CanBeWritten (sym none) c.loop-segment.invariant.sizes;
          }
          )
    ]
