-- One entry more.
use Rattle.std.proofs.Common.{◌∙◌, ◌++◌, ◌+◌, take, get_or, ap, sym, append_assoc, List, ℕ, arith}
use Rattle.pk_segment.specs.Spelling.{le32}
use Rattle.pk_merge.specs.declared.kept.Kept.{Kept}
use Rattle.pk_merge.specs.Keeping.{kept_directory}
use Rattle.pk_merge.proofs.KeepLemmas.{bytes_next, bytes_within, directory_next}
use Rattle.pk_merge.proofs.front.put_directory.Goals as goal

none : Kept
none = record { number = 0; at = 0; len = 0 }

pub overflow_add-at : goal.overflow_add-at
unfolding none
overflow_add-at c =
    let ks = c.args.documents.now in
    let i = c.loop-kept.kept-index in
    omega (
      arith,
      bytes_next ks i none c.loop-kept-test.true,
      bytes_within ks (i + 1),
      c.loop-kept.invariant.at,
      c.requires,
    )

pub loop-kept-preserved : goal.loop-kept-preserved
unfolding none
loop-kept-preserved c =
    let ks = c.args.documents.now in
    let i = c.loop-kept.kept-index in
    let out = c.args.out.now.items in
    let k = get_or ks i none in
    let entry = le32 k.number ++ le32 c.loop-kept.at ++ le32 k.len in
    record {
      at = ap (λ (n : ℕ). n + k.len) c.loop-kept.invariant.at
          ∙ sym (bytes_next ks i none c.loop-kept-test.true);
      entries = c.in_ok-put_entry.ensures ∙ ap (λ (l : List ℕ). l ++ entry) c.loop-kept.invariant.entries
          ∙ append_assoc out (kept_directory 0 (take i ks)) entry
          ∙ ap (λ (l : List ℕ). out ++ l)
          (sym (directory_next ks i c.loop-kept.at none c.loop-kept-test.true c.loop-kept.invariant.at));
    }
