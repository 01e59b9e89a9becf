-- Each length is at least 1.
use Rattle.std.proofs.Common.{◌≡◌, ◌∙◌, ◌++◌, ◌≤◌, List, ℕ, ap, append_assoc, length, map, subst, sym}
use Rattle.std.specs.Prelude.{All}
use Rattle.pk_manifest.specs.Spelling.{view}
use Rattle.pk_state.specs.Writing.{table_writes}
use Rattle.pk_layout.specs.Merging.{count_merged, lengths_in}
use Rattle.pk_layout.specs.Next.{lengths_next, lists_in, new_in}
use Rattle.pk_layout.proofs.PlanLemmas.{next_some}
use Rattle.pk_layout.proofs.placing.place_next.Goals as goal

pub place_all-requires-clause-some : goal.place_all-requires-clause-some
place_all-requires-clause-some c =
    let b = view c.args.manifest.now in
    let x = c.args.next.now in
    let first = lengths_in (new_in x.segment) in
    let put : c.put_segment.new.lengths.items ≡ first = c.in_ok-put_segment.ensures ∙ ap (λ (ns : List ℕ). ns ++ first) c.in_ok-lengths.ensures.items in
    let listed : c.put_lists.new.lengths.items ≡ first ++ map length (lists_in x) = c.in_ok-put_lists.ensures ∙ (λ i. put i ++ map length (map (λ w. w.items) (c.deref.ensures.value i))) in
    let all : c.deref-2.result.now ≡ lengths_next b x = c.deref-2.ensures.value ∙ c.in_ok-put_table.ensures ∙ (λ i. listed i ++ table_writes (c.count_next-count.ensures i))
    ∙ append_assoc first (map length (lists_in x)) (table_writes (count_merged b x.run.count (new_in x.segment))) in
    subst (All (λ (n : ℕ). 1 ≤ n)) (sym all) (next_some b x c.requires.follows)
