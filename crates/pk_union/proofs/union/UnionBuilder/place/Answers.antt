-- A list is marked, or it comes onto the stack.
use Rattle.std.proofs.Common.{◌≡◌, ◌∙◌, ◌++◌, ap, sym, List, ℕ, Bool, length}
use Rattle.std.proofs.lemmas.List.{with_items_is}
use Rattle.std.proofs.lemmas.Result.{on_ok_weaker}
use Rattle.pk_union.specs.Union.{marked, numbers_put}
use Rattle.pk_union.specs.Uniting.{items_of, union_of}
use Rattle.pk_union.proofs.MarkLemmas.{put_marked, put_stacked}
use Rattle.pk_sets.specs.Sets.{union}
use Rattle.pk_union.proofs.union.UnionBuilder.place.Goals as goal

pub returns-then-lies_within : goal.returns-then-lies_within
returns-then-lies_within c =
    let u = c.self.inside in
    let list = c.args.list.now in
    let marks = c.mark_all.new.marks in
    let long : length marks ≡ u.marks.len = c.mark_all.ensures.long ∙ ap length c.deref_mut.ensures.value ∙ sym u.marks.ok.0 in
    ap (λ (ms : List Bool). numbers_put u.first ms u.lists.items) (with_items_is u.marks marks long)
    ∙ put_marked u.first list marks u.marks.items u.lists.items c.requires c.self.invariant.0.rising
    (c.mark_all.ensures.numbers ∙ ap (λ (ms : List Bool). union list (marked u.first ms)) c.deref_mut.ensures.value)
    ∙ ap (λ (ns : List ℕ). union ns list) c.self.view_is

pub returns : goal.returns
returns c =
    let u = c.self.inside in
    let list = c.args.list.now in
    let copied : c.extend_from_slice.new.self.items ≡ list = c.in_ok-extend_from_slice.ensures.items ∙ ap (λ (ns : List ℕ). ns ++ list) c.new-copy.ensures.items in
    on_ok_weaker c.stack_list.result (λ is. (
    put_stacked u.first list u.marks.items c.stack_list.new.lists.items u.lists.items c.requires (is ∙ ap (union (union_of (items_of u.lists.items))) copied)
    ∙ ap (λ (ns : List ℕ). union ns list) c.self.view_is)) c.stack_list.ensures.numbers
