-- All that was on the stack is put again, where no mark is set.
use Rattle.std.proofs.Common.{◌≡◌, ◌∙◌, ◌-◌, ◌==◌, [], ap, sym}
use Rattle.std.proofs.lemmas.Result.{on_ok_weaker}
use Rattle.pk_union.specs.Uniting.{items_of, union_of}
use Rattle.pk_union.proofs.MarkLemmas.{put_again}
use Rattle.pk_union.proofs.PlaceLemmas.{none_there}
use Rattle.pk_sets.specs.Sets.{union}
use Rattle.pk_union.proofs.union.UnionBuilder.make_marks.Goals as goal

pub returns : goal.returns
returns c =
    let u = c.self.inside in
    let none = none_there u.marks.items (u.marks.len == 0) (ap (λ n. n == 0) u.marks.ok.0) (sym c.if-not-is_empty.ensures) in
    let old = c.resize.new.self.items in
    let left = c.unite_onto.new.lists.items in
    let all : c.deref.result.now ≡ union (union_of (items_of u.lists.items)) [] =
    c.deref.ensures.value ∙ c.in_ok-unite_onto.ensures.numbers ∙ ap (union (union_of (items_of u.lists.items))) c.new-all.ensures.items in
    on_ok_weaker c.place.result (λ is. (
    is ∙ put_again u.first u.count (u.count - u.marks.len) u.marks.items old u.lists.items left c.deref.result.now none c.in_ok-resize.ensures.items c.in_ok-unite_onto.ensures.none c.self.invariant.0.rising all
    ∙ c.self.view_is)) c.place.ensures
