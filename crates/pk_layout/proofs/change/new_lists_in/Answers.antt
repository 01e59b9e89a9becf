-- The segment gets the next extent where a deletion is pending in it and one is left.
use Rattle.std.proofs.Common.{◌≡◌, ◌⊎◌, ◌∙◌, ◌+◌, ◌<◌, ◌≤◌, ◌++◌, ◌∷◌, [], false, inl, inr, List, ℕ, Global, Vec, ap, append-nil, append_assoc, arith, drop, get_or, length, length-append, set, subst, sym}
use Rattle.std.specs.Prelude.{All}
use Rattle.std.proofs.lemmas.List.{drop_all, get_or_default}
use Rattle.pk_disk.specs.declared.units.Extent.{Extent}
use Rattle.pk_manifest.specs.declared.manifest.Part.{Part as Entry}
use Rattle.pk_open.specs.declared.opened.OpenSegment.{OpenSegment}
use Rattle.pk_open.specs.Opened.{entries_of, pends}
use Rattle.pk_open.proofs.PlaceLemmas.{entries_many}
use Rattle.pk_layout.specs.declared.change.NewList.{NewList}
use Rattle.pk_layout.specs.Change.{made_at, new_lists_in, with_list, with_lists}
use Rattle.pk_layout.proofs.ChangeLemmas.{entries_last, lists_long, lists_more, lists_same, lists_settle, lists_within, put_at}
use Rattle.pk_layout.proofs.change.new_lists_in.Goals as goal
use Rattle.pk_layout.proofs.change.new_lists_in.Goals.{then-is_pending+then-len-extents+in_ok-numbers+in_ok-push, else-is_pending, else-is_pending-via-then-is_pending+else-len-extents, else-is_pending-via-else-is_pending}

abbrev no_place : Extent
no_place = record { first = 0; units = 0; bytes = 0 }

-- there are as many entries as segments
many : (es : List Entry) (os : List OpenSegment) (ls : List NewList) (i : ℕ) → es ≡ entries_of (with_lists os ls) → i < length os → i < length es
many es os ls i same lt = omega (arith, lt, ap length same, entries_many (with_lists os ls), lists_long os ls)

pub index_mut-entry-requires : goal.index_mut-entry-requires
index_mut-entry-requires c =
    omega (arith, many c.loop-place.entries.items c.args.opened.now c.loop-place.lists.items c.loop-place.place c.loop-place.invariant.entries c.loop-place-test.true, c.loop-place.entries.ok.0)

pub loop-place-preserved : goal.loop-place-preserved
loop-place-preserved c =
    let os = c.args.opened.now in
    let xs = c.args.extents.now in
    let i = c.loop-place.place in
    let kept = c.loop-place.lists.items in
    let n = length kept in
    let o = c.index-opened-place.result in
    let rest = drop (i + 1) os in
    elim c.if-is_pending.branch [
      | then-is_pending+then-len-extents+in_ok-numbers+in_ok-push w ↦ (
          let left : n < length xs = omega (arith, w.if-len-extents.true, w.len.ensures, c.loop-place.lists.ok.0) in
          let x = get_or xs n no_place in
          let new : NewList = record { place = i; extent = x; numbers = o.deleted } in
          let at : w.len-then-len-extents.result ≡ n = omega (arith, w.len-then-len-extents.ensures, c.loop-place.lists.ok.0) in
          let put : c.if-is_pending.lists.items ≡ kept ++ new ∷ [] =
          ap (λ (v : Vec NewList Global). v.items) w.lists-is ∙ w.in_ok-push.ensures.items
          ∙ (λ j. kept ++ record { place = i; extent = get_or xs (at j) no_place; numbers = w.in_ok-numbers.ensures j } ∷ []) in
          let long : length c.if-is_pending.lists.items ≡ n + 1 = ap length put ∙ length-append kept (new ∷ []) in
          let set_list : Entry → Entry = λ e. with_list e x in
          record {
            lists = (λ j. put j ++ new_lists_in (i + 1) rest (drop (long j) xs))
                ∙ append_assoc kept (new ∷ []) (new_lists_in (i + 1) rest (drop (n + 1) xs))
                ∙ ap (λ ls. kept ++ ls) (sym (lists_more os xs i n o c.loop-place-test.true c.index-opened-place.is x left (get_or_default xs n no_place x left) (sym c.is_pending.ensures ∙ w.if-is_pending.true)))
                ∙ c.loop-place.invariant.lists;
            entries = ap (λ (v : Vec Entry Global). v.items) w.entries-is ∙ (λ j. set c.loop-place.entries.items i (with_list w.index_mut-entry.result.now (get_or xs (at j) no_place)))
                ∙ put_at set_list c.loop-place.entries.items i w.index_mut-entry.result.now (many c.loop-place.entries.items os kept i c.loop-place.invariant.entries c.loop-place-test.true) w.index_mut-entry.ensures.value
                ∙ ap (made_at set_list i) c.loop-place.invariant.entries ∙ sym (entries_last os kept new) ∙ ap (λ ls. entries_of (with_lists os ls)) (sym put);
          }
          )
      | else-is_pending w ↦ (
          let same = ap (λ (v : Vec NewList Global). v.items) w.lists-is in
          let either : (pends o ≡ false) ⊎ (length xs ≤ n) = elim w.else-is_pending.branch [
            | else-is_pending-via-then-is_pending+else-len-extents k ↦ inr (omega (arith, k.if-len-extents.false, k.len.ensures, c.loop-place.lists.ok.0))
            | else-is_pending-via-else-is_pending k ↦ inl (sym c.is_pending.ensures ∙ k.if-is_pending.false)
          ] in
          record {
            lists = (λ j. same j ++ new_lists_in (i + 1) rest (drop (length (same j)) xs))
                ∙ ap (λ ls. kept ++ ls) (sym (lists_same os xs i n o c.loop-place-test.true c.index-opened-place.is either))
                ∙ c.loop-place.invariant.lists;
            entries = ap (λ (v : Vec Entry Global). v.items) w.entries-is ∙ c.loop-place.invariant.entries ∙ ap (λ ls. entries_of (with_lists os ls)) (sym same);
          }
          )
    ]

pub returns-clause-places : goal.returns-clause-places
returns-clause-places c =
    let os = c.args.opened.now in
    let xs = c.args.extents.now in
    let i = c.loop-place.place in
    let kept = c.loop-place.lists.items in
    let none : drop i os ≡ [] = drop_all i os (omega (arith, c.loop-place-test.false)) in
    let all : kept ≡ new_lists_in 0 os xs = sym (append-nil kept) ∙ ap (λ us. kept ++ new_lists_in i us (drop (length kept) xs)) (sym none) ∙ c.loop-place.invariant.lists in
    subst (All (λ (l : NewList). l.place < length os)) (sym all) (lists_within (length os) 0 os xs (omega arith))

pub returns-clause-entries : goal.returns-clause-entries
returns-clause-entries c =
    let os = c.args.opened.now in
    let xs = c.args.extents.now in
    let i = c.loop-place.place in
    let kept = c.loop-place.lists.items in
    let none : drop i os ≡ [] = drop_all i os (omega (arith, c.loop-place-test.false)) in
    let all : kept ≡ new_lists_in 0 os xs = sym (append-nil kept) ∙ ap (λ us. kept ++ new_lists_in i us (drop (length kept) xs)) (sym none) ∙ c.loop-place.invariant.lists in
    c.loop-place.invariant.entries ∙ ap (λ ls. entries_of (with_lists os ls)) all ∙ ap entries_of (lists_settle os xs)
