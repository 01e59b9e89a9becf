-- The list is taken out through the cache, which keeps what is the segment's, or past it.
use Rattle.std.proofs.Common.{◌≡◌, ◌∙◌, ap, sym, subst, ℕ, List, length}
use Rattle.std.specs.Global.{Vec}
use Rattle.std.specs.List.Sorted.{IsStrictlyIncreasing}
use Rattle.pk_lookup.proofs.RisingLemmas.{posting_rises}
use Rattle.pk_lookup.specs.Cached.{KeepsBlocksOf}
use Rattle.pk_lookup.proofs.lists.take_out.Goals as goal
use Rattle.pk_lookup.proofs.lists.take_out.Goals.{in-Some+in_ok-copy_kept-in-Some, in_default+in_ok-copy_out-in_default, in_default-via-in-Some+else-count-capacity, in_default-via-in_default}

pub returns-then-not-is_list_of-clause-cached : goal.returns-then-not-is_list_of-clause-cached
returns-then-not-is_list_of-clause-cached g c = λ h xs lies mine.
    let Keeps = KeepsBlocksOf c.args.list.segment (g.S.ByteSource.content c.args.source.now) in
    elim c.match-cache.branch [
      | in-Some+in_ok-copy_kept-in-Some w ↦ subst Keeps (sym w.cache-is) (w.copy_kept.ensures.cached h xs lies (subst Keeps w.in-Some.is mine))
      | in_default+in_ok-copy_out-in_default w ↦ subst Keeps (sym w.cache-is) (elim w.in_default.branch [
        | in_default-via-in-Some+else-count-capacity u ↦ subst Keeps (sym u.cache-is) (subst Keeps u.in-Some.is mine)
        | in_default-via-in_default u ↦ subst Keeps (sym u.cache-is) mine
      ])
    ]

pub returns-clause-cached : goal.returns-clause-cached
returns-clause-cached g c = λ h xs lies mine.
    let Keeps = KeepsBlocksOf c.args.list.segment (g.S.ByteSource.content c.args.source.now) in
    elim c.match-cache.branch [
      | in-Some+in_ok-copy_kept-in-Some w ↦ subst Keeps (sym w.cache-is) (w.copy_kept.ensures.cached h xs lies (subst Keeps w.in-Some.is mine))
      | in_default+in_ok-copy_out-in_default w ↦ subst Keeps (sym w.cache-is) (elim w.in_default.branch [
        | in_default-via-in-Some+else-count-capacity u ↦ subst Keeps (sym u.cache-is) (subst Keeps u.in-Some.is mine)
        | in_default-via-in_default u ↦ subst Keeps (sym u.cache-is) mine
      ])
    ]

pub returns-then-not-is_list_of-clause-numbers : goal.returns-then-not-is_list_of-clause-numbers
returns-then-not-is_list_of-clause-numbers g c = λ h xs lies count mine.
    let Keeps = KeepsBlocksOf c.args.list.segment (g.S.ByteSource.content c.args.source.now) in
    let fails : c.match-cache.out.items ≡ xs → ⊥ = λ same. (
    let is = c.deref.ensures.value ∙ same in
    let up = subst IsStrictlyIncreasing (sym is) (posting_rises xs lies.spelled.posting) in
    let long = ap (λ (ns : List ℕ). length ns) is ∙ sym count in
    let yes = c.is_list_of.ensures.1 (long, up) in
    cc (yes, c.if-not-is_list_of.true)) in
    elim c.match-cache.branch [
      | in-Some+in_ok-copy_kept-in-Some w ↦ fails (ap (λ (v : Vec ℕ). v.items) w.out-is ∙ w.in_ok-copy_kept-in-Some.ensures.numbers h xs lies (subst Keeps w.in-Some.is mine))
      | in_default+in_ok-copy_out-in_default w ↦ fails (ap (λ (v : Vec ℕ). v.items) w.out-is ∙ w.in_ok-copy_out-in_default.ensures.numbers h xs lies count)
    ]
