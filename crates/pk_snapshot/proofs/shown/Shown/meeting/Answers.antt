-- Both ends are found by halving, since the extents rise.
use Rattle.std.proofs.Common.{◌-◌, List, leb, ltb, length, take, drop, sym, subst, refl, rules}
use Rattle.std.proofs.lemmas.List.Sorted.{IsNonDecreasingBy-drop, IsNonDecreasingBy-take, IsPartitionPoint-from_clause, IsPartitionedBy-leb, IsPartitionedBy-ltb}
use Rattle.pk_disk.specs.declared.units.Extent.{Extent}
use Rattle.pk_disk.specs.Units.{start_of}
use Rattle.pk_snapshot.specs.Order.{AreMet, IsRising, stop_of}
use Rattle.pk_snapshot.proofs.OrderLemmas.{are_met}
use Rattle.pk_snapshot.proofs.shown.Shown.meeting.Goals as goal

pub returns : goal.returns
returns c =
    let at = c.args.at in
    let to = c.args.to in
    let xs = c.as_slice-extents.result.now in
    let rises : IsRising xs = subst IsRising (sym c.as_slice-extents.ensures.value) c.args.self.now.rising in
    let first = c.partition_point-first.result in
    let rest = take (length xs - first) (drop first xs) in
    let count = c.partition_point-count.result in
    let rest_rises = IsNonDecreasingBy-take start_of (length xs - first) (drop first xs) (IsNonDecreasingBy-drop start_of first xs rises.starts) in
    let point = IsPartitionPoint-from_clause (λ (e : Extent). leb (stop_of e) at) xs first c.partition_point-first.ensures.partitioned (IsPartitionedBy-leb stop_of xs at rises.stops) (λ a r q k. search rules) in
    let point_too = IsPartitionPoint-from_clause (λ (e : Extent). ltb (start_of e) to) rest count c.partition_point-count.ensures.partitioned (IsPartitionedBy-ltb start_of rest to rest_rises) (λ a r q k. search rules) in
    subst (λ (l : List Extent). AreMet at to l (take count rest)) c.as_slice-extents.ensures.value
    (are_met xs first at to c.partition_point-first.ensures.bound point rest refl count c.partition_point-count.ensures.bound point_too)
