-- No key is below 0.
use Rattle.std.proofs.Common.{◌≡◌, ◌+◌, ◌/◌, replicate, rules, arith, subst, sym}
use Rattle.pk_join.specs.HeadKeys.{AreFloors}
use Rattle.pk_join.proofs.FloorLemmas.{floors_none}
use Rattle.pk_join.proofs.head_keys.HeadKeys.new.Goals as goal

pub invariant_of-result : goal.invariant_of-result
invariant_of-result c =
    let keys = c.args.keys.items in
    let n = c.len.result / 64 + 1 in
    let zeros : c.in_ok-floors.floors.items ≡ replicate n 0 = search rules in
    subst (AreFloors keys) (sym zeros) (floors_none keys n (omega (arith, c.len.ensures, c.args.keys.ok)))
