-- Eight times one vector more.
use Rattle.std.proofs.Common.{add_assoc}
use Rattle.pk_lanes.proofs.sums.put_eight_sums.Goals as goal

pub returns : goal.returns
returns c seed four old =
    let k = c.args.k in
    let one = c.put_sums-last.ensures seed four old in
    let two = rw (add_assoc k 1 1) at (c.put_sums-last-2.ensures seed four one) in
    let three = rw (add_assoc k 2 1) at (c.put_sums-last-3.ensures seed four two) in
    let four_vectors = rw (add_assoc k 3 1) at (c.put_sums-last-4.ensures seed four three) in
    let five = rw (add_assoc k 4 1) at (c.put_sums-last-5.ensures seed four four_vectors) in
    let six = rw (add_assoc k 5 1) at (c.put_sums-last-6.ensures seed four five) in
    let seven = rw (add_assoc k 6 1) at (c.put_sums-last-7.ensures seed four six) in
    rw (add_assoc k 7 1) at (c.put_sums.ensures seed four seven)
