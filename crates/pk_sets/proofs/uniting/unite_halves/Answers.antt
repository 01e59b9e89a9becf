-- The unions of the halves follow one another, once the second is moved down.
use Rattle.std.proofs.Common.{arith, ap, ap₂, ◌∙◌, ◌≡◌, ◌+◌, ◌/◌, ◌++◌, length, take, drop}
use Rattle.pk_sets.specs.Sets.{union}
use Rattle.pk_sets.proofs.PartLemmas.{moved_down}
use Rattle.pk_sets.proofs.UnionLemmas.{union_halves}
use Rattle.pk_sets.proofs.uniting.unite_halves.Goals as goal

pub returns-clause-found : goal.returns-clause-found
returns-clause-found c =
    let a = c.args.a.now in
    let b = c.args.b.now in
    let half = length a / 2 in
    let half_b = c.first_from-half_b.result in
    let n = c.unite_two-low_count.result.0 in
    let m = c.unite_two-low_count.result.1 in
    let low = c.unite_two-low_count.new.low in
    let high = c.unite_two-low_count.new.high in
    let lows : take n low ≡ union (take half a) (take half_b b) =
    c.unite_two-low_count.ensures.found_low ∙ ap₂ union c.split_at.ensures.front c.split_at-2.ensures.front in
    let highs : take m high ≡ union (drop half a) (drop half_b b) =
    c.unite_two-low_count.ensures.found_high ∙ ap₂ union c.split_at.ensures.back c.split_at-2.ensures.back in
    ap (take (n + m)) c.copy_within.ensures.after
    ∙ moved_down (half + half_b) n m low high (omega arith) (omega arith) (omega arith)
    ∙ ap₂ (λ k l. k ++ l) lows highs
    ∙ union_halves a b c.requires.rising_a c.requires.rising_b half half_b (omega arith) (omega arith) c.first_from-half_b.ensures.before c.first_from-half_b.ensures.here
