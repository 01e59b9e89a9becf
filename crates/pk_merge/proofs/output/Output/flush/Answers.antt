-- What is held is written behind what was.
use Rattle.std.proofs.Common.{◌≡◌, ◌∙◌, ◌++◌, ◌+◌, ◌-◌, ◌≤◌, List, ℕ, length, take, drop, append-nil, sym, ap, arith}
use Rattle.std.proofs.lemmas.List.{length-take-le}
use Rattle.pk_disk.specs.Disk.{in_range}
use Rattle.pk_replace.proofs.WritingLemmas.{writes_within, wrote}
use Rattle.pk_merge.specs.Output.{places_of}
use Rattle.pk_merge.proofs.OutputLemmas.{range_within, written_behind}
use Rattle.pk_merge.proofs.output.Output.flush.Goals as goal

pub returns-clause-writes : goal.returns-clause-writes
returns-clause-writes g c =
    let o = c.args.self.now in
    let held = take o.filled c.deref.result.now in
    let long : length held ≡ o.filled =
    length-take-le o.filled c.deref.result.now
    (omega (arith, o.within, ap length c.deref.ensures.value)) in
    let fits : o.at + length held ≤ length (g.D.Disk.content c.args.disk.now) =
    omega (arith, long, o.room, c.requires) in
    writes_within g.D.Disk (in_range o.at (length held)) (places_of o)
    (range_within o.at (length held) o.start o.end o.order (omega (arith, long, o.room))) c.args.disk.now
    c.write.new.self
    (wrote g.D.Disk o.at held c.args.disk.now c.write.new.self c.write.ensures.images c.write.ensures.size
    fits c.in-Ok.ensures.bytes c.in-Ok.ensures.is_open)

pub returns-clause-given : goal.returns-clause-given
returns-clause-given g c = λ honest.
    let o = c.args.self.now in
    let bytes = g.D.Disk.content c.args.disk.now in
    let held = take o.filled c.deref.result.now in
    let long : length held ≡ o.filled =
    length-take-le o.filled c.deref.result.now
    (omega (arith, o.within, ap length c.deref.ensures.value)) in
    let fits : o.at + length held ≤ length bytes = omega (arith, long, o.room, c.requires) in
    let new = g.D.Disk.content c.write.new.self in
    let same : held ≡ take o.filled o.buffer.items = ap (take o.filled) c.deref.ensures.value in
    append-nil (take (o.at + o.filled - o.start) (drop o.start new))
    ∙ ap (λ (n : ℕ). take (o.at + n - o.start) (drop o.start new)) (sym long)
    ∙ ap (λ (l : List ℕ). take (o.at + length held - o.start) (drop o.start l)) (c.in-Ok.ensures.bytes honest)
    ∙ written_behind bytes held o.start o.at o.order fits
    ∙ ap (λ (l : List ℕ). take (o.at - o.start) (drop o.start bytes) ++ l) same
