-- A part of a span is a part of what it is of.
use Rattle.std.proofs.Common.{◌≡◌, ◌∙◌, ◌+◌, ◌-◌, ◌≤◌, ℕ, List, length, take, drop, ap, arith}
use Rattle.pk_segment.proofs.Window.{window}
use Rattle.pk_phrase.proofs.span.Span.part.Goals as goal

pub returns-clause-value : goal.returns-clause-value
returns-clause-value c = λ bytes of.
    let span = c.args.self.now in
    let len = c.args.len in
    let from : ℕ = c.args.start - span.start in
    let long : from + len - from ≡ len = omega arith in
    let place : span.start + from ≡ c.args.start = omega (arith, c.if-start-self.false) in
    let few : from + len ≤ length span.bytes.now = omega (arith, c.if-end-self.false) in
    ap (λ (n : ℕ). take n (drop from span.bytes.now)) long
    ∙ ap (λ (l : List ℕ). take len (drop from l)) of.value
    ∙ window len from (length span.bytes.now) span.start bytes few ∙ ap (λ (k : ℕ). take len (drop k bytes)) place
