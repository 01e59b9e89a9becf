-- The leading digits as they are kept, and four more.
use Rattle.std.proofs.Common.{◌≡◌, ◌/◌, ◌%◌, ◌-◌, ◌≤◌, ◌∷◌, ◌++◌, length, take, drop, refl, ap, ◌∙◌, sym, arith}
use Rattle.std.specs.Prelude.{decimal}
use Rattle.std.proofs.lemmas.Fmt.{length-decimal-le}
use Rattle.std.proofs.lemmas.List.{take-append-le}
use Rattle.std.proofs.lemmas.Simd.{length-put_chunk, put_chunk_is}
use Rattle.std.specs.Simd.Lanes.{put_chunk}
use Rattle.pk_digits.specs.Digits.{four_digits}
use Rattle.pk_digits.proofs.DecimalLemmas.{decimal_four, length_four}
use Rattle.pk_digits.proofs.leading.LeadingDigits.write_led.Goals as goal

pub write-requires-clause-room : goal.write-requires-clause-room
write-requires-clause-room c =
    omega (arith, length-put_chunk 0 c.args.out.now c.self.inside.text, length-decimal-le 6 c.self.inside.number (omega arith) (omega arith) (omega arith))

pub returns-clause-end : goal.returns-clause-end
returns-clause-end c =
    omega (arith, length_four c.args.number (omega (arith, c.requires.led, c.self.view_is, c.self.invariant.0)) (omega arith), ap (λ n. length (decimal n)) (c.self.view_is ∙ sym c.requires.led))

pub returns-clause-within : goal.returns-clause-within
returns-clause-within c = omega (arith, length-decimal-le 6 c.self.inside.number (omega arith) (omega arith) (omega arith))

pub returns-clause-written : goal.returns-clause-written
returns-clause-written c =
    let text = c.self.inside.text in
    let few : length (decimal c.self.inside.number) ≤ 6 = length-decimal-le 6 c.self.inside.number (omega arith) (omega arith) (omega arith) in
    let stored : put_chunk 0 c.args.out.now text ≡ text ++ drop (length text) c.args.out.now = put_chunk_is 0 c.args.out.now text (omega (arith, c.self.invariant.4)) in
    let front : take c.self.inside.end (put_chunk 0 c.args.out.now text) ≡ 32 ∷ decimal c.self.inside.number =
    ap (take c.self.inside.end) stored ∙ take-append-le c.self.inside.end text _ (omega (arith, c.self.invariant.3, c.self.invariant.4)) ∙ c.self.invariant.5 in
    let same : c.self.inside.number ≡ c.args.number / 10000 = c.self.view_is ∙ sym c.requires.led in
    let low : c.args.number - c.self.inside.least ≡ c.args.number % 10000 = omega (arith, same, c.self.invariant.2) in
    c.write.ensures.written
    ∙ ap (λ t. t ++ four_digits (c.args.number - c.self.inside.least)) front
    ∙ rw (low, decimal_four c.args.number (omega (arith, c.requires.led, c.self.view_is, c.self.invariant.0)) (omega arith), ← same) refl
