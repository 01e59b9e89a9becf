-- Lane by lane.
use Rattle.std.proofs.Common.{◌∙◌, ◌+◌, ◌-◌, leb, ◌≤◌, ◌%◌, ◌^◌, ◌&&◌, ◌==◌, ap, ap₂, sym, cond, map, length, arith, ℕ, Bool}
use Rattle.std.proofs.lemmas.Simd.{length-zip2, mask_l-mod, zip2_splat}
use lib.Bits.{bit_or, bit_and}
use lib.Lanes.{mask_l, top, zip2}
use Rattle.pk_pieces.specs.Scan.{is_no_letter, shows}
use Rattle.pk_pieces.proofs.LaneLemmas.{at_most, from_splat, then_splat}
use Rattle.pk_pieces.proofs.ScanLemmas.{far_from_letters, lanes, same_tests}
use Rattle.pk_pieces.proofs.single.singles.Goals as goal

-- a lane of all bits where the byte is shown by the bit
abbrev marks : ℕ → ℕ → ℕ → Bool
marks bit sought byte = bit_or byte bit == sought

-- how far the byte is from the small a
abbrev is_far : ℕ → Bool
is_far byte = leb 26 ((bit_or byte 32 + (256 - 97)) % 256)

pub returns : goal.returns
returns c =
    let v = c.args.v in
    let w = c.args.w in
    let a = c.case_bit.result in
    let letters = then_splat (λ x y. cond (x == y) 255 0) (λ x. bit_or x a) c.args.sought 16 v c.fits-v.0 (zip2_splat bit_or v 16 a c.fits-v.0) in
    let apart = from_splat at_most _ 26 16 w c.fits-w.0 (then_splat (λ x y. (x + (256 - y)) % 256) _ 97 16 w c.fits-w.0 (zip2_splat bit_or w 16 32 c.fits-w.0)) in
    let short : length (zip2 (λ x y. marks a c.args.sought x && is_far y) v w) ≤ 64 =
    omega (arith, length-zip2 (λ x y. marks a c.args.sought x && is_far y) v w (c.fits-v.0 ∙ sym c.fits-w.0), c.fits-v.0) in
    ap₂ (λ x y. mask_l (map (top 7) (zip2 bit_and x y)) % 2 ^ 64) letters apart
    ∙ ap (λ l. mask_l l % 2 ^ 64) (lanes (marks a c.args.sought) is_far v w)
    ∙ mask_l-mod (zip2 (λ x y. marks a c.args.sought x && is_far y) v w) 64 short
    ∙ ap (λ i. mask_l (zip2 (λ x y. marks i c.args.sought x && is_far y) v w)) c.case_bit.ensures
    ∙ ap mask_l (same_tests (shows c.args.sought) is_far is_no_letter v w c.fits-w.1 far_from_letters)
