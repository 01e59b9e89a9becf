-- Lane by lane.
use Rattle.std.proofs.Common.{◌∙◌, ◌≤◌, ◌%◌, ◌^◌, ◌&&◌, ◌==◌, ap, ap₂, sym, cond, map, length, arith, ℕ, Bool}
use Rattle.std.proofs.lemmas.Simd.{length-zip2, mask_l-mod, zip2_splat}
use lib.Bits.{bit_or, bit_and}
use lib.Lanes.{mask_l, top, zip2}
use Rattle.pk_pieces.proofs.LaneLemmas.{then_splat}
use Rattle.pk_pieces.proofs.ScanLemmas.{lanes}
use Rattle.pk_pieces.proofs.scan.pairs.Goals as goal

-- a lane of all bits where the byte is shown by the bit
abbrev marks : ℕ → ℕ → ℕ → Bool
marks bit sought byte = bit_or byte bit == sought

pub returns : goal.returns
returns c =
    let v = c.args.v in
    let w = c.args.w in
    let a = c.case_bit.result in
    let b = c.case_bit-2.result in
    let firsts = then_splat (λ x y. cond (x == y) 255 0) (λ x. bit_or x a) c.args.first 16 v c.fits-v.0 (zip2_splat bit_or v 16 a c.fits-v.0) in
    let lasts = then_splat (λ x y. cond (x == y) 255 0) (λ x. bit_or x b) c.args.last 16 w c.fits-w.0 (zip2_splat bit_or w 16 b c.fits-w.0) in
    let short : length (zip2 (λ x y. marks a c.args.first x && marks b c.args.last y) v w) ≤ 64 =
    omega (arith, length-zip2 (λ x y. marks a c.args.first x && marks b c.args.last y) v w (c.fits-v.0 ∙ sym c.fits-w.0), c.fits-v.0) in
    ap₂ (λ x y. mask_l (map (top 7) (zip2 bit_and x y)) % 2 ^ 64) firsts lasts
    ∙ ap (λ l. mask_l l % 2 ^ 64) (lanes (marks a c.args.first) (marks b c.args.last) v w)
    ∙ mask_l-mod (zip2 (λ x y. marks a c.args.first x && marks b c.args.last y) v w) 64 short
    ∙ ap₂ (λ i j. mask_l (zip2 (λ x y. marks i c.args.first x && marks j c.args.last y) v w)) c.case_bit.ensures c.case_bit-2.ensures
