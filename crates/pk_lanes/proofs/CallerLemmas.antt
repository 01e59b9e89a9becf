-- For crates above: a packed block is of one list of numbers, and numbers have one packed form.
use Rattle.std.proofs.Common.{◌≡◌, ℕ, ◌<◌, ◌+◌, ◌*◌, ◌/◌, ◌%◌, List, length, slice_index, arith, sym, ap, ap₂, ◌∙◌}
use Rattle.std.specs.Prelude.{All}
use Rattle.std.proofs.Common.{inl, inr}
use Rattle.std.proofs.lemmas.Bool.{cases_lt}
use Rattle.std.proofs.lemmas.List.{ext_get_or, get_or_past}
use Rattle.std.proofs.lemmas.List.Elements.{All-get_or}
use Rattle.std.proofs.lemmas.Nat.{div-add-mod', div_below}
use Rattle.std.proofs.lemmas.Nat.Bits.{same_from_bits_below}
use Rattle.pk_lanes.specs.Packed.{Packed, bit, lane_bit}

-- what is packed is one list
pub same_numbers : (bytes : List ℕ) (b : ℕ) (xs ys : List ℕ) → Packed bytes b xs → Packed bytes b ys → xs ≡ ys
same_numbers bytes b xs ys p q = ext_get_or 0 xs ys (p.count ∙ sym q.count) (λ i h.
    let l : i < 128 = omega (arith, p.count) in
    same_from_bits_below b (slice_index xs i) (slice_index ys i) (p.below i l) (q.below i l) (λ j k. p.bits i j l k ∙ sym (q.bits i j l k)))

-- a bit of a lane is one of the packed bits
lane_bit_of : (bytes : List ℕ) (b : ℕ) (xs : List ℕ) → Packed bytes b xs → (c q : ℕ) → c < 4 → q < 32 * b
    → lane_bit bytes c q ≡ bit (slice_index xs (4 * (q / b) + c)) (q % b)
lane_bit_of bytes b xs p c q hc hq =
    let some : 0 < b = omega arith in
    let row : q / b < 32 = div_below q b 32 some hq in
    let within : q % b < b = omega arith in
    let i = 4 * (q / b) + c in
    let lane : i % 4 ≡ c = omega arith in
    let quarter : i / 4 ≡ q / b = omega arith in
    let back : i / 4 * b + q % b ≡ q = ap (λ x. x * b + q % b) quarter ∙ div-add-mod' q b in
    sym (p.bits i (q % b) (omega arith) within ∙ ap₂ (lane_bit bytes) lane back)

lane_bit_here : (bytes : List ℕ) (p r : ℕ) → r < 8 → lane_bit bytes (p % 16 / 4) (32 * (p / 16) + 8 * (p % 4) + r) ≡ bit (slice_index bytes p) r
unfolding lane_bit
lane_bit_here bytes p r h =
    let q = 32 * (p / 16) + 8 * (p % 4) + r in
    let there : 16 * (q / 32) + 4 * (p % 16 / 4) + q % 32 / 8 ≡ p = omega arith in
    let within : q % 8 ≡ r = omega arith in
    ap₂ (λ x y. bit (slice_index bytes x) y) there within

-- numbers have one packed form
pub same_bytes : (bytes out : List ℕ) (b : ℕ) (xs : List ℕ) → Packed bytes b xs → Packed out b xs
    → ((i : ℕ) → slice_index bytes i < 256) → ((i : ℕ) → slice_index out i < 256) → bytes ≡ out
same_bytes bytes out b xs p q f g = ext_get_or 0 bytes out (p.size ∙ sym q.size) (λ i h.
    let l : i < 16 * b = omega (arith, p.size) in
    same_from_bits_below 8 (slice_index bytes i) (slice_index out i) (f i) (g i) (λ r k.
    let c : i % 16 / 4 < 4 = omega arith in
    let at : 32 * (i / 16) + 8 * (i % 4) + r < 32 * b = omega arith in
    sym (lane_bit_here bytes i r k) ∙ lane_bit_of bytes b xs p _ _ c at ∙ sym (lane_bit_of out b xs q _ _ c at) ∙ lane_bit_here out i r k))

-- each byte is below 256, and so is the 0 that is read past the end
pub byte_at : (bytes : List ℕ) → All (λ byte. byte < 256) bytes → (i : ℕ) → slice_index bytes i < 256
byte_at bytes small i = elim (cases_lt i (length bytes)) [
  | inl l ↦ All-get_or (λ byte. byte < 256) bytes i 0 l small
  | inr r ↦ omega (arith, get_or_past bytes i 0 r)
]
