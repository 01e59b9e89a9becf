-- A file that is made longer evolves.
use Rattle.std.proofs.Common.{◌≡◌, ◌⊎◌, inl, inr, ℕ, ◌+◌, ◌-◌, ◌<◌, ◌≤◌, ◌==◌, ◌++◌, true, List, length, get_or, take, drop, sym, ◌∙◌, ap, arith}
use Rattle.std.proofs.lemmas.List.{get_or_append_left, length-append}
use Rattle.pk_disk.specs.declared.units.Extent.{Extent}
use Rattle.pk_disk.specs.Units.{extent_bytes, start_of}
use Rattle.pk_manifest.specs.declared.half.Half.{Half}
use Rattle.pk_manifest.specs.declared.half.Half.TheVariants.{A, B}
use Rattle.pk_manifest.specs.Bodies.{bodies_end, body_of, body_place, gate_place, generation_of, has_open_gate, other}
use Rattle.pk_manifest.specs.Evolves.{Evolves, force_of, in_force, is_claimed, stamp, table_in}
use Rattle.pk_manifest.proofs.Ends.{same_range}
use Rattle.pk_manifest.proofs.Evolving.{of_table}
use Rattle.pk_manifest.proofs.Fields.{zero_or_not}

gate_low : (half : Half) → gate_place half < bodies_end
gate_low A = omega arith
gate_low B = omega arith

body_low : (half : Half) → body_place half + 8192 ≤ bodies_end
body_low A = omega arith
body_low B = omega arith

module _ (old more : List ℕ) (room : bodies_end ≤ length old) where
  longer : length old ≤ length (old ++ more)
  longer = omega (arith, length-append old more)

  same_byte : (p : ℕ) → p < length old → get_or (old ++ more) p 0 ≡ get_or old p 0
  same_byte p lt = get_or_append_left old more 0 p lt

  same_gate : (half : Half) → has_open_gate (old ++ more) half ≡ has_open_gate old half
  same_gate half = ap (λ (b : ℕ). b == 167) (same_byte (gate_place half) (omega (arith, gate_low half, room)))

  same_part : (at n : ℕ) → at + n ≤ length old → take n (drop at (old ++ more)) ≡ take n (drop at old)
  same_part at n fits = same_range (old ++ more) old at n (omega (arith, fits, longer)) fits (λ p low high. same_byte p (omega (arith, high, fits)))

  same_body : (half : Half) → body_of (old ++ more) half ≡ body_of old half
  same_body half = same_part (body_place half) 8192 (omega (arith, body_low half, room))

  same_stamp : (half : Half) → stamp (old ++ more) half ≡ stamp old half
  same_stamp half = ap generation_of (same_body half)

  same_force : in_force (old ++ more) ≡ in_force old
  unfolding in_force
  same_force = (λ i. force_of (same_gate A i) (same_gate B i) (same_stamp A i) (same_stamp B i))

  same_extent : (e : Extent) → (e.bytes ≡ 0) ⊎ (e.bytes ≡ 0 → ⊥) → ((p : ℕ) → start_of e ≤ p → p < start_of e + e.bytes → p < length old) → extent_bytes (old ++ more) e ≡ extent_bytes old e
  same_extent e (inl none) within = ap (λ (n : ℕ). take n (drop (start_of e) (old ++ more))) none ∙ sym (ap (λ (n : ℕ). take n (drop (start_of e) old)) none)
  same_extent e (inr some) within = same_part (start_of e) e.bytes (last (start_of e) e.bytes (length old) some within)
    where
      last : (at n size : ℕ) → (n ≡ 0 → ⊥) → ((p : ℕ) → at ≤ p → p < at + n → p < size) → at + n ≤ size
      last at n size some within =
          let below : at + n - 1 < size = within (at + n - 1) (grind (arith, some)) (grind (arith, some)) in
          omega (arith, below)

  pub longer_evolves : ((half : Half) → has_open_gate old half ≡ true → (p : ℕ) → is_claimed old half p ≡ true → p < length old) → Evolves old (old ++ more)
  longer_evolves within = record {
    size = longer;
    rises = omega (arith, same_force);
    stamps = λ half. inl (same_stamp half);
    gates = λ half is low.
        let was : has_open_gate old half ≡ true = sym (same_gate half) ∙ is in
        record {
          gate = was;
          body = same_body half;
          table = same_extent (table_in old half) (zero_or_not (table_in old half).bytes) (λ p above below. within half was p (of_table old half p above below));
          keeps = λ p claimed. same_byte p (within half was p claimed);
        };
    told = λ told half a b e. told half (sym (same_gate half) ∙ a) (sym (same_gate (other half)) ∙ b) (sym (same_stamp half) ∙ e ∙ same_stamp (other half));
  }
