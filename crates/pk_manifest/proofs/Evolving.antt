-- A file evolves to itself, and on and on; what a half claims decides itself what that is.
use Rattle.std.proofs.Common.{◌≡◌, ◌⊎◌, inl, inr, ℕ, ◌+◌, ◌<◌, ◌≤◌, ◌||◌, ◌∷◌, Bool, true, false, List, length, refl, sym, ◌∙◌, ap, arith}
use Rattle.std.proofs.lemmas.Bool.Decides.{nat_tests}
use Rattle.pk_disk.specs.Disk.{in_range}
use Rattle.pk_disk.specs.Units.{extent_bytes, start_of}
use Rattle.pk_disk.proofs.Images.{same_part}
use Rattle.pk_manifest.specs.declared.half.Half.{Half}
use Rattle.pk_manifest.specs.declared.half.Half.TheVariants.{A, B}
use Rattle.pk_manifest.specs.Bodies.{body_of, body_place, generation_of, has_open_gate}
use Rattle.pk_manifest.specs.Fields.{body_at, table_at}
use Rattle.pk_manifest.specs.Sound.{named}
use Rattle.pk_manifest.specs.Evolves.{Evolves, Keeps, WasOpen, IsNextStamp, body_in, covers, force_of, in_force, is_claimed, is_in, stamp, table_in}

pub inside_range : (at n p : ℕ) → at ≤ p → p < at + n → in_range at n p ≡ true
inside_range at n p low high = grind (arith, nat_tests)

pub at_least : (m n : ℕ) → (m ≤ n) ⊎ (n < m)
at_least m n = grind (arith, nat_tests)

or_true : (a b : Bool) → a ≡ true → (a || b) ≡ true
or_true a b is = rw is refl

true_or : (a b : Bool) → b ≡ true → (a || b) ≡ true
true_or true b is = refl
true_or false b is = is

-- the body of a half is among what it claims, and so is its table
pub of_body : (bytes : List ℕ) (half : Half) (p : ℕ) → body_place half ≤ p → p < body_place half + 8192 → is_claimed bytes half p ≡ true
unfolding is_claimed
of_body bytes half p low high = or_true (in_range (body_place half) 8192 p) (covers (table_in bytes half ∷ named (body_in bytes half)) p) (inside_range (body_place half) 8192 p low high)

pub of_table : (bytes : List ℕ) (half : Half) (p : ℕ) → start_of (table_in bytes half) ≤ p → p < start_of (table_in bytes half) + (table_in bytes half).bytes → is_claimed bytes half p ≡ true
unfolding is_claimed
of_table bytes half p low high =
    true_or (in_range (body_place half) 8192 p) (covers (table_in bytes half ∷ named (body_in bytes half)) p)
    (or_true (is_in p (table_in bytes half)) (covers (named (body_in bytes half)) p) (inside_range (start_of (table_in bytes half)) (table_in bytes half).bytes p low high))

-- so what a half claims decides itself what that is
module _ (old new : List ℕ) (half : Half) (size : length new ≡ length old) (keeps : Keeps old new half) where
  pub keeps_body : body_of new half ≡ body_of old half
  keeps_body = same_part new old (body_place half) 8192 size (λ p low high. keeps p (of_body old half p low high))

  pub keeps_table : extent_bytes new (table_in old half) ≡ extent_bytes old (table_in old half)
  keeps_table = same_part new old (start_of (table_in old half)) (table_in old half).bytes size (λ p low high. keeps p (of_table old half p low high))

  pub keeps_stamp : stamp new half ≡ stamp old half
  keeps_stamp = ap generation_of keeps_body

  pub open_kept : has_open_gate old half ≡ true → WasOpen old new half
  open_kept gate = record { gate = gate; body = keeps_body; table = keeps_table; keeps = keeps }

-- so does what a half claims whose gate was open
module _ (old new : List ℕ) (half : Half) (was : WasOpen old new half) where
  pub kept_stamp : stamp new half ≡ stamp old half
  kept_stamp = ap generation_of was.body

  same_table : extent_bytes new (table_in new half) ≡ extent_bytes old (table_in old half)
  same_table = ap (λ (b : List ℕ). extent_bytes new (table_at b)) was.body ∙ was.table

  pub kept_claims : (p : ℕ) → is_claimed new half p ≡ is_claimed old half p
  unfolding is_claimed
  kept_claims p = (λ i. in_range (body_place half) 8192 p || covers (table_at (was.body i) ∷ named (body_at (was.body i) (same_table i))) p)

  pub kept_then : (later : List ℕ) → WasOpen new later half → WasOpen old later half
  kept_then later second = record {
    gate = was.gate;
    body = second.body ∙ was.body;
    table = ap (λ (b : List ℕ). extent_bytes later (table_at b)) (sym was.body) ∙ second.table ∙ same_table;
    keeps = λ p is. second.keeps p (kept_claims p ∙ is) ∙ was.keeps p is;
  }

force_left : (b : Bool) (m n : ℕ) → m ≤ force_of true b m n
force_left true m n = grind (arith, nat_tests)
force_left false m n = omega arith

force_right : (a : Bool) (m n : ℕ) → n ≤ force_of a true m n
force_right true m n = grind (arith, nat_tests)
force_right false m n = omega arith

-- behind an open gate no generation is greater than that in force
pub open_below : (bytes : List ℕ) (half : Half) → has_open_gate bytes half ≡ true → stamp bytes half ≤ in_force bytes
unfolding in_force
open_below bytes A is = rw is (force_left (has_open_gate bytes B) (stamp bytes A) (stamp bytes B))
open_below bytes B is = rw is (force_right (has_open_gate bytes A) (stamp bytes A) (stamp bytes B))

-- A FILE EVOLVES TO ITSELF, AND ON AND ON.
pub evolves_here : (bytes : List ℕ) → Evolves bytes bytes
evolves_here bytes = record {
  size = omega arith;
  rises = omega arith;
  stamps = λ half. inl refl;
  gates = λ half is low. record { gate = is; body = refl; table = refl; keeps = λ p claimed. refl };
  told = λ told. told;
}

module _ (old mid new : List ℕ) (first : Evolves old mid) (second : Evolves mid new) where
  size_then : length old ≤ length new
  size_then = omega (arith, first.size, second.size)

  rises_then : in_force old ≤ in_force new
  rises_then = omega (arith, first.rises, second.rises)

  stamps_then : (half : Half) → (stamp new half ≡ stamp old half) ⊎ IsNextStamp old new (stamp new half)
  stamps_then half = elim (second.stamps half) [
    | inl same ↦ elim (first.stamps half) [
      | inl again ↦ inl (same ∙ again)
      | inr next ↦ inr (let above : in_force old < stamp mid half = next.0 in let below : stamp mid half ≤ in_force mid + 1 = next.1 in
          (omega (arith, same, above), omega (arith, same, below, second.rises)))
    ]
    | inr next ↦ inr (let above : in_force mid < stamp new half = next.0 in (omega (arith, above, first.rises), next.1))
  ]

  -- where a gate is open behind a generation that was there, it was open at each moment
  pub was_open : (half : Half) → has_open_gate new half ≡ true → stamp new half ≤ in_force old → WasOpen old mid half × WasOpen mid new half
  was_open half is low =
      let late : WasOpen mid new half = second.gates half is (omega (arith, low, first.rises)) in
      let same : stamp new half ≡ stamp mid half = kept_stamp mid new half late in
      let early : WasOpen old mid half = first.gates half late.gate (omega (arith, low, same)) in
      (early, late)

  gates_then : (half : Half) → has_open_gate new half ≡ true → stamp new half ≤ in_force old → WasOpen old new half
  gates_then half is low =
      let both = was_open half is low in
      kept_then old mid half both.0 new both.1

  pub evolves_then : Evolves old new
  evolves_then = record { size = size_then; rises = rises_then; stamps = stamps_then; gates = gates_then; told = λ told. second.told (first.told told) }
