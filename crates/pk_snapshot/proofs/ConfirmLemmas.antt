-- What a gate and the generation behind it, read one after the other, confirm of what was read before.
use Rattle.std.proofs.Common.{◌≡◌, inl, inr, ℕ, ◌+◌, ◌<◌, ◌≤◌, true, List, get_or, sym, ◌∙◌, ap, arith}
use Rattle.std.proofs.lemmas.Bool.{eqb-true}
use Rattle.pk_manifest.specs.declared.half.Half.{Half}
use Rattle.pk_manifest.specs.Bodies.{gate_place, has_open_gate}
use Rattle.pk_manifest.specs.Evolves.{Evolves, WasOpen, in_force, is_claimed, stamp}
use Rattle.pk_manifest.proofs.Evolving.{evolves_here, evolves_then, kept_stamp, open_below, was_open}
use Rattle.pk_snapshot.specs.Shared.{Confirms, SeenAt}
use Rattle.pk_snapshot.specs.Shown.{IsBegun}

-- WHAT IS CONFIRMED. A generation that was there before the gate was read is that behind the gate.
module _ (old new : List ℕ) (half : Half) (g : ℕ) (confirms : Confirms old new half g) where
  pub confirmed_stamp : g ≤ in_force old → stamp confirms.gate_at half ≡ g
  confirmed_stamp low = elim (confirms.between.stamps half) [
    | inl same ↦ sym same ∙ confirms.stamp_is
    | inr next ↦ absurd (let above : in_force confirms.gate_at < stamp confirms.stamp_at half = next.0 in omega (arith, above, low, confirms.since.rises, confirms.stamp_is))
  ]

  -- so from any moment on at which it was in force, what the half claims is the same
  confirmed_both : (start mid : List ℕ) → g ≤ in_force start → Evolves start mid → Evolves mid old → WasOpen start mid half × WasOpen mid confirms.gate_at half
  confirmed_both start mid low first second =
      let low_old : g ≤ in_force old = omega (arith, low, first.rises, second.rises) in
      let late : Evolves mid confirms.gate_at = evolves_then mid old confirms.gate_at second confirms.since in
      let same = confirmed_stamp low_old in
      was_open start mid confirms.gate_at first late half confirms.gate (omega (arith, low, same))

  pub confirmed : (start mid : List ℕ) → g ≤ in_force start → Evolves start mid → Evolves mid old → WasOpen start mid half
  confirmed start mid low first second = (confirmed_both start mid low first second).0

  pub confirmed_gate : (start mid : List ℕ) → g ≤ in_force start → Evolves start mid → Evolves mid old → has_open_gate mid half ≡ true
  confirmed_gate start mid low first second = (confirmed_both start mid low first second).1.gate

  -- or it is of a body that was made ready while another was in force
  pub confirmed_next : g ≤ in_force new + 1
  confirmed_next = elim (confirms.between.stamps half) [
    | inl same ↦ (let low : stamp confirms.gate_at half ≤ in_force confirms.gate_at = open_below confirms.gate_at half confirms.gate in
        omega (arith, low, same, confirms.between.rises, confirms.until.rises, confirms.stamp_is))
    | inr next ↦ (let below : stamp confirms.stamp_at half ≤ in_force confirms.stamp_at + 1 = next.1 in omega (arith, below, confirms.until.rises, confirms.stamp_is))
  ]

-- a second time the gate shows that the generation was in force
pub confirmed_again : (one two three four : List ℕ) (half : Half) (g : ℕ) → Confirms one two half g → Evolves two three → Confirms three four half g → g ≤ in_force four
confirmed_again one two three four half g first mid second =
    let late : Evolves first.stamp_at second.gate_at = evolves_then first.stamp_at three second.gate_at (evolves_then first.stamp_at two three first.until mid) second.since in
    let up : in_force second.gate_at ≤ in_force four = omega (arith, second.between.rises, second.until.rises) in
    let open_low : stamp second.gate_at half ≤ in_force second.gate_at = open_below second.gate_at half second.gate in
    elim (late.stamps half) [
      | inl same ↦ omega (arith, same, first.stamp_is, open_low, up)
      | inr next ↦ (let above : in_force first.stamp_at < stamp second.gate_at half = next.0 in
          elim (first.between.stamps half) [
            | inl same ↦ (let low : stamp first.gate_at half ≤ in_force first.gate_at = open_below first.gate_at half first.gate in
                omega (arith, low, same, first.stamp_is, first.between.rises, late.rises, up))
            | inr ready ↦ (let below : stamp first.stamp_at half ≤ in_force first.stamp_at + 1 = ready.1 in
                omega (arith, below, above, first.stamp_is, open_low, up))
          ])
    ]

-- WHERE A SNAPSHOT BEGINS: between the second time and the third.
pub begun : (start old new : List ℕ) (half : Half) (g : ℕ) → g ≤ in_force start → Evolves start old → Confirms old new half g → IsBegun start half g
begun start old new half g low after last =
    let was = confirmed old new half g last start start low (evolves_here start) after in
    let whole : Evolves start last.gate_at = evolves_then start old last.gate_at after last.since in
    let low_old : g ≤ in_force old = omega (arith, low, after.rises) in
    let same : stamp last.gate_at half ≡ g = confirmed_stamp old new half g last low_old in
    let kept = whole.gates half last.gate (omega (arith, low, same)) in
    record { gate = was.gate; stamp_is = sym (kept_stamp start last.gate_at half kept) ∙ same }

-- and what is seen of it since is what stood there
module _ (start old mid new : List ℕ) (half : Half) (g p byte : ℕ) (gate : has_open_gate start half ≡ true) (stamp_is : stamp start half ≡ g) (before : Evolves start old) (seen : SeenAt old mid p byte) (last : Confirms mid new half g) where
  low : g ≤ in_force start
  low = let below : stamp start half ≤ in_force start = open_below start half gate in omega (arith, below, stamp_is)

  since : Evolves start seen.moment
  since = evolves_then start old seen.moment before seen.since

  pub seen_claim : is_claimed start half p ≡ true → byte ≡ get_or start p 0
  seen_claim claimed = seen.is ∙ (confirmed mid new half g last start seen.moment low since seen.until).keeps p claimed

  pub seen_gate : p ≡ gate_place half → byte ≡ get_or start p 0
  seen_gate at =
      let then : has_open_gate seen.moment half ≡ true = confirmed_gate mid new half g last start seen.moment low since seen.until in
      let one : get_or seen.moment (gate_place half) 0 ≡ 167 = eqb-true _ _ then in
      let other : get_or start (gate_place half) 0 ≡ 167 = eqb-true _ _ gate in
      seen.is ∙ ap (λ (k : ℕ). get_or seen.moment k 0) at ∙ one ∙ sym other ∙ ap (λ (k : ℕ). get_or start k 0) (sym at)
