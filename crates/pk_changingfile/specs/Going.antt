-- The bytes of a file that changes once.
use Rattle.std.specs.Prelude.{◌≡◌, ◌≤◌, ◌==◌, Bool, true, false, ℕ, List, length, if◌then◌else◌}
use Rattle.std.proofs.Common.{inl, inr, refl, arith}
use Rattle.std.proofs.lemmas.Bool.{cases_Bool, eqb-true}
use Rattle.std.proofs.lemmas.Bool.Decides.{nat_tests}
use Rattle.pk_manifest.specs.declared.half.Half.{Half}
use Rattle.pk_manifest.specs.Bodies.{has_open_gate}
use Rattle.pk_manifest.specs.Evolves.{AreTold, Evolves, IsNextStamp, WasOpen, in_force, stamp}
use Rattle.pk_manifest.proofs.Evolving.{evolves_here}

-- as Evolves, so that any two proofs of it are the same
pub record MayGo (old new : List ℕ) : Type 0 where
  pub size : length old ≤ length new
  pub rises : in_force old ≤ in_force new
  pub stamps : (half : Half) → (stamp new half ≡ stamp old half → ⊥)
      → IsNextStamp old new (stamp new half)
  pub gates : (half : Half) → has_open_gate new half ≡ true → stamp new half ≤ in_force old
      → WasOpen old new half
  pub told : AreTold old → AreTold new

abbrev pub content_of : Bool → List ℕ → List ℕ → List ℕ
content_of later before after = if later then after else before

-- it is the same
pub goes_on : (old new : List ℕ) → MayGo old new → Evolves old new
goes_on old new goes = record {
  size = goes.size;
  rises = goes.rises;
  stamps = λ half. elim (cases_Bool (stamp new half == stamp old half)) [
    | inl same ↦ inl (eqb-true _ _ same)
    | inr other ↦ inr (goes.stamps half (λ same. grind (arith, nat_tests, same, other)))
  ];
  gates = goes.gates;
  told = goes.told;
}

-- whatever was marked when
pub marked_evolves : (marked now : Bool) (before after : List ℕ) → MayGo before after
    → (marked ≡ true → now ≡ true)
    → Evolves (content_of marked before after) (content_of now before after)
marked_evolves true true before after goes order = evolves_here after
marked_evolves true false before after goes order = absurd (let no : false ≡ true = order refl in cc)
marked_evolves false true before after goes order = goes_on before after goes
marked_evolves false false before after goes order = evolves_here before
