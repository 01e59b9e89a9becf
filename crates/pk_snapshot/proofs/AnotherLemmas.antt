-- What is seen where a body is not the latest, and where a file changed.
use Rattle.std.proofs.Common.{◌≡◌, inl, inr, ℕ, ◌<◌, ◌==◌, Bool, false, List, Result, Ok, Err, subst, sym, arith}
use Rattle.std.proofs.Math.Logic.{∥∥₁_map}
use Rattle.std.proofs.lemmas.Bool.Decides.{nat_tests}
use Rattle.std.specs.Prelude.{IfOk}
use Rattle.pk_manifest.specs.declared.half.Half.{Half}
use Rattle.pk_manifest.specs.Bodies.{other}
use Rattle.pk_manifest.specs.Evolves.{Evolves}
use Rattle.pk_manifest.proofs.Evolving.{evolves_here}
use Rattle.pk_snapshot.specs.Another.{SawAnother}
use Rattle.pk_snapshot.specs.Changed.{SawChange}
use Rattle.pk_snapshot.specs.Seen.{SawStamp}
use Rattle.pk_snapshot.specs.Shared.{Confirms, SawOther}
use Rattle.pk_snapshot.proofs.SeenLemmas.{other_wider, stamp_wider}

-- ANOTHER BODY was seen: by its generation alone
pub another_stamp : (old mid new : List ℕ) (half : Half) (g own : ℕ) → Evolves old mid → SawStamp mid new half own → (own == g) ≡ false → SawAnother old new half g
another_stamp old mid new half g own before seen isnt =
    inl (own, λ same. grind (arith, nat_tests, isnt, same), stamp_wider old mid new new half own before seen (evolves_here new))

-- with its gate
pub another_other : {E : Type 0} (old mid new : List ℕ) (half : Half) (g : ℕ) → Evolves old mid
    → (result : Result Bool E) → IfOk result (λ is. is ≡ false → SawOther mid new half g) → IfOk result (λ is. is ≡ false → SawAnother old new half g)
another_other old mid new half g before (Ok b) given = λ isnt. inr (inl (other_wider old mid new new half g before (given isnt) (evolves_here new)))
another_other old mid new half g before (Err e) given = tt

-- in the other half
pub another_greater : (old mid new : List ℕ) (half : Half) (g seen behind : ℕ) → g < seen → SawStamp old mid (other half) seen → Confirms mid new (other half) behind → SawAnother old new half g
another_greater old mid new half g seen behind more stamp gate = inr (inr (record { seen = seen; greater = more; moment = mid; stamp = stamp; behind = behind; gate = gate }))

-- and it goes on having been seen since the bytes were marked
pub gone_on : (marked marked' old new : List ℕ) (half : Half) (g : ℕ) → marked' ≡ marked → Evolves old new → ∥ SawOther marked old half g ∥₁ → ∥ SawOther marked' new half g ∥₁
gone_on marked marked' old new half g same after seen =
    ∥∥₁_map seen (λ other. subst (λ (l : List ℕ). SawOther l new half g) (sym same) (other_wider marked marked old new half g (evolves_here marked) other after))

-- THE FILE CHANGED since a body was confirmed.
pub changed_since : (old moment mid new : List ℕ) (half : Half) (g : ℕ) → Confirms old moment half g → Evolves moment mid → SawOther mid new half g → SawChange old new
changed_since old moment mid new half g confirmed between seen = record {
  half = half;
  generation = g;
  moment = moment;
  confirmed = confirmed;
  other = other_wider moment mid new new half g between seen (evolves_here new);
}
