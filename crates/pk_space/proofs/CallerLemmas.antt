-- What callers of a space rest on: sets of units that are the same fit the same, and an extent that was taken is one more that is named.
use Rattle.std.proofs.Common.{◌≡◌, inl, inr, ℕ, ◌&&◌, ◌||◌, Bool, true, false, not, nat_le, nat_lt, List, ◌∷◌, ◌∙◌, ap, sym, refl}
use Rattle.std.specs.List.{list_any}
use Rattle.pk_disk.specs.Disk.{in_range}
use Rattle.pk_disk.specs.Units.{first_unit}
use Rattle.pk_disk.specs.declared.units.Extent.{Extent}
use Rattle.pk_space.specs.Free.{IsFirstFit, IsFreeRun, IsFullAt, free_at, has_unit}

module _ (free free' : ℕ → Bool) (same : (u : ℕ) → free u ≡ free' u) where
  run_same : (first n : ℕ) → IsFreeRun free first n → IsFreeRun free' first n
  run_same first n run u le lt = sym (same u) ∙ run u le lt

  run_back : (first n : ℕ) → IsFreeRun free' first n → IsFreeRun free first n
  run_back first n run u le lt = same u ∙ run u le lt

  pub first_fit_same : (n first : ℕ) → IsFirstFit free n first → IsFirstFit free' n first
  first_fit_same n first fit = record {
    run = run_same first n fit.run;
    earliest = λ f lt run. fit.earliest f lt (run_back f n run);
  }

  pub full_at_same : (n largest : ℕ) → IsFullAt free n largest → IsFullAt free' n largest
  full_at_same n largest full = record {
    shorter = full.shorter;
    longest = elim full.longest [
      | inl none ↦ inl none
      | inr found ↦ inr (found.0, run_same found.0 largest found.1)
    ];
    none_longer = λ f m more run. full.none_longer f m more (run_back f m run);
  }

and_false : (a : Bool) → (a && false) ≡ false
and_false true = refl
and_false false = refl

not_either : (a b any in_it : Bool) → (a && b && not any && not in_it) ≡ (a && b && not (in_it || any))
not_either false b any in_it = refl
not_either true false any in_it = refl
not_either true true any true = and_false (not any)
not_either true true true false = refl
not_either true true false false = refl

-- what is free after the units of an extent were taken
pub free_more : (units : ℕ) (taken : List Extent) (e : Extent) (free free' : ℕ → Bool) → ((u : ℕ) → free u ≡ free_at units taken u)
    → ((u : ℕ) → free' u ≡ (free u && not (in_range e.first e.units u))) → (u : ℕ) → free' u ≡ free_at units (e ∷ taken) u
free_more units taken e free free' is less u =
    less u ∙ ap (λ b. b && not (in_range e.first e.units u)) (is u)
    ∙ not_either (nat_le first_unit u) (nat_lt u units) (list_any (has_unit u) taken) (has_unit u e)
